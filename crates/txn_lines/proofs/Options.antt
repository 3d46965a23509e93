-- Steps that read one after the other.
use Rattle.std.proofs.Common.{◌≡◌, Bool, true, false, cond, Option, Some, None, refl}
use Rattle.txn_lines.specs.Reading.{◌>>=◌}

-- the value of a step that read something
pub bind_some : {A B : Type 0} (o : Option A) (f : A → Option B) (y : B) → (o >>= f) ≡ Some y → (x : A) × (o ≡ Some x) × (f x ≡ Some y)
bind_some None f y e = absurd cc
bind_some (Some x) f y e = (x, refl, e)

-- a test that stops reading did not pass
pub guard_passed : {A : Type 0} (b : Bool) (o : Option A) (y : A) → cond b None o ≡ Some y → (b ≡ false) × (o ≡ Some y)
guard_passed true o y e = absurd cc
guard_passed false o y e = (refl, e)

-- a test that reading needs passed
pub test_passed : {A : Type 0} (b : Bool) (o : Option A) (y : A) → cond b o None ≡ Some y → (b ≡ true) × (o ≡ Some y)
test_passed true o y e = (refl, e)
test_passed false o y e = absurd cc

abbrev found : {A : Type 0} → A → Option A
found x = Some x

pub some_is : {A : Type 0} (x y : A) → found x ≡ found y → x ≡ y
some_is x y e = cc
