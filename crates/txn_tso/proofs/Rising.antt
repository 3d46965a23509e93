-- The answers to a group keep its order, rise, and are in range.
use Rattle.std.proofs.Common.{◌≡◌, ℕ, ◌+◌, ◌-◌, ◌^◌, ◌<◌, ◌≤◌, Bool, true, false, List, [], ◌∷◌, length, map, drop, get_or, refl, ap, subst, suc, ◌∙◌, arith}
use Rattle.std.proofs.Math.Seq.{drop-cons}
use Rattle.std.proofs.lemmas.List.{length-drop}
use Rattle.std.proofs.lemmas.List.Elements.{All-cons, All-nil}
use Rattle.std.specs.Prelude.{IfOk, ℤ, pos, negsuc, ◌-ℤ◌, unsigned_abs, int_le, int_lt, if◌then◌else◌, Option, Some, None, Ok, Err}
use Rattle.std.specs.List.{All}
use Rattle.std.proofs.lemmas.Int.{ints}
use Rattle.txn_kv.specs.declared.reply.cluster.TsoResponse.{TsoResponse}
use Rattle.txn_kv.specs.declared.timestamp.Timestamp.{Timestamp}
use Rattle.txn_kv.specs.declared.errors.Error.TheVariants.{InternalError}
use Rattle.txn_kv.specs.declared.errors.Internal.TheVariants.{OracleCount, OracleEmpty}
use Rattle.txn_kv.specs.Timestamp.{HasVersion}
use Rattle.txn_tso.specs.Oracle.{answer, answers, granted, granted_if, has_version, is_unlike, IsBelow, AreRising, HasVersionIfOk, Answer}
use Rattle.txn_tso.specs.declared.asker.Asker.{Asker}

pub answers-order : (x : TsoResponse) (n : ℕ) (g : List Asker) → map (λ (a : Answer). a.0) (answers x n g) ≡ g
answers-order x n [] = refl
answers-order x n (a ∷ g) = ap (λ (r : List Asker). a ∷ r) (answers-order x n g)

-- one asker more is answered
pub answers-step : (x : TsoResponse) (n i : ℕ) (g : List Asker) (d : Asker) → i < length g → answers x n (drop i g) ≡ (get_or g i d, answer x n (length g - (i + 1))) ∷ answers x n (drop (i + 1) g)
answers-step x n i g d w =
    let one : suc i ≡ i + 1 = omega arith in
    let first : drop i g ≡ get_or g i d ∷ drop (i + 1) g = subst (λ (k : ℕ). drop i g ≡ get_or g i d ∷ drop k g) one (drop-cons g i d w) in
    ap (answers x n) first ∙ ap (λ (k : ℕ). (get_or g i d, answer x n k) ∷ answers x n (drop (i + 1) g)) (length-drop (i + 1) g)

lower : (m n a b : ℕ) → n ≤ m + 1 → b < a → a < n → unsigned_abs (pos m -ℤ pos a) < unsigned_abs (pos m -ℤ pos b)
lower m n a b high more le = omega (arith, ints, high, more, le)

lower_at : (l : ℤ) (n a b : ℕ) → int_lt l (pos n -ℤ pos 1) ≡ false → int_le (pos 0) l ≡ true → b < a → a < n → unsigned_abs (l -ℤ pos a) < unsigned_abs (l -ℤ pos b)
lower_at (pos m) n a b high low more le = lower m n a b (omega (arith, ints, high)) more le
lower_at (negsuc m) n a b high low more le = absurd (omega (arith, ints, low))

-- of two asks of a group the one with more behind it gets the lower timestamp
below_unless : (u : Bool) (last : Timestamp) (c n a b : ℕ) → has_version last ≡ true → is_unlike last c n ≡ u → b < a → a < n
    → IsBelow (if u then Err (InternalError (OracleCount n c)) else Ok (record last { logical = last.logical -ℤ pos a })) (if u then Err (InternalError (OracleCount n c)) else Ok (record last { logical = last.logical -ℤ pos b }))
below_unless true last c n a b has like more le = tt
below_unless false last c n a b has like more le = let l = lower_at last.logical n a b (grind arith) (grind arith) more le in omega (arith, l)

below_if : (v : Bool) (last : Timestamp) (c n a b : ℕ) → has_version last ≡ v → b < a → a < n
    → IsBelow (if v then granted last c n a else Err (InternalError OracleEmpty)) (if v then granted last c n b else Err (InternalError OracleEmpty))
below_if true last c n a b has more le = below_unless (is_unlike last c n) last c n a b has refl more le
below_if false last c n a b has more le = tt

below : (t : Option Timestamp) (c n a b : ℕ) → b < a → a < n → IsBelow (granted_if t c n a) (granted_if t c n b)
below None c n a b more le = tt
below (Some last) c n a b more le = below_if (has_version last) last c n a b refl more le

below_all : (x : TsoResponse) (n a : ℕ) → a < n → (g : List Asker) → length g ≤ a → All (λ (b : Answer). IsBelow (answer x n a) b.1) (answers x n g)
below_all x n a le [] small = All-nil (λ (d : Answer). IsBelow (answer x n a) d.1)
below_all x n a le (b ∷ g) small = All-cons (λ (d : Answer). IsBelow (answer x n a) d.1) (b, answer x n (length g)) (answers x n g) (below x.timestamp x.count n a (length g) (omega (arith, small)) le) (below_all x n a le g (omega (arith, small)))

pub answers-rise : (x : TsoResponse) (n : ℕ) (g : List Asker) → length g ≤ n → AreRising (answers x n g)
answers-rise x n [] small = tt
answers-rise x n (a ∷ g) small = (below_all x n (length g) (omega (arith, small)) g (omega arith), answers-rise x n g (omega (arith, small)))

in_range_unless : (u : Bool) (last : Timestamp) (c n b : ℕ) → has_version last ≡ true → is_unlike last c n ≡ u → b < n
    → IfOk (if u then Err (InternalError (OracleCount n c)) else Ok (record last { logical = last.logical -ℤ pos b })) HasVersion
in_range_unless true last c n b has like small = tt
in_range_unless false last c n b has like small =
    let p0 : int_le (pos 0) last.physical ≡ true = grind arith in
    let p1 : int_lt last.physical (pos (2 ^ 46)) ≡ true = grind arith in
    let l0 : int_le (pos 0) last.logical ≡ true = grind arith in
    let l1 : int_lt last.logical (pos (2 ^ 18)) ≡ true = grind arith in
    let m : int_lt last.logical (pos n -ℤ pos 1) ≡ false = grind arith in
    record {
      physical = omega (arith, ints, p0);
      physical_bits = omega (arith, ints, p1);
      logical = omega (arith, ints, l0, m, small);
      logical_bits = omega (arith, ints, l0, l1);
    }

in_range_if : (v : Bool) (last : Timestamp) (c n b : ℕ) → has_version last ≡ v → b < n
    → IfOk (if v then granted last c n b else Err (InternalError OracleEmpty)) HasVersion
in_range_if true last c n b has small = in_range_unless (is_unlike last c n) last c n b has refl small
in_range_if false last c n b has small = tt

in_range : (t : Option Timestamp) (c n b : ℕ) → b < n → IfOk (granted_if t c n b) HasVersion
in_range None c n b small = tt
in_range (Some last) c n b small = in_range_if (has_version last) last c n b refl small

pub answers-in_range : (x : TsoResponse) (n : ℕ) (g : List Asker) → length g ≤ n → All HasVersionIfOk (answers x n g)
answers-in_range x n [] small = All-nil HasVersionIfOk
answers-in_range x n (a ∷ g) small = All-cons HasVersionIfOk (a, answer x n (length g)) (answers x n g) (in_range x.timestamp x.count n (length g) (omega (arith, small))) (answers-in_range x n g (omega (arith, small)))
