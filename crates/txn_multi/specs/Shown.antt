-- What an answer of a plan shows of its failures.
use Rattle.std.specs.Prelude.{◌≡◌, ◌≤◌, true, is_some, Option, Some}
use Rattle.std.proofs.Common.{ap}
use Rattle.std.proofs.Math.Nat.{le-add_right}

-- lemmas

pub shown_at : {A : Type 0} {o : Option A} {x : A} → o ≡ Some x → is_some o ≡ true
shown_at e = ap is_some e

pub none_is_few : 0 ≤ 1
none_is_few = le-add_right 0 1
