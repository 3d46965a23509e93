-- What a call's answer says of its transaction is right.
use Rattle.std.specs.Prelude.{◌≢◌, ℕ, Bool, List}
use Rattle.txn_history.specs.Event.{Event}
use Rattle.txn_report.specs.declared.outcome.Outcome.{Outcome}
use Rattle.txn_report.specs.declared.outcome.Outcome.TheVariants.{Ok}
use Rattle.txn_report.specs.declared.outcome.Payload.TheVariants.{Number}
use Rattle.txn_side.specs.Doubt.{CallOf, TellsDoubt}

-- After this history a call of the transaction that began at s, which commits it or not, answers so. A field for each subject.
pub record SaysRight (h : List Event) (s : ℕ) (commits : Bool) (o : Outcome) : Type 0 where
  -- an error says that the transaction is in doubt where it is, and only there
  pub doubt : TellsDoubt h s commits o

-- The call of line n answered so of the transaction that stands there, by what was answered of it before. A line that stands for itself
-- calls none.
abbrev pub SpeaksOf : (ℕ → Outcome → Type 0) → List Event → CallOf → ℕ → Outcome → Type 0
SpeaksOf held h call n o = call.at ≢ n → (s : ℕ) → held call.at (Ok (Number s)) → SaysRight h s call.commits o
