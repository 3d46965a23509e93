-- What stays as it was where clients lend a heartbeat what it needs.
use Rattle.std.specs.Prelude.{◌≡◌, ℕ, List}
use Rattle.txn_history.specs.Event.{Event}
use Rattle.txn_report.specs.declared.outcome.Outcome.{Outcome}
use Rattle.txn_side.specs.Account.{Account}
use Rattle.txn_side.specs.Arising.{StillArises}
use Rattle.txn_side.specs.Sight.{Sight}
use Rattle.txn_side.specs.Trace.{StillRests, Trace}
use Rattle.txn_side.specs.Waiting.{Awaited}

-- All that a machine sees of clients stays: what they look like, what they wait for, their accounts, what they rest on, and what they can
-- have arisen from.
pub record StaysSo {S : Type 0} (sight : S → Sight) (waits : S → ℕ → Awaited → Type 0) (account : S → ℕ → Account) (rests : S → Trace → Type 0) (arises : S → List Event → Type 0) (holds : S → List Event → ℕ → Outcome → Type 0) (old new : S) : Type 0 where
  pub sight_is : sight new ≡ sight old
  pub waits_so : (n : ℕ) (a : Awaited) → waits new n a → waits old n a
  pub accounts : (n : ℕ) → account new n ≡ account old n
  pub rests_so : StillRests (rests old) (rests new)
  pub arises_so : StillArises (arises old) (arises new) (holds old) (holds new)
