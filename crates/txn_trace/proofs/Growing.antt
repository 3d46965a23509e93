-- An event that sends nothing needs no licence.
use Rattle.std.proofs.Common.{ℕ, List, ◌∷◌}
use Rattle.txn_history.specs.Event.{Event}
use Rattle.txn_history.specs.Event.Event.{Sent}
use Rattle.txn_history.specs.Plan.{Plan}
use Rattle.txn_law.specs.Run.{IsAllowed, IsPossible, IsRun}
use Rattle.txn_trace.specs.Posting.{SendsNothing}

unsent_allowed : (plans : ℕ → Plan) (h : List Event) (e : Event) → SendsNothing e → IsAllowed plans h e
unsent_allowed plans h (Sent t r) n = absurd n
unsent_allowed plans h _ n = tt

pub unsent_runs : (plans : ℕ → Plan) (h : List Event) → IsRun plans h → (e : Event) → SendsNothing e → IsPossible h e → IsRun plans (e ∷ h)
unsent_runs plans h run e n p = (p, unsent_allowed plans h e n, run)
