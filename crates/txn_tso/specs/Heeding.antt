-- What a call to the placement driver waits for.
use Rattle.std.specs.Prelude.{◌≡◌, ℕ, ◌+◌, Bool, true, false, nat_eq, Result}
use Rattle.txn_kv.specs.declared.errors.Error.{Error}
use Rattle.txn_kv.specs.declared.query.PdAnswer.{PdAnswer}
use Rattle.txn_history.specs.Heeds.{Heeds}
use Rattle.txn_history.specs.Posted.{Posted}
use Rattle.txn_history.specs.Turn.{Turn}
use Rattle.txn_tso.specs.Steps.{Standing}
use Rattle.txn_tso.specs.declared.stage.Stage.{Stage}
use Rattle.txn_tso.specs.declared.stage.Stage.TheVariants as stage

abbrev pub hears_start : Stage → Bool
hears_start stage.Fresh = true
hears_start _ = false

-- a reply to the request of this number, or that it was lost
abbrev pub hears_reply : Stage → ℕ → Bool
hears_reply (stage.Sent k) n = nat_eq k n
hears_reply (stage.Reconnecting k lost) n = nat_eq k n
hears_reply _ n = false

abbrev pub hears_waking : Stage → ℕ → Bool
hears_waking (stage.Resting k lost) n = nat_eq k n
hears_waking _ n = false

abbrev pub hears_answer : Stage → ℕ → Bool
hears_answer (stage.Asked k) n = nat_eq k n
hears_answer _ n = false

-- it waits for what was posted last
abbrev pub IsOut : Stage → Posted → Type 0
IsOut (stage.Sent n) o = o.next ≡ n + 1
IsOut (stage.Asked n) o = o.next_ask ≡ n + 1
IsOut (stage.Reconnecting n lost) o = o.next ≡ n + 1
IsOut (stage.Resting n lost) o = o.next ≡ n + 1
IsOut _ o = ⊥

-- from the first standing to the second, by an event that the call heard or did not
abbrev pub CallHeeds : Bool → Standing → Turn (Result PdAnswer Error) → Standing → Type 0
CallHeeds hears x turn y =
    Heeds hears (x.call.stage ≡ stage.Over) (x.call.stage ≡ stage.Stopped) (y ≡ x) (y.call.stage ≡ stage.Over) (y.call.stage ≡ stage.Stopped) (IsOut y.call.stage y.out) turn
