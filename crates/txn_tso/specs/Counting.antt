-- How many asks a call to the placement driver makes, and how many it has left. Its requests to the placement driver are not
-- counted here.
use Rattle.std.specs.Prelude.{ℕ, Bool, true, false, Result, Ok, Err}
use Rattle.txn_kv.specs.declared.errors.Error.{Error}
use Rattle.txn_kv.specs.declared.errors.Error.TheVariants.{GrpcAPI}
use Rattle.txn_kv.specs.declared.query.PdAnswer.{PdAnswer}
use Rattle.txn_kv.specs.declared.query.PdQuery.{PdQuery}
use Rattle.txn_kv.specs.declared.query.PdQuery.TheVariants.{Time}
use Rattle.txn_history.specs.Posted.{Posted}
use Rattle.txn_history.specs.Spends.{Spends}
use Rattle.txn_history.specs.Turn.{Turn, failing}
use Rattle.txn_history.specs.Turn.Turn.{Stopped}
use Rattle.txn_tso.specs.declared.pd_call.PdCall.{PdCall}
use Rattle.txn_tso.specs.declared.stage.Stage.{Stage}
use Rattle.txn_tso.specs.declared.stage.Stage.TheVariants as stage

-- one try is one ask, where a timestamp is queried
abbrev pub asks_of : PdQuery → ℕ
asks_of Time = 1
asks_of _ = 0

-- a try that is out was counted when it went; one that is still to go is left
abbrev pub left_at : PdQuery → Stage → ℕ
left_at q stage.Fresh = asks_of q
left_at q (stage.Sent n) = 0
left_at q (stage.Asked n) = 0
left_at q (stage.Reconnecting n lost) = asks_of q
left_at q (stage.Resting n lost) = asks_of q
left_at q stage.Over = 0
left_at q stage.Stopped = 0

abbrev pub call_round : PdCall → ℕ → ℕ
call_round s n = asks_of s.query

abbrev pub call_left : PdCall → ℕ → ℕ
call_left s n = left_at s.query s.stage

abbrev pub call_bears : PdCall → ℕ → Type 0
call_bears s w = Unit {0}

-- a run of the whole plan may better a loss, and no other failure
abbrev pub is_loss : Result PdAnswer Error → Bool
is_loss (Ok a) = false
is_loss (Err (GrpcAPI t)) = true
is_loss (Err _) = false

abbrev pub is_kept : {A : Type 0} → Turn A → Bool
is_kept Stopped = false
is_kept _ = true

-- The asks of one event, which is `bad` where it is a loss or a refused ask. No locks come, and nothing is cut.
abbrev pub CallSpends : PdCall → PdCall → Bool → Posted → Posted → Turn (Result PdAnswer Error) → Type 0
CallSpends old new bad from to turn =
    Spends (call_bears old) (call_bears new) (call_left old) (call_left new) (call_round old) bad bad 0 0 0 0 from to (is_kept turn) (failing is_loss turn)
