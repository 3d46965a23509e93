-- What the machine's transactions have done that their requests rest on: the events are a run of the law.
use Rattle.std.specs.Prelude.{◌≡◌, ◌≢◌, ℕ, Bool, true, false, ◌||◌, List, Option, Some, None}
use Rattle.txn_kv.specs.declared.ticket.Ticket.{Ticket}
use Rattle.txn_kv.specs.declared.request.commits.CommitRequest.{CommitRequest}
use Rattle.txn_kv.specs.declared.request.Request.TheVariants.{Commit}
use Rattle.txn_history.specs.Event.{Event, Has}
use Rattle.txn_history.specs.Event.Event.{Sent}
use Rattle.txn_history.specs.Licence.{WasGiven, PrimaryCommitted}
use Rattle.txn_history.specs.Plan.{Key}
use Rattle.txn_law.specs.Lone.{lone_plan}
use Rattle.txn_law.specs.Run.{IsRun}
use Rattle.txn_report.specs.declared.outcome.Outcome.{Outcome}
use Rattle.txn_report.specs.declared.outcome.Outcome.TheVariants.{Ok}
use Rattle.txn_report.specs.declared.outcome.Payload.TheVariants.{Commit as Committed_at}
use Rattle.txn_first.specs.declared.transaction.Transaction.{Transaction}
use Rattle.txn_first.specs.declared.transaction.Put.{Put}
use Rattle.txn_first.specs.declared.transaction.CommitCall.{CommitCall}
use Rattle.txn_first.specs.declared.transaction.Stage.{Stage}
use Rattle.txn_first.specs.declared.transaction.Stage.TheVariants.{FindingRegion, FindingStore, Prewriting, Stamping, Committing}
use Rattle.txn_first.specs.declared.transaction.Status.{Status}
use Rattle.txn_first.specs.declared.transaction.Status.TheVariants.{Active, StartedCommit, Committed}
use Rattle.txn_first.specs.declared.machine.Row.{Row}
use Rattle.txn_first.specs.declared.machine.Row.TheVariants.{Running}
use Rattle.txn_first.specs.Lists.{row_at}
use Rattle.txn_first.specs.Script.{outcome_of}

-- a transaction that has begun to commit writes v to k, if it writes
abbrev pub Agrees : List Row → Key → List ℕ → Type 0
Agrees rows k v = (x : ℕ) (t : Transaction) (p : Put) → row_at rows x ≡ Some (Running t) → t.put ≡ Some p → t.status ≢ Active → (p.key ≡ k) × (p.value ≡ v)

abbrev pub is_last : Stage → Bool
is_last FindingRegion = false
is_last (FindingStore place) = false
is_last (Prewriting place) = false
is_last (Stamping place) = false
is_last (Committing place c) = true

abbrev pub is_committing : Option CommitCall → Bool
is_committing None = false
is_committing (Some call) = is_last call.stage

abbrev pub is_committed : Status → Bool
is_committed Active = false
is_committed StartedCommit = false
is_committed Committed = true

-- a transaction that has sent its Commit
abbrev pub has_committed : Transaction → Bool
has_committed t = is_committing t.call || is_committed t.status

-- a transaction was committed at c, as its client was told
pub record WasCommitted (es : List Event) (rows : List Row) (c : ℕ) : Type 0 where
  pub x : ℕ
  pub t : Transaction
  pub put : Put
  pub running : row_at rows x ≡ Some (Running t)
  pub puts : t.put ≡ Some put
  pub over : t.status ≡ Committed
  pub told : PrimaryCommitted (lone_plan put.key put.value) es t.start c

pub record Licensed (es : List Event) (rows : List Row) (outs : List Outcome) : Type 0 where
  -- whatever is still to be written
  pub run : (k : Key) (v : List ℕ) → Agrees rows k v → IsRun (λ s. lone_plan k v) es
  pub given : (x : ℕ) (t : Transaction) → row_at rows x ≡ Some (Running t) → WasGiven es t.start
  -- whoever sent a Commit has sent it still
  pub owned : (u : Ticket) (r : CommitRequest) → Has es (Sent u (Commit r)) → (x : ℕ) × (t : Transaction) × (row_at rows x ≡ Some (Running t)) × (has_committed t ≡ true)
  pub answered : (n c : ℕ) → outcome_of outs n ≡ Ok (Committed_at (Some c)) → WasCommitted es rows c
