-- What a transaction may send while it commits or rolls back.
use Rattle.std.specs.Prelude.{◌≡◌, ◌≢◌, ◌⊎◌, ℕ, true, false, if◌then◌else◌, List, [], ◌∷◌, Option, Some, None, Ok}
use Rattle.txn_kv.specs.Timestamp.{version_of}
use Rattle.txn_kv.specs.declared.message.Mutation.{Mutation}
use Rattle.txn_kv.specs.declared.message.Op.{Op}
use Rattle.txn_kv.specs.declared.request.commits.CommitRequest.{CommitRequest}
use Rattle.txn_kv.specs.declared.request.Request.{Request}
use Rattle.txn_kv.specs.declared.request.Request.TheVariants.{Prewrite, Commit, BatchRollback}
use Rattle.txn_kv.specs.declared.ticket.Ticket.{Ticket}
use Rattle.txn_kv.specs.declared.timestamp.Timestamp.{Timestamp}
use Rattle.txn_history.specs.Event.{Event, Has}
use Rattle.txn_history.specs.Event.Event.{Answered}
use Rattle.txn_history.specs.Foreign.{IsForeign}
use Rattle.txn_history.specs.Licence.{AllAcknowledged, BatchRollbackLicence, PrewriteLicence, PrimaryCommitted, WantedAfter, WasNamed}
use Rattle.txn_history.specs.Plan.{Key, key_eq, has_key, Content, content_of, Plan}
use Rattle.txn_history.specs.Plan.Way.{TwoPhases}
use Rattle.txn_commit.specs.declared.commit_parts.CommitParts.{CommitParts}

-- What the transaction means to write

-- what a key is locked with: the first mutation of it counts
abbrev pub content_at : List Mutation → Key → Option Content
content_at [] key = None
content_at (m ∷ ms) key = if key_eq m.key key then content_of m else content_at ms key

-- and with which op it is prewritten
abbrev pub op_at : List Mutation → Key → Option Op
op_at [] key = None
op_at (m ∷ ms) key = if key_eq m.key key then Some m.op else op_at ms key

abbrev pub plan_of : CommitParts → Plan
plan_of parts = record { primary = parts.primary; ops = op_at parts.mutations; writes = content_at parts.mutations; way = TwoPhases; one_phase = false }

-- What may be sent

-- Every key that is written was acknowledged before the timestamp was asked for; this is what that ask was answered; and each
-- Commit of the primary that was sent names it.
pub record PrimaryMayGo (plan : Plan) (h : List Event) (s c : ℕ) : Type 0 where
  pub ready : AllAcknowledged plan h s
  pub ask : Ticket
  pub time : Timestamp
  pub wanted : WantedAfter plan h s ask
  pub answered : Has h (Answered ask (Ok time))
  pub at : version_of time ≡ c
  pub same : (d : ℕ) → WasNamed plan h s d → d ≡ c

abbrev pub CommitMayGo : Plan → List Event → CommitRequest → Type 0
CommitMayGo plan h r = (k : Key) → has_key r.keys k ≡ true
    → ((k ≡ plan.primary) × PrimaryMayGo plan h r.start_version r.commit_version) ⊎ ((k ≢ plan.primary) × PrimaryCommitted plan h r.start_version r.commit_version)

-- Of its own start it sends what the licences allow under its plan, Commits in two phases alone. What it sends besides, to find
-- its way or to settle a lock that it met, rests on no plan: it asks for no pessimistic lock, and destroys no range.
abbrev pub MaySend : Plan → ℕ → List Event → Request → Type 0
MaySend plan s h (Prewrite r) = (r.start_version ≡ s) × PrewriteLicence plan h r
MaySend plan s h (Commit r) = (r.start_version ≡ s) × (plan.way ≡ TwoPhases) × CommitMayGo plan h r
MaySend plan s h (BatchRollback r) = (r.start_version ≡ s) × BatchRollbackLicence plan h r
MaySend plan s h r = IsForeign h r

-- The job behind a commit sends the like, but no Commit that names the primary.

abbrev pub NamesNoPrimary : Plan → Request → Type 0
NamesNoPrimary plan r = (q : CommitRequest) → r ≡ Commit q → has_key q.keys plan.primary ≡ true → ⊥

pub record MaySendBehind (plan : Plan) (s : ℕ) (h : List Event) (r : Request) : Type 0 where
  pub may : MaySend plan s h r
  pub others : NamesNoPrimary plan r
