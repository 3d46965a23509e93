-- Whether a transaction is in doubt, and what a call of it that fails says of that.
use Rattle.std.specs.Prelude.{◌≡◌, ◌≢◌, ◌⊎◌, ◌∷◌, ◌++◌, ⊤, ℕ, Bool, true, false, List}
use Rattle.txn_kv.specs.ErrorView.{view_of}
use Rattle.txn_kv.specs.ErrorView.ErrorView.{undetermined}
use Rattle.txn_kv.specs.declared.errors.Error.{Error}
use Rattle.txn_kv.specs.declared.errors.Error.TheVariants.{DuplicateKeyInsertion, GrpcAPI, OperationAfterCommitError, Unimplemented}
use Rattle.txn_kv.specs.declared.reply.Reply.{Reply}
use Rattle.txn_kv.specs.declared.request.commits.CommitRequest.{CommitRequest}
use Rattle.txn_kv.specs.declared.request.commits.PrewriteRequest.{PrewriteRequest}
use Rattle.txn_kv.specs.declared.request.Request.TheVariants.{Commit, Prewrite}
use Rattle.txn_kv.specs.declared.ticket.Ticket.{Ticket}
use Rattle.txn_history.specs.Event.{Event, Has}
use Rattle.txn_history.specs.Event.Event.{Lost, Sent, Took}
use Rattle.txn_history.specs.Plan.{has_key}
use Rattle.txn_report.specs.declared.outcome.Outcome.{Outcome}
use Rattle.txn_report.specs.declared.outcome.Outcome.TheVariants as outcomes
use Rattle.txn_side.specs.Account.{is_undetermined}

-- a Prewrite of s was sent
abbrev pub WasWritten : ℕ → List Event → Type 0
WasWritten s h = (u : Ticket) × (r : PrewriteRequest) × Has h (Sent u (Prewrite r)) × (r.start_version ≡ s)

-- A Commit of the primary of the transaction that began at s was lost: it names what each Prewrite of s names as its primary.
pub record HasLostCommit (s : ℕ) (h : List Event) : Type 0 where
  pub ticket : Ticket
  pub commit : CommitRequest
  pub lost : Has h (Lost ticket (Commit commit))
  pub same : commit.start_version ≡ s
  pub primary : (u : Ticket) (r : PrewriteRequest) → Has h (Sent u (Prewrite r)) → r.start_version ≡ s → has_key commit.keys r.primary_lock ≡ true

-- and no reply to it was taken, so it may have been done
pub record IsInDoubt (s : ℕ) (h : List Event) : Type 0 where
  pub written : WasWritten s h
  pub left : HasLostCommit s h
  pub untaken : (o : Reply) → Has h (Took left.ticket (Commit left.commit) o) → ⊥

-- The ticket is that of the first such Commit of which no reply was taken: of each other that was lost before, one was.
pub record IsFirstLostUntaken (s : ℕ) (h : List Event) (ticket : Ticket) : Type 0 where
  pub commit : CommitRequest
  pub newer : List Event
  pub older : List Event
  pub splits : h ≡ newer ++ Lost ticket (Commit commit) ∷ older
  pub same : commit.start_version ≡ s
  pub primary : (u : Ticket) (r : PrewriteRequest) → Has h (Sent u (Prewrite r)) → r.start_version ≡ s → has_key commit.keys r.primary_lock ≡ true
  pub first : WasWritten s older → (l : HasLostCommit s older) → l.ticket ≢ ticket → (o : Reply) × Has older (Took l.ticket (Commit l.commit) o)

-- the error says that it is not known whether the transaction is committed, since that one was lost
pub record NamesFirst (s : ℕ) (h : List Event) (e : Error) : Type 0 where
  pub ticket : Ticket
  pub error : view_of e ≡ undetermined (view_of (GrpcAPI ticket))
  pub first : IsFirstLostUntaken s h ticket

-- with these a line is refused by how far its transaction has come, and by what it has written
abbrev pub IsRefusal : Error → Type 0
IsRefusal OperationAfterCommitError = ⊤
IsRefusal Unimplemented = ⊤
IsRefusal DuplicateKeyInsertion = ⊤
IsRefusal _ = ⊥

-- The error says that the transaction that began at s is in doubt where it is, and only where a Commit of its primary was lost; and the
-- one of a call that does not commit it names the first of these.
pub record SaysWhether (h : List Event) (s : ℕ) (commits : Bool) (e : Error) : Type 0 where
  pub always : IsInDoubt s h → is_undetermined e ≡ true
  pub only : is_undetermined e ≡ true → HasLostCommit s h
  pub names : commits ≡ false → is_undetermined e ≡ true → NamesFirst s h e

-- so it does, or the line was refused
abbrev pub SaysDoubt : List Event → ℕ → Bool → Error → Type 0
SaysDoubt h s commits e = IsRefusal e ⊎ SaysWhether h s commits e

-- so does what a call answered, if it failed
abbrev pub TellsDoubt : List Event → ℕ → Bool → Outcome → Type 0
TellsDoubt h s commits (outcomes.Err e) = SaysDoubt h s commits e
TellsDoubt h s commits o = ⊤

-- Where it stands of what a line's call answers, and whether the call commits that.
pub record CallOf : Type 0 where
  pub at : ℕ
  pub commits : Bool

-- at the line itself, which is no call of a transaction
abbrev pub itself : ℕ → CallOf
itself n = record { at = n; commits = false }
