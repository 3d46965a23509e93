-- A call of a transaction fails with an error that says exactly whether a Commit of its primary was lost. Lines stand here with the newest first.
use Rattle.std.specs.Prelude.{◌≡◌, ◌∷◌, ◌++◌, ℕ, true, List, Some}
use Rattle.txn_kv.specs.ErrorView.{view_of}
use Rattle.txn_kv.specs.ErrorView.ErrorView.{undetermined}
use Rattle.txn_kv.specs.declared.errors.Error.{Error}
use Rattle.txn_kv.specs.declared.errors.Error.TheVariants.{GrpcAPI}
use Rattle.txn_kv.specs.declared.request.commits.CommitRequest.{CommitRequest}
use Rattle.txn_kv.specs.declared.request.commits.PrewriteRequest.{PrewriteRequest}
use Rattle.txn_kv.specs.declared.request.Request.TheVariants.{Commit, Prewrite}
use Rattle.txn_kv.specs.declared.ticket.Ticket.{Ticket}
use Rattle.txn_history.specs.Event.{Event, Has}
use Rattle.txn_history.specs.Event.Event.{Lost, Sent}
use Rattle.txn_history.specs.Plan.{has_key}
use Rattle.txn_lines.specs.Lines.{line_at}
use Rattle.txn_lines.specs.declared.line.Line.{Line}
use Rattle.txn_lines.specs.declared.line.Line.TheVariants.{Rollback}
use Rattle.txn_machine.specs.Failing.{AllCausesMeet}
use Rattle.txn_report.specs.declared.report.Report.{Report}
use Rattle.txn_side.specs.Account.{is_undetermined}
use Rattle.txn_side.specs.Doubt.{HasLostCommit, WasWritten}
use Rattle.txn_side.specs.Trace.{IsCalled}
use Rattle.txn_run.specs.Caused.{trace_at}
use Rattle.txn_run.specs.Whole.{BeganAt}

-- The ticket is that of the first Commit of the primary that was lost, of the transaction that began at s: no other was lost before.
pub record IsLostFirst (s : ℕ) (h : List Event) (ticket : Ticket) : Type 0 where
  pub commit : CommitRequest
  pub newer : List Event
  pub older : List Event
  pub splits : h ≡ newer ++ Lost ticket (Commit commit) ∷ older
  pub same : commit.start_version ≡ s
  pub primary : (u : Ticket) (r : PrewriteRequest) → Has h (Sent u (Prewrite r)) → r.start_version ≡ s → has_key commit.keys r.primary_lock ≡ true
  pub first : WasWritten s older → (l : HasLostCommit s older) → l.ticket ≡ ticket

-- the error names it
pub record NamesLost (s : ℕ) (h : List Event) (e : Error) : Type 0 where
  pub ticket : Ticket
  pub error : view_of e ≡ undetermined (view_of (GrpcAPI ticket))
  pub first : IsLostFirst s h ticket

-- The error says so where a Commit of the primary of the transaction that began at s was lost, and only there; and of a line that `rolls`
-- back it names the first that was.
pub record TellsWhether (h : List Event) (s : ℕ) (rolls : Type 0) (e : Error) : Type 0 where
  pub always : WasWritten s h → HasLostCommit s h → is_undetermined e ≡ true
  pub only : is_undetermined e ≡ true → HasLostCommit s h
  pub names : rolls → is_undetermined e ≡ true → NamesLost s h e

-- The error of line n says that the transaction of which the line asks something is in doubt, where a Commit of its primary was lost in the
-- line in whose step the outcome came, or before it; and it says so nowhere else.
abbrev pub TellsOfDoubt : List Line → Report → ℕ → Error → Type 0
TellsOfDoubt script report n e = (x s : ℕ) → BeganAt script report x s → IsCalled (trace_at script report n) n x → TellsWhether (trace_at script report n).events s (line_at script n ≡ Some (Rollback x)) e

-- so of each line that fails, if its account does not refuse it
abbrev pub AreToldOfDoubt : List Line → Report → Type 0
AreToldOfDoubt script report = AllCausesMeet (λ n e. TellsOfDoubt script report n e) report.outcomes report.ended script
