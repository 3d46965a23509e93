-- Why calls fail: by what had come to them, of which the report tells.
use Rattle.std.specs.Prelude.{if◌then◌else◌, ◌≡◌, ◌⊎◌, ℕ, false, List}
use Rattle.std.proofs.Common.{suc}
use Rattle.txn_kv.specs.ErrorView.{view_of}
use Rattle.txn_kv.specs.ErrorView.ErrorView.{undetermined}
use Rattle.txn_kv.specs.declared.errors.Error.{Error}
use Rattle.txn_kv.specs.declared.errors.Error.TheVariants.{GrpcAPI}
use Rattle.txn_kv.specs.declared.request.commits.CommitRequest.{CommitRequest}
use Rattle.txn_kv.specs.declared.request.Request.TheVariants.{Commit}
use Rattle.txn_kv.specs.declared.ticket.Ticket.{Ticket}
use Rattle.txn_history.specs.Among.{IsAmong}
use Rattle.txn_history.specs.Event.{Has}
use Rattle.txn_history.specs.Event.Event.{Took, Lost}
use Rattle.txn_causes.specs.Causes.{HasCause}
use Rattle.txn_causes.specs.Heard.{Heard}
use Rattle.txn_causes.specs.Kinds.{IsOfKind}
use Rattle.txn_causes.specs.Heard.Heard.{TookReply, WasLost}
use Rattle.txn_causes.specs.Spent.{IsSpent}
use Rattle.txn_clients.specs.Want.{wants_memory}
use Rattle.txn_lines.specs.declared.begin_options.BeginOptions.{BeginOptions}
use Rattle.txn_lines.specs.declared.line.Line.{Line}
use Rattle.txn_machine.specs.Causes.{ended_of, lines_before}
use Rattle.txn_machine.specs.Failing.{AllCausesMeet, trace_of}
use Rattle.txn_report.specs.declared.report.Report.{Report}
use Rattle.txn_side.specs.Trace.{HasRefused, IsBegunAs, IsCalled, IsFrom, IsRefusedNow, Trace}

-- What had come to line n: replies to requests of its own, not of its heartbeat, each of its request's kind, and losses of these.
abbrev pub HeardBy : Trace → ℕ → Heard → Type 0
HeardBy t n (TookReply u r o) = IsFrom n u × Has t.events (Took u r o) × IsOfKind r o
HeardBy t n (WasLost u r) = IsFrom n u × Has t.events (Lost u r)

-- How often requests of a transaction at regions are tried again, by the words of the line that began it.
abbrev pub attempts_of : BeginOptions → ℕ
attempts_of options = if options.no_regions then 0 else 10

-- More of them failed than that, for line n: they were lost, or refused for their region.
abbrev pub IsSpentFor : Trace → ℕ → ℕ → Type 0
IsSpentFor t at n = (options : BeginOptions) × IsBegunAs t at options × IsSpent (HeardBy t n) (attempts_of options)

-- Ten asks of the line for a timestamp were refused, each at a place of its own among those that a request for timestamps carried, which
-- was lost or whose reply gives that place none; and the last was with this very error: that came in the step in which the call ended.
abbrev pub HasNoTimestamp : Trace → ℕ → Error → Type 0
HasNoTimestamp t n e = IsRefusedNow t n e × HasRefused t n 10

-- The error has its cause in that; or there was no timestamp.
abbrev pub IsExplained : Trace → ℕ → ℕ → Error → Type 0
IsExplained t at n e = HasCause (HeardBy t n) (IsSpentFor t at n) (view_of e) ⊎ HasNoTimestamp t n e

-- The error says that it is not known whether the transaction is committed, and holds the one with which the call ended.
pub record IsUndetermined (t : Trace) (at n : ℕ) (e : Error) : Type 0 where
  pub inner : Error
  pub error : view_of e ≡ undetermined (view_of inner)
  pub explained : IsExplained t at n inner

-- The line rolls back, which is refused since this Commit was lost, which a line of the transaction sent.
pub record IsRollbackRefused (t : Trace) (at n : ℕ) (e : Error) : Type 0 where
  pub rollback : IsAmong t.rollbacks n
  pub ticket : Ticket
  pub error : view_of e ≡ undetermined (view_of (GrpcAPI ticket))
  pub sent : IsCalled t ticket.line at
  pub commit : CommitRequest
  pub lost : Has t.events (Lost ticket (Commit commit))

-- so the call of line n failed, with an error that holds no want of memory
pub record IsCaused (t : Trace) (n : ℕ) (e : Error) : Type 0 where
  -- the line itself, or that of its transaction
  pub at : ℕ
  pub called : IsCalled t n at
  pub why : IsExplained t at n e ⊎ (IsUndetermined t at n e ⊎ IsRollbackRefused t at n e)
  pub fed : wants_memory (view_of e) ≡ false

-- What had happened by the line in whose step the outcome of line n came. Lines stand here with the newest first.
abbrev pub trace_at : List Line → Report → ℕ → Trace
trace_at script report n = trace_of report.sent report.outcomes (lines_before script (suc (ended_of report.ended n)))

-- each call that fails has its cause in that, unless the account of its transaction refuses it
abbrev pub HaveCauses : List Line → Report → Type 0
HaveCauses script report = AllCausesMeet (λ n e. IsCaused (trace_at script report n) n e) report.outcomes report.ended script
