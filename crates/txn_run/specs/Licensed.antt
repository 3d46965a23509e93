-- Each request of a script had its licence: it rested on what was sent and taken before it. Lines stand here with the newest first.
use Rattle.std.specs.Prelude.{◌≡◌, ℕ, false, List, Some}
use Rattle.txn_kv.specs.declared.request.Request.TheVariants.{Prewrite}
use Rattle.txn_kv.specs.declared.request.commits.PrewriteRequest.{PrewriteRequest}
use Rattle.txn_kv.specs.declared.ticket.Ticket.{Ticket}
use Rattle.txn_commit.specs.Parts.{parts_of}
use Rattle.txn_commit.specs.Sending.{plan_of}
use Rattle.txn_commit.specs.declared.commit_parts.CommitParts.{CommitParts}
use Rattle.txn_history.specs.Event.{Has}
use Rattle.txn_history.specs.Event.Event.{Sent}
use Rattle.txn_history.specs.Plan.{Plan}
use Rattle.txn_law.specs.Run.{IsRun}
use Rattle.txn_lines.specs.declared.line.Line.{Line}
use Rattle.txn_machine.specs.Script.{history}
use Rattle.txn_report.specs.declared.report.Report.{Report}
use Rattle.txn_side.specs.Account.{allows_write}
use Rattle.txn_run.specs.Whole.{BeganAt, account_in}

-- The transaction of line x is written no more, and these are the parts of its commit by what it wrote.
abbrev pub IsClosedAs : List Line → Report → ℕ → CommitParts → Type 0
IsClosedAs script report x parts = (allows_write (account_in script report x).status ≡ false) × (parts_of (account_in script report x).contents ≡ Some parts)

-- By its start each transaction that is written no more has the plan of what it wrote.
abbrev pub ArePlansOf : (ℕ → Plan) → List Line → Report → Type 0
ArePlansOf plans script report = (x s : ℕ) → BeganAt script report x s → (parts : CommitParts) → IsClosedAs script report x parts → plans s ≡ plan_of parts

-- There are such plans, and under each of them what happened in the lines is a run: a ticket names one request, which is handled once at
-- most, and has its licence when it is sent.
pub record AreLicensed (script : List Line) (report : Report) : Type 0 where
  pub plans : ℕ → Plan
  pub are : ArePlansOf plans script report
  pub run : (any : ℕ → Plan) → ArePlansOf any script report → IsRun any (history report.sent report.outcomes script)
  -- So each Prewrite of such a transaction names the primary of its commit.
  pub named : (x s : ℕ) → BeganAt script report x s → (parts : CommitParts) → IsClosedAs script report x parts
      → (t : Ticket) (r : PrewriteRequest) → Has (history report.sent report.outcomes script) (Sent t (Prewrite r)) → r.start_version ≡ s → r.primary_lock ≡ parts.primary
