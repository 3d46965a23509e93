-- What a reply without error said of locks is so in the store that a script leaves. Lines stand here with the newest first.
use Rattle.std.specs.Prelude.{◌≡◌, ◌≢◌, ◌∷◌, ℕ, true, List, Some}
use Rattle.txn_kv.specs.declared.reply.Reply.TheVariants as replies
use Rattle.txn_kv.specs.declared.reply.commits.BatchRollbackResponse.{BatchRollbackResponse}
use Rattle.txn_kv.specs.declared.reply.commits.CommitResponse.{CommitResponse}
use Rattle.txn_kv.specs.declared.request.Request.TheVariants.{BatchRollback, Commit}
use Rattle.txn_kv.specs.declared.request.commits.BatchRollbackRequest.{BatchRollbackRequest}
use Rattle.txn_kv.specs.declared.request.commits.CommitRequest.{CommitRequest}
use Rattle.txn_kv.specs.declared.ticket.Ticket.{Ticket}
use Rattle.txn_commit.specs.Sending.{plan_of}
use Rattle.txn_commit.specs.declared.commit_parts.CommitParts.{CommitParts}
use Rattle.txn_history.specs.Event.{Has}
use Rattle.txn_history.specs.Event.Event.{Took}
use Rattle.txn_history.specs.Plan.{Content, Key, has_key}
use Rattle.txn_history.specs.Replies.{IsWithoutError}
use Rattle.txn_law.specs.Whole.{KeyCommitted}
use Rattle.txn_lines.specs.declared.line.Line.{Line}
use Rattle.txn_machine.specs.Script.{history}
use Rattle.txn_model.specs.Cells.{cell_at}
use Rattle.txn_model.specs.Locks.{has_start}
use Rattle.txn_model.specs.declared.cell.Cell.{Cell}
use Rattle.txn_model.specs.declared.cell.Lock.{Lock}
use Rattle.txn_report.specs.declared.report.Report.{Report}
use Rattle.txn_run.specs.Licensed.{IsClosedAs}
use Rattle.txn_run.specs.Whole.{BeganAt, RollbackAnswered}

-- no lock of the start stands on the key
abbrev pub IsFreeOf : Cell → ℕ → Type 0
IsFreeOf cell s = (l : Lock) → cell.lock ≡ Some l → l.start ≢ s

-- and the start is recorded there as rolled back
abbrev pub IsRolledBackAt : Cell → ℕ → Type 0
IsRolledBackAt cell s = (has_start cell.rolled s ≡ true) × IsFreeOf cell s

-- Each key of a Commit that was answered holds no lock of its start. Each key of a BatchRollback that was answered neither, and there the
-- start is recorded as rolled back. Where each key that a transaction wrote stood in such a Commit, no lock of it is left on any key.
pub record AreSettled (script : List Line) (report : Report) : Type 0 where
  pub committed : (t : Ticket) (r : CommitRequest) (o : CommitResponse) → Has (history report.sent report.outcomes script) (Took t (Commit r) (replies.Commit o)) → IsWithoutError (replies.Commit o)
      → (k : Key) → has_key r.keys k ≡ true → IsFreeOf (cell_at report.store.cells k) r.start_version
  pub rolled : (t : Ticket) (r : BatchRollbackRequest) (o : BatchRollbackResponse) → Has (history report.sent report.outcomes script) (Took t (BatchRollback r) (replies.BatchRollback o)) → IsWithoutError (replies.BatchRollback o)
      → (k : Key) → has_key r.keys k ≡ true → IsRolledBackAt (cell_at report.store.cells k) r.start_version
  pub none_left : (x s : ℕ) → BeganAt script report x s → (parts : CommitParts) → IsClosedAs script report x parts
      → ((k : Key) (c : Content) → (plan_of parts).writes k ≡ Some c → KeyCommitted (history report.sent report.outcomes script) s k)
      → (k : Key) → IsFreeOf (cell_at report.store.cells k) s
  -- Where a rollback line answered ok, each key that is locked by what its transaction wrote is rolled back.
  pub undone : (x s n : ℕ) → BeganAt script report x s → RollbackAnswered script report x n → (parts : CommitParts) → IsClosedAs script report x parts → parts.locks ≡ true
      → (k : Key) → has_key (parts.primary ∷ parts.secondaries) k ≡ true → IsRolledBackAt (cell_at report.store.cells k) s
