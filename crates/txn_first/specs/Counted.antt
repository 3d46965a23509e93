-- How many requests each line has sent, by how far its call has come.
use Rattle.std.specs.Prelude.{◌≡◌, ℕ, ◌≤◌, List, Some}
use Rattle.txn_report.specs.declared.report.SentNote.{SentNote}
use Rattle.txn_first.specs.declared.transaction.Transaction.{Transaction}
use Rattle.txn_first.specs.declared.transaction.CommitCall.{CommitCall}
use Rattle.txn_first.specs.declared.transaction.Stage.{Stage}
use Rattle.txn_first.specs.declared.transaction.Stage.TheVariants.{FindingRegion, FindingStore, Prewriting, Stamping, Committing}
use Rattle.txn_first.specs.declared.machine.Row.{Row}
use Rattle.txn_first.specs.declared.machine.Row.TheVariants.{Running}
use Rattle.txn_first.specs.Lists.{row_at}
use Rattle.txn_first.specs.Lawful.{sent_of}

-- the number of the request that a commit at this stage waits for
abbrev pub stage_number : Stage → ℕ
stage_number FindingRegion = 1
stage_number (FindingStore place) = 2
stage_number (Prewriting place) = 3
stage_number (Stamping place) = 4
stage_number (Committing place c) = 5

pub record IsCounted (sent : List SentNote) (rows : List Row) : Type 0 where
  pub few : (n : ℕ) → sent_of n sent ≤ 5
  pub stage : (x : ℕ) (t : Transaction) (call : CommitCall) → row_at rows x ≡ Some (Running t) → t.call ≡ Some call → sent_of call.line sent ≡ stage_number call.stage
