-- Each transaction of a script is whole at one commit timestamp, or no commit of it is in the store, as its commit lines and its
-- rollback lines answered. Lines stand here with the newest first.
use Rattle.std.specs.Prelude.{◌≡◌, ◌≢◌, ◌⊎◌, ◌<◌, ◌≤◌, ⊤, ℕ, true, List, Some, None}
use Rattle.txn_commit.specs.Parts.{parts_of}
use Rattle.txn_commit.specs.Sending.{plan_of}
use Rattle.txn_commit.specs.declared.commit_parts.CommitParts.{CommitParts}
use Rattle.txn_core.specs.Transaction.{locks_nothing}
use Rattle.txn_history.specs.Among.{IsAmong}
use Rattle.txn_history.specs.Plan.{Content, Key, Plan}
use Rattle.txn_law.specs.Whole.{HasCommit, IsAbsent, IsWholeAt}
use Rattle.txn_lines.specs.Lines.{line_at}
use Rattle.txn_lines.specs.declared.begin_options.BeginOptions.{BeginOptions}
use Rattle.txn_lines.specs.declared.line.Line.{Line}
use Rattle.txn_lines.specs.declared.line.Line.TheVariants.{Begin, Commit, Rollback}
use Rattle.txn_machine.specs.Accounts.{account_of}
use Rattle.txn_machine.specs.Causes.{ended_of}
use Rattle.txn_machine.specs.Script.{outcome_of}
use Rattle.txn_model.specs.Cells.{cell_at}
use Rattle.txn_model.specs.declared.cell.Cell.{Cell}
use Rattle.txn_model.specs.declared.cell.Write.{Write}
use Rattle.txn_report.specs.declared.outcome.Outcome.{Outcome}
use Rattle.txn_report.specs.declared.outcome.Outcome.TheVariants.{Ok, Err, Unfinished}
use Rattle.txn_report.specs.declared.outcome.Payload.TheVariants.{Unit as Nothing, Number, Commit as CommittedAt}
use Rattle.txn_report.specs.declared.report.Report.{Report}
use Rattle.txn_side.specs.Account.{Account, is_undetermined}

-- the line began a transaction with this start
abbrev pub BeganAt : List Line → Report → ℕ → ℕ → Type 0
BeganAt script report x s = (client : ℕ) × (options : BeginOptions) × (line_at script x ≡ Some (Begin client options)) × (outcome_of report.outcomes x ≡ Ok (Number s))

-- a commit line of the transaction of line x answered this timestamp
abbrev pub CommitAnswered : List Line → Report → ℕ → ℕ → ℕ → Type 0
CommitAnswered script report x n c = (line_at script n ≡ Some (Commit x)) × (outcome_of report.outcomes n ≡ Ok (CommittedAt (Some c)))

-- it answered none
abbrev pub CommitAnsweredNone : List Line → Report → ℕ → ℕ → Type 0
CommitAnsweredNone script report x n = (line_at script n ≡ Some (Commit x)) × (outcome_of report.outcomes n ≡ Ok (CommittedAt None))

-- by this outcome of a commit line its transaction may be committed: it answered a timestamp, has not ended, or failed with UndeterminedError
abbrev pub MayBeDone : Outcome → Type 0
MayBeDone (Ok (CommittedAt (Some c))) = ⊤
MayBeDone Unfinished = ⊤
MayBeDone (Err e) = is_undetermined e ≡ true
MayBeDone o = ⊥

-- a commit line of the transaction of line x has such an outcome
abbrev pub MayHaveCommitted : List Line → Report → ℕ → Type 0
MayHaveCommitted script report x = (n : ℕ) × (line_at script n ≡ Some (Commit x)) × MayBeDone (outcome_of report.outcomes n)

-- a rollback line of the transaction of line x answered ok
abbrev pub RollbackAnswered : List Line → Report → ℕ → ℕ → Type 0
RollbackAnswered script report x n = (line_at script n ≡ Some (Rollback x)) × (outcome_of report.outcomes n ≡ Ok Nothing)

-- what the transaction of line x has taken in, by the lines that wrote and were answered ok
abbrev pub account_in : List Line → Report → ℕ → Account
account_in script report x = account_of (λ n. outcome_of report.outcomes n) (λ n. ended_of report.ended n) script x

-- no other start has a commit between s and c of a key that the plan writes
abbrev pub IsAlone : Plan → List Cell → ℕ → ℕ → Type 0
IsAlone plan cells s c = (k : Key) (x : Content) → plan.writes k ≡ Some x → (w : Write) → IsAmong (cell_at cells k).commits w → w.start ≢ s → (w.commit ≤ s) ⊎ (c < w.commit)

-- The transaction of line x, which began at s, is whole at c, a later timestamp: its primary holds its commit there, each key that it wrote
-- holds what it wrote, committed at c or locked under the primary, and no other commit of s is anywhere. No other transaction committed
-- such a key meanwhile.
pub record IsWhole (script : List Line) (report : Report) (x s c : ℕ) : Type 0 where
  pub parts : CommitParts
  pub wrote : parts_of (account_in script report x).contents ≡ Some parts
  pub whole : IsWholeAt (plan_of parts) report.store.cells s c
  pub primary : (content : Content) × HasCommit (cell_at report.store.cells parts.primary) s c content
  pub above : s < c
  pub alone : IsAlone (plan_of parts) report.store.cells s c

-- No commit of it is in the store, and no commit line of it answered a timestamp. Or it is whole at one c, which each commit line that
-- answered a timestamp answered, and some commit line of it answered one, has not ended, or failed with UndeterminedError.
abbrev pub FitsCommits : List Line → Report → ℕ → ℕ → Type 0
FitsCommits script report x s =
    (IsAbsent report.store.cells s × ((n c : ℕ) → CommitAnswered script report x n c → ⊥))
    ⊎ ((c : ℕ) × IsWhole script report x s c × ((n d : ℕ) → CommitAnswered script report x n d → d ≡ c) × MayHaveCommitted script report x)

-- So it is of each transaction. No commit is in the store of one of which a rollback line answered ok. A commit line answers none only
-- where no key is locked by what was written, and then none is there either. No two began at one timestamp, and nothing else is committed.
pub record AreWhole (script : List Line) (report : Report) : Type 0 where
  pub each : (x s : ℕ) → BeganAt script report x s → FitsCommits script report x s
  pub rolled : (x s n : ℕ) → BeganAt script report x s → RollbackAnswered script report x n → IsAbsent report.store.cells s
  pub unlocked : (x s n : ℕ) → BeganAt script report x s → CommitAnsweredNone script report x n → (locks_nothing (account_in script report x).contents ≡ true) × IsAbsent report.store.cells s
  pub apart : (x y s : ℕ) → BeganAt script report x s → BeganAt script report y s → x ≡ y
  pub others : (s : ℕ) → ((x : ℕ) → BeganAt script report x s → ⊥) → IsAbsent report.store.cells s
