-- Each transaction is whole at one commit timestamp or not at all, as its commits answered. Lines stand with the newest
-- first.
use Rattle.std.specs.Prelude.{◌≡◌, ◌⊎◌, ℕ, Bool, true, false, if◌then◌else◌, List, [], ◌∷◌, Option, Some, None, is_some}
use Rattle.txn_kv.specs.ErrorView.{undetermined}
use Rattle.txn_kv.specs.declared.message.Op.{Op}
use Rattle.txn_kv.specs.declared.message.Op.TheVariants.{Put}
use Rattle.txn_kv.specs.declared.request.commits.PrewriteRequest.{PrewriteRequest}
use Rattle.txn_kv.specs.declared.request.Request.TheVariants.{Prewrite}
use Rattle.txn_history.specs.Among.{IsAmong}
use Rattle.txn_history.specs.Plan.{Key, key_eq, Content, Plan}
use Rattle.txn_history.specs.Plan.Way.{TwoPhases}
use Rattle.txn_model.specs.Cells.{cell_at}
use Rattle.txn_model.specs.declared.cell.Cell.{Cell}
use Rattle.txn_law.specs.Lone.{put_of}
use Rattle.txn_law.specs.Whole.{HasCommit, IsWholeAt, IsAbsent}
use Rattle.txn_script.specs.Lines.{line_at}
use Rattle.txn_script.specs.declared.line.Line.{Line}
use Rattle.txn_script.specs.declared.line.Line.TheVariants.{Begin, Commit}
use Rattle.txn_report.specs.OutcomeView.{OutcomeView, view_of_outcome}
use Rattle.txn_report.specs.OutcomeView.OutcomeView.{answered, failed, unfinished, done, skipped}
use Rattle.txn_report.specs.declared.outcome.Outcome.{Outcome}
use Rattle.txn_report.specs.declared.outcome.Outcome.TheVariants.{Ok}
use Rattle.txn_report.specs.declared.outcome.Payload.TheVariants.{Unit as Nothing, Number, Commit as Committed_at}
use Rattle.txn_report.specs.declared.report.Report.{Report}
use Rattle.txn_report.specs.declared.report.SentNote.{SentNote}
use Rattle.txn_first.specs.Script.{outcome_of}
use Rattle.txn_first.specs.Causes.{Written, writes_of}

-- what these writes make of a key, if it is written
abbrev pub content_at : List Written → Key → Option Content
content_at [] k = None
content_at (w ∷ ws) k = if key_eq w.key k then Some (put_of w.value) else content_at ws k

-- and with which op
abbrev pub op_at : List Written → Key → Option Op
op_at [] k = None
op_at (w ∷ ws) k = if key_eq w.key k then Some Put else op_at ws k

-- what a transaction with these writes means to do under a primary: it puts them, in two phases
abbrev pub plan_of : Key → List Written → Plan
plan_of p ws = record { primary = p; ops = op_at ws; writes = content_at ws; way = TwoPhases; one_phase = false }

-- p is the primary that the sent Prewrites of start s name
pub record IsPrimary (sent : List SentNote) (s : ℕ) (p : Key) : Type 0 where
  pub some : (n : SentNote) × (r : PrewriteRequest) × IsAmong sent n × (n.request ≡ Prewrite r) × (r.start_version ≡ s)
  pub each : (n : SentNote) (r : PrewriteRequest) → IsAmong sent n → n.request ≡ Prewrite r → r.start_version ≡ s → r.primary_lock ≡ p

-- The transaction of line x, whose start is s, is whole at c: its primary holds its commit at c, each key that it has
-- written holds its write, committed at c or locked under the primary, and no other commit of s is anywhere.
pub record IsWhole (lines : List Line) (sent : List SentNote) (outs : List Outcome) (cells : List Cell) (x s c : ℕ) : Type 0 where
  pub primary : Key
  pub named : IsPrimary sent s primary
  pub whole : IsWholeAt (plan_of primary (writes_of (outcome_of outs) x lines)) cells s c
  pub committed : (content : Content) × HasCommit (cell_at cells primary) s c content

-- a commit line of x that answered timestamp d
abbrev pub AnsweredAt : List Line → List Outcome → ℕ → ℕ → ℕ → Type 0
AnsweredAt lines outs x n d = (line_at lines n ≡ Some (Commit x)) × (outcome_of outs n ≡ Ok (Committed_at (Some d)))

-- it answered a timestamp, or is unfinished, or its client doesn't know what became of it
abbrev pub may_be_committed : OutcomeView → Bool
may_be_committed (answered Nothing) = false
may_be_committed (answered (Number n)) = false
may_be_committed (answered (Committed_at c)) = is_some c
may_be_committed (failed (undetermined e)) = true
may_be_committed (failed e) = false
may_be_committed unfinished = true
may_be_committed done = false
may_be_committed skipped = false

-- What the store holds of the transaction of line x, whose start is s, fits what its commit lines answered: nothing, and
-- none answered a timestamp; or it is whole at one c that each such answer names, and one line answered so or may have.
abbrev pub FitsCommits : List Line → List SentNote → List Outcome → List Cell → ℕ → ℕ → Type 0
FitsCommits lines sent outs cells x s =
    (IsAbsent cells s × ((n d : ℕ) → AnsweredAt lines outs x n d → ⊥))
    ⊎ ((c : ℕ) × IsWhole lines sent outs cells x s c × ((n d : ℕ) → AnsweredAt lines outs x n d → d ≡ c) × (n : ℕ) × (line_at lines n ≡ Some (Commit x)) × (may_be_committed (view_of_outcome (outcome_of outs n)) ≡ true))

-- of each transaction that has begun
abbrev pub AllFitCommits : List Line → Report → Type 0
AllFitCommits lines report = (x client s : ℕ) → line_at lines x ≡ Some (Begin client) → outcome_of report.outcomes x ≡ Ok (Number s) → FitsCommits lines report.sent report.outcomes report.store.cells x s
