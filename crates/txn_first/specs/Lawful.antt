-- What a report says of its script: the lines here stand in the order of the script.
use Rattle.std.specs.Prelude.{◌≡◌, ◌≢◌, ℕ, ◌+◌, ◌<◌, ◌≤◌, false, if◌then◌else◌, nat_eq, List, [], ◌∷◌, length, reverse, None, slice_index_or as get_or}
use Rattle.txn_kv.specs.declared.request.Request.{Request}
use Rattle.txn_kv.specs.declared.request.Request.TheVariants.{Tso}
use Rattle.txn_history.specs.Event.{Event}
use Rattle.txn_law.specs.Run.{store_after}
use Rattle.txn_script.specs.Lines.{why_after}
use Rattle.txn_script.specs.declared.line.Line.{Line}
use Rattle.txn_report.specs.declared.outcome.Outcome.TheVariants.{Unfinished}
use Rattle.txn_report.specs.declared.report.Report.{Report}
use Rattle.txn_report.specs.declared.report.SentNote.{SentNote}
use Rattle.txn_first.specs.Script.{history, served_tickets}
use Rattle.txn_first.specs.Rowed.{AllCame}
use Rattle.txn_first.specs.Causes.{is_unfinished, Causes, Dues}
use Rattle.txn_first.specs.Whole.{AllFitCommits}
use Rattle.txn_first.specs.Clean.{AllEndClean}

-- what was sent, served and taken, line by line: the newest first
abbrev pub events_of : List Line → Report → List Event
events_of lines report = history report.sent report.outcomes (reverse lines)

-- The store is the request table folded over the deliveries of the script.
pub record IsFoldOf (lines : List Line) (report : Report) : Type 0 where
  pub store : report.store ≡ store_after (events_of lines report)
  pub served : report.served ≡ reverse (served_tickets (events_of lines report))

-- `ended` names for each line (the i-th has number i + 1) the line in whose step its outcome came.
pub record NamesEnds (lines : List Line) (report : Report) : Type 0 where
  pub counted : length report.ended ≡ length report.outcomes
  pub past : (i : ℕ) → get_or report.ended i 0 ≤ length report.outcomes
  pub still : (i : ℕ) → get_or report.ended i 0 ≡ 0 → get_or report.outcomes i Unfinished ≡ Unfinished
  pub own : (i : ℕ) → get_or report.ended i 0 ≢ 0 → i < get_or report.ended i 0
  pub came : AllCame (reverse lines) report.ended
  pub over : (i : ℕ) → get_or report.ended i 0 ≢ 0 → is_unfinished (get_or report.outcomes i Unfinished) ≡ false

-- how many requests of line n are among these
abbrev pub sent_of : ℕ → List SentNote → ℕ
sent_of n [] = 0
sent_of n (s ∷ ss) = (if nat_eq s.ticket.line n then 1 else 0) + sent_of n ss

-- the tickets of each line have the numbers 1 to their count, in order: those before stand newest first
abbrev pub NumberedAfter : List SentNote → List SentNote → Type 0
NumberedAfter before [] = Unit {0}
NumberedAfter before (s ∷ ss) = (s.ticket.beat ≡ false) × (s.ticket.number ≡ sent_of s.ticket.line before + 1) × NumberedAfter (s ∷ before) ss

-- no request was sent in an earlier line than the one before it
abbrev pub RisesFrom : ℕ → List SentNote → Type 0
RisesFrom least [] = Unit {0}
RisesFrom least (s ∷ ss) = (least ≤ s.at) × RisesFrom s.at ss

-- a request for timestamps asks for as many as it has askers, its own line here, and no other request has askers
abbrev pub HasAskers : ℕ → Request → List ℕ → Type 0
HasAskers line (Tso r) askers = (askers ≡ line ∷ []) × (r.count ≡ length askers)
HasAskers line r askers = askers ≡ []

abbrev pub AllHaveAskers : List SentNote → Type 0
AllHaveAskers [] = Unit {0}
AllHaveAskers (s ∷ ss) = HasAskers s.ticket.line s.request s.askers × AllHaveAskers ss

-- what was sent, the oldest first
pub record IsMail (sent : List SentNote) : Type 0 where
  pub numbered : NumberedAfter [] sent
  pub rises : RisesFrom 0 sent
  pub asked : AllHaveAskers sent

pub record Lawful (lines : List Line) (report : Report) : Type 0 where
  -- one outcome for each line
  pub told : length report.outcomes ≡ length lines
  pub folded : IsFoldOf lines report
  pub mail : IsMail report.sent
  -- each outcome comes exactly when it may
  pub causes : Causes report.sent report.outcomes report.ended (reverse lines)
  pub ends : NamesEnds lines report
  -- after each line, something is out for each call that is open
  pub dues : Dues report.sent report.outcomes report.ended (reverse lines)
  -- each transaction is whole at one commit timestamp or not at all, as its commit lines answered
  pub fits : AllFitCommits (reverse lines) report
  -- a clean commit answers a timestamp or is unfinished, and costs no more than it must
  pub clean : AllEndClean (reverse lines) report
  -- no line sleeps
  pub awake : report.sleeps ≡ []

-- each line is not bad after these, the newest first, and the ones between
abbrev pub AllGood : List Line → List Line → Type 0
AllGood before [] = Unit {0}
AllGood before (line ∷ lines) = (why_after before line ≡ None) × AllGood (line ∷ before) lines
