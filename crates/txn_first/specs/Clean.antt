-- Clean commits: commit lines that met no error, what they answer and what they cost. Lines stand with the newest first.
use Rattle.std.specs.Prelude.{◌≡◌, ◌⊎◌, ℕ, ◌+◌, ◌*◌, ◌<◌, ◌≤◌, Bool, true, false, not, ◌&&◌, ◌||◌, if◌then◌else◌, List, [], ◌∷◌, length, Some, is_some, nat_eq, nat_lt, slice_index_or}
use Rattle.std.specs.Ordering.{is_lt, is_gt}
use Rattle.std.proofs.Common.{zero, suc}
use Rattle.txn_kv.specs.declared.message.Region.{Region}
use Rattle.txn_kv.specs.declared.request.Request.{Request}
use Rattle.txn_kv.specs.declared.request.Request.TheVariants.{GetRegion, GetRegionById}
use Rattle.txn_kv.specs.declared.reply.Reply.{Reply}
use Rattle.txn_kv.specs.declared.reply.Reply.TheVariants as reply
use Rattle.txn_kv.specs.declared.reply.cluster.GetRegionResponse.{GetRegionResponse}
use Rattle.txn_kv.specs.declared.ticket.Ticket.{Ticket}
use Rattle.txn_history.specs.Among.{IsAmong}
use Rattle.txn_history.specs.Event.{Event, taken_reply}
use Rattle.txn_history.specs.Licence.{IsWithoutError}
use Rattle.txn_model.specs.Cells.{key_cmp, has_none}
use Rattle.txn_script.specs.Lines.{line_at}
use Rattle.txn_script.specs.declared.line.Line.{Line}
use Rattle.txn_script.specs.declared.line.Line.TheVariants.{Commit}
use Rattle.txn_report.specs.declared.outcome.Outcome.TheVariants.{Ok, Unfinished, Skipped}
use Rattle.txn_report.specs.declared.outcome.Payload.TheVariants.{Commit as Committed_at}
use Rattle.txn_report.specs.declared.report.Report.{Report}
use Rattle.txn_report.specs.declared.report.SentNote.{SentNote}
use Rattle.txn_report.specs.declared.report.SleepNote.{SleepNote}
use Rattle.txn_first.specs.Script.{outcome_of, history}
use Rattle.txn_first.specs.Causes.{is_skipped, has_some, writes_of}

-- the lines before line n
abbrev pub lines_before : ℕ → List Line → List Line
lines_before n [] = []
lines_before n (l ∷ ls) = if nat_lt (length (l ∷ ls)) n then l ∷ ls else lines_before n ls

-- the line in whose step the outcome of line n came, or 0 where it is unfinished
abbrev pub end_of : List ℕ → ℕ → ℕ
end_of ended zero = 0
end_of ended (suc i) = slice_index_or ended i 0

-- line `at` comes before the call that is over in line e has ended
abbrev pub is_until : (e at : ℕ) → Bool
is_until e at = nat_eq e 0 || nat_lt at e

-- a ticket of line n, and no heartbeat's
abbrev pub is_own : ℕ → Ticket → Bool
is_own n t = nat_eq t.line n && not t.beat

-- how many requests line n sent until its call ended, in line e
abbrev pub sent_until : (n e : ℕ) → List SentNote → ℕ
sent_until n e [] = 0
sent_until n e (s ∷ ss) = (if is_own n s.ticket && is_until e s.at then 1 else 0) + sent_until n e ss

-- and how many sleeps it began
abbrev pub slept_until : (n e : ℕ) → List SleepNote → ℕ
slept_until n e [] = 0
slept_until n e (s ∷ ss) = (if is_own n s.ticket && is_until e s.at then 1 else 0) + slept_until n e ss

-- A region record has an epoch and a leader, and its ends stand in order; an empty end is unbounded.
pub record IsGoodRegion (o : GetRegionResponse) (region : Region) : Type 0 where
  pub is : o.region ≡ Some region
  pub epoch : is_some region.region_epoch ≡ true
  pub leader : is_some o.leader ≡ true
  pub order : (has_none region.end_key || is_lt (key_cmp region.start_key region.end_key)) ≡ true

-- an encoded key is in a region's range
abbrev pub holds : Region → List ℕ → Bool
holds region k = not (is_gt (key_cmp region.start_key k)) && (has_none region.end_key || is_lt (key_cmp k region.end_key))

-- a region record that was asked for is good, and holds the key that was asked for
abbrev pub TellsRegion : Request → Reply → Type 0
TellsRegion (GetRegion r) (reply.GetRegion o) = (region : Region) × IsGoodRegion o region × (holds region r.region_key ≡ true)
TellsRegion (GetRegionById r) (reply.GetRegionById o) = (region : Region) × IsGoodRegion o region
TellsRegion _ _ = Unit {0}

-- A line is calm where no reply carried an error that was taken to a request that it sent until its call ended, or whose asks
-- its own was among. No line of today loses a request, refuses one or alters a reply.
abbrev pub IsCalm : List Event → Report → ℕ → Type 0
IsCalm es report n = (s : SentNote) → IsAmong report.sent s → ((is_own n s.ticket && is_until (end_of report.ended n) s.at ≡ true) ⊎ IsAmong s.askers n) → (o : Reply) → taken_reply es s.ticket ≡ Some o → IsWithoutError o × TellsRegion s.request o

-- A commit line of x that wasn't skipped is clean where it is calm, each earlier commit line of x was skipped, and some key is
-- written.
pub record IsCleanCommit (lines : List Line) (report : Report) (x n : ℕ) : Type 0 where
  pub line : line_at lines n ≡ Some (Commit x)
  pub met : is_skipped (outcome_of report.outcomes n) ≡ false
  pub calm : IsCalm (history report.sent report.outcomes lines) report n
  pub first : (m : ℕ) → m < n → line_at lines m ≡ Some (Commit x) → outcome_of report.outcomes m ≡ Skipped
  pub writes : has_some (writes_of (outcome_of report.outcomes) x (lines_before n lines)) ≡ true

-- It answered a timestamp or is unfinished. Until its call ended it sent at most 2k+9 requests, k being how many keys are
-- written, and began no sleep.
pub record EndsClean (lines : List Line) (report : Report) (x n : ℕ) : Type 0 where
  pub answers : (outcome_of report.outcomes n ≡ Unfinished) ⊎ ((c : ℕ) × (outcome_of report.outcomes n ≡ Ok (Committed_at (Some c))))
  pub few : sent_until n (end_of report.ended n) report.sent ≤ 2 * length (writes_of (outcome_of report.outcomes) x (lines_before n lines)) + 9
  pub awake : slept_until n (end_of report.ended n) report.sleeps ≡ 0

abbrev pub AllEndClean : List Line → Report → Type 0
AllEndClean lines report = (x n : ℕ) → IsCleanCommit lines report x n → EndsClean lines report x n
