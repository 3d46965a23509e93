-- A machine and the lines that it stands for, of which the newest is the first.
use Rattle.std.specs.Prelude.{◌≡◌, ℕ, Bool, false, if◌then◌else◌, List, [], ◌∷◌, length, Option, Some, None, nat_eq, drop, map, ◌++◌, slice_get, option_to_list}
use Rattle.std.proofs.Common.{zero, suc}
use Rattle.txn_kv.specs.declared.ticket.Ticket.{Ticket}
use Rattle.txn_script.specs.Lines.{why_after}
use Rattle.txn_script.specs.Kinds.{kinds_of}
use Rattle.txn_script.specs.declared.line.Line.{Line}
use Rattle.txn_script.specs.declared.line.Line.TheVariants.{Blank, Client, Begin, Put, Commit, Deliver}
use Rattle.txn_report.specs.OutcomeView.{OutcomeView, view_of_outcome}
use Rattle.txn_report.specs.declared.outcome.Outcome.{Outcome}
use Rattle.txn_report.specs.declared.outcome.Outcome.TheVariants.{Ok, Err, Unfinished, Done, Skipped}
use Rattle.txn_report.specs.declared.report.SentNote.{SentNote}
use Rattle.txn_first.specs.declared.machine.Machine.{Machine}
use Rattle.txn_first.specs.declared.note.StepNote.{StepNote}
use Rattle.txn_first.specs.declared.note.Ending.{Ending}
use Rattle.txn_first.specs.Posting.{places_of, place_in}
use Rattle.txn_first.specs.Lawful.{sent_of, IsMail}
use Rattle.txn_first.specs.Lists.{Lists, lists_of}
use Rattle.txn_first.specs.Script.{outcome_of, history}
use Rattle.txn_first.specs.Rowed.{AllCame}
use Rattle.txn_first.specs.Stands.{StandsAt}

-- no step of the machine answered that memory is wanting
pub record HasMemory (m : Machine) : Type 0 where
  pub whole : m.broken ≡ false

-- what was sent is in order, and the lists of places have as many entries as were sent of each line
pub record IsMailOf (sent : List SentNote) (tickets : List (List ℕ)) : Type 0 where
  pub mail : IsMail sent
  pub counted : (n : ℕ) → length (places_of tickets n) ≡ sent_of n sent

-- the lists and the kinds of lines are where these lines leave them
pub record Standing (m : Machine) (lines : List Line) : Type 0 where
  pub lists : StandsAt (history m.post.sent.items m.outcomes.items lines) (lists_of m) lines
  pub came : AllCame lines m.ended.items
  pub posted : IsMailOf m.post.sent.items m.post.tickets.items
  pub kinds : m.kinds ≡ kinds_of lines

-- A machine stands for these lines. Where memory was wanting, nothing is said.
pub record StandsFor (m : Machine) (lines : List Line) : Type 0 where
  pub stands : HasMemory m → Standing m lines

-- the machine stands for some lines after which this line is not bad
pub record CanStep (m : Machine) (line : Line) : Type 0 where
  pub lines : List Line
  pub stands : StandsFor m lines
  pub good : why_after lines line ≡ None

-- the tickets of what was sent in the step of line n
abbrev pub tickets_at : ℕ → List SentNote → List Ticket
tickets_at n [] = []
tickets_at n (s ∷ ss) = if nat_eq s.at n then s.ticket ∷ tickets_at n ss else tickets_at n ss

-- the line whose ticket a line delivers, or 0
abbrev pub delivered_line : Line → ℕ
delivered_line Blank = 0
delivered_line Client = 0
delivered_line (Begin client) = 0
delivered_line (Put x k v) = 0
delivered_line (Commit x) = 0
delivered_line (Deliver t) = t.line

-- a line that was over first in this step
abbrev pub ended_now : ℕ → Option ℕ → Bool
ended_now now None = false
ended_now now (Some at) = nat_eq at now

-- the outcome of a line
abbrev pub outcome_in : List Outcome → ℕ → Option Outcome
outcome_in outs zero = None
outcome_in outs (suc i) = slice_get outs i

-- an ending with the view of its outcome
pub record EndingView : Type 0 where
  pub line : ℕ
  pub outcome : OutcomeView

abbrev pub view_of_ending : Ending → EndingView
view_of_ending ending = record { line = ending.line; outcome = view_of_outcome ending.outcome }

-- a call that answered
abbrev pub answered : ℕ → Option Outcome → Option EndingView
answered line None = None
answered line (Some (Ok p)) = Some (record { line = line; outcome = view_of_outcome (Ok p) })
answered line (Some (Err e)) = Some (record { line = line; outcome = view_of_outcome (Err e) })
answered line (Some Unfinished) = None
answered line (Some Done) = None
answered line (Some Skipped) = None

-- the call of a line, where it answered in the step of the newest
abbrev pub ending_of : Lists → ℕ → List EndingView
ending_of l line = if ended_now (length l.outcomes) (place_in l.ended line) then option_to_list (answered line (outcome_in l.outcomes line)) else []

-- What a note says of the newest line. In a step the call whose ticket is delivered may end, and the line itself.
pub record IsNote (l : Lists) (line : Line) (note : StepNote) : Type 0 where
  pub place : note.place ≡ length l.outcomes
  pub outcome : view_of_outcome note.outcome ≡ view_of_outcome (outcome_of l.outcomes note.place)
  pub sent : note.sent ≡ tickets_at note.place l.sent
  pub ended : map view_of_ending note.ended ≡ ending_of l (delivered_line line) ++ ending_of l note.place

-- what a note says of the newest line, by where in the list what it sent begins
pub record IsNoteFrom (l : Lists) (from delivered : ℕ) (note : StepNote) : Type 0 where
  pub place : note.place ≡ length l.outcomes
  pub outcome : view_of_outcome note.outcome ≡ view_of_outcome (outcome_of l.outcomes (length l.outcomes))
  pub sent : note.sent ≡ map (λ s. s.ticket) (drop from l.sent)
  pub ended : map view_of_ending note.ended ≡ ending_of l delivered ++ ending_of l (length l.outcomes)
