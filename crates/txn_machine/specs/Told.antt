-- What the note of a step tells, by the lists that the step left.
use Rattle.std.specs.Prelude.{◌≡◌, ◌⊎◌, ℕ, ◌≤◌, Bool, true, false, ◌&&◌, List, [], ◌∷◌, length, map, nat_eq, Option, Some, None}
use Rattle.std.specs.List.{filter}
use Rattle.std.specs.List.Sorted.{IsNonDecreasing, IsPermutation}
use Rattle.std.proofs.Common.{zero, suc}
use Rattle.txn_kv.specs.declared.ticket.Ticket.{Ticket}
use Rattle.txn_report.specs.OutcomeView.{OutcomeView, view_of_outcome}
use Rattle.txn_report.specs.declared.outcome.Outcome.{Outcome}
use Rattle.txn_report.specs.declared.outcome.Outcome.TheVariants.{Ok, Err, Unfinished, Done, Skipped}
use Rattle.txn_report.specs.declared.report.SentNote.{SentNote}
use Rattle.txn_report.specs.declared.report.SleepNote.{SleepNote}
use Rattle.txn_side.specs.Sight.{outcomes_of, ticket_in}
use Rattle.txn_side.specs.declared.turn.Ending.{Ending}
use Rattle.txn_machine.specs.Causes.{ended_of}
use Rattle.txn_machine.specs.Lists.{Lists, newest}
use Rattle.txn_machine.specs.Script.{outcome_of}
use Rattle.txn_machine.specs.declared.done.Done.{Done as Course}
use Rattle.txn_machine.specs.declared.note.StepNote.{StepNote}

-- Calls that ended

-- an ending with the view of its outcome
pub record EndingView : Type 0 where
  pub line : ℕ
  pub outcome : OutcomeView

abbrev pub view_of_ending : Ending → EndingView
view_of_ending ending = record { line = ending.line; outcome = view_of_outcome ending.outcome }

-- what a call answers
abbrev pub is_answer : Outcome → Bool
is_answer (Ok p) = true
is_answer (Err e) = true
is_answer Unfinished = false
is_answer Done = false
is_answer Skipped = false

-- the call of a line answered in the step of line `at`
abbrev pub answered_in : ℕ → List Outcome → List ℕ → ℕ → Bool
answered_in at outs ended line = nat_eq (ended_of ended line) at && is_answer (outcome_of outs line)

-- so many lines from this one on
abbrev pub lines_from : ℕ → ℕ → List ℕ
lines_from first zero = []
lines_from first (suc count) = first ∷ lines_from (suc first) count

abbrev pub ending_at : List Outcome → ℕ → EndingView
ending_at outs line = record { line = line; outcome = view_of_outcome (outcome_of outs line) }

-- the calls that answered in the step of line `at`, by line
abbrev pub endings_in : ℕ → List Outcome → List ℕ → List EndingView
endings_in at outs ended = map (λ line. ending_at outs line) (filter (λ line. answered_in at outs ended line) (lines_from 1 (length outs)))

-- Requests and sleeps

-- the requests that were sent in the step of line `at`, in their order
abbrev pub sent_in : ℕ → List SentNote → List Ticket
sent_in at sent = map (λ s. s.ticket) (filter (λ s. nat_eq s.at at) sent)

-- the sleeps that began in the step of line `at`, in their order
abbrev pub slept_in : ℕ → List SleepNote → List Ticket
slept_in at sleeps = map (λ s. s.ticket) (filter (λ s. nat_eq s.at at) sleeps)

-- the first list is of what is in the other two, each in its order
abbrev pub Joins : List Ticket → List Ticket → List Ticket → Type 0
Joins [] requests sleeps = (requests ≡ []) × (sleeps ≡ [])
Joins (t ∷ ts) requests sleeps = ((rest : List Ticket) × (requests ≡ t ∷ rest) × Joins ts rest sleeps) ⊎ ((rest : List Ticket) × (sleeps ≡ t ∷ rest) × Joins ts requests rest)

-- A note is of the step of the newest line.
pub record IsNote (l : Lists) (note : StepNote) : Type 0 where
  pub place : note.place ≡ newest l
  pub outcome : view_of_outcome note.outcome ≡ view_of_outcome (outcome_of l.outcomes (newest l))
  pub sent : Joins note.sent (sent_in (newest l) l.mail.sent) (slept_in (newest l) l.mail.sleeps)
  pub ended : map view_of_ending note.ended ≡ endings_in (newest l) l.outcomes l.ended

-- How a step comes to what it tells

-- a line's call ended once at most, with an answer, and the line is there
abbrev pub EndOnce : ℕ → ℕ → List Outcome → Type 0
EndOnce n k [] = Unit {0}
EndOnce n k (o ∷ []) = (1 ≤ k) × (k ≤ n) × (is_answer o ≡ true)
EndOnce n k (o ∷ p ∷ os) = ⊥

abbrev pub EndsOnce : ℕ → List Ending → Type 0
EndsOnce n ended = (k : ℕ) → EndOnce n k (outcomes_of k ended)

-- an outcome that came at once, and is no call's
abbrev pub OwnEnds : Option Outcome → Type 0
OwnEnds None = Unit {0}
OwnEnds (Some o) = is_answer o ≡ false

-- The lists have yet what was sent and had ended before the step, and what the clients did can be told.
pub record CanTell (old : Lists) (done : Course) (l : Lists) : Type 0 where
  pub outcomes : l.outcomes ≡ old.outcomes
  pub ended : l.ended ≡ old.ended
  pub sent : l.mail.sent ≡ old.mail.sent
  pub sleeps : l.mail.sleeps ≡ old.mail.sleeps
  pub own : OwnEnds done.outcome
  pub once : EndsOnce (newest l) done.turn.ended.items

-- the note of what a step came to, by the lists before its end and after
pub record IsNoteOf (done : Course) (l new : Lists) (note : StepNote) : Type 0 where
  pub place : note.place ≡ newest l
  pub outcome : view_of_outcome note.outcome ≡ view_of_outcome (outcome_of new.outcomes note.place)
  pub sent : note.sent ≡ map ticket_in done.turn.posted.items
  pub lines : List ℕ
  pub moved : IsPermutation (map (λ e. e.line) done.turn.ended.items) lines
  pub rises : IsNonDecreasing lines
  pub ended : map view_of_ending note.ended ≡ map (λ line. ending_at new.outcomes line) lines

-- no outcome came in a later step than that of the newest line
abbrev pub ArePast : Lists → Type 0
ArePast l = (k : ℕ) → ended_of l.ended k ≤ newest l
