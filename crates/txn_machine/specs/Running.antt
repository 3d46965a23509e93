-- The machine and the lines that it stands for, of which the newest is the first.
use Rattle.std.specs.Prelude.{◌≡◌, ℕ, ◌+◌, ◌*◌, ◌≤◌, ◌<◌, ◌^◌, Bool, false, if◌then◌else◌, List, [], ◌∷◌, ◌++◌, length, map, slice_index_or, Option, Some, None}
use Rattle.std.specs.List.{All, AllPairs}
use Rattle.std.proofs.Common.{zero, suc}
use Rattle.txn_kv.specs.declared.ticket.Ticket.{Ticket}
use Rattle.txn_lines.specs.Kinds.{kinds_of}
use Rattle.txn_lines.specs.Lines.{max_lines, why_after}
use Rattle.txn_lines.specs.declared.deed.Deed.{Deed}
use Rattle.txn_lines.specs.declared.deed.Deed.TheVariants.{Happens}
use Rattle.txn_lines.specs.declared.happening.Happening.TheVariants.{Clock}
use Rattle.txn_lines.specs.declared.line.Line.{Line}
use Rattle.txn_post.specs.Mail.{IsMail, Mail, Tickets, lane, outs_of, places_of}
use Rattle.txn_post.specs.declared.post.Place.{Place}
use Rattle.txn_post.specs.declared.post.Place.TheVariants.{Sent, Slept}
use Rattle.txn_report.specs.declared.outcome.Outcome.{Outcome}
use Rattle.txn_report.specs.declared.report.Report.{Report}
use Rattle.txn_report.specs.declared.report.SentNote.{SentNote}
use Rattle.txn_side.specs.Sight.{AskFor, ArePosted, Nexts, Sight, is_live, next_at, numbers_of}
use Rattle.txn_side.specs.Waiting.{Awaited}
use Rattle.txn_side.specs.declared.turn.Posting.{Posting}
use Rattle.txn_machine.specs.Dues.{AreDue, StayOut}
use Rattle.txn_machine.specs.Lists.{Lists, followed, newest, nothing, outright}
use Rattle.txn_machine.specs.Rows.{Caused}
use Rattle.txn_machine.specs.Script.{Folded}
use Rattle.txn_machine.specs.Steps.{Steps}
use Rattle.txn_machine.specs.Times.{Timely}
use Rattle.txn_machine.specs.declared.done.Done.{Done as Course}
use Rattle.txn_machine.specs.declared.machine.Machine.{Machine}

abbrev pub lists_of : {S : Type 0} → (S → Sight) → Machine S → Lists
lists_of sight m = record { store = m.store; mail = m.post; sight = sight m.clients; outcomes = m.outcomes.items; ended = m.ended.items; served = m.served.items }

-- The lines that it stands for

-- the lists are where these lines lead
abbrev pub LedTo : List Line → Lists → Type 0
LedTo [] l = l ≡ nothing
LedTo (line ∷ before) l = (old : Lists) × LedTo before old × Steps line old l

-- What the code of a step rests on

-- the next number of each line is the one after those that name these places
pub record AreCounted (places : List (List Place)) (nexts : List ℕ) : Type 0 where
  pub lines : length places ≡ length nexts
  pub numbers : (n : ℕ) → 1 ≤ n → n ≤ length nexts → next_at nexts n ≡ length (places_of places n) + 1

-- the clients number the tickets of each line, and those of its heartbeat, on from those that the mail has
pub record AreNumbered (tickets : Tickets) (nexts : Nexts) : Type 0 where
  pub lanes : (beat : Bool) → AreCounted (lane beat tickets) (numbers_of beat nexts)

-- each line has its place in each list
pub record IsEven (l : Lists) : Type 0 where
  pub ended : length l.ended ≡ newest l
  pub calls : length l.mail.tickets.calls ≡ newest l
  pub beats : length l.mail.tickets.beats ≡ newest l
  pub stands : length l.sight.stands ≡ newest l
  pub numbered : AreNumbered l.mail.tickets l.sight.nexts

-- these rise, from this one at least up to that at most
pub record AreRising (least most : ℕ) (xs : List ℕ) : Type 0 where
  pub pairs : AllPairs (λ (a b : ℕ). a ≤ b) xs
  pub within : All (λ (a : ℕ). (least ≤ a) × (a ≤ most)) xs

-- the line in whose step what stands at a place was sent, or began
abbrev pub at_of : Mail → Place → ℕ
at_of mail (Sent place) = slice_index_or (map (λ s. s.at) mail.sent) place 0
at_of mail (Slept place) = slice_index_or (map (λ s. s.at) mail.sleeps) place 0

-- what is in the mail came in this order, in the steps of the first n lines, and none before its own line
pub record CameInOrder (n : ℕ) (mail : Mail) : Type 0 where
  pub sent : AreRising 0 n (map (λ s. s.at) mail.sent)
  pub sleeps : AreRising 0 n (map (λ s. s.at) mail.sleeps)
  pub lines : (beat : Bool) (line : ℕ) → AreRising line n (map (λ place. at_of mail place) (places_of (lane beat mail.tickets) line))

-- Each ticket names what it should, and the store can serve each request that was sent: each for timestamps asks for 1 to 64, and the oracle is far from its end, since
-- each line served at most one.
pub record IsSound (l : Lists) : Type 0 where
  pub mail : IsMail l.mail
  pub order : CameInOrder (newest l) l.mail
  pub askers : All (λ (s : SentNote). AskFor s.ticket.line s.request s.askers) l.mail.sent
  pub last : l.store.last ≤ 2 ^ 62 + 2 ^ 19 * newest l
  pub clock : l.store.clock < 2 ^ 44
  pub few : newest l ≤ max_lines

pub record IsOrdered (l : Lists) : Type 0 where
  pub even : IsEven l
  pub sound : IsSound l

-- The machine

-- no step of the machine answered that memory is wanting
pub record HasMemory {S : Type 0} (m : Machine S) : Type 0 where
  pub whole : m.broken ≡ false

pub record Standing {S : Type 0} (sight : S → Sight) (ready : S → Type 0) (waits : S → ℕ → Awaited → Type 0) (m : Machine S) (lines : List Line) : Type 0 where
  pub led : LedTo lines (lists_of sight m)
  pub able : ready m.clients
  pub told : newest (lists_of sight m) ≡ length lines
  pub ordered : IsOrdered (lists_of sight m)
  pub folded : Folded lines (lists_of sight m)
  pub caused : Caused lines (lists_of sight m)
  pub timely : Timely lines (lists_of sight m)
  pub due : AreDue (waits m.clients) lines (lists_of sight m)
  pub kinds : m.kinds ≡ kinds_of lines

-- A machine stands for these lines. Where memory was wanting, nothing is said.
pub record StandsFor {S : Type 0} (sight : S → Sight) (ready : S → Type 0) (waits : S → ℕ → Awaited → Type 0) (m : Machine S) (lines : List Line) : Type 0 where
  pub stands : HasMemory m → Standing sight ready waits m lines
  pub few : length lines ≤ max_lines

-- the machine stands for some lines, and memory was never wanting
pub record Stands {S : Type 0} (sight : S → Sight) (ready : S → Type 0) (waits : S → ℕ → Awaited → Type 0) (m : Machine S) : Type 0 where
  pub memory : HasMemory m
  pub lines : List Line
  pub stands : StandsFor sight ready waits m lines

-- the machine stands for some lines after which this line is not bad
pub record CanStep {S : Type 0} (sight : S → Sight) (ready : S → Type 0) (waits : S → ℕ → Awaited → Type 0) (m : Machine S) (line : Line) : Type 0 where
  pub lines : List Line
  pub stands : StandsFor sight ready waits m lines
  pub good : why_after lines line ≡ None

-- a report of lists
pub record IsReportOf (l : Lists) (report : Report) : Type 0 where
  pub outcomes : report.outcomes ≡ l.outcomes
  pub ended : report.ended ≡ l.ended
  pub sent : report.sent ≡ l.mail.sent
  pub sleeps : report.sleeps ≡ l.mail.sleeps
  pub served : report.served ≡ l.served
  pub store : report.store ≡ l.store

-- a clock is one that the store can be set to
abbrev pub IsFine : Deed → Type 0
IsFine (Happens (Clock ms)) = ms < 2 ^ 44
IsFine deed = Unit {0}

-- How a step comes to its end

abbrev pub with_own : Option Outcome → Lists → Lists
with_own None l = l
with_own (Some o) l = outright o l

-- what the step of the newest line makes of the lists, once it is known what the line came to
abbrev pub closed : Course → Lists → Lists
closed done l = followed done.turn.posted.items done.turn.ended.items (with_own done.outcome l)

-- the mail has a place for each that is posted: under the number that is the next of its line, or of its line's heartbeat
pub record CanPost (posted : List Posting) (mail : Mail) (nexts : Nexts) : Type 0 where
  pub before : Nexts
  pub numbered : AreNumbered mail.tickets before
  pub numbers : ArePosted before posted nexts

-- there is a line, and a place for what is posted
pub record CanClose (done : Course) (l : Lists) : Type 0 where
  pub some : 1 ≤ newest l
  pub post : CanPost done.turn.posted.items l.mail l.sight.nexts

-- what the clients waited for stays out, up to the end of the step
pub record KeepOut (was is : ℕ → Awaited → Type 0) (old : Lists) (done : Course) (l : Lists) : Type 0 where
  pub stays : StayOut was is old (closed done l)

-- What is out

-- the tickets of a line that are out: none, where its client has crashed
abbrev pub outs_at : Lists → ℕ → List Ticket
outs_at l line = if is_live l.sight line then outs_of l.mail line else []

-- those of the first n lines, by line
abbrev pub outs_until : Lists → ℕ → List Ticket
outs_until l zero = []
outs_until l (suc n) = outs_until l n ++ outs_at l (suc n)
