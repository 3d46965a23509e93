-- The mail of a run: what was sent, what became of it, and the tickets that name it.
use Rattle.std.specs.Prelude.{◌≡◌, ℕ, ◌+◌, ◌-◌, ◌<◌, ◌≤◌, Bool, true, false, ◌&&◌, not, if◌then◌else◌, List, [], ◌∷◌, ◌++◌, length, Option, Some, None, is_some, slice_get, slice_set, slice_index_or}
use Rattle.std.specs.List.{flat_map}
use Rattle.std.specs.Option.{option_map, option_to_list}
use Rattle.std.proofs.Common.{zero, suc}
use Rattle.txn_kv.specs.declared.reply.Reply.{Reply}
use Rattle.txn_kv.specs.declared.ticket.Ticket.{Ticket}
use Rattle.txn_report.specs.declared.report.SentNote.{SentNote}
use Rattle.txn_report.specs.declared.report.SleepNote.{SleepNote}
use Rattle.txn_post.specs.declared.letter.Letter.{Letter}
use Rattle.txn_post.specs.declared.post.Place.{Place}
use Rattle.txn_post.specs.declared.post.Place.TheVariants.{Sent, Slept}

-- For each line where what its tickets name stands, in the order of the numbers: what its calls named, and what its heartbeat did.
pub record Tickets : Type 0 where
  pub calls : List (List Place)
  pub beats : List (List Place)

pub record Mail : Type 0 where
  -- the requests, in the order in which they were sent
  pub sent : List SentNote
  -- what became of each
  pub letters : List Letter
  -- the sleeps, in the order in which they began
  pub sleeps : List SleepNote
  -- whether each still lasts
  pub lasting : List Bool
  pub tickets : Tickets

-- of no line
abbrev pub no_tickets : Tickets
no_tickets = record { calls = []; beats = [] }

abbrev pub no_mail : Mail
no_mail = record { sent = []; letters = []; sleeps = []; lasting = []; tickets = no_tickets }

-- Tickets. Lines and numbers are counted from 1.

-- what calls named, or what heartbeats did
abbrev pub lane : Bool → Tickets → List (List Place)
lane false tickets = tickets.calls
lane true tickets = tickets.beats

-- where what a line named stands
abbrev pub places_of : List (List Place) → ℕ → List Place
places_of tickets zero = []
places_of tickets (suc line) = slice_index_or tickets line []

abbrev pub place_in : List Place → ℕ → Option Place
place_in places zero = None
place_in places (suc number) = slice_get places number

-- where what the ticket names stands, if it names something
abbrev pub place_of : Tickets → Ticket → Option Place
place_of tickets t = place_in (places_of (lane t.beat tickets) t.line) t.number

-- the ticket of what stands at a place, if something does
abbrev pub ticket_at : Mail → Place → Option Ticket
ticket_at mail (Sent place) = option_map (λ note. note.ticket) (slice_get mail.sent place)
ticket_at mail (Slept place) = option_map (λ note. note.ticket) (slice_get mail.sleeps place)

-- Each request has a letter and each sleep a flag, and a ticket leads to a place just where what stands there has the ticket.
pub record IsMail (mail : Mail) : Type 0 where
  pub letters : length mail.letters ≡ length mail.sent
  pub flags : length mail.lasting ≡ length mail.sleeps
  pub named : (t : Ticket) (place : Place) → place_of mail.tickets t ≡ Some place → ticket_at mail place ≡ Some t
  pub found : (t : Ticket) (place : Place) → ticket_at mail place ≡ Some t → place_of mail.tickets t ≡ Some place

-- What became of a request.

abbrev pub just_sent : Letter
just_sent = record { served = false; refused = false; awaited = true; kept = None }

abbrev pub letter_at : Mail → ℕ → Letter
letter_at mail place = slice_index_or mail.letters place just_sent

abbrev pub is_awaited : Mail → ℕ → Bool
is_awaited mail place = (letter_at mail place).awaited

-- the store neither handled it nor was too busy to
abbrev pub can_be_served : Mail → ℕ → Bool
can_be_served mail place = not (letter_at mail place).served && not (letter_at mail place).refused

abbrev pub is_lasting : Mail → ℕ → Bool
is_lasting mail place = slice_index_or mail.lasting place false

-- Finding.

abbrev pub as_sent : Option Place → Option ℕ
as_sent (Some (Sent place)) = Some place
as_sent (Some (Slept place)) = None
as_sent None = None

abbrev pub as_slept : Option Place → Option ℕ
as_slept (Some (Slept place)) = Some place
as_slept (Some (Sent place)) = None
as_slept None = None

-- the place, if it passes
abbrev pub only : (ℕ → Bool) → Option ℕ → Option ℕ
only passes None = None
only passes (Some place) = if passes place then Some place else None

abbrev pub found_awaited : Mail → Ticket → Option ℕ
found_awaited mail t = only (is_awaited mail) (as_sent (place_of mail.tickets t))

abbrev pub found_unserved : Mail → Ticket → Option ℕ
found_unserved mail t = only (can_be_served mail) (as_sent (place_of mail.tickets t))

abbrev pub found_lasting : Mail → Ticket → Option ℕ
found_lasting mail t = only (is_lasting mail) (as_slept (place_of mail.tickets t))

-- the request that the ticket names stands at the place
pub record IsSentAt (mail : Mail) (t : Ticket) (place : ℕ) : Type 0 where
  pub below : place < length mail.sent
  pub ticket : ticket_at mail (Sent place) ≡ Some t

-- the sleep that the ticket names stands at the place
pub record IsSleptAt (mail : Mail) (t : Ticket) (place : ℕ) : Type 0 where
  pub below : place < length mail.sleeps
  pub ticket : ticket_at mail (Slept place) ≡ Some t

-- Out.

-- the client waits for the reply to the request, or the sleep lasts
abbrev pub is_out : Mail → Place → Bool
is_out mail (Sent place) = is_awaited mail place
is_out mail (Slept place) = is_lasting mail place

abbrev pub out_at : Mail → Place → Option Ticket
out_at mail place = if is_out mail place then ticket_at mail place else None

-- the tickets of what stands at these places and is out
abbrev pub outs_among : Mail → List Place → List Ticket
outs_among mail places = flat_map (λ place. option_to_list (out_at mail place)) places

-- the tickets of a line that are out, in the order of their numbers; those of its heartbeat come last
abbrev pub outs_of : Mail → ℕ → List Ticket
outs_of mail line = outs_among mail (places_of mail.tickets.calls line) ++ outs_among mail (places_of mail.tickets.beats line)

-- Steps.

-- one line more, which has named nothing
abbrev pub opened_lanes : Tickets → Tickets
opened_lanes tickets = record { calls = tickets.calls ++ [] ∷ []; beats = tickets.beats ++ [] ∷ [] }

abbrev pub opened : Mail → Mail
opened mail = record mail { tickets = opened_lanes mail.tickets }

-- the ticket is the next of a line that is there, or of its heartbeat
pub record IsNext (mail : Mail) (t : Ticket) : Type 0 where
  pub first : 1 ≤ t.line
  pub last : t.line ≤ length (lane t.beat mail.tickets)
  pub number : t.number ≡ length (places_of (lane t.beat mail.tickets) t.line) + 1

-- the next of a line stands at this place
abbrev pub naming_in : List (List Place) → ℕ → Place → List (List Place)
naming_in places line place = slice_set places (line - 1) (places_of places line ++ place ∷ [])

-- the next ticket of a line, or of its heartbeat, leads to this place
abbrev pub naming : Tickets → Bool → ℕ → Place → Tickets
naming tickets false line place = record tickets { calls = naming_in tickets.calls line place }
naming tickets true line place = record tickets { beats = naming_in tickets.beats line place }

abbrev pub sending : SentNote → Mail → Mail
sending note mail = record mail {
  sent = mail.sent ++ note ∷ [];
  letters = mail.letters ++ just_sent ∷ [];
  tickets = naming mail.tickets note.ticket.beat note.ticket.line (Sent (length mail.sent));
}

abbrev pub sleeping : SleepNote → Mail → Mail
sleeping note mail = record mail {
  sleeps = mail.sleeps ++ note ∷ [];
  lasting = mail.lasting ++ true ∷ [];
  tickets = naming mail.tickets note.ticket.beat note.ticket.line (Slept (length mail.sleeps));
}

-- the letter of a place changes
abbrev pub changing : (Letter → Letter) → ℕ → Mail → Mail
changing change place mail = record mail { letters = slice_set mail.letters place (change (letter_at mail place)) }

-- the store handles the request, and its reply is kept
abbrev pub keeping : Reply → Letter → Letter
keeping reply letter = record letter { served = true; kept = Some reply }

-- the store handles the request, and the client takes the reply
abbrev pub delivering : Letter → Letter
delivering letter = record letter { served = true; awaited = false }

-- the client takes the reply that is kept, if one is
abbrev pub taking : Letter → Letter
taking letter = if is_some letter.kept then record letter { awaited = false; kept = None } else letter

-- the store is too busy, and the client is told so
abbrev pub refusing : Letter → Letter
refusing letter = record letter { refused = true; awaited = false }

-- the client is told that no reply will come
abbrev pub losing : Letter → Letter
losing letter = record letter { awaited = false; kept = None }

-- the sleep of a place ends
abbrev pub waking : ℕ → Mail → Mail
waking place mail = record mail { lasting = slice_set mail.lasting place false }
