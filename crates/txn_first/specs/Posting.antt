-- How the machine keeps what was sent.
use Rattle.std.specs.Prelude.{◌≡◌, ℕ, ◌+◌, ◌-◌, false, if◌then◌else◌, List, [], ◌∷◌, ◌++◌, length, Option, Some, None, slice_get, slice_set, slice_index_or, option_to_list}
use Rattle.std.specs.List.{flat_map}
use Rattle.std.proofs.Common.{zero, suc}
use Rattle.txn_kv.specs.declared.request.Request.{Request}
use Rattle.txn_kv.specs.declared.request.Request.TheVariants.{Tso}
use Rattle.txn_kv.specs.declared.ticket.Ticket.{Ticket}
use Rattle.txn_kv.specs.declared.ticket.Target.{Target}
use Rattle.txn_report.specs.declared.report.SentNote.{SentNote}
use Rattle.txn_first.specs.declared.post.Letter.{Letter}
use Rattle.txn_first.specs.declared.post.Post.{Post}

-- the places of a line's requests
abbrev pub places_of : List (List ℕ) → ℕ → List ℕ
places_of tickets zero = []
places_of tickets (suc i) = slice_index_or tickets i []

abbrev pub place_in : List ℕ → ℕ → Option ℕ
place_in places zero = None
place_in places (suc i) = slice_get places i

-- the place of a request among those that were sent
abbrev pub position : List (List ℕ) → Ticket → Option ℕ
position tickets t = if t.beat then None else place_in (places_of tickets t.line) t.number

abbrev pub askers_of : ℕ → Request → List ℕ
askers_of line (Tso r) = line ∷ []
askers_of line r = []

-- the next ticket of a line
abbrev pub ticket_after : List (List ℕ) → ℕ → Ticket
ticket_after tickets line = record { line = line; beat = false; number = length (places_of tickets line) + 1 }

abbrev pub fresh : Letter
fresh = record { served = false; gone = false }

abbrev pub note_of : List (List ℕ) → ℕ → ℕ → Target → Request → SentNote
note_of tickets line at to request = record { ticket = ticket_after tickets line; at = at; to = to; request = request; askers = askers_of line request }

-- one request more
pub record IsPosted (new old : Post) (line at : ℕ) (to : Target) (request : Request) : Type 0 where
  pub sent : new.sent.items ≡ old.sent.items ++ note_of old.tickets.items line at to request ∷ []
  pub letters : new.letters.items ≡ old.letters.items ++ fresh ∷ []
  pub tickets : new.tickets.items ≡ slice_set old.tickets.items (line - 1) (places_of old.tickets.items line ++ length old.sent.items ∷ [])

-- the ticket of a request that is out: the client still waits for it
abbrev pub out_by : Option SentNote → Option Letter → Option Ticket
out_by (Some s) (Some v) = if v.gone then None else Some s.ticket
out_by (Some s) None = None
out_by None v = None

abbrev pub out_at : List SentNote → List Letter → ℕ → Option Ticket
out_at sent letters p = out_by (slice_get sent p) (slice_get letters p)

abbrev pub out_tickets : List SentNote → List Letter → ℕ → List Ticket
out_tickets sent letters p = option_to_list (out_at sent letters p)

-- the tickets that are out, of these places
abbrev pub outs_at : List SentNote → List Letter → List ℕ → List Ticket
outs_at sent letters places = flat_map (out_tickets sent letters) places
