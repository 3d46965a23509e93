-- The lists of a machine, and what changes them.
use Rattle.std.specs.Prelude.{ℕ, List, [], ◌∷◌, ◌++◌, length, Option, Some, None, slice_get, slice_set}
use Rattle.std.proofs.Common.{zero, suc}
use Rattle.txn_kv.specs.declared.request.Request.{Request}
use Rattle.txn_kv.specs.declared.request.Request.TheVariants.{Members}
use Rattle.txn_kv.specs.declared.reply.Reply.{Reply}
use Rattle.txn_kv.specs.declared.ticket.Ticket.{Ticket}
use Rattle.txn_model.specs.Store.{Store, opening}
use Rattle.txn_model.specs.Table.{table}
use Rattle.txn_post.specs.Mail.{Mail, changing, no_mail, sending, sleeping}
use Rattle.txn_post.specs.Mail as mails
use Rattle.txn_post.specs.declared.letter.Letter.{Letter}
use Rattle.txn_report.specs.declared.outcome.Outcome.{Outcome}
use Rattle.txn_report.specs.declared.outcome.Outcome.TheVariants.{Unfinished}
use Rattle.txn_report.specs.declared.report.SentNote.{SentNote}
use Rattle.txn_side.specs.Sight.{Sight, nobody}
use Rattle.txn_side.specs.Sight as sights
use Rattle.txn_side.specs.declared.turn.Ending.{Ending}
use Rattle.txn_side.specs.declared.turn.Posting.{Posting}
use Rattle.txn_side.specs.declared.turn.Posting.TheVariants.{Send, Sleep}

-- The store, the mail, what is seen of the clients, and for each line its outcome and the line in whose step that came, 0 where it
-- is unfinished; the tickets of the requests that the store handled, in order.
pub record Lists : Type 0 where
  pub store : Store
  pub mail : Mail
  pub sight : Sight
  pub outcomes : List Outcome
  pub ended : List ℕ
  pub served : List Ticket

-- before the first line
abbrev pub nothing : Lists
nothing = record { store = opening; mail = no_mail; sight = nobody; outcomes = []; ended = []; served = [] }

-- the number of the newest line
abbrev pub newest : Lists → ℕ
newest l = length l.outcomes

-- one line more, of which nothing is said yet
abbrev pub opened : Lists → Lists
opened l = record l {
  mail = mails.opened l.mail;
  sight = sights.opened l.sight;
  outcomes = l.outcomes ++ Unfinished ∷ [];
  ended = l.ended ++ 0 ∷ [];
}

abbrev pub with_sight : Sight → Lists → Lists
with_sight s l = record l { sight = s }

abbrev pub with_store : Store → Lists → Lists
with_store st l = record l { store = st }

abbrev pub with_mail : Mail → Lists → Lists
with_mail mail l = record l { mail = mail }

-- what stands at a line is replaced
abbrev pub at_line : {A : Type 0} → List A → ℕ → A → List A
at_line xs zero x = xs
at_line xs (suc i) x = slice_set xs i x

-- the outcome of a line comes in the step of the newest
abbrev pub ended_at : ℕ → Outcome → Lists → Lists
ended_at line o l = record l { outcomes = at_line l.outcomes line o; ended = at_line l.ended line (newest l) }

-- the outcome of the newest line comes at once
abbrev pub outright : Outcome → Lists → Lists
outright o l = ended_at (newest l) o l

abbrev pub all_ended : List Ending → Lists → Lists
all_ended [] l = l
all_ended (e ∷ es) l = all_ended es (ended_at e.line e.outcome l)

-- it is sent, or begins, in the step of line `at`
abbrev pub posted_at : ℕ → Posting → Mail → Mail
posted_at at (Send t to r askers) mail = sending (record { ticket = t; at = at; to = to; request = r; askers = askers }) mail
posted_at at (Sleep t) mail = sleeping (record { ticket = t; at = at }) mail

abbrev pub all_posted : ℕ → List Posting → Mail → Mail
all_posted at [] mail = mail
all_posted at (p ∷ ps) mail = all_posted at ps (posted_at at p mail)

-- in the step of the newest line this is posted, and these calls end
abbrev pub followed : List Posting → List Ending → Lists → Lists
followed posted ended l = all_ended ended (with_mail (all_posted (newest l) posted l.mail) l)

-- Requests

abbrev pub some_request : Request
some_request = Members (record {})

abbrev pub request_in : Option SentNote → Request
request_in None = some_request
request_in (Some note) = note.request

-- the request at a place
abbrev pub request_at : Lists → ℕ → Request
request_at l place = request_in (slice_get l.mail.sent place)

-- the store's reply to it
abbrev pub reply_at : Lists → ℕ → Reply
reply_at l place = (table l.store (request_at l place)).reply

-- what became of it changes
abbrev pub fated : (Letter → Letter) → ℕ → Lists → Lists
fated change place l = with_mail (changing change place l.mail) l

-- the store handles the request at a place, which this ticket names
abbrev pub handled : Ticket → ℕ → Lists → Lists
handled t place l = record l { store = (table l.store (request_at l place)).store; served = l.served ++ t ∷ [] }
