-- What a machine knows of the history of its lines. Lines stand with the newest first.
use Rattle.std.specs.Prelude.{◌≡◌, ℕ, ◌<◌, false, List, [], ◌∷◌, length, Option, Some, None, reverse, slice_get, is_some}
use Rattle.std.proofs.Common.{suc}
use Rattle.txn_kv.specs.declared.request.Request.{Request}
use Rattle.txn_kv.specs.declared.ticket.Ticket.{Ticket}
use Rattle.txn_history.specs.Event.{Event, sent_request, taken_reply, is_served}
use Rattle.txn_model.specs.Store.{Store}
use Rattle.txn_law.specs.Run.{store_after}
use Rattle.txn_script.specs.declared.line.Line.{Line}
use Rattle.txn_report.specs.declared.outcome.Outcome.{Outcome}
use Rattle.txn_report.specs.declared.report.SentNote.{SentNote}
use Rattle.txn_first.specs.declared.post.Letter.{Letter}
use Rattle.txn_first.specs.Posting.{position}
use Rattle.txn_first.specs.Script.{find, history, served_tickets}
use Rattle.txn_first.specs.Causes.{Causes, Dues}
use Rattle.txn_first.specs.Lists.{Lists, AllAskOne}
use Rattle.txn_first.specs.Rowed.{Fits}
use Rattle.txn_first.specs.Licensed.{Licensed}
use Rattle.txn_first.specs.Counted.{IsCounted}

abbrev pub AllBefore : ℕ → List SentNote → Type 0
AllBefore n [] = Unit {0}
AllBefore n (s ∷ ss) = (s.at < n) × AllBefore n ss

abbrev pub request_of : Option SentNote → Option Request
request_of None = None
request_of (Some s) = Some s.request

-- the request at a place, if there is a place
abbrev pub request_in : List SentNote → Option ℕ → Option Request
request_in sent None = None
request_in sent (Some p) = request_of (slice_get sent p)

-- The store and what was sent are where the history of the lines leaves them.
pub record MailFits (es : List Event) (lines : List Line) (store : Store) (sent : List SentNote) (letters : List Letter) (tickets : List (List ℕ)) (outcomes : List Outcome) (served : List Ticket) : Type 0 where
  pub told : length outcomes ≡ length lines
  pub rowed : length tickets ≡ length lines
  pub lettered : length letters ≡ length sent
  -- these are the events of the lines
  pub is : history sent outcomes lines ≡ es
  -- the store is the table folded over what was served
  pub stored : store ≡ store_after es
  pub handed : served ≡ reverse (served_tickets es)
  -- no request was sent in a later line
  pub before : AllBefore (suc (length lines)) sent
  -- the tickets of each line lead to the places of its requests, and no two tickets to one place
  pub placed : (t : Ticket) (p : ℕ) → position tickets t ≡ Some p → (s : SentNote) × (slice_get sent p ≡ Some s) × (s.ticket ≡ t)
  pub noted : (p : ℕ) (s : SentNote) → slice_get sent p ≡ Some s → position tickets s.ticket ≡ Some p
  pub found : (t : Ticket) → find sent (suc (length lines)) t ≡ request_in sent (position tickets t)
  pub listed : (t : Ticket) → sent_request es t ≡ request_in sent (position tickets t)
  -- nothing became of what was not sent
  pub unsent : (t : Ticket) → sent_request es t ≡ None → (is_served es t ≡ false) × (is_some (taken_reply es t) ≡ false)
  -- a letter says what became of its request
  pub letter : (p : ℕ) (s : SentNote) (v : Letter) → slice_get sent p ≡ Some s → slice_get letters p ≡ Some v → (v.served ≡ is_served es s.ticket) × (v.gone ≡ is_some (taken_reply es s.ticket))

-- The lists of a machine are where these lines leave them, whose events are es.
pub record StandsAt (es : List Event) (l : Lists) (lines : List Line) : Type 0 where
  pub mail : MailFits es lines l.store l.sent l.letters l.tickets l.outcomes l.served
  pub fits : Fits es lines l.store l.rows l.outcomes l.ended
  -- each request for timestamps asks for one
  pub asks : AllAskOne l.sent
  -- the events are a run of the law
  pub licensed : Licensed es l.rows l.outcomes
  -- each line has sent what its call has come to
  pub counted : IsCounted l.sent l.rows
  -- each outcome has its cause
  pub causes : Causes l.sent l.outcomes l.ended lines
  -- after each line, something is out for each call that was open
  pub dues : Dues l.sent l.outcomes l.ended lines
