-- The lists of a machine, and what each step makes of them.
use Rattle.std.specs.Prelude.{◌≡◌, ℕ, ◌+◌, ◌-◌, ◌≤◌, Bool, true, false, not, ◌&&◌, if◌then◌else◌, List, [], ◌∷◌, ◌++◌, length, Option, Some, None, slice_get, slice_set}
use Rattle.std.specs.List.{flat_map}
use Rattle.std.proofs.Common.{zero, suc}
use Rattle.txn_kv.specs.declared.errors.Error.TheVariants.{OperationAfterCommitError, InternalError}
use Rattle.txn_kv.specs.declared.errors.Internal.TheVariants.{WrongReply}
use Rattle.txn_kv.specs.declared.request.Request.{Request}
use Rattle.txn_kv.specs.declared.request.Request.TheVariants.{Tso}
use Rattle.txn_kv.specs.declared.reply.Reply.{Reply}
use Rattle.txn_kv.specs.declared.reply.Reply.TheVariants.{Tso as Gave}
use Rattle.txn_kv.specs.declared.ticket.Ticket.{Ticket}
use Rattle.txn_kv.specs.declared.ticket.Target.{Target}
use Rattle.txn_kv.specs.declared.ticket.Target.TheVariants.{Placement}
use Rattle.txn_model.specs.Store.{Store}
use Rattle.txn_model.specs.Table.{table}
use Rattle.txn_script.specs.declared.line.Line.{Line}
use Rattle.txn_script.specs.declared.line.Line.TheVariants.{Blank, Client, Begin, Put, Commit, Deliver}
use Rattle.txn_report.specs.declared.outcome.Outcome.{Outcome}
use Rattle.txn_report.specs.declared.outcome.Outcome.TheVariants.{Ok, Err, Unfinished, Done, Skipped}
use Rattle.txn_report.specs.declared.outcome.Payload.TheVariants.{Unit as Nothing, Number}
use Rattle.txn_report.specs.declared.report.SentNote.{SentNote}
use Rattle.txn_first.specs.declared.transaction.Status.{Status}
use Rattle.txn_first.specs.declared.transaction.Status.TheVariants.{Active, StartedCommit, Committed}
use Rattle.txn_first.specs.declared.transaction.Turn.{Turn}
use Rattle.txn_first.specs.declared.transaction.Sending.{Sending}
use Rattle.txn_first.specs.declared.post.Letter.{Letter}
use Rattle.txn_first.specs.declared.machine.Row.{Row}
use Rattle.txn_first.specs.declared.machine.Row.TheVariants.{Plain, Beginning, Running, Committing}
use Rattle.txn_first.specs.declared.machine.Machine.{Machine}
use Rattle.txn_first.specs.Commit.{started, turned, version_in}
use Rattle.txn_first.specs.Standing.{free_status}
use Rattle.txn_first.specs.Posting.{places_of, position, note_of, fresh, outs_at}

pub record Lists : Type 0 where
  pub store : Store
  pub sent : List SentNote
  pub letters : List Letter
  pub tickets : List (List ℕ)
  pub rows : List Row
  pub outcomes : List Outcome
  pub ended : List ℕ
  pub served : List Ticket

abbrev pub lists_of : Machine → Lists
lists_of m = record {
  store = m.store;
  sent = m.post.sent.items;
  letters = m.post.letters.items;
  tickets = m.post.tickets.items;
  rows = m.rows.items;
  outcomes = m.outcomes.items;
  ended = m.ended.items;
  served = m.served.items;
}

-- every ticket that is out, by line and number
abbrev pub outs_of : Lists → List Ticket
outs_of l = flat_map (outs_at l.sent l.letters) l.tickets

-- one row more
abbrev pub opened : Lists → Row → Outcome → ℕ → Lists
opened l row outcome e = record l { tickets = l.tickets ++ [] ∷ []; rows = l.rows ++ row ∷ []; outcomes = l.outcomes ++ outcome ∷ []; ended = l.ended ++ e ∷ [] }

-- the call of a line ends in the step of the newest
abbrev pub ended_at : Lists → ℕ → Outcome → Lists
ended_at l line outcome = record l { outcomes = slice_set l.outcomes (line - 1) outcome; ended = slice_set l.ended (line - 1) (length l.outcomes) }

-- another row stands at a line
abbrev pub row_set : Lists → ℕ → Row → Lists
row_set l line row = record l { rows = slice_set l.rows (line - 1) row }

-- a request of a line is sent in the step of the newest
abbrev pub sent_more : Lists → ℕ → Target → Request → Lists
sent_more l line to request = record l {
  sent = l.sent ++ note_of l.tickets line (length l.outcomes) to request ∷ [];
  letters = l.letters ++ fresh ∷ [];
  tickets = slice_set l.tickets (line - 1) (places_of l.tickets line ++ length l.sent ∷ []);
}

-- the number of the line that comes next
abbrev pub next_of : Lists → ℕ
next_of l = length l.outcomes + 1

abbrev pub row_at : List Row → ℕ → Option Row
row_at rows zero = None
row_at rows (suc i) = slice_get rows i

-- A call goes on: it sends, and it ends.

abbrev pub sent_by : Lists → ℕ → Option Sending → Lists
sent_by l line None = l
sent_by l line (Some s) = sent_more l line s.to s.request

abbrev pub ended_by : Lists → ℕ → Option Outcome → Lists
ended_by l line None = l
ended_by l line (Some o) = ended_at l line o

abbrev pub followed : Lists → ℕ → Turn → Lists
followed l line turn = ended_by (sent_by l line turn.send) line turn.outcome

-- Lines.

abbrev pub ask_one : Request
ask_one = Tso (record { count = 1 })

abbrev pub begins : Lists → Lists
begins l = sent_more (opened l Beginning Unfinished 0) (next_of l) Placement ask_one

abbrev pub standing_in : Option Row → Option Status
standing_in None = None
standing_in (Some Plain) = None
standing_in (Some Beginning) = None
standing_in (Some (Running t)) = free_status t
standing_in (Some (Committing x)) = None

abbrev pub written_in : Lists → ℕ → List ℕ → List ℕ → Option Row → Lists
written_in l x k v None = l
written_in l x k v (Some Plain) = l
written_in l x k v (Some Beginning) = l
written_in l x k v (Some (Running t)) = row_set l x (Running (record t { put = Some (record { key = k; value = v }) }))
written_in l x k v (Some (Committing y)) = l

abbrev pub written : Lists → ℕ → List ℕ → List ℕ → Lists
written l x k v = written_in l x k v (row_at l.rows x)

abbrev pub puts_by : Option Status → Lists → ℕ → List ℕ → List ℕ → Lists
puts_by None l x k v = opened l Plain Skipped (next_of l)
puts_by (Some Active) l x k v = opened (written l x k v) Plain (Ok Nothing) (next_of l)
puts_by (Some StartedCommit) l x k v = opened l Plain (Err OperationAfterCommitError) (next_of l)
puts_by (Some Committed) l x k v = opened l Plain (Err OperationAfterCommitError) (next_of l)

abbrev pub puts : Lists → ℕ → List ℕ → List ℕ → Lists
puts l x k v = puts_by (standing_in (row_at l.rows x)) l x k v

abbrev pub commit_starts : Lists → ℕ → Option Row → Lists
commit_starts l x None = l
commit_starts l x (Some Plain) = l
commit_starts l x (Some Beginning) = l
commit_starts l x (Some (Running t)) = followed (row_set l x (Running (started t (length l.outcomes)).transaction)) (length l.outcomes) (started t (length l.outcomes)).turn
commit_starts l x (Some (Committing y)) = l

-- the newest line begins to commit x
abbrev pub commit_begun : Lists → ℕ → Lists
commit_begun l x = commit_starts l x (row_at l.rows x)

abbrev pub commit_opens : Lists → ℕ → Lists
commit_opens l x = commit_begun (opened l (Committing x) Unfinished 0) x

abbrev pub commits_by : Option Status → Lists → ℕ → Lists
commits_by None l x = opened l Plain Skipped (next_of l)
commits_by (Some Active) l x = commit_opens l x
commits_by (Some StartedCommit) l x = commit_opens l x
commits_by (Some Committed) l x = opened l Plain (Err OperationAfterCommitError) (next_of l)

abbrev pub commits : Lists → ℕ → Lists
commits l x = commits_by (standing_in (row_at l.rows x)) l x

abbrev pub request_at : List SentNote → ℕ → Request
request_at [] p = ask_one
request_at (s ∷ ss) zero = s.request
request_at (s ∷ ss) (suc p) = request_at ss p

-- the store handles the request at a place, and the client takes the reply
abbrev pub handled : Lists → ℕ → Ticket → Lists
handled l p t = record l { store = (table l.store (request_at l.sent p)).store; letters = slice_set l.letters p (record { served = true; gone = true }); served = l.served ++ t ∷ [] }

abbrev pub reply_at : Lists → ℕ → Reply
reply_at l p = (table l.store (request_at l.sent p)).reply

-- the start that a reply gives
abbrev pub start_in : Reply → Option ℕ
start_in (Gave r) = version_in r.timestamp
start_in r = None

abbrev pub begun : Lists → ℕ → Option ℕ → Lists
begun l line None = ended_at (row_set l line Plain) line (Err (InternalError WrongReply))
begun l line (Some s) = ended_at (row_set l line (Running (record { start = s; status = Active; put = None; call = None }))) line (Ok (Number s))

abbrev pub advanced : Lists → ℕ → ℕ → Reply → Option Row → Lists
advanced l x line reply None = l
advanced l x line reply (Some Plain) = l
advanced l x line reply (Some Beginning) = l
advanced l x line reply (Some (Running t)) = followed (row_set l x (Running (turned t reply).transaction)) line (turned t reply).turn
advanced l x line reply (Some (Committing y)) = l

-- the call of a line takes a reply
abbrev pub passed_in : Lists → ℕ → Reply → Option Row → Lists
passed_in l line reply None = l
passed_in l line reply (Some Plain) = l
passed_in l line reply (Some Beginning) = begun l line (start_in reply)
passed_in l line reply (Some (Running t)) = l
passed_in l line reply (Some (Committing x)) = advanced l x line reply (row_at l.rows x)

abbrev pub passed : Lists → ℕ → Reply → Lists
passed l line reply = passed_in l line reply (row_at l.rows line)

abbrev pub waits : Option Letter → Bool
waits None = false
waits (Some letter) = not letter.served && not letter.gone

abbrev pub delivers_at : Option ℕ → Lists → Ticket → Lists
delivers_at None l t = opened l Plain Skipped (next_of l)
delivers_at (Some p) l t = if waits (slice_get l.letters p) then passed (handled (opened l Plain Done (next_of l)) p t) t.line (reply_at l p) else opened l Plain Skipped (next_of l)

abbrev pub delivers : Lists → Ticket → Lists
delivers l t = delivers_at (position l.tickets t) l t

-- what a line makes of the lists
abbrev pub stepped : Lists → Line → Lists
stepped l Blank = opened l Plain Done (next_of l)
stepped l Client = opened l Plain (Ok Nothing) (next_of l)
stepped l (Begin client) = begins l
stepped l (Put x k v) = puts l x k v
stepped l (Commit x) = commits l x
stepped l (Deliver t) = delivers l t

-- What the steps need of the lists.

-- a request for timestamps asks for one
abbrev pub AsksOne : Request → Type 0
AsksOne (Tso r) = r.count ≡ 1
AsksOne r = Unit {0}

abbrev pub AllAskOne : List SentNote → Type 0
AllAskOne [] = Unit {0}
AllAskOne (s ∷ ss) = AsksOne s.request × AllAskOne ss

pub record IsEven (l : Lists) : Type 0 where
  pub tickets : length l.tickets ≡ length l.outcomes
  pub rows : length l.rows ≡ length l.outcomes
  pub ended : length l.ended ≡ length l.outcomes
  pub letters : length l.letters ≡ length l.sent

-- the oracle has given no more timestamps than there are lines, and the clock stands still
pub record IsSound (l : Lists) : Type 0 where
  pub even : IsEven l
  pub asks : AllAskOne l.sent
  pub last : l.store.last ≤ length l.outcomes
  pub clock : l.store.clock ≡ 0
  pub few : length l.outcomes ≤ 65536
