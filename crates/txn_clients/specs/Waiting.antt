-- What the calls of the lines wait for, and what says that each that is open waits for something. A call waits for something where it
-- can have arisen from a history, and so each row that has one keeps a history of its own.
use Rattle.std.specs.Prelude.{IfSome, ◌≡◌, ◌≢◌, ◌⊎◌, ◌<◌, ◌≤◌, ⊤, ℕ, Bool, true, false, List, [], ◌∷◌, ◌++◌, length, map, Option, Some, None, Result, Ok, slice_index_or, slice_set}
use Rattle.std.specs.List.{All, Any}
use Rattle.std.proofs.Common.{suc}
use Rattle.txn_kv.specs.declared.request.Request.{Request}
use Rattle.txn_kv.specs.declared.ticket.Ticket.{Ticket}
use Rattle.txn_history.specs.Among.{IsAmong}
use Rattle.txn_history.specs.Event.{Event, Has}
use Rattle.txn_history.specs.Event.Event.{Sent}
use Rattle.txn_history.specs.Meaning.{Expects, IsLawful}
use Rattle.txn_history.specs.Phase.{Awaited}
use Rattle.txn_history.specs.Phase.{IsPosted as IsErrand}
use Rattle.txn_history.specs.Phase.Awaited.{ReplyTo, EndOf, TimeOf}
use Rattle.txn_history.specs.Phase.Phase.{Fresh, Running}
use Rattle.txn_history.specs.Posted.{AreNumbered, Errand, Posted}
use Rattle.txn_history.specs.Turn.{Turn as CallTurn}
use Rattle.txn_history.specs.Turn.Turn.{Waits}
use Rattle.txn_history.specs.Arrivals.{awaited_as}
use Rattle.txn_kv.specs.declared.arrival.Arrival.TheVariants as arrivals
use Rattle.txn_commit.specs.Ways.{Ways}
use Rattle.txn_core.specs.Going.{TransactionFits}
use Rattle.txn_core.specs.Transaction.{IsOrdered, Standing, begun, is_open}
use Rattle.txn_core.specs.Waiting.{work_waits}
use Rattle.txn_core.specs.declared.options.TransactionOptions.{TransactionOptions}
use Rattle.txn_client.specs.Calls.{CallGives, IsAt, stage_phase, stage_waits}
use Rattle.txn_client.specs.declared.client_answer.ClientAnswer.TheVariants.{Begun}
use Rattle.txn_client.specs.declared.client_call.ClientCall.{ClientCall}
use Rattle.txn_tso.specs.Oracle.{group_or_none}
use Rattle.txn_tso.specs.Oracle.{Answer as Answered}
use Rattle.txn_tso.specs.declared.asker.Asker.{Asker}
use Rattle.txn_side.specs.Sight.{Group, IsAsk, IsOut, Sight, Stand, client_at, lives, next_at, stand_at, ticket_in}
use Rattle.txn_side.specs.Sight.Stand.{Asking, Calling, HasBegun, Idle, IsClient, Past, Working}
use Rattle.txn_side.specs.Waiting.{IsPosted}
use Rattle.txn_side.specs.Waiting as side
use Rattle.txn_side.specs.Waiting.Awaited.{EndOf as SideEnd, ReplyTo as SideReply}
use Rattle.txn_side.specs.declared.turn.Posting.{Posting}
use Rattle.txn_side.specs.Trace.{AreOwn, IsSend, Trace, refused_asks}
use Rattle.txn_side.specs.Trace.CallKind.{OfTransaction}
use Rattle.txn_side.specs.declared.turn.Ending.{Ending}
use Rattle.txn_kv.specs.declared.errors.Error.{Error}
use Rattle.txn_kv.specs.declared.outbox.Errand.TheVariants.{Send}
use Rattle.txn_kv.specs.declared.ticket.Target.{Target}
use Rattle.txn_core.specs.declared.txn_answer.TxnAnswer.{TxnAnswer}
use Rattle.txn_history.specs.Turn.{IfEnds}
use Rattle.txn_clients.specs.Failing.{AnswerRests, AreToldIn, CalledFor, CalledIn, CountedIn, HasReason, EndsMore, FailsAt, HasMet, IfFails, MarkedIn, MayKnow, RetriesIn, ShownIn, owing, posting_in}
use Rattle.txn_clients.specs.Clients.{AreReady, crashed_of, nexts_of, row_at, rows_of, stands_of}
use Rattle.txn_clients.specs.Rows.{Pd, stand_of}
use Rattle.txn_clients.specs.declared.answer.Answer.{Answer}
use Rattle.txn_clients.specs.declared.answer.Answer.TheVariants as answers
use Rattle.txn_clients.specs.declared.client_state.ClientState.{ClientState}
use Rattle.txn_clients.specs.declared.clients.Clients.{Clients}
use Rattle.txn_clients.specs.declared.row.Row.{Row}
use Rattle.txn_clients.specs.declared.row.Row.TheVariants as row
use Rattle.txn_clients.specs.declared.told.Told.{Told}
use Rattle.txn_clients.specs.declared.told.Told.TheVariants as tells

-- What a row waits for

-- The line in whose name what stands at a place posts: its own, or that of the call of a transaction that is open. It is 0 where it
-- posts nothing.
abbrev pub voice : ℕ → Stand → ℕ
voice i Idle = 0
voice i (IsClient c) = 0
voice i (Asking c b) = suc i
voice i (HasBegun c m) = m
voice i (Calling c x b) = 0
voice i (Past c) = 0
voice i (Working c) = suc i

abbrev pub voice_at : {P : Type 0} → List (Row P) → ℕ → ℕ
voice_at rows i = voice i (stand_of (row_at rows i))

-- a job's end is waited for by nobody
abbrev pub wants : {P : Type 0} → Ways P → Row P → Awaited → Type 0
wants w row.Plain a = ⊥
wants w (row.Client c) a = ⊥
wants w (row.Asking c b call) a = stage_waits call.stage a
wants w (row.Begun c t m) a = work_waits w t.work a
wants w (row.Calling c x b) a = ⊥
wants w (row.Past c) a = ⊥
wants w (row.Working c job) a = ⊥

-- some row waits for this in the name of this line
abbrev pub Wants : {P : Type 0} → Ways P → List (Row P) → ℕ → Awaited → Type 0
Wants w rows n a = (i : ℕ) × (voice_at rows i ≡ n) × wants w (row_at rows i) a

-- as a call of its own waits for it
abbrev pub kind : side.Awaited → Awaited
kind (SideReply n) = ReplyTo n
kind (SideEnd n) = EndOf n

-- what the call of a line waits for, but for timestamps
abbrev pub waits_of : {P : Type 0} → Ways P → Clients P → ℕ → side.Awaited → Type 0
waits_of w s n a = Wants w (rows_of s) n (kind a)

-- what was told is not waited for any more
abbrev pub hears : Told → Awaited → Type 0
hears tells.Start a = ⊥
hears (tells.Act x) a = ⊥
hears (tells.Heard x) a = a ≡ awaited_as x

abbrev pub HearsAt : ℕ → Told → ℕ → Awaited → Type 0
HearsAt line told n a = (n ≡ line) × hears told a

-- Its own history

-- no two requests were sent with one ticket, and each ticket has a number below the next of its line
pub record IsKept (nexts : List ℕ) (h : List Event) : Type 0 where
  pub alone : (t : Ticket) (r q : Request) → Has h (Sent t r) → Has h (Sent t q) → q ≡ r
  pub below : (t : Ticket) (r : Request) → Has h (Sent t r) → t.number < next_at nexts t.line

-- It can have arisen from a history of its own, which a trace shows as that of what stands at this line. What explains an error in it
-- has come for the line in whose name it posts, and of each refused ask of that line it has heard once at most.
pub record HasArisen (Fits : List Event → Type 0) (trace : Option Trace) (at line : ℕ) (nexts : List ℕ) : Type 0 where
  pub history : List Event
  pub fits : Fits history
  pub kept : IsKept nexts history
  pub shown : ShownIn trace at history
  pub own : AreOwn line history
  pub counted : CountedIn trace line (refused_asks history)

-- a transaction that a call may answer has the options that its line tells of
abbrev pub WantedIn : {P : Type 0} → Option Trace → ℕ → ClientCall Pd P → Type 0
WantedIn {P} trace at call = (h : List Event) (b : Standing P) → CallGives {C = Pd} call.wanted h (Ok (Begun b)) → RetriesIn trace at b.options.retry_options

-- a call for a timestamp
pub record AskArises {P : Type 0} (trace : Option Trace) (at : ℕ) (o : Posted) (nexts : List ℕ) (call : ClientCall Pd P) : Type 0 where
  pub wanted : WantedIn trace at call
  pub arisen : HasArisen (λ h. IsAt call.stage o h) trace at o.line nexts

-- a transaction whose buffer is in order, and that has the options that its line tells of; which Commit of its primary was lost first it
-- knows from whatever line of it
pub record StandArises {P : Type 0} (w : Ways P) (trace : Option Trace) (at : ℕ) (o : Posted) (nexts : List ℕ) (t : Standing P) : Type 0 where
  pub ordered : IsOrdered t.contents
  pub retries : RetriesIn trace at t.options.retry_options
  pub marked : MarkedIn trace at t
  pub arisen : HasArisen (λ h. TransactionFits w t o h) trace at o.line nexts

abbrev pub RowArises : {P : Type 0} → Ways P → Option Trace → ℕ → Posted → List ℕ → Row P → Type 0
RowArises w trace at o nexts row.Plain = ⊤
RowArises w trace at o nexts (row.Client c) = ⊤
RowArises w trace at o nexts (row.Asking c b call) = AskArises trace at o nexts call
RowArises w trace at o nexts (row.Begun c t m) = StandArises w trace at o nexts t
RowArises w trace at o nexts (row.Calling c x b) = ⊤
RowArises w trace at o nexts (row.Past c) = ⊤
RowArises w trace at o nexts (row.Working c job) = ⊤

-- a call waits, and a transaction that waits for a line has a call open
abbrev pub RowRuns : {P : Type 0} → Row P → Type 0
RowRuns row.Plain = ⊤
RowRuns (row.Client c) = ⊤
RowRuns (row.Asking c b call) = stage_phase call.stage ≡ Running
RowRuns (row.Begun c t m) = m ≢ 0 → is_open t.work ≡ true
RowRuns (row.Calling c x b) = ⊤
RowRuns (row.Past c) = ⊤
RowRuns (row.Working c job) = ⊤

-- it begins with what it is told, or runs before
abbrev pub IsPrepared : {P : Type 0} → Told → Row P → Type 0
IsPrepared tells.Start (row.Asking c b call) = stage_phase call.stage ≡ Fresh
IsPrepared (tells.Act a) (row.Begun c t m) = ⊤
IsPrepared told r = RowRuns r

-- the numbers of no line have fallen
abbrev pub IsRisen : List ℕ → List ℕ → Type 0
IsRisen olds news = (n : ℕ) → next_at olds n ≤ next_at news n

-- its line has posted so much, or more since
pub record IsReached (from to later : Posted) : Type 0 where
  pub line : later.line ≡ from.line
  pub beat : later.beat ≡ from.beat
  pub next : to.next ≤ later.next
  pub next_ask : to.next_ask ≤ later.next_ask

-- What a row is told: it can have arisen from a longer history, on which an error rests that it answers; it waits for no more than it
-- did and posts, and runs on where it does not answer.
pub record RowGoes {P : Type 0} (w : Ways P) (told : Told) (old new : Row P) (from to : Posted) (answer : Option (Answer P)) : Type 0 where
  pub arises : (trace longer : Option Trace) (at : ℕ) → HasMet trace longer from to → CalledFor trace from.line at old → MayKnow trace from told old
      → (nexts news : List ℕ) (o : Posted) → next_at nexts from.line ≤ from.next → IsRisen nexts news → to.next ≤ next_at news from.line → IsReached from to o → RowArises w (owing from.line told trace) at from nexts old → RowArises w longer at o news new × IfSome answer (AnswerRests w longer at from.line)
  pub expects : Expects (wants w old) (wants w new) (hears told) from to
  pub runs : IsPrepared told old → answer ≡ None → RowRuns new

-- a transaction is told of something, or asked for something where it was not busy
pub record StandGoes {P : Type 0} (w : Ways P) (owes : Option Trace → Option Trace) (heard : Awaited → Type 0) (busy : Type 0) (knows : Option Trace → Type 0) (old new : Standing P) (from to : Posted) (turn : CallTurn (Result (TxnAnswer P) Error)) : Type 0 where
  pub arises : (trace longer : Option Trace) (at : ℕ) → HasMet trace longer from to → CalledIn trace from.line at → knows trace
      → (nexts news : List ℕ) (o : Posted) → next_at nexts from.line ≤ from.next → IsRisen nexts news → to.next ≤ next_at news from.line → IsReached from to o → StandArises w (owes trace) at from nexts old → StandArises w longer at o news new × IfEnds turn (IfFails (FailsAt w OfTransaction longer at from.line))
  pub expects : Expects (work_waits w old.work) (work_waits w new.work) heard from to
  pub runs : busy → turn ≡ Waits → is_open new.work ≡ true

-- a transaction that is answered has just begun
abbrev pub IsNewAnswer : {P : Type 0} → Answer P → Type 0
IsNewAnswer (answers.Asked (Ok (Begun b))) = (options : TransactionOptions) × (now : ℕ) × (b ≡ begun b.start options now)
IsNewAnswer a = ⊤

-- a call for a timestamp answers that, and a transaction what it was asked for
abbrev pub IsAnswerOf : {P : Type 0} → Stand → Answer P → Type 0
IsAnswerOf (Asking c b) (answers.Asked v) = ⊤
IsAnswerOf (HasBegun c m) (answers.Called v) = ⊤
IsAnswerOf s a = ⊥

-- The asks for timestamps

abbrev pub asks_of : {P : Type 0} → Clients P → List ℕ
asks_of s = map (λ p. p.next_ask) s.places.items

-- What a client asks for: the asks that wait, those that are out, and the ticket of the request that is.
pub record Book : Type 0 where
  pub queue : List Asker
  pub out : Option (List Asker)
  pub ticket : Option Ticket

abbrev pub blank : Book
blank = record { queue = []; out = None; ticket = None }

abbrev pub book_of : ClientState → Book
book_of c = record { queue = c.oracle.queue; out = c.oracle.out; ticket = c.group }

abbrev pub books_of : {P : Type 0} → Clients P → List Book
books_of s = map book_of s.clients.items

abbrev pub book_at : {P : Type 0} → Clients P → ℕ → Book
book_at s c = slice_index_or (books_of s) c blank

-- this ask of this line is among them
pub record HasAsk (askers : List Asker) (n k : ℕ) : Type 0 where
  pub asker : Asker
  pub among : IsAmong askers asker
  pub line : asker.line ≡ n
  pub ask : asker.ask ≡ k

abbrev pub HasAskOut : Option (List Asker) → ℕ → ℕ → Type 0
HasAskOut None n k = ⊥
HasAskOut (Some askers) n k = HasAsk askers n k

-- it waits, or is out
abbrev pub IsAskedIn : Book → ℕ → ℕ → Type 0
IsAskedIn b n k = HasAsk b.queue n k ⊎ HasAskOut b.out n k

abbrev pub IsThere : {X : Type 0} → Option X → Type 0
IsThere {X} o = (x : X) × (o ≡ Some x)

-- where a request is out, it has a ticket
abbrev pub IsPaired : Book → Type 0
IsPaired b = (b.out ≡ None) ⊎ IsThere b.ticket

-- where asks wait, a request is out
abbrev pub IsQuiet : Book → Type 0
IsQuiet b = (b.queue ≡ []) ⊎ IsThere b.ticket

-- a ticket of a client's request, in the name of a line of its own
pub record IsOwned (stands : List Stand) (c : ℕ) (t : Ticket) : Type 0 where
  pub beat : t.beat ≡ false
  pub own : client_at (stand_at stands t.line) ≡ Some c

-- what is told of an ask is told to the first of these
abbrev pub pends : ℕ → Told → List Asker → List Asker
pends line (tells.Heard (arrivals.Time k x)) rest = record { line = line; beat = false; ask = k } ∷ rest
pends line told rest = rest

-- what a line has posted so far
abbrev pub posted_at : List ℕ → List ℕ → ℕ → Posted
posted_at nexts asks line = record { line = line; beat = false; next = next_at nexts line; next_ask = next_at asks line; sends = [] }

-- What holds of clients between the parts of a step

-- the transaction of a call waits for it
abbrev pub AreCalled : List Stand → Type 0
AreCalled stands = (n c x : ℕ) (b : Bool) → stand_at stands n ≡ Calling c x b → stand_at stands x ≡ HasBegun c n

-- Each row can have arisen from a history of its own. An ask that is waited for, of a client that has not crashed, is with its oracle, or
-- among those that are told now. Nobody waits for the number of a client's request for timestamps. Only of asks that were refused are
-- lines still to be told that.
pub record IsSound {P : Type 0} (w : Ways P) (trace : Option Trace) (rest : List Asker) (s : Clients P) : Type 0 where
  pub told : AreToldIn trace (stands_of (rows_of s))
  pub arisen : (i : ℕ) → RowArises w trace (suc i) (posted_at (nexts_of s) (asks_of s) (voice_at (rows_of s) i)) (nexts_of s) (row_at (rows_of s) i)
  pub called : AreCalled (stands_of (rows_of s))
  pub known : (n c : ℕ) → client_at (stand_at (stands_of (rows_of s)) n) ≡ Some c → c < length (crashed_of s)
  pub asked : (n c k : ℕ) → client_at (stand_at (stands_of (rows_of s)) n) ≡ Some c → lives (crashed_of s) (Some c) ≡ true → Wants w (rows_of s) n (TimeOf k) → IsAskedIn (book_at s c) n k ⊎ HasAsk rest n k
  pub paired : (c : ℕ) → IsPaired (book_at s c)
  pub owned : (c : ℕ) (t : Ticket) → (book_at s c).ticket ≡ Some t → IsOwned (stands_of (rows_of s)) c t
  pub numbered : (c : ℕ) (t : Ticket) → (book_at s c).ticket ≡ Some t → t.number < next_at (nexts_of s) t.line
  pub unwanted : (c : ℕ) (t : Ticket) → (book_at s c).ticket ≡ Some t → Wants w (rows_of s) t.line (ReplyTo t.number) → ⊥
  pub owing : (n : ℕ) → CountedIn trace n 0

abbrev pub AreRunning : {P : Type 0} → List (Row P) → Type 0
AreRunning rows = (i : ℕ) → RowRuns (row_at rows i)

-- all but one
abbrev pub AreRunningBut : {P : Type 0} → ℕ → List (Row P) → Type 0
AreRunningBut at rows = (i : ℕ) → i ≢ at → RowRuns (row_at rows i)

-- They may be called, and the plans of their transactions keep to their laws.
pub record IsReady {P : Type 0} (w : Ways P) (s : Clients P) : Type 0 where
  pub lawful : IsLawful w.plan
  pub rows : AreReady w (rows_of s)
  pub sound : IsSound w None [] s
  pub running : AreRunning (rows_of s)
  pub quiet : (c : ℕ) → IsQuiet (book_at s c)

-- nobody hears what comes for a line
abbrev pub NoneHears : List Stand → ℕ → Stand → Type 0
NoneHears stands line Idle = ⊤
NoneHears stands line (IsClient c) = ⊤
NoneHears stands line (Asking c b) = ⊥
NoneHears stands line (HasBegun c m) = ⊤
NoneHears stands line (Calling c x b) = (d : ℕ) → stand_at stands x ≡ HasBegun d line → ⊥
NoneHears stands line (Past c) = ⊤
NoneHears stands line (Working c) = ⊥

-- it stands at this place, in the name of this line, which is the client's
pub record IsHeard (stands : List Stand) (line at client : ℕ) : Type 0 where
  pub own : client_at (stand_at stands line) ≡ Some client
  pub voiced : voice at (stand_at stands (suc at)) ≡ line

-- What stands at a place was told of something. The others run on, and it does where it has not answered.
abbrev pub RunsOn : {P : Type 0} → Told → ℕ → Option (Answer P) → List (Row P) → List (Row P) → Type 0
RunsOn told at answer rows news = AreRunningBut at rows → IsPrepared told (row_at rows at) → AreRunningBut at news × (answer ≡ None → AreRunning news)

-- A part of a step

-- what is waited for so was posted; asks are told apart
abbrev pub IsMet : List Posting → ℕ → Awaited → Type 0
IsMet posted n (ReplyTo k) = IsPosted posted n (SideReply k)
IsMet posted n (EndOf k) = IsPosted posted n (SideEnd k)
IsMet posted n (TimeOf k) = ⊤

-- more was posted behind what was
abbrev pub Keeps : List Posting → List Posting → Type 0
Keeps from to = (more : List Posting) × (to ≡ from ++ more)

-- It goes on: what is waited for then was waited for before and was not heard, or was posted. Only this client asks.
pub record GoesOn {P : Type 0} (w : Ways P) (trace : Option Trace) (client : ℕ) (Heard : ℕ → Awaited → Type 0) (rest : List Asker) (from to : List Posting) (ended over : List Ending) (s t : Clients P) : Type 0 where
  pub sound : IsSound w (posting_in to trace) rest t
  pub ends : EndsMore w (posting_in to trace) ended over
  pub posted : Keeps from to
  pub lines : (n : ℕ) (a : Awaited) → Wants w (rows_of t) n a → (Wants w (rows_of s) n a × (Heard n a → ⊥)) ⊎ IsMet to n a
  pub outs : (c : ℕ) → (book_at t c).out ≡ (book_at s c).out
  pub tickets : (c : ℕ) → (book_at t c).ticket ≡ (book_at s c).ticket
  pub books : (c : ℕ) → c ≢ client → book_at t c ≡ book_at s c

-- what stands at a place is told of something
pub record TellsRow {P : Type 0} (w : Ways P) (told : Told) (at : ℕ) (s t : Clients P) (from to : Posted) (answer : Option (Answer P)) : Type 0 where
  pub row : Row P
  pub rows : rows_of t ≡ slice_set (rows_of s) at row
  pub stand : stand_of row ≡ stand_of (row_at (rows_of s) at)
  pub goes : RowGoes w told (row_at (rows_of s) at) row from to answer
  pub asks : asks_of t ≡ asks_of s
  pub books : books_of t ≡ books_of s

-- an errand that is waited for so was done: it was posted for the line, or asked of the client's oracle
abbrev pub IsDone : {P : Type 0} → Clients P → List Posting → ℕ → ℕ → Awaited → Type 0
IsDone s posted line client (ReplyTo k) = IsPosted posted line (SideReply k)
IsDone s posted line client (EndOf k) = IsPosted posted line (SideEnd k)
IsDone s posted line client (TimeOf k) = HasAsk (book_at s client).queue line k

-- these have the next numbers, up to this one
pub record IsNumberedTo (next : ℕ) (sends : List Errand) (end : ℕ) : Type 0 where
  pub ask : ℕ
  pub end_ask : ℕ
  pub numbered : AreNumbered next ask sends end end_ask

-- one was posted for the line, whose call waits for it so
pub record PostsOne (line : ℕ) (a : side.Awaited) (from to : List Posting) : Type 0 where
  pub posting : Posting
  pub pushed : to ≡ from ++ posting ∷ []
  pub line_is : (ticket_in posting).line ≡ line
  pub unbeaten : (ticket_in posting).beat ≡ false
  pub awaited : side.awaited_as posting ≡ a

-- one more asks at a client
pub record AsksOne {P : Type 0} (client : ℕ) (asker : Asker) (s t : Clients P) : Type 0 where
  pub book : book_at t client ≡ record (book_at s client) { queue = (book_at s client).queue ++ asker ∷ [] }
  pub books : (c : ℕ) → c ≢ client → book_at t c ≡ book_at s c
  pub asks : asks_of t ≡ asks_of s

-- all errands are done but those that are left
pub record HandsOn {P : Type 0} (line client : ℕ) (all left : List Errand) (from to : List Posting) (s t : Clients P) : Type 0 where
  pub posted : Keeps from to
  pub done : (a : Awaited) → IsErrand all a → IsDone t to line client a ⊎ IsErrand left a
  pub sent : (n : ℕ) (store : Target) (r : Request) → IsAmong all (Send n store r) → Any (IsSend (record { line = line; beat = false; number = n }) r) to ⊎ IsAmong left (Send n store r)
  pub numbers : (end : ℕ) → IsNumberedTo (next_at (nexts_of s) line) all end → IsNumberedTo (next_at (nexts_of t) line) left end
  pub nexts : IsRisen (nexts_of s) (nexts_of t)
  pub asks : asks_of t ≡ asks_of s
  pub outs : (c : ℕ) → (book_at t c).out ≡ (book_at s c).out
  pub tickets : (c : ℕ) → (book_at t c).ticket ≡ (book_at s c).ticket
  pub queued : (n k : ℕ) → HasAsk (book_at s client).queue n k → HasAsk (book_at t client).queue n k
  pub books : (c : ℕ) → c ≢ client → book_at t c ≡ book_at s c

-- Groups

-- a request for timestamps is over: nothing of this client's is out, and those are told that asked
pub record Takes {P : Type 0} (client : ℕ) (given : List Answered) (s t : Clients P) : Type 0 where
  pub askers : map (λ (a : Answered). a.0) given ≡ group_or_none (book_at s client).out
  pub book : book_at t client ≡ record (book_at s client) { out = None; ticket = None }
  pub books : (c : ℕ) → c ≢ client → book_at t c ≡ book_at s c
  pub asks : asks_of t ≡ asks_of s

-- the next group of a client goes out, whose ticket is not set yet, unless one is out or nobody asks
pub record Regroups {X : Type 0} (group : Option X) (old new : Book) : Type 0 where
  pub asked : (n k : ℕ) → IsAskedIn old n k → IsAskedIn new n k
  pub none : group ≡ None → (new ≡ old) × ((new.queue ≡ []) ⊎ IsThere new.out)

pub record RegroupsAt {P X : Type 0} (client : ℕ) (group : Option X) (s t : Clients P) : Type 0 where
  pub book : Regroups group (book_at s client) (book_at t client)
  pub books : (c : ℕ) → c ≢ client → book_at t c ≡ book_at s c
  pub asks : asks_of t ≡ asks_of s

-- a group is sent, and has its ticket
pub record SendsGroup {P : Type 0} (client : ℕ) (from to : List Posting) (s t : Clients P) : Type 0 where
  pub ticket : Ticket
  pub owned : IsOwned (stands_of (rows_of s)) client ticket
  pub number : ticket.number ≡ next_at (nexts_of s) ticket.line
  pub past : ticket.number < next_at (nexts_of t) ticket.line
  pub posted : Keeps from to
  pub nexts : IsRisen (nexts_of s) (nexts_of t)
  pub asks : asks_of t ≡ asks_of s
  pub book : book_at t client ≡ record (book_at s client) { ticket = Some ticket }
  pub books : (c : ℕ) → c ≢ client → book_at t c ≡ book_at s c

-- The next group of a client went out, if anybody asked: what its lines wait for is out then.
pub record SendsOn {P : Type 0} (w : Ways P) (trace : Option Trace) (client : ℕ) (rest : List Asker) (from to : List Posting) (s t : Clients P) : Type 0 where
  pub sound : IsSound w (posting_in to trace) rest t
  pub posted : Keeps from to
  pub quiet : IsQuiet (book_at t client)
  pub books : (c : ℕ) → c ≢ client → book_at t c ≡ book_at s c

-- a client's request has this ticket now
pub record SetsTicket {P : Type 0} (client : ℕ) (ticket : Ticket) (s t : Clients P) : Type 0 where
  pub book : book_at t client ≡ record (book_at s client) { ticket = Some ticket }
  pub books : (c : ℕ) → c ≢ client → book_at t c ≡ book_at s c
  pub asks : asks_of t ≡ asks_of s

-- A request for timestamps is over, and all that asked were told.
pub record EndsGroup {P : Type 0} (w : Ways P) (trace : Option Trace) (client : ℕ) (from to : List Posting) (ended over : List Ending) (s t : Clients P) : Type 0 where
  pub sound : IsSound w (posting_in to trace) [] t
  pub ends : EndsMore w (posting_in to trace) ended over
  pub posted : Keeps from to
  pub lines : (n : ℕ) (a : Awaited) → Wants w (rows_of t) n a → Wants w (rows_of s) n a ⊎ IsMet to n a
  pub ticket : (book_at t client).ticket ≡ None
  pub books : (c : ℕ) → c ≢ client → book_at t c ≡ book_at s c

-- A whole step: what is waited for then was waited for before and was not heard, or was posted.
pub record Steps {P : Type 0} (w : Ways P) (trace : Option Trace) (Heard : ℕ → Awaited → Type 0) (posted : List Posting) (ended : List Ending) (s t : Clients P) : Type 0 where
  pub sound : IsSound w (posting_in posted trace) [] t
  pub ends : All (HasReason w (posting_in posted trace)) ended
  pub running : AreRunning (rows_of t)
  pub quiet : (c : ℕ) → IsQuiet (book_at t c)
  pub lines : (n : ℕ) (a : Awaited) → Wants w (rows_of t) n a → (Wants w (rows_of s) n a × (Heard n a → ⊥)) ⊎ IsMet posted n a

-- what is out is of another client, and was so before, or was posted
abbrev pub GroupsBeside : ℕ → List Posting → Sight → Sight → Type 0
GroupsBeside client posted old new = (g : Group) → IsOut new g → ((c : ℕ) × (c ≢ client) × (slice_index_or old.groups c None ≡ Some g)) ⊎ Any (IsAsk g) posted
