-- What the calls of clients say that add to a turn, and whole steps.
use Rattle.std.specs.Prelude.{IfSome, ◌≡◌, ◌≢◌, ℕ, Bool, true, List, [], map, Option, Some, None, Result, Ok, slice_index_or}
use Rattle.std.proofs.Common.{suc}
use Rattle.txn_kv.specs.declared.arrival.Arrival.{Arrival}
use Rattle.txn_kv.specs.declared.errors.Error.{Error}
use Rattle.txn_kv.specs.declared.request.Request.{Request}
use Rattle.txn_kv.specs.declared.ticket.Ticket.{Ticket}
use Rattle.txn_history.specs.Event.{Event}
use Rattle.txn_history.specs.Phase.{Awaited}
use Rattle.txn_history.specs.Posted.{Posted}
use Rattle.txn_commit.specs.Ways.{Ways}
use Rattle.txn_core.specs.Transaction.{Standing}
use Rattle.txn_core.specs.declared.txn_answer.TxnAnswer.{TxnAnswer}
use Rattle.txn_client.specs.declared.client_answer.ClientAnswer.{ClientAnswer}
use Rattle.txn_client.specs.declared.client_answer.ClientAnswer.TheVariants.{Begun}
use Rattle.txn_client.specs.declared.client_call.ClientCall.{ClientCall}
use Rattle.txn_tso.specs.declared.asker.Asker.{Asker}
use Rattle.txn_lines.specs.declared.act.Act.{Act}
use Rattle.txn_side.specs.Sight.{Sight, client_at, is_live, line_count, stand_at, with_stand}
use Rattle.txn_side.specs.Sight.Stand.{Calling, HasBegun}
use Rattle.txn_side.specs.Trace.{Trace}
use Rattle.txn_side.specs.Trace.CallKind.{OfTransaction}
use Rattle.txn_side.specs.declared.turn.Turn.{Turn}
use Rattle.txn_clients.specs.Accounts.{account_at}
use Rattle.txn_clients.specs.Arising.{LeadsEnded, LeadsGroup}
use Rattle.txn_clients.specs.Clients.{groups_of, row_at, rows_of, sight_of}
use Rattle.txn_clients.specs.Failing.{AnswerRests, AreGivenIn, AskRests, CalledIn, CameIn, CountedIn, FailsAt, GroupCameIn, IfFails, KnowsAsk, LastIn, MayKnow, outbox_of, owing, owing_all, posting_in, refused_of, refused_out, RetriesIn}
use Rattle.txn_clients.specs.Rows.{Pd}
use Rattle.txn_clients.specs.Waiting.{AreRunningBut, EndsGroup, GoesOn, HearsAt, IsHeard, IsNewAnswer, IsPrepared, IsQuiet, IsReady, IsSound, RowArises, SendsOn, Steps, WantedIn, book_at, pends}
use Rattle.txn_clients.specs.declared.answer.Answer.{Answer}
use Rattle.txn_clients.specs.declared.answer.Answer.TheVariants.{Asked}
use Rattle.txn_clients.specs.declared.clients.Clients.{Clients}
use Rattle.txn_clients.specs.declared.row.Row.{Row}
use Rattle.txn_clients.specs.declared.told.Told.{Told}
use Rattle.txn_clients.specs.declared.told.Told.TheVariants as tells
use Rattle.txn_tso.specs.Oracle.{Answer as Answered}

-- What calls that add to a turn say, for each trace that knows what they are told.

-- sound, after what was posted so far
abbrev pub IsSoundIn : {P : Type 0} → Ways P → Turn → Option Trace → List Asker → Clients P → Type 0
IsSoundIn w u trace rest s = IsSound w (posting_in u.posted.items trace) rest s

abbrev pub TurnGoes : {P : Type 0} → Ways P → Option Trace → ℕ → (ℕ → Awaited → Type 0) → List Asker → Turn → Turn → Clients P → Clients P → Type 0
TurnGoes w trace client Heard rest u v s t = GoesOn w trace client Heard rest u.posted.items v.posted.items u.ended.items v.ended.items s t

-- what follows in the history where this holds of those whose asks are answered
abbrev pub TurnLeads : {P : Type 0} → Ways P → ((Ticket → List ℕ) → List Event → Type 0) → Turn → Turn → Clients P → Clients P → Type 0
TurnLeads w Holds u v s t = LeadsEnded w Holds u.posted.items v.posted.items u.ended.items v.ended.items s t

-- so it is of the first turn of a step, whose request for timestamps is over
abbrev pub GroupLeads : {P : Type 0} → Ways P → ℕ → (Ticket → Request → Event) → Turn → Turn → Clients P → Clients P → Type 0
GroupLeads w client came u v s t = u.posted.items ≡ [] → u.ended.items ≡ [] → LeadsGroup w client came u.posted.items v.posted.items u.ended.items v.ended.items s t

-- the next group of a client is sent
abbrev pub NextGoes : {P : Type 0} → Ways P → ℕ → Turn → Turn → Clients P → Clients P → Type 0
NextGoes w client u v s t = (trace : Option Trace) (rest : List Asker) → IsSoundIn w u trace rest s → SendsOn w trace client rest u.posted.items v.posted.items s t

-- this is told to what stands at a place
abbrev pub ToldGoes : {P : Type 0} → Ways P → Told → ℕ → ℕ → ℕ → Turn → Turn → Clients P → Clients P → Type 0
ToldGoes w told line at client u v s t = (trace : Option Trace) (rest : List Asker) → client_at (stand_at (sight_of s).stands line) ≡ Some client
    → MayKnow (posting_in u.posted.items trace) (outbox_of line) told (row_at (rows_of s) at)
    → IsSound w (posting_in u.posted.items (owing line told trace)) (pends line told rest) s
    → TurnGoes w trace client (HearsAt line told) rest u v s t

-- and it may have an answer, which is not handed on yet
abbrev pub PushGoes : {P : Type 0} → Ways P → Told → ℕ → ℕ → ℕ → Turn → Turn → Clients P → Clients P → Option (Answer P) → Type 0
PushGoes w told line at client u v s t answer = (trace : Option Trace) (rest : List Asker) → IsHeard (sight_of s).stands line at client
    → MayKnow (posting_in u.posted.items trace) (outbox_of line) told (row_at (rows_of s) at)
    → IsSound w (posting_in u.posted.items (owing line told trace)) (pends line told rest) s
    → TurnGoes w trace client (HearsAt line told) rest u v s t × IfSome answer (AnswerRests w (posting_in v.posted.items trace) (suc at) line)

-- this came for a line of a client that has not crashed
abbrev pub CameGoes : {P : Type 0} → Ways P → Arrival → ℕ → Turn → Turn → Clients P → Clients P → Type 0
CameGoes w arrival line u v s t = (trace : Option Trace) (client : ℕ) (rest : List Asker) → is_live (sight_of s) line ≡ true → client_at (stand_at (sight_of s).stands line) ≡ Some client
    → CameIn (posting_in u.posted.items trace) (outbox_of line) arrival
    → IsSound w (posting_in u.posted.items (owing line (tells.Heard arrival) trace)) (pends line (tells.Heard arrival) rest) s
    → TurnGoes w trace client (HearsAt line (tells.Heard arrival)) rest u v s t

-- a call for a timestamp ends with this
abbrev pub AskGoes : {P : Type 0} → Ways P → ℕ → Result (ClientAnswer Pd P) Error → Turn → Turn → Clients P → Clients P → Type 0
AskGoes w line answer u v s t = (trace : Option Trace) (client : ℕ) (rest : List Asker) → AskRests w (posting_in u.posted.items trace) line line answer
    → IfFails (LastIn (posting_in u.posted.items trace) line) answer → IsSoundIn w u trace rest s
    → TurnGoes w trace client (λ n a. ⊥) rest u v s t

-- so does a call of a transaction
abbrev pub CallGoes : {P : Type 0} → Ways P → ℕ → Result (TxnAnswer P) Error → Turn → Turn → Clients P → Clients P → Type 0
CallGoes w line answer u v s t = (trace : Option Trace) (client : ℕ) (rest : List Asker)
    → ((c x : ℕ) (b : Bool) → stand_at (sight_of s).stands line ≡ Calling c x b → IfFails (FailsAt w OfTransaction (posting_in u.posted.items trace) x line) answer)
    → IfFails (LastIn (posting_in u.posted.items trace) line) answer → IsSoundIn w u trace rest s
    → TurnGoes w trace client (λ n a. ⊥) rest u v s t

-- a job starts behind a commit
abbrev pub JobGoes : {P : Type 0} → Ways P → ℕ → ℕ → Turn → Turn → Clients P → Clients P → Type 0
JobGoes w line client u v s t = (trace : Option Trace) (rest : List Asker) → client_at (stand_at (sight_of s).stands line) ≡ Some client → IsSoundIn w u trace rest s
    → TurnGoes w trace client (λ n a. ⊥) rest u v s t

-- these asks were answered
abbrev pub GivenGoes : {P : Type 0} → Ways P → ℕ → List Answered → Turn → Turn → Clients P → Clients P → Type 0
GivenGoes w client given u v s t = (trace : Option Trace) → AreGivenIn trace given
    → IsSound w (posting_in u.posted.items (owing_all (refused_of given) trace)) (map (λ a. a.0) given) s
    → TurnGoes w trace client (λ n a. ⊥) [] u v s t

-- the request that is out for timestamps is over, by this event
abbrev pub GroupGoes : {P : Type 0} → Ways P → ℕ → (Ticket → Request → Event) → Turn → Turn → Clients P → Clients P → Type 0
GroupGoes w client came u v s t = (trace : Option Trace) → GroupCameIn trace (slice_index_or (groups_of s) client None) came
    → IsSound w (posting_in u.posted.items (owing_all (refused_out came (slice_index_or (groups_of s) client None)) trace)) [] s
    → EndsGroup w trace client u.posted.items v.posted.items u.ended.items v.ended.items s t

-- What whole steps say.

-- the newest line asks for a timestamp
abbrev pub AskSteps : {P : Type 0} → Ways P → ClientCall Pd P → Clients P → Clients P → Turn → Type 0
AskSteps w call s t turn = (trace : Option Trace) → IsReady w s → CalledIn trace (line_count (sight_of s)) (line_count (sight_of s)) → WantedIn trace (line_count (sight_of s)) call
    → IsSound w (posting_in [] trace) [] s → Steps w trace (λ n a. ⊥) turn.posted.items turn.ended.items s t

-- or something of a transaction
abbrev pub CallSteps : {P : Type 0} → Ways P → Act → ℕ → Clients P → Clients P → Turn → Type 0
CallSteps w act transaction s t turn = (trace : Option Trace) → IsReady w s → CalledIn trace (line_count (sight_of s)) transaction
    → KnowsAsk trace (line_count (sight_of s)) act (account_at (rows_of s) transaction)
    → IsSound w (posting_in [] trace) [] s → Steps w trace (λ n a. ⊥) turn.posted.items turn.ended.items s t

-- this is told to what stands at a place
abbrev pub ToldSteps : {P : Type 0} → Ways P → Told → ℕ → ℕ → ℕ → Clients P → Clients P → Turn → Type 0
ToldSteps w told line at client s t turn = (trace : Option Trace) → client_at (stand_at (sight_of s).stands line) ≡ Some client
    → MayKnow (posting_in [] trace) (outbox_of line) told (row_at (rows_of s) at)
    → IsSound w (posting_in [] (owing line told trace)) (pends line told []) s
    → ((c : ℕ) → c ≢ client → IsQuiet (book_at s c)) → AreRunningBut at (rows_of s) → IsPrepared told (row_at (rows_of s) at)
    → Steps w trace (HearsAt line told) turn.posted.items turn.ended.items s t

-- What a row has arisen from once a call ended.

-- a call for a timestamp
abbrev pub AskedArises : {P : Type 0} → Ways P → Result (ClientAnswer Pd P) Error → Row P → Type 0
AskedArises w answer row = IsNewAnswer (Asked answer) → (trace : Option Trace) (at line : ℕ) → AskRests w trace at line answer → ((n : ℕ) → CountedIn trace n 0) → (o : Posted) (nexts : List ℕ) → RowArises w trace at o nexts row

-- one by which a transaction begins
abbrev pub BegunArises : {P : Type 0} → Ways P → Standing P → Row P → Type 0
BegunArises {P} w transaction row = IsNewAnswer {P = P} (Asked (Ok (Begun transaction))) → (trace : Option Trace) (at : ℕ) → RetriesIn trace at transaction.options.retry_options → ((n : ℕ) → CountedIn trace n 0) → (o : Posted) (nexts : List ℕ) → RowArises w trace at o nexts row

-- the newest line calls a transaction
abbrev pub calling : ℕ → ℕ → Bool → Sight → Sight
calling client transaction b s = with_stand (line_count s) (Calling client transaction b) (with_stand transaction (HasBegun client (line_count s)) s)
