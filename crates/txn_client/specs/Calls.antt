-- A call of a client: for a timestamp, or for a transaction that begins at one.
use Rattle.std.specs.Prelude.{◌≡◌, ⊤, ℕ, List, false, Result, Ok, Err, refl}
use Rattle.std.proofs.Common.{subst, sym}
use Rattle.std.proofs.Math.Nat.{le_refl}
use Rattle.txn_kv.specs.Timestamp.{HasVersion, version_of}
use Rattle.txn_kv.specs.declared.errors.Error.{Error}
use Rattle.txn_kv.specs.declared.query.PdQuery.TheVariants as query
use Rattle.txn_kv.specs.declared.ticket.Ticket.{Ticket}
use Rattle.txn_kv.specs.declared.timestamp.Timestamp.{Timestamp}
use Rattle.txn_history.specs.Event.{Event, Has}
use Rattle.txn_history.specs.Event.Event.{Answered}
use Rattle.txn_history.specs.Later.{IsLater, IsLater-refl}
use Rattle.txn_history.specs.Licence.{WasTimed}
use Rattle.txn_history.specs.Meaning.{IsLawful, IsUnbegun, Meaning, WasPosted}
use Rattle.txn_history.specs.Phase.{Awaited, IsRunning, Phase}
use Rattle.txn_history.specs.Phase.Phase.{Fresh, GivenUp, Over, Running}
use Rattle.txn_history.specs.Posted.{Posted, Within}
use Rattle.txn_history.specs.Turn.{Turn}
use Rattle.txn_history.specs.Turn.Turn.{Stopped, Waits, Ends}
use Rattle.txn_tso.specs.Calling.{members}
use Rattle.txn_tso.specs.Longer.{gives_longer}
use Rattle.txn_tso.specs.Placement.{fresh}
use Rattle.txn_commit.specs.Ways.{Ways}
use Rattle.txn_plan.specs.Timing.{HasBegun, WasUntimed, time_asked, time_asked-lawful}
use Rattle.txn_kv.specs.declared.arrival.Arrival.{Arrival}
use Rattle.txn_kv.specs.declared.arrival.Arrival.TheVariants as arrivals
use Rattle.txn_plan.specs.declared.timestamp_call.TimestampCall.{TimestampCall}
use Rattle.txn_core.specs.Going.{TransactionReady}
use Rattle.txn_core.specs.Transaction.{begun}
use Rattle.txn_client.specs.declared.client_answer.ClientAnswer.{ClientAnswer}
use Rattle.txn_client.specs.declared.client_answer.ClientAnswer.TheVariants.{Begun, Time}
use Rattle.txn_client.specs.declared.client_call.ClientCall.{ClientCall}
use Rattle.txn_client.specs.declared.client_call.Stage.{Stage}
use Rattle.txn_client.specs.declared.client_call.Stage.TheVariants as stage
use Rattle.txn_client.specs.declared.client_call.Wanted.{Wanted}
use Rattle.txn_client.specs.declared.client_call.Wanted.TheVariants as wanted

-- What it answers

-- an ask was answered with this timestamp
abbrev pub WasTold : List Event → Timestamp → Type 0
WasTold h t = (ask : Ticket) × Has h (Answered ask (Ok t))

-- A timestamp is one that an ask was answered with. A transaction has just begun at such a one, with the options that it was
-- wanted with.
abbrev pub IsWanted : {C P : Type 0} → Wanted → List Event → ClientAnswer C P → Type 0
IsWanted wanted.Timestamp h (Time t) = WasTold h t
IsWanted wanted.Timestamp h (Begun b) = ⊥
IsWanted (wanted.Transaction options) h (Time t) = ⊥
IsWanted (wanted.Transaction options) h (Begun b) = (b ≡ begun b.start options b.began) × WasTold h b.start

-- an error says why there is no timestamp
abbrev pub CallGives : {C P : Type 0} → Wanted → List Event → Result (ClientAnswer C P) Error → Type 0
CallGives w h (Ok x) = IsWanted w h x
CallGives w h (Err e) = WasUntimed h e

-- what is made of a timestamp that came at this clock
abbrev pub made : {C P : Type 0} → Wanted → ℕ → Timestamp → ClientAnswer C P
made wanted.Timestamp now t = Time t
made (wanted.Transaction options) now t = Begun (begun t options now)

-- An answer is made of the timestamp that it is told of now; an error may come of whatever it is told.
abbrev pub IsMadeOf : {C P : Type 0} → Wanted → ℕ → Arrival → Result (ClientAnswer C P) Error → Type 0
IsMadeOf w now a (Ok x) = (ask : ℕ) × (t : Timestamp) × (a ≡ arrivals.Time ask (Ok t)) × (x ≡ made w now t)
IsMadeOf w now a (Err e) = ⊤

-- a transaction that it answers may be called, and a timestamp has a version
abbrev pub AnswerReady : {C P : Type 0} → Ways P → Result (ClientAnswer C P) Error → Type 0
AnswerReady w (Ok (Begun b)) = TransactionReady w b
AnswerReady w (Ok (Time t)) = HasVersion t
AnswerReady w (Err e) = ⊤

-- Where it stands: once it is started it stands where its ask does, until that is answered.

abbrev pub stage_phase : Stage → Phase
stage_phase stage.Fresh = Fresh
stage_phase (stage.Asking t) = time_asked.phase t
stage_phase stage.Over = Over
stage_phase stage.Stopped = GivenUp

abbrev pub stage_waits : Stage → Awaited → Type 0
stage_waits stage.Fresh a = ⊥
stage_waits (stage.Asking t) a = time_asked.waits t a
stage_waits stage.Over a = ⊥
stage_waits stage.Stopped a = ⊥

abbrev pub IsAt : Stage → Posted → List Event → Type 0
IsAt stage.Fresh o h = ⊤
IsAt (stage.Asking t) o h = time_asked.fits t o h
IsAt stage.Over o h = ⊤
IsAt stage.Stopped o h = ⊤

-- its ask is out, while it waits for it
abbrev pub CallReady : Stage → Type 0
CallReady stage.Fresh = ⊤
CallReady (stage.Asking t) = time_asked.ready t × (time_asked.phase t ≡ Running)
CallReady stage.Over = ⊤
CallReady stage.Stopped = ⊤

-- one ask is left until it went
abbrev pub stage_left : Stage → ℕ → ℕ
stage_left stage.Fresh n = 1
stage_left (stage.Asking t) n = time_asked.left t n
stage_left stage.Over n = 0
stage_left stage.Stopped n = 0

-- It asks for a timestamp, and sends nothing but requests for the members of the placement driver. Nobody runs it again.
abbrev pub called : {C P : Type 0} → Meaning (ClientCall C P) (Result (ClientAnswer C P) Error)
called = record {
  fits = λ s o h. IsAt s.stage o h;
  asks = λ s h r. r ≡ members;
  gives = λ s h v. CallGives s.wanted h v;
  phase = λ s. stage_phase s.stage;
  waits = λ s a. stage_waits s.stage a;
  ready = λ s. CallReady s.stage;
  round = λ s n. 1;
  left = λ s n. stage_left s.stage n;
  width = λ s. 0;
  bears = λ s w. ⊤;
  fails = λ v. false;
}

-- a call for this that is not started
pub record IsNewCall {C P : Type 0} (w : Wanted) (s : ClientCall C P) : Type 0 where
  pub wants : s.wanted ≡ w
  pub stage : s.stage ≡ stage.Fresh

-- How it goes on

-- it asks, or gives up
abbrev pub Asks : {C P A : Type 0} → ClientCall C P → ClientCall C P → Posted → Posted → Turn A → Type 0
Asks old new from to Stopped = (new ≡ record old { stage = stage.Stopped }) × (to ≡ from)
Asks old new from to Waits = (t : TimestampCall) × HasBegun t from to × (new ≡ record old { stage = stage.Asking t })
Asks old new from to (Ends v) = ⊥

-- it ends with this, or gives up
abbrev pub IsEnded : {C P A : Type 0} → (A → Type 0) → ClientCall C P → ClientCall C P → Turn A → Type 0
IsEnded is old new Stopped = new ≡ record old { stage = stage.Stopped }
IsEnded is old new Waits = ⊥
IsEnded is old new (Ends v) = is v × (new ≡ record old { stage = stage.Over })

-- what its ask was answered, made to an answer of its own
abbrev pub IsMade : {C P : Type 0} → Wanted → ℕ → Result Timestamp Error → Result (ClientAnswer C P) Error → Type 0
IsMade w now (Ok t) v = v ≡ Ok (made w now t)
IsMade w now (Err e) v = v ≡ Err e

-- it follows its ask
abbrev pub Follows : {C P : Type 0} → ℕ → Turn (Result Timestamp Error) → ClientCall C P → ClientCall C P → Turn (Result (ClientAnswer C P) Error) → Type 0
Follows now Stopped old new turn = (turn ≡ Stopped) × (new ≡ record old { stage = stage.Stopped })
Follows now Waits old new turn = (turn ≡ Waits) × (new ≡ old)
Follows now (Ends v) old new turn = IsEnded (IsMade old.wanted now v) old new turn

-- each timestamp that an ask was answered with was given after the ask
abbrev pub AnswersAreGiven : List Event → Type 0
AnswersAreGiven h = (ask : Ticket) (t : Timestamp) → Has h (Answered ask (Ok t)) → WasTimed h ask (version_of t)

-- lemmas

at_longer : (g : Stage) (o p : Posted) (h longer : List Event) → IsLater o p → Within h longer → IsAt g o h → IsAt g p longer
at_longer stage.Fresh o p h longer l w f = tt
at_longer (stage.Asking t) o p h longer l w f = time_asked-lawful.fits_longer t o p h longer l w f
at_longer stage.Over o p h longer l w f = tt
at_longer stage.Stopped o p h longer l w f = tt

untimed_longer : (h longer : List Event) (e : Error) → Within h longer → WasUntimed h e → WasUntimed longer e
untimed_longer h longer e w g = (g.0, gives_longer (fresh query.Time) (Err e) h longer (IsLater-refl g.0) w g.1)

wanted_longer : {C P : Type 0} (x : Wanted) (h longer : List Event) (v : ClientAnswer C P) → Within h longer → IsWanted x h v → IsWanted x longer v
wanted_longer wanted.Timestamp h longer (Time t) w g = (g.0, w _ g.1)
wanted_longer wanted.Timestamp h longer (Begun b) w g = absurd g
wanted_longer (wanted.Transaction options) h longer (Time t) w g = absurd g
wanted_longer (wanted.Transaction options) h longer (Begun b) w g = (g.0, (g.1.0, w _ g.1.1))

call_gives_longer : {C P : Type 0} (x : Wanted) (h longer : List Event) (v : Result (ClientAnswer C P) Error) → Within h longer → CallGives x h v → CallGives x longer v
call_gives_longer x h longer (Ok v) w g = wanted_longer x h longer v w g
call_gives_longer x h longer (Err e) w g = untimed_longer h longer e w g

stage_runs : (g : Stage) (a : Awaited) → stage_waits g a → stage_phase g ≡ Running
stage_runs stage.Fresh a w = absurd w
stage_runs (stage.Asking t) a w = time_asked-lawful.runs t a w
stage_runs stage.Over a w = absurd w
stage_runs stage.Stopped a w = absurd w

something : (g : Stage) (o : Posted) (h : List Event) → IsAt g o h → stage_phase g ≡ Running → (a : Awaited) × stage_waits g a
something stage.Fresh o h f e = absurd (subst IsRunning (sym e) tt)
something (stage.Asking t) o h f e = time_asked-lawful.waits t o h f e
something stage.Over o h f e = absurd (subst IsRunning (sym e) tt)
something stage.Stopped o h f e = absurd (subst IsRunning (sym e) tt)

was_posted : (g : Stage) (o : Posted) (h : List Event) (a : Awaited) → IsAt g o h → stage_waits g a → WasPosted o h a
was_posted stage.Fresh o h a f w = absurd w
was_posted (stage.Asking t) o h a f w = time_asked-lawful.posted t o h a f w
was_posted stage.Over o h a f w = absurd w
was_posted stage.Stopped o h a f w = absurd w

pub called-lawful : {C P : Type 0} → IsLawful (called {C = C} {P = P})
called-lawful = record {
  fits_longer = λ s o p h longer l w f. at_longer s.stage o p h longer l w f;
  gives_longer = λ s h longer v w g. call_gives_longer s.wanted h longer v w g;
  bears_more = λ s w more l b. tt;
  runs = λ s a w. stage_runs s.stage a w;
  waits = λ s o h f e. something s.stage o h f e;
  posted = λ s o h a f w. was_posted s.stage o h a f w;
}

-- a call that is not started
pub new-unbegun : {C P : Type 0} (w : Wanted) (s : ClientCall C P) → IsNewCall w s → IsUnbegun called s
new-unbegun w s n = record {
  phase = rw n.stage refl;
  fits = λ o h. rw n.stage tt;
  whole = λ m. rw n.stage (le_refl 1);
  light = λ m. tt;
}
