-- What stands at a line: as a machine sees it, what its code rests on, and what it may be told.
use Rattle.std.specs.Prelude.{◌≡◌, ◌≢◌, ⊤, ℕ, false, List, ◌++◌, Option, Some, None, Result, Ok, Err}
use Rattle.txn_kv.specs.Timestamp.{HasVersion, version_of}
use Rattle.txn_kv.specs.declared.errors.Error.{Error}
use Rattle.txn_kv.specs.declared.timestamp.Timestamp.{Timestamp}
use Rattle.txn_history.specs.Posted.{AreNumbered, Errand, Posted}
use Rattle.txn_history.specs.Turn.{IfEnds, Turn}
use Rattle.txn_history.specs.Turn.Turn.{Stopped, Waits, Ends}
use Rattle.txn_history.specs.Arrivals.{MayArrive}
use Rattle.txn_kv.specs.declared.arrival.Arrival.{Arrival}
use Rattle.txn_kv.specs.declared.arrival.Arrival.TheVariants as arrivals
use Rattle.txn_region.specs.declared.codec.ApiV1TxnCodec.{ApiV1TxnCodec}
use Rattle.txn_region.specs.declared.pd_rpc_client.PdRpcClient.{PdRpcClient}
use Rattle.txn_commit.specs.Ways.{Ways}
use Rattle.txn_commit.specs.Jobs.{JobReady}
use Rattle.txn_core.specs.Going.{TransactionReady}
use Rattle.txn_core.specs.Transaction.{Standing, is_open}
use Rattle.txn_core.specs.Waiting.{HandsOut}
use Rattle.txn_core.specs.declared.transaction.Work.{Work}
use Rattle.txn_core.specs.declared.txn_answer.TxnAnswer.{TxnAnswer}
use Rattle.txn_client.specs.Calls.{CallReady}
use Rattle.txn_client.specs.declared.client_answer.ClientAnswer.{ClientAnswer}
use Rattle.txn_client.specs.declared.client_answer.ClientAnswer.TheVariants.{Begun, Time}
use Rattle.txn_side.specs.Sight.{Stand}
use Rattle.txn_side.specs.Sight.Stand.{Asking, Calling, HasBegun, Idle, IsClient, Past, Working}
use Rattle.txn_clients.specs.Accounts.{IsQuiet, WantsNew}
use Rattle.txn_clients.specs.declared.answer.Answer.{Answer}
use Rattle.txn_clients.specs.declared.answer.Answer.TheVariants as answers
use Rattle.txn_clients.specs.declared.row.Row.{Row}
use Rattle.txn_clients.specs.declared.row.Row.TheVariants as row
use Rattle.txn_clients.specs.declared.told.Told.{Told}
use Rattle.txn_clients.specs.declared.told.Told.TheVariants as tells

-- what a machine sees of it
abbrev pub stand_of : {P : Type 0} → Row P → Stand
stand_of row.Plain = Idle
stand_of (row.Client c) = IsClient c
stand_of (row.Asking c b call) = Asking c b
stand_of (row.Begun c t m) = HasBegun c m
stand_of (row.Calling c x b) = Calling c x b
stand_of (row.Past c) = Past c
stand_of (row.Working c job) = Working c

-- It may be called. No call is open of a transaction that waits for none, and none of it commits while it may be written. A call
-- begins a transaction that has taken in nothing.
abbrev pub RowReady : {P : Type 0} → Ways P → Row P → Type 0
RowReady w row.Plain = ⊤
RowReady w (row.Client c) = ⊤
RowReady w (row.Asking c b call) = CallReady call.stage × WantsNew call
RowReady w (row.Begun c t m) = TransactionReady w t × (m ≡ 0 → is_open t.work ≡ false) × IsQuiet t
RowReady w (row.Calling c x b) = ⊤
RowReady w (row.Past c) = ⊤
RowReady w (row.Working c job) = JobReady w.plan job

-- no call is open of a transaction that stands here
abbrev pub Rests : {P : Type 0} → Row P → Type 0
Rests (row.Begun c t m) = is_open t.work ≡ false
Rests _ = ⊤

-- the transaction waits for another line
abbrev pub with_waits : {P : Type 0} → ℕ → Row P → Row P
with_waits n (row.Begun c t m) = row.Begun c t n
with_waits n r = r

-- a line asks for something only where no call is open
abbrev pub IsFreeFor : {P : Type 0} → Told → Work P → Type 0
IsFreeFor (tells.Act a) work = is_open work ≡ false
IsFreeFor told work = ⊤

-- it may be told to anyone
abbrev pub MayTell : Told → Type 0
MayTell (tells.Heard a) = MayArrive a
MayTell told = ⊤

-- and to this row: a transaction waits for a call
abbrev pub MayHear : {P : Type 0} → Told → Row P → Type 0
MayHear told (row.Begun c t m) = (m ≢ 0) × IsFreeFor told t.work
MayHear told _ = ⊤

-- What brings a timestamp

abbrev pub IsTime : Result Timestamp Error → ℕ → Type 0
IsTime (Ok t) version = version_of t ≡ version
IsTime (Err e) version = ⊥

-- an ask was answered with this timestamp
abbrev pub Brings : Arrival → ℕ → Type 0
Brings (arrivals.Time ask answer) version = IsTime answer version
Brings arrival version = ⊥

abbrev pub Tells : Told → ℕ → Type 0
Tells (tells.Heard a) version = Brings a version
Tells told version = ⊥

-- What a call posts: behind what there was, under numbers that rise by one.
pub record Posts (from to : Posted) : Type 0 where
  pub sends : List Errand
  pub pushed : to.sends ≡ from.sends ++ sends
  pub numbered : AreNumbered from.next from.next_ask sends to.next to.next_ask

-- What it answers

abbrev pub Pd : Type 0
Pd = PdRpcClient ApiV1TxnCodec

-- a timestamp is in range, and a transaction that begins may be called
abbrev pub AskFits : {P : Type 0} → Ways P → Result (ClientAnswer Pd P) Error → Type 0
AskFits w (Ok (Begun b)) = TransactionReady w b × (is_open b.work ≡ false)
AskFits w (Ok (Time t)) = HasVersion t
AskFits w (Err e) = ⊤

abbrev pub AnswerFits : {P : Type 0} → Ways P → Answer P → Type 0
AnswerFits w (answers.Asked v) = AskFits w v
AnswerFits w (answers.Called v) = HandsOut w.plan v

-- a timestamp that is answered, or at which a transaction begins
abbrev pub IsStamped : {P : Type 0} → Result (ClientAnswer Pd P) Error → ℕ → Type 0
IsStamped (Ok (Begun b)) version = version_of b.start ≡ version
IsStamped (Ok (Time t)) version = version_of t ≡ version
IsStamped (Err e) version = ⊥

-- no timestamp is answered but one that was told
abbrev pub IsToldIn : {P : Type 0} → Told → Answer P → Type 0
IsToldIn told (answers.Asked v) = (version : ℕ) → IsStamped v version → Tells told version
IsToldIn told (answers.Called v) = ⊤

-- the answer that there is, if there is one
abbrev pub answer_in : {A X : Type 0} → (A → X) → Turn A → Option X
answer_in make Stopped = None
answer_in make Waits = None
answer_in make (Ends v) = Some (make v)

-- A transaction was told of something, and has not given up.
pub record IsTold {P : Type 0} (w : Ways P) (new : Standing P) (from to : Posted) (turn : Turn (Result (TxnAnswer P) Error)) : Type 0 where
  pub posts : Posts from to
  pub ready : TransactionReady w new
  pub rests : IfEnds turn (λ v. is_open new.work ≡ false)
  pub hands : IfEnds turn (HandsOut w.plan)
