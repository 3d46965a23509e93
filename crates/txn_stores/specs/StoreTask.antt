-- One task of a plan over all stores.
use Rattle.std.specs.Prelude.{◌≡◌, ◌≢◌, ◌⊎◌, ⊤, ℕ, ◌≤◌, ◌<◌, Bool, true, false, List, [], ◌∷◌, max, Option, Some, None, Result, Ok, Err}
use Rattle.std.specs.Global.{Global}
use Rattle.std.specs.List.{concat}
use Rattle.txn_history.specs.Event.{Event, Has}
use Rattle.txn_history.specs.Event.Event.{Began, Slept}
use Rattle.txn_history.specs.Faults.{is_loss}
use Rattle.txn_history.specs.Meaning.{IsUnbegun, Meaning}
use Rattle.txn_history.specs.Moves.{SameJob}
use Rattle.txn_history.specs.Phase.{Awaited, Phase}
use Rattle.txn_history.specs.Phase.Awaited.{EndOf}
use Rattle.txn_history.specs.Phase.Phase.{Fresh, Running, Over, GivenUp}
use Rattle.txn_history.specs.Posted.{Posted, ticket_of}
use Rattle.txn_kv.specs.Backoff.{is_spent}
use Rattle.txn_kv.specs.declared.backoff.Backoff.{Backoff}
use Rattle.txn_kv.specs.ErrorView.{ErrorView, listed, view_of}
use Rattle.txn_kv.specs.ErrorView.ErrorView.{multiple}
use Rattle.txn_kv.specs.Errors.{IsRegionError}
use Rattle.txn_kv.specs.declared.errors.Error.{Error}
use Rattle.txn_kv.specs.declared.errors.Error.TheVariants.{GrpcAPI}
use Rattle.txn_kv.specs.declared.message.RegionErr.{RegionErr}
use Rattle.txn_kv.specs.declared.ticket.Ticket.{Ticket}
use Rattle.txn_region.specs.declared.store.Store.{Store}
use Rattle.txn_retry.specs.Remedy.{after, delay_ms}
use Rattle.txn_stores.specs.declared.stage.Stage.{Stage}
use Rattle.txn_stores.specs.declared.stage.Stage.TheVariants as stage
use Rattle.txn_stores.specs.declared.store_task.StoreTask.{StoreTask}
use Rattle.txn_tasks.specs.declared.step.Step.{Step}
use Rattle.txn_tasks.specs.declared.step.Step.TheVariants.{End, Parts}

abbrev pub is_running : Stage → Bool
is_running stage.Fresh = false
is_running stage.Running = true
is_running (stage.Sleeping n b) = false
is_running stage.Again = false
is_running stage.Over = false
is_running stage.Stopped = false

abbrev pub stage_phase : Stage → Phase
stage_phase stage.Fresh = Fresh
stage_phase stage.Running = Running
stage_phase (stage.Sleeping n b) = Running
stage_phase stage.Again = Over
stage_phase stage.Over = Over
stage_phase stage.Stopped = GivenUp

-- P, where its plan is under way
abbrev pub IfRuns : Stage → Type 0 → Type 0
IfRuns stage.Fresh P = ⊤
IfRuns stage.Running P = P
IfRuns (stage.Sleeping n b) P = ⊤
IfRuns stage.Again P = ⊤
IfRuns stage.Over P = ⊤
IfRuns stage.Stopped P = ⊤

-- what it waits for, where its plan waits for so much
abbrev pub stage_waits : (Awaited → Type 0) → Stage → Awaited → Type 0
stage_waits plan stage.Fresh a = ⊥
stage_waits plan stage.Running a = plan a
stage_waits plan (stage.Sleeping n b) a = a ≡ EndOf n
stage_waits plan stage.Again a = ⊥
stage_waits plan stage.Over a = ⊥
stage_waits plan stage.Stopped a = ⊥

-- What it is left to post, where its plan is left so much, and a new run posts so much. A task that gave another owes what
-- that one is left to post.
abbrev pub stage_left : ℕ → ℕ → Stage → ℕ
stage_left plan whole stage.Fresh = whole
stage_left plan whole stage.Running = plan
stage_left plan whole (stage.Sleeping n b) = whole
stage_left plan whole stage.Again = whole
stage_left plan whole stage.Over = 0
stage_left plan whole stage.Stopped = 0

-- an attempt of the backoff that was left, and was slept through
pub record IsSlept (b : Backoff) (h : List Event) : Type 0 where
  pub ticket : Ticket
  pub ms : ℕ
  pub delay : delay_ms b ≡ Some ms
  pub began : Has h (Began ticket ms)
  pub slept : Has h (Slept ticket)

-- the request was lost, after which the task sleeps under this number
pub record IsAsleep (lost : List Event → Type 0) (b left : Backoff) (n : ℕ) (o : Posted) (h : List Event) : Type 0 where
  pub loss : lost h
  pub goes_on : left ≡ after b
  pub ms : ℕ
  pub delay : delay_ms b ≡ Some ms
  pub began : Has h (Began (ticket_of o n) ms)
  pub posted : n < o.next

-- its plan answered that the request was lost
abbrev pub IsLost : {S R : Type 0} → Meaning S (Result R Error) → S → List Event → Type 0
IsLost m job h = (ticket : Ticket) × m.gives job h (Err (GrpcAPI ticket))

abbrev pub StageFits : {S R : Type 0} → Meaning S (Result R Error) → StoreTask S → Stage → Posted → List Event → Type 0
StageFits m t stage.Fresh o h = ⊤
StageFits m t stage.Running o h = m.fits t.plan o h × (m.phase t.plan ≡ Running)
StageFits m t (stage.Sleeping n b) o h = IsAsleep (IsLost m t.job) t.backoff b n o h
StageFits m t stage.Again o h = ⊤
StageFits m t stage.Over o h = ⊤
StageFits m t stage.Stopped o h = ⊤

pub record TaskFits {S R : Type 0} (m : Meaning S (Result R Error)) (t : StoreTask S) (o : Posted) (h : List Event) : Type 0 where
  pub at : StageFits m t t.stage o h

-- the copy that runs is one of the job
pub record IsCopy {S A : Type 0} (m : Meaning S A) (plan job : S) : Type 0 where
  pub ready : m.ready plan
  pub same : SameJob m.asks m.gives plan job
  pub less : (n : ℕ) → m.round plan n ≤ m.round job n
  pub runs : m.phase plan ≡ Running

abbrev pub StageReady : {S A : Type 0} → Meaning S A → StoreTask S → Stage → Type 0
StageReady m t stage.Fresh = t.plan ≡ t.job
StageReady m t stage.Running = IsCopy m t.plan t.job
StageReady m t (stage.Sleeping n b) = ⊤
StageReady m t stage.Again = ⊤
StageReady m t stage.Over = ⊤
StageReady m t stage.Stopped = ⊤

-- its job was not started, and may be
pub record TaskReady {S A : Type 0} (m : Meaning S A) (t : StoreTask S) : Type 0 where
  pub unbegun : IsUnbegun m t.job
  pub ready : m.ready t.job
  pub at : StageReady m t t.stage

-- a region error in a reply
abbrev pub IsRefused : Option RegionErr → Error → Type 0
IsRefused None why = ⊥
IsRefused (Some error) why = IsRegionError error why

-- What is answered where the plan answered so. Errors at keys are looked at first, and then an error of the region: each
-- stands in the place of the reply.
abbrev pub IsTaken : {R : Type 0} → (R → List ErrorView) → (R → Option RegionErr) → Result R Error → Result R Error → Type 0
IsTaken keys region (Ok reply) (Ok kept) = (kept ≡ reply) × (keys reply ≡ []) × (region reply ≡ None)
IsTaken keys region (Ok reply) (Err why) = ((keys reply ≢ []) × (view_of why ≡ multiple (listed (keys reply)))) ⊎ ((keys reply ≡ []) × IsRefused (region reply) why)
IsTaken keys region (Err error) (Ok kept) = ⊥
IsTaken keys region (Err error) (Err why) = why ≡ error

abbrev pub is_lost : {R : Type 0} → Result R Error → Bool
is_lost (Ok reply) = false
is_lost (Err error) = is_loss error

-- what its plan answered was taken. A loss is an answer only where no attempt is left.
pub record IsOutcome {S R : Type 0} (m : Meaning S (Result R Error)) (keys : R → List ErrorView) (region : R → Option RegionErr) (job : S) (b : Backoff) (h : List Event) (answer : Result R Error) : Type 0 where
  pub inner : Result R Error
  pub given : m.gives job h inner
  pub taken : IsTaken keys region inner answer
  pub spent : is_lost inner ≡ true → is_spent b ≡ true

-- the task with one attempt less, not started
abbrev pub again : {S : Type 0} → StoreTask S → StoreTask S
again t = record { job = t.job; plan = t.job; store = t.store; backoff = after t.backoff; stage = stage.Fresh; alloc = t.alloc }

-- the request was lost, and an attempt was slept through
pub record IsTriedAgain {S R : Type 0} (m : Meaning S (Result R Error)) (job : S) (b : Backoff) (h : List Event) : Type 0 where
  pub loss : IsLost m job h
  pub slept : IsSlept b h

-- how it ends: with an answer, or with a task of the same job in its place
abbrev pub TaskGives : {S R : Type 0} → Meaning S (Result R Error) → (R → List ErrorView) → (R → Option RegionErr) → StoreTask S → List Event → Step (StoreTask S) R → Type 0
TaskGives m keys region t h (End (Ok answer)) = IsOutcome m keys region t.job t.backoff h answer
TaskGives m keys region t h (End (Err why)) = ⊥
TaskGives m keys region t h (Parts tasks) = (tasks.items ≡ again t ∷ []) × IsTriedAgain m t.job t.backoff h

abbrev pub task_width : {S A : Type 0} → Meaning S A → StoreTask S → ℕ
task_width m t = max 1 (m.width t.plan)

abbrev pub store_task : {S R : Type 0} → Meaning S (Result R Error) → (R → List ErrorView) → (R → Option RegionErr) → Meaning (StoreTask S) (Step (StoreTask S) R)
store_task m keys region = record {
  fits = λ t o h. TaskFits m t o h;
  asks = λ t h r. m.asks t.job h r;
  gives = λ t h s. TaskGives m keys region t h s;
  phase = λ t. stage_phase t.stage;
  waits = λ t a. stage_waits (m.waits t.plan) t.stage a;
  ready = λ t. TaskReady m t;
  round = λ t n. m.round t.job n;
  left = λ t n. stage_left (m.left t.plan n) (m.round t.job n) t.stage;
  width = λ t. task_width m t;
  bears = λ t w. IfRuns t.stage (m.bears t.plan w);
  fails = λ s. false;
}

-- what it is to do: its one store
abbrev pub store_of : {S : Type 0} → StoreTask S → List ℕ
store_of t = t.store.id ∷ []

abbrev pub AreStores : List ℕ → List (List ℕ) → Type 0
AreStores whole parts = concat parts ≡ whole

-- it is for this plan, sent to its store
pub record IsTaskOf {S A : Type 0} (m : Meaning S A) (at_store : Store → S → S) (t : StoreTask S) (whole : S) : Type 0 where
  pub aimed : t.job ≡ at_store t.store whole
  pub less : (n : ℕ) → m.round t.job n ≤ m.round whole n

-- a task for the plan at a store, which was not started
abbrev pub task_at : {S : Type 0} → (Store → S → S) → S → Backoff → Global → Store → StoreTask S
task_at at_store whole b alloc store = record { job = at_store store whole; plan = at_store store whole; store = store; backoff = b; stage = stage.Fresh; alloc = alloc }
