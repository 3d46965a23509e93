-- A plan that is sent to every store.
use Rattle.std.specs.Prelude.{◌≡◌, ◌⊎◌, ⊤, ℕ, ◌*◌, false, List, length, map, max, Option, Some, None, Result, Ok, Err}
use Rattle.std.specs.Global.{Global, Vec}
use Rattle.std.specs.List.{AllZip}
use Rattle.txn_history.specs.Event.{Event}
use Rattle.txn_history.specs.Meaning.{IsUnbegun, Meaning}
use Rattle.txn_history.specs.Phase.{Awaited, Phase}
use Rattle.txn_history.specs.Phase.Phase.{Fresh, Running, Over, GivenUp}
use Rattle.txn_history.specs.Posted.{Posted}
use Rattle.txn_kv.specs.ErrorView.{ErrorView}
use Rattle.txn_kv.specs.declared.backoff.Backoff.{Backoff}
use Rattle.txn_kv.specs.declared.errors.Error.{Error}
use Rattle.txn_kv.specs.declared.message.RegionErr.{RegionErr}
use Rattle.txn_kv.specs.declared.message.StoreMeta.{StoreMeta}
use Rattle.txn_kv.specs.declared.query.PdAnswer.TheVariants as answer
use Rattle.txn_kv.specs.declared.query.PdQuery.TheVariants as query
use Rattle.txn_kv.specs.declared.request.Request.{Request}
use Rattle.txn_plan.specs.LookUp.{looked_up}
use Rattle.txn_region.specs.declared.store.Store.{Store}
use Rattle.txn_search.specs.Search.{search_phase, search_waits, IsOut}
use Rattle.txn_search.specs.declared.search_stage.SearchStage.TheVariants as search_stage
use Rattle.txn_stores.specs.Search.{searching, stores_in, GivesStores, IsStoresQuery}
use Rattle.txn_stores.specs.StoreTask.{is_running, store_of, store_task, AreStores, IsTaken, IsTaskOf}
use Rattle.txn_stores.specs.declared.all_stage.AllStage.{AllStage}
use Rattle.txn_stores.specs.declared.all_stage.AllStage.TheVariants as stage
use Rattle.txn_stores.specs.declared.all_stores.RetryableAllStores.{RetryableAllStores}
use Rattle.txn_stores.specs.declared.all_stores.StoreTasks.{StoreTasks}
use Rattle.txn_stores.specs.declared.store_task.StoreTask.{StoreTask}
use Rattle.txn_tasks.specs.Tasks.{tasks_of, tasks_phase, AreReady, LeadsSomewhere, Outcome}
use Rattle.txn_tasks.specs.declared.tasks.Tasks.{Tasks}
use Rattle.txn_tso.specs.Calling.{MayAsk}
use Rattle.txn_tso.specs.Placement.{fresh}

-- The tasks of a plan, for stores with these ids.
abbrev pub store_tasks : {S R : Type 0} → Meaning S (Result R Error) → (R → List ErrorView) → (R → Option RegionErr) → (Store → S → S) → S → List ℕ → Meaning (Tasks (StoreTask S) R) (List (Outcome R))
store_tasks m keys region at_store whole first = tasks_of (store_task m keys region) store_of AreStores (λ t w. IsTaskOf m at_store t w) m.round (λ t. is_running t.stage) whole first

-- these are the ids of the valid stores of an answer to the query for all stores that was taken, in its order
abbrev pub AreFound : List Event → List ℕ → Type 0
AreFound h first = (all : Vec StoreMeta) × looked_up.gives (fresh query.Stores) h (Ok (answer.Stores all)) × (first ≡ stores_in all.items)

-- what was answered by the plan, sent to the store of this id, was taken
pub record IsAnswered {S R : Type 0} (m : Meaning S (Result R Error)) (keys : R → List ErrorView) (region : R → Option RegionErr) (at_store : Store → S → S) (whole : S) (h : List Event) (id : ℕ) (result : Result R Error) : Type 0 where
  pub inner : Result R Error
  pub given : m.gives (at_store (record { id = id }) whole) h inner
  pub taken : IsTaken keys region inner result

-- a result for each valid store, in the order of the answer; or why the stores are not known
abbrev pub AllGive : {S R : Type 0} → Meaning S (Result R Error) → (R → List ErrorView) → (R → Option RegionErr) → (Store → S → S) → S → List Event → Result (Vec (Result R Error)) Error → Type 0
AllGive m keys region at_store whole h (Ok results) = (first : List ℕ) × AreFound h first × AllZip (λ id r. IsAnswered m keys region at_store whole h id r) first results.items
AllGive m keys region at_store whole h (Err why) = GivesStores h (Err why)

abbrev pub all_phase : AllStage → Phase
all_phase stage.Fresh = Fresh
all_phase stage.Searching = Running
all_phase stage.Running = Running
all_phase stage.Over = Over
all_phase stage.Stopped = GivenUp

-- there are tasks, and this holds of them
abbrev pub IfRun : {X : Type 0} → Option X → (X → Type 0) → Type 0
IfRun None P = ⊥
IfRun (Some x) P = P x

abbrev pub ids_of : List Store → List ℕ
ids_of stores = map (λ s. s.id) stores

-- the tasks of some stores
abbrev pub tasks_for : {S R : Type 0} → Meaning S (Result R Error) → (R → List ErrorView) → (R → Option RegionErr) → (Store → S → S) → S → StoreTasks S R → Meaning (Tasks (StoreTask S) R) (List (Outcome R))
tasks_for m keys region at_store whole run = store_tasks m keys region at_store whole (ids_of run.stores.items)

-- the stores were found, and the tasks for them can have arisen from the history
abbrev pub TasksFit : {S R : Type 0} → Meaning S (Result R Error) → (R → List ErrorView) → (R → Option RegionErr) → (Store → S → S) → S → StoreTasks S R → Posted → List Event → Type 0
TasksFit m keys region at_store whole run o h = AreFound h (ids_of run.stores.items) × (tasks_for m keys region at_store whole run).fits run.tasks o h × (tasks_phase run.tasks.stage ≡ Running)

-- nothing was done yet
pub record IsFreshAll {S R : Type 0} (m : Meaning S (Result R Error)) (t : RetryableAllStores S R) : Type 0 where
  pub unbegun : IsUnbegun m t.inner
  pub search : t.search ≡ record { stage = search_stage.Fresh; alloc = t.alloc }
  pub none : t.run ≡ None

abbrev pub AllAt : {S R : Type 0} → Meaning S (Result R Error) → (R → List ErrorView) → (R → Option RegionErr) → (Store → S → S) → RetryableAllStores S R → AllStage → Posted → List Event → Type 0
AllAt m keys region at_store t stage.Fresh o h = IsFreshAll m t
AllAt m keys region at_store t stage.Searching o h = searching.fits t.search o h × (search_phase t.search.stage ≡ Running)
AllAt m keys region at_store t stage.Running o h = IfRun t.run (λ run. TasksFit m keys region at_store t.inner run o h)
AllAt m keys region at_store t stage.Over o h = ⊤
AllAt m keys region at_store t stage.Stopped o h = ⊤

pub record AllFits {S R : Type 0} (m : Meaning S (Result R Error)) (keys : R → List ErrorView) (region : R → Option RegionErr) (at_store : Store → S → S) (t : RetryableAllStores S R) (o : Posted) (h : List Event) : Type 0 where
  pub at : AllAt m keys region at_store t t.stage o h

abbrev pub all_waits : {S R : Type 0} → RetryableAllStores S R → AllStage → Awaited → Type 0
all_waits t stage.Fresh a = ⊥
all_waits t stage.Searching a = search_waits t.search.stage a
all_waits t stage.Running a = IfRun t.run (λ run. LeadsSomewhere run.tasks a)
all_waits t stage.Over a = ⊥
all_waits t stage.Stopped a = ⊥

abbrev pub TasksReady : {S R : Type 0} → Meaning S (Result R Error) → (R → List ErrorView) → (R → Option RegionErr) → Tasks (StoreTask S) R → Type 0
TasksReady m keys region ts = AreReady (store_task m keys region) (λ t. is_running t.stage) ts × (tasks_phase ts.stage ≡ Running)

abbrev pub ReadyAt : {S R : Type 0} → Meaning S (Result R Error) → (R → List ErrorView) → (R → Option RegionErr) → RetryableAllStores S R → AllStage → Type 0
ReadyAt m keys region t stage.Fresh = IsFreshAll m t
ReadyAt m keys region t stage.Searching = IsOut IsStoresQuery t.search.stage × (search_phase t.search.stage ≡ Running) × (t.run ≡ None)
ReadyAt m keys region t stage.Running = IfRun t.run (λ run. TasksReady m keys region run.tasks)
ReadyAt m keys region t stage.Over = ⊤
ReadyAt m keys region t stage.Stopped = ⊤

-- its plan was not started
pub record AllReady {S R : Type 0} (m : Meaning S (Result R Error)) (keys : R → List ErrorView) (region : R → Option RegionErr) (t : RetryableAllStores S R) : Type 0 where
  pub unbegun : IsUnbegun m t.inner
  pub at : ReadyAt m keys region t t.stage

-- what the tasks are left to post, and the greatest number of parts so far: the stores are parts
abbrev pub run_left : {S R : Type 0} → Meaning S (Result R Error) → (R → List ErrorView) → (R → Option RegionErr) → (Store → S → S) → S → Option (StoreTasks S R) → ℕ → ℕ
run_left m keys region at_store whole None n = 0
run_left m keys region at_store whole (Some run) n = (tasks_for m keys region at_store whole run).left run.tasks n

abbrev pub run_width : {S R : Type 0} → Meaning S (Result R Error) → (R → List ErrorView) → (R → Option RegionErr) → (Store → S → S) → S → Option (StoreTasks S R) → ℕ
run_width m keys region at_store whole None = 0
run_width m keys region at_store whole (Some run) = max (length run.stores.items) ((tasks_for m keys region at_store whole run).width run.tasks)

-- Until the stores are known each of n may cost a run of the plan.
abbrev pub all_left : ℕ → ℕ → AllStage → ℕ
all_left whole tasks stage.Fresh = whole
all_left whole tasks stage.Searching = whole
all_left whole tasks stage.Running = tasks
all_left whole tasks stage.Over = 0
all_left whole tasks stage.Stopped = 0

abbrev pub all_bears : {S R : Type 0} → Meaning S (Result R Error) → (R → List ErrorView) → (R → Option RegionErr) → (Store → S → S) → RetryableAllStores S R → AllStage → ℕ → Type 0
all_bears m keys region at_store t stage.Fresh w = ⊤
all_bears m keys region at_store t stage.Searching w = ⊤
all_bears m keys region at_store t stage.Running w = IfRun t.run (λ run. (tasks_for m keys region at_store t.inner run).bears run.tasks w)
all_bears m keys region at_store t stage.Over w = ⊤
all_bears m keys region at_store t stage.Stopped w = ⊤

-- it asks for the stores, and asks what its plan does, sent to some store
abbrev pub AllAsk : {S A : Type 0} → Meaning S A → (Store → S → S) → S → List Event → Request → Type 0
AllAsk m at_store whole h r = MayAsk (fresh query.Stores) h r ⊎ ((store : Store) × m.asks (at_store store whole) h r)

abbrev pub all_stores : {S R : Type 0} → Meaning S (Result R Error) → (R → List ErrorView) → (R → Option RegionErr) → (Store → S → S) → Meaning (RetryableAllStores S R) (Result (Vec (Result R Error)) Error)
all_stores m keys region at_store = record {
  fits = λ t o h. AllFits m keys region at_store t o h;
  asks = λ t h r. AllAsk m at_store t.inner h r;
  gives = λ t h v. AllGive m keys region at_store t.inner h v;
  phase = λ t. all_phase t.stage;
  waits = λ t a. all_waits t t.stage a;
  ready = λ t. AllReady m keys region t;
  round = λ t n. n * m.round t.inner n;
  left = λ t n. all_left (n * m.round t.inner n) (run_left m keys region at_store t.inner t.run n) t.stage;
  width = λ t. run_width m keys region at_store t.inner t.run;
  bears = λ t w. all_bears m keys region at_store t t.stage w;
  fails = λ v. false;
}

-- nothing was done yet
abbrev pub unbegun_all : {S R : Type 0} → S → Backoff → Global → RetryableAllStores S R
unbegun_all inner b alloc = record { inner = inner; backoff = b; search = record { stage = search_stage.Fresh; alloc = alloc }; run = None; stage = stage.Fresh; alloc = alloc }
