-- The calls of a plan over all stores, by where it stands.
use Rattle.std.proofs.Common.{◌≡◌, ◌≢◌, List, refl, ap, subst}
use Rattle.std.proofs.lemmas.Bool.{false≢true}
use Rattle.std.specs.Global.{Vec}
use Rattle.std.specs.Prelude.{⊤, Option, Some, None, Result}
use Rattle.txn_history.proofs.Arriving.{worse, Steps-deaf}
use Rattle.txn_history.proofs.Stepping.{Steps-idle}
use Rattle.txn_history.specs.Arrivals.{arrives, awaited_as}
use Rattle.txn_history.specs.Meaning.{IsLawful, Meaning, Told}
use Rattle.txn_history.specs.Phase.{unheard, Awaited}
use Rattle.txn_history.specs.Phase.Phase.{Fresh, Running}
use Rattle.txn_history.specs.Posted.{HasNumbers, Posted}
use Rattle.txn_history.specs.Steps.{begins, Steps}
use Rattle.txn_history.specs.Turn.{Turn}
use Rattle.txn_kv.specs.ErrorView.{ErrorView}
use Rattle.txn_kv.specs.declared.arrival.Arrival.{Arrival}
use Rattle.txn_kv.specs.declared.errors.Error.{Error}
use Rattle.txn_kv.specs.declared.message.RegionErr.{RegionErr}
use Rattle.txn_region.specs.declared.store.Store.{Store}
use Rattle.txn_search.specs.Search.{search_phase, IsOut}
use Rattle.txn_search.specs.declared.search_stage.SearchStage.TheVariants as search_stage
use Rattle.txn_stores.proofs.AllRunning.{with_run, Tasks-counts, Tasks-goes, Tasks-ready, Tasks-tells}
use Rattle.txn_stores.proofs.AllSearching.{with_search, Search-counts, Search-goes, Search-ready, Search-tells, Start-goes}
use Rattle.txn_stores.proofs.Tasking.{stands}
use Rattle.txn_stores.specs.AllFollows.{SearchFollows, TasksFollow}
use Rattle.txn_stores.specs.AllLaws.{all_stores-lawful}
use Rattle.txn_stores.specs.AllStores.{all_phase, all_stores, all_waits, ids_of, AllAt, AllReady, IfRun, IsFreshAll, ReadyAt, TasksReady}
use Rattle.txn_stores.specs.Search.{searching, IsStoresQuery}
use Rattle.txn_stores.specs.StoreTask.{is_running, store_of, store_task, AreStores, IsTaskOf}
use Rattle.txn_stores.specs.declared.all_stage.AllStage.{AllStage}
use Rattle.txn_stores.specs.declared.all_stage.AllStage.TheVariants as stage
use Rattle.txn_stores.specs.declared.all_stores.RetryableAllStores.{RetryableAllStores}
use Rattle.txn_stores.specs.declared.all_stores.StoreTasks.{StoreTasks}
use Rattle.txn_stores.specs.declared.store_search.StoreSearch.{StoreSearch}
use Rattle.txn_stores.specs.declared.store_task.StoreTask.{StoreTask}
use Rattle.txn_tasks.specs.Tasks.{tasks_phase, Outcome}
use Rattle.txn_tasks.specs.TasksStep.{TasksStep}
use Rattle.txn_tasks.specs.declared.tasks.Tasks.{Tasks}

module _ {S R : Type 0} (m : Meaning S (Result R Error)) (keys : R → List ErrorView) (region : R → Option RegionErr) (at_store : Store → S → S) where
  abbrev plan : Meaning (RetryableAllStores S R) (Result (Vec (Result R Error)) Error)
  plan = all_stores m keys region at_store

  -- The tasks run.

  ready_at : (t : RetryableAllStores S R) (run : StoreTasks S R) → t.stage ≡ stage.Running → t.run ≡ Some run → AllReady m keys region t → TasksReady m keys region run.tasks
  ready_at t run at has r =
      let x : IfRun t.run (λ u. TasksReady m keys region u.tasks) = subst (λ (g : AllStage). ReadyAt m keys region t g) at r.at in
      subst (λ (u : Option (StoreTasks S R)). IfRun u (λ u. TasksReady m keys region u.tasks)) has x

  -- what came is told to them
  pub Running-steps : {C : Type 0} {touches : Told → Posted → StoreTask S → StoreTask S → C → C → Type 0} (a : Arrival)
      {old new : RetryableAllStores S R} {run : StoreTasks S R} {ts' : Tasks (StoreTask S) R} {from to : Posted} {pd pd' : C} (p : Turn (List (Outcome R))) (turn : Turn (Result (Vec (Result R Error)) Error))
      → old.stage ≡ stage.Running → old.run ≡ Some run → AllReady m keys region old
      → TasksStep (store_task m keys region) store_of AreStores (λ t w. IsTaskOf m at_store t w) m.round (λ t. is_running t.stage) touches (arrives a from) run.tasks ts' from to pd pd' p
      → TasksFollow p (with_run old run.stores ts' old.stage) new turn
      → Steps plan (λ told o s t x y. ⊤) (arrives a from) old new from to pd pd' turn
  unfolding arrives
  Running-steps a {old = old} {new = new} {run = run} {ts' = ts'} p turn at has r s f =
      let ready = ready_at old run at has r in
      let goes = s.goes in
      let stood = stands {phase = λ (u : Tasks (StoreTask S) R). tasks_phase u.stage} ready.1 goes in record {
        tells = λ q. Tasks-tells m keys region at_store old new run.stores run.tasks ts' p turn at has stood (s.tells old.inner (ids_of run.stores.items) q) f;
        goes = Tasks-goes m keys region at_store (awaited_as a) old new run.stores run.tasks ts' p turn at has ready.1 goes f;
        counts = Tasks-counts m keys region at_store old new run.stores run.tasks ts' p turn at has (s.counts old.inner (ids_of run.stores.items)) f;
        client = λ q. tt;
        ready = Tasks-ready m keys region at_store old new run.stores old.stage ts' p turn r s.ready stood f;
        numbers = s.numbers;
      }

  -- where the tasks run, there are some
  pub has_tasks : (t : RetryableAllStores S R) → t.stage ≡ stage.Running → t.run ≡ None → AllReady m keys region t → ⊥
  has_tasks t at none r =
      let x : IfRun t.run (λ u. TasksReady m keys region u.tasks) = subst (λ (g : AllStage). ReadyAt m keys region t g) at r.at in
      subst (λ (u : Option (StoreTasks S R)). IfRun u (λ u. TasksReady m keys region u.tasks)) none x

  -- The stores are looked up.

  out_at : (t : RetryableAllStores S R) → t.stage ≡ stage.Searching → AllReady m keys region t → IsOut IsStoresQuery t.search.stage × (search_phase t.search.stage ≡ Running) × (t.run ≡ None)
  out_at t at r = subst (λ (g : AllStage). ReadyAt m keys region t g) at r.at

  -- what came is told to the search
  pub Searching-steps : {C : Type 0} {touches : Told → Posted → StoreSearch → StoreSearch → C → C → Type 0} (a : Arrival)
      {old new : RetryableAllStores S R} {search : StoreSearch} {from via to : Posted} {pd pd' pd'' : C} (p : Turn (Result (Vec Store) Error)) (turn : Turn (Result (Vec (Result R Error)) Error))
      → old.stage ≡ stage.Searching → AllReady m keys region old
      → Steps searching touches (arrives a from) old.search search from via pd pd' p
      → SearchFollows m keys region at_store p (with_search old search) new via to pd' pd'' turn
      → HasNumbers to
      → Steps plan (λ told o s t x y. ⊤) (arrives a from) old new from to pd pd'' turn
  unfolding arrives
  Searching-steps a {old = old} {new = new} {search = search} {from = from} p turn at r s f numbers =
      let out = out_at old at r in
      let goes = s.goes in
      let stood = stands {phase = searching.phase} out.1 goes in record {
        tells = λ q. Search-tells m keys region at_store old new search p (λ h k. (subst (λ (g : AllStage). AllAt m keys region at_store old g from h) at k.at).0) (λ x w. rw at w) stood (s.tells q) f;
        goes = Search-goes m keys region at_store (awaited_as a) old new search p at out.1 goes f;
        counts = Search-counts m keys region at_store old new search p (worse a) (λ n. rw at refl) out.2 s.counts f;
        client = λ q. tt;
        ready = Search-ready m keys region at_store old new search p r.unbegun out.2 s.ready stood f;
        numbers = numbers;
      }

  -- It begins.

  fresh_at : (t : RetryableAllStores S R) → t.stage ≡ stage.Fresh → AllReady m keys region t → IsFreshAll m t
  fresh_at t at r = subst (λ (g : AllStage). ReadyAt m keys region t g) at r.at

  fresh_search : (t : RetryableAllStores S R) → IsFreshAll m t → t.search.stage ≡ search_stage.Fresh
  fresh_search t f = ap (λ (s : StoreSearch). s.stage) f.search

  pub begins_out : (t : RetryableAllStores S R) → t.stage ≡ stage.Fresh → AllReady m keys region t → IsOut IsStoresQuery t.search.stage
  begins_out t at r = rw (fresh_search t (fresh_at t at r)) tt

  pub Begin-steps : {C : Type 0} {touches : Told → Posted → StoreSearch → StoreSearch → C → C → Type 0}
      {old new : RetryableAllStores S R} {search : StoreSearch} {from via to : Posted} {pd pd' pd'' : C} (p : Turn (Result (Vec Store) Error)) (turn : Turn (Result (Vec (Result R Error)) Error))
      → old.stage ≡ stage.Fresh → AllReady m keys region old
      → Steps searching touches begins old.search search from via pd pd' p
      → SearchFollows m keys region at_store p (with_search old search) new via to pd' pd'' turn
      → HasNumbers to
      → Steps plan (λ told o s t x y. ⊤) begins old new from to pd pd'' turn
  unfolding begins
  Begin-steps {old = old} {new = new} {search = search} p turn at r s f numbers =
      let fresh = fresh_at old at r in
      let e = fresh_search old fresh in
      let stood = s.goes.next (ap search_phase e) in record {
        tells = λ q. Search-tells m keys region at_store old new search p (λ h k. rw e tt) (λ x w. absurd (rw e at w)) stood (s.tells q) f;
        goes = Start-goes m keys region at_store old new search p at f;
        counts = Search-counts m keys region at_store old new search p (λ k. absurd (false≢true k)) (λ n. rw at refl) fresh.none s.counts f;
        client = λ q. tt;
        ready = Search-ready m keys region at_store old new search p r.unbegun fresh.none s.ready stood f;
        numbers = numbers;
      }

  -- The call is not for it.

  not_waiting : (t : RetryableAllStores S R) (g : AllStage) (a : Awaited) → g ≢ stage.Searching → g ≢ stage.Running → all_waits t g a → ⊥
  not_waiting t stage.Fresh a s r w = w
  not_waiting t stage.Searching a s r w = s refl
  not_waiting t stage.Running a s r w = r refl
  not_waiting t stage.Over a s r w = w
  not_waiting t stage.Stopped a s r w = w

  pub Deaf-steps : {C : Type 0} → IsLawful m → (a : Arrival) {t : RetryableAllStores S R} {o : Posted} {pd : C} {turn : Turn (Result (Vec (Result R Error)) Error)}
      → AllReady m keys region t → HasNumbers o
      → t.stage ≢ stage.Searching → t.stage ≢ stage.Running
      → turn ≡ unheard (all_phase t.stage)
      → Steps plan (λ told o s t x y. ⊤) (arrives a o) t t o o pd pd turn
  Deaf-steps law a {t = t} ready numbers searches runs e = Steps-deaf a (all_stores-lawful m keys region at_store law) (not_waiting t t.stage (awaited_as a) searches runs) e (λ q. tt) ready numbers

  only_fresh : (g : AllStage) → all_phase g ≡ Fresh → g ≡ stage.Fresh
  only_fresh stage.Fresh e = refl
  only_fresh stage.Searching e = cc
  only_fresh stage.Running e = cc
  only_fresh stage.Over e = cc
  only_fresh stage.Stopped e = cc

  pub Begun-steps : {C : Type 0} → IsLawful m → {t : RetryableAllStores S R} {o : Posted} {pd : C} {turn : Turn (Result (Vec (Result R Error)) Error)}
      → AllReady m keys region t → HasNumbers o
      → t.stage ≢ stage.Fresh
      → turn ≡ unheard (all_phase t.stage)
      → Steps plan (λ told o s t x y. ⊤) begins t t o o pd pd turn
  unfolding begins
  Begun-steps law {t = t} ready numbers other e = Steps-idle (all_stores-lawful m keys region at_store law) (λ k. other (only_fresh t.stage k)) (λ q a heard w. heard) e (λ q. tt) ready numbers

-- a copy of a plan that was not started
pub copied : {S R : Type 0} (s : RetryableAllStores S R) (inner : S) (search : StoreSearch) → s.stage ≡ stage.Fresh → s.run ≡ None → inner ≡ s.inner → search ≡ s.search
    → record s { inner = inner; search = search; run = None; stage = stage.Fresh } ≡ s
copied s inner search fresh none same found = rw (same, found, ← fresh, ← none) refl
