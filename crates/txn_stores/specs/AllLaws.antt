-- What holds of every plan over all stores.
use Rattle.std.specs.Prelude.{◌≡◌, ℕ, ◌≤◌, List, [], ◌∷◌, Option, Some, None, Result, Ok, Err, refl}
use Rattle.std.proofs.Common.{subst, sym}
use Rattle.std.specs.List.{AllZip}
use Rattle.std.proofs.Math.Nat.{le_refl}
use Rattle.std.specs.Global.{Global, Vec}
use Rattle.txn_history.specs.Event.{Event}
use Rattle.txn_history.specs.Later.{IsLater}
use Rattle.txn_history.specs.Meaning.{IsLawful, IsUnbegun, Meaning, WasPosted}
use Rattle.txn_history.specs.Phase.{Awaited, IsRunning}
use Rattle.txn_history.specs.Phase.Phase.{Running}
use Rattle.txn_history.specs.Posted.{Posted, Within}
use Rattle.txn_kv.specs.ErrorView.{ErrorView}
use Rattle.txn_kv.specs.declared.backoff.Backoff.{Backoff}
use Rattle.txn_kv.specs.declared.errors.Error.{Error}
use Rattle.txn_kv.specs.declared.message.RegionErr.{RegionErr}
use Rattle.txn_kv.specs.declared.query.PdAnswer.TheVariants as answer
use Rattle.txn_kv.specs.declared.query.PdQuery.TheVariants as query
use Rattle.txn_plan.specs.LookUp.{looked_up-lawful}
use Rattle.txn_region.specs.declared.store.Store.{Store}
use Rattle.txn_stores.specs.AllStores.{all_bears, all_phase, all_stores, all_waits, store_tasks, ids_of, unbegun_all, AllAt, AllGive, AllReady, AreFound, IfRun, IsAnswered, TasksFit}
use Rattle.txn_stores.specs.Search.{searching-lawful}
use Rattle.txn_stores.specs.StoreTask.{is_running, store_of, store_task, AreStores, IsTaskOf}
use Rattle.txn_stores.specs.TaskLaws.{store_task-lawful}
use Rattle.txn_stores.specs.declared.all_stage.AllStage.{AllStage}
use Rattle.txn_stores.specs.declared.all_stage.AllStage.TheVariants as stage
use Rattle.txn_stores.specs.declared.all_stores.RetryableAllStores.{RetryableAllStores}
use Rattle.txn_stores.specs.declared.all_stores.StoreTasks.{StoreTasks}
use Rattle.txn_tasks.specs.Lawful.{tasks-lawful}
use Rattle.txn_tasks.specs.Tasks.{LeadsSomewhere}
use Rattle.txn_tso.specs.Placement.{fresh}

pub store_tasks-lawful : {S R : Type 0} (m : Meaning S (Result R Error)) (keys : R → List ErrorView) (region : R → Option RegionErr) (at_store : Store → S → S) (whole : S) (first : List ℕ)
    → IsLawful m → IsLawful (store_tasks m keys region at_store whole first)
store_tasks-lawful m keys region at_store whole first law = tasks-lawful (store_task m keys region) store_of AreStores (λ t w. IsTaskOf m at_store t w) m.round (λ t. is_running t.stage) whole first (store_task-lawful m keys region law)

pub found_longer : (h longer : List Event) (first : List ℕ) → Within h longer → AreFound h first → AreFound longer first
found_longer h longer first w f = (f.0, looked_up-lawful.gives_longer (fresh query.Stores) h longer (Ok (answer.Stores f.0)) w f.1, f.2)

module _ {S R : Type 0} (m : Meaning S (Result R Error)) (keys : R → List ErrorView) (region : R → Option RegionErr) (at_store : Store → S → S) (law : IsLawful m) where
  run_longer : (whole : S) (r : Option (StoreTasks S R)) (o p : Posted) (h longer : List Event) → IsLater o p → Within h longer
      → IfRun r (λ run. TasksFit m keys region at_store whole run o h) → IfRun r (λ run. TasksFit m keys region at_store whole run p longer)
  run_longer whole None o p h longer l w f = absurd f
  run_longer whole (Some run) o p h longer l w f =
      let inner = store_tasks-lawful m keys region at_store whole (ids_of run.stores.items) law in
      (found_longer h longer (ids_of run.stores.items) w f.0, inner.fits_longer run.tasks o p h longer l w f.1, f.2)

  fits_longer : (t : RetryableAllStores S R) (g : AllStage) (o p : Posted) (h longer : List Event) → IsLater o p → Within h longer → AllAt m keys region at_store t g o h → AllAt m keys region at_store t g p longer
  fits_longer t stage.Fresh o p h longer l w f = f
  fits_longer t stage.Searching o p h longer l w f = (searching-lawful.fits_longer t.search o p h longer l w f.0, f.1)
  fits_longer t stage.Running o p h longer l w f = run_longer t.inner t.run o p h longer l w f
  fits_longer t stage.Over o p h longer l w f = tt
  fits_longer t stage.Stopped o p h longer l w f = tt

  answered_longer : (whole : S) (h longer : List Event) (ids : List ℕ) (rs : List (Result R Error)) → Within h longer
      → AllZip (λ id r. IsAnswered m keys region at_store whole h id r) ids rs → AllZip (λ id r. IsAnswered m keys region at_store whole longer id r) ids rs
  answered_longer whole h longer [] [] w z = tt
  answered_longer whole h longer [] (r ∷ rs) w z = absurd z
  answered_longer whole h longer (id ∷ ids) [] w z = absurd z
  answered_longer whole h longer (id ∷ ids) (r ∷ rs) w z = let a = z.0 in
      (record { inner = a.inner; given = law.gives_longer (at_store (record { id = id }) whole) h longer a.inner w a.given; taken = a.taken }, answered_longer whole h longer ids rs w z.1)

  gives_longer : (whole : S) (h longer : List Event) (v : Result (Vec (Result R Error)) Error) → Within h longer → AllGive m keys region at_store whole h v → AllGive m keys region at_store whole longer v
  gives_longer whole h longer (Ok results) w g = (g.0, found_longer h longer g.0 w g.1, answered_longer whole h longer g.0 results.items w g.2)
  gives_longer whole h longer (Err why) w g = (g.0, looked_up-lawful.gives_longer (fresh query.Stores) h longer g.0 w g.1, g.2)

  run_bears : (whole : S) (r : Option (StoreTasks S R)) (w more : ℕ) → w ≤ more
      → IfRun r (λ run. (store_tasks m keys region at_store whole (ids_of run.stores.items)).bears run.tasks w) → IfRun r (λ run. (store_tasks m keys region at_store whole (ids_of run.stores.items)).bears run.tasks more)
  run_bears whole None w more l b = absurd b
  run_bears whole (Some run) w more l b = let inner = store_tasks-lawful m keys region at_store whole (ids_of run.stores.items) law in inner.bears_more run.tasks w more l b

  bears_more : (t : RetryableAllStores S R) (g : AllStage) (w more : ℕ) → w ≤ more → all_bears m keys region at_store t g w → all_bears m keys region at_store t g more
  bears_more t stage.Fresh w more l b = tt
  bears_more t stage.Searching w more l b = tt
  bears_more t stage.Running w more l b = run_bears t.inner t.run w more l b
  bears_more t stage.Over w more l b = tt
  bears_more t stage.Stopped w more l b = tt

  waits_running : (t : RetryableAllStores S R) (g : AllStage) (a : Awaited) → all_waits t g a → all_phase g ≡ Running
  waits_running t stage.Fresh a w = absurd w
  waits_running t stage.Searching a w = refl
  waits_running t stage.Running a w = refl
  waits_running t stage.Over a w = absurd w
  waits_running t stage.Stopped a w = absurd w

  run_waits : (whole : S) (r : Option (StoreTasks S R)) (o : Posted) (h : List Event) → IfRun r (λ run. TasksFit m keys region at_store whole run o h) → (a : Awaited) × IfRun r (λ run. LeadsSomewhere run.tasks a)
  run_waits whole None o h f = absurd f
  run_waits whole (Some run) o h f = let inner = store_tasks-lawful m keys region at_store whole (ids_of run.stores.items) law in inner.waits run.tasks o h f.1 f.2

  something : (t : RetryableAllStores S R) (g : AllStage) (o : Posted) (h : List Event) → AllAt m keys region at_store t g o h → all_phase g ≡ Running → (a : Awaited) × all_waits t g a
  something t stage.Fresh o h f e = absurd (subst IsRunning (sym e) tt)
  something t stage.Searching o h f e = searching-lawful.waits t.search o h f.0 f.1
  something t stage.Running o h f e = run_waits t.inner t.run o h f
  something t stage.Over o h f e = absurd (subst IsRunning (sym e) tt)
  something t stage.Stopped o h f e = absurd (subst IsRunning (sym e) tt)

  run_posted : (whole : S) (r : Option (StoreTasks S R)) (o : Posted) (h : List Event) (a : Awaited) → IfRun r (λ run. TasksFit m keys region at_store whole run o h) → IfRun r (λ run. LeadsSomewhere run.tasks a) → WasPosted o h a
  run_posted whole None o h a f w = absurd f
  run_posted whole (Some run) o h a f w = let inner = store_tasks-lawful m keys region at_store whole (ids_of run.stores.items) law in inner.posted run.tasks o h a f.1 w

  was_posted : (t : RetryableAllStores S R) (g : AllStage) (o : Posted) (h : List Event) (a : Awaited) → AllAt m keys region at_store t g o h → all_waits t g a → WasPosted o h a
  was_posted t stage.Fresh o h a f w = absurd w
  was_posted t stage.Searching o h a f w = searching-lawful.posted t.search o h a f.0 w
  was_posted t stage.Running o h a f w = run_posted t.inner t.run o h a f w
  was_posted t stage.Over o h a f w = absurd w
  was_posted t stage.Stopped o h a f w = absurd w

  pub all_stores-lawful : IsLawful (all_stores m keys region at_store)
  all_stores-lawful = record {
    fits_longer = λ t o p h longer l w f. record { at = fits_longer t t.stage o p h longer l w f.at };
    gives_longer = λ t h longer v w g. gives_longer t.inner h longer v w g;
    bears_more = λ t w more l b. bears_more t t.stage w more l b;
    runs = λ t a w. waits_running t t.stage a w;
    waits = λ t o h f e. something t t.stage o h f.at e;
    posted = λ t o h a f w. was_posted t t.stage o h a f.at w;
  }

-- a plan that was not started fits every history, and owes a run for each store
pub all_stores-unbegun : {S R : Type 0} (m : Meaning S (Result R Error)) (keys : R → List ErrorView) (region : R → Option RegionErr) (at_store : Store → S → S) (inner : S) (b : Backoff) (alloc : Global)
    → IsUnbegun m inner → IsUnbegun (all_stores m keys region at_store) (unbegun_all inner b alloc)
all_stores-unbegun m keys region at_store inner b alloc u = record {
  phase = refl;
  fits = λ o h. record { at = record { unbegun = u; search = refl; none = refl } };
  whole = λ n. le_refl _;
  light = λ w. tt;
}

pub all_stores-ready : {S R : Type 0} (m : Meaning S (Result R Error)) (keys : R → List ErrorView) (region : R → Option RegionErr) (inner : S) (b : Backoff) (alloc : Global)
    → IsUnbegun m inner → AllReady m keys region (unbegun_all inner b alloc)
all_stores-ready m keys region inner b alloc u = record { unbegun = u; at = record { unbegun = u; search = refl; none = refl } }
