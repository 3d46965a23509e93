-- What a plan over all stores does after a call of its look-up, and of its tasks.
use Rattle.std.specs.Prelude.{◌≡◌, ⊤, ◌*◌, false, List, map, Option, Result, Ok, Err}
use Rattle.std.specs.Global.{Vec}
use Rattle.txn_history.specs.Event.{Event}
use Rattle.txn_history.specs.Meaning.{Expects, Meaning}
use Rattle.txn_history.specs.Moves.{Moves}
use Rattle.txn_history.specs.Phase.{phase_after}
use Rattle.txn_history.specs.Posted.{Posted}
use Rattle.txn_history.specs.Spends.{Spends}
use Rattle.txn_history.specs.Turn.{is_kept, Turn}
use Rattle.txn_history.specs.Turn.Turn.{Stopped, Waits, Ends}
use Rattle.txn_kv.specs.ErrorView.{ErrorView}
use Rattle.txn_kv.specs.declared.errors.Error.{Error}
use Rattle.txn_kv.specs.declared.message.RegionErr.{RegionErr}
use Rattle.txn_region.specs.declared.store.Store.{Store}
use Rattle.txn_retry.specs.Outcome.{in_place}
use Rattle.txn_stores.specs.AllStores.{all_bears, all_left, all_phase, all_waits, ids_of, run_left, run_width, AllAsk, AllFits, AllGive, AreFound, ReadyAt}
use Rattle.txn_stores.specs.declared.all_stage.AllStage.TheVariants as stage
use Rattle.txn_stores.specs.declared.all_stores.RetryableAllStores.{RetryableAllStores}
use Rattle.txn_tasks.specs.Tasks.{Outcome}

-- It goes on, after what is known: so far it waited for nothing more, and owes a run of its plan for each of n stores.
pub record AllGoesOn {S R : Type 0} (m : Meaning S (Result R Error)) (keys : R → List ErrorView) (region : R → Option RegionErr) (at_store : Store → S → S) (known : List Event → Type 0) (old new : RetryableAllStores S R) (from to : Posted) (turn : Turn (Result (Vec (Result R Error)) Error)) : Type 0 where
  pub moves : Moves (AllAsk m at_store old.inner) known (λ h. AllFits m keys region at_store new to h) (λ h v. AllGive m keys region at_store old.inner h v) (λ h. h) from to turn
  pub expects : Expects (λ a. ⊥) (all_waits new new.stage) (λ a. ⊥) from to
  pub next : all_phase new.stage ≡ phase_after turn
  pub inner : new.inner ≡ old.inner
  pub ready : ReadyAt m keys region new new.stage
  pub spends : Spends (λ w. ⊤) (λ w. all_bears m keys region at_store new new.stage w) (λ n. n * m.round old.inner n) (λ n. all_left (n * m.round new.inner n) (run_left m keys region at_store new.inner new.run n) new.stage) (λ n. n * m.round old.inner n) false false 0 0 0 (run_width m keys region at_store new.inner new.run) from to (is_kept turn) false

-- the stores were found
abbrev pub AreFoundIn : List Event → Vec Store → Type 0
AreFoundIn h stores = AreFound h (ids_of stores.items)

abbrev pub SearchFollowsAt : {S R C : Type 0} → Meaning S (Result R Error) → (R → List ErrorView) → (R → Option RegionErr) → (Store → S → S) → Turn (Result (Vec Store) Error) → RetryableAllStores S R → RetryableAllStores S R → Posted → Posted → C → C → Turn (Result (Vec (Result R Error)) Error) → Type 0
SearchFollowsAt m keys region at_store Stopped old new from to pd pd' turn = (turn ≡ Stopped) × (new ≡ record old { stage = stage.Stopped }) × (to ≡ from)
SearchFollowsAt m keys region at_store Waits old new from to pd pd' turn = (turn ≡ Waits) × (new ≡ record old { stage = stage.Searching }) × (to ≡ from) × (pd' ≡ pd)
SearchFollowsAt m keys region at_store (Ends (Ok stores)) old new from to pd pd' turn = AllGoesOn m keys region at_store (λ h. AreFoundIn h stores) old new from to turn
SearchFollowsAt m keys region at_store (Ends (Err why)) old new from to pd pd' turn = (turn ≡ Ends (Err why)) × (new ≡ record old { stage = stage.Over }) × (to ≡ from)

-- after a call of the look-up, which ended so
pub record SearchFollows {S R C : Type 0} (m : Meaning S (Result R Error)) (keys : R → List ErrorView) (region : R → Option RegionErr) (at_store : Store → S → S) (inner : Turn (Result (Vec Store) Error)) (old new : RetryableAllStores S R) (from to : Posted) (pd pd' : C) (turn : Turn (Result (Vec (Result R Error)) Error)) : Type 0 where
  pub at : SearchFollowsAt m keys region at_store inner old new from to pd pd' turn

-- each task has ended so: its result is kept in its place
abbrev pub IsKept : {S R : Type 0} → List (Outcome R) → RetryableAllStores S R → RetryableAllStores S R → Turn (Result (Vec (Result R Error)) Error) → Type 0
IsKept outcomes old new Stopped = new ≡ record old { stage = stage.Stopped }
IsKept outcomes old new Waits = ⊥
IsKept outcomes old new (Ends (Ok results)) = (new ≡ record old { stage = stage.Over }) × (results.items ≡ map in_place outcomes)
IsKept outcomes old new (Ends (Err why)) = ⊥

abbrev pub TasksFollowAt : {S R : Type 0} → Turn (List (Outcome R)) → RetryableAllStores S R → RetryableAllStores S R → Turn (Result (Vec (Result R Error)) Error) → Type 0
TasksFollowAt Stopped old new turn = (turn ≡ Stopped) × (new ≡ record old { stage = stage.Stopped })
TasksFollowAt Waits old new turn = (turn ≡ Waits) × (new ≡ record old { stage = stage.Running })
TasksFollowAt (Ends outcomes) old new turn = IsKept outcomes old new turn

-- after a call of the tasks, which ended so
pub record TasksFollow {S R : Type 0} (inner : Turn (List (Outcome R))) (old new : RetryableAllStores S R) (turn : Turn (Result (Vec (Result R Error)) Error)) : Type 0 where
  pub at : TasksFollowAt inner old new turn
