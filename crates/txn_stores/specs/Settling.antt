-- What a task does once its plan has answered, or has not.
use Rattle.std.specs.Prelude.{◌≡◌, ⊤, ℕ, Bool, false, List, [], ◌∷◌, Option, Result}
use Rattle.txn_history.specs.Event.{Event}
use Rattle.txn_history.specs.Meaning.{Expects, Meaning}
use Rattle.txn_history.specs.Moves.{Moves}
use Rattle.txn_history.specs.Phase.{phase_after}
use Rattle.txn_history.specs.Posted.{Posted}
use Rattle.txn_history.specs.Spends.{Spends}
use Rattle.txn_history.specs.Turn.{is_kept, IfEnds, Turn}
use Rattle.txn_history.specs.Turn.Turn.{Stopped, Waits, Ends}
use Rattle.txn_kv.specs.ErrorView.{ErrorView}
use Rattle.txn_kv.specs.declared.arrival.Arrival.{Arrival}
use Rattle.txn_kv.specs.declared.arrival.Arrival.TheVariants.{Slept}
use Rattle.txn_kv.specs.declared.backoff.Backoff.{Backoff}
use Rattle.txn_kv.specs.declared.errors.Error.{Error}
use Rattle.txn_kv.specs.declared.message.RegionErr.{RegionErr}
use Rattle.txn_stores.specs.StoreTask.{is_running, stage_left, stage_phase, stage_waits, task_width, IfRuns, StageReady, TaskFits, TaskGives}
use Rattle.txn_stores.specs.declared.stage.Stage.{Stage}
use Rattle.txn_stores.specs.declared.stage.Stage.TheVariants as stage
use Rattle.txn_stores.specs.declared.store_task.StoreTask.{StoreTask}
use Rattle.txn_tasks.specs.Step.{IsEnd}
use Rattle.txn_tasks.specs.declared.step.Step.{Step}
use Rattle.txn_tasks.specs.declared.step.Step.TheVariants.{End, Parts}

-- What it does where so much is known of the history, and its plan `failed` in a way that a new run may better. The plan has
-- nothing left to post, and waits for nothing.
pub record Settles {S R : Type 0} (m : Meaning S (Result R Error)) (keys : R → List ErrorView) (region : R → Option RegionErr) (known : List Event → Type 0) (failed : Bool) (old new : StoreTask S) (from to : Posted) (turn : Turn (Step (StoreTask S) R)) : Type 0 where
  pub moves : Moves (m.asks old.job) known (TaskFits m new to) (TaskGives m keys region old) (λ h. h) from to turn
  pub expects : Expects (λ a. ⊥) (stage_waits (m.waits new.plan) new.stage) (λ a. ⊥) from to
  pub stage : new ≡ record old { stage = new.stage }
  pub next : stage_phase new.stage ≡ phase_after turn
  pub off : is_running new.stage ≡ false
  pub ends : IfEnds turn IsEnd
  pub ready : StageReady m new new.stage
  pub spends : Spends (λ w. ⊤) (λ w. IfRuns new.stage (m.bears new.plan w)) (λ n. 0) (λ n. stage_left (m.left new.plan n) (m.round new.job n) new.stage) (m.round old.job) failed failed 0 0 (task_width m old) (task_width m new) from to (is_kept turn) false

abbrev pub FollowsAt : {S R : Type 0} → Meaning S (Result R Error) → (R → List ErrorView) → (R → Option RegionErr) → Turn (Result R Error) → StoreTask S → StoreTask S → Posted → Posted → Turn (Step (StoreTask S) R) → Type 0
FollowsAt m keys region Stopped old new from to turn = (turn ≡ Stopped) × (new ≡ record old { stage = stage.Stopped }) × (to ≡ from)
FollowsAt m keys region Waits old new from to turn = (turn ≡ Waits) × (new ≡ old) × (to ≡ from)
FollowsAt m keys region (Ends answer) old new from to turn = Settles m keys region (λ h. m.gives old.job h answer) (m.fails answer) old new from to turn

-- What it does after a call of its plan, which ended so.
pub record Follows {S R : Type 0} (m : Meaning S (Result R Error)) (keys : R → List ErrorView) (region : R → Option RegionErr) (inner : Turn (Result R Error)) (old new : StoreTask S) (from to : Posted) (turn : Turn (Step (StoreTask S) R)) : Type 0 where
  pub at : FollowsAt m keys region inner old new from to turn

-- the task with this backoff, not started
abbrev pub again_with : {S : Type 0} → Backoff → StoreTask S → StoreTask S
again_with b t = record { job = t.job; plan = t.job; store = t.store; backoff = b; stage = stage.Fresh; alloc = t.alloc }

-- this ends its sleep, after which the task with this backoff stands in its place
abbrev pub IsWoken : Backoff → Stage → Arrival → Type 0
IsWoken b g a = (n : ℕ) × (g ≡ stage.Sleeping n b) × (a ≡ Slept n)

-- the task with this backoff stands in its place, or it gives up
abbrev pub IsGiven : {S A : Type 0} → Backoff → StoreTask S → StoreTask S → Turn (Step (StoreTask S) A) → Type 0
IsGiven b old new Stopped = new ≡ record old { stage = stage.Stopped }
IsGiven b old new Waits = ⊥
IsGiven b old new (Ends (End answer)) = ⊥
IsGiven b old new (Ends (Parts tasks)) = (new ≡ record old { stage = stage.Again }) × (tasks.items ≡ again_with b old ∷ [])
