-- What an event makes of one task of a plan over many regions.
use Rattle.std.specs.Prelude.{◌≡◌, ℕ, false, List, Option, Result}
use Rattle.txn_history.specs.Arrivals.{arrives}
use Rattle.txn_history.specs.Meaning.{Meaning, Told}
use Rattle.txn_history.specs.Posted.{Posted}
use Rattle.txn_history.specs.Steps.{News, Steps}
use Rattle.txn_history.specs.Turn.{Turn}
use Rattle.txn_kv.specs.ErrorView.{ErrorView}
use Rattle.txn_kv.specs.declared.arrival.Arrival.{Arrival}
use Rattle.txn_kv.specs.declared.errors.Error.{Error}
use Rattle.txn_kv.specs.declared.memory.NoMemory.{NoMemory}
use Rattle.txn_kv.specs.declared.message.RegionErr.{RegionErr}
use Rattle.txn_multi.specs.Task.{region_task, stage_runs, IsTaskOf}
use Rattle.txn_multi.specs.Touching.{TaskTouches}
use Rattle.txn_multi.specs.declared.stage.Stage.{Stage}
use Rattle.txn_multi.specs.declared.task.RegionTask.{RegionTask}
use Rattle.txn_plan.specs.Touch.{Touch}
use Rattle.txn_tasks.specs.Step.{step_turn, Keeps}
use Rattle.txn_tasks.specs.declared.step.Step.{Step}

pub record TaskSteps {S R H L C : Type 0} (m : Meaning S (Result R Error)) (keys : R → List ErrorView) (region : R → Option RegionErr) (is_part : S → S → Type 0) (load : S → L) (are_cut : L → List L → Type 0) (most : S → ℕ → ℕ)
    (t : Touch C) (touches : Told → Posted → S → S → C → C → Type 0) (news : News)
    (old new : RegionTask S R H) (from to : Posted) (pd pd' : C) (turn : Turn (Step (RegionTask S R H) R)) : Type 0 where
  pub steps : Steps (region_task m keys region is_part load are_cut most) (λ told o was is x y. TaskTouches m keys region t touches told o was is x y) news old new from to pd pd' turn
  pub keeps : Keeps (region_task m keys region is_part load are_cut most) (λ task. load task.job) are_cut (IsTaskOf m is_part most) (λ task. stage_runs task.stage) old new turn
  pub off : stage_runs old.stage ≡ false → stage_runs new.stage ≡ false

-- a task that stood at this stage takes what came
abbrev pub Takes : {S R H L C : Type 0} → Meaning S (Result R Error) → (R → List ErrorView) → (R → Option RegionErr) → (S → S → Type 0) → (S → L) → (L → List L → Type 0) → (S → ℕ → ℕ)
    → (Touch C → Told → Posted → S → S → C → C → Type 0) → Touch C → Arrival → Stage S R H
    → RegionTask S R H → RegionTask S R H → Posted → Posted → C → C → Result (Option (Step (RegionTask S R H) R)) NoMemory → Type 0
Takes m keys region is_part load are_cut most touches t a stage old new from to pd pd' result =
    TaskSteps m keys region is_part load are_cut most t (touches t) (arrives a from) (record old { stage = stage }) new from to pd pd' (step_turn result)
