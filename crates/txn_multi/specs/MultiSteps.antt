-- What an event makes of a plan over many regions.
use Rattle.std.specs.Prelude.{ℕ, List, Option, Result}
use Rattle.std.specs.Global.{Vec}
use Rattle.txn_history.specs.Arrivals.{arrives}
use Rattle.txn_history.specs.Meaning.{Meaning, Told}
use Rattle.txn_history.specs.Posted.{Posted}
use Rattle.txn_history.specs.Steps.{News, Steps}
use Rattle.txn_history.specs.Turn.{turn_of, Turn}
use Rattle.txn_kv.specs.ErrorView.{ErrorView}
use Rattle.txn_kv.specs.declared.arrival.Arrival.{Arrival}
use Rattle.txn_kv.specs.declared.errors.Error.{Error}
use Rattle.txn_kv.specs.declared.memory.NoMemory.{NoMemory}
use Rattle.txn_kv.specs.declared.message.RegionErr.{RegionErr}
use Rattle.txn_kv.specs.declared.progress.Progress.{Progress}
use Rattle.txn_multi.specs.Multi.{multi}
use Rattle.txn_multi.specs.Touching.{MultiTouches, TaskTouches}
use Rattle.txn_multi.specs.declared.multi_stage.MultiStage.{MultiStage}
use Rattle.txn_multi.specs.declared.multi_region.RetryableMultiRegion.{RetryableMultiRegion}
use Rattle.txn_plan.specs.Touch.{Touch}

abbrev pub MultiSteps : {S R H L C : Type 0} → Meaning S (Result R Error) → (R → List ErrorView) → (R → Option RegionErr) → (S → S → Type 0) → (S → L) → (L → List L → Type 0) → (S → ℕ → ℕ) → Touch C → (Told → Posted → S → S → C → C → Type 0) → News
    → RetryableMultiRegion S R H → RetryableMultiRegion S R H → Posted → Posted → C → C → Turn (Result (Vec (Result R Error)) Error) → Type 0
MultiSteps m keys region is_part load are_cut most t touches news old new from to pd pd' turn =
    Steps (multi m keys region is_part load are_cut most) (λ told o was is x y. MultiTouches t (TaskTouches m keys region t touches) told o was is x y) news old new from to pd pd' turn

-- a plan that stood at this stage takes what came
abbrev pub Takes : {S R H L C : Type 0} → Meaning S (Result R Error) → (R → List ErrorView) → (R → Option RegionErr) → (S → S → Type 0) → (S → L) → (L → List L → Type 0) → (S → ℕ → ℕ)
    → (Touch C → Told → Posted → S → S → C → C → Type 0) → Touch C → Arrival → MultiStage S R H
    → RetryableMultiRegion S R H → RetryableMultiRegion S R H → Posted → Posted → C → C → Result (Progress (Vec (Result R Error))) NoMemory → Type 0
Takes m keys region is_part load are_cut most touches t a stage old new from to pd pd' result =
    MultiSteps m keys region is_part load are_cut most t (touches t) (arrives a from) (record old { stage = stage }) new from to pd pd' (turn_of result)
