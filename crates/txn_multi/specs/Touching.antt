-- What a plan over many regions, and its tasks, make of the client that they are lent.
use Rattle.std.specs.Prelude.{◌≡◌, ⊤, ℕ, Bool, true, false, List, [], ◌∷◌, map, Option, Some, None, Result, Ok, Err}
use Rattle.std.specs.Global.{Global}
use Rattle.txn_history.specs.Faults.{is_loss}
use Rattle.txn_history.specs.Meaning.{Meaning, Tells, Told}
use Rattle.txn_history.specs.Posted.{Posted}
use Rattle.txn_history.specs.Turn.Turn.{Ends}
use Rattle.txn_kv.specs.ErrorView.{ErrorView}
use Rattle.txn_kv.specs.declared.backoff.Backoff.{Backoff}
use Rattle.txn_kv.specs.declared.errors.Error.{Error}
use Rattle.txn_kv.specs.declared.message.RegionErr.{RegionErr}
use Rattle.txn_kv.specs.declared.region.RegionVerId.{RegionVerId}
use Rattle.txn_search.specs.Search.{Seeks}
use Rattle.txn_multi.specs.Task.{task_for, IsChanged}
use Rattle.txn_multi.specs.declared.multi_region.RetryableMultiRegion.{RetryableMultiRegion}
use Rattle.txn_multi.specs.declared.multi_stage.MultiStage.{MultiStage}
use Rattle.txn_multi.specs.declared.multi_stage.MultiStage.TheVariants as multi_stage
use Rattle.txn_multi.specs.declared.part.Part.{Part}
use Rattle.txn_multi.specs.declared.stage.Stage.{Stage}
use Rattle.txn_multi.specs.declared.stage.Stage.TheVariants as stage
use Rattle.txn_multi.specs.declared.task.RegionTask.{RegionTask}
use Rattle.txn_plan.specs.Touch.{Touch}
use Rattle.txn_retry.specs.Remedy.{delay_ms, on_loss, on_region_error}
use Rattle.txn_retry.specs.declared.remedy.CacheChange.{CacheChange}
use Rattle.txn_retry.specs.declared.remedy.CacheChange.TheVariants.{Keep}
use Rattle.txn_tasks.specs.Turns.{Starts, Turns}
use Rattle.txn_tasks.specs.declared.tasks.Tasks.{Tasks}

-- Failures.

-- what a reply says of the region that was used: errors at keys are looked at first
abbrev pub change_refused : Option RegionErr → Option ℕ → RegionVerId → CacheChange
change_refused None delay used = Keep
change_refused (Some error) delay used = (on_region_error delay error used).change

abbrev pub change_replied : List ErrorView → Option RegionErr → Option ℕ → RegionVerId → CacheChange
change_replied [] error delay used = change_refused error delay used
change_replied (one ∷ keys) error delay used = Keep

-- what an error says, where it is a loss
abbrev pub change_lost : Bool → Option ℕ → CacheChange
change_lost true delay = (on_loss delay).change
change_lost false delay = Keep

-- what the answer of a plan says of the region that was used, where an attempt is left after which a sleep lasts so long, or none
abbrev pub change_after : {R : Type 0} → (R → List ErrorView) → (R → Option RegionErr) → Option ℕ → RegionVerId → Result R Error → CacheChange
change_after keys region delay used (Ok reply) = change_replied (keys reply) (region reply) delay used
change_after keys region delay used (Err error) = change_lost (is_loss error) delay

-- the client is told this of the region, and then looked at
pub record IsHeeded {C : Type 0} (t : Touch C) (used : RegionVerId) (change : CacheChange) (old new : C) : Type 0 where
  pub told : C
  pub changed : IsChanged t.drops t.leads used change old told
  pub looked : t.looked told new

-- The plan of a task, told this, has answered. After what the plan itself made of the client, it is told of the region what the
-- answer says, and nothing else.
pub record HasHeeded {S R C : Type 0} (m : Meaning S (Result R Error)) (keys : R → List ErrorView) (region : R → Option RegionErr) (t : Touch C) (touches : Told → Posted → S → S → C → C → Type 0)
    (told : Told) (from : Posted) (used : RegionVerId) (delay : Option ℕ) (plan : S) (old new : C) : Type 0 where
  pub over : S
  pub to : Posted
  pub answer : Result R Error
  pub tells : Tells m told plan over from to (Ends answer)
  pub made : C
  pub inner : touches told from plan over old made
  pub heeded : IsHeeded t used (change_after keys region delay used answer) made new

-- Tasks.

-- The plan of a task was told this, after which the task stands here: the plan goes on, or has answered.
abbrev pub PlanTouches : {S R H C : Type 0} → Meaning S (Result R Error) → (R → List ErrorView) → (R → Option RegionErr) → Touch C → (Told → Posted → S → S → C → C → Type 0) → Told → Posted → RegionVerId → Option ℕ → S → Stage S R H → C → C → Type 0
PlanTouches m keys region t touches told from used delay plan stage.Fresh old new = ⊥
PlanTouches m keys region t touches told from used delay plan (stage.Running next) old new = touches told from plan next old new
PlanTouches m keys region t touches told from used delay plan (stage.Sleeping n) old new = HasHeeded m keys region t touches told from used delay plan old new
PlanTouches m keys region t touches told from used delay plan (stage.Cutting c) old new = HasHeeded m keys region t touches told from used delay plan old new
PlanTouches m keys region t touches told from used delay plan stage.Cut old new = HasHeeded m keys region t touches told from used delay plan old new
PlanTouches m keys region t touches told from used delay plan stage.Over old new = HasHeeded m keys region t touches told from used delay plan old new
PlanTouches m keys region t touches told from used delay plan stage.Stopped old new = ⊤

-- P, unless memory was wanting
abbrev pub UnlessStopped : {S R H : Type 0} → Stage S R H → Type 0 → Type 0
UnlessStopped stage.Stopped P = ⊤
UnlessStopped _ P = P

-- A task that stood here was told this, and now stands there.
abbrev pub StageTouches : {S R H C : Type 0} → Meaning S (Result R Error) → (R → List ErrorView) → (R → Option RegionErr) → Touch C → (Told → Posted → S → S → C → C → Type 0) → Told → Posted → RegionVerId → Option ℕ → S → Stage S R H → Stage S R H → C → C → Type 0
StageTouches m keys region t touches told from used delay job stage.Fresh there old new = PlanTouches m keys region t touches told from used delay job there old new
StageTouches m keys region t touches told from used delay job (stage.Running plan) there old new = PlanTouches m keys region t touches told from used delay plan there old new
StageTouches m keys region t touches told from used delay job (stage.Sleeping n) there old new = t.looked old new
StageTouches m keys region t touches told from used delay job (stage.Cutting c) there old new = UnlessStopped there (Seeks t old new)
StageTouches m keys region t touches told from used delay job stage.Cut there old new = ⊥
StageTouches m keys region t touches told from used delay job stage.Over there old new = ⊥
StageTouches m keys region t touches told from used delay job stage.Stopped there old new = ⊥

-- What is not for a task changes nothing.
pub data TaskTouches {S R H C : Type 0} (m : Meaning S (Result R Error)) (keys : R → List ErrorView) (region : R → Option RegionErr) (t : Touch C) (touches : Told → Posted → S → S → C → C → Type 0)
    (told : Told) (from : Posted) (task task' : RegionTask S R H) (old new : C) : Type 0 where
  idle : task' ≡ task → new ≡ old → TaskTouches m keys region t touches told from task task' old new
  acts : StageTouches m keys region t touches told from task.region (delay_ms task.backoff) task.job task.stage task'.stage old new → TaskTouches m keys region t touches told from task task' old new

-- The plan.

-- where all shards were found, tasks for them were started
abbrev pub FoundTouches : {S R H C : Type 0} → (Told → Posted → RegionTask S R H → RegionTask S R H → C → C → Type 0) → Backoff → Option (Tasks (RegionTask S R H) R) → C → C → Type 0
FoundTouches touches backoff None old new = new ≡ old
FoundTouches {S} touches backoff (Some ts) old new = (alloc : Global) × (parts : List (Part S)) × Starts touches (map (task_for alloc backoff backoff.current_attempts) parts) old ts.tasks.items new

-- until the tasks run, the shards are searched
abbrev pub TasksTouch : {S R H C : Type 0} → Touch C → (Told → Posted → RegionTask S R H → RegionTask S R H → C → C → Type 0) → Told → Posted → Backoff → Option (Tasks (RegionTask S R H) R) → Option (Tasks (RegionTask S R H) R) → C → C → Type 0
TasksTouch {C = C} t touches told from backoff None there old new = (found : C) × Seeks t old found × FoundTouches touches backoff there found new
TasksTouch t touches told from backoff (Some ts) None old new = ⊥
TasksTouch t touches told from backoff (Some ts) (Some ts') old new = Turns touches told from ts.tasks.items ts'.tasks.items old new

-- so, unless memory was wanting
abbrev pub UnlessGone : {S R H : Type 0} → MultiStage S R H → Type 0 → Type 0
UnlessGone multi_stage.Stopped P = ⊤
UnlessGone _ P = P

abbrev pub MultiTouches : {S R H C : Type 0} → Touch C → (Told → Posted → RegionTask S R H → RegionTask S R H → C → C → Type 0) → Told → Posted → RetryableMultiRegion S R H → RetryableMultiRegion S R H → C → C → Type 0
MultiTouches t touches told from s s' old new = UnlessGone s'.stage (TasksTouch t touches told from s.backoff s.tasks s'.tasks old new)
