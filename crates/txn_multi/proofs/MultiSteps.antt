-- A plan over many regions takes what came.
use Rattle.std.proofs.Common.{◌≡◌, ℕ, List, refl, sym, subst}
use Rattle.std.proofs.Math.Nat.{le_refl}
use Rattle.std.specs.Global.{Vec}
use Rattle.std.specs.Prelude.{⊤, Option, Some, None, Result}
use Rattle.txn_history.specs.Arrivals.{arrives, awaited_as, told_by}
use Rattle.txn_history.specs.Meaning.{started, IsLawful, IsUnbegun, Meaning, Told}
use Rattle.txn_history.specs.Phase.{unheard}
use Rattle.txn_history.specs.Phase.Phase.{Running}
use Rattle.txn_history.specs.Posted.{HasNumbers, Posted}
use Rattle.txn_history.specs.Steps.{begins, News}
use Rattle.txn_history.specs.Turn.{Turn}
use Rattle.txn_history.specs.Turn.Turn.{Waits}
use Rattle.txn_history.proofs.Arriving.{worse, Steps-deaf}
use Rattle.txn_history.proofs.Stepping.{Goes-meant, Steps-idle}
use Rattle.txn_kv.specs.ErrorView.{ErrorView}
use Rattle.txn_kv.specs.declared.arrival.Arrival.{Arrival}
use Rattle.txn_kv.specs.declared.errors.Error.{Error}
use Rattle.txn_kv.specs.declared.message.RegionErr.{RegionErr}
use Rattle.txn_multi.specs.Cutting.{Looking}
use Rattle.txn_multi.specs.Multi.{multi, multi-lawful, multi_phase, tasks_for, AfterCut, AfterTasks, Begins, MultiWaits}
use Rattle.txn_multi.specs.MultiSteps.{MultiSteps}
use Rattle.txn_multi.specs.Searching.{SearchSteps}
use Rattle.txn_multi.specs.Task.{attempts_left, region_task, shared, stage_runs, IsTaskOf}
use Rattle.txn_multi.specs.Touching.{FoundTouches, MultiTouches, TaskTouches, UnlessGone}
use Rattle.txn_multi.specs.declared.multi_region.RetryableMultiRegion.{RetryableMultiRegion}
use Rattle.txn_multi.specs.declared.multi_stage.MultiStage.{MultiStage}
use Rattle.txn_multi.specs.declared.multi_stage.MultiStage.TheVariants as stage
use Rattle.txn_multi.specs.declared.part.Part.{Part}
use Rattle.txn_multi.specs.declared.task.RegionTask.{RegionTask}
use Rattle.txn_multi.proofs.Multis.{cut_counted, cut_gone, cut_told, fresh_only, ready_after, tasks_counted, tasks_gone, tasks_told}
use Rattle.txn_multi.proofs.Retrying.{still_running}
use Rattle.txn_multi.proofs.Touchings.{after_kept, nothing, sought, unless_gone}
use Rattle.txn_plan.specs.Touch.{Touch}
use Rattle.txn_search.specs.Search.{search_phase}
use Rattle.txn_tasks.specs.Tasks.{tasks_phase, Outcome}
use Rattle.txn_tasks.specs.TasksStep.{TasksStep}
use Rattle.txn_tasks.specs.Turns.{Turns}
use Rattle.txn_tasks.specs.declared.tasks.Tasks.{Tasks}

module _ {S R H L : Type 0} (m : Meaning S (Result R Error)) (keys : R → List ErrorView) (region : R → Option RegionErr) (is_part : S → S → Type 0) (load : S → L) (are_cut : L → List L → Type 0) (most : S → ℕ → ℕ)
    {C : Type 0} (t : Touch C) (touches : Told → Posted → S → S → C → C → Type 0) where
  -- an event of a plan that stands at a stage
  pub multi_at : {news : News} (s : RetryableMultiRegion S R H) (g : MultiStage S R H) {new : RetryableMultiRegion S R H} {from to : Posted} {pd pd' : C} {turn : Turn (Result (Vec (Result R Error)) Error)}
      → s.stage ≡ g
      → MultiSteps m keys region is_part load are_cut most t touches news (record s { stage = g }) new from to pd pd' turn
      → MultiSteps m keys region is_part load are_cut most t touches news s new from to pd pd' turn
  multi_at {news = news} s g {new = new} {from = from} {to = to} {pd = pd} {pd' = pd'} {turn = turn} e x =
      subst (λ (y : MultiStage S R H). MultiSteps m keys region is_part load are_cut most t touches news (record s { stage = y }) new from to pd pd' turn) (sym e) x

  -- it is not for the plan
  pub multi_deaf : IsLawful m → (a : Arrival) {s new : RetryableMultiRegion S R H} {o : Posted} {pd : C} {turn : Turn (Result (Vec (Result R Error)) Error)}
      → t.looked pd pd
      → new ≡ s
      → (MultiWaits (tasks_for {H = H} m keys region is_part load are_cut most s.inner (attempts_left s.backoff)) s.stage s.tasks (awaited_as a) → ⊥)
      → turn ≡ unheard (multi_phase s.stage)
      → (multi {H = H} m keys region is_part load are_cut most).ready s → HasNumbers o
      → MultiSteps m keys region is_part load are_cut most t touches (arrives a o) s new o o pd pd turn
  multi_deaf law a {s = s} {o = o} {pd = pd} looked same other e ready numbers =
      rw same (Steps-deaf a (multi-lawful m keys region is_part load are_cut most law) other e (λ r. unless_gone s.stage (nothing t (TaskTouches m keys region t touches) (told_by a o r) o s.backoff s.tasks pd looked)) ready numbers)

  -- it was started before
  pub multi_begun_before : IsLawful m → {s new : RetryableMultiRegion S R H} {o : Posted} {pd : C} {turn : Turn (Result (Vec (Result R Error)) Error)}
      → t.looked pd pd
      → new ≡ s
      → (s.stage ≡ stage.Fresh → ⊥)
      → turn ≡ unheard (multi_phase s.stage)
      → (multi {H = H} m keys region is_part load are_cut most).ready s → HasNumbers o
      → MultiSteps m keys region is_part load are_cut most t touches begins s new o o pd pd turn
  unfolding begins
  multi_begun_before law {s = s} {o = o} {pd = pd} looked same other e ready numbers =
      rw same (Steps-idle (multi-lawful m keys region is_part load are_cut most law) (λ f. other (fresh_only s.stage f)) (λ r x heard w. heard) e (λ r. unless_gone s.stage (nothing t (TaskTouches m keys region t touches) started o s.backoff s.tasks pd looked)) ready numbers)

  -- it begins
  pub multi_begins : {s new : RetryableMultiRegion S R H} {from to : Posted} {pd pd' : C} {turn : Turn (Result (Vec (Result R Error)) Error)}
      → s.stage ≡ stage.Fresh
      → Begins (multi {H = H} m keys region is_part load are_cut most) (λ h. ⊤) (record s { stage = stage.Fresh }) new from to turn
      → MultiTouches t (TaskTouches m keys region t touches) started from s new pd pd'
      → (multi {H = H} m keys region is_part load are_cut most).ready new → HasNumbers to
      → MultiSteps m keys region is_part load are_cut most t touches begins s new from to pd pd' turn
  unfolding begins
  multi_begins {s = s} fresh b client ready numbers = multi_at s stage.Fresh fresh (record {
    tells = λ r. b.tells;
    goes = Goes-meant refl b.next;
    counts = b.counts;
    client = λ r. client;
    ready = ready;
    numbers = numbers;
  })

  -- the search of its shards takes it, and the plan goes on after that
  pub multi_seeks : (a : Arrival) {s new : RetryableMultiRegion S R H} {c c' : Looking S H} {from via to : Posted} {pd made pd' : C} (p : Turn (Result (Vec (Part S)) Error)) {turn : Turn (Result (Vec (Result R Error)) Error)}
      → s.stage ≡ stage.Stopped → IsUnbegun m s.inner → s.tasks ≡ None → search_phase c.stage ≡ Running
      → SearchSteps m is_part load are_cut most t (arrives a from) c c' from via pd made p
      → AfterCut (multi {H = H} m keys region is_part load are_cut most) p c' s new via to made pd' turn
      → UnlessGone new.stage (FoundTouches (TaskTouches m keys region t touches) s.backoff new.tasks made pd')
      → (multi {H = H} m keys region is_part load are_cut most).ready new → HasNumbers to
      → MultiSteps m keys region is_part load are_cut most t touches (arrives a from) (record s { stage = stage.Cutting c }) new from to pd pd' turn
  unfolding arrives
  multi_seeks a {s = s} {new = new} {c = c} {c' = c'} {from = from} {via = via} {to = to} {pd = pd} {made = made} {pd' = pd'} p {turn = turn} gone inner none running f after found ready numbers = record {
    tells = λ r. cut_told m keys region is_part load are_cut most s new (stage.Cutting c) c c' made pd' p gone inner none (λ h k. k.0) (λ x w. w) (λ e. still_running running (rw e at f.steps.goes)) (f.steps.tells r) after;
    goes = cut_gone m keys region is_part load are_cut most s new c c' p gone running f.steps.goes after;
    counts = cut_counted m keys region is_part load are_cut most s new (stage.Cutting c) c c' made pd' p (worse a) none (λ n. refl) f.steps.counts after;
    client = λ r. rw none (sought (multi {H = H} m keys region is_part load are_cut most) p c' s new via to made pd' turn gone after (λ k x. (made, k, x)) (f.steps.client r) found);
    ready = ready;
    numbers = numbers;
  }

  multi_works : (a : Arrival) (s : RetryableMultiRegion S R H) (ts ts' : Tasks (RegionTask S R H) R) (g : MultiStage S R H) {from to : Posted} {pd pd' : C} (p : Turn (List (Outcome R))) {turn : Turn (Result (Vec (Result R Error)) Error)}
      → IsUnbegun m s.inner → tasks_phase ts.stage ≡ Running
      → TasksStep (region_task m keys region is_part load are_cut most) (λ (x : RegionTask S R H). load x.job) are_cut (IsTaskOf m is_part most) (λ whole n. shared m most whole.plan n) (λ (x : RegionTask S R H). stage_runs x.stage)
      (λ told o was is x y. TaskTouches m keys region t touches told o was is x y) (arrives a from) ts ts' from to pd pd' p
      → AfterTasks s.preserve_region_results p g turn
      → MultiSteps m keys region is_part load are_cut most t touches (arrives a from) (record s { stage = stage.Running; tasks = Some ts }) (record s { stage = g; tasks = Some ts' }) from to pd pd' turn
  unfolding arrives
  multi_works a s ts ts' g {from = from} {to = to} {pd = pd} {pd' = pd'} p {turn = turn} inner running f after =
      let old : RetryableMultiRegion S R H = record s { stage = stage.Running; tasks = Some ts } in
      let runs : p ≡ Waits → tasks_phase ts'.stage ≡ Running = λ e. still_running running (rw e at f.goes) in
      record {
        tells = λ r. tasks_told m keys region is_part load are_cut most old ts ts' g s.width p (λ h k. k.0) (λ x w. w) runs after (f.tells (record { plan = s.inner; limit = attempts_left s.backoff }) (load s.inner) r);
        goes = tasks_gone m keys region is_part load are_cut most s ts ts' g p running after f.goes;
        counts = tasks_counted m keys region is_part load are_cut most old ts ts' g s.width p (le_refl _) (le_refl _) (λ w b. b) (λ n l. le_refl _) after (f.counts (record { plan = s.inner; limit = attempts_left s.backoff }) (load s.inner));
        client = λ r. after_kept (Turns (TaskTouches m keys region t touches) (told_by a from r) from ts.tasks.items ts'.tasks.items pd pd') s.preserve_region_results p g turn after (f.client r);
        ready = (inner, ready_after m keys region is_part load are_cut most s.inner (attempts_left s.backoff) s.preserve_region_results ts' g p turn after runs f.ready);
        numbers = f.numbers;
      }

  -- its tasks take it, and the plan goes on after that
  pub multi_worked : (a : Arrival) (s : RetryableMultiRegion S R H) {new : RetryableMultiRegion S R H} {ts ts' : Tasks (RegionTask S R H) R} (g : MultiStage S R H) {from to : Posted} {pd pd' : C} (p : Turn (List (Outcome R))) {turn : Turn (Result (Vec (Result R Error)) Error)}
      → s.tasks ≡ Some ts → IsUnbegun m s.inner → tasks_phase ts.stage ≡ Running
      → TasksStep (region_task m keys region is_part load are_cut most) (λ (x : RegionTask S R H). load x.job) are_cut (IsTaskOf m is_part most) (λ whole n. shared m most whole.plan n) (λ (x : RegionTask S R H). stage_runs x.stage)
      (λ told o was is x y. TaskTouches m keys region t touches told o was is x y) (arrives a from) ts ts' from to pd pd' p
      → new ≡ record s { stage = g; tasks = Some ts' }
      → AfterTasks s.preserve_region_results p g turn
      → MultiSteps m keys region is_part load are_cut most t touches (arrives a from) (record s { stage = stage.Running }) new from to pd pd' turn
  multi_worked a s {new = new} {ts = ts} {ts' = ts'} g {from = from} {to = to} {pd = pd} {pd' = pd'} p {turn = turn} held inner running f same after =
      subst (λ (x : Option (Tasks (RegionTask S R H) R)). MultiSteps m keys region is_part load are_cut most t touches (arrives a from) (record s { stage = stage.Running; tasks = x }) new from to pd pd' turn) (sym held)
      (subst (λ (x : RetryableMultiRegion S R H). MultiSteps m keys region is_part load are_cut most t touches (arrives a from) (record s { stage = stage.Running; tasks = Some ts }) x from to pd pd' turn) (sym same)
      (multi_works a s ts ts' g p inner running f after))
