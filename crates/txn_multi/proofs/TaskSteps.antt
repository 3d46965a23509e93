-- One task of a plan over many regions takes what came.
use Rattle.std.proofs.Common.{◌≡◌, ◌≢◌, ◌≤◌, ℕ, false, true, List, suc, refl, sym, subst, ◌∙◌}
use Rattle.std.proofs.Math.Nat.{le_trans}
use Rattle.std.proofs.lemmas.Bool.{false≢true}
use Rattle.std.specs.Global.{Vec}
use Rattle.std.specs.Prelude.{OnOk, Option, Result}
use Rattle.txn_history.specs.Arrivals.{arrives, awaited_as, told_by}
use Rattle.txn_history.specs.Meaning.{IsLawful, Meaning, Told}
use Rattle.txn_history.specs.Moves.{SameJob-trans}
use Rattle.txn_history.specs.Phase.{unheard}
use Rattle.txn_history.specs.Phase.Phase.{Running}
use Rattle.txn_history.specs.Posted.{HasNumbers, Posted}
use Rattle.txn_history.specs.Steps.{News, Steps}
use Rattle.txn_history.specs.Turn.{Turn}
use Rattle.txn_history.specs.Turn.Turn.{Ends, Stopped, Waits}
use Rattle.txn_history.proofs.Arriving.{ends_sleep, worse, Steps-deaf}
use Rattle.txn_history.proofs.Stepping.{Goes-meant}
use Rattle.txn_kv.specs.ErrorView.{ErrorView}
use Rattle.txn_kv.specs.declared.arrival.Arrival.{Arrival}
use Rattle.txn_kv.specs.declared.arrival.Arrival.TheVariants.{Slept}
use Rattle.txn_kv.specs.declared.errors.Error.{Error}
use Rattle.txn_kv.specs.declared.memory.NoMemory.{NoMemory}
use Rattle.txn_kv.specs.declared.message.RegionErr.{RegionErr}
use Rattle.txn_multi.specs.Cutting.{Looking, UnfoundIfErr}
use Rattle.txn_multi.specs.Searching.{SearchSteps}
use Rattle.txn_multi.specs.Task.{owed, region_task, region_task-lawful, stage_phase, stage_runs, tried, CostsOver, GoesOnAt, GoesOver, HaveFailedBy, IsReady, IsTaskOf, IsUnderWay, StageWaits, TaskReady}
use Rattle.txn_multi.specs.TaskSteps.{TaskSteps}
use Rattle.txn_multi.specs.Touching.{change_after, IsHeeded}
use Rattle.txn_multi.specs.Touching.TaskTouches.{acts, idle}
use Rattle.txn_multi.specs.declared.part.Part.{Part}
use Rattle.txn_multi.specs.declared.stage.Stage.{Stage}
use Rattle.txn_multi.specs.declared.stage.Stage.TheVariants as stage
use Rattle.txn_multi.specs.declared.task.RegionTask.{RegionTask}
use Rattle.txn_multi.proofs.Costs.{counts_off_plan, counts_off_search, counts_on_plan, counts_on_search, counts_over_plan, counts_over_search, counts_wake}
use Rattle.txn_multi.proofs.Retrying.{keeps_at, keeps_idle, still_running, tells_off_plan, tells_off_search, tells_on_plan, tells_on_search, tells_over_plan, tells_over_search, tells_wake, Goes-on, Goes-over}
use Rattle.txn_multi.proofs.Touchings.{plan_answered, unless_all}
use Rattle.txn_plan.specs.Touch.{Touch}
use Rattle.txn_retry.specs.Remedy.{delay_ms}
use Rattle.txn_search.specs.Search.{search_phase}
use Rattle.txn_tasks.specs.Step.{step_turn, Keeps}
use Rattle.txn_tasks.specs.declared.step.Step.{Step}
use Rattle.txn_tso.specs.Calling.{members}

module _ {S R H L : Type 0} (m : Meaning S (Result R Error)) (keys : R → List ErrorView) (region : R → Option RegionErr) (is_part : S → S → Type 0) (load : S → L) (are_cut : L → List L → Type 0) (most : S → ℕ → ℕ) where
  -- an event of a task that stands at a stage
  pub task_at : {C : Type 0} {t : Touch C} {touches : Told → Posted → S → S → C → C → Type 0} {news : News} (task : RegionTask S R H) (g : Stage S R H) {new : RegionTask S R H} {from to : Posted} {pd pd' : C} {turn : Turn (Step (RegionTask S R H) R)}
      → task.stage ≡ g
      → TaskSteps m keys region is_part load are_cut most t touches news (record task { stage = g }) new from to pd pd' turn
      → TaskSteps m keys region is_part load are_cut most t touches news task new from to pd pd' turn
  task_at {t = t} {touches = touches} {news = news} task g {new = new} {from = from} {to = to} {pd = pd} {pd' = pd'} {turn = turn} e s =
      subst (λ (x : Stage S R H). TaskSteps m keys region is_part load are_cut most t touches news (record task { stage = x }) new from to pd pd' turn) (sym e) s

  -- it goes on, or gives up
  keeps_on : (task : RegionTask S R H) (g h : Stage S R H)
      → Keeps (region_task m keys region is_part load are_cut most) (λ (x : RegionTask S R H). load x.job) are_cut (IsTaskOf m is_part most) (λ (x : RegionTask S R H). stage_runs x.stage) (record task { stage = g }) (record task { stage = h }) Waits
  keeps_on task g h = record { work = refl; belongs = λ w is. record { part = is.part; less = is.less; limit = is.limit }; rests = λ e. absurd e; stands = tt; wide = tt; owes = tt }

  keeps_off : (task : RegionTask S R H) (g : Stage S R H) {turn : Turn (Step (RegionTask S R H) R)} → turn ≡ Stopped
      → Keeps (region_task m keys region is_part load are_cut most) (λ (x : RegionTask S R H). load x.job) are_cut (IsTaskOf m is_part most) (λ (x : RegionTask S R H). stage_runs x.stage) (record task { stage = g }) task turn
  keeps_off task g e = rw e (record { work = refl; belongs = λ w is. record { part = is.part; less = is.less; limit = is.limit }; rests = λ x. absurd x; stands = tt; wide = tt; owes = tt })

  module _ (law : IsLawful m) {C : Type 0} {t : Touch C} {touches : Told → Posted → S → S → C → C → Type 0} (a : Arrival) (task : RegionTask S R H) {from : Posted} {pd : C} where
    -- it is not for the task
    task_idle : {turn : Turn (Step (RegionTask S R H) R)}
        → TaskReady m task → HasNumbers from
        → (StageWaits m task.stage (awaited_as a) → ⊥)
        → turn ≡ unheard (stage_phase task.stage)
        → TaskSteps m keys region is_part load are_cut most t touches (arrives a from) task task from from pd pd turn
    task_idle ready numbers other e = record {
      steps = Steps-deaf a (region_task-lawful m keys region is_part load are_cut most law) other e (λ r. idle refl refl) ready numbers;
      keeps = rw e (keeps_idle m keys region is_part load are_cut most task (stage_phase task.stage));
      off = λ off. off;
    }

    pub task_deaf : {new : RegionTask S R H} {turn : Turn (Step (RegionTask S R H) R)}
        → new ≡ task
        → TaskReady m task → HasNumbers from
        → (StageWaits m task.stage (awaited_as a) → ⊥)
        → turn ≡ unheard (stage_phase task.stage)
        → TaskSteps m keys region is_part load are_cut most t touches (arrives a from) task new from from pd pd turn
    task_deaf same ready numbers other e = rw same (task_idle ready numbers other e)

    -- its plan runs on
    pub plan_waits : (p q : S) {to : Posted} {pd' : C}
        → IsReady m task.job → IsUnderWay m task.job p → m.width q ≤ 1
        → Steps m touches (arrives a from) p q from to pd pd' Waits
        → TaskSteps m keys region is_part load are_cut most t touches (arrives a from) (record task { stage = stage.Running p }) (record task { stage = stage.Running q }) from to pd pd' Waits
    unfolding arrives
    plan_waits p q ready way uncut s =
        let runs : m.phase q ≡ Running = still_running way.phase s.goes in
        record {
          steps = record {
            tells = λ r. tells_on_plan m keys region is_part load are_cut most law task p q way runs (s.tells r);
            goes = Goes-on (λ (x : S). record task { stage = stage.Running x }) (λ x. refl) s.goes;
            counts = counts_on_plan m keys region is_part load are_cut most task p q way uncut s.counts;
            client = λ r. acts (s.client r);
            ready = record {
              job = ready;
              at = record { ready = s.ready; phase = runs; same = SameJob-trans (s.tells members).job way.same; less = λ n. le_trans (s.counts.fewer n) (way.less n) };
            };
            numbers = s.numbers;
          };
          keeps = keeps_on task (stage.Running p) (stage.Running q);
          off = λ e. absurd (false≢true (sym e));
        }

    -- its plan gives up
    pub plan_stops : (p q : S) {to : Posted} {pd' : C} {turn : Turn (Step (RegionTask S R H) R)}
        → IsReady m task.job → IsUnderWay m task.job p → m.width q ≤ 1
        → task.stage ≡ stage.Stopped → turn ≡ Stopped
        → Steps m touches (arrives a from) p q from to pd pd' Stopped
        → TaskSteps m keys region is_part load are_cut most t touches (arrives a from) (record task { stage = stage.Running p }) task from to pd pd' turn
    unfolding arrives
    plan_stops p q ready way uncut stopped e s = record {
      steps = record {
        tells = λ r. tells_off_plan m keys region is_part load are_cut most law task task p q way refl refl refl stopped e (s.tells r);
        goes = Goes-over Stopped (λ x. cc) way.phase s.goes (rw (stopped, e) refl);
        counts = counts_off_plan m keys region is_part load are_cut most task task p q way uncut refl refl e s.counts;
        client = λ r. acts (rw stopped tt);
        ready = record { job = ready; at = rw stopped tt };
        numbers = s.numbers;
      };
      keeps = keeps_off task (stage.Running p) e;
      off = λ x. absurd (false≢true (sym x));
    }

    -- its plan has ended, and it goes on after that
    pub plan_ends : (p q : S) (v : Result R Error) (result : Result (Option (Step (RegionTask S R H) R)) NoMemory) {new : RegionTask S R H} {via to : Posted} {made pd' : C}
        → IsUnderWay m task.job p → m.width q ≤ 1
        → Steps m touches (arrives a from) p q from via pd made (Ends v)
        → GoesOver (region_task m keys region is_part load are_cut most) (λ h. m.gives task.job h v × (m.fails v ≡ true → HaveFailedBy (suc (tried task)) via h)) task new via to (step_turn result)
        → CostsOver (region_task m keys region is_part load are_cut most) (λ n. 0) (m.fails v) task new via to (step_turn result)
        → Keeps (region_task m keys region is_part load are_cut most) (λ (x : RegionTask S R H). load x.job) are_cut (IsTaskOf m is_part most) (λ (x : RegionTask S R H). stage_runs x.stage) task new (step_turn result)
        → OnOk result (IsHeeded t task.region (change_after keys region (delay_ms task.backoff) task.region v) made pd')
        → stage_runs new.stage ≡ false → TaskReady m new → HasNumbers to
        → TaskSteps m keys region is_part load are_cut most t touches (arrives a from) (record task { stage = stage.Running p }) new from to pd pd' (step_turn result)
    unfolding arrives
    plan_ends p q v result {new = new} {via = via} {made = made} {pd' = pd'} way uncut s over costs keeps heeded off ready numbers = record {
      steps = record {
        tells = λ r. tells_over_plan m keys region is_part load are_cut most law a r task p q way s.goes s.counts (s.tells r) over;
        goes = Goes-over (Ends v) (λ e. cc) way.phase s.goes over.next;
        counts = counts_over_plan m keys region is_part load are_cut most task p q way uncut (worse a) s.counts costs;
        client = λ r. acts (plan_answered m keys region t touches (told_by a from r) from task.region (delay_ms task.backoff) p q via v new.stage result pd made pd' over.next off (s.tells r) (s.client r) heeded);
        ready = ready;
        numbers = numbers;
      };
      keeps = keeps_at m keys region is_part load are_cut most (record task { stage = stage.Running p }) task (step_turn result) refl refl keeps;
      off = λ e. off;
    }

    -- its sleep has ended, and it goes on after that
    pub sleep_ends : (n : ℕ) {new : RegionTask S R H} {to : Posted} {pd' : C} {turn : Turn (Step (RegionTask S R H) R)}
        → a ≡ Slept n
        → GoesOver (region_task m keys region is_part load are_cut most) (GoesOnAt m keys region task from) task new from to turn
        → CostsOver (region_task m keys region is_part load are_cut most) (owed m most task.job) false task new from to turn
        → Keeps (region_task m keys region is_part load are_cut most) (λ (x : RegionTask S R H). load x.job) are_cut (IsTaskOf m is_part most) (λ (x : RegionTask S R H). stage_runs x.stage) task new turn
        → t.looked pd pd'
        → stage_runs new.stage ≡ false → TaskReady m new → HasNumbers to
        → TaskSteps m keys region is_part load are_cut most t touches (arrives a from) (record task { stage = stage.Sleeping n }) new from to pd pd' turn
    unfolding arrives
    sleep_ends n {turn = turn} e over costs keeps looked off ready numbers = rw e (record {
      steps = record {
        tells = λ r. tells_wake m keys region is_part load are_cut most law task n over;
        goes = Goes-meant refl over.next;
        counts = counts_wake m keys region is_part load are_cut most task n refl refl refl refl costs;
        client = λ r. acts looked;
        ready = ready;
        numbers = numbers;
      };
      keeps = keeps_at m keys region is_part load are_cut most (record task { stage = stage.Sleeping n }) task turn refl refl keeps;
      off = λ x. off;
    })

    -- its search goes on
    pub search_waits : (c d : Looking S H) {to : Posted} {pd' : C}
        → IsReady m task.job → c.plan ≡ task.job → search_phase c.stage ≡ Running
        → SearchSteps m is_part load are_cut most t (arrives a from) c d from to pd pd' Waits
        → TaskSteps m keys region is_part load are_cut most t touches (arrives a from) (record task { stage = stage.Cutting c }) (record task { stage = stage.Cutting d }) from to pd pd' Waits
    unfolding arrives
    search_waits c d ready same running s =
        let on = s.steps in
        let runs : search_phase d.stage ≡ Running = still_running running on.goes in
        record {
          steps = record {
            tells = λ r. tells_on_search m keys region is_part load are_cut most law task c d runs (on.tells r);
            goes = Goes-on (λ (x : Looking S H). record task { stage = stage.Cutting x }) (λ x. refl) on.goes;
            counts = counts_on_search m keys region is_part load are_cut most task c d on.counts;
            client = λ r. acts (on.client r);
            ready = record { job = ready; at = (s.plan ∙ same, runs) };
            numbers = on.numbers;
          };
          keeps = keeps_on task (stage.Cutting c) (stage.Cutting d);
          off = λ e. refl;
        }

    -- its search gives up
    pub search_stops : (c d : Looking S H) {to : Posted} {pd' : C} {turn : Turn (Step (RegionTask S R H) R)}
        → IsReady m task.job → search_phase c.stage ≡ Running
        → task.stage ≡ stage.Stopped → turn ≡ Stopped
        → SearchSteps m is_part load are_cut most t (arrives a from) c d from to pd pd' Stopped
        → TaskSteps m keys region is_part load are_cut most t touches (arrives a from) (record task { stage = stage.Cutting c }) task from to pd pd' turn
    unfolding arrives
    search_stops c d ready running stopped e s = record {
      steps = record {
        tells = λ r. tells_off_search m keys region is_part load are_cut most law task task c d refl refl refl stopped e (s.steps.tells r);
        goes = Goes-over Stopped (λ x. cc) running s.steps.goes (rw (stopped, e) refl);
        counts = counts_off_search m keys region is_part load are_cut most task task c d refl refl e s.steps.counts;
        client = λ r. acts (rw stopped tt);
        ready = record { job = ready; at = rw stopped tt };
        numbers = s.steps.numbers;
      };
      keeps = keeps_off task (stage.Cutting c) e;
      off = λ x. rw stopped refl;
    }

    -- its search has ended, and it goes on after that
    pub search_ends : (c d : Looking S H) (v : Result (Vec (Part S)) Error) {new : RegionTask S R H} {to : Posted} {pd' : C} {turn : Turn (Step (RegionTask S R H) R)}
        → search_phase c.stage ≡ Running
        → SearchSteps m is_part load are_cut most t (arrives a from) c d from to pd pd' (Ends v)
        → GoesOver (region_task m keys region is_part load are_cut most) (λ h. GoesOnAt m keys region task to h × UnfoundIfErr h v) task new to to turn
        → CostsOver (region_task m keys region is_part load are_cut most) (owed m most task.job) false task new to to turn
        → Keeps (region_task m keys region is_part load are_cut most) (λ (x : RegionTask S R H). load x.job) are_cut (IsTaskOf m is_part most) (λ (x : RegionTask S R H). stage_runs x.stage) task new turn
        → stage_runs new.stage ≡ false → TaskReady m new
        → TaskSteps m keys region is_part load are_cut most t touches (arrives a from) (record task { stage = stage.Cutting c }) new from to pd pd' turn
    unfolding arrives
    search_ends c d v {new = new} {turn = turn} running s over costs keeps off ready = record {
      steps = record {
        tells = λ r. tells_over_search m keys region is_part load are_cut most law task c d (s.steps.tells r) over;
        goes = Goes-over (Ends v) (λ e. cc) running s.steps.goes over.next;
        counts = counts_over_search m keys region is_part load are_cut most task c d (worse a) s.steps.counts costs;
        client = λ r. acts (unless_all new.stage (s.steps.client r));
        ready = ready;
        numbers = s.steps.numbers;
      };
      keeps = keeps_at m keys region is_part load are_cut most (record task { stage = stage.Cutting c }) task turn refl refl keeps;
      off = λ e. off;
    }

  -- it sleeps on
  pub sleeps_on : IsLawful m → {C : Type 0} {t : Touch C} {touches : Told → Posted → S → S → C → C → Type 0} (a : Arrival) (task : RegionTask S R H) {o : Posted} {pd : C} (n : ℕ)
      → IsReady m task.job → HasNumbers o → a ≢ Slept n
      → TaskSteps m keys region is_part load are_cut most t touches (arrives a o) (record task { stage = stage.Sleeping n }) (record task { stage = stage.Sleeping n }) o o pd pd Waits
  sleeps_on law a task n ready numbers other = task_idle law a (record task { stage = stage.Sleeping n }) (record { job = ready; at = tt }) numbers (λ w. other (ends_sleep a n w)) refl
