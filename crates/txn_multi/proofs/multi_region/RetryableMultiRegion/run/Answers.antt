use Rattle.std.proofs.Common.{arith, ap, subst, sym, ◌∙◌}
use Rattle.std.specs.Prelude.{⊤, Some}
use Rattle.txn_history.proofs.Telling.{turn_stopped}
use Rattle.txn_history.specs.Phase.{phase_after}
use Rattle.txn_history.specs.Turn.{turn_of, IfKept-weaker}
use Rattle.txn_multi.specs.Multi.{multi, Begins}
use Rattle.txn_multi.specs.declared.multi_region.RetryableMultiRegion.{RetryableMultiRegion}
use Rattle.txn_multi.specs.declared.multi_stage.MultiStage.TheVariants as stage
use Rattle.txn_multi.proofs.Multis.{begins_not, begins_tasks, ready_after, tasks_belong, tasks_cut, tasks_fit, tasks_new, tasks_owe}
use Rattle.txn_multi.proofs.Touchings.{after_kept}
use Rattle.txn_multi.specs.Touching.{FoundTouches, TaskTouches, UnlessGone}
use Rattle.txn_plan.specs.Touch.{touch}
use Rattle.txn_multi.specs.Task.{attempts_left, Limited}
use Rattle.txn_multi.proofs.multi_region.RetryableMultiRegion.run.Goals as goal
use Rattle.txn_tasks.specs.Tasks.{tasks_turn}

pub returns-in_err-first-clause-begins : goal.returns-in_err-first-clause-begins
returns-in_err-first-clause-begins g c = begins_not g.P.Plan.meaning g.P.Result.HasKeyErrors.key_errors_in g.P.Result.HasRegionError.region_error_in g.P.Shardable.IsPart g.P.Shardable.load g.P.Shardable.AreCut g.P.RegionPlan.most c.args.self.now _ c.requires.stopped c.requires.none (let x : _ = c.max-self.ensures in omega arith) (turn_stopped c.from_residual.result c.from_residual.ensures.0)

pub new-requires : goal.new-requires
new-requires g c = record { fresh = rw c.in_ok-first.ensures (tasks_new g.P.Plan.meaning g.P.Result.HasKeyErrors.key_errors_in g.P.Result.HasRegionError.region_error_in g.P.Shardable.IsPart g.P.Shardable.load g.P.Shardable.AreCut g.P.RegionPlan.most c.args.self.now.inner c.args.self.now.alloc c.args.self.now.backoff c.current_attempts-before.result c.args.parts.items c.requires.parts) }

pub returns-in_err-tasks-clause-begins : goal.returns-in_err-tasks-clause-begins
returns-in_err-tasks-clause-begins g c = begins_not g.P.Plan.meaning g.P.Result.HasKeyErrors.key_errors_in g.P.Result.HasRegionError.region_error_in g.P.Shardable.IsPart g.P.Shardable.load g.P.Shardable.AreCut g.P.RegionPlan.most c.args.self.now _ c.requires.stopped c.requires.none (let x : _ = c.max-self.ensures in omega arith) (turn_stopped c.from_residual-in_err-tasks.result c.from_residual-in_err-tasks.ensures.0)

pub returns-clause-begins : goal.returns-clause-begins
returns-clause-begins g c =
    let s = c.args.self.now in
    let inner = s.inner in
    let before = c.current_attempts-before.result in
    let whole : Limited _ = record { plan = inner; limit = attempts_left s.backoff } in
    let parts = c.args.parts.items in
    let ts = c.in_ok-tasks.tasks in
    let e = c.in_ok-tasks.ensures in
    let goes = c.start-turn.ensures.goes in
    subst (λ (x : RetryableMultiRegion _ _ _). Begins (multi g.P.Plan.meaning g.P.Result.HasKeyErrors.key_errors_in g.P.Result.HasRegionError.region_error_in g.P.Shardable.IsPart g.P.Shardable.load g.P.Shardable.AreCut g.P.RegionPlan.most) (λ h. ⊤) (record s { stage = stage.Fresh }) x c.args.out.now c.start-turn.new.out (turn_of c.after_tasks.result)) (sym c.after_tasks.ensures.state)
    (begins_tasks g.P.Plan.meaning g.P.Result.HasKeyErrors.key_errors_in g.P.Result.HasRegionError.region_error_in g.P.Shardable.IsPart g.P.Shardable.load g.P.Shardable.AreCut g.P.RegionPlan.most s ts c.start-turn.new.self c.after_tasks.new.self.stage c.max-self.result (tasks_turn c.start-turn.result) c.requires.none (let x : _ = c.max-self.ensures in omega arith) e.fresh
    (λ o h. e.fits whole (g.P.Shardable.load inner) o h (rw c.in_ok-first.ensures (tasks_fit g.P.Plan.meaning g.P.Result.HasKeyErrors.key_errors_in g.P.Result.HasRegionError.region_error_in g.P.Shardable.IsPart g.P.Shardable.load g.P.Shardable.AreCut g.P.RegionPlan.most inner s.alloc s.backoff before parts o h c.current_attempts-before.ensures c.requires.parts)) (rw c.in_ok-first.ensures (tasks_belong g.P.Plan.meaning g.P.Result.HasKeyErrors.key_errors_in g.P.Result.HasRegionError.region_error_in g.P.Shardable.IsPart g.P.Shardable.load g.P.Shardable.AreCut g.P.RegionPlan.most inner s.alloc s.backoff before parts c.current_attempts-before.ensures c.requires.parts)) (rw c.in_ok-first.ensures (tasks_cut _ g.P.Plan.meaning g.P.Shardable.IsPart g.P.Shardable.load g.P.Shardable.AreCut g.P.RegionPlan.most inner s.alloc s.backoff before parts c.requires.parts)))
    (λ w. e.bears whole (g.P.Shardable.load inner) w (rw c.in_ok-first.ensures (tasks_belong g.P.Plan.meaning g.P.Result.HasKeyErrors.key_errors_in g.P.Result.HasRegionError.region_error_in g.P.Shardable.IsPart g.P.Shardable.load g.P.Shardable.AreCut g.P.RegionPlan.most inner s.alloc s.backoff before parts c.current_attempts-before.ensures c.requires.parts)))
    (λ n l. rw (e.left whole (g.P.Shardable.load inner) n, c.in_ok-first.ensures) (tasks_owe _ g.P.Plan.meaning g.P.Shardable.IsPart g.P.Shardable.load g.P.Shardable.AreCut g.P.RegionPlan.most inner s.alloc s.backoff before parts n c.requires.parts (let x : _ = c.max-self.ensures in let y : _ = c.len.ensures in omega arith)))
    (λ x. goes.next e.fresh ∙ ap phase_after x) c.after_tasks.ensures.after
    (c.start-turn.ensures.tells whole (g.P.Shardable.load inner)) (c.start-turn.ensures.counts whole (g.P.Shardable.load inner)))

pub returns-clause-ready : goal.returns-clause-ready
returns-clause-ready g c =
    let s = c.args.self.now in
    let e = c.in_ok-tasks.ensures in
    let goes = c.start-turn.ensures.goes in
    subst (λ (x : RetryableMultiRegion _ _ _). (multi g.P.Plan.meaning g.P.Result.HasKeyErrors.key_errors_in g.P.Result.HasRegionError.region_error_in g.P.Shardable.IsPart g.P.Shardable.load g.P.Shardable.AreCut g.P.RegionPlan.most).ready x) (sym c.after_tasks.ensures.state)
    (c.requires.inner, ready_after g.P.Plan.meaning g.P.Result.HasKeyErrors.key_errors_in g.P.Result.HasRegionError.region_error_in g.P.Shardable.IsPart g.P.Shardable.load g.P.Shardable.AreCut g.P.RegionPlan.most s.inner (attempts_left s.backoff) s.preserve_region_results c.start-turn.new.self c.after_tasks.new.self.stage (tasks_turn c.start-turn.result) (turn_of c.after_tasks.result) c.after_tasks.ensures.after (λ x. goes.next e.fresh ∙ ap phase_after x) c.start-turn.ensures.ready)

pub returns-in_err-first-clause-client : goal.returns-in_err-first-clause-client
returns-in_err-first-clause-client g c = rw c.requires.stopped tt

pub returns-in_err-tasks-clause-client : goal.returns-in_err-tasks-clause-client
returns-in_err-tasks-clause-client g c = rw c.requires.stopped tt

pub returns-clause-client : goal.returns-clause-client
returns-clause-client g c =
    let s = c.args.self.now in
    subst (λ (x : RetryableMultiRegion _ _ _). UnlessGone x.stage (FoundTouches (TaskTouches g.P.Plan.meaning g.P.Result.HasKeyErrors.key_errors_in g.P.Result.HasRegionError.region_error_in (touch g.C.PdClient.looked g.C.PdClient.learns g.C.PdClient.leads g.C.PdClient.drops) (g.P.Plan.touches (touch g.C.PdClient.looked g.C.PdClient.learns g.C.PdClient.leads g.C.PdClient.drops))) s.backoff x.tasks c.args.pd.now c.start-turn.new.pd)) (sym c.after_tasks.ensures.state)
    (after_kept (FoundTouches (TaskTouches g.P.Plan.meaning g.P.Result.HasKeyErrors.key_errors_in g.P.Result.HasRegionError.region_error_in (touch g.C.PdClient.looked g.C.PdClient.learns g.C.PdClient.leads g.C.PdClient.drops) (g.P.Plan.touches (touch g.C.PdClient.looked g.C.PdClient.learns g.C.PdClient.leads g.C.PdClient.drops))) s.backoff (Some c.start-turn.new.self) c.args.pd.now c.start-turn.new.pd) s.preserve_region_results (tasks_turn c.start-turn.result) c.after_tasks.new.self.stage (turn_of c.after_tasks.result) c.after_tasks.ensures.after
    (IfKept-weaker (tasks_turn c.start-turn.result) (λ x. (s.alloc, c.args.parts.items, rw (c.in_ok-tasks.ensures.tasks, c.in_ok-first.ensures, c.current_attempts-before.ensures) at x)) c.start-turn.ensures.client))
