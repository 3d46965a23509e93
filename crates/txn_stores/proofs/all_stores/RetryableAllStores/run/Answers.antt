use Rattle.std.proofs.Common.{map, refl, ap, ◌∙◌}
use Rattle.txn_history.proofs.Telling.{turn_stopped}
use Rattle.txn_history.specs.Turn.{turn_of}
use Rattle.txn_stores.specs.StoreTask.{task_at}
use Rattle.txn_stores.proofs.AllRunning.{all_stopped, tasks_begin, tasks_new}
use Rattle.txn_tasks.specs.Tasks.{tasks_turn}
use Rattle.txn_stores.proofs.all_stores.RetryableAllStores.run.Goals as goal

pub returns-in_err-first-clause-on : goal.returns-in_err-first-clause-on
returns-in_err-first-clause-on g c = all_stopped g.P.Plan.meaning g.P.Result.HasKeyErrors.key_errors_in g.P.Result.HasRegionError.region_error_in g.P.StoreRequest.at_store (turn_stopped c.from_residual.result c.from_residual.ensures.0) refl refl

pub new-requires : goal.new-requires
new-requires g c = record { fresh = rw (c.in_ok-first.ensures, c.as_slice.ensures.value) (tasks_new g.P.Plan.meaning g.P.Result.HasKeyErrors.key_errors_in g.P.Result.HasRegionError.region_error_in g.P.StoreRequest.at_store c.args.self.now.inner c.args.self.now.backoff c.args.self.now.alloc c.args.stores.items (λ store. g.met.P.StorePlan.aimed_unbegun c.args.self.now.inner store c.requires.unbegun)) }

pub returns-in_err-tasks-clause-on : goal.returns-in_err-tasks-clause-on
returns-in_err-tasks-clause-on g c = all_stopped g.P.Plan.meaning g.P.Result.HasKeyErrors.key_errors_in g.P.Result.HasRegionError.region_error_in g.P.StoreRequest.at_store (turn_stopped c.from_residual-in_err-tasks.result c.from_residual-in_err-tasks.ensures.0) refl refl

pub returns-clause-on : goal.returns-clause-on
returns-clause-on g c =
    let made = c.in_ok-first.ensures ∙ ap (map (task_at g.P.StoreRequest.at_store c.args.self.now.inner c.args.self.now.backoff c.args.self.now.alloc)) c.as_slice.ensures.value in
    tasks_begin g.P.Plan.meaning g.P.Result.HasKeyErrors.key_errors_in g.P.Result.HasRegionError.region_error_in g.P.StoreRequest.at_store g.met.P.Plan.lawful c.args.self.now c.after_tasks.new.self c.args.stores c.args.self.now.backoff c.args.self.now.alloc c.in_ok-first.first c.in_ok-tasks.tasks c.start-turn.new.self (tasks_turn c.start-turn.result) (turn_of c.after_tasks.result)
    (λ store. g.met.P.StorePlan.aimed_unbegun c.args.self.now.inner store c.requires.unbegun) made c.in_ok-tasks.ensures.fresh c.in_ok-tasks.ensures.fits c.in_ok-tasks.ensures.left c.in_ok-tasks.ensures.bears
    (c.start-turn.ensures.goes.next c.in_ok-tasks.ensures.fresh) c.start-turn.ensures.ready (c.start-turn.ensures.tells c.args.self.now.inner _) (c.start-turn.ensures.counts c.args.self.now.inner _) c.after_tasks.ensures
