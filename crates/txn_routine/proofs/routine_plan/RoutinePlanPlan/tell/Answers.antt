use Rattle.std.proofs.Common.{◌∙◌, ap, sym}
use Rattle.txn_history.specs.Phase.{unheard}
use Rattle.txn_routine.specs.RoutinePlan.{stage_phase}
use Rattle.txn_routine.proofs.Following.{idle_tell, told_at}
use Rattle.txn_routine.proofs.routine_plan.RoutinePlanPlan.tell.Goals as goal

pub returns-in-Running : goal.returns-in-Running
returns-in-Running g c = told_at g.R.Plan.Plan.meaning g.R.Routine.way c.args.arrival c.args.self.now c.in-Running.plan (sym c.replace.ensures.value ∙ c.in-Running.is) c.tell_plan.ensures

pub returns-in_default : goal.returns-in_default
returns-in_default g c =
    let at = c.replace.ensures.value in
    idle_tell g.R.Plan.Plan.meaning g.R.Routine.way g.met.R.Plan.Plan.lawful g.met.R.Routine.lawful c.args.arrival c.args.self.now (c.stay.ensures.state ∙ ap (λ x. record c.args.self.now { stage = x }) at) c.requires.callable.ready c.requires.callable.numbers
    (λ p e. c.in_default.not-Running p (at ∙ e)) (c.stay.ensures.turn ∙ ap (λ x. unheard (stage_phase g.R.Plan.Plan.meaning x)) at)
