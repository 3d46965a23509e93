use Rattle.std.proofs.Common.{◌∙◌, ap, sym}
use Rattle.txn_history.specs.Phase.{unheard}
use Rattle.txn_routine.specs.RoutinePlan.{stage_phase}
use Rattle.txn_routine.proofs.Following.{begun, idle_start}
use Rattle.txn_routine.proofs.routine_plan.RoutinePlanPlan.start.Goals as goal

pub returns-in-Fresh : goal.returns-in-Fresh
returns-in-Fresh g c = begun g.R.Plan.Plan.meaning g.R.Routine.way c.args.self.now _ (sym c.replace.ensures.value ∙ c.in-Fresh.is) c.requires.numbers c.begin.ensures

pub returns-in_default : goal.returns-in_default
returns-in_default g c =
    let at = c.replace.ensures.value in
    idle_start g.R.Plan.Plan.meaning g.R.Routine.way g.met.R.Plan.Plan.lawful g.met.R.Routine.lawful c.args.self.now (c.stay.ensures.state ∙ ap (λ x. record c.args.self.now { stage = x }) at) c.requires.ready c.requires.numbers
    (λ e. c.in_default.not-Fresh (at ∙ e)) (c.stay.ensures.turn ∙ ap (λ x. unheard (stage_phase g.R.Plan.Plan.meaning x)) at)
