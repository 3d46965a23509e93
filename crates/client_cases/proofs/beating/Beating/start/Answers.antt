use Rattle.client_cases.proofs.Living.{stays_alive}
use Rattle.client_cases.proofs.beating.Beating.start.Goals as goal

pub invariant_of-self : goal.invariant_of-self
invariant_of-self g c = (stays_alive g.H.Plan.meaning c.start-turn.result c.self.inside.job c.start-turn.new.self c.self.inside.out c.start-turn.new.out c.self.invariant.0 c.start-turn.ensures.kept c.start-turn.ensures.gives_up c.start-turn.ensures.alive, c.start-turn.ensures.numbers)
