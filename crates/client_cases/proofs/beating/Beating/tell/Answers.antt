use Rattle.client_cases.proofs.Living.{stays_alive}
use Rattle.client_cases.proofs.beating.Beating.tell.Goals as goal

pub invariant_of-self : goal.invariant_of-self
invariant_of-self g c = (stays_alive g.H.Plan.meaning c.tell-turn.result c.self.inside.job c.tell-turn.new.self c.self.inside.out c.tell-turn.new.out c.self.invariant.0 c.tell-turn.ensures.kept c.tell-turn.ensures.gives_up c.tell-turn.ensures.alive, c.tell-turn.ensures.numbers)
