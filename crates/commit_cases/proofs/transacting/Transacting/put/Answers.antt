use Rattle.commit_cases.proofs.Writes.{written}
use Rattle.commit_cases.proofs.transacting.Transacting.put.Goals as goal

pub invariant_of-self : goal.invariant_of-self
invariant_of-self g c = written _ _ _ c.self.inside.txn c.put-turn.new.self c.self.inside.out c.put-turn.new._out _ c.put-turn.ensures.ends c.put-turn.ensures.quiet.0 c.self.invariant
