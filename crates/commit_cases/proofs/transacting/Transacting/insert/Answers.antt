use Rattle.commit_cases.proofs.Writes.{written}
use Rattle.commit_cases.proofs.transacting.Transacting.insert.Goals as goal

pub invariant_of-self : goal.invariant_of-self
invariant_of-self g c = written _ _ _ c.self.inside.txn c.insert-turn.new.self c.self.inside.out c.insert-turn.new._out _ c.insert-turn.ensures.ends c.insert-turn.ensures.quiet.0 c.self.invariant
