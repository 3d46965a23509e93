use Rattle.commit_cases.proofs.Writes.{written}
use Rattle.commit_cases.proofs.transacting.Transacting.delete.Goals as goal

pub invariant_of-self : goal.invariant_of-self
invariant_of-self g c = written _ _ _ c.self.inside.txn c.delete-turn.new.self c.self.inside.out c.delete-turn.new._out _ c.delete-turn.ensures.ends c.delete-turn.ensures.quiet.0 c.self.invariant
