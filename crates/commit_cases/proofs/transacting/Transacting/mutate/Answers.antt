use Rattle.commit_cases.proofs.Writes.{written}
use Rattle.commit_cases.proofs.transacting.Transacting.mutate.Goals as goal

pub invariant_of-self : goal.invariant_of-self
invariant_of-self g c = written _ _ _ c.self.inside.txn c.batch_mutate-turn.new.self c.self.inside.out c.batch_mutate-turn.new._out _ c.batch_mutate-turn.ensures.ends c.batch_mutate-turn.ensures.quiet.0 c.self.invariant
