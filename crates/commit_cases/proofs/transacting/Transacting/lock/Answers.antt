use Rattle.commit_cases.proofs.Writes.{written}
use Rattle.commit_cases.proofs.transacting.Transacting.lock.Goals as goal

pub invariant_of-self : goal.invariant_of-self
invariant_of-self g c = written _ _ _ c.self.inside.txn c.lock_keys-turn.new.self c.self.inside.out c.lock_keys-turn.new._out _ c.lock_keys-turn.ensures.ends c.lock_keys-turn.ensures.quiet.0 c.self.invariant
