use Rattle.std.proofs.Common.{◌∙◌, arith}
use Rattle.txn_model.proofs.Locking.{locked_next}
use Rattle.txn_model.proofs.prewrite.set_locks.Goals as goal

pub loop-placing-preserved : goal.loop-placing-preserved
loop-placing-preserved c = record {
  kept = c.set_lock.ensures.kept;
  room = omega (arith, c.in-Some.ensures.cases);
  capacity = omega arith;
  few = omega (arith, c.in-Some.ensures.cases);
  cells = λ k. locked_next c.loop-placing.placings.items c.pop.new.self.items c.in-Some.placing c.in-Some.ensures.items c.loop-placing.cells.items c.set_lock.new.cells.items c.set_lock.ensures.cells k ∙ c.loop-placing.invariant.cells k;
}
