use Rattle.std.proofs.Common.{◌∙◌, arith}
use Rattle.txn_model.proofs.Changing.{made_next}
use Rattle.txn_model.proofs.change.make_changes.Goals as goal

pub loop-change-preserved : goal.loop-change-preserved
loop-change-preserved c = record {
  kept = c.make_change.ensures.kept;
  room = omega (arith, c.in-Some.ensures.cases);
  cells = λ k. made_next c.loop-change.changes.items c.pop.new.self.items c.in-Some.change c.in-Some.ensures.items c.loop-change.cells.items c.make_change.new.cells.items c.make_change.ensures.cells k ∙ c.loop-change.invariant.cells k;
}
