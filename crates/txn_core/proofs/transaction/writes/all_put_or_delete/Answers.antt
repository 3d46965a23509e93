use Rattle.std.proofs.Common.{◌∙◌, arith, sym}
use Rattle.txn_core.proofs.Lists.{all_end, all_next, not_all}
use Rattle.txn_core.proofs.transaction.writes.all_put_or_delete.Goals as goal

pub returns-then-not-is_put_or_delete : goal.returns-then-not-is_put_or_delete
returns-then-not-is_put_or_delete c = not_all c.args.mutations.now c.loop-mutation.mutation-index c.mutation-item.result c.mutation-item.is c.loop-mutation-test.true (sym c.if-not-is_put_or_delete.ensures)

pub loop-mutation-preserved : goal.loop-mutation-preserved
loop-mutation-preserved c = all_next c.args.mutations.now c.loop-mutation.mutation-index c.mutation-item.result c.mutation-item.is c.loop-mutation-test.true (sym c.if-not-is_put_or_delete.ensures) ∙ c.loop-mutation.invariant

pub returns : goal.returns
returns c = let t = c.loop-mutation-test.false in sym (sym c.loop-mutation.invariant ∙ all_end c.args.mutations.now c.loop-mutation.mutation-index (omega arith))
