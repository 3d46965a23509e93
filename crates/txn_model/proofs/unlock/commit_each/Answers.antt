use Rattle.std.proofs.Common.{arith}
use Rattle.txn_model.proofs.Unlocking.{can_more, back_more}
use Rattle.txn_model.proofs.Settled.{commitment_more}
use Rattle.txn_model.proofs.unlock.commit_each.Goals as goal

pub loop-one-preserved : goal.loop-one-preserved
loop-one-preserved c =
    let before = c.loop-one.invariant in
    record {
      kept = c.in-Ok.ensures.kept;
      few = omega arith;
      room = omega arith;
      can = can_more c.loop-one.done.items c.keep.new.done.items c.in-Ok.unlocked c.loop-one.cells.items c.commit_key.new.cells.items c.keep.ensures.items c.in-Ok.ensures.undo before.can;
      back = back_more c.loop-one.done.items c.keep.new.done.items c.in-Ok.unlocked c.loop-one.cells.items c.commit_key.new.cells.items _ c.keep.ensures.items c.in-Ok.ensures.undo before.back;
      cells = λ k. commitment_more c.args.commitments.now c.loop-one.one-index c.one-item.result c.args.cells.now.items c.loop-one.cells.items c.commit_key.new.cells.items k (omega arith) c.one-item.is (before.cells k) (c.in-Ok.ensures.ok k);
      len = omega (arith, c.in-Ok.ensures.len);
      capacity = omega (arith, c.in-Ok.ensures.capacity);
    }
