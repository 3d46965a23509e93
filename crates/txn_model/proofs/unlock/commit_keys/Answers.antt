use Rattle.std.proofs.Common.{arith}
use Rattle.txn_model.specs.Cells.{cell_at}
use Rattle.txn_model.proofs.Unlocking.{can_more, back_more, committed_more}
use Rattle.txn_model.proofs.unlock.commit_keys.Goals as goal

pub loop-key-preserved : goal.loop-key-preserved
loop-key-preserved c =
    let before = c.loop-key.invariant in
    record {
      kept = c.in-Ok.ensures.kept;
      few = omega arith;
      room = omega arith;
      can = can_more c.loop-key.done.items c.keep.new.done.items c.in-Ok.one c.loop-key.cells.items c.commit_key.new.cells.items c.keep.ensures.items c.in-Ok.ensures.undo before.can;
      back = back_more c.loop-key.done.items c.keep.new.done.items c.in-Ok.one c.loop-key.cells.items c.commit_key.new.cells.items _ c.keep.ensures.items c.in-Ok.ensures.undo before.back;
      cells = λ k. committed_more c.args.keys.now c.loop-key.key-index c.key-item.result c.args.start c.args.commit (cell_at c.args.cells.now.items k) (cell_at c.loop-key.cells.items k) (cell_at c.commit_key.new.cells.items k) k (omega arith) c.key-item.is (before.cells k) (c.in-Ok.ensures.ok k);
    }
