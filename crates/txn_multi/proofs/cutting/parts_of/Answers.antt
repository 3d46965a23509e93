use Rattle.txn_multi.proofs.Lookings.{AreApplied-push}
use Rattle.txn_multi.proofs.cutting.parts_of.Goals as goal

pub loop-shard-preserved : goal.loop-shard-preserved
loop-shard-preserved g c =
    rw c.in_ok-push.ensures
    (AreApplied-push g.P.Shardable.Applies c.args.plan.now c.loop-shard.yielded c.loop-shard.parts.items (record { 0 = c.in-Some.shard; 1 = c.in-Some.store }) c.in_ok-part_of.field-0 c.loop-shard.invariant c.in_ok-part_of.ensures.part)
