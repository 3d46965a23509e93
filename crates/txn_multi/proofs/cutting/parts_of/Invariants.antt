use Rattle.txn_multi.specs.Cutting.{AreApplied}
use Rattle.txn_multi.proofs.cutting.parts_of.Given as goal

abbrev pub invariant-loop-shard : goal.invariant-loop-shard
invariant-loop-shard g l = AreApplied g.P.Shardable.Applies l.plan l.yielded l.parts.items
