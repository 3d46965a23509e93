use Rattle.std.proofs.Common.{◌≡◌, ◌^◌, ◌-◌}
use Rattle.std.specs.Prelude.{map, min}
use Rattle.std.specs.List.{sum_by}
use Rattle.txn_shard.proofs.Batching.{AreUnderWay}
use Rattle.txn_shard.proofs.batchable.in_batches.Given as goal

abbrev pub invariant-loop-item : goal.invariant-loop-item
invariant-loop-item g l = record {
  under_way : AreUnderWay g.T.InBytes.count l.batch_size l.yielded (map (λ batch. batch.items) l.batches.items) l.batch.items;
  counted : l.size ≡ min (sum_by g.T.InBytes.count l.batch.items) (2 ^ 64 - 1);
}
