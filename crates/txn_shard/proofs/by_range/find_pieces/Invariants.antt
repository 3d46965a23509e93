use Rattle.std.proofs.Common.{◌≡◌, ◌-◌, ◌^◌, ◌++◌, length, List}
use Rattle.txn_region.specs.declared.store.RegionStore.{RegionStore}
use Rattle.txn_shard.specs.Shards.{NextOf, Range, RangeIsFound}
use Rattle.txn_shard.proofs.by_range.find_pieces.Given as goal

abbrev pub invariant-loop-next : goal.invariant-loop-next
invariant-loop-next g l = record {
  kept : RangeIsFound l.range l.found;
  next : NextOf l.range l.found l.next;
  stays : (more : List (Range × RegionStore)) × (l.found.shards.items ≡ l.initial.found.shards.items ++ more);
  changed : g.C.PdClient.looked l.initial.pd l.pd;
}

abbrev pub decreases-loop-next : goal.decreases-loop-next
decreases-loop-next g l = 2 ^ 63 - length l.found.shards.items
