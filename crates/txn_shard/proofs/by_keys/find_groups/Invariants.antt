use Rattle.std.proofs.Common.{◌≡◌, ◌-◌, ◌++◌, length, List}
use Rattle.txn_region.specs.declared.store.RegionStore.{RegionStore}
use Rattle.txn_shard.specs.Shards.{KeysAreFound}
use Rattle.txn_shard.proofs.by_keys.find_groups.Given as goal

abbrev pub invariant-loop-found : goal.invariant-loop-found
invariant-loop-found g l = record {
  kept : KeysAreFound g.K.AsKey.key g.K.InBytes.count l.batch_size l.order l.found;
  stays : (more : List (List _ × RegionStore)) × (l.found.shards.items ≡ l.initial.found.shards.items ++ more);
  changed : g.C.PdClient.looked l.initial.pd l.pd;
}

abbrev pub decreases-loop-found : goal.decreases-loop-found
decreases-loop-found g l = length l.order - l.found.next
