use Rattle.std.proofs.Common.{◌≤◌, ◌-◌, length}
use Rattle.txn_region.specs.Regions.{ended_at}
use Rattle.txn_region.proofs.sorted.count_ended.Given as goal

abbrev pub invariant-search : goal.invariant-search
invariant-search l = record {
  from : l.from ≤ ended_at l.key l.regions;
  to : ended_at l.key l.regions ≤ l.to;
  in_range : l.to ≤ length l.regions;
}

abbrev pub decreases-search : goal.decreases-search
decreases-search l = l.to - l.from
