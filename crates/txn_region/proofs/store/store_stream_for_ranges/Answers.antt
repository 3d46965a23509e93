use Rattle.txn_region.proofs.RangeGroups.{group_off}
use Rattle.txn_region.proofs.store.store_stream_for_ranges.Goals as goal

pub returns-in_ok-group-in-Found-clause-look : goal.returns-in_ok-group-in-Found-clause-look
returns-in_ok-group-in-Found-clause-look g c =
    let last = rw c.as_slice.ensures.value at c.in-Some.ensures.item in
    let found = rw c.in-Found.is at c.in_ok-store.ensures.look in
    (found.0.1, found.1, group_off c.in-Found.store.region_with_leader.region c.args.ranges.now.items c.in_ok-group-in-Found.group.items _ c.in-Some.range.now last.3.0 last.1 found.0.0 c.in_ok-group-in-Found.ensures.group c.in_ok-group-in-Found.ensures.behind)
