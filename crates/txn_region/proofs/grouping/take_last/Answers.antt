use Rattle.std.proofs.Common.{arith}
use Rattle.txn_region.proofs.RangeGroups.{first_at, last_at}
use Rattle.txn_region.proofs.grouping.take_last.Goals as goal

pub returns-clause-taken : goal.returns-clause-taken
returns-clause-taken c =
    let has = c.args.ranges.now.ok.0 in
    last_at _ c.args.count c.args.ranges.now.items _ _ (omega arith) (omega arith) c.in_ok-last.ensures.tail c.reverse.ensures.items

pub returns-clause-left : goal.returns-clause-left
returns-clause-left c =
    let has = c.args.ranges.now.ok.0 in
    first_at _ c.args.count c.args.ranges.now.items _ (omega arith) (omega arith) c.in_ok-last.ensures.items
