use Rattle.std.proofs.Common.{◌≡◌, ◌++◌, map}
use Rattle.std.specs.List.{All}
use Rattle.txn_retry.specs.Place.{order_of, parts_of}
use Rattle.txn_retry.specs.Walk.{pending, steps_left, IsMade}
use Rattle.txn_retry.proofs.walk.in_order.Given as goal

abbrev pub invariant-loop-run : goal.invariant-loop-run
invariant-loop-run g l = record {
  same : l.order.items ++ pending (map parts_of l.places) l.runs.items ≡ order_of l.roots (map parts_of l.places);
  made : All (IsMade (map parts_of l.places)) l.runs.items;
}

abbrev pub decreases-loop-run : goal.decreases-loop-run
decreases-loop-run g l = steps_left (map parts_of l.places) l.runs.items
