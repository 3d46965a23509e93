use Rattle.std.proofs.Common.{◌≡◌, ◌-◌, take, drop, refl, arith}
use Rattle.txn_model.specs.Ranges.{in_range, cells_in}
use Rattle.txn_model.proofs.OrderlyCells.{order_in, orderly_in}
use Rattle.txn_model.proofs.PlacesInOrder.{part_passes}
use Rattle.txn_model.proofs.ranges.cells_in.Goals as goal

pub returns-clause-value : goal.returns-clause-value
returns-clause-value c =
    let from = c.count_below-from.ensures in
    let until = c.count_until.ensures in
    part_passes (λ x. in_range c.args.low.now c.args.high.now x.key) c.args.cells.now c.count_below-from.result (c.max-to.result - c.count_below-from.result)
    (λ i d l k. rw (from.below i d l) refl)
    (λ i d le l k. rw (from.rest i d le k, until.below i d (omega arith)) refl)
    (λ i d le k. rw (from.rest i d (omega arith) k, until.rest i d (omega arith) k) refl)

pub returns-clause-in_order : goal.returns-clause-in_order
returns-clause-in_order c =
    let same : take (c.max-to.result - c.count_below-from.result) (drop c.count_below-from.result c.args.cells.now) ≡ cells_in c.args.low.now c.args.high.now c.args.cells.now = returns-clause-value c in
    rw same (order_in c.args.low.now c.args.high.now c.args.cells.now c.requires.in_order)

pub returns-clause-ordered : goal.returns-clause-ordered
returns-clause-ordered c =
    let same : take (c.max-to.result - c.count_below-from.result) (drop c.count_below-from.result c.args.cells.now) ≡ cells_in c.args.low.now c.args.high.now c.args.cells.now = returns-clause-value c in
    rw same (orderly_in c.args.low.now c.args.high.now c.args.cells.now c.requires.ordered)
