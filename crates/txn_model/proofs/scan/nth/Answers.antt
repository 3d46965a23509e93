use Rattle.std.proofs.Common.{◌-◌, length, arith}
use Rattle.txn_model.proofs.OrderlyCells.{commits_at}
use Rattle.txn_model.proofs.scan.nth.Goals as goal

pub returns-then-is_reversed-clause-commits : goal.returns-then-is_reversed-clause-commits
returns-then-is_reversed-clause-commits c = commits_at c.args.cells.now (length c.args.cells.now - 1 - c.args.at) c.index-cells-cells.result c.requires.in_order c.requires.ordered (let h = c.requires.in_range in omega (arith, h)) c.index-cells-cells.is

pub returns-else-is_reversed-clause-commits : goal.returns-else-is_reversed-clause-commits
returns-else-is_reversed-clause-commits c = commits_at c.args.cells.now c.args.at c.index-cells-at.result c.requires.in_order c.requires.ordered c.requires.in_range c.index-cells-at.is
