use Rattle.std.proofs.Common.{sym}
use Rattle.txn_region.proofs.FirstBytes.{below_by_head, ended_by_head}
use Rattle.txn_region.proofs.sorted.is_below_end.Goals as goal

pub returns-in-Less : goal.returns-in-Less
returns-in-Less c = sym (below_by_head _ c.args.head.now _ c.args.region.now c.requires.head (rw c.in-Some.is at c.requires.end) (sym c.in-Less.ensures))

pub returns-in-Greater : goal.returns-in-Greater
returns-in-Greater c = sym (ended_by_head _ c.args.head.now _ c.args.region.now c.requires.head (rw c.in-Some.is at c.requires.end) (sym c.in-Greater.ensures))
