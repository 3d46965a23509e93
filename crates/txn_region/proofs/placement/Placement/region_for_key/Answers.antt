use Rattle.std.proofs.Common.{true}
use Rattle.txn_region.proofs.Believing.{found_at}
use Rattle.txn_region.proofs.placement.Placement.region_for_key.Goals as goal

pub returns-then-self-clause-look : goal.returns-then-self-clause-look
returns-then-self-clause-look c = rw (← c.self.view_is, c.if-self.true) (found_at true c.args.key.now _ c.self.inside.cache c.find_by_key.result c.in_ok-stored.ensures c.find_by_key.ensures.look)
