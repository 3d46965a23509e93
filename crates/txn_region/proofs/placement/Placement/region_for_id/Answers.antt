use Rattle.txn_region.proofs.Believing.{found_of}
use Rattle.txn_region.proofs.placement.Placement.region_for_id.Goals as goal

pub returns-clause-look : goal.returns-clause-look
returns-clause-look c = rw (← c.self.view_is) (found_of c.self.inside.enable_mvcc_codec c.args.id c.self.inside.cache c.find_by_id.result c.find_by_id.ensures.look)
