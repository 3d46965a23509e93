use Rattle.std.proofs.Common.{refl}
use Rattle.txn_search.specs.Search.{never_timed}
use Rattle.txn_search.proofs.search_stage.SearchStage.take.Goals as goal

pub returns-in-Time : goal.returns-in-Time
returns-in-Time c = rw c.in-Time.is (refl, never_timed c.args.self.now c.in-Time.ask)
