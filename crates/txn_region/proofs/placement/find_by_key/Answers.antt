use Rattle.std.proofs.Common.{◌∙◌, sym}
use Rattle.txn_region.proofs.Believing.{found_some, good_found}
use Rattle.txn_region.proofs.placement.find_by_key.Goals as goal

pub show-requires : goal.show-requires
show-requires c = good_found c.args.encodes _ c.args.cache.now.regions c.in-Found.region c.requires (found_some _ _ _ (sym c.in_ok-region.ensures.ok ∙ c.in-Found.is))

pub returns-in-Found-clause-look : goal.returns-in-Found-clause-look
returns-in-Found-clause-look c =
    let found = found_some _ _ c.in-Found.region (sym c.in_ok-region.ensures.ok ∙ c.in-Found.is) in
    let sound = rw c.in-Found.is at c.in_ok-region.ensures.sound in
    (c.in-Found.region, c.show.ensures, good_found c.args.encodes _ c.args.cache.now.regions c.in-Found.region c.requires found, sound, found)
