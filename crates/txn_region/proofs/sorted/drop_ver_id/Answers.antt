use Rattle.std.proofs.Common.{sym}
use Rattle.txn_region.proofs.Ids.{all_other_versions, none_if_not_found}
use Rattle.txn_region.proofs.sorted.drop_ver_id.Goals as goal

pub returns-in-None-clause-items : goal.returns-in-None-clause-items
returns-in-None-clause-items c =
    let v = c.args.ver_id.now in
    let none = rw c.as_slice.ensures.value at c.in-None.ensures.none in
    sym (all_other_versions v _ (none_if_not_found v.id _ none))
