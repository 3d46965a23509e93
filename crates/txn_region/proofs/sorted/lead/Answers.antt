use Rattle.std.proofs.Common.{◌∙◌, ap, set, sym}
use Rattle.txn_region.specs.Regions.{led_if, IsPlaceOf}
use Rattle.txn_region.proofs.Ids.{led_at, none_if_not_found, none_led_here}
use Rattle.txn_region.proofs.sorted.lead.Goals as goal

pub returns-in-Some : goal.returns-in-Some
returns-in-Some c =
    let v = c.args.ver_id.now in
    let rs = c.args.regions.now.items in
    let place : IsPlaceOf v.id rs c.in-Some.at = rw c.as_slice.ensures.value at c.in-Some.ensures.found in
    ap (set rs c.in-Some.at) (c.lead_if.ensures ∙ ap (led_if v c.args.leader) c.index_mut.ensures.value)
    ∙ led_at v c.args.leader rs c.in-Some.at c.index_mut.result.now c.requires.kept.own_ids place.in_range (place.has c.index_mut.result.now)

pub returns-in-None : goal.returns-in-None
returns-in-None c =
    let v = c.args.ver_id.now in
    let none = rw c.as_slice.ensures.value at c.in-None.ensures.none in
    sym (none_led_here v c.args.leader _ (none_if_not_found v.id _ none))
