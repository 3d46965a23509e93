use Rattle.std.proofs.Common.{◌≡◌, take, drop, ◌++◌, ◌∷◌, None, ap, sym, ◌∙◌}
use Rattle.std.specs.Prelude.{cond, not, slice_range}
use Rattle.std.specs.List.{filter, list_any}
use Rattle.txn_region.specs.Regions.{AreApart, ended_at, has_id, meets, met}
use Rattle.txn_region.specs.Starts.{start_at}
use Rattle.txn_region.proofs.Apart.{apart_filter}
use Rattle.txn_region.proofs.FirstBytes.{are_replaced, are_without}
use Rattle.txn_region.proofs.Indexed.{run_is_met, without_its_place}
use Rattle.txn_region.proofs.Placing.{added_by_run, ended_le_begun, inserted_in_range}
use Rattle.txn_region.proofs.sorted.put_at.Goals as goal

pub count_ended-from-requires-clause-apart : goal.count_ended-from-requires-clause-apart
count_ended-from-requires-clause-apart c =
    let others = without_its_place c.args.place c.args.region.region.id c.args.regions.now.items c.requires.kept.own_ids c.requires.found c.requires.none in
    rw (c.as_slice.ensures.value, c.drop_place.ensures.items, others) (apart_filter _ _ c.requires.kept.apart)

pub count_begun-to-requires : goal.count_begun-to-requires
count_begun-to-requires c =
    let others = without_its_place c.args.place c.args.region.region.id c.args.regions.now.items c.requires.kept.own_ids c.requires.found c.requires.none in
    rw (c.as_slice-3.ensures.value, c.drop_place.ensures.items, others) (apart_filter _ _ c.requires.kept.apart)

pub forget_run-requires-clause-order : goal.forget_run-requires-clause-order
forget_run-requires-clause-order c =
    let rs = c.drop_place.new.items.items in
    let others = c.drop_place.ensures.items ∙ without_its_place c.args.place c.args.region.region.id c.args.regions.now.items c.requires.kept.own_ids c.requires.found c.requires.none in
    let apart : AreApart rs = rw others (apart_filter _ _ c.requires.kept.apart) in
    let from = rw c.as_slice.ensures.value at c.count_ended-from.ensures.count in
    let to = rw c.as_slice-3.ensures.value at c.count_begun-to.ensures.count in
    rw (from, to) (ended_le_begun c.args.region rs c.requires.right_way apart)

pub replace_run-requires-clause-order : goal.replace_run-requires-clause-order
replace_run-requires-clause-order c =
    let rs = c.drop_place.new.items.items in
    let others = c.drop_place.ensures.items ∙ without_its_place c.args.place c.args.region.region.id c.args.regions.now.items c.requires.kept.own_ids c.requires.found c.requires.none in
    let apart : AreApart rs = rw others (apart_filter _ _ c.requires.kept.apart) in
    let from = rw c.as_slice.ensures.value at c.count_ended-from.ensures.count in
    let to = rw c.as_slice-3.ensures.value at c.count_begun-to.ensures.count in
    rw (from, to) (ended_le_begun c.args.region rs c.requires.right_way apart)

pub replace_run-requires-2-clause-order : goal.replace_run-requires-2-clause-order
replace_run-requires-2-clause-order c =
    let rs = c.drop_place.new.items.items in
    let others = c.drop_place.ensures.items ∙ without_its_place c.args.place c.args.region.region.id c.args.regions.now.items c.requires.kept.own_ids c.requires.found c.requires.none in
    let apart : AreApart rs = rw others (apart_filter _ _ c.requires.kept.apart) in
    let from = rw c.as_slice.ensures.value at c.count_ended-from.ensures.count in
    let to = rw c.as_slice-3.ensures.value at c.count_begun-to.ensures.count in
    rw (from, to) (ended_le_begun c.args.region rs c.requires.right_way apart)

pub returns-clause-items : goal.returns-clause-items
returns-clause-items c =
    let new = c.args.region in
    let rs = c.drop_place.new.items.items in
    let others = c.drop_place.ensures.items ∙ without_its_place c.args.place new.region.id c.args.regions.now.items c.requires.kept.own_ids c.requires.found c.requires.none in
    let from = rw c.as_slice.ensures.value at c.count_ended-from.ensures.count in
    let to = rw c.as_slice-3.ensures.value at c.count_begun-to.ensures.count in
    let bound = rw c.as_slice.ensures.value at c.count_ended-from.ensures.bound in
    c.replace_run.ensures
    ∙ (inserted_in_range rs c.count_ended-from.result c.count_begun-to.result new bound
    ∙ (ap (λ n. take n rs ++ new ∷ drop c.count_begun-to.result rs) from
    ∙ (ap (λ n. take (ended_at new.region.start_key rs) rs ++ new ∷ drop n rs) to
    ∙ sym (added_by_run new c.args.regions.now.items rs c.requires.right_way c.requires.kept.apart others))))

pub returns-clause-starts : goal.returns-clause-starts
returns-clause-starts c = λ q.
    let new = c.args.region in
    let old = c.args.regions.now.items in
    let rs = c.drop_place.new.items.items in
    let others : rs ≡ filter (λ r. not (has_id new.region.id r)) old = c.drop_place.ensures.items ∙ without_its_place c.args.place new.region.id old c.requires.kept.own_ids c.requires.found c.requires.none in
    let apart : AreApart rs = rw others (apart_filter _ _ c.requires.kept.apart) in
    let from = rw c.as_slice.ensures.value at c.count_ended-from.ensures.count in
    let to = rw c.as_slice-3.ensures.value at c.count_begun-to.ensures.count in
    let run : slice_range c.as_slice-4.result.now c.count_ended-from.result c.count_begun-to.result ≡ met new.region old =
    ap (λ zs. slice_range zs c.count_ended-from.result c.count_begun-to.result) c.as_slice-4.ensures.value
    ∙ (ap (λ n. slice_range rs n c.count_begun-to.result) from
    ∙ (ap (slice_range rs (ended_at new.region.start_key rs)) to
    ∙ (run_is_met new rs c.requires.right_way apart
    ∙ ap (filter (λ r. meets new.region r.region)) others))) in
    c.forget_run.ensures q
    ∙ ap (λ zs. cond (list_any (has_id q) zs) None (start_at c.args.starts.now q)) run

pub count_ended-from-requires-clause-heads : goal.count_ended-from-requires-clause-heads
count_ended-from-requires-clause-heads c =
    rw (c.as_slice.ensures.value, c.as_slice-2.ensures.value, c.drop_place.ensures.items, c.drop_place-2.ensures.items) (are_without _ _ c.args.place c.requires.heads)

pub returns-clause-heads : goal.returns-clause-heads
returns-clause-heads c =
    rw (c.replace_run.ensures, c.replace_run-2.ensures, c.drop_place.ensures.items, c.drop_place-2.ensures.items) (are_replaced _ _ _ _ _ _ (are_without _ _ c.args.place c.requires.heads) c.end_head-head.ensures)
