use Rattle.std.proofs.Common.{◌+◌, ◌-◌, ◌/◌, ◌<◌, ◌∙◌, ap, length, sym, arith}
use Rattle.txn_kv.specs.declared.region.RegionWithLeader.{RegionWithLeader}
use Rattle.txn_region.specs.Regions.{ended_at, is_below}
use Rattle.txn_region.proofs.Placing.{leading_le}
use Rattle.txn_region.proofs.Searching.{among_ended, after_ended}
use Rattle.txn_region.proofs.sorted.count_ended.Goals as goal

pub search-init : goal.search-init
search-init c = record { from = omega arith; to = leading_le _ _; in_range = omega arith }

pub search-preserved : goal.search-preserved
search-preserved c =
    let more = c.search-test.true in
    let in_range = c.search.invariant.in_range in
    let l : c.search.from + (c.search.to - c.search.from) / 2 < length c.args.regions.now = omega arith in
    let ended : c.search.from + (c.search.to - c.search.from) / 2 < ended_at c.args.key.now c.args.regions.now = among_ended c.args.key.now c.args.regions.now _ c.index-regions-middle.result c.requires.apart l (ap (λ (r : RegionWithLeader). is_below c.args.key.now r.region.end_key) (sym c.index-regions-middle.is) ∙ (sym c.is_below_end.ensures ∙ c.if-is_below_end.false)) in
    record { from = omega arith; to = c.search.invariant.to; in_range = in_range }

pub search-preserved-then-is_below_end : goal.search-preserved-then-is_below_end
search-preserved-then-is_below_end c =
    let more = c.search-test.true in
    let in_range = c.search.invariant.in_range in
    let l : c.search.from + (c.search.to - c.search.from) / 2 < length c.args.regions.now = omega arith in
    record { from = c.search.invariant.from; to = after_ended c.args.key.now c.args.regions.now _ c.index-regions-middle.result l (ap (λ (r : RegionWithLeader). is_below c.args.key.now r.region.end_key) (sym c.index-regions-middle.is) ∙ (sym c.is_below_end.ensures ∙ c.if-is_below_end.true)); in_range = omega arith }
