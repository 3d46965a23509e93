use Rattle.std.proofs.Common.{◌≡◌, ◌∙◌, None, ap, sym}
use Rattle.std.specs.Prelude.{cond, nat_eq, not}
use Rattle.std.specs.List.{filter, find}
use Rattle.std.specs.Option.{option_map}
use Rattle.txn_kv.specs.declared.region.RegionWithLeader.{RegionWithLeader}
use Rattle.txn_region.specs.Regions.{has_id, same_epoch}
use Rattle.txn_region.specs.Starts.{start_of}
use Rattle.txn_region.proofs.FirstBytes.{are_removed}
use Rattle.txn_region.proofs.Ids.{other_version, removed_place, removed_version, start_without}
use Rattle.txn_region.proofs.sorted.drop_at.Goals as goal

pub returns-then-same_epoch-clause-items : goal.returns-then-same_epoch-clause-items
returns-then-same_epoch-clause-items c =
    let v = c.args.ver_id.now in
    c.remove.ensures.items
    ∙ removed_version v c.args.regions.now.items c.args.at c.index.result.now c.requires.kept.own_ids c.requires.place.in_range (c.requires.place.has c.index.result.now)
    (ap (λ (r : RegionWithLeader). same_epoch v.conf_ver v.ver r.region.region_epoch) (sym c.index.ensures) ∙ (sym c.same_epoch.ensures ∙ c.if-same_epoch.true))

pub returns-then-same_epoch-clause-starts : goal.returns-then-same_epoch-clause-starts
returns-then-same_epoch-clause-starts c = λ q.
    let id = c.args.ver_id.now.id in
    let rs = c.args.regions.now.items in
    let others : c.remove.new.self.items ≡ filter (λ r. not (has_id id r)) rs = c.remove.ensures.items ∙ removed_place id rs c.args.at c.index.result.now c.requires.kept.own_ids c.requires.place.in_range (c.requires.place.has c.index.result.now) in
    c.forget.ensures q
    ∙ (ap (λ z. cond (nat_eq id q) None z) (c.requires.starts q)
    ∙ (start_without id q rs
    ∙ ap (λ zs. option_map start_of (find (has_id q) zs)) (sym others)))

pub returns-else-same_epoch-clause-items : goal.returns-else-same_epoch-clause-items
returns-else-same_epoch-clause-items c =
    let v = c.args.ver_id.now in
    sym (other_version v c.args.regions.now.items c.args.at c.index.result.now c.requires.kept.own_ids c.requires.place.in_range (c.requires.place.has c.index.result.now)
    (ap (λ (r : RegionWithLeader). same_epoch v.conf_ver v.ver r.region.region_epoch) (sym c.index.ensures) ∙ (sym c.same_epoch.ensures ∙ c.if-same_epoch.false)))

pub returns-then-same_epoch-clause-heads : goal.returns-then-same_epoch-clause-heads
returns-then-same_epoch-clause-heads c = rw (c.remove.ensures.items, c.remove-then-same_epoch.ensures.items) (are_removed _ _ c.args.at c.requires.heads)
