use Rattle.std.proofs.Common.{◌≡◌, ◌∙◌, Some, None, ap, refl, sym}
use Rattle.std.specs.Prelude.{cond, nat_eq, not}
use Rattle.std.specs.List.{filter, find, list_any}
use Rattle.std.specs.Option.{option_map}
use Rattle.txn_kv.specs.declared.region.RegionWithLeader.{RegionWithLeader}
use Rattle.txn_region.specs.Regions.{added, has_id, in_order, meets, met, placed}
use Rattle.txn_region.specs.Starts.{start_at, start_of}
use Rattle.txn_region.proofs.Ids.{start_with}
use Rattle.txn_region.proofs.Placing.{added_is_placed}
use Rattle.txn_region.proofs.sorted.put_region.Goals as goal

pub returns-clause-starts : goal.returns-clause-starts
returns-clause-starts c = λ q.
    let new = c.args.region in
    let id = new.region.id in
    let old = c.args.regions.now.items in
    let others = filter (λ r. not (has_id id r)) old in
    let kept = filter (λ (r : RegionWithLeader). not (meets new.region r.region)) others in
    let same = c.make_room.ensures.items in
    let placed_there : c.put_at.new.regions.items ≡ placed new kept =
    c.put_at.ensures.items ∙ (ap (λ zs. in_order (added new zs)) same ∙ added_is_placed new old c.requires.kept.apart) in
    let before : start_at c.set_start.new.starts q ≡ cond (nat_eq id q) (Some new.region.start_key) (option_map start_of (find (has_id q) old)) =
    c.in_ok-set_start.ensures.ok q
    ∙ (ap (λ s. cond (nat_eq id q) (Some s) (start_at c.args.starts.now q)) c.in_ok-start.ensures
    ∙ ap (λ z. cond (nat_eq id q) (Some new.region.start_key) z) (c.requires.starts q)) in
    c.put_at.ensures.starts q
    ∙ (ap (λ zs. cond (list_any (has_id q) (met new.region zs)) None (start_at c.set_start.new.starts q)) same
    ∙ (ap (λ z. cond (list_any (has_id q) (met new.region old)) None z) before
    ∙ (start_with q new old others kept (λ (r : RegionWithLeader). meets new.region r.region) c.requires.kept.own_ids refl refl
    ∙ sym (ap (λ zs. option_map start_of (find (has_id q) zs)) placed_there))))
