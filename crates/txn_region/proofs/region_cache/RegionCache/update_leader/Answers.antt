use Rattle.std.proofs.Common.{◌∙◌, ap, sym}
use Rattle.std.specs.List.{find}
use Rattle.std.specs.Option.{option_map}
use Rattle.txn_region.specs.Regions.{has_id}
use Rattle.txn_region.specs.Starts.{start_of}
use Rattle.txn_region.proofs.Apart.{kept_led}
use Rattle.txn_region.proofs.FirstBytes.{are_led}
use Rattle.txn_region.proofs.Ids.{led_start}
use Rattle.txn_region.proofs.region_cache.RegionCache.update_leader.Goals as goal

pub invariant_of-self : goal.invariant_of-self
invariant_of-self c = (
  rw c.lead.ensures (kept_led _ _ _ c.self.invariant.0),
  rw c.lead.ensures (are_led c.args.ver_id.now c.args.leader _ _ c.self.invariant.1),
  λ q. c.self.invariant.2 q ∙ (sym (led_start c.args.ver_id.now c.args.leader q _) ∙ ap (λ zs. option_map start_of (find (has_id q) zs)) (sym c.lead.ensures)),
)
