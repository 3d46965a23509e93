use Rattle.std.specs.Prelude.{◌&&◌, nat_eq}
use Rattle.txn_kv.specs.declared.region.RegionVerId.{RegionVerId}
use Rattle.txn_settle.proofs.Noting.{among_any, same_version}
use Rattle.txn_settle.proofs.cleaned_regions.stands_in.Goals as goal

pub returns : goal.returns
returns c = rw c.contains.ensures.value (among_any (λ (a : RegionVerId) (b : RegionVerId). nat_eq a.id b.id && (nat_eq a.conf_ver b.conf_ver && nat_eq a.ver b.ver)) same_version c.args.regions.now c.args.region.now)
