-- What look-ups may change of a client: the ids of regions whose look-up is out, and the connection that calls are lent.
use Rattle.std.specs.Prelude.{◌≡◌}
use Rattle.std.proofs.Common.{◌∙◌}
use Rattle.txn_region.specs.declared.pd_rpc_client.PdRpcClient.{PdRpcClient}

pub record LookedUp {C : Type 0} (old new : PdRpcClient C) : Type 0 where
  pub regions : new.placement.cache.regions ≡ old.placement.cache.regions
  pub stores : new.placement.cache.stores ≡ old.placement.cache.stores
  pub encodes : new.placement.encodes ≡ old.placement.encodes
  pub codec : new.codec ≡ old.codec

pub looked_on : {C : Type 0} (a b c : PdRpcClient C) → LookedUp a b → LookedUp b c → LookedUp a c
looked_on a b c h k = record {
  regions = k.regions ∙ h.regions;
  stores = k.stores ∙ h.stores;
  encodes = k.encodes ∙ h.encodes;
  codec = k.codec ∙ h.codec;
}
