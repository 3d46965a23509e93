-- Looking for regions and stores rests on nothing.
use Rattle.std.proofs.Common.{◌≡◌, inl, inr, List, Some, sym, subst}
use Rattle.txn_history.specs.Event.{Event}
use Rattle.txn_history.specs.Foreign.{IsForeign}
use Rattle.txn_kv.specs.declared.query.PdQuery.{PdQuery}
use Rattle.txn_kv.specs.declared.query.PdQuery.TheVariants.{Region, RegionId, Store, Stores, Time, Safepoint}
use Rattle.txn_kv.specs.declared.request.Request.{Request}
use Rattle.txn_kv.specs.declared.request.Request.TheVariants.{GetRegion, GetRegionById, GetStore}
use Rattle.txn_multi.specs.Cutting.{IsPlacement}
use Rattle.txn_region.specs.Clients.{IsPlaceQuery}
use Rattle.txn_tso.specs.Placement.{request_of}

the : (a b : Request) → Some a ≡ Some b → a ≡ b
the a b e = cc

queried : (h : List Event) (q : PdQuery) (r : Request) → IsPlaceQuery q → request_of q ≡ Some r → IsForeign h r
queried h (Region key) r p e = subst (IsForeign h) (the (GetRegion (record { region_key = key })) r e) tt
queried h (RegionId id) r p e = subst (IsForeign h) (the (GetRegionById (record { region_id = id })) r e) tt
queried h (Store id) r p e = subst (IsForeign h) (the (GetStore (record { store_id = id })) r e) tt
queried h Stores r p e = absurd p
queried h Time r p e = absurd p
queried h (Safepoint at) r p e = absurd p

pub placed_foreign : (h : List Event) (r : Request) → IsPlacement h r → IsForeign h r
placed_foreign h r (inl p) = queried h p.0 r p.1 p.2
placed_foreign h r (inr e) = subst (IsForeign h) (sym e) tt
