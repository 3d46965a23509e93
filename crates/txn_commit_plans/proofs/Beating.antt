-- The plan of a heartbeat is one of it.
use Rattle.std.proofs.Common.{◌≡◌, ◌⊎◌, inl, inr, false, List, Option, Some, sym, ap, subst, ◌∙◌}
use Rattle.std.specs.Prelude.{⊤}
use Rattle.txn_heartbeat.specs.Beats.{IsLookUp, IsPlanForBeats, IsSentAs}
use Rattle.txn_history.specs.Around.{around-unbegun}
use Rattle.txn_history.specs.Event.{Event}
use Rattle.txn_history.specs.Meaning.{IsUnbegun}
use Rattle.txn_kv.specs.declared.message.Context.{Context}
use Rattle.txn_kv.specs.declared.query.PdQuery.{PdQuery}
use Rattle.txn_kv.specs.declared.query.PdQuery.TheVariants.{Region, RegionId, Safepoint, Store, Stores, Time}
use Rattle.txn_kv.specs.declared.request.Request.{Request}
use Rattle.txn_kv.specs.declared.request.Request.TheVariants.{GetRegion, GetRegionById, GetStore, TxnHeartBeat}
use Rattle.txn_kv.specs.declared.request.commits.TxnHeartBeatRequest.{TxnHeartBeatRequest}
use Rattle.txn_merge.specs.Gathered.{single_of}
use Rattle.txn_multi.specs.Cutting.{IsPlacement}
use Rattle.txn_region.specs.Clients.{IsPlaceQuery}
use Rattle.txn_plan.specs.Merged.{IsMerged}
use Rattle.txn_shard.specs.Parts.{TxnHeartBeatPart}
use Rattle.txn_tso.specs.Placement.{request_of}
use Rattle.txn_commit_plans.specs.Kinds.{beats, heartbeat_plan, Beats, HeartbeatPlan}

-- Looking for regions and stores

the : (a b : Request) → Some a ≡ Some b → a ≡ b
the a b e = cc

queried : (q : PdQuery) (r : Request) → IsPlaceQuery q → request_of q ≡ Some r → IsLookUp r
queried (Region key) r p e = subst IsLookUp (the (GetRegion (record { region_key = key })) r e) tt
queried (RegionId id) r p e = subst IsLookUp (the (GetRegionById (record { region_id = id })) r e) tt
queried (Store id) r p e = subst IsLookUp (the (GetStore (record { store_id = id })) r e) tt
queried Stores r p e = absurd p
queried Time r p e = absurd p
queried (Safepoint at) r p e = absurd p

looked_up : (h : List Event) (r : Request) → IsPlacement h r → IsLookUp r
looked_up h r (inl p) = queried p.0 r p.1 p.2
looked_up h r (inr e) = subst IsLookUp (sym e) tt

-- and the heartbeat itself

beat_part : (request : TxnHeartBeatRequest) (context : Option Context) (q : TxnHeartBeatRequest) → TxnHeartBeatPart q (record request { context = context }) → IsSentAs request (TxnHeartBeat q)
beat_part request context q i = i

pub made_heartbeat : (request : TxnHeartBeatRequest) (context : Option Context) (s : Beats) (p : HeartbeatPlan) → p.inner ≡ s → s.inner.request ≡ record request { context = context }
    → IsUnbegun beats s → beats.ready s → IsPlanForBeats heartbeat_plan request p
made_heartbeat request context s p e same u r = record {
  unbegun = around-unbegun beats (λ x. x.inner) (λ x. IsMerged (λ results result. result ≡ single_of results)) (λ x. ⊤) (λ b. false) p (subst (IsUnbegun beats) (sym e) u);
  ready = (subst beats.ready (sym e) r, tt);
  asks = λ h q a. sent h q a;
}
  where
    is : p.inner.inner.request ≡ record request { context = context }
    is = ap (λ (x : Beats). x.inner.request) e ∙ same

    sent : (h : List Event) (q : Request) → beats.asks p.inner h q → IsSentAs request q ⊎ IsLookUp q
    sent h q (inl a) = inl (subst (IsSentAs request) (sym a.2.1) (beat_part request context a.0.request (subst (TxnHeartBeatPart a.0.request) is a.1)))
    sent h q (inr a) = inr (looked_up h q a)
