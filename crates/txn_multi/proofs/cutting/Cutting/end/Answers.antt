use Rattle.std.proofs.Common.{ap, inl, refl}
use Rattle.std.proofs.Math.Nat.{le_refl}
use Rattle.std.specs.Prelude.{Ok}
use Rattle.txn_multi.specs.Cutting.{Looking}
use Rattle.txn_multi.proofs.Lookings.{ended, from_mid, same_length, ArePartsOf-applied}
use Rattle.txn_multi.proofs.cutting.Cutting.end.Goals as goal

pub returns-in-Ok : goal.returns-in-Ok
returns-in-Ok g c =
    let cut = rw (← c.self.view_is) at c.requires.all in
    let ready = rw (← c.self.view_is) at c.requires.ready in
    let applied = rw c.replace-found.ensures.value at c.in-Ok.ensures.parts in
    let s = c.answer.ensures.state in
    let parts = ArePartsOf-applied g.P.Plan.meaning g.P.Shardable.IsPart g.P.Shardable.load g.P.Shardable.load_of g.P.Shardable.AreCut g.P.RegionPlan.most g.P.Shardable.Applies
    g.met.P.Shardable.applied_load g.met.P.Shardable.applied_part g.met.P.ShardPlan.applied_unbegun c.self.inside.plan c.self.inside.found.shards.items c.in-Ok.parts.items ready cut (g.met.P.RegionPlan.few c.self.inside.plan c.self.inside.found c.self.invariant.0) applied in
    let few = same_length g.P.Shardable.Applies c.self.inside.plan c.self.inside.found.shards.items c.in-Ok.parts.items applied in
    rw (← c.self.view_is) (record { on = λ o. rw c.answer.ensures.turn (ended g.P.Plan.meaning g.P.Shardable.IsPart g.P.Shardable.load g.P.Shardable.AreCut g.P.RegionPlan.most (Ok c.in-Ok.parts) (ap (λ (x : Looking _ _). x.stage) s) (ap (λ (x : Looking _ _). x.plan) s) (ap (λ (x : Looking _ _). x.width) s) parts (λ h k. tt) (rw (ap (λ (x : Looking _ _). x.width) s, few) c.self.invariant.1)) })

pub returns : goal.returns
returns g c = rw (← c.self.view_is) (record { on = λ o. from_mid g.P.Plan.meaning g.P.Shardable.IsPart g.P.Shardable.load g.P.Shardable.AreCut g.P.RegionPlan.most (λ h k. inl c.in-Err.ensures.why) refl (le_refl _) (c.refuse.ensures.on o) })
