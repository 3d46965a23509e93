use Rattle.std.proofs.Common.{inl}
use Rattle.txn_multi.proofs.Lookings.{from_mid}
use Rattle.txn_multi.proofs.cutting.Cutting.look.Goals as goal

pub returns-in-Ok-None-clause-on : goal.returns-in-Ok-None-clause-on
returns-in-Ok-None-clause-on g c = from_mid g.P.Plan.meaning g.P.Shardable.IsPart g.P.Shardable.load g.P.Shardable.AreCut g.P.RegionPlan.most (λ h k. k) c.find.ensures.same.0 c.find.ensures.wider (c.end.ensures.on c.args.out.now)

pub returns-in-Err-clause-on : goal.returns-in-Err-clause-on
returns-in-Err-clause-on g c = from_mid g.P.Plan.meaning g.P.Shardable.IsPart g.P.Shardable.load g.P.Shardable.AreCut g.P.RegionPlan.most (λ h k. inl c.in-Err.ensures.why) c.find.ensures.same.0 c.find.ensures.wider (c.refuse.ensures.on c.args.out.now)

pub returns-in-Ok-Some-clause-changed : goal.returns-in-Ok-Some-clause-changed
returns-in-Ok-Some-clause-changed g c = g.met.C.PdClient.looked_on _ _ _ c.find.ensures.changed c.ask.ensures.changed
