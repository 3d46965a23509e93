use Rattle.std.proofs.Common.{refl, inl}
use Rattle.std.proofs.Math.Nat.{le_refl}
use Rattle.txn_history.proofs.Telling.{turn_stopped}
use Rattle.txn_multi.proofs.Lookings.{from_mid, knowing, stopped, waiting}
use Rattle.txn_history.specs.Turn.{turn_of, IfKept-all, IfKept-stopped}
use Rattle.txn_multi.proofs.cutting.Cutting.hear.Goals as goal

pub returns-in_err-turn-clause-on : goal.returns-in_err-turn-clause-on
returns-in_err-turn-clause-on g c = rw (turn_stopped c.from_residual.result c.from_residual.ensures.0) (stopped g.P.Plan.meaning g.P.Shardable.IsPart g.P.Shardable.load g.P.Shardable.AreCut g.P.RegionPlan.most c.requires.stopped)

pub returns-in-Waiting-clause-on : goal.returns-in-Waiting-clause-on
returns-in-Waiting-clause-on g c = rw (c.in_ok-turn.was, c.in-Waiting.is, c.wait.ensures.turn) (knowing g.P.Plan.meaning g.P.Shardable.IsPart g.P.Shardable.load g.P.Shardable.AreCut g.P.RegionPlan.most (λ h k. k.0) (waiting g.P.Plan.meaning g.P.Shardable.IsPart g.P.Shardable.load g.P.Shardable.AreCut g.P.RegionPlan.most c.wait.ensures.holds c.wait.ensures.state))

pub returns-in-Done-clause-on : goal.returns-in-Done-clause-on
returns-in-Done-clause-on g c = rw (c.in_ok-turn.was, c.in-Done.is) (from_mid g.P.Plan.meaning g.P.Shardable.IsPart g.P.Shardable.load g.P.Shardable.AreCut g.P.RegionPlan.most (λ h k. k.1) refl (le_refl _) c.learn.ensures.on)

pub returns-in_err-turn-clause-client : goal.returns-in_err-turn-clause-client
returns-in_err-turn-clause-client g c = IfKept-stopped (turn_of c.from_residual.result) _ (turn_stopped c.from_residual.result c.from_residual.ensures.0)

pub returns-in-Waiting-clause-client : goal.returns-in-Waiting-clause-client
returns-in-Waiting-clause-client g c = IfKept-all (turn_of c.wait.result) (inl (g.met.C.PdClient.looked_same _))
