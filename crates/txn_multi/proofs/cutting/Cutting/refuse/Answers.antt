use Rattle.std.proofs.Common.{ap}
use Rattle.std.specs.Prelude.{Err}
use Rattle.txn_history.specs.Turn.{turn_of, IfKept-all}
use Rattle.txn_multi.specs.Cutting.{IsLookUpRefused, Looking}
use Rattle.txn_multi.proofs.Lookings.{ended, stopped, unless_starved}
use Rattle.txn_multi.proofs.cutting.Cutting.refuse.Goals as goal

pub returns-in-OutOfMemory-clause-on : goal.returns-in-OutOfMemory-clause-on
returns-in-OutOfMemory-clause-on g c = λ o. stopped g.P.Plan.meaning g.P.Shardable.IsPart g.P.Shardable.load g.P.Shardable.AreCut g.P.RegionPlan.most c.requires.stopped

pub returns-in_default-clause-on : goal.returns-in_default-clause-on
returns-in_default-clause-on g c =
    let s = c.answer.ensures.state in
    λ o. rw c.answer.ensures.turn (ended g.P.Plan.meaning g.P.Shardable.IsPart g.P.Shardable.load g.P.Shardable.AreCut g.P.RegionPlan.most (Err c.args.error) (ap (λ (x : Looking _ _). x.stage) s) (ap (λ (x : Looking _ _). x.plan) s) (ap (λ (x : Looking _ _). x.width) s) tt (λ h k. unless_starved (IsLookUpRefused h) c.args.error c.in_default.not-OutOfMemory k) tt)

pub returns-in_default-clause-kept : goal.returns-in_default-clause-kept
returns-in_default-clause-kept g c = IfKept-all (turn_of c.answer.result) c.in_default.not-OutOfMemory
