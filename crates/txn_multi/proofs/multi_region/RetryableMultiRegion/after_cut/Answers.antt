use Rattle.txn_multi.proofs.Multis.{begins_refused}
use Rattle.std.proofs.Common.{refl}
use Rattle.txn_multi.proofs.multi_region.RetryableMultiRegion.after_cut.Goals as goal

pub returns-clause-after : goal.returns-clause-after
returns-clause-after g c = rw (c.in_ok-turn.was, c.in-Done-Err.is, c.in-Done-Err.field-0-is, c.refuse.ensures.turn, c.refuse.ensures.state) (begins_refused g.P.Plan.meaning g.P.Result.HasKeyErrors.key_errors_in g.P.Result.HasRegionError.region_error_in g.P.Shardable.IsPart g.P.Shardable.load g.P.Shardable.AreCut g.P.RegionPlan.most c.args.self.now c.in-Done-Err.error c.requires.inner c.requires.none)

pub returns-in-Done-Ok-clause-after : goal.returns-in-Done-Ok-clause-after
returns-in-Done-Ok-clause-after g c = rw (c.in_ok-turn.was, c.in-Done-Ok.is, c.in-Done-Ok.field-0-is) c.run.ensures.begins

pub returns-in_err-turn-clause-client : goal.returns-in_err-turn-clause-client
returns-in_err-turn-clause-client g c = rw c.requires.stopped tt

pub returns-in-Waiting-clause-client : goal.returns-in-Waiting-clause-client
returns-in-Waiting-clause-client g c = rw c.requires.none refl

pub returns-clause-client : goal.returns-clause-client
returns-clause-client g c = rw (c.refuse.ensures.state, c.requires.none) refl
