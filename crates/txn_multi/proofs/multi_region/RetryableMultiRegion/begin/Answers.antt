use Rattle.std.proofs.Common.{ap, refl, ◌∙◌, inl}
use Rattle.std.proofs.Math.Nat.{le_refl}
use Rattle.std.proofs.lemmas.Bool.{false≢true}
use Rattle.txn_history.proofs.Telling.{turn_stopped}
use Rattle.txn_history.specs.Phase.{phase_after}
use Rattle.txn_history.specs.Turn.{turn_of}
use Rattle.txn_multi.specs.declared.multi_stage.MultiStage.TheVariants as stage
use Rattle.txn_multi.proofs.Multis.{begins_not, cut_counted, cut_next, cut_told, unbegun_waits}
use Rattle.txn_multi.proofs.Touchings.{gone_weaker}
use Rattle.txn_multi.proofs.multi_region.RetryableMultiRegion.begin.Goals as goal

pub returns-in_err-inner-clause-begins : goal.returns-in_err-inner-clause-begins
returns-in_err-inner-clause-begins g c = begins_not g.P.Plan.meaning g.P.Result.HasKeyErrors.key_errors_in g.P.Result.HasRegionError.region_error_in g.P.Shardable.IsPart g.P.Shardable.load g.P.Shardable.AreCut g.P.RegionPlan.most c.args.self.now c.args.self.now.width c.requires.stopped c.requires.none (le_refl _) (turn_stopped c.from_residual.result c.from_residual.ensures.0)

pub returns-clause-begins : goal.returns-clause-begins
returns-clause-begins g c =
    let s = c.args.self.now in
    let u = c.new-cutting.ensures.unbegun in
    let goes = c.start-turn.ensures.goes in
    record {
      tells = cut_told g.P.Plan.meaning g.P.Result.HasKeyErrors.key_errors_in g.P.Result.HasRegionError.region_error_in g.P.Shardable.IsPart g.P.Shardable.load g.P.Shardable.AreCut g.P.RegionPlan.most s c.after_cut.new.self stage.Fresh c.new-cutting.result c.start-turn.new.self c.start-turn.new.pd c.after_cut.new.pd (turn_of c.start-turn.result) c.requires.stopped c.requires.inner c.requires.none
          (λ h f. u.fits c.args.out.now h) (λ a w. unbegun_waits g.P.Plan.meaning g.P.Result.HasKeyErrors.key_errors_in g.P.Result.HasRegionError.region_error_in g.P.Shardable.IsPart g.P.Shardable.load g.P.Shardable.AreCut g.P.RegionPlan.most c.new-cutting.result a u w) (λ e. goes.next u.phase ∙ ap phase_after e) c.start-turn.ensures.tells c.after_cut.ensures.after;
      counts = cut_counted g.P.Plan.meaning g.P.Result.HasKeyErrors.key_errors_in g.P.Result.HasRegionError.region_error_in g.P.Shardable.IsPart g.P.Shardable.load g.P.Shardable.AreCut g.P.RegionPlan.most s c.after_cut.new.self stage.Fresh c.new-cutting.result c.start-turn.new.self c.start-turn.new.pd c.after_cut.new.pd (turn_of c.start-turn.result)
          (λ e. absurd (false≢true e)) c.requires.none (λ n. refl) c.start-turn.ensures.counts c.after_cut.ensures.after;
      next = cut_next g.P.Plan.meaning g.P.Result.HasKeyErrors.key_errors_in g.P.Result.HasRegionError.region_error_in g.P.Shardable.IsPart g.P.Shardable.load g.P.Shardable.AreCut g.P.RegionPlan.most s c.after_cut.new.self c.start-turn.new.self c.start-turn.new.out c.after_cut.new.out c.start-turn.new.pd c.after_cut.new.pd (turn_of c.start-turn.result) (turn_of c.after_cut.result) c.requires.stopped c.after_cut.ensures.after;
    }

pub returns-in_err-inner-clause-client : goal.returns-in_err-inner-clause-client
returns-in_err-inner-clause-client g c = rw c.requires.stopped tt

pub returns-clause-client : goal.returns-clause-client
returns-clause-client g c = rw c.requires.none (gone_weaker c.after_cut.new.self.stage (λ f. (c.start-turn.new.pd, inl c.start-turn.ensures.changed, f)) c.after_cut.ensures.client)
