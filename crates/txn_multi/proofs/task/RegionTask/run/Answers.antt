use Rattle.std.proofs.Common.{◌≡◌, refl}
use Rattle.std.proofs.lemmas.Bool.{false≢true, false_from_ne_true}
use Rattle.txn_history.proofs.Arriving.{client_begun, counts_begun, goes_begun, tells_begun}
use Rattle.txn_history.proofs.Telling.{Tells-stopped}
use Rattle.txn_multi.proofs.Costs.{counts_off_start, counts_on_start, counts_over_start}
use Rattle.txn_multi.proofs.Retrying.{begun_running, step_stopped, tells_off_start, tells_on_start, tells_over_start}
use Rattle.txn_history.specs.Meaning.{started}
use Rattle.txn_multi.proofs.Touchings.{plan_answered}
use Rattle.txn_plan.specs.Touch.{touch}
use Rattle.txn_retry.specs.Remedy.{delay_ms}
use Rattle.txn_multi.proofs.task.RegionTask.run.Goals as goal

pub returns-in_err-start-clause-tells : goal.returns-in_err-start-clause-tells
returns-in_err-start-clause-tells g c =
    let copy : c.in_ok-plan.plan ≡ c.args.self.now.job = c.in_ok-plan.ensures in
    tells_off_start _ _ _ _ _ _ _ g.met.P.Plan.lawful c.args.self.now c.args.self.now c.start.new.self c.requires.job.unbegun refl refl refl c.requires.stopped (step_stopped c.from_residual-in_err-start.result c.from_residual-in_err-start.ensures.0) (rw copy at (tells_begun c.in_err-start.ensures))

pub returns-in_err-start-clause-counts : goal.returns-in_err-start-clause-counts
returns-in_err-start-clause-counts g c =
    let copy : c.in_ok-plan.plan ≡ c.args.self.now.job = c.in_ok-plan.ensures in
    counts_off_start _ _ _ _ _ _ _ c.args.self.now c.args.self.now c.start.new.self c.requires.job.unbegun (g.met.P.RegionPlan.uncut c.start.new.self) refl refl (step_stopped c.from_residual-in_err-start.result c.from_residual-in_err-start.ensures.0) (rw copy at (counts_begun c.in_err-start.ensures))

pub returns-in-Waiting-clause-tells : goal.returns-in-Waiting-clause-tells
returns-in-Waiting-clause-tells g c =
    let copy : c.in_ok-plan.plan ≡ c.args.self.now.job = c.in_ok-plan.ensures in
    let goes = rw (copy, c.in-Waiting.is) at (goes_begun c.in_ok-start.ensures) in
    tells_on_start _ _ _ _ _ _ _ g.met.P.Plan.lawful c.args.self.now c.start.new.self c.requires.job.unbegun (begun_running c.requires.job.unbegun.phase goes) (rw (copy, c.in-Waiting.is) at (tells_begun c.in_ok-start.ensures))

pub returns-in-Waiting-clause-counts : goal.returns-in-Waiting-clause-counts
returns-in-Waiting-clause-counts g c =
    let copy : c.in_ok-plan.plan ≡ c.args.self.now.job = c.in_ok-plan.ensures in
    counts_on_start _ _ _ _ _ _ _ c.args.self.now c.start.new.self c.requires.job.unbegun (g.met.P.RegionPlan.uncut c.start.new.self) (rw (copy, c.in-Waiting.is) at (counts_begun c.in_ok-start.ensures))

pub returns-in-Done-clause-tells : goal.returns-in-Done-clause-tells
returns-in-Done-clause-tells g c =
    let copy : c.in_ok-plan.plan ≡ c.args.self.now.job = c.in_ok-plan.ensures in
    tells_over_start _ _ _ _ _ _ _ g.met.P.Plan.lawful c.args.self.now c.start.new.self c.requires.job.unbegun (rw (copy, c.in-Done.is) at (counts_begun c.in_ok-start.ensures)) (rw (copy, c.in-Done.is) at (tells_begun c.in_ok-start.ensures)) c.take_answer.ensures.over

pub returns-in-Done-clause-counts : goal.returns-in-Done-clause-counts
returns-in-Done-clause-counts g c =
    let copy : c.in_ok-plan.plan ≡ c.args.self.now.job = c.in_ok-plan.ensures in
    counts_over_start _ _ _ _ _ _ _ c.args.self.now c.start.new.self c.requires.job.unbegun (g.met.P.RegionPlan.uncut c.start.new.self) (rw (copy, c.in-Done.is) at (counts_begun c.in_ok-start.ensures)) c.take_answer.ensures.costs

pub returns-in_err-plan-clause-tells : goal.returns-in_err-plan-clause-tells
returns-in_err-plan-clause-tells g c = Tells-stopped (step_stopped c.from_residual.result c.from_residual.ensures.0) refl (record { asked = λ h r x. x; given = λ h v x. x; gave = λ h v x. x }) (λ a w. absurd (rw c.requires.stopped at w))

pub returns-in_err-plan-clause-client : goal.returns-in_err-plan-clause-client
returns-in_err-plan-clause-client g c = rw c.requires.stopped tt

pub returns-in_err-start-clause-client : goal.returns-in_err-start-clause-client
returns-in_err-start-clause-client g c = rw c.requires.stopped tt

pub returns-in-Waiting-clause-client : goal.returns-in-Waiting-clause-client
returns-in-Waiting-clause-client g c =
    let copy : c.in_ok-plan.plan ≡ c.args.self.now.job = c.in_ok-plan.ensures in
    rw copy at (client_begun c.in_ok-start.ensures)

pub returns-in-Done-clause-client : goal.returns-in-Done-clause-client
returns-in-Done-clause-client g c =
    let copy : c.in_ok-plan.plan ≡ c.args.self.now.job = c.in_ok-plan.ensures in
    plan_answered g.P.Plan.meaning g.P.Result.HasKeyErrors.key_errors_in g.P.Result.HasRegionError.region_error_in (touch g.C.PdClient.looked g.C.PdClient.learns g.C.PdClient.leads g.C.PdClient.drops) (g.P.Plan.touches (touch g.C.PdClient.looked g.C.PdClient.learns g.C.PdClient.leads g.C.PdClient.drops)) started c.args.out.now c.args.self.now.region (delay_ms c.args.self.now.backoff) c.args.self.now.job c.start.new.self c.start.new.out c.in-Done.answer c.take_answer.new.self.stage c.take_answer.result c.args.pd.now c.start.new.pd c.take_answer.new.pd
    c.take_answer.ensures.over.next c.take_answer.ensures.off (rw (copy, c.in-Done.is) at (tells_begun c.in_ok-start.ensures)) (rw copy at (client_begun c.in_ok-start.ensures)) c.take_answer.ensures.heeded

pub returns-in-Waiting-clause-ready : goal.returns-in-Waiting-clause-ready
returns-in-Waiting-clause-ready g c =
    let copy : c.in_ok-plan.plan ≡ c.args.self.now.job = c.in_ok-plan.ensures in
    let tells = rw copy at (tells_begun c.in_ok-start.ensures) in
    let goes = rw (copy, c.in-Waiting.is) at (goes_begun c.in_ok-start.ensures) in
    let counts = rw copy at (counts_begun c.in_ok-start.ensures) in
    record {
      job = c.requires.job;
      at = record { ready = c.in_ok-start.ensures.ready; phase = begun_running c.requires.job.unbegun.phase goes; same = tells.job; less = counts.fewer };
    }

pub returns-in-Done-clause-ends : goal.returns-in-Done-clause-ends
returns-in-Done-clause-ends g c =
    let copy : c.in_ok-plan.plan ≡ c.args.self.now.job = c.in_ok-plan.ensures in
    let counts = rw (copy, c.in-Done.is) at (counts_begun c.in_ok-start.ensures) in
    c.take_answer.ensures.ends (false_from_ne_true (g.P.Plan.meaning.fails c.in-Done.answer) (λ e. false≢true (counts.spends.allowed refl e)))
