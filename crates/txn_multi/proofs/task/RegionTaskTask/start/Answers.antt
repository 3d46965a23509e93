use Rattle.std.proofs.Common.{◌≡◌, ◌∙◌, ap, refl, subst, sym}
use Rattle.txn_history.specs.Phase.{unheard}
use Rattle.txn_history.specs.Phase.Phase.{Fresh}
use Rattle.txn_history.proofs.Telling.{Tells-idle}
use Rattle.txn_tasks.specs.Step.{IsEnd}
use Rattle.txn_multi.specs.Task.{region_task-lawful, stage_phase}
use Rattle.txn_multi.proofs.Retrying.{keeps_idle, no_end, only_fresh}
use Rattle.txn_history.specs.Meaning.{started}
use Rattle.txn_multi.proofs.Touchings.{acts_at}
use Rattle.txn_multi.specs.Touching.TaskTouches.{idle}
use Rattle.txn_plan.specs.Touch.{touch}
use Rattle.txn_multi.specs.declared.stage.Stage.TheVariants as stage
use Rattle.txn_multi.proofs.task.RegionTaskTask.start.Goals as goal

pub returns-in_default-clause-tells : goal.returns-in_default-clause-tells
returns-in_default-clause-tells g c =
    let same : c.stay.new.self ≡ c.args.self.now = c.stay.ensures.state ∙ ap (λ x. record c.args.self.now { stage = x }) c.replace.ensures.value in
    rw same (Tells-idle (region_task-lawful _ _ _ _ _ _ _ g.met.P.Plan.lawful) (λ a heard w. heard) (c.stay.ensures.turn ∙ ap (λ x. unheard (stage_phase x)) c.replace.ensures.value))

pub returns-in_default-clause-goes : goal.returns-in_default-clause-goes
returns-in_default-clause-goes g c =
    let same : c.stay.new.self ≡ c.args.self.now = c.stay.ensures.state ∙ ap (λ x. record c.args.self.now { stage = x }) c.replace.ensures.value in
    record {
      deaf = λ other. c.stay.ensures.turn ∙ ap (λ x. unheard (stage_phase x)) c.replace.ensures.value;
      state = λ other. same;
      outbox = λ other. refl;
      client = λ other. refl;
      next = λ this. absurd (subst (λ x. stage_phase x ≡ Fresh → ⊥) c.replace.ensures.value (only_fresh c.replace.result c.in_default.not-Fresh) this);
    }

pub returns-in_default-clause-keeps : goal.returns-in_default-clause-keeps
returns-in_default-clause-keeps g c =
    let same : c.stay.new.self ≡ c.args.self.now = c.stay.ensures.state ∙ ap (λ x. record c.args.self.now { stage = x }) c.replace.ensures.value in
    rw (same, c.stay.ensures.turn) (keeps_idle _ _ _ _ _ _ _ c.args.self.now (stage_phase c.replace.result))

pub returns-in_default-clause-ends : goal.returns-in_default-clause-ends
returns-in_default-clause-ends g c = rw c.stay.ensures.turn (no_end (stage_phase c.replace.result) IsEnd)

pub returns-in-Fresh-clause-client : goal.returns-in-Fresh-clause-client
returns-in-Fresh-clause-client g c = acts_at g.P.Plan.meaning g.P.Result.HasKeyErrors.key_errors_in g.P.Result.HasRegionError.region_error_in (touch g.C.PdClient.looked g.C.PdClient.learns g.C.PdClient.leads g.C.PdClient.drops) (g.P.Plan.touches (touch g.C.PdClient.looked g.C.PdClient.learns g.C.PdClient.leads g.C.PdClient.drops)) started c.args.out.now c.args.self.now c.run.new.self stage.Fresh c.args.pd.now c.run.new.pd (sym c.replace.ensures.value ∙ c.in-Fresh.is) c.run.ensures.client

pub returns-in_default-clause-client : goal.returns-in_default-clause-client
returns-in_default-clause-client g c = idle (c.stay.ensures.state ∙ ap (λ x. record c.args.self.now { stage = x }) c.replace.ensures.value) refl
