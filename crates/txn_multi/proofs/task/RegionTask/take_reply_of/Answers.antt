use Rattle.std.proofs.Common.{◌≡◌, refl, ap, sym, ◌∙◌}
use Rattle.std.specs.Prelude.{None, Some}
use Rattle.std.proofs.lemmas.Bool.{false≢true}
use Rattle.txn_kv.specs.ErrorView.{listed}
use Rattle.txn_kv.specs.ErrorView.ErrorView.{multiple}
use Rattle.txn_multi.proofs.Retrying.{step_stopped, view-multiple, Over-before, Over-stopped, on_ok}
use Rattle.txn_multi.proofs.Touchings.{kept_keys}
use Rattle.txn_multi.proofs.task.RegionTask.take_reply_of.Goals as goal

pub returns-in_err-errors-clause-over : goal.returns-in_err-errors-clause-over
returns-in_err-errors-clause-over g c = Over-stopped _ _ _ _ _ _ _ g.met.P.Plan.lawful c.args.self.now c.args.self.now refl refl refl c.requires.stopped (step_stopped c.from_residual.result c.from_residual.ensures.0)

pub returns-in-Some-clause-over : goal.returns-in-Some-clause-over
returns-in-Some-clause-over g c =
    let seen = rw c.in-Some.is at c.in_ok-errors.ensures.found in
    Over-before (λ h f. (c.args.reply, f.0, seen.0, view-multiple c.in-Some.errors ∙ ap (λ xs. multiple (listed xs)) seen.1)) (c.end.ensures.over c.args.out.now)

pub returns-in-Some-region_error-clause-over : goal.returns-in-Some-region_error-clause-over
returns-in-Some-region_error-clause-over g c =
    let none = rw c.in_default.is at c.in_ok-errors.ensures.found in
    let kept : c.key_errors.new.self ≡ c.args.reply = g.met.P.Result.HasKeyErrors.no_key_errors c.args.reply c.key_errors.new.self c.in_ok-errors.ensures.left none in
    let found : g.P.Result.HasRegionError.region_error_in c.args.reply ≡ Some c.in-Some-region_error.error = rw kept at (sym c.region_error.ensures.found ∙ c.in-Some-region_error.is) in
    Over-before (λ h f. (record { reply = c.args.reply; given = f.0; clean = none; found = found }, f.1 (g.met.P.RegionPlan.better_refused c.args.reply c.in-Some-region_error.error found))) c.take_region_error.ensures.over

pub returns-in-Some-region_error-clause-costs : goal.returns-in-Some-region_error-clause-costs
returns-in-Some-region_error-clause-costs g c =
    let none = rw c.in_default.is at c.in_ok-errors.ensures.found in
    let kept : c.key_errors.new.self ≡ c.args.reply = g.met.P.Result.HasKeyErrors.no_key_errors c.args.reply c.key_errors.new.self c.in_ok-errors.ensures.left none in
    let found : g.P.Result.HasRegionError.region_error_in c.args.reply ≡ Some c.in-Some-region_error.error = rw kept at (sym c.region_error.ensures.found ∙ c.in-Some-region_error.is) in
    rw (g.met.P.RegionPlan.better_refused c.args.reply c.in-Some-region_error.error found) c.take_region_error.ensures.costs

pub returns-in-Some-region_error-clause-ends : goal.returns-in-Some-region_error-clause-ends
returns-in-Some-region_error-clause-ends g c fine =
    let none = rw c.in_default.is at c.in_ok-errors.ensures.found in
    let kept : c.key_errors.new.self ≡ c.args.reply = g.met.P.Result.HasKeyErrors.no_key_errors c.args.reply c.key_errors.new.self c.in_ok-errors.ensures.left none in
    let found : g.P.Result.HasRegionError.region_error_in c.args.reply ≡ Some c.in-Some-region_error.error = rw kept at (sym c.region_error.ensures.found ∙ c.in-Some-region_error.is) in
    absurd (false≢true (sym fine ∙ g.met.P.RegionPlan.better_refused c.args.reply c.in-Some-region_error.error found))

pub returns-in-None-clause-over : goal.returns-in-None-clause-over
returns-in-None-clause-over g c =
    let none = rw c.in_default.is at c.in_ok-errors.ensures.found in
    let kept : c.key_errors.new.self ≡ c.args.reply = g.met.P.Result.HasKeyErrors.no_key_errors c.args.reply c.key_errors.new.self c.in_ok-errors.ensures.left none in
    let fine : g.P.Result.HasRegionError.region_error_in c.key_errors.new.self ≡ None = sym c.region_error.ensures.found ∙ c.in-None.is in
    let same : c.region_error.new.self ≡ c.args.reply = c.region_error.ensures.left ∙ g.met.P.Result.HasRegionError.no_region_error c.key_errors.new.self fine ∙ kept in
    let clean : g.P.Result.HasRegionError.region_error_in c.args.reply ≡ None = rw kept at fine in
    Over-before (λ h f. rw same (f.0, none, clean)) (c.end-in-None.ensures.over c.args.out.now)

pub returns-in-Some-clause-heeded : goal.returns-in-Some-clause-heeded
returns-in-Some-clause-heeded g c =
    let seen = rw c.in-Some.is at c.in_ok-errors.ensures.found in
    on_ok c.end.result record { told = c.args.pd.now; changed = rw (kept_keys _ _ _ _ seen.0) refl; looked = g.met.C.PdClient.looked_same _ }

pub returns-in-Some-region_error-clause-heeded : goal.returns-in-Some-region_error-clause-heeded
returns-in-Some-region_error-clause-heeded g c =
    let none = rw c.in_default.is at c.in_ok-errors.ensures.found in
    let kept : c.key_errors.new.self ≡ c.args.reply = g.met.P.Result.HasKeyErrors.no_key_errors c.args.reply c.key_errors.new.self c.in_ok-errors.ensures.left none in
    let found : g.P.Result.HasRegionError.region_error_in c.args.reply ≡ Some c.in-Some-region_error.error = rw kept at (sym c.region_error.ensures.found ∙ c.in-Some-region_error.is) in
    rw (none, found) c.take_region_error.ensures.heeded

pub returns-in-None-clause-heeded : goal.returns-in-None-clause-heeded
returns-in-None-clause-heeded g c =
    let none = rw c.in_default.is at c.in_ok-errors.ensures.found in
    let kept : c.key_errors.new.self ≡ c.args.reply = g.met.P.Result.HasKeyErrors.no_key_errors c.args.reply c.key_errors.new.self c.in_ok-errors.ensures.left none in
    let fine : g.P.Result.HasRegionError.region_error_in c.key_errors.new.self ≡ None = sym c.region_error.ensures.found ∙ c.in-None.is in
    let clean : g.P.Result.HasRegionError.region_error_in c.args.reply ≡ None = rw kept at fine in
    rw (none, clean) (on_ok c.end-in-None.result record { told = c.args.pd.now; changed = refl; looked = g.met.C.PdClient.looked_same _ })
