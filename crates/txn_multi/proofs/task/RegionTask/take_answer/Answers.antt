use Rattle.std.proofs.Common.{◌∙◌, inl, refl, sym}
use Rattle.std.proofs.lemmas.Bool.{false≢true}
use Rattle.txn_multi.proofs.Retrying.{on_ok, Over-before}
use Rattle.txn_multi.proofs.Touchings.{no_loss}
use Rattle.txn_multi.proofs.task.RegionTask.take_answer.Goals as goal

pub returns-in-Ok-clause-over : goal.returns-in-Ok-clause-over
returns-in-Ok-clause-over g c = Over-before (λ h f. rw c.in-Ok.is at f) c.take_reply_of.ensures.over

pub returns-in_default-clause-over : goal.returns-in_default-clause-over
returns-in_default-clause-over g c = Over-before (λ h f. inl (record { given = rw c.in-Err.is at f.0; spent = λ loss. absurd (false≢true (sym (no_loss c.in-Err.error c.in_default.not-GrpcAPI) ∙ loss)) })) (c.end.ensures.over c.args.out.now)

pub returns-in-Ok-clause-heeded : goal.returns-in-Ok-clause-heeded
returns-in-Ok-clause-heeded g c = rw c.in-Ok.is c.take_reply_of.ensures.heeded

pub returns-in-GrpcAPI-clause-heeded : goal.returns-in-GrpcAPI-clause-heeded
returns-in-GrpcAPI-clause-heeded g c = rw (c.in-Err.is, c.in-GrpcAPI.is) c.take_loss.ensures.heeded

pub returns-in_default-clause-heeded : goal.returns-in_default-clause-heeded
returns-in_default-clause-heeded g c = rw (c.in-Err.is, no_loss c.in-Err.error c.in_default.not-GrpcAPI) (on_ok c.end.result record { told = c.args.pd.now; changed = refl; looked = g.met.C.PdClient.looked_same _ })

pub returns-in-GrpcAPI-clause-over : goal.returns-in-GrpcAPI-clause-over
returns-in-GrpcAPI-clause-over g c =
    Over-before (λ h f. let known = rw (c.in-Err.is, c.in-GrpcAPI.is) at f in (known.0, known.1 (g.met.P.RegionPlan.better_lost c.in-GrpcAPI.ticket))) c.take_loss.ensures.over
