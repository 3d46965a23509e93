use Rattle.std.proofs.Common.{inl, inr}
use Rattle.txn_kv.specs.Timestamp.{version_of}
use Rattle.txn_commit.specs.Sending.{plan_of}
use Rattle.txn_commit.specs.declared.committer.Stage.TheVariants as stages
use Rattle.txn_commit.proofs.Committing.{at_stage}
use Rattle.txn_commit.proofs.Stages.{ends_is, goes_on_ends, goes_on_waits, rolled_primary, waits_is}
use Rattle.txn_commit.proofs.Going.{settles_over, settles_waits}
use Rattle.txn_commit.proofs.committer.CommitterCall.after_rollback.Goals as goal

pub returns-in-Waiting-clause-moves : goal.returns-in-Waiting-clause-moves
returns-in-Waiting-clause-moves g c c' o k e = goes_on_waits _ _ _ _ _ _ _ (waits_is c.in-Waiting.is)

pub returns-in-Done-Ok-clause-moves : goal.returns-in-Done-Ok-clause-moves
returns-in-Done-Ok-clause-moves g c c' o k e = goes_on_ends _ _ _ _ _ _ _ _ _ _ _ (ends_is c.in-Done-Ok.is c.in-Done-Ok.field-0-is) c.end.ensures.state c.end.ensures.turn (λ h f s. (rolled_primary (plan_of c.args.self.now.parts) (version_of c.args.self.now.start) h (at_stage _ c.args.self.now (stages.RollingBackOthers k) c' o h e f).1, s))

pub returns-in-Done-Err-clause-moves : goal.returns-in-Done-Err-clause-moves
returns-in-Done-Err-clause-moves g c c' o k e = goes_on_ends _ _ _ _ _ _ _ _ _ _ _ (ends_is c.in-Done-Err.is c.in-Done-Err.field-0-is) c.end-in-Done-Err.ensures.state c.end-in-Done-Err.ensures.turn (λ h f s. inr (inl s))

pub returns-in-Waiting-clause-settles : goal.returns-in-Waiting-clause-settles
returns-in-Waiting-clause-settles g c = settles_waits c.args.self.now _ (waits_is c.in-Waiting.is)

pub returns-in-Done-Ok-clause-settles : goal.returns-in-Done-Ok-clause-settles
returns-in-Done-Ok-clause-settles g c = settles_over c.args.self.now c.end.new.self _ _ _ _ (ends_is c.in-Done-Ok.is c.in-Done-Ok.field-0-is) c.end.ensures.state c.end.ensures.turn

pub returns-in-Done-Err-clause-settles : goal.returns-in-Done-Err-clause-settles
returns-in-Done-Err-clause-settles g c = settles_over c.args.self.now c.end-in-Done-Err.new.self _ _ _ _ (ends_is c.in-Done-Err.is c.in-Done-Err.field-0-is) c.end-in-Done-Err.ensures.state c.end-in-Done-Err.ensures.turn
