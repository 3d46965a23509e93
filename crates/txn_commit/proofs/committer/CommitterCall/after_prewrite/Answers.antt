use Rattle.std.proofs.Common.{inl, refl}
use Rattle.txn_commit.specs.declared.committer.Stage.TheVariants as stages
use Rattle.txn_commit.proofs.Committing.{at_stage}
use Rattle.txn_commit.proofs.Stages.{ends_is, goes_on_ends, goes_on_next, goes_on_waits, over_elsewhere, waits_is}
use Rattle.txn_commit.proofs.Counting.{next_counts}
use Rattle.std.proofs.Math.Nat.{le-add_left}
use Rattle.txn_commit.proofs.Going.{resumes_next, resumes_over, resumes_waits}
use Rattle.txn_commit.proofs.committer.CommitterCall.after_prewrite.Goals as goal

pub returns-in-Waiting-clause-moves : goal.returns-in-Waiting-clause-moves
returns-in-Waiting-clause-moves g c c' p e = goes_on_waits _ _ _ _ _ _ _ (waits_is c.in-Waiting.is)

pub returns-in-Done-Ok-clause-moves : goal.returns-in-Done-Ok-clause-moves
returns-in-Done-Ok-clause-moves g c c' p e = goes_on_next _ _ _ _ _ _ _ _ _ _ _ _ _ (ends_is c.in-Done-Ok.is c.in-Done-Ok.field-0-is) (λ h f s. let a = at_stage _ c.args.self.now (stages.Prewriting p) c' c.args.out.now h e f in record { given = a.given; first = a.first; keys = s }) (c.ask.ensures.moves c')

pub returns-in-Done-Err-clause-moves : goal.returns-in-Done-Err-clause-moves
returns-in-Done-Err-clause-moves g c c' p e = goes_on_ends _ _ _ _ _ _ _ _ _ _ _ (ends_is c.in-Done-Err.is c.in-Done-Err.field-0-is) c.end.ensures.state c.end.ensures.turn (λ h f s. inl (inl s))

pub returns-in-Done-Ok-clause-counts : goal.returns-in-Done-Ok-clause-counts
returns-in-Done-Ok-clause-counts g c p e = next_counts _ _ _ _ _ (stages.Prewriting p) _ _ _ e (λ n. le-add_left _ _) (λ n. le-add_left _ _) c.ask.ensures.counts

pub returns-in-Waiting-clause-resumes : goal.returns-in-Waiting-clause-resumes
returns-in-Waiting-clause-resumes g c = resumes_waits _ c.args.self.now _ _ _ (waits_is c.in-Waiting.is)

pub returns-in-Done-Ok-clause-resumes : goal.returns-in-Done-Ok-clause-resumes
returns-in-Done-Ok-clause-resumes g c = resumes_next _ c.args.self.now c.ask.new.self _ _ _ _ _ _ _ (ends_is c.in-Done-Ok.is c.in-Done-Ok.field-0-is) c.ask.ensures.opens

pub returns-in-Done-Err-clause-resumes : goal.returns-in-Done-Err-clause-resumes
returns-in-Done-Err-clause-resumes g c = resumes_over _ c.args.self.now c.end.new.self _ _ _ _ _ _ (ends_is c.in-Done-Err.is c.in-Done-Err.field-0-is) c.end.ensures.state c.end.ensures.turn

pub returns-in-Done-Ok-clause-stays : goal.returns-in-Done-Ok-clause-stays
returns-in-Done-Ok-clause-stays g c p e = absurd (c.ask.ensures.on p e)

pub returns-in-Done-Err-clause-stays : goal.returns-in-Done-Err-clause-stays
returns-in-Done-Err-clause-stays g c p e = absurd (over_elsewhere p (rw c.end.ensures.state refl) e)
