use Rattle.std.proofs.Common.{inr}
use Rattle.txn_history.specs.Turn.{IfKept-all}
use Rattle.txn_commit.specs.declared.committer.Stage.TheVariants as stages
use Rattle.txn_commit.proofs.Committing.{at_stage}
use Rattle.txn_commit.proofs.Posting.{followed_same}
use Rattle.txn_commit.proofs.Stages.{ends_is, time_ends, time_next, time_waits, waits_is}
use Rattle.txn_commit.proofs.Counting.{next_counts}
use Rattle.std.proofs.Math.Nat.{le-add_left}
use Rattle.txn_commit.proofs.Going.{never_waits, resumes_next, resumes_over, resumes_waits}
use Rattle.txn_commit.proofs.committer.CommitterCall.after_time.Goals as goal

pub returns-in-Waiting-clause-moves : goal.returns-in-Waiting-clause-moves
returns-in-Waiting-clause-moves g c t e = time_waits _ _ _ _ _ _ (waits_is c.in-Waiting.is)

pub returns-in-Done-Ok-clause-moves : goal.returns-in-Done-Ok-clause-moves
returns-in-Done-Ok-clause-moves g c t e = time_next _ _ _ _ _ _ _ _ _ _ _ _ (ends_is c.in-Done-Ok.is c.in-Done-Ok.field-0-is) (λ h f s. record { ready = s; same = λ u z. absurd (let n = (at_stage _ c.args.self.now (stages.Asking t) c.args.commits.now c.args.out.now h e f).first in cc) }) c.commit_primary.ensures.moves

pub returns-in-Done-Err-clause-moves : goal.returns-in-Done-Err-clause-moves
returns-in-Done-Err-clause-moves g c t e = time_ends _ _ _ _ _ _ _ _ _ _ (ends_is c.in-Done-Err.is c.in-Done-Err.field-0-is) c.end.ensures.state c.end.ensures.turn (λ h f s. inr (inr s))

pub returns-in-Done-Ok-clause-counts : goal.returns-in-Done-Ok-clause-counts
returns-in-Done-Ok-clause-counts g c t e = next_counts _ _ _ _ _ (stages.Asking t) _ _ _ e (λ n. le-add_left _ _) (λ n. le-add_left _ _) c.commit_primary.ensures.counts

pub returns-in-Waiting-clause-resumes : goal.returns-in-Waiting-clause-resumes
returns-in-Waiting-clause-resumes g c = resumes_waits _ c.args.self.now _ _ _ (waits_is c.in-Waiting.is)

pub returns-in-Done-Ok-clause-resumes : goal.returns-in-Done-Ok-clause-resumes
returns-in-Done-Ok-clause-resumes g c = resumes_next _ c.args.self.now c.commit_primary.new.self _ _ _ _ _ _ _ (ends_is c.in-Done-Ok.is c.in-Done-Ok.field-0-is) c.commit_primary.ensures.opens

pub returns-in-Done-Err-clause-resumes : goal.returns-in-Done-Err-clause-resumes
returns-in-Done-Err-clause-resumes g c = resumes_over _ c.args.self.now c.end.new.self _ _ _ _ _ _ (ends_is c.in-Done-Err.is c.in-Done-Err.field-0-is) c.end.ensures.state c.end.ensures.turn

pub returns-in-Done-Ok-clause-commits : goal.returns-in-Done-Ok-clause-commits
returns-in-Done-Ok-clause-commits g c e = absurd (never_waits (ends_is c.in-Done-Ok.is c.in-Done-Ok.field-0-is) e)

pub returns-in-Waiting-clause-follows : goal.returns-in-Waiting-clause-follows
returns-in-Waiting-clause-follows g c = followed_same c.args.out.now c.args.commits.now

pub returns-in-Done-Err-clause-follows : goal.returns-in-Done-Err-clause-follows
returns-in-Done-Err-clause-follows g c = IfKept-all _ (followed_same c.args.out.now c.args.commits.now)
