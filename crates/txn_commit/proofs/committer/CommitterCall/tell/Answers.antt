use Rattle.txn_commit.specs.declared.committer.Stage.TheVariants as stages
use Rattle.std.proofs.Common.{◌∙◌, ap, refl, sym}
use Rattle.txn_history.specs.Moves.{Moves-stopped, Moves-stops, Moves-then}
use Rattle.txn_history.specs.Turn.{IfKept-all, IfKept-stopped, IfKept-weaker, turn_of}
use Rattle.txn_commit.specs.Following.{heard}
use Rattle.txn_commit.specs.Going.{stage_phase}
use Rattle.txn_commit.proofs.Committing.{prewriting_on, rolling_on, rolling_others_on}
use Rattle.txn_commit.proofs.Posting.{followed_as, followed_same, heard_time, hears_told, knows_heard}
use Rattle.txn_commit.proofs.Stages.{asking_on, commits_on, followed_sends, over_on, stopped_is}
use Rattle.txn_commit.proofs.Counting.{asking_counts, committing_counts, gave_up_counts, idle_counts, is_kept_so, prewriting_counts, rolling_counts, rolling_others_counts, stop_counts, then_counts}
use Rattle.txn_history.proofs.Telling.{is_kept_ok}
use Rattle.txn_tso.specs.Calling.{members}
use Rattle.txn_plan.specs.Timing.{time_asked}
use Rattle.txn_commit.proofs.Going.{asks_still, expects_gives_up, expects_idle, expects_stops, expects_then, followed_elsewhere, goes_gives_up, goes_idle, goes_stops, goes_then, heard_other, relays_goes, resumes_settled, unheard_waits}
use Rattle.txn_history.proofs.Arriving.{counts_of, goes_of, tells_of, worse}
use Rattle.txn_commit.proofs.committer.CommitterCall.tell.Goals as goal
use Rattle.txn_history.specs.Arrivals.{awaited_as, told_by}

pub returns-in_err-progress-in-Prewriting-clause-moves : goal.returns-in_err-progress-in-Prewriting-clause-moves
returns-in_err-progress-in-Prewriting-clause-moves g c r = Moves-stops (prewriting_on _ c.args.self.now c.in-Prewriting.plan c.tell.new.self c.args.commits.now (told_by c.args.arrival c.args.out.now r) c.args.out.now _ _ c.in-Prewriting.is (hears_told c.args.arrival c.args.out.now r) (tells_of c.args.arrival c.tell.ensures r).moves (tells_of c.args.arrival c.tell.ensures r).job) (stopped_is _ c.from_residual.ensures.0)

pub returns-in-Err-clause-moves : goal.returns-in-Err-clause-moves
returns-in-Err-clause-moves g c r = Moves-stops (asking_on _ c.args.self.now c.in-Asking.call c.tell-in-Asking.new.self c.args.commits.now c.args.arrival r c.args.out.now _ _ c.in-Asking.is (rw c.in-Asking.is at c.requires.ready).1 (c.tell-in-Asking.ensures.tells r) c.tell-in-Asking.ensures.answer) c.give_up.ensures.turn

pub returns-in-Err-tell_commit-clause-moves : goal.returns-in-Err-tell_commit-clause-moves
returns-in-Err-tell_commit-clause-moves g c r = Moves-stops (commits_on _ c.args.self.now c.in-Committing.plan c.tell_commit.new.plan c.in-Committing.timestamp c.args.commits.now (heard c.args.arrival c.args.out.now c.args.commits.now) c.tell_commit.new.commits (told_by c.args.arrival c.args.out.now r) c.args.out.now _ _ c.in-Committing.is (hears_told c.args.arrival c.args.out.now r) (λ h n k. knows_heard _ _ c.args.commits.now c.args.arrival c.args.out.now r h n k) (heard_time c.args.arrival c.args.out.now c.args.commits.now) (c.tell_commit.ensures.sends r)) c.give_up-in-Err-tell_commit.ensures.turn

pub returns-in_err-progress-in-RollingBackPrimary-clause-moves : goal.returns-in_err-progress-in-RollingBackPrimary-clause-moves
returns-in_err-progress-in-RollingBackPrimary-clause-moves g c r = Moves-stops (rolling_on _ c.args.self.now c.in-RollingBackPrimary.plan c.tell-in-RollingBackPrimary.new.self c.args.commits.now (told_by c.args.arrival c.args.out.now r) c.args.out.now _ _ c.in-RollingBackPrimary.is (hears_told c.args.arrival c.args.out.now r) (tells_of c.args.arrival c.tell-in-RollingBackPrimary.ensures r).moves (tells_of c.args.arrival c.tell-in-RollingBackPrimary.ensures r).job) (stopped_is _ c.from_residual-in_err-progress-in-RollingBackPrimary.ensures.0)

pub returns-in_err-progress-in-RollingBackOthers-clause-moves : goal.returns-in_err-progress-in-RollingBackOthers-clause-moves
returns-in_err-progress-in-RollingBackOthers-clause-moves g c r = Moves-stops (rolling_others_on _ c.args.self.now c.in-RollingBackOthers.plan c.tell-in-RollingBackOthers.new.self c.args.commits.now (told_by c.args.arrival c.args.out.now r) c.args.out.now _ _ c.in-RollingBackOthers.is (hears_told c.args.arrival c.args.out.now r) (tells_of c.args.arrival c.tell-in-RollingBackOthers.ensures r).moves (tells_of c.args.arrival c.tell-in-RollingBackOthers.ensures r).job) (stopped_is _ c.from_residual-in_err-progress-in-RollingBackOthers.ensures.0)

pub returns-in_ok-progress-in-Prewriting-clause-moves : goal.returns-in_ok-progress-in-Prewriting-clause-moves
returns-in_ok-progress-in-Prewriting-clause-moves g c r = Moves-then (prewriting_on _ c.args.self.now c.in-Prewriting.plan c.tell.new.self c.args.commits.now (told_by c.args.arrival c.args.out.now r) c.args.out.now _ _ c.in-Prewriting.is (hears_told c.args.arrival c.args.out.now r) (tells_of c.args.arrival c.in_ok-progress-in-Prewriting.ensures r).moves (tells_of c.args.arrival c.in_ok-progress-in-Prewriting.ensures r).job) (c.after_prewrite.ensures.moves c.args.commits.now c.tell.new.self refl)

pub returns-in-Ok-clause-moves : goal.returns-in-Ok-clause-moves
returns-in-Ok-clause-moves g c r = Moves-then (rw c.in-Ok.is at (asking_on g.P.Plans.ways c.args.self.now c.in-Asking.call c.tell-in-Asking.new.self c.args.commits.now c.args.arrival r c.args.out.now c.tell-in-Asking.new.out (turn_of c.tell-in-Asking.result) c.in-Asking.is (rw c.in-Asking.is at c.requires.ready).1 (c.tell-in-Asking.ensures.tells r) c.tell-in-Asking.ensures.answer)) (c.after_time.ensures.moves c.tell-in-Asking.new.self refl)

pub returns-in-Ok-tell_commit-clause-moves : goal.returns-in-Ok-tell_commit-clause-moves
returns-in-Ok-tell_commit-clause-moves g c r = Moves-then (commits_on _ c.args.self.now c.in-Committing.plan c.tell_commit.new.plan c.in-Committing.timestamp c.args.commits.now (heard c.args.arrival c.args.out.now c.args.commits.now) c.tell_commit.new.commits (told_by c.args.arrival c.args.out.now r) c.args.out.now _ _ c.in-Committing.is (hears_told c.args.arrival c.args.out.now r) (λ h n k. knows_heard _ _ c.args.commits.now c.args.arrival c.args.out.now r h n k) (heard_time c.args.arrival c.args.out.now c.args.commits.now) (rw c.in-Ok-tell_commit.is at (c.tell_commit.ensures.sends r))) (c.after_commit.ensures.moves c.tell_commit.new.commits _ c.tell_commit.new.plan refl)

pub returns-in_ok-progress-in-RollingBackPrimary-clause-moves : goal.returns-in_ok-progress-in-RollingBackPrimary-clause-moves
returns-in_ok-progress-in-RollingBackPrimary-clause-moves g c r = Moves-then (rolling_on _ c.args.self.now c.in-RollingBackPrimary.plan c.tell-in-RollingBackPrimary.new.self c.args.commits.now (told_by c.args.arrival c.args.out.now r) c.args.out.now _ _ c.in-RollingBackPrimary.is (hears_told c.args.arrival c.args.out.now r) (tells_of c.args.arrival c.in_ok-progress-in-RollingBackPrimary.ensures r).moves (tells_of c.args.arrival c.in_ok-progress-in-RollingBackPrimary.ensures r).job) (c.after_primary_rollback.ensures.moves c.args.commits.now c.tell-in-RollingBackPrimary.new.self refl)

pub returns-in_ok-progress-in-RollingBackOthers-clause-moves : goal.returns-in_ok-progress-in-RollingBackOthers-clause-moves
returns-in_ok-progress-in-RollingBackOthers-clause-moves g c r = Moves-then (rolling_others_on _ c.args.self.now c.in-RollingBackOthers.plan c.tell-in-RollingBackOthers.new.self c.args.commits.now (told_by c.args.arrival c.args.out.now r) c.args.out.now _ _ c.in-RollingBackOthers.is (hears_told c.args.arrival c.args.out.now r) (tells_of c.args.arrival c.in_ok-progress-in-RollingBackOthers.ensures r).moves (tells_of c.args.arrival c.in_ok-progress-in-RollingBackOthers.ensures r).job) (c.after_rollback.ensures.moves c.args.commits.now _ c.tell-in-RollingBackOthers.new.self refl)

pub returns-in-Over-clause-moves : goal.returns-in-Over-clause-moves
returns-in-Over-clause-moves g c r = over_on _ c.args.self.now c.args.commits.now (told_by c.args.arrival c.args.out.now r) c.args.out.now c.in-Over.is (hears_told c.args.arrival c.args.out.now r)

pub returns-in-Stopped-clause-moves : goal.returns-in-Stopped-clause-moves
returns-in-Stopped-clause-moves g c r = Moves-stopped refl refl

pub returns-in_err-progress-in-Prewriting-clause-counts : goal.returns-in_err-progress-in-Prewriting-clause-counts
returns-in_err-progress-in-Prewriting-clause-counts g c = stop_counts _ _ (stopped_is _ c.from_residual.ensures.0) (prewriting_counts _ _ c.args.self.now c.in-Prewriting.plan c.tell.new.self c.in-Prewriting.is (counts_of c.args.arrival c.tell.ensures))

pub returns-in_ok-progress-in-Prewriting-clause-counts : goal.returns-in_ok-progress-in-Prewriting-clause-counts
returns-in_ok-progress-in-Prewriting-clause-counts g c = then_counts _ _ (worse c.args.arrival) (is_kept_so c.in_ok-progress-in-Prewriting.progress) (prewriting_counts _ _ c.args.self.now c.in-Prewriting.plan c.tell.new.self c.in-Prewriting.is (counts_of c.args.arrival c.in_ok-progress-in-Prewriting.ensures)) (c.after_prewrite.ensures.counts c.tell.new.self refl)

pub returns-in-Err-tell_commit-clause-counts : goal.returns-in-Err-tell_commit-clause-counts
returns-in-Err-tell_commit-clause-counts g c = gave_up_counts _ _ c.give_up-in-Err-tell_commit.ensures.turn c.give_up-in-Err-tell_commit.ensures.state c.give_up-in-Err-tell_commit.ensures.width (committing_counts _ _ c.args.self.now c.in-Committing.plan c.tell_commit.new.plan c.in-Committing.timestamp c.in-Committing.is c.tell_commit.ensures.counts)

pub returns-in-Ok-tell_commit-clause-counts : goal.returns-in-Ok-tell_commit-clause-counts
returns-in-Ok-tell_commit-clause-counts g c = then_counts _ _ (worse c.args.arrival) (rw c.in-Ok-tell_commit.is (is_kept_so c.in-Ok-tell_commit.progress)) (committing_counts _ _ c.args.self.now c.in-Committing.plan c.tell_commit.new.plan c.in-Committing.timestamp c.in-Committing.is c.tell_commit.ensures.counts) (c.after_commit.ensures.counts _)

pub returns-in_err-progress-in-RollingBackPrimary-clause-counts : goal.returns-in_err-progress-in-RollingBackPrimary-clause-counts
returns-in_err-progress-in-RollingBackPrimary-clause-counts g c = stop_counts _ _ (stopped_is _ c.from_residual-in_err-progress-in-RollingBackPrimary.ensures.0) (rolling_counts _ _ c.args.self.now c.in-RollingBackPrimary.plan c.tell-in-RollingBackPrimary.new.self c.in-RollingBackPrimary.is (counts_of c.args.arrival c.tell-in-RollingBackPrimary.ensures))

pub returns-in_ok-progress-in-RollingBackPrimary-clause-counts : goal.returns-in_ok-progress-in-RollingBackPrimary-clause-counts
returns-in_ok-progress-in-RollingBackPrimary-clause-counts g c = then_counts _ _ (worse c.args.arrival) (is_kept_so c.in_ok-progress-in-RollingBackPrimary.progress) (rolling_counts _ _ c.args.self.now c.in-RollingBackPrimary.plan c.tell-in-RollingBackPrimary.new.self c.in-RollingBackPrimary.is (counts_of c.args.arrival c.in_ok-progress-in-RollingBackPrimary.ensures)) (c.after_primary_rollback.ensures.counts c.tell-in-RollingBackPrimary.new.self refl)

pub returns-in_err-progress-in-RollingBackOthers-clause-counts : goal.returns-in_err-progress-in-RollingBackOthers-clause-counts
returns-in_err-progress-in-RollingBackOthers-clause-counts g c = stop_counts _ _ (stopped_is _ c.from_residual-in_err-progress-in-RollingBackOthers.ensures.0) (rolling_others_counts _ _ c.args.self.now c.in-RollingBackOthers.plan c.tell-in-RollingBackOthers.new.self c.in-RollingBackOthers.is (counts_of c.args.arrival c.tell-in-RollingBackOthers.ensures))

pub returns-in_ok-progress-in-RollingBackOthers-clause-counts : goal.returns-in_ok-progress-in-RollingBackOthers-clause-counts
returns-in_ok-progress-in-RollingBackOthers-clause-counts g c = then_counts _ _ (worse c.args.arrival) (is_kept_so c.in_ok-progress-in-RollingBackOthers.progress) (rolling_others_counts _ _ c.args.self.now c.in-RollingBackOthers.plan c.tell-in-RollingBackOthers.new.self c.in-RollingBackOthers.is (counts_of c.args.arrival c.in_ok-progress-in-RollingBackOthers.ensures)) (c.after_rollback.ensures.counts _)

pub returns-in-Ok-clause-counts : goal.returns-in-Ok-clause-counts
returns-in-Ok-clause-counts g c = then_counts _ _ (worse c.args.arrival) (rw c.in-Ok.is (is_kept_so c.in-Ok.progress)) (asking_counts _ _ c.args.self.now c.in-Asking.call c.tell-in-Asking.new.self c.in-Asking.is c.tell-in-Asking.ensures.counts) (c.after_time.ensures.counts c.tell-in-Asking.new.self refl)

pub returns-in-Err-clause-counts : goal.returns-in-Err-clause-counts
returns-in-Err-clause-counts g c = gave_up_counts _ _ c.give_up.ensures.turn c.give_up.ensures.state c.give_up.ensures.width (asking_counts _ _ c.args.self.now c.in-Asking.call c.tell-in-Asking.new.self c.in-Asking.is c.tell-in-Asking.ensures.counts)

pub returns-in-Over-clause-counts : goal.returns-in-Over-clause-counts
returns-in-Over-clause-counts g c = idle_counts _ _ c.args.self.now stages.Over _ _ _ _ _ _ c.in-Over.is (λ m. tt)

pub returns-in-Stopped-clause-counts : goal.returns-in-Stopped-clause-counts
returns-in-Stopped-clause-counts g c = idle_counts _ _ c.args.self.now stages.Stopped _ _ _ _ _ _ c.in-Stopped.is (λ m. tt)

pub returns-in_err-progress-in-Prewriting-clause-goes : goal.returns-in_err-progress-in-Prewriting-clause-goes
returns-in_err-progress-in-Prewriting-clause-goes g c = goes_stops g.P.Plans.ways g.P.Plans.ways.plan (λ p. stages.Prewriting p) (λ s. refl) (λ s a x. x) (λ s a x. x) c.args.self.now c.in-Prewriting.plan c.tell.new.self (awaited_as c.args.arrival) _ _ _ _ _ _ c.in-Prewriting.is refl (stopped_is _ c.from_residual.ensures.0) (goes_of c.args.arrival c.in_err-progress-in-Prewriting.ensures)

pub returns-in_ok-progress-in-Prewriting-clause-goes : goal.returns-in_ok-progress-in-Prewriting-clause-goes
returns-in_ok-progress-in-Prewriting-clause-goes g c = goes_then g.P.Plans.ways g.P.Plans.ways.plan (λ p. stages.Prewriting p) (λ s. refl) (λ s a x. x) (λ s a x. x) c.args.self.now c.after_prewrite.new.self c.in-Prewriting.plan c.tell.new.self (awaited_as c.args.arrival) _ _ _ _ _ _ _ _ c.in-Prewriting.is (is_kept_ok c.in_ok-progress-in-Prewriting.progress) (goes_of c.args.arrival c.in_ok-progress-in-Prewriting.ensures) c.after_prewrite.ensures.resumes

pub returns-in_err-progress-in-Prewriting-clause-expects : goal.returns-in_err-progress-in-Prewriting-clause-expects
returns-in_err-progress-in-Prewriting-clause-expects g c = expects_stops g.P.Plans.ways g.P.Plans.ways.plan (λ p. stages.Prewriting p) (λ s. refl) (λ s a x. x) (λ s a x. x) c.args.self.now c.in-Prewriting.plan c.tell.new.self c.args.arrival members _ _ c.in-Prewriting.is (tells_of c.args.arrival c.in_err-progress-in-Prewriting.ensures members).expects

pub returns-in_ok-progress-in-Prewriting-clause-expects : goal.returns-in_ok-progress-in-Prewriting-clause-expects
returns-in_ok-progress-in-Prewriting-clause-expects g c = expects_then g.P.Plans.ways g.P.Plans.ways.plan (λ p. stages.Prewriting p) (λ s. refl) (λ s a x. x) (λ s a x. x) c.args.self.now c.after_prewrite.new.self c.in-Prewriting.plan c.tell.new.self c.args.arrival members _ _ _ _ _ _ _ c.in-Prewriting.is (tells_of c.args.arrival c.in_ok-progress-in-Prewriting.ensures members).expects c.after_prewrite.ensures.resumes

pub returns-in_err-progress-in-RollingBackPrimary-clause-goes : goal.returns-in_err-progress-in-RollingBackPrimary-clause-goes
returns-in_err-progress-in-RollingBackPrimary-clause-goes g c = goes_stops g.P.Plans.ways g.P.Plans.ways.plan (λ p. stages.RollingBackPrimary p) (λ s. refl) (λ s a x. x) (λ s a x. x) c.args.self.now c.in-RollingBackPrimary.plan c.tell-in-RollingBackPrimary.new.self (awaited_as c.args.arrival) _ _ _ _ _ _ c.in-RollingBackPrimary.is refl (stopped_is _ c.from_residual-in_err-progress-in-RollingBackPrimary.ensures.0) (goes_of c.args.arrival c.in_err-progress-in-RollingBackPrimary.ensures)

pub returns-in_ok-progress-in-RollingBackPrimary-clause-goes : goal.returns-in_ok-progress-in-RollingBackPrimary-clause-goes
returns-in_ok-progress-in-RollingBackPrimary-clause-goes g c = goes_then g.P.Plans.ways g.P.Plans.ways.plan (λ p. stages.RollingBackPrimary p) (λ s. refl) (λ s a x. x) (λ s a x. x) c.args.self.now c.after_primary_rollback.new.self c.in-RollingBackPrimary.plan c.tell-in-RollingBackPrimary.new.self (awaited_as c.args.arrival) _ _ _ _ _ _ _ _ c.in-RollingBackPrimary.is (is_kept_ok c.in_ok-progress-in-RollingBackPrimary.progress) (goes_of c.args.arrival c.in_ok-progress-in-RollingBackPrimary.ensures) c.after_primary_rollback.ensures.resumes

pub returns-in_err-progress-in-RollingBackPrimary-clause-expects : goal.returns-in_err-progress-in-RollingBackPrimary-clause-expects
returns-in_err-progress-in-RollingBackPrimary-clause-expects g c = expects_stops g.P.Plans.ways g.P.Plans.ways.plan (λ p. stages.RollingBackPrimary p) (λ s. refl) (λ s a x. x) (λ s a x. x) c.args.self.now c.in-RollingBackPrimary.plan c.tell-in-RollingBackPrimary.new.self c.args.arrival members _ _ c.in-RollingBackPrimary.is (tells_of c.args.arrival c.in_err-progress-in-RollingBackPrimary.ensures members).expects

pub returns-in_ok-progress-in-RollingBackPrimary-clause-expects : goal.returns-in_ok-progress-in-RollingBackPrimary-clause-expects
returns-in_ok-progress-in-RollingBackPrimary-clause-expects g c = expects_then g.P.Plans.ways g.P.Plans.ways.plan (λ p. stages.RollingBackPrimary p) (λ s. refl) (λ s a x. x) (λ s a x. x) c.args.self.now c.after_primary_rollback.new.self c.in-RollingBackPrimary.plan c.tell-in-RollingBackPrimary.new.self c.args.arrival members _ _ _ _ _ _ _ c.in-RollingBackPrimary.is (tells_of c.args.arrival c.in_ok-progress-in-RollingBackPrimary.ensures members).expects c.after_primary_rollback.ensures.resumes

pub returns-in_err-progress-in-RollingBackOthers-clause-goes : goal.returns-in_err-progress-in-RollingBackOthers-clause-goes
returns-in_err-progress-in-RollingBackOthers-clause-goes g c = goes_stops g.P.Plans.ways g.P.Plans.ways.plan (λ p. stages.RollingBackOthers p) (λ s. refl) (λ s a x. x) (λ s a x. x) c.args.self.now c.in-RollingBackOthers.plan c.tell-in-RollingBackOthers.new.self (awaited_as c.args.arrival) _ _ _ _ _ _ c.in-RollingBackOthers.is refl (stopped_is _ c.from_residual-in_err-progress-in-RollingBackOthers.ensures.0) (goes_of c.args.arrival c.in_err-progress-in-RollingBackOthers.ensures)

pub returns-in_ok-progress-in-RollingBackOthers-clause-goes : goal.returns-in_ok-progress-in-RollingBackOthers-clause-goes
returns-in_ok-progress-in-RollingBackOthers-clause-goes g c = goes_then g.P.Plans.ways g.P.Plans.ways.plan (λ p. stages.RollingBackOthers p) (λ s. refl) (λ s a x. x) (λ s a x. x) c.args.self.now c.after_rollback.new.self c.in-RollingBackOthers.plan c.tell-in-RollingBackOthers.new.self (awaited_as c.args.arrival) _ _ _ _ _ _ _ _ c.in-RollingBackOthers.is (is_kept_ok c.in_ok-progress-in-RollingBackOthers.progress) (goes_of c.args.arrival c.in_ok-progress-in-RollingBackOthers.ensures) (resumes_settled _ _ c.after_rollback.new.self c.tell-in-RollingBackOthers.new.out c.tell-in-RollingBackOthers.new.pd _ _ (is_kept_ok c.in_ok-progress-in-RollingBackOthers.progress) c.after_rollback.ensures.settles)

pub returns-in_err-progress-in-RollingBackOthers-clause-expects : goal.returns-in_err-progress-in-RollingBackOthers-clause-expects
returns-in_err-progress-in-RollingBackOthers-clause-expects g c = expects_stops g.P.Plans.ways g.P.Plans.ways.plan (λ p. stages.RollingBackOthers p) (λ s. refl) (λ s a x. x) (λ s a x. x) c.args.self.now c.in-RollingBackOthers.plan c.tell-in-RollingBackOthers.new.self c.args.arrival members _ _ c.in-RollingBackOthers.is (tells_of c.args.arrival c.in_err-progress-in-RollingBackOthers.ensures members).expects

pub returns-in_ok-progress-in-RollingBackOthers-clause-expects : goal.returns-in_ok-progress-in-RollingBackOthers-clause-expects
returns-in_ok-progress-in-RollingBackOthers-clause-expects g c = expects_then g.P.Plans.ways g.P.Plans.ways.plan (λ p. stages.RollingBackOthers p) (λ s. refl) (λ s a x. x) (λ s a x. x) c.args.self.now c.after_rollback.new.self c.in-RollingBackOthers.plan c.tell-in-RollingBackOthers.new.self c.args.arrival members _ _ _ _ _ _ _ c.in-RollingBackOthers.is (tells_of c.args.arrival c.in_ok-progress-in-RollingBackOthers.ensures members).expects (resumes_settled _ _ c.after_rollback.new.self c.tell-in-RollingBackOthers.new.out c.tell-in-RollingBackOthers.new.pd _ _ (is_kept_ok c.in_ok-progress-in-RollingBackOthers.progress) c.after_rollback.ensures.settles)

pub returns-in-Ok-clause-goes : goal.returns-in-Ok-clause-goes
returns-in-Ok-clause-goes g c = goes_then g.P.Plans.ways time_asked (λ t. stages.Asking t) (λ s. refl) (λ s a x. x) (λ s a x. x) c.args.self.now c.after_time.new.self c.in-Asking.call c.tell-in-Asking.new.self (awaited_as c.args.arrival) _ _ _ _ _ _ _ _ c.in-Asking.is (is_kept_ok c.in-Ok.progress) (rw c.in-Ok.is at c.tell-in-Asking.ensures.goes) c.after_time.ensures.resumes

pub returns-in-Err-clause-goes : goal.returns-in-Err-clause-goes
returns-in-Err-clause-goes g c = goes_gives_up g.P.Plans.ways time_asked (λ t. stages.Asking t) (λ s. refl) (λ s a x. x) (λ s a x. x) c.args.self.now c.give_up.new.self c.in-Asking.call c.tell-in-Asking.new.self (awaited_as c.args.arrival) _ _ _ _ _ _ c.in-Asking.is (asks_still c.in-Asking.call (rw c.in-Asking.is at c.requires.ready).1.1) (rw c.in-Err.is refl) c.give_up.ensures.turn c.give_up.ensures.state c.tell-in-Asking.ensures.goes.deaf

pub returns-in-Ok-clause-expects : goal.returns-in-Ok-clause-expects
returns-in-Ok-clause-expects g c = expects_then g.P.Plans.ways time_asked (λ t. stages.Asking t) (λ s. refl) (λ s a x. x) (λ s a x. x) c.args.self.now c.after_time.new.self c.in-Asking.call c.tell-in-Asking.new.self c.args.arrival members _ _ _ _ _ _ _ c.in-Asking.is (c.tell-in-Asking.ensures.tells members).expects c.after_time.ensures.resumes

pub returns-in-Err-clause-expects : goal.returns-in-Err-clause-expects
returns-in-Err-clause-expects g c = expects_gives_up g.P.Plans.ways time_asked (λ t. stages.Asking t) (λ s. refl) (λ s a x. x) (λ s a x. x) c.args.self.now c.give_up.new.self c.in-Asking.call c.tell-in-Asking.new.self c.args.arrival members _ _ c.in-Asking.is c.give_up.ensures.state (c.tell-in-Asking.ensures.tells members).expects

pub returns-in-Ok-clause-commits : goal.returns-in-Ok-clause-commits
returns-in-Ok-clause-commits g c other out = c.after_time.ensures.commits (unheard_waits (time_asked.phase c.in-Asking.call) _ (is_kept_ok c.in-Ok.progress) ((rw c.in-Ok.is at c.tell-in-Asking.ensures.goes).deaf (λ x. other (rw c.in-Asking.is x))))

pub returns-in-Ok-tell_commit-clause-goes : goal.returns-in-Ok-tell_commit-clause-goes
returns-in-Ok-tell_commit-clause-goes g c = goes_then g.P.Plans.ways g.P.Plans.ways.plan (λ q. stages.Committing q c.in-Committing.timestamp) (λ s. refl) (λ s a x. x) (λ s a x. x) c.args.self.now c.after_commit.new.self c.in-Committing.plan c.tell_commit.new.plan (awaited_as c.args.arrival) _ _ _ _ _ _ _ _ c.in-Committing.is (is_kept_ok c.in-Ok-tell_commit.progress) (relays_goes (is_kept_ok c.in-Ok-tell_commit.progress) (rw c.in-Ok-tell_commit.is at c.tell_commit.ensures.relays)) (resumes_settled _ _ c.after_commit.new.self c.tell_commit.new.out c.tell_commit.new.pd _ _ (is_kept_ok c.in-Ok-tell_commit.progress) c.after_commit.ensures.settles)

pub returns-in-Err-tell_commit-clause-goes : goal.returns-in-Err-tell_commit-clause-goes
returns-in-Err-tell_commit-clause-goes g c = goes_gives_up g.P.Plans.ways g.P.Plans.ways.plan (λ q. stages.Committing q c.in-Committing.timestamp) (λ s. refl) (λ s a x. x) (λ s a x. x) c.args.self.now c.give_up-in-Err-tell_commit.new.self c.in-Committing.plan c.tell_commit.new.plan (awaited_as c.args.arrival) _ _ _ _ _ _ c.in-Committing.is (rw c.in-Committing.is at c.requires.ready).2 (rw c.in-Err-tell_commit.is refl) c.give_up-in-Err-tell_commit.ensures.turn c.give_up-in-Err-tell_commit.ensures.state c.tell_commit.ensures.relays.deaf

pub returns-in-Ok-tell_commit-clause-expects : goal.returns-in-Ok-tell_commit-clause-expects
returns-in-Ok-tell_commit-clause-expects g c = expects_then g.P.Plans.ways g.P.Plans.ways.plan (λ q. stages.Committing q c.in-Committing.timestamp) (λ s. refl) (λ s a x. x) (λ s a x. x) c.args.self.now c.after_commit.new.self c.in-Committing.plan c.tell_commit.new.plan c.args.arrival members _ _ _ _ _ _ _ c.in-Committing.is (c.tell_commit.ensures.sends members).expects (resumes_settled _ _ c.after_commit.new.self c.tell_commit.new.out c.tell_commit.new.pd _ _ (is_kept_ok c.in-Ok-tell_commit.progress) c.after_commit.ensures.settles)

pub returns-in-Err-tell_commit-clause-expects : goal.returns-in-Err-tell_commit-clause-expects
returns-in-Err-tell_commit-clause-expects g c = expects_gives_up g.P.Plans.ways g.P.Plans.ways.plan (λ q. stages.Committing q c.in-Committing.timestamp) (λ s. refl) (λ s a x. x) (λ s a x. x) c.args.self.now c.give_up-in-Err-tell_commit.new.self c.in-Committing.plan c.tell_commit.new.plan c.args.arrival members _ _ c.in-Committing.is c.give_up-in-Err-tell_commit.ensures.state (c.tell_commit.ensures.sends members).expects

pub returns-in-Ok-tell_commit-clause-commits : goal.returns-in-Ok-tell_commit-clause-commits
returns-in-Ok-tell_commit-clause-commits g c other out = c.tell_commit.ensures.commits (λ x. other (rw c.in-Committing.is x)) (rw c.in-Committing.is at c.requires.ready).2 ∙ heard_other _ _ _ out

pub returns-in-Err-tell_commit-clause-commits : goal.returns-in-Err-tell_commit-clause-commits
returns-in-Err-tell_commit-clause-commits g c other out = c.tell_commit.ensures.commits (λ x. other (rw c.in-Committing.is x)) (rw c.in-Committing.is at c.requires.ready).2 ∙ heard_other _ _ _ out

pub returns-in-Over-clause-goes : goal.returns-in-Over-clause-goes
returns-in-Over-clause-goes g c = goes_idle g.P.Plans.ways c.args.self.now stages.Over (awaited_as c.args.arrival) _ _ _ c.in-Over.is (λ a x. x) refl

pub returns-in-Stopped-clause-goes : goal.returns-in-Stopped-clause-goes
returns-in-Stopped-clause-goes g c = goes_idle g.P.Plans.ways c.args.self.now stages.Stopped (awaited_as c.args.arrival) _ _ _ c.in-Stopped.is (λ a x. x) refl

pub returns-in-Over-clause-expects : goal.returns-in-Over-clause-expects
returns-in-Over-clause-expects g c = expects_idle g.P.Plans.ways c.args.self.now stages.Over _ _ c.in-Over.is (λ a x. x)

pub returns-in-Stopped-clause-expects : goal.returns-in-Stopped-clause-expects
returns-in-Stopped-clause-expects g c = expects_idle g.P.Plans.ways c.args.self.now stages.Stopped _ _ c.in-Stopped.is (λ a x. x)

pub returns-in_ok-progress-in-Prewriting-clause-follows : goal.returns-in_ok-progress-in-Prewriting-clause-follows
returns-in_ok-progress-in-Prewriting-clause-follows g c k runs f = IfKept-all _ (followed_elsewhere g.P.Plans.ways c.args.self.now (stages.Prewriting c.in-Prewriting.plan) c.args.arrival c.args.commits.now c.args.commits.now c.args.out.now k c.in-Prewriting.is tt f (followed_same c.args.out.now c.args.commits.now))

pub returns-in_ok-progress-in-RollingBackPrimary-clause-follows : goal.returns-in_ok-progress-in-RollingBackPrimary-clause-follows
returns-in_ok-progress-in-RollingBackPrimary-clause-follows g c k runs f = IfKept-all _ (followed_elsewhere g.P.Plans.ways c.args.self.now (stages.RollingBackPrimary c.in-RollingBackPrimary.plan) c.args.arrival c.args.commits.now c.args.commits.now c.args.out.now k c.in-RollingBackPrimary.is tt f (followed_same c.args.out.now c.args.commits.now))

pub returns-in_ok-progress-in-RollingBackOthers-clause-follows : goal.returns-in_ok-progress-in-RollingBackOthers-clause-follows
returns-in_ok-progress-in-RollingBackOthers-clause-follows g c k runs f = IfKept-all _ (followed_elsewhere g.P.Plans.ways c.args.self.now (stages.RollingBackOthers c.in-RollingBackOthers.plan) c.args.arrival c.args.commits.now c.args.commits.now c.args.out.now k c.in-RollingBackOthers.is tt f (followed_same c.args.out.now c.args.commits.now))

pub returns-in-Err-clause-follows : goal.returns-in-Err-clause-follows
returns-in-Err-clause-follows g c k runs f = IfKept-stopped _ _ c.give_up.ensures.turn

pub returns-in-Err-tell_commit-clause-follows : goal.returns-in-Err-tell_commit-clause-follows
returns-in-Err-tell_commit-clause-follows g c k runs f = IfKept-stopped _ _ c.give_up-in-Err-tell_commit.ensures.turn

pub returns-in-Ok-clause-follows : goal.returns-in-Ok-clause-follows
returns-in-Ok-clause-follows g c k runs f = let m = (c.tell-in-Asking.ensures.tells members).moves in IfKept-weaker _ (λ i. followed_elsewhere g.P.Plans.ways c.args.self.now (stages.Asking c.in-Asking.call) c.args.arrival c.args.commits.now c.after_time.new.commits c.args.out.now k c.in-Asking.is tt f (followed_as c.tell-in-Asking.new.out c.args.out.now c.args.commits.now c.after_time.new.commits m.line m.beat i)) c.after_time.ensures.follows

pub returns-in-Ok-tell_commit-clause-follows : goal.returns-in-Ok-tell_commit-clause-follows
returns-in-Ok-tell_commit-clause-follows g c k runs f = IfKept-all _ (followed_sends (is_kept_ok c.in-Ok-tell_commit.progress) (rw c.in-Ok-tell_commit.is at (c.tell_commit.ensures.sends members)))

pub returns-in-Over-clause-follows : goal.returns-in-Over-clause-follows
returns-in-Over-clause-follows g c k runs f = absurd (let e = sym (ap (stage_phase g.P.Plans.ways) c.in-Over.is) ∙ runs in cc)
