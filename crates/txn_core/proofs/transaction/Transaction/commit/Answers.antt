use Rattle.std.proofs.Common.{◌∙◌, refl, sym, ap, subst}
use Rattle.txn_history.specs.Moves.{Moves-stopped}
use Rattle.txn_history.proofs.Telling.{turn_stopped}
use Rattle.txn_history.specs.Turn.{IfKept-all}
use Rattle.txn_commit.specs.Following.{IsFollowed}
use Rattle.txn_commit.proofs.Posting.{followed_same}
use Rattle.txn_core.proofs.Counting.{commits_counts, rest_pays}
use Rattle.txn_core.proofs.Going.{commits_nothing, commits_on, idle_work}
use Rattle.txn_core.proofs.Waiting.{gone_work, opens_rests, rests_gone, rests_idle}
use Rattle.txn_core.proofs.transaction.Transaction.commit.Goals as goal

pub returns-then-has_given_up-clause-moves : goal.returns-then-has_given_up-clause-moves
returns-then-has_given_up-clause-moves g c a = Moves-stopped refl refl

pub returns-in_err-parts-clause-moves : goal.returns-in_err-parts-clause-moves
returns-in_err-parts-clause-moves g c a = Moves-stopped (turn_stopped _ c.from_residual.ensures.0) refl

pub returns-in-None-clause-moves : goal.returns-in-None-clause-moves
returns-in-None-clause-moves g c a = commits_nothing _ c.args.self.now c.begin.new.self c.nothing_committed.new.self _ _ (idle_work _ c.requires.idle (sym c.has_given_up.ensures ∙ c.if-has_given_up.false)) c.begin.ensures c.nothing_committed.ensures.state (sym c.in_ok-parts.ensures ∙ c.in-None.is) c.nothing_committed.ensures.answer

pub returns-in-Some-clause-moves : goal.returns-in-Some-clause-moves
returns-in-Some-clause-moves g c a = commits_on _ c.args.self.now c.begin.new.self c.start_commit.new.self c.in-Some.parts _ _ _ (idle_work _ c.requires.idle (sym c.has_given_up.ensures ∙ c.if-has_given_up.false)) c.begin.ensures (sym c.in_ok-parts.ensures ∙ c.in-Some.is) c.start_commit.ensures.moves

pub returns-then-has_given_up-clause-counts : goal.returns-then-has_given_up-clause-counts
returns-then-has_given_up-clause-counts g c = rest_pays _ _ c.args.self.now c.args.self.now c.requires.idle c.requires.idle refl

pub returns-then-not-allows_commit-clause-counts : goal.returns-then-not-allows_commit-clause-counts
returns-then-not-allows_commit-clause-counts g c = rest_pays _ _ c.args.self.now c.args.self.now c.requires.idle c.requires.idle refl

pub returns-in_err-parts-clause-counts : goal.returns-in_err-parts-clause-counts
returns-in_err-parts-clause-counts g c = rest_pays _ _ c.args.self.now c.begin.new.self c.requires.idle (rw c.begin.ensures refl) (rw c.begin.ensures refl)

pub returns-in-None-clause-counts : goal.returns-in-None-clause-counts
returns-in-None-clause-counts g c = rest_pays _ _ c.args.self.now c.nothing_committed.new.self c.requires.idle (rw c.nothing_committed.ensures.state refl) (rw (c.nothing_committed.ensures.state, c.begin.ensures) refl)

pub returns-in-Some-clause-counts : goal.returns-in-Some-clause-counts
returns-in-Some-clause-counts g c = commits_counts _ _ c.args.self.now c.begin.new.self c.start_commit.new.self c.in-Some.parts _ c.requires.idle c.begin.ensures (sym c.in_ok-parts.ensures ∙ c.in-Some.is) c.start_commit.ensures.counts

pub returns-then-has_given_up-clause-opens : goal.returns-then-has_given_up-clause-opens
returns-then-has_given_up-clause-opens g c = opens_rests _ c.args.self.now _ _ (rests_gone _ c.args.self.now _ (gone_work _ (sym c.has_given_up.ensures ∙ c.if-has_given_up.true)) refl)

pub returns-then-not-allows_commit-clause-opens : goal.returns-then-not-allows_commit-clause-opens
returns-then-not-allows_commit-clause-opens g c = opens_rests _ c.args.self.now _ _ (rests_idle _ c.args.self.now _ (idle_work _ c.requires.idle (sym c.has_given_up.ensures ∙ c.if-has_given_up.false)) (rw c.refused.ensures tt))

pub returns-in_err-parts-clause-opens : goal.returns-in_err-parts-clause-opens
returns-in_err-parts-clause-opens g c = opens_rests _ c.begin.new.self _ _ (rests_gone _ c.begin.new.self _ (rw c.begin.ensures refl) (turn_stopped _ c.from_residual.ensures.0))

pub returns-in-None-clause-opens : goal.returns-in-None-clause-opens
returns-in-None-clause-opens g c = opens_rests _ c.nothing_committed.new.self _ _ (rests_idle _ c.nothing_committed.new.self _ (rw c.nothing_committed.ensures.state refl) (rw c.nothing_committed.ensures.answer tt))

pub returns-then-not-allows_commit-clause-job : goal.returns-then-not-allows_commit-clause-job
returns-then-not-allows_commit-clause-job g c = rw c.refused.ensures tt

pub returns-in-None-clause-job : goal.returns-in-None-clause-job
returns-in-None-clause-job g c = rw c.nothing_committed.ensures.answer (tt, tt)

pub returns-then-not-allows_commit-clause-follows : goal.returns-then-not-allows_commit-clause-follows
returns-then-not-allows_commit-clause-follows g c = IfKept-all _ (followed_same c.args.out.now c.args.self.now.commits)

pub returns-in-None-clause-follows : goal.returns-in-None-clause-follows
returns-in-None-clause-follows g c =
    IfKept-all _ (subst (λ d. IsFollowed c.args.out.now c.args.self.now.commits d) (sym (ap (λ t. t.commits) c.nothing_committed.ensures.state ∙ ap (λ t. t.commits) c.begin.ensures)) (followed_same c.args.out.now c.args.self.now.commits))

pub returns-in-Some-clause-follows : goal.returns-in-Some-clause-follows
returns-in-Some-clause-follows g c = rw c.begin.ensures at c.start_commit.ensures.follows
