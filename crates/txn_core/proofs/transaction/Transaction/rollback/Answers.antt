use Rattle.std.proofs.Common.{◌∙◌, refl, sym}
use Rattle.txn_history.specs.Moves.{Moves-stopped}
use Rattle.txn_core.proofs.Counting.{rest_pays}
use Rattle.txn_core.proofs.Going.{idle_work, rolls_on}
use Rattle.txn_core.proofs.Waiting.{gone_work, opens_rests, rests_gone, rests_idle}
use Rattle.txn_core.proofs.transaction.Transaction.rollback.Goals as goal

pub returns-then-has_given_up-clause-moves : goal.returns-then-has_given_up-clause-moves
returns-then-has_given_up-clause-moves g c a b = Moves-stopped refl refl

pub returns-in-None-clause-moves : goal.returns-in-None-clause-moves
returns-in-None-clause-moves g c a b = rolls_on _ c.args.self.now c.go_back.new.self _ _ _ (idle_work _ c.requires.idle (sym c.has_given_up.ensures ∙ c.if-has_given_up.false)) b c.go_back.ensures.moves

pub returns-then-has_given_up-clause-counts : goal.returns-then-has_given_up-clause-counts
returns-then-has_given_up-clause-counts g c = rest_pays _ _ c.args.self.now c.args.self.now c.requires.idle c.requires.idle refl

pub returns-then-not-allows_rollback-clause-counts : goal.returns-then-not-allows_rollback-clause-counts
returns-then-not-allows_rollback-clause-counts g c = rest_pays _ _ c.args.self.now c.args.self.now c.requires.idle c.requires.idle refl

pub returns-in-Some-clause-counts : goal.returns-in-Some-clause-counts
returns-in-Some-clause-counts g c = rest_pays _ _ c.args.self.now c.refuse_rollback.new.self c.requires.idle c.refuse_rollback.ensures.busy (rw c.refuse_rollback.ensures.state refl)

pub returns-then-has_given_up-clause-opens : goal.returns-then-has_given_up-clause-opens
returns-then-has_given_up-clause-opens g c = opens_rests _ c.args.self.now _ _ (rests_gone _ c.args.self.now _ (gone_work _ (sym c.has_given_up.ensures ∙ c.if-has_given_up.true)) refl)

pub returns-then-not-allows_rollback-clause-opens : goal.returns-then-not-allows_rollback-clause-opens
returns-then-not-allows_rollback-clause-opens g c = opens_rests _ c.args.self.now _ _ (rests_idle _ c.args.self.now _ (idle_work _ c.requires.idle (sym c.has_given_up.ensures ∙ c.if-has_given_up.false)) (rw c.refused.ensures tt))

pub returns-in-Some-clause-opens : goal.returns-in-Some-clause-opens
returns-in-Some-clause-opens g c = opens_rests _ c.refuse_rollback.new.self _ _ c.refuse_rollback.ensures.rests
