use Rattle.std.proofs.Common.{◌∙◌, refl, sym}
use Rattle.txn_history.specs.Moves.{Moves-stopped}
use Rattle.txn_history.proofs.Telling.{turn_stopped}
use Rattle.txn_core.proofs.Counting.{goes_back_counts, rest_pays}
use Rattle.txn_core.proofs.Going.{back_nothing, goes_back}
use Rattle.txn_core.proofs.Waiting.{opens_rests, rests_gone, rests_idle}
use Rattle.txn_core.proofs.transaction.Transaction.go_back.Goals as goal

pub returns-in_err-parts-clause-moves : goal.returns-in_err-parts-clause-moves
returns-in_err-parts-clause-moves g c = Moves-stopped (turn_stopped _ c.from_residual.ensures.0) refl

pub returns-in-None-clause-moves : goal.returns-in-None-clause-moves
returns-in-None-clause-moves g c = back_nothing _ c.args.self.now c.begin.new.self c.nothing_rolled_back.new.self _ _ c.begin.ensures c.nothing_rolled_back.ensures.state (sym c.in_ok-parts.ensures ∙ c.in-None.is) c.nothing_rolled_back.ensures.answer

pub returns-in-Some-clause-moves : goal.returns-in-Some-clause-moves
returns-in-Some-clause-moves g c = goes_back _ c.args.self.now c.begin.new.self c.start_rollback.new.self c.in-Some.parts _ _ _ c.begin.ensures (sym c.in_ok-parts.ensures ∙ c.in-Some.is) c.start_rollback.ensures.moves

pub returns-in_err-parts-clause-counts : goal.returns-in_err-parts-clause-counts
returns-in_err-parts-clause-counts g c = rest_pays _ _ c.args.self.now c.begin.new.self c.requires.idle (rw c.begin.ensures refl) (rw c.begin.ensures refl)

pub returns-in-None-clause-counts : goal.returns-in-None-clause-counts
returns-in-None-clause-counts g c = rest_pays _ _ c.args.self.now c.nothing_rolled_back.new.self c.requires.idle (rw c.nothing_rolled_back.ensures.state refl) (rw (c.nothing_rolled_back.ensures.state, c.begin.ensures) refl)

pub returns-in-Some-clause-counts : goal.returns-in-Some-clause-counts
returns-in-Some-clause-counts g c = goes_back_counts _ _ c.args.self.now c.begin.new.self c.start_rollback.new.self c.in-Some.parts _ c.requires.idle c.begin.ensures (sym c.in_ok-parts.ensures ∙ c.in-Some.is) c.start_rollback.ensures.counts

pub returns-in_err-parts-clause-opens : goal.returns-in_err-parts-clause-opens
returns-in_err-parts-clause-opens g c = opens_rests _ c.begin.new.self _ _ (rests_gone _ c.begin.new.self _ (rw c.begin.ensures refl) (turn_stopped _ c.from_residual.ensures.0))

pub returns-in-None-clause-opens : goal.returns-in-None-clause-opens
returns-in-None-clause-opens g c = opens_rests _ c.nothing_rolled_back.new.self _ _ (rests_idle _ c.nothing_rolled_back.new.self _ (rw c.nothing_rolled_back.ensures.state refl) (rw c.nothing_rolled_back.ensures.answer tt))
