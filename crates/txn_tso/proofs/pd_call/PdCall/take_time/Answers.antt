use Rattle.std.proofs.Common.{◌∷◌, refl, ap, arith}
use Rattle.std.specs.Prelude.{is_err}
use Rattle.txn_history.proofs.Counting.{Spends-failed}
use Rattle.txn_history.specs.Event.Event.{Answered}
use Rattle.txn_history.specs.Moves.{Moves-stopped}
use Rattle.txn_history.specs.Posted.{ticket_of}
use Rattle.txn_history.specs.Turn.{turn_of}
use Rattle.txn_tso.specs.Heeding.{hears_answer}
use Rattle.txn_tso.specs.Steps.{on_answer, standing}
use Rattle.txn_tso.proofs.Hearing.{answer_safe}
use Rattle.txn_tso.proofs.Heeding.{answer_heard}
use Rattle.txn_tso.proofs.Keeping.{answer_kept, numbers_kept, query_kept, Asks, HasMore}
use Rattle.txn_tso.proofs.Spending.{answer_awake, answer_paid}
use Rattle.txn_tso.proofs.Standing.{gone_heeds, stood_awake, stood_heeds, stood_moves, stood_numbers, stood_query, stood_spends}
use Rattle.txn_tso.proofs.pd_call.PdCall.take_time.Goals as goal

pub returns-then-has_given_up-clause-moves : goal.returns-then-has_given_up-clause-moves
returns-then-has_given_up-clause-moves c = Moves-stopped refl refl

pub returns-then-has_given_up-clause-spends : goal.returns-then-has_given_up-clause-spends
returns-then-has_given_up-clause-spends c = Spends-failed refl refl (omega arith) (omega arith)

pub returns-then-has_given_up-clause-heeds : goal.returns-then-has_given_up-clause-heeds
returns-then-has_given_up-clause-heeds c = gone_heeds (hears_answer c.args.self.now.stage c.args.ask) (standing c.args.self.now c.args.client.now c.args.out.now) c.if-has_given_up.ensures (λ e. ap (λ g. hears_answer g c.args.ask) e)

pub returns-clause-moves : goal.returns-clause-moves
returns-clause-moves c = stood_moves
    c.args.self.now c.args.out.now (λ h. Answered (ticket_of c.args.out.now c.args.ask) c.args.answer ∷ h)
    (on_answer c.args.self.now.stage c.args.ask c.args.answer c.args.now (standing c.args.self.now c.args.client.now c.args.out.now))
    (turn_of c.hear_answer.result)
    (standing c.hear_answer.new.self c.hear_answer.new.client c.hear_answer.new.out)
    (answer_safe c.args.self.now c.args.client.now c.args.out.now c.args.ask c.args.now c.args.answer c.args.self.now.stage refl)
    c.hear_answer.ensures.step

pub returns-clause-spends : goal.returns-clause-spends
returns-clause-spends c = stood_spends
    c.args.self.now (is_err c.args.answer) c.args.out.now
    (on_answer c.args.self.now.stage c.args.ask c.args.answer c.args.now (standing c.args.self.now c.args.client.now c.args.out.now))
    (turn_of c.hear_answer.result)
    (standing c.hear_answer.new.self c.hear_answer.new.client c.hear_answer.new.out)
    (answer_paid c.args.self.now c.args.client.now c.args.out.now c.args.ask c.args.now c.args.answer c.args.self.now.stage)
    c.hear_answer.ensures.step

pub returns-clause-job : goal.returns-clause-job
returns-clause-job c = stood_query
    c.args.self.now.query c.args.out.now
    (on_answer c.args.self.now.stage c.args.ask c.args.answer c.args.now (standing c.args.self.now c.args.client.now c.args.out.now))
    (turn_of c.hear_answer.result)
    (standing c.hear_answer.new.self c.hear_answer.new.client c.hear_answer.new.out)
    (answer_kept (Asks c.args.self.now.query) (query_kept c.args.self.now.query) c.args.self.now.stage c.args.ask c.args.answer c.args.now (standing c.args.self.now c.args.client.now c.args.out.now) refl)
    c.hear_answer.ensures.step

pub returns-clause-numbers : goal.returns-clause-numbers
returns-clause-numbers c = stood_numbers
    c.args.self.now.query c.args.out.now
    (on_answer c.args.self.now.stage c.args.ask c.args.answer c.args.now (standing c.args.self.now c.args.client.now c.args.out.now))
    (turn_of c.hear_answer.result)
    (standing c.hear_answer.new.self c.hear_answer.new.client c.hear_answer.new.out)
    c.requires
    (answer_kept HasMore numbers_kept c.args.self.now.stage c.args.ask c.args.answer c.args.now (standing c.args.self.now c.args.client.now c.args.out.now) c.requires)
    c.hear_answer.ensures.step

pub returns-clause-heeds : goal.returns-clause-heeds
returns-clause-heeds c = stood_heeds
    (hears_answer c.args.self.now.stage c.args.ask)
    (standing c.args.self.now c.args.client.now c.args.out.now)
    (on_answer c.args.self.now.stage c.args.ask c.args.answer c.args.now (standing c.args.self.now c.args.client.now c.args.out.now))
    (turn_of c.hear_answer.result)
    (standing c.hear_answer.new.self c.hear_answer.new.client c.hear_answer.new.out)
    c.if-has_given_up.ensures
    (λ e. ap (λ g. hears_answer g c.args.ask) e)
    (answer_heard c.args.self.now.stage c.args.ask c.args.answer c.args.now (standing c.args.self.now c.args.client.now c.args.out.now))
    c.hear_answer.ensures.unheard
    c.hear_answer.ensures.step

pub returns-clause-awake : goal.returns-clause-awake
returns-clause-awake c = stood_awake
    c.args.self.now.query c.args.out.now
    (on_answer c.args.self.now.stage c.args.ask c.args.answer c.args.now (standing c.args.self.now c.args.client.now c.args.out.now))
    (turn_of c.hear_answer.result)
    (standing c.hear_answer.new.self c.hear_answer.new.client c.hear_answer.new.out)
    (answer_awake c.args.self.now.stage c.args.ask c.args.answer c.args.now (standing c.args.self.now c.args.client.now c.args.out.now))
    c.hear_answer.ensures.step
