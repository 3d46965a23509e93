use Rattle.std.proofs.Common.{◌∷◌, refl, ap, arith, false}
use Rattle.txn_history.proofs.Counting.{Spends-failed}
use Rattle.txn_history.specs.Event.Event.{Slept}
use Rattle.txn_history.specs.Moves.{Moves-stopped}
use Rattle.txn_history.specs.Posted.{ticket_of}
use Rattle.txn_history.specs.Turn.{turn_of}
use Rattle.txn_tso.specs.Heeding.{hears_waking}
use Rattle.txn_tso.specs.Steps.{on_waking, standing}
use Rattle.txn_tso.proofs.Hearing.{waking_safe}
use Rattle.txn_tso.proofs.Heeding.{waking_heard}
use Rattle.txn_tso.proofs.Keeping.{waking_kept, numbers_kept, query_kept, Asks, HasMore}
use Rattle.txn_tso.proofs.Spending.{waking_paid}
use Rattle.txn_tso.proofs.Standing.{gone_heeds, stood_heeds, stood_moves, stood_numbers, stood_query, stood_spends}
use Rattle.txn_tso.proofs.pd_call.PdCall.slept.Goals as goal

pub returns-then-has_given_up-clause-moves : goal.returns-then-has_given_up-clause-moves
returns-then-has_given_up-clause-moves c = Moves-stopped refl refl

pub returns-then-has_given_up-clause-spends : goal.returns-then-has_given_up-clause-spends
returns-then-has_given_up-clause-spends c = Spends-failed refl refl (omega arith) (omega arith)

pub returns-then-has_given_up-clause-heeds : goal.returns-then-has_given_up-clause-heeds
returns-then-has_given_up-clause-heeds c = gone_heeds (hears_waking c.args.self.now.stage c.args.number) (standing c.args.self.now c.args.client.now c.args.out.now) c.if-has_given_up.ensures (λ e. ap (λ g. hears_waking g c.args.number) e)

pub returns-clause-moves : goal.returns-clause-moves
returns-clause-moves c = stood_moves
    c.args.self.now c.args.out.now (λ h. Slept (ticket_of c.args.out.now c.args.number) ∷ h)
    (on_waking c.args.self.now.stage c.args.number c.args.now (standing c.args.self.now c.args.client.now c.args.out.now))
    (turn_of c.hear_waking.result)
    (standing c.hear_waking.new.self c.hear_waking.new.client c.hear_waking.new.out)
    (waking_safe c.args.self.now c.args.client.now c.args.out.now c.args.number c.args.now c.args.self.now.stage refl)
    c.hear_waking.ensures.step

pub returns-clause-spends : goal.returns-clause-spends
returns-clause-spends c = stood_spends
    c.args.self.now false c.args.out.now
    (on_waking c.args.self.now.stage c.args.number c.args.now (standing c.args.self.now c.args.client.now c.args.out.now))
    (turn_of c.hear_waking.result)
    (standing c.hear_waking.new.self c.hear_waking.new.client c.hear_waking.new.out)
    (waking_paid c.args.self.now c.args.client.now c.args.out.now c.args.number c.args.now c.args.self.now.stage refl)
    c.hear_waking.ensures.step

pub returns-clause-job : goal.returns-clause-job
returns-clause-job c = stood_query
    c.args.self.now.query c.args.out.now
    (on_waking c.args.self.now.stage c.args.number c.args.now (standing c.args.self.now c.args.client.now c.args.out.now))
    (turn_of c.hear_waking.result)
    (standing c.hear_waking.new.self c.hear_waking.new.client c.hear_waking.new.out)
    (waking_kept (Asks c.args.self.now.query) (query_kept c.args.self.now.query) c.args.self.now.stage c.args.number c.args.now (standing c.args.self.now c.args.client.now c.args.out.now) refl)
    c.hear_waking.ensures.step

pub returns-clause-numbers : goal.returns-clause-numbers
returns-clause-numbers c = stood_numbers
    c.args.self.now.query c.args.out.now
    (on_waking c.args.self.now.stage c.args.number c.args.now (standing c.args.self.now c.args.client.now c.args.out.now))
    (turn_of c.hear_waking.result)
    (standing c.hear_waking.new.self c.hear_waking.new.client c.hear_waking.new.out)
    c.requires
    (waking_kept HasMore numbers_kept c.args.self.now.stage c.args.number c.args.now (standing c.args.self.now c.args.client.now c.args.out.now) c.requires)
    c.hear_waking.ensures.step

pub returns-clause-heeds : goal.returns-clause-heeds
returns-clause-heeds c = stood_heeds
    (hears_waking c.args.self.now.stage c.args.number)
    (standing c.args.self.now c.args.client.now c.args.out.now)
    (on_waking c.args.self.now.stage c.args.number c.args.now (standing c.args.self.now c.args.client.now c.args.out.now))
    (turn_of c.hear_waking.result)
    (standing c.hear_waking.new.self c.hear_waking.new.client c.hear_waking.new.out)
    c.if-has_given_up.ensures
    (λ e. ap (λ g. hears_waking g c.args.number) e)
    (waking_heard c.args.self.now.stage c.args.number c.args.now (standing c.args.self.now c.args.client.now c.args.out.now))
    c.hear_waking.ensures.unheard
    c.hear_waking.ensures.step
