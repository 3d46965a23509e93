use Rattle.std.proofs.Common.{◌∷◌, refl, ap, arith, false}
use Rattle.txn_history.proofs.Counting.{Spends-failed}
use Rattle.txn_history.specs.Event.Event.{Took}
use Rattle.txn_history.specs.Moves.{Moves-stopped}
use Rattle.txn_history.specs.Posted.{ticket_of}
use Rattle.txn_history.specs.Turn.{turn_of}
use Rattle.txn_tso.specs.Heeding.{hears_reply}
use Rattle.txn_tso.specs.Steps.{standing, waits}
use Rattle.txn_tso.proofs.Hearing.{reply_safe}
use Rattle.txn_tso.proofs.Heeding.{reply_heard}
use Rattle.txn_tso.proofs.Keeping.{reply_kept, numbers_kept, query_kept, Asks, HasMore}
use Rattle.txn_tso.proofs.Spending.{reply_paid}
use Rattle.txn_tso.proofs.Standing.{gone_heeds, stood_heeds, stood_moves, stood_numbers, stood_query, stood_spends}
use Rattle.txn_tso.proofs.pd_call.PdCall.take_reply.Goals as goal

pub returns-then-has_given_up-clause-step : goal.returns-then-has_given_up-clause-step
returns-then-has_given_up-clause-step c = (waits (standing c.args.self.now c.args.client.now c.args.out.now), rw c.if-has_given_up.ensures refl, (c.if-has_given_up.ensures, refl, refl))

pub returns-then-has_given_up-clause-moves : goal.returns-then-has_given_up-clause-moves
returns-then-has_given_up-clause-moves c r m = Moves-stopped refl refl

pub returns-then-has_given_up-clause-spends : goal.returns-then-has_given_up-clause-spends
returns-then-has_given_up-clause-spends c = Spends-failed refl refl (omega arith) (omega arith)

pub returns-then-has_given_up-clause-heeds : goal.returns-then-has_given_up-clause-heeds
returns-then-has_given_up-clause-heeds c = gone_heeds (hears_reply c.args.self.now.stage c.args.number) (standing c.args.self.now c.args.client.now c.args.out.now) c.if-has_given_up.ensures (λ e. ap (λ g. hears_reply g c.args.number) e)

pub returns-clause-moves : goal.returns-clause-moves
returns-clause-moves c r m = stood_moves
    c.args.self.now c.args.out.now (λ h. Took (ticket_of c.args.out.now c.args.number) r c.args.reply ∷ h)
    (c.hear_reply.ensures.step.0)
    (turn_of c.hear_reply.result)
    (standing c.hear_reply.new.self c.hear_reply.new.client c.hear_reply.new.out)
    (reply_safe c.args.self.now c.args.client.now c.args.out.now c.args.number c.args.now r c.args.reply c.hear_reply.ensures.step.0 c.args.self.now.stage refl m c.hear_reply.ensures.step.1)
    c.hear_reply.ensures.step.2

pub returns-clause-spends : goal.returns-clause-spends
returns-clause-spends c = stood_spends
    c.args.self.now false c.args.out.now
    (c.hear_reply.ensures.step.0)
    (turn_of c.hear_reply.result)
    (standing c.hear_reply.new.self c.hear_reply.new.client c.hear_reply.new.out)
    (reply_paid c.args.self.now c.args.client.now c.args.out.now c.args.number c.args.now c.args.reply c.hear_reply.ensures.step.0 c.args.self.now.stage refl c.hear_reply.ensures.step.1)
    c.hear_reply.ensures.step.2

pub returns-clause-job : goal.returns-clause-job
returns-clause-job c = stood_query
    c.args.self.now.query c.args.out.now
    (c.hear_reply.ensures.step.0)
    (turn_of c.hear_reply.result)
    (standing c.hear_reply.new.self c.hear_reply.new.client c.hear_reply.new.out)
    (reply_kept (Asks c.args.self.now.query) (query_kept c.args.self.now.query) c.args.self.now.stage c.args.number c.args.reply c.args.now (standing c.args.self.now c.args.client.now c.args.out.now) c.hear_reply.ensures.step.0 refl c.hear_reply.ensures.step.1)
    c.hear_reply.ensures.step.2

pub returns-clause-numbers : goal.returns-clause-numbers
returns-clause-numbers c = stood_numbers
    c.args.self.now.query c.args.out.now
    (c.hear_reply.ensures.step.0)
    (turn_of c.hear_reply.result)
    (standing c.hear_reply.new.self c.hear_reply.new.client c.hear_reply.new.out)
    c.requires
    (reply_kept HasMore numbers_kept c.args.self.now.stage c.args.number c.args.reply c.args.now (standing c.args.self.now c.args.client.now c.args.out.now) c.hear_reply.ensures.step.0 c.requires c.hear_reply.ensures.step.1)
    c.hear_reply.ensures.step.2

pub returns-clause-heeds : goal.returns-clause-heeds
returns-clause-heeds c = stood_heeds
    (hears_reply c.args.self.now.stage c.args.number)
    (standing c.args.self.now c.args.client.now c.args.out.now)
    (c.hear_reply.ensures.step.0)
    (turn_of c.hear_reply.result)
    (standing c.hear_reply.new.self c.hear_reply.new.client c.hear_reply.new.out)
    c.if-has_given_up.ensures
    (λ e. ap (λ g. hears_reply g c.args.number) e)
    (λ e. reply_heard c.args.self.now.stage c.args.number c.args.reply c.args.now (standing c.args.self.now c.args.client.now c.args.out.now) c.hear_reply.ensures.step.0 e c.hear_reply.ensures.step.1)
    c.hear_reply.ensures.unheard
    c.hear_reply.ensures.step.2
