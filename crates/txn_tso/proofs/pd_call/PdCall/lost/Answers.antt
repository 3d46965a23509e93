use Rattle.std.proofs.Common.{◌∷◌, refl, ap, arith, true}
use Rattle.txn_history.proofs.Counting.{Spends-failed}
use Rattle.txn_history.specs.Event.Event.{Lost}
use Rattle.txn_history.specs.Moves.{Moves-stopped}
use Rattle.txn_history.specs.Posted.{ticket_of}
use Rattle.txn_history.specs.Turn.{turn_of}
use Rattle.txn_tso.specs.Heeding.{hears_reply}
use Rattle.txn_tso.specs.Steps.{on_loss, standing}
use Rattle.txn_tso.proofs.Hearing.{loss_safe}
use Rattle.txn_tso.proofs.Heeding.{loss_heard}
use Rattle.txn_tso.proofs.Keeping.{loss_kept, numbers_kept, query_kept, Asks, HasMore}
use Rattle.txn_tso.proofs.Spending.{loss_paid}
use Rattle.txn_tso.proofs.Standing.{gone_heeds, stood_heeds, stood_moves, stood_numbers, stood_query, stood_spends}
use Rattle.txn_tso.proofs.pd_call.PdCall.lost.Goals as goal

pub returns-then-has_given_up-clause-moves : goal.returns-then-has_given_up-clause-moves
returns-then-has_given_up-clause-moves c r m = Moves-stopped refl refl

pub returns-then-has_given_up-clause-spends : goal.returns-then-has_given_up-clause-spends
returns-then-has_given_up-clause-spends c = Spends-failed refl refl (omega arith) (omega arith)

pub returns-then-has_given_up-clause-heeds : goal.returns-then-has_given_up-clause-heeds
returns-then-has_given_up-clause-heeds c = gone_heeds (hears_reply c.args.self.now.stage c.args.number) (standing c.args.self.now c.args.client.now c.args.out.now) c.if-has_given_up.ensures (λ e. ap (λ g. hears_reply g c.args.number) e)

pub returns-clause-moves : goal.returns-clause-moves
returns-clause-moves c r m = stood_moves
    c.args.self.now c.args.out.now (λ h. Lost (ticket_of c.args.out.now c.args.number) r ∷ h)
    (on_loss c.args.self.now.stage c.args.number c.args.now (standing c.args.self.now c.args.client.now c.args.out.now))
    (turn_of c.hear_loss.result)
    (standing c.hear_loss.new.self c.hear_loss.new.client c.hear_loss.new.out)
    (loss_safe c.args.self.now c.args.client.now c.args.out.now c.args.number c.args.now r c.args.self.now.stage refl m)
    c.hear_loss.ensures.step

pub returns-clause-spends : goal.returns-clause-spends
returns-clause-spends c = stood_spends
    c.args.self.now true c.args.out.now
    (on_loss c.args.self.now.stage c.args.number c.args.now (standing c.args.self.now c.args.client.now c.args.out.now))
    (turn_of c.hear_loss.result)
    (standing c.hear_loss.new.self c.hear_loss.new.client c.hear_loss.new.out)
    (loss_paid c.args.self.now c.args.client.now c.args.out.now c.args.number c.args.now c.args.self.now.stage)
    c.hear_loss.ensures.step

pub returns-clause-job : goal.returns-clause-job
returns-clause-job c = stood_query
    c.args.self.now.query c.args.out.now
    (on_loss c.args.self.now.stage c.args.number c.args.now (standing c.args.self.now c.args.client.now c.args.out.now))
    (turn_of c.hear_loss.result)
    (standing c.hear_loss.new.self c.hear_loss.new.client c.hear_loss.new.out)
    (loss_kept (Asks c.args.self.now.query) (query_kept c.args.self.now.query) c.args.self.now.stage c.args.number c.args.now (standing c.args.self.now c.args.client.now c.args.out.now) refl)
    c.hear_loss.ensures.step

pub returns-clause-numbers : goal.returns-clause-numbers
returns-clause-numbers c = stood_numbers
    c.args.self.now.query c.args.out.now
    (on_loss c.args.self.now.stage c.args.number c.args.now (standing c.args.self.now c.args.client.now c.args.out.now))
    (turn_of c.hear_loss.result)
    (standing c.hear_loss.new.self c.hear_loss.new.client c.hear_loss.new.out)
    c.requires
    (loss_kept HasMore numbers_kept c.args.self.now.stage c.args.number c.args.now (standing c.args.self.now c.args.client.now c.args.out.now) c.requires)
    c.hear_loss.ensures.step

pub returns-clause-heeds : goal.returns-clause-heeds
returns-clause-heeds c = stood_heeds
    (hears_reply c.args.self.now.stage c.args.number)
    (standing c.args.self.now c.args.client.now c.args.out.now)
    (on_loss c.args.self.now.stage c.args.number c.args.now (standing c.args.self.now c.args.client.now c.args.out.now))
    (turn_of c.hear_loss.result)
    (standing c.hear_loss.new.self c.hear_loss.new.client c.hear_loss.new.out)
    c.if-has_given_up.ensures
    (λ e. ap (λ g. hears_reply g c.args.number) e)
    (loss_heard c.args.self.now.stage c.args.number c.args.now (standing c.args.self.now c.args.client.now c.args.out.now))
    c.hear_loss.ensures.unheard
    c.hear_loss.ensures.step
