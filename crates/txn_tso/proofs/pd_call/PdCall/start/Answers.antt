use Rattle.std.proofs.Common.{refl, ap, ◌∙◌, arith, false}
use Rattle.txn_history.proofs.Counting.{Spends-failed}
use Rattle.txn_history.specs.Moves.{Moves-stopped}
use Rattle.txn_history.specs.Posted.{Posted}
use Rattle.txn_history.specs.Turn.{turn_of}
use Rattle.txn_tso.specs.Heeding.{hears_start}
use Rattle.txn_tso.specs.Steps.{on_start, standing}
use Rattle.txn_tso.specs.declared.pd_call.PdCall.{PdCall}
use Rattle.txn_tso.proofs.Hearing.{start_safe}
use Rattle.txn_tso.proofs.Heeding.{start_heard}
use Rattle.txn_tso.proofs.Keeping.{start_kept, numbers_kept, query_kept, Asks, HasMore}
use Rattle.txn_tso.proofs.Spending.{start_paid}
use Rattle.txn_tso.proofs.Standing.{gone_heeds, stood_heeds, stood_moves, stood_numbers, stood_query, stood_spends}
use Rattle.txn_tso.proofs.pd_call.PdCall.start.Goals as goal

pub returns-then-has_given_up-clause-moves : goal.returns-then-has_given_up-clause-moves
returns-then-has_given_up-clause-moves c = Moves-stopped refl refl

pub returns-then-has_given_up-clause-spends : goal.returns-then-has_given_up-clause-spends
returns-then-has_given_up-clause-spends c = Spends-failed refl refl (omega arith) (omega arith)

pub returns-then-has_given_up-clause-heeds : goal.returns-then-has_given_up-clause-heeds
returns-then-has_given_up-clause-heeds c = gone_heeds (hears_start c.args.self.now.stage) (standing c.args.self.now c.args.client.now c.args.out.now) c.if-has_given_up.ensures (λ e. ap (λ g. hears_start g) e)

pub returns-clause-moves : goal.returns-clause-moves
returns-clause-moves c = stood_moves
    c.args.self.now c.args.out.now (λ h. h)
    (on_start c.args.self.now.stage (standing c.args.self.now c.args.client.now c.args.out.now))
    (turn_of c.hear_start.result)
    (standing c.hear_start.new.self c.args.client.now c.hear_start.new.out)
    (start_safe c.args.self.now c.args.client.now c.args.out.now c.args.self.now.stage refl)
    c.hear_start.ensures.step

pub returns-clause-spends : goal.returns-clause-spends
returns-clause-spends c = stood_spends
    c.args.self.now false c.args.out.now
    (on_start c.args.self.now.stage (standing c.args.self.now c.args.client.now c.args.out.now))
    (turn_of c.hear_start.result)
    (standing c.hear_start.new.self c.args.client.now c.hear_start.new.out)
    (start_paid c.args.self.now c.args.client.now c.args.out.now c.args.self.now.stage refl)
    c.hear_start.ensures.step

pub returns-clause-job : goal.returns-clause-job
returns-clause-job c = stood_query
    c.args.self.now.query c.args.out.now
    (on_start c.args.self.now.stage (standing c.args.self.now c.args.client.now c.args.out.now))
    (turn_of c.hear_start.result)
    (standing c.hear_start.new.self c.args.client.now c.hear_start.new.out)
    (start_kept (Asks c.args.self.now.query) (query_kept c.args.self.now.query) c.args.self.now.stage (standing c.args.self.now c.args.client.now c.args.out.now) refl)
    c.hear_start.ensures.step

pub returns-clause-numbers : goal.returns-clause-numbers
returns-clause-numbers c = stood_numbers
    c.args.self.now.query c.args.out.now
    (on_start c.args.self.now.stage (standing c.args.self.now c.args.client.now c.args.out.now))
    (turn_of c.hear_start.result)
    (standing c.hear_start.new.self c.args.client.now c.hear_start.new.out)
    c.requires
    (start_kept HasMore numbers_kept c.args.self.now.stage (standing c.args.self.now c.args.client.now c.args.out.now) c.requires)
    c.hear_start.ensures.step

pub returns-clause-heeds : goal.returns-clause-heeds
returns-clause-heeds c = stood_heeds
    (hears_start c.args.self.now.stage)
    (standing c.args.self.now c.args.client.now c.args.out.now)
    (on_start c.args.self.now.stage (standing c.args.self.now c.args.client.now c.args.out.now))
    (turn_of c.hear_start.result)
    (standing c.hear_start.new.self c.args.client.now c.hear_start.new.out)
    c.if-has_given_up.ensures
    (λ e. ap (λ g. hears_start g) e)
    (start_heard c.args.self.now.stage (standing c.args.self.now c.args.client.now c.args.out.now))
    (λ e. let same = c.hear_start.ensures.unheard e in (same.0, ap (λ (s : PdCall). standing s c.args.client.now c.hear_start.new.out) same.1 ∙ ap (λ (o : Posted). standing c.args.self.now c.args.client.now o) same.2))
    c.hear_start.ensures.step
