use Rattle.std.proofs.Common.{sym, subst, ◌∙◌}
use Rattle.std.specs.Prelude.{Option}
use Rattle.txn_history.specs.Turn.{turn_of}
use Rattle.txn_kv.specs.declared.request.Request.{Request}
use Rattle.txn_tso.specs.Steps.{standing, tried_with, waits, Stands}
use Rattle.txn_tso.proofs.pd_call.PdCall.make_try.Goals as goal

pub returns-in-Some : goal.returns-in-Some
returns-in-Some c =
    subst (λ (r : Option Request). Stands c.args.self.now.query c.args.out.now (waits (tried_with r (standing c.args.self.now c.args.client.now c.args.out.now))) (turn_of c.send.result) (standing c.send.new.self c.args.client.now c.send.new.out))
    (sym c.in-Some.is ∙ c.in_ok-request.ensures) (c.send.ensures c.args.client.now)

pub returns-in-None : goal.returns-in-None
returns-in-None c =
    subst (λ (r : Option Request). Stands c.args.self.now.query c.args.out.now (waits (tried_with r (standing c.args.self.now c.args.client.now c.args.out.now))) (turn_of c.ask.result) (standing c.ask.new.self c.args.client.now c.ask.new.out))
    (sym c.in-None.is ∙ c.in_ok-request.ensures) (c.ask.ensures c.args.client.now)
