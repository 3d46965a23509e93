use Rattle.std.proofs.Common.{refl, subst}
use Rattle.txn_machine.specs.Running.{lists_of}
use Rattle.txn_machine.proofs.Staying.{acts_out}
use Rattle.txn_machine.proofs.Telling.{leaves_same, tell_acts}
use Rattle.txn_side.specs.Account.{MayTakeIn}
use Rattle.txn_side.specs.Sight.{commits}
use Rattle.txn_machine.proofs.Arising.{called_to}
use Rattle.txn_machine.proofs.Resting.{used_on}
use Rattle.txn_machine.proofs.machine.Machine.act.Goals as goal

pub returns-clause-tells : goal.returns-clause-tells
returns-clause-tells g c = tell_acts (lists_of g.S.ClientSide.sight c.args.self.now) _ _ (leaves_same _ _ refl refl refl) c.args.act c.args.transaction c.in_ok-turn.turn c.in_ok-turn.ensures.goes c.requires.ordered.even c.called.ensures.own c.called.ensures.ended

pub returns-clause-out : goal.returns-clause-out
returns-clause-out g c = acts_out (g.S.ClientSide.waits c.args.self.now.clients) _ (lists_of g.S.ClientSide.sight c.args.self.now) _ _ c.args.act c.args.transaction c.in_ok-turn.turn c.in_ok-turn.ensures.goes c.in_ok-turn.ensures.waits c.called.ensures.posted refl c.requires.ordered

pub returns-clause-credits : goal.returns-clause-credits
returns-clause-credits g c = record {
  turn = c.in_ok-turn.turn;
  takes = subst (λ k. MayTakeIn c.args.act c.args.transaction k (g.S.ClientSide.account c.args.self.now.clients) (g.S.ClientSide.account c.act.new.self) c.in_ok-turn.turn) c.requires.ordered.even.stands c.in_ok-turn.ensures.accounts;
  own = c.called.ensures.outcome;
  ended = c.called.ensures.ended;
}

pub returns-clause-rests : goal.returns-clause-rests
returns-clause-rests g c = used_on g.S.ClientSide.fails (g.S.ClientSide.rests c.args.self.now.clients) (g.S.ClientSide.rests c.act.new.self) (lists_of g.S.ClientSide.sight c.args.self.now) (g.S.ClientSide.account c.args.self.now.clients) c.args.transaction c.args.act _ c.in_ok-turn.turn c.called.result c.requires.ordered.even.stands c.called.ensures.posted c.called.ensures.ended c.in_ok-turn.ensures.rests

pub returns-clause-arises : goal.returns-clause-arises
returns-clause-arises g c looks h knows w =
    let a = called_to (g.S.ClientSide.arises c.args.self.now.clients) (g.S.ClientSide.arises c.act.new.self) (g.S.ClientSide.holds c.args.self.now.clients) (g.S.ClientSide.holds c.act.new.self) c.called.result (λ n. record { at = c.args.transaction; commits = commits c.args.act }) c.in_ok-turn.turn c.called.ensures.posted c.called.ensures.ended c.in_ok-turn.ensures.arises h w in
    record { now = a.now; kept = a.kept; answers = a.answers; says = a.says }
