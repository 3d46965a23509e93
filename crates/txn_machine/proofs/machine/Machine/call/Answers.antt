use Rattle.std.proofs.Common.{refl}
use Rattle.txn_lines.specs.Deeds.{begins}
use Rattle.txn_side.specs.Doubt.{itself}
use Rattle.txn_machine.specs.Running.{lists_of}
use Rattle.txn_machine.proofs.Staying.{asks_out}
use Rattle.txn_machine.proofs.Telling.{leaves_same, tell_asks}
use Rattle.txn_machine.proofs.Arising.{called_to}
use Rattle.txn_machine.proofs.machine.Machine.call.Goals as goal

pub returns-clause-tells : goal.returns-clause-tells
returns-clause-tells g c = tell_asks (lists_of g.S.ClientSide.sight c.args.self.now) _ _ (leaves_same _ _ refl refl refl) (begins c.args.act) c.args.client c.in_ok-turn.turn c.in_ok-turn.ensures.goes c.requires.ordered.even c.called.ensures.own c.called.ensures.ended

pub returns-clause-out : goal.returns-clause-out
returns-clause-out g c = asks_out (g.S.ClientSide.waits c.args.self.now.clients) _ (lists_of g.S.ClientSide.sight c.args.self.now) _ _ (begins c.args.act) c.args.client c.in_ok-turn.turn c.in_ok-turn.ensures.goes c.in_ok-turn.ensures.waits c.called.ensures.posted refl c.requires.ordered

pub returns-clause-arises : goal.returns-clause-arises
returns-clause-arises g c looks h knows w =
    let a = called_to (g.S.ClientSide.arises c.args.self.now.clients) (g.S.ClientSide.arises c.call.new.self) (g.S.ClientSide.holds c.args.self.now.clients) (g.S.ClientSide.holds c.call.new.self) c.called.result itself c.in_ok-turn.turn c.called.ensures.posted c.called.ensures.ended c.in_ok-turn.ensures.arises h w in
    record { now = a.now; kept = a.kept; answers = a.answers; says = λ k d low. tt }
