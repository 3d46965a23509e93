use Rattle.std.proofs.Common.{refl}
use Rattle.txn_machine.specs.Running.{lists_of}
use Rattle.txn_machine.proofs.Staying.{rest_out}
use Rattle.txn_lines.specs.declared.deed.Deed.TheVariants.{Happens}
use Rattle.txn_lines.specs.declared.happening.Happening.TheVariants.{Clock}
use Rattle.txn_machine.proofs.Arising.{arises_same, clock_comes, outside_to}
use Rattle.txn_machine.proofs.machine.Machine.set_clock.Goals as goal

pub returns-clause-out : goal.returns-clause-out
returns-clause-out g c = rest_out (g.S.ClientSide.waits c.args.self.now.clients) (lists_of g.S.ClientSide.sight c.args.self.now) _ c.happened.result refl refl c.happened.ensures.nothing

pub returns-clause-arises : goal.returns-clause-arises
returns-clause-arises g c =
    outside_to (g.S.ClientSide.arises c.args.self.now.clients) (g.S.ClientSide.arises c.args.self.now.clients) (g.S.ClientSide.holds c.args.self.now.clients) (g.S.ClientSide.holds c.args.self.now.clients) (Happens (Clock c.args.ms)) (lists_of g.S.ClientSide.sight c.args.self.now) c.happened.result c.happened.ensures.nothing c.happened.ensures.ended
    (arises_same (g.S.ClientSide.arises c.args.self.now.clients) (g.S.ClientSide.holds c.args.self.now.clients)) (λ h e. g.S.ClientSide.arises_longer c.args.self.now.clients h e) (λ looks h knows. clock_comes (lists_of g.S.ClientSide.sight c.args.self.now) looks h c.args.ms)
