use Rattle.std.proofs.Common.{refl}
use Rattle.txn_machine.specs.Running.{lists_of}
use Rattle.txn_side.specs.Waiting.{NoneHeard}
use Rattle.txn_machine.proofs.Outs.{stays_same}
use Rattle.txn_machine.proofs.Staying.{quiet_out}
use Rattle.txn_lines.specs.declared.deed.Deed.TheVariants.{Happens}
use Rattle.txn_lines.specs.declared.happening.Happening.TheVariants.{Crash}
use Rattle.txn_machine.proofs.Arising.{crash_comes, outside_to}
use Rattle.txn_machine.proofs.machine.Machine.crash.Goals as goal

pub returns-clause-out : goal.returns-clause-out
returns-clause-out g c = quiet_out (g.S.ClientSide.waits c.args.self.now.clients) _ (lists_of g.S.ClientSide.sight c.args.self.now) _ c.happened.result NoneHeard c.crash-done.ensures.gone.waits (stays_same NoneHeard c.args.self.now.post c.args.self.now.post refl) c.happened.ensures.nothing

pub returns-clause-arises : goal.returns-clause-arises
returns-clause-arises g c =
    outside_to (g.S.ClientSide.arises c.args.self.now.clients) (g.S.ClientSide.arises c.crash-done.new.self) (g.S.ClientSide.holds c.args.self.now.clients) (g.S.ClientSide.holds c.crash-done.new.self) (Happens (Crash c.args.client)) (lists_of g.S.ClientSide.sight c.args.self.now) c.happened.result c.happened.ensures.nothing c.happened.ensures.ended
    c.crash-done.ensures.gone.arises (λ h e. g.S.ClientSide.arises_longer c.crash-done.new.self h e) (λ looks h knows. crash_comes (lists_of g.S.ClientSide.sight c.args.self.now) looks h c.args.client)
