use Rattle.std.proofs.Common.{◌≡◌}
use Rattle.txn_machine.specs.Running.{lists_of, outs_until}
use Rattle.txn_machine.proofs.machine.Machine.outs.Given as goal

abbrev pub invariant-loop-line : goal.invariant-loop-line
invariant-loop-line g l = l.outs.items ≡ outs_until (lists_of g.S.ClientSide.sight l.self) l.line
