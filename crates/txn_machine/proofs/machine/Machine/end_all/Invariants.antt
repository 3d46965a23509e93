use Rattle.std.proofs.Common.{◌≡◌, ◌++◌, map}
use Rattle.txn_side.specs.declared.turn.Ending.{Ending}
use Rattle.txn_machine.specs.Lists.{all_ended}
use Rattle.txn_machine.specs.Running.{lists_of}
use Rattle.txn_machine.proofs.machine.Machine.end_all.Given as goal

abbrev pub invariant-loop-ending : goal.invariant-loop-ending
invariant-loop-ending g l = record {
  lists : all_ended l.ending-iterator.rest.items (lists_of g.S.ClientSide.sight l.self) ≡ all_ended l.initial.ending-iterator.rest.items (lists_of g.S.ClientSide.sight l.fn.self);
  clients : l.self.clients ≡ l.fn.self.clients;
  lines : l.lines.items ++ map (λ (e : Ending). e.line) l.ending-iterator.rest.items ≡ map (λ (e : Ending). e.line) l.initial.ending-iterator.rest.items;
}
