use Rattle.std.proofs.Common.{◌≡◌, ◌++◌, map}
use Rattle.txn_machine.specs.Told.{ending_at, view_of_ending}
use Rattle.txn_machine.proofs.machine.Machine.endings.Given as goal

abbrev pub invariant-loop-line : goal.invariant-loop-line
invariant-loop-line g l =
    map view_of_ending l.endings ++ map (λ line. ending_at l.self.outcomes.items line) l.line-iterator.rest.items ≡ map (λ line. ending_at l.self.outcomes.items line) l.initial.line-iterator.rest.items
