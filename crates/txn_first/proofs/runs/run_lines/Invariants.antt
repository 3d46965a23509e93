use Rattle.txn_first.proofs.Machines.{RunsOn}
use Rattle.txn_first.proofs.runs.run_lines.Given as goal

abbrev pub invariant-loop-line : goal.invariant-loop-line
invariant-loop-line l = RunsOn l.machine l.fn.lines.items l.line-iterator.rest.items
