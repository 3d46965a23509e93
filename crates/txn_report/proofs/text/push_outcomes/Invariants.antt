use Rattle.std.proofs.Common.{◌≡◌, ◌+◌, ◌++◌, drop}
use Rattle.txn_report.specs.Text.{text_of_outcomes}
use Rattle.txn_report.proofs.text.push_outcomes.Given as goal

abbrev pub invariant-loop-i : goal.invariant-loop-i
invariant-loop-i l = l.out.items ++ text_of_outcomes (l.i + 1) (drop l.i l.outcomes) ≡ l.fn.out.items ++ text_of_outcomes 1 l.outcomes
