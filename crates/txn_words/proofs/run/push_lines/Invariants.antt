use Rattle.txn_words.specs.GoesOn.{GoesOn}
use Rattle.txn_words.proofs.run.push_lines.Given as goal

abbrev pub invariant-loop-i : goal.invariant-loop-i
invariant-loop-i l = GoesOn l.fn.out.items l.out.items
