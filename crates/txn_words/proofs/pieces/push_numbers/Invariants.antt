use Rattle.txn_words.specs.GoesOn.{GoesOn}
use Rattle.txn_words.proofs.pieces.push_numbers.Given as goal

abbrev pub invariant-loop-number : goal.invariant-loop-number
invariant-loop-number l = GoesOn l.fn.out.items l.out.items
