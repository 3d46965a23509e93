use Rattle.txn_words.specs.GoesOn.{GoesOn}
use Rattle.txn_words.proofs.pieces.push_quoted.Given as goal

abbrev pub invariant-loop-byte : goal.invariant-loop-byte
invariant-loop-byte l = GoesOn l.fn.out.items l.out.items
