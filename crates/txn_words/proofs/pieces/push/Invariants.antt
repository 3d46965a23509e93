use Rattle.txn_words.specs.GoesOn.{GoesOn}
use Rattle.txn_words.proofs.pieces.push.Given as goal

abbrev pub invariant-loop-piece : goal.invariant-loop-piece
invariant-loop-piece l = GoesOn l.fn.out.items l.out.items
