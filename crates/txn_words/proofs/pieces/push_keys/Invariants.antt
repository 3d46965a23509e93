use Rattle.txn_words.specs.GoesOn.{GoesOn}
use Rattle.txn_words.proofs.pieces.push_keys.Given as goal

abbrev pub invariant-loop-key : goal.invariant-loop-key
invariant-loop-key l = GoesOn l.fn.out.items l.out.items
