use Rattle.txn_words.specs.GoesOn.{GoesOn}
use Rattle.txn_words.proofs.pieces.push_mutated.Given as goal

abbrev pub invariant-loop-mutation : goal.invariant-loop-mutation
invariant-loop-mutation l = GoesOn l.fn.out.items l.out.items
