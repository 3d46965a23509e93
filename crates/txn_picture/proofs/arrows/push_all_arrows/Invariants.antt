use Rattle.txn_words.specs.GoesOn.{GoesOn}
use Rattle.txn_picture.proofs.arrows.push_all_arrows.Given as goal

abbrev pub invariant-loop-note : goal.invariant-loop-note
invariant-loop-note l = GoesOn l.fn.out.items l.out.items
