use Rattle.txn_words.specs.GoesOn.{GoesOn}
use Rattle.txn_picture.proofs.lifelines.push_lives.Given as goal

abbrev pub invariant-loop-life : goal.invariant-loop-life
invariant-loop-life l = GoesOn l.fn.out.items l.out.items
