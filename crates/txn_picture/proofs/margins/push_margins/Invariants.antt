use Rattle.txn_words.specs.GoesOn.{GoesOn}
use Rattle.txn_picture.proofs.margins.push_margins.Given as goal

abbrev pub invariant-loop-line : goal.invariant-loop-line
invariant-loop-line l = GoesOn l.fn.out.items l.out.items
