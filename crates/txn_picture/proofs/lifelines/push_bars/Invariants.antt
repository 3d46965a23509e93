use Rattle.txn_words.specs.GoesOn.{GoesOn}
use Rattle.txn_picture.proofs.lifelines.push_bars.Given as goal

abbrev pub invariant-loop-line : goal.invariant-loop-line
invariant-loop-line l = GoesOn l.fn.out.items l.out.items
