use Rattle.txn_words.specs.GoesOn.{GoesOn}
use Rattle.txn_picture.proofs.lifelines.push_servers.Given as goal

abbrev pub invariant-loop-store : goal.invariant-loop-store
invariant-loop-store l = GoesOn l.fn.out.items l.out.items
