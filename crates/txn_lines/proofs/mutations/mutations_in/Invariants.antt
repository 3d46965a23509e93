use Rattle.std.proofs.Common.{◌≡◌, [], length}
use Rattle.txn_lines.specs.Reading.{mutations_after}
use Rattle.txn_lines.proofs.mutations.mutations_in.Given as goal

abbrev pub invariant-loop-rest : goal.invariant-loop-rest
invariant-loop-rest l = mutations_after l.mutations l.rest ≡ mutations_after [] l.fn.words

abbrev pub decreases-loop-rest : goal.decreases-loop-rest
decreases-loop-rest l = length l.rest
