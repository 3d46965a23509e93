use Rattle.std.proofs.Common.{◌≡◌, [], length}
use Rattle.txn_lines.specs.Reading.{keys_after}
use Rattle.txn_lines.proofs.parser.keys_in.Given as goal

abbrev pub invariant-loop-rest : goal.invariant-loop-rest
invariant-loop-rest l = keys_after l.keys l.rest ≡ keys_after [] l.fn.words

abbrev pub decreases-loop-rest : goal.decreases-loop-rest
decreases-loop-rest l = length l.rest
