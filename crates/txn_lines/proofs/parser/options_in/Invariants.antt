use Rattle.std.proofs.Common.{◌≡◌, length}
use Rattle.txn_lines.specs.Reading.{options_after, no_options}
use Rattle.txn_lines.proofs.parser.options_in.Given as goal

abbrev pub invariant-loop-rest : goal.invariant-loop-rest
invariant-loop-rest l = options_after l.options l.rest ≡ options_after no_options l.fn.words

abbrev pub decreases-loop-rest : goal.decreases-loop-rest
decreases-loop-rest l = length l.rest
