use Rattle.std.proofs.Common.{◌≡◌, drop}
use Rattle.txn_lines.specs.Reading.{digits_after}
use Rattle.txn_lines.proofs.fields.digits.Given as goal

abbrev pub invariant-loop-byte : goal.invariant-loop-byte
invariant-loop-byte l = digits_after l.n (drop l.byte-index l.word) ≡ digits_after 0 l.word
