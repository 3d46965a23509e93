use Rattle.std.proofs.Common.{◌≡◌, ◌*◌, drop}
use Rattle.txn_lines.specs.Reading.{pairs_in}
use Rattle.txn_lines.proofs.Pairs.{with_front}
use Rattle.txn_lines.proofs.fields.pairs_in.Given as goal

abbrev pub invariant-loop-i : goal.invariant-loop-i
invariant-loop-i l = with_front l.bytes.items (pairs_in (drop (2 * l.i) l.hex)) ≡ pairs_in l.hex
