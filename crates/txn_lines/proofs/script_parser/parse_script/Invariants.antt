use Rattle.std.proofs.Common.{◌≡◌, ◌+◌, ◌≤◌, length, reverse}
use Rattle.txn_lines.specs.Kinds.{kinds_of}
use Rattle.txn_lines.proofs.ScriptLaws.{ReadSoFar}
use Rattle.txn_lines.proofs.script_parser.parse_script.Given as goal

abbrev pub invariant-loop-rest : goal.invariant-loop-rest
invariant-loop-rest l = record {
  kinds : l.kinds ≡ kinds_of (reverse l.lines);
  read : ReadSoFar l.bytes l.rest l.lines;
  count : length l.lines + length l.rest ≤ length l.bytes;
}

abbrev pub decreases-loop-rest : goal.decreases-loop-rest
decreases-loop-rest l = length l.rest
