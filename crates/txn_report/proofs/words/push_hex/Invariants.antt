use Rattle.std.proofs.Common.{◌≡◌, ◌++◌, drop}
use Rattle.txn_kv.specs.Spelling.{hex}
use Rattle.txn_report.proofs.words.push_hex.Given as goal

abbrev pub invariant-loop-byte : goal.invariant-loop-byte
invariant-loop-byte l = l.out.items ++ hex (drop l.byte-index l.bytes) ≡ l.fn.out.items ++ hex l.bytes
