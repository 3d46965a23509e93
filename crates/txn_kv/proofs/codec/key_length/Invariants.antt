use Rattle.std.proofs.Common.{◌≡◌, ◌+◌, length}
use Rattle.txn_kv.specs.Codec.{key_length}
use Rattle.txn_kv.proofs.codec.key_length.Given as goal

abbrev pub invariant-loop-rest : goal.invariant-loop-rest
invariant-loop-rest l = record {
  place : l.at + length l.rest ≡ length l.fn.bytes;
  length : key_length l.at l.rest ≡ key_length 0 l.fn.bytes;
}

abbrev pub decreases-loop-rest : goal.decreases-loop-rest
decreases-loop-rest l = length l.rest
