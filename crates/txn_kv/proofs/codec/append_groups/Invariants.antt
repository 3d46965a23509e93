use Rattle.std.proofs.Common.{◌≡◌, ◌++◌, length, take, vec_len}
use Rattle.txn_kv.specs.Codec.{encoded}
use Rattle.txn_kv.proofs.codec.append_groups.Given as goal

abbrev pub invariant-loop-rest : goal.invariant-loop-rest
invariant-loop-rest l = record {
  start : take (vec_len l.fn.bytes) l.bytes.items ≡ l.fn.bytes.items;
  encoding : l.bytes.items ++ encoded l.rest ≡ l.fn.bytes.items ++ encoded l.fn.key;
}

abbrev pub decreases-loop-rest : goal.decreases-loop-rest
decreases-loop-rest l = length l.rest
