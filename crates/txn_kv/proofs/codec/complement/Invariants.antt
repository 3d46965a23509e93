use Rattle.std.proofs.Common.{◌≡◌, ◌++◌, take, drop}
use Rattle.txn_kv.specs.Codec.{complemented}
use Rattle.txn_kv.proofs.codec.complement.Given as goal

abbrev pub invariant-loop-byte : goal.invariant-loop-byte
invariant-loop-byte l =
    l.bytes ≡ complemented (take l.byte-index l.initial.bytes) ++ drop l.byte-index l.initial.bytes
