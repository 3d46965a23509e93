-- What replies hold, joined in their order.
use Rattle.std.specs.Prelude.{List, map}
use Rattle.std.specs.List.{flat_map}
use Rattle.txn_kv.specs.declared.kvpair.KvPair.{KvPair}
use Rattle.txn_kv.specs.declared.message.PbPair.{PbPair}
use Rattle.txn_kv.specs.declared.message.LockInfo.{LockInfo}
use Rattle.txn_kv.specs.declared.reply.reads.BatchGetResponse.{BatchGetResponse}
use Rattle.txn_kv.specs.declared.reply.reads.ScanResponse.{ScanResponse}
use Rattle.txn_kv.specs.declared.reply.locks.ScanLockResponse.{ScanLockResponse}

-- a pair as a reply has it, without its error
abbrev pub pair_of : PbPair → KvPair
pair_of pair = record { 0 = pair.key; 1 = pair.value }

abbrev pub pairs_of_gets : List BatchGetResponse → List KvPair
pairs_of_gets = flat_map (λ reply. map pair_of reply.pairs)

abbrev pub pairs_of_scans : List ScanResponse → List KvPair
pairs_of_scans = flat_map (λ reply. map pair_of reply.pairs)

abbrev pub locks_of_scans : List ScanLockResponse → List LockInfo
locks_of_scans = flat_map (λ reply. reply.locks)
