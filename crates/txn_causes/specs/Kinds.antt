-- Which replies are of a request's kind.
use Rattle.std.specs.Prelude.{◌≡◌}
use Rattle.txn_kv.specs.declared.reply.reads.BatchGetResponse.{BatchGetResponse}
use Rattle.txn_kv.specs.declared.reply.commits.BatchRollbackResponse.{BatchRollbackResponse}
use Rattle.txn_kv.specs.declared.reply.locks.CheckSecondaryLocksResponse.{CheckSecondaryLocksResponse}
use Rattle.txn_kv.specs.declared.reply.locks.CheckTxnStatusResponse.{CheckTxnStatusResponse}
use Rattle.txn_kv.specs.declared.reply.locks.CleanupResponse.{CleanupResponse}
use Rattle.txn_kv.specs.declared.reply.commits.CommitResponse.{CommitResponse}
use Rattle.txn_kv.specs.declared.reply.cluster.GetAllStoresResponse.{GetAllStoresResponse}
use Rattle.txn_kv.specs.declared.reply.cluster.GetRegionResponse.{GetRegionResponse}
use Rattle.txn_kv.specs.declared.reply.reads.GetResponse.{GetResponse}
use Rattle.txn_kv.specs.declared.reply.cluster.GetStoreResponse.{GetStoreResponse}
use Rattle.txn_kv.specs.declared.reply.cluster.MembersResponse.{MembersResponse}
use Rattle.txn_kv.specs.declared.reply.locks.PessimisticLockResponse.{PessimisticLockResponse}
use Rattle.txn_kv.specs.declared.reply.locks.PessimisticRollbackResponse.{PessimisticRollbackResponse}
use Rattle.txn_kv.specs.declared.reply.commits.PrewriteResponse.{PrewriteResponse}
use Rattle.txn_kv.specs.declared.reply.locks.ResolveLockResponse.{ResolveLockResponse}
use Rattle.txn_kv.specs.declared.reply.locks.ScanLockResponse.{ScanLockResponse}
use Rattle.txn_kv.specs.declared.reply.reads.ScanResponse.{ScanResponse}
use Rattle.txn_kv.specs.declared.reply.cluster.TsoResponse.{TsoResponse}
use Rattle.txn_kv.specs.declared.reply.commits.TxnHeartBeatResponse.{TxnHeartBeatResponse}
use Rattle.txn_kv.specs.declared.reply.cluster.UnsafeDestroyRangeResponse.{UnsafeDestroyRangeResponse}
use Rattle.txn_kv.specs.declared.reply.cluster.UpdateGcSafePointResponse.{UpdateGcSafePointResponse}
use Rattle.txn_kv.specs.declared.reply.Reply.{Reply}
use Rattle.txn_kv.specs.declared.reply.Reply.TheVariants as reply
use Rattle.txn_kv.specs.declared.request.Request.{Request}
use Rattle.txn_kv.specs.declared.request.Request.TheVariants as request

abbrev pub IsOfKind : Request → Reply → Type 0
IsOfKind (request.Get r) x = (o : GetResponse) × (x ≡ reply.Get o)
IsOfKind (request.BatchGet r) x = (o : BatchGetResponse) × (x ≡ reply.BatchGet o)
IsOfKind (request.Scan r) x = (o : ScanResponse) × (x ≡ reply.Scan o)
IsOfKind (request.Prewrite r) x = (o : PrewriteResponse) × (x ≡ reply.Prewrite o)
IsOfKind (request.Commit r) x = (o : CommitResponse) × (x ≡ reply.Commit o)
IsOfKind (request.Cleanup r) x = (o : CleanupResponse) × (x ≡ reply.Cleanup o)
IsOfKind (request.BatchRollback r) x = (o : BatchRollbackResponse) × (x ≡ reply.BatchRollback o)
IsOfKind (request.PessimisticRollback r) x = (o : PessimisticRollbackResponse) × (x ≡ reply.PessimisticRollback o)
IsOfKind (request.PessimisticLock r) x = (o : PessimisticLockResponse) × (x ≡ reply.PessimisticLock o)
IsOfKind (request.ResolveLock r) x = (o : ResolveLockResponse) × (x ≡ reply.ResolveLock o)
IsOfKind (request.ScanLock r) x = (o : ScanLockResponse) × (x ≡ reply.ScanLock o)
IsOfKind (request.TxnHeartBeat r) x = (o : TxnHeartBeatResponse) × (x ≡ reply.TxnHeartBeat o)
IsOfKind (request.CheckTxnStatus r) x = (o : CheckTxnStatusResponse) × (x ≡ reply.CheckTxnStatus o)
IsOfKind (request.CheckSecondaryLocks r) x = (o : CheckSecondaryLocksResponse) × (x ≡ reply.CheckSecondaryLocks o)
IsOfKind (request.UnsafeDestroyRange r) x = (o : UnsafeDestroyRangeResponse) × (x ≡ reply.UnsafeDestroyRange o)
IsOfKind (request.GetRegion r) x = (o : GetRegionResponse) × (x ≡ reply.GetRegion o)
IsOfKind (request.GetRegionById r) x = (o : GetRegionResponse) × (x ≡ reply.GetRegionById o)
IsOfKind (request.GetStore r) x = (o : GetStoreResponse) × (x ≡ reply.GetStore o)
IsOfKind (request.GetAllStores r) x = (o : GetAllStoresResponse) × (x ≡ reply.GetAllStores o)
IsOfKind (request.UpdateGcSafePoint r) x = (o : UpdateGcSafePointResponse) × (x ≡ reply.UpdateGcSafePoint o)
IsOfKind (request.Tso r) x = (o : TsoResponse) × (x ≡ reply.Tso o)
IsOfKind (request.Members r) x = (o : MembersResponse) × (x ≡ reply.Members o)
