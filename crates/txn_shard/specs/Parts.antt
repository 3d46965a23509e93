-- A request for a part of what another one asks for: alike but for its context, with some of the keys or a part of the range.
use Rattle.std.proofs.Common.{◌≡◌, ◌≢◌, Bool, true, false, List, []}
use Rattle.std.specs.Prelude.{Option, Some, Ok}
use Rattle.txn_history.specs.Among.{IsAmong}
use Rattle.txn_history.specs.Plan.{AreDistinct}
use Rattle.txn_kv.specs.Region.{context_of}
use Rattle.txn_kv.specs.Request.{keeping_version}
use Rattle.txn_kv.specs.declared.message.Context.{Context}
use Rattle.txn_kv.specs.declared.request.reads.BatchGetRequest.{BatchGetRequest}
use Rattle.txn_kv.specs.declared.request.commits.BatchRollbackRequest.{BatchRollbackRequest}
use Rattle.txn_kv.specs.declared.request.locks.CheckSecondaryLocksRequest.{CheckSecondaryLocksRequest}
use Rattle.txn_kv.specs.declared.request.locks.CheckTxnStatusRequest.{CheckTxnStatusRequest}
use Rattle.txn_kv.specs.declared.request.locks.CleanupRequest.{CleanupRequest}
use Rattle.txn_kv.specs.declared.request.commits.CommitRequest.{CommitRequest}
use Rattle.txn_kv.specs.declared.request.reads.GetRequest.{GetRequest}
use Rattle.txn_kv.specs.declared.request.locks.PessimisticLockRequest.{PessimisticLockRequest}
use Rattle.txn_kv.specs.declared.request.locks.PessimisticRollbackRequest.{PessimisticRollbackRequest}
use Rattle.txn_kv.specs.declared.request.commits.PrewriteRequest.{PrewriteRequest}
use Rattle.txn_kv.specs.declared.request.locks.ScanLockRequest.{ScanLockRequest}
use Rattle.txn_kv.specs.declared.request.reads.ScanRequest.{ScanRequest}
use Rattle.txn_kv.specs.declared.request.commits.TxnHeartBeatRequest.{TxnHeartBeatRequest}
use Rattle.txn_region.specs.Regions.{Key}
use Rattle.txn_region.specs.declared.store.RegionStore.{RegionStore}
use Rattle.txn_shard.specs.Shards.{Range, holds}

-- the context of a request becomes that of the store's region, and keeps the api version that stood
abbrev pub IsPlaced : RegionStore → Option Context → Option Context → Type 0
IsPlaced store old new = (context : Context) × (context_of store.region_with_leader ≡ Ok context) × (new ≡ Some (keeping_version old context))

abbrev pub AreAmong : {X : Type 0} → List X → List X → Type 0
AreAmong {X} xs ys = (x : X) → IsAmong xs x → IsAmong ys x

-- there is some in the first, where there is some in the second
abbrev pub HasSome : {X : Type 0} → List X → List X → Type 0
HasSome xs ys = ys ≢ [] → xs ≢ []

abbrev pub IsWithin : Range → Range → Type 0
IsWithin a b = (key : Key) → holds a key ≡ true → holds b key ≡ true

-- the lower and the upper bound of a scan
abbrev pub range_by : Bool → Key → Key → Range
range_by true start end = (end, start)
range_by false start end = (start, end)

abbrev pub scan_range : ScanRequest → Range
scan_range r = range_by r.reverse r.start_key r.end_key

abbrev pub lock_range : ScanLockRequest → Range
lock_range r = (r.start_key, r.end_key)

-- One key

abbrev pub GetPart : GetRequest → GetRequest → Type 0
GetPart p w = p ≡ record w { context = p.context }

abbrev pub CleanupPart : CleanupRequest → CleanupRequest → Type 0
CleanupPart p w = p ≡ record w { context = p.context }

abbrev pub TxnHeartBeatPart : TxnHeartBeatRequest → TxnHeartBeatRequest → Type 0
TxnHeartBeatPart p w = p ≡ record w { context = p.context }

abbrev pub CheckTxnStatusPart : CheckTxnStatusRequest → CheckTxnStatusRequest → Type 0
CheckTxnStatusPart p w = p ≡ record w { context = p.context }

-- Keys

abbrev pub BatchGetPart : BatchGetRequest → BatchGetRequest → Type 0
BatchGetPart p w = (p ≡ record w { context = p.context; keys = p.keys }) × AreAmong p.keys w.keys

abbrev pub BatchRollbackPart : BatchRollbackRequest → BatchRollbackRequest → Type 0
BatchRollbackPart p w = (p ≡ record w { context = p.context; keys = p.keys }) × AreAmong p.keys w.keys

abbrev pub PessimisticRollbackPart : PessimisticRollbackRequest → PessimisticRollbackRequest → Type 0
PessimisticRollbackPart p w = (p ≡ record w { context = p.context; keys = p.keys }) × AreAmong p.keys w.keys

abbrev pub CheckSecondaryLocksPart : CheckSecondaryLocksRequest → CheckSecondaryLocksRequest → Type 0
CheckSecondaryLocksPart p w = (p ≡ record w { context = p.context; keys = p.keys }) × AreAmong p.keys w.keys

-- which names some key, where the other one does
abbrev pub CommitPart : CommitRequest → CommitRequest → Type 0
CommitPart p w = (p ≡ record w { context = p.context; keys = p.keys }) × AreAmong p.keys w.keys × HasSome p.keys w.keys

-- Mutations

-- in which no key comes twice, where none does in the other one
abbrev pub PrewritePart : PrewriteRequest → PrewriteRequest → Type 0
PrewritePart p w = (p ≡ record w { context = p.context; mutations = p.mutations }) × AreAmong p.mutations w.mutations × (AreDistinct w.mutations → AreDistinct p.mutations)

abbrev pub PessimisticLockPart : PessimisticLockRequest → PessimisticLockRequest → Type 0
PessimisticLockPart p w = (p ≡ record w { context = p.context; mutations = p.mutations }) × AreAmong p.mutations w.mutations

-- Ranges

abbrev pub ScanPart : ScanRequest → ScanRequest → Type 0
ScanPart p w = (p ≡ record w { context = p.context; start_key = p.start_key; end_key = p.end_key }) × IsWithin (scan_range p) (scan_range w)

abbrev pub ScanLockPart : ScanLockRequest → ScanLockRequest → Type 0
ScanLockPart p w = (p ≡ record w { context = p.context; start_key = p.start_key; end_key = p.end_key }) × IsWithin (lock_range p) (lock_range w)
