-- A query to the placement driver: its request, what a reply says to it, and how its failures are named.
use Rattle.std.specs.Prelude.{◌≡◌, ◌≢◌, ℕ, ◌-◌, ◌&&◌, not, nat_lt, Bool, Option, Some, None}
use Rattle.txn_kv.specs.declared.errors.Error.{Error}
use Rattle.txn_kv.specs.declared.errors.Error.TheVariants.{InternalError, RegionForKeyNotFound, RegionNotFoundInResponse}
use Rattle.txn_kv.specs.declared.errors.Internal.TheVariants.{WrongReply}
use Rattle.txn_kv.specs.declared.query.PdAnswer.{PdAnswer}
use Rattle.txn_kv.specs.declared.query.PdAnswer.TheVariants as answer
use Rattle.txn_kv.specs.declared.query.PdQuery.{PdQuery}
use Rattle.txn_kv.specs.declared.query.PdQuery.TheVariants.{Region, RegionId, Store, Stores, Time, Safepoint}
use Rattle.txn_kv.specs.declared.region.RegionWithLeader.{RegionWithLeader}
use Rattle.txn_kv.specs.declared.reply.cluster.GetAllStoresResponse.{GetAllStoresResponse}
use Rattle.txn_kv.specs.declared.reply.cluster.GetRegionResponse.{GetRegionResponse}
use Rattle.txn_kv.specs.declared.reply.cluster.GetStoreResponse.{GetStoreResponse}
use Rattle.txn_kv.specs.declared.reply.Reply.{Reply}
use Rattle.txn_kv.specs.declared.reply.Reply.TheVariants as reply
use Rattle.txn_kv.specs.declared.reply.cluster.UpdateGcSafePointResponse.{UpdateGcSafePointResponse}
use Rattle.txn_kv.specs.declared.request.Request.{Request}
use Rattle.txn_kv.specs.declared.request.Request.TheVariants.{GetRegion, GetRegionById, GetStore, GetAllStores, UpdateGcSafePoint}
use Rattle.txn_tso.specs.declared.pd_call.PdCall.{PdCall}
use Rattle.txn_tso.specs.declared.reading.Reading.{Reading}
use Rattle.txn_tso.specs.declared.reading.Reading.TheVariants.{Answer, Nothing, Unlike}
use Rattle.txn_tso.specs.declared.retry_client.RetryClient.{RetryClient}
use Rattle.txn_tso.specs.declared.stage.Stage.TheVariants.{Fresh}

-- a call that is not started yet
abbrev pub fresh : PdQuery → PdCall
fresh q = record { query = q; failed = 0; stage = Fresh }

-- More than a second has passed since the last connection, and no call waits for the members. Where the clock stands before
-- that connection, no time has passed.
abbrev pub may_connect : RetryClient → ℕ → Bool
may_connect c now = not c.connecting && nat_lt 1000 (now - c.last_connected)

-- a timestamp has no request of its own
abbrev pub request_of : PdQuery → Option Request
request_of (Region key) = Some (GetRegion (record { region_key = key }))
request_of (RegionId id) = Some (GetRegionById (record { region_id = id }))
request_of (Store id) = Some (GetStore (record { store_id = id }))
request_of Stores = Some (GetAllStores (record {}))
request_of Time = None
request_of (Safepoint at) = Some (UpdateGcSafePoint (record { safe_point = at }))

-- how an answer without region is named
abbrev pub not_found : PdQuery → Error
not_found (Region key) = RegionForKeyNotFound key
not_found (RegionId id) = RegionNotFoundInResponse id
not_found _ = InternalError WrongReply

-- the region and the leader that were told
abbrev pub IsToldRegion : GetRegionResponse → PdAnswer → Type 0
IsToldRegion o a = (r : RegionWithLeader) × (a ≡ answer.Region r) × (o.region ≡ Some r.region) × (r.leader ≡ o.leader)

-- the stores that were told
abbrev pub IsStores : GetAllStoresResponse → PdAnswer → Type 0
IsStores o (answer.Stores all) = all.items ≡ o.stores
IsStores o _ = ⊥

-- the answer is what the reply holds, and the reply is of the query's kind
abbrev pub Answers : PdQuery → Reply → PdAnswer → Type 0
Answers (Region key) x a = (o : GetRegionResponse) × (x ≡ reply.GetRegion o) × IsToldRegion o a
Answers (RegionId id) x a = (o : GetRegionResponse) × (x ≡ reply.GetRegionById o) × IsToldRegion o a
Answers (Store id) x a = (o : GetStoreResponse) × (x ≡ reply.GetStore o) × (a ≡ answer.Store o.store)
Answers Stores x a = (o : GetAllStoresResponse) × (x ≡ reply.GetAllStores o) × IsStores o a
Answers Time x a = ⊥
Answers (Safepoint at) x a = (o : UpdateGcSafePointResponse) × (x ≡ reply.UpdateGcSafePoint o) × (a ≡ answer.Safepoint o.new_safe_point)

-- the reply is of the query's kind, and holds no region
abbrev pub HasNoRegion : PdQuery → Reply → Type 0
HasNoRegion (Region key) x = (o : GetRegionResponse) × (x ≡ reply.GetRegion o) × (o.region ≡ None)
HasNoRegion (RegionId id) x = (o : GetRegionResponse) × (x ≡ reply.GetRegionById o) × (o.region ≡ None)
HasNoRegion _ x = ⊥

-- the reply is of another kind; none is of a timestamp's
abbrev pub IsOfOtherKind : PdQuery → Reply → Type 0
IsOfOtherKind (Region key) x = (o : GetRegionResponse) → x ≢ reply.GetRegion o
IsOfOtherKind (RegionId id) x = (o : GetRegionResponse) → x ≢ reply.GetRegionById o
IsOfOtherKind (Store id) x = (o : GetStoreResponse) → x ≢ reply.GetStore o
IsOfOtherKind Stores x = (o : GetAllStoresResponse) → x ≢ reply.GetAllStores o
IsOfOtherKind Time x = Unit {0}
IsOfOtherKind (Safepoint at) x = (o : UpdateGcSafePointResponse) → x ≢ reply.UpdateGcSafePoint o

abbrev pub IsRegionRead : GetRegionResponse → Reading → Type 0
IsRegionRead o (Answer a) = IsToldRegion o a
IsRegionRead o Nothing = o.region ≡ None
IsRegionRead o Unlike = ⊥

abbrev pub IsRead : PdQuery → Reply → Reading → Type 0
IsRead q x (Answer a) = Answers q x a
IsRead q x Nothing = HasNoRegion q x
IsRead q x Unlike = IsOfOtherKind q x
