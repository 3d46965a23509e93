-- What a run was before some of its events.
use Rattle.txn_model.specs.Ranges.{in_range}
use Rattle.txn_history.specs.Plan.{Key, has_key}
use Rattle.txn_history.specs.Among.{IsAmong}
use Rattle.std.specs.declared.cmp.Ordering.TheVariants.{Less}
use Rattle.txn_kv.specs.declared.message.LockInfo.{LockInfo}
use Rattle.txn_kv.specs.declared.message.TxnInfo.{TxnInfo}
use Rattle.txn_kv.specs.declared.ticket.Ticket.{Ticket}
use Rattle.txn_kv.specs.declared.request.Request.TheVariants.{Prewrite, PessimisticLock, PessimisticRollback, ResolveLock, ScanLock}
use Rattle.txn_kv.specs.declared.request.locks.PessimisticLockRequest.{PessimisticLockRequest}
use Rattle.txn_kv.specs.declared.request.locks.PessimisticRollbackRequest.{PessimisticRollbackRequest}
use Rattle.txn_kv.specs.declared.request.commits.PrewriteRequest.{PrewriteRequest}
use Rattle.txn_kv.specs.declared.request.locks.ResolveLockRequest.{ResolveLockRequest}
use Rattle.txn_kv.specs.declared.reply.Reply.{Reply}
use Rattle.txn_kv.specs.declared.reply.Reply.TheVariants as reply
use Rattle.txn_kv.specs.declared.reply.locks.PessimisticRollbackResponse.{PessimisticRollbackResponse}
use Rattle.txn_kv.specs.declared.reply.locks.ResolveLockResponse.{ResolveLockResponse}
use Rattle.txn_kv.specs.declared.reply.locks.ScanLockResponse.{ScanLockResponse}
use Rattle.txn_kv.specs.declared.request.locks.ScanLockRequest.{ScanLockRequest}
use Rattle.std.specs.Prelude.{◌≡◌, ◌⊎◌, ℕ, true, List, [], ◌∷◌, Some, ◌<◌, ◌≤◌, None, length}
use Rattle.txn_history.specs.Event.{Event, Has}
use Rattle.txn_history.specs.Event.Event.{Served}
use Rattle.txn_history.specs.Licence.{IsWithoutError, settled_starts}
use Rattle.txn_model.specs.declared.cell.Cell.{Cell}
use Rattle.txn_model.specs.declared.cell.Lock.{Lock}
use Rattle.txn_model.specs.Cells.{key_cmp}
use Rattle.txn_model.specs.Locks.{is_prewrite}
use Rattle.txn_model.specs.Prewrite.{mutation_keys}
use Rattle.txn_model.specs.Resolve.{is_in_context}
use Rattle.txn_law.specs.Run.{store_after}

-- the second is the first, or what it was before its newest events
abbrev pub IsPart : List Event → List Event → Type 0
IsPart [] part = part ≡ []
IsPart (e ∷ es) part = (part ≡ (e ∷ es)) ⊎ IsPart es part

-- a prewrite lock of s stands
pub record IsLockedBy (c : Cell) (s : ℕ) : Type 0 where
  pub lock : Lock
  pub here : c.lock ≡ Some lock
  pub start : lock.start ≡ s
  pub prewrite : is_prewrite lock.kind ≡ true

-- the event came in the first after the second
abbrev pub CameSince : List Event → List Event → Event → Type 0
CameSince es part e = (before : List Event) × IsPart es (e ∷ before) × IsPart before part

-- no Prewrite of s was served in the first after the second
abbrev pub NonePrewrittenSince : List Event → List Event → ℕ → Type 0
NonePrewrittenSince es part s = (t : Ticket) (r : PrewriteRequest) (o : Reply) → CameSince es part (Served t (Prewrite r) o) → r.start_version ≡ s → ⊥

-- it sets a pessimistic lock of s at the key, if it passes
abbrev pub LocksForUpdate : PessimisticLockRequest → ℕ → Key → Type 0
LocksForUpdate q s k = (q.start_version ≡ s) × (has_key (mutation_keys q.mutations) k ≡ true)

-- A PessimisticRollback of s gave the key back: after the last PessimisticLock of s that names it was served, and for a
-- for-update timestamp that is not below that of any.
pub record WasGivenBack (es : List Event) (s : ℕ) (k : Key) : Type 0 where
  pub ticket : Ticket
  pub request : PessimisticRollbackRequest
  pub response : PessimisticRollbackResponse
  pub before : List Event
  pub served : IsPart es (Served ticket (PessimisticRollback request) (reply.PessimisticRollback response) ∷ before)
  pub fine : IsWithoutError (reply.PessimisticRollback response)
  pub start : request.start_version ≡ s
  pub key : has_key request.keys k ≡ true
  pub earlier : (t : Ticket) (q : PessimisticLockRequest) (o : Reply) → Has before (Served t (PessimisticLock q) o) → LocksForUpdate q s k → q.for_update_ts ≤ request.for_update_ts
  pub later : (t : Ticket) (q : PessimisticLockRequest) (o : Reply) → CameSince es (Served ticket (PessimisticRollback request) (reply.PessimisticRollback response) ∷ before) (Served t (PessimisticLock q) o) → LocksForUpdate q s k → ⊥

-- the locks reach past the key
abbrev pub LocksReachPast : List LockInfo → Key → Type 0
LocksReachPast ls k = (l : LockInfo) × IsAmong ls l × (key_cmp k l.key ≡ Less)

-- A scan for locks without error looked at the key for locks of s: it looked for starts up to s or more, its range holds the
-- key, and it did not reach its limit, or shows a lock of a later key.
pub record LooksAt (r : ScanLockRequest) (o : ScanLockResponse) (s : ℕ) (k : Key) : Type 0 where
  pub region : o.region_error ≡ None
  pub until : s ≤ r.max_version
  pub in_range : in_range r.start_key r.end_key k ≡ true
  pub reached : (length o.locks < r.limit) ⊎ LocksReachPast o.locks k

-- it shows a lock of s there
abbrev pub ShowsLockAt : ScanLockResponse → ℕ → Key → Type 0
ShowsLockAt o s k = (l : LockInfo) × IsAmong o.locks l × (l.key ≡ k) × (l.lock_version ≡ s)

-- a ResolveLock of s was served without error in the first after the second, in a region that then held the key
pub record WasResolvedSince (es first : List Event) (s : ℕ) (k : Key) : Type 0 where
  pub ticket : Ticket
  pub request : ResolveLockRequest
  pub response : ResolveLockResponse
  pub came : CameSince es first (Served ticket (ResolveLock request) (reply.ResolveLock response))
  pub fine : IsWithoutError (reply.ResolveLock response)
  pub info : TxnInfo
  pub settles : IsAmong (settled_starts request request.txn_infos) info
  pub start : info.txn ≡ s
  pub region : is_in_context (store_after came.0).regions request.context k ≡ true

-- A scan for locks looked at the key for s in the first after the second, and where it shows a lock of s there, a ResolveLock
-- settled it since.
pub record WasCleanedSince (es first : List Event) (s : ℕ) (k : Key) : Type 0 where
  pub ticket : Ticket
  pub request : ScanLockRequest
  pub response : ScanLockResponse
  pub came : CameSince es first (Served ticket (ScanLock request) (reply.ScanLock response))
  pub looks : LooksAt request response s k
  pub settled : ShowsLockAt response s k → WasResolvedSince es first s k
