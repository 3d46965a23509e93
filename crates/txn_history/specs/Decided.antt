-- What a client was shown of locks, and what it may settle a start by.
use Rattle.std.specs.Prelude.{◌≡◌, ◌≢◌, ◌⊎◌, ℕ, ◌<◌, ◌≤◌, true, false, List, None}
use Rattle.txn_kv.specs.declared.message.LockInfo.{LockInfo}
use Rattle.txn_kv.specs.declared.message.Op.TheVariants as op
use Rattle.txn_kv.specs.declared.reply.locks.CheckSecondaryLocksResponse.{CheckSecondaryLocksResponse}
use Rattle.txn_kv.specs.declared.reply.locks.CheckTxnStatusResponse.{CheckTxnStatusResponse}
use Rattle.txn_kv.specs.declared.reply.Reply.{Reply}
use Rattle.txn_kv.specs.declared.reply.Reply.TheVariants as reply
use Rattle.txn_kv.specs.declared.request.locks.CheckSecondaryLocksRequest.{CheckSecondaryLocksRequest}
use Rattle.txn_kv.specs.declared.request.Request.{Request}
use Rattle.txn_kv.specs.declared.request.Request.TheVariants.{Cleanup, CheckTxnStatus, CheckSecondaryLocks}
use Rattle.txn_kv.specs.declared.ticket.Ticket.{Ticket}
use Rattle.txn_history.specs.Among.{IsAmong}
use Rattle.txn_history.specs.Event.{Event, Has}
use Rattle.txn_history.specs.Event.Event.{Took}
use Rattle.txn_history.specs.Plan.{Key, has_key}
use Rattle.txn_history.specs.Replies.{IsWithoutError, ShowsLock}

-- What was shown.

-- a taken reply showed the key locked by s
abbrev pub WasShownAt : List Event → ℕ → Key → Type 0
WasShownAt es s k = (t : Ticket) × (r : Request) × (o : Reply) × (l : LockInfo) × Has es (Took t r o) × ShowsLock o l × (l.lock_version ≡ s) × (l.key ≡ k)

-- a taken reply showed a lock of s, of whatever kind, with this primary
abbrev pub WasMet : List Event → ℕ → Key → Type 0
WasMet es s p = (t : Ticket) × (r : Request) × (o : Reply) × (l : LockInfo) × Has es (Took t r o) × ShowsLock o l × (l.lock_version ≡ s) × (l.primary_lock ≡ p)

abbrev pub IsPrewriteOp : LockInfo → Type 0
IsPrewriteOp l = l.lock_type ≢ op.PessimisticLock

-- a taken reply showed a prewrite lock of s with this primary
pub record WasShown (es : List Event) (s : ℕ) (p : Key) : Type 0 where
  pub ticket : Ticket
  pub request : Request
  pub answer : Reply
  pub lock : LockInfo
  pub taken : Has es (Took ticket request answer)
  pub shows : ShowsLock answer lock
  pub prewrite : IsPrewriteOp lock
  pub start : lock.lock_version ≡ s
  pub primary : lock.primary_lock ≡ p

-- this prewrite lock of s was shown
pub record LockWasShown (es : List Event) (s : ℕ) (l : LockInfo) : Type 0 where
  pub ticket : Ticket
  pub request : Request
  pub answer : Reply
  pub taken : Has es (Took ticket request answer)
  pub shows : ShowsLock answer l
  pub prewrite : IsPrewriteOp l
  pub start : l.lock_version ≡ s

-- an async lock of s was shown at its primary
abbrev pub PrimaryWasShown : List Event → ℕ → LockInfo → Type 0
PrimaryWasShown es s l = LockWasShown es s l × (l.use_async_commit ≡ true) × (l.key ≡ l.primary_lock)

-- an async lock of s was shown at the key, with this bound
abbrev pub BoundWasShown : List Event → ℕ → Key → ℕ → Type 0
BoundWasShown es s k m = (l : LockInfo) × LockWasShown es s l × (l.use_async_commit ≡ true) × (l.key ≡ k) × (l.min_commit_ts ≡ m)

-- What settles a start.

-- a status told that s is committed at c, or for 0 that it is rolled back; one that shows a lock tells neither
abbrev pub TellsStatus : CheckTxnStatusResponse → ℕ → Type 0
TellsStatus o c = (o.region_error ≡ None) × (o.error ≡ None) × (o.lock_info ≡ None) × (o.lock_ttl ≡ 0) × (o.commit_version ≡ c)

-- a reply about the primary p told that s is committed at c, or for 0 that it is rolled back
abbrev pub Decides : Request → Reply → Key → ℕ → ℕ → Type 0
Decides (Cleanup r) (reply.Cleanup o) p s c = IsWithoutError (reply.Cleanup o) × (r.key ≡ p) × (r.start_version ≡ s) × (o.commit_version ≡ c)
Decides (CheckTxnStatus r) (reply.CheckTxnStatus o) p s c = TellsStatus o c × (r.primary_key ≡ p) × (r.lock_ts ≡ s) × ((0 < c) ⊎ (r.resolving_pessimistic_lock ≡ false))
Decides _ _ p s c = ⊥

-- a taken reply about the primary that a lock of s named told so
pub record WasTold (es : List Event) (s c : ℕ) : Type 0 where
  pub primary : Key
  pub shown : WasShown es s primary
  pub ticket : Ticket
  pub request : Request
  pub answer : Reply
  pub taken : Has es (Took ticket request answer)
  pub decides : Decides request answer primary s c

-- an async lock of s was shown at its primary, and one at each of the secondaries that it names, and c is their greatest bound
pub record WasChecked (es : List Event) (s c : ℕ) : Type 0 where
  pub lock : LockInfo
  pub shown : PrimaryWasShown es s lock
  pub own : lock.min_commit_ts ≤ c
  pub each : (k : Key) → IsAmong lock.secondaries k → (m : ℕ) × BoundWasShown es s k m × (m ≤ c)
  pub greatest : (lock.min_commit_ts ≡ c) ⊎ ((k : Key) × IsAmong lock.secondaries k × BoundWasShown es s k c)

-- a check of secondaries told of a commit of s at c
abbrev pub WasSeenCommitted : List Event → ℕ → ℕ → Type 0
WasSeenCommitted es s c = (t : Ticket) × (r : CheckSecondaryLocksRequest) × (o : CheckSecondaryLocksResponse) × Has es (Took t (CheckSecondaryLocks r) (reply.CheckSecondaryLocks o)) × (r.start_version ≡ s) × (o.commit_ts ≡ c) × (0 < c)

-- A check of some of the secondaries that the primary's lock names told that one is missing. Of other keys it would tell nothing.
pub record WasMissed (es : List Event) (s : ℕ) : Type 0 where
  pub lock : LockInfo
  pub shown : PrimaryWasShown es s lock
  pub ticket : Ticket
  pub request : CheckSecondaryLocksRequest
  pub response : CheckSecondaryLocksResponse
  pub taken : Has es (Took ticket (CheckSecondaryLocks request) (reply.CheckSecondaryLocks response))
  pub start : request.start_version ≡ s
  pub secondaries : (k : Key) → has_key request.keys k ≡ true → IsAmong lock.secondaries k
  pub missing : response.missing ≡ true

-- s is settled at c, or for 0 rolled back: by its primary, by all its keys, or by one that is committed or missing
abbrev pub WasDecided : List Event → ℕ → ℕ → Type 0
WasDecided es s c = WasTold es s c ⊎ (((0 < c) × WasChecked es s c) ⊎ (WasSeenCommitted es s c ⊎ ((c ≡ 0) × WasMissed es s)))
