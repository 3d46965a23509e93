-- What the plans that settle one lock ask for, and what their answers say.
use Rattle.std.specs.Prelude.{◌≡◌, ◌⊎◌, ◌≤◌, ℕ, List, [], ◌∷◌, map, Option, Ok, Err}
use Rattle.txn_history.specs.Event.{Event, Has}
use Rattle.txn_history.specs.Event.Event.{Took}
use Rattle.txn_history.specs.Foreign.{IsForeign}
use Rattle.txn_history.specs.Meaning.{IsUnbegun}
use Rattle.txn_history.specs.Replies.{IsWithoutError}
use Rattle.txn_kv.specs.Backoff.{fresh}
use Rattle.txn_kv.specs.ErrorView.{key, listed, view_of, ErrorView}
use Rattle.txn_kv.specs.ErrorView.ErrorView.{extracted}
use Rattle.txn_kv.specs.declared.backoff.Backoff.{Backoff}
use Rattle.txn_kv.specs.declared.backoff.BackoffKind.TheVariants.{NoJitter}
use Rattle.txn_kv.specs.declared.errors.Error.{Error}
use Rattle.txn_kv.specs.declared.message.Context.{Context}
use Rattle.txn_kv.specs.declared.message.LockInfo.{LockInfo}
use Rattle.txn_kv.specs.declared.reply.Reply.TheVariants as reply
use Rattle.txn_kv.specs.declared.reply.locks.CleanupResponse.{CleanupResponse}
use Rattle.txn_kv.specs.declared.reply.locks.PessimisticRollbackResponse.{PessimisticRollbackResponse}
use Rattle.txn_kv.specs.declared.request.Request.{Request}
use Rattle.txn_kv.specs.declared.request.Request.TheVariants.{Cleanup, PessimisticRollback}
use Rattle.txn_kv.specs.declared.request.locks.CleanupRequest.{CleanupRequest}
use Rattle.txn_kv.specs.declared.request.locks.PessimisticRollbackRequest.{PessimisticRollbackRequest}
use Rattle.txn_kv.specs.declared.ticket.Ticket.{Ticket}
use Rattle.txn_lock.specs.Failing.{HasNoReply, IsRefusedForKeys}
use Rattle.txn_lock.specs.Plans.{cleanup_plan, removal_plan, CleanupPlan, RemovalPlan}
use Rattle.txn_merge.specs.KeyErrors.{views_of_error}
use Rattle.txn_multi.specs.Cutting.{IsPlacement}
use Rattle.txn_settle.specs.Requests.{cleanup_of, rollback_of, WasSeen}
use Rattle.txn_shard.specs.Parts.{AreAmong}

-- ten attempts, whose delays double from 2 to 500 ms
abbrev pub ten_attempts : Backoff
ten_attempts = fresh NoJitter 2 500 10

-- A Cleanup of the lock: it asks its primary for its start.

abbrev pub IsCleanupOf : LockInfo → CleanupRequest → Type 0
IsCleanupOf lock r = (at : Option Context) × (r ≡ cleanup_of lock at)

-- a reply to one was taken, which has no error and tells that the start is committed at c, or for 0 that it is rolled back
pub record IsDecided (h : List Event) (lock : LockInfo) (c : ℕ) : Type 0 where
  pub ticket : Ticket
  pub at : Option Context
  pub answer : CleanupResponse
  pub taken : Has h (Took ticket (Cleanup (cleanup_of lock at)) (reply.Cleanup answer))
  pub fine : IsWithoutError (reply.Cleanup answer)
  pub version : answer.commit_version ≡ c

-- why it is not known what became of the start
abbrev pub IsUndecided : List Event → LockInfo → Error → Type 0
IsUndecided h lock e =
    HasNoReply (IsCleanupOf lock) Cleanup reply.Cleanup (λ (v : CleanupResponse). v.region_error) 10 h e
    ⊎ IsRefusedForKeys (IsCleanupOf lock) Cleanup reply.Cleanup (λ (v : CleanupResponse). views_of_error v.error) h (view_of e)

-- A plan of a Cleanup of the lock that is not begun. It posts one request, once more for each try, and look-ups.
pub record IsCleanupPlan (lock : LockInfo) (p : CleanupPlan) : Type 0 where
  pub unbegun : IsUnbegun cleanup_plan p
  pub ready : cleanup_plan.ready p
  pub light : (n : ℕ) → cleanup_plan.round p n ≤ 1
  pub regions : p.inner.inner.backoff ≡ ten_attempts
  pub locks : p.inner.inner.inner.backoff ≡ ten_attempts
  pub asks : (h : List Event) (r : Request) → cleanup_plan.asks p h r → ((q : CleanupRequest) × IsCleanupOf lock q × (r ≡ Cleanup q)) ⊎ IsPlacement h r
  -- what it asks has its licence, once the lock was seen
  pub licensed : (h : List Event) (r : Request) → WasSeen h lock → cleanup_plan.asks p h r → IsForeign h r
  pub means : (h : List Event) (c : ℕ) → cleanup_plan.gives p h (Ok c) → IsDecided h lock c
  pub fails : (h : List Event) (e : Error) → cleanup_plan.gives p h (Err e) → IsUndecided h lock e

-- A PessimisticRollback of the lock: it names its start and its for-update timestamp, and no key but its own.

abbrev pub IsRollbackOf : LockInfo → PessimisticRollbackRequest → Type 0
IsRollbackOf lock r = (r ≡ record (rollback_of lock r.context) { keys = r.keys }) × AreAmong r.keys (lock.key ∷ [])

-- a reply without error to one of its key was taken
pub record IsRemoved (h : List Event) (lock : LockInfo) : Type 0 where
  pub ticket : Ticket
  pub at : Option Context
  pub answer : PessimisticRollbackResponse
  pub taken : Has h (Took ticket (PessimisticRollback (rollback_of lock at)) (reply.PessimisticRollback answer))
  pub fine : IsWithoutError (reply.PessimisticRollback answer)

-- why the lock may still be there
abbrev pub IsNotRemoved : List Event → LockInfo → Error → Type 0
IsNotRemoved h lock e =
    HasNoReply (IsRollbackOf lock) PessimisticRollback reply.PessimisticRollback (λ (v : PessimisticRollbackResponse). v.region_error) 10 h e
    ⊎ ((seen : ErrorView) × IsRefusedForKeys (IsRollbackOf lock) PessimisticRollback reply.PessimisticRollback (λ (v : PessimisticRollbackResponse). map key v.errors) h seen × (view_of e ≡ extracted (listed (seen ∷ []))))

-- A plan of a PessimisticRollback of the lock that is not begun.
pub record IsRemovalPlan (lock : LockInfo) (p : RemovalPlan) : Type 0 where
  pub unbegun : IsUnbegun removal_plan p
  pub ready : removal_plan.ready p
  pub light : (n : ℕ) → removal_plan.round p n ≤ 1
  pub regions : p.inner.backoff ≡ ten_attempts
  pub asks : (h : List Event) (r : Request) → removal_plan.asks p h r → ((q : PessimisticRollbackRequest) × IsRollbackOf lock q × (r ≡ PessimisticRollback q)) ⊎ IsPlacement h r
  -- what it asks has its licence, once the lock was seen
  pub licensed : (h : List Event) (r : Request) → WasSeen h lock → removal_plan.asks p h r → IsForeign h r
  pub means : (h : List Event) (v : _) → removal_plan.gives p h (Ok v) → IsRemoved h lock
  pub fails : (h : List Event) (e : Error) → removal_plan.gives p h (Err e) → IsNotRemoved h lock e
