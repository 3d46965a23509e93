-- What the plan asks for that settles a lock's start in the region of its key, and what its answers say.
use Rattle.std.specs.Prelude.{◌≡◌, ◌⊎◌, ◌≤◌, ℕ, List, Option, Ok, Err}
use Rattle.txn_history.specs.Event.{Event}
use Rattle.txn_history.specs.Foreign.{IsForeign}
use Rattle.txn_history.specs.Decided.{IsPrewriteOp}
use Rattle.txn_history.specs.Meaning.{IsUnbegun}
use Rattle.txn_kv.specs.declared.errors.Error.{Error}
use Rattle.txn_kv.specs.declared.message.Context.{Context}
use Rattle.txn_kv.specs.declared.message.LockInfo.{LockInfo}
use Rattle.txn_kv.specs.declared.region.RegionVerId.{RegionVerId}
use Rattle.txn_kv.specs.declared.request.Request.{Request}
use Rattle.txn_kv.specs.declared.request.Request.TheVariants.{ResolveLock}
use Rattle.txn_lock.specs.Settling.{IsDecided}
use Rattle.txn_lock.specs.Tries.{resolve_plan, IsSettled, IsUnsettled, ResolvePlan}
use Rattle.txn_multi.specs.Cutting.{IsPlacement}
use Rattle.txn_settle.specs.Requests.{resolve_of, WasSeen}

-- A plan that settles the start of a lock, at c, in the region of its key, and is not begun. It posts one request, once more for
-- each of nine tries, and look-ups.
pub record IsResolvePlan (lock : LockInfo) (c : ℕ) (p : ResolvePlan) : Type 0 where
  pub unbegun : IsUnbegun resolve_plan p
  pub ready : resolve_plan.ready p
  pub light : (n : ℕ) → resolve_plan.round p n ≤ 1
  pub key : p.routine.key ≡ lock.key
  pub tries : p.routine.tries ≡ 0
  pub asks : (h : List Event) (r : Request) → resolve_plan.asks p h r → ((at : Option Context) × (r ≡ ResolveLock (resolve_of lock c at))) ⊎ IsPlacement h r
  -- what it asks has its licence, once the lock was seen and it is decided what became of its start
  pub licensed : (h : List Event) (r : Request) → WasSeen h lock → IsPrewriteOp lock → IsDecided h lock c → resolve_plan.asks p h r → IsForeign h r
  pub means : (h : List Event) (region : RegionVerId) → resolve_plan.gives p h (Ok region) → IsSettled lock.lock_version c h region
  pub fails : (h : List Event) (e : Error) → resolve_plan.gives p h (Err e) → IsUnsettled lock.lock_version c h e
