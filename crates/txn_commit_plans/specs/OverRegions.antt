-- A request whose shards go to their regions, and are refused there for locks.
use Rattle.std.specs.Prelude.{ℕ, List, Option, Result}
use Rattle.std.specs.Global.{Vec}
use Rattle.txn_history.specs.Meaning.{IsLawful, Meaning}
use Rattle.txn_kv.specs.ErrorView.{ErrorView}
use Rattle.txn_kv.specs.declared.errors.Error.{Error}
use Rattle.txn_kv.specs.declared.message.LockInfo.{LockInfo}
use Rattle.txn_kv.specs.declared.message.RegionErr.{RegionErr}
use Rattle.txn_kv.specs.declared.reply.Reply.{Reply}
use Rattle.txn_kv.specs.declared.request.Request.{Request}
use Rattle.txn_merge.specs.declared.retry_options.RetryOptions.{RetryOptions}
use Rattle.txn_multi.specs.Multi.{multi, multi-lawful}
use Rattle.txn_multi.specs.declared.multi_region.RetryableMultiRegion.{RetryableMultiRegion}
use Rattle.txn_plan.specs.Dispatch.{dispatch, dispatch-lawful}
use Rattle.txn_plan.specs.declared.dispatch.Dispatch.{Dispatch}
use Rattle.txn_resolve.specs.Unlocked.{unlocked, unlocked-lawful}
use Rattle.txn_resolve.specs.declared.resolve_lock.ResolveLock.{ResolveLock}

-- a request that goes to one region
abbrev pub Shard : Type 0 → Type 0 → Type 0
Shard R V = ResolveLock (Dispatch R V) V

abbrev pub over_regions : {R V H L : Type 0} → (R → Request) → (V → Reply) → (V → List ErrorView) → (V → Option RegionErr) → (V → List LockInfo) → (R → R → Type 0) → (R → L) → (L → List L → Type 0) → (R → ℕ → ℕ)
    → Meaning (RetryableMultiRegion (Shard R V) V H) (Result (Vec (Result V Error)) Error)
over_regions request_of reply_of keys region locks is_part load are_cut most =
    multi (unlocked (dispatch request_of reply_of) locks) keys region (λ part whole. is_part part.inner.request whole.inner.request) (λ s. load s.inner.request) are_cut (λ s. most s.inner.request)

-- how often it tries again, for errors of regions and losses, and for locks
abbrev pub retries_of : {R V H : Type 0} → RetryableMultiRegion (Shard R V) V H → RetryOptions
retries_of plan = record { region_backoff = plan.backoff; lock_backoff = plan.inner.backoff }

-- lemmas

pub over_regions-lawful : {R V H L : Type 0} (request_of : R → Request) (reply_of : V → Reply) (keys : V → List ErrorView) (region : V → Option RegionErr) (locks : V → List LockInfo) (is_part : R → R → Type 0) (load : R → L) (are_cut : L → List L → Type 0) (most : R → ℕ → ℕ)
    → IsLawful (over_regions {H = H} request_of reply_of keys region locks is_part load are_cut most)
over_regions-lawful request_of reply_of keys region locks is_part load are_cut most =
    multi-lawful (unlocked (dispatch request_of reply_of) locks) keys region (λ part whole. is_part part.inner.request whole.inner.request) (λ s. load s.inner.request) are_cut (λ s. most s.inner.request) (unlocked-lawful (dispatch request_of reply_of) locks (dispatch-lawful request_of reply_of))
