-- The plans of what settles one lock, by what they mean.
use Rattle.std.specs.Prelude.{◌≡◌, ℕ, List, [], length, map, Ok, Result}
use Rattle.std.specs.Global.{Vec}
use Rattle.std.specs.List.{filter_map}
use Rattle.txn_history.specs.Meaning.{IsLawful, Meaning}
use Rattle.txn_kv.specs.ErrorView.{key}
use Rattle.txn_kv.specs.declared.errors.Error.{Error}
use Rattle.txn_kv.specs.declared.reply.Reply.TheVariants as reply
use Rattle.txn_kv.specs.declared.reply.locks.CleanupResponse.{CleanupResponse}
use Rattle.txn_kv.specs.declared.reply.locks.PessimisticRollbackResponse.{PessimisticRollbackResponse}
use Rattle.txn_kv.specs.declared.request.Request.TheVariants.{Cleanup, PessimisticRollback}
use Rattle.txn_kv.specs.declared.request.locks.CleanupRequest.{CleanupRequest}
use Rattle.txn_kv.specs.declared.request.locks.PessimisticRollbackRequest.{PessimisticRollbackRequest}
use Rattle.txn_merge.specs.Firsts.{first_seen, region_in, seen_in}
use Rattle.txn_merge.specs.Gathered.{single_of}
use Rattle.txn_merge.specs.KeyErrors.{views_of_error}
use Rattle.txn_merge.specs.Processed.{at_ok}
use Rattle.txn_merge.specs.declared.merge.CollectSingle.{CollectSingle}
use Rattle.txn_merge.specs.declared.process.DefaultProcessor.{DefaultProcessor}
use Rattle.txn_multi.specs.Few.{by_items}
use Rattle.txn_multi.specs.Multi.{multi, multi-lawful}
use Rattle.txn_multi.specs.declared.multi_region.RetryableMultiRegion.{RetryableMultiRegion}
use Rattle.txn_plan.specs.Dispatch.{dispatch, dispatch-lawful}
use Rattle.txn_plan.specs.Extracted.{extracted, extracted-lawful}
use Rattle.txn_plan.specs.Merged.{merged, merged-lawful}
use Rattle.txn_plan.specs.Process.{processed, processed-lawful}
use Rattle.txn_plan.specs.declared.dispatch.Dispatch.{Dispatch}
use Rattle.txn_plan.specs.declared.extract_error.ExtractError.{ExtractError}
use Rattle.txn_plan.specs.declared.merge_response.MergeResponse.{MergeResponse}
use Rattle.txn_plan.specs.declared.process_response.ProcessResponse.{ProcessResponse}
use Rattle.txn_region.specs.Regions.{Key}
use Rattle.txn_resolve.specs.Unlocked.{unlocked, unlocked-lawful}
use Rattle.txn_resolve.specs.declared.resolve_lock.ResolveLock.{ResolveLock}
use Rattle.txn_shard.specs.Order.{in_order}
use Rattle.txn_shard.specs.Parts.{CleanupPart, PessimisticRollbackPart}
use Rattle.txn_shard.specs.Shards.{AreJoined, IsAlone}

-- A Cleanup, whose one reply is read. No lock is taken out of it.

abbrev pub CleanupShard : Type 0
CleanupShard = ResolveLock (Dispatch CleanupRequest CleanupResponse) CleanupResponse

abbrev pub cleanup_shard : Meaning CleanupShard (Result CleanupResponse Error)
cleanup_shard = unlocked (dispatch Cleanup reply.Cleanup) (λ v. [])

abbrev pub Cleanups : Type 0
Cleanups = RetryableMultiRegion CleanupShard CleanupResponse Key

abbrev pub cleanups : Meaning Cleanups (Result (Vec (Result CleanupResponse Error)) Error)
cleanups = multi cleanup_shard (λ v. views_of_error v.error) (λ v. v.region_error) (λ part whole. CleanupPart part.inner.request whole.inner.request) (λ s. s.inner.request.key) IsAlone (λ s n. 1)

abbrev pub CollectedCleanup : Type 0
CollectedCleanup = MergeResponse Cleanups CleanupResponse CollectSingle CleanupResponse

abbrev pub collected_cleanup : Meaning CollectedCleanup (Result CleanupResponse Error)
collected_cleanup = merged cleanups (λ one results result. result ≡ single_of results)

abbrev pub CleanupPlan : Type 0
CleanupPlan = ProcessResponse CollectedCleanup DefaultProcessor CleanupResponse ℕ

abbrev pub cleanup_plan : Meaning CleanupPlan (Result ℕ Error)
cleanup_plan = processed collected_cleanup (λ default input result. result ≡ at_ok (λ (r : CleanupResponse). Ok r.commit_version) input)

-- A PessimisticRollback

abbrev pub RemovalShard : Type 0
RemovalShard = Dispatch PessimisticRollbackRequest PessimisticRollbackResponse

abbrev pub removal_shard : Meaning RemovalShard (Result PessimisticRollbackResponse Error)
removal_shard = dispatch PessimisticRollback reply.PessimisticRollback

abbrev pub Removals : Type 0
Removals = RetryableMultiRegion RemovalShard PessimisticRollbackResponse (List Key)

abbrev pub keys_of : PessimisticRollbackRequest → List Key
keys_of r = in_order (λ key. key) r.keys

abbrev pub removals : Meaning Removals (Result (Vec (Result PessimisticRollbackResponse Error)) Error)
removals = multi removal_shard (λ v. map key v.errors) (λ v. v.region_error) (λ part whole. PessimisticRollbackPart part.request whole.request) (λ s. keys_of s.request) (λ whole pieces. AreJoined whole pieces) (λ s. by_items (length s.request.keys))

abbrev pub RemovalPlan : Type 0
RemovalPlan = ExtractError Removals (Vec (Result PessimisticRollbackResponse Error))

abbrev pub removal_plan : Meaning RemovalPlan (Result (Vec (Result PessimisticRollbackResponse Error)) Error)
removal_plan = extracted removals (λ v. first_seen (seen_in (λ (r : PessimisticRollbackResponse). map key r.errors)) v.items) (λ v. filter_map (region_in (λ (r : PessimisticRollbackResponse). r.region_error)) v.items)

-- lemmas

pub cleanup_plan-lawful : IsLawful cleanup_plan
cleanup_plan-lawful =
    processed-lawful collected_cleanup (λ default input result. result ≡ at_ok (λ (r : CleanupResponse). Ok r.commit_version) input)
    (merged-lawful cleanups (λ one results result. result ≡ single_of results)
    (multi-lawful cleanup_shard (λ v. views_of_error v.error) (λ v. v.region_error) (λ part whole. CleanupPart part.inner.request whole.inner.request) (λ s. s.inner.request.key) IsAlone (λ s n. 1)
    (unlocked-lawful (dispatch Cleanup reply.Cleanup) (λ v. []) (dispatch-lawful Cleanup reply.Cleanup))))

pub removal_plan-lawful : IsLawful removal_plan
removal_plan-lawful =
    extracted-lawful removals _ _
    (multi-lawful removal_shard (λ v. map key v.errors) (λ v. v.region_error) (λ part whole. PessimisticRollbackPart part.request whole.request) (λ s. keys_of s.request) (λ whole pieces. AreJoined whole pieces) (λ s. by_items (length s.request.keys))
    (dispatch-lawful PessimisticRollback reply.PessimisticRollback))
