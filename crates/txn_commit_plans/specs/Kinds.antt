-- The plans of a Prewrite, a Commit, a BatchRollback and a heartbeat, by what they mean.
use Rattle.std.specs.Prelude.{◌≡◌, ℕ, List, length, map, Result}
use Rattle.std.specs.Global.{Vec}
use Rattle.std.specs.List.{filter_map}
use Rattle.txn_history.specs.Meaning.{IsLawful, Meaning}
use Rattle.txn_kv.specs.ErrorView.{key}
use Rattle.txn_kv.specs.declared.errors.Error.{Error}
use Rattle.txn_kv.specs.declared.message.Mutation.{Mutation}
use Rattle.txn_kv.specs.declared.reply.commits.BatchRollbackResponse.{BatchRollbackResponse}
use Rattle.txn_kv.specs.declared.reply.commits.CommitResponse.{CommitResponse}
use Rattle.txn_kv.specs.declared.reply.commits.PrewriteResponse.{PrewriteResponse}
use Rattle.txn_kv.specs.declared.reply.Reply.TheVariants as reply
use Rattle.txn_kv.specs.declared.reply.commits.TxnHeartBeatResponse.{TxnHeartBeatResponse}
use Rattle.txn_kv.specs.declared.request.commits.BatchRollbackRequest.{BatchRollbackRequest}
use Rattle.txn_kv.specs.declared.request.commits.CommitRequest.{CommitRequest}
use Rattle.txn_kv.specs.declared.request.commits.PrewriteRequest.{PrewriteRequest}
use Rattle.txn_kv.specs.declared.request.Request.TheVariants.{BatchRollback, Commit, Prewrite, TxnHeartBeat}
use Rattle.txn_kv.specs.declared.request.commits.TxnHeartBeatRequest.{TxnHeartBeatRequest}
use Rattle.txn_merge.specs.Firsts.{first_seen, region_in, seen_in}
use Rattle.txn_merge.specs.Gathered.{FirstErrorOr, single_of}
use Rattle.txn_merge.specs.KeyErrors.{views_of_error}
use Rattle.txn_merge.specs.Locks.{locks_of_error, locks_of_errors}
use Rattle.txn_merge.specs.declared.merge.CollectError.{CollectError}
use Rattle.txn_merge.specs.declared.merge.CollectSingle.{CollectSingle}
use Rattle.txn_merge.specs.declared.retry_options.RetryOptions.{RetryOptions}
use Rattle.txn_multi.specs.Few.{by_items}
use Rattle.txn_multi.specs.Multi.{multi}
use Rattle.txn_multi.specs.Task.{attempts_left}
use Rattle.txn_multi.specs.declared.multi_region.RetryableMultiRegion.{RetryableMultiRegion}
use Rattle.txn_plan.specs.Dispatch.{dispatch}
use Rattle.txn_plan.specs.Extracted.{extracted, extracted-lawful}
use Rattle.txn_plan.specs.Merged.{merged, merged-lawful}
use Rattle.txn_plan.specs.declared.dispatch.Dispatch.{Dispatch}
use Rattle.txn_plan.specs.declared.extract_error.ExtractError.{ExtractError}
use Rattle.txn_plan.specs.declared.merge_response.MergeResponse.{MergeResponse}
use Rattle.txn_region.specs.Regions.{Key}
use Rattle.txn_shard.specs.Order.{in_order}
use Rattle.txn_shard.specs.Parts.{BatchRollbackPart, CommitPart, PrewritePart, TxnHeartBeatPart}
use Rattle.txn_shard.specs.Shards.{AreJoined, ArePieces, IsAlone}
use Rattle.txn_commit_plans.specs.OverRegions.{over_regions, over_regions-lawful, retries_of, Shard}

-- the keys of a request, and its mutations, in order

abbrev pub commit_keys : CommitRequest → List Key
commit_keys r = in_order (λ key. key) r.keys

abbrev pub rollback_keys : BatchRollbackRequest → List Key
rollback_keys r = in_order (λ key. key) r.keys

abbrev pub mutations_of : PrewriteRequest → List Mutation
mutations_of r = in_order (λ mutation. mutation.key) r.mutations

-- A Commit

abbrev pub Commits : Type 0
Commits = RetryableMultiRegion (Shard CommitRequest CommitResponse) CommitResponse (List Key)

abbrev pub commits : Meaning Commits (Result (Vec (Result CommitResponse Error)) Error)
commits = over_regions Commit reply.Commit (λ v. views_of_error v.error) (λ v. v.region_error) (λ v. locks_of_error v.error) CommitPart commit_keys (λ whole pieces. ArePieces whole pieces) (λ r. by_items (length r.keys))

abbrev pub CommitPlan : Type 0
CommitPlan = ExtractError Commits (Vec (Result CommitResponse Error))

abbrev pub commit_retries : CommitPlan → RetryOptions
commit_retries plan = retries_of plan.inner

abbrev pub commit_plan : Meaning CommitPlan (Result (Vec (Result CommitResponse Error)) Error)
commit_plan = extracted commits (λ v. first_seen (seen_in (λ (r : CommitResponse). views_of_error r.error)) v.items) (λ v. filter_map (region_in (λ (r : CommitResponse). r.region_error)) v.items)

-- how many attempts its backoff for regions has left
abbrev pub commit_attempts : CommitPlan → ℕ
commit_attempts p = attempts_left p.inner.backoff

-- A BatchRollback

abbrev pub Rollbacks : Type 0
Rollbacks = RetryableMultiRegion (Shard BatchRollbackRequest BatchRollbackResponse) BatchRollbackResponse (List Key)

abbrev pub rollbacks : Meaning Rollbacks (Result (Vec (Result BatchRollbackResponse Error)) Error)
rollbacks = over_regions BatchRollback reply.BatchRollback (λ v. views_of_error v.error) (λ v. v.region_error) (λ v. locks_of_error v.error) BatchRollbackPart rollback_keys (λ whole pieces. AreJoined whole pieces) (λ r. by_items (length r.keys))

abbrev pub RollbackPlan : Type 0
RollbackPlan = ExtractError Rollbacks (Vec (Result BatchRollbackResponse Error))

abbrev pub rollback_retries : RollbackPlan → RetryOptions
rollback_retries plan = retries_of plan.inner

abbrev pub rollback_plan : Meaning RollbackPlan (Result (Vec (Result BatchRollbackResponse Error)) Error)
rollback_plan = extracted rollbacks (λ v. first_seen (seen_in (λ (r : BatchRollbackResponse). views_of_error r.error)) v.items) (λ v. filter_map (region_in (λ (r : BatchRollbackResponse). r.region_error)) v.items)

abbrev pub rollback_attempts : RollbackPlan → ℕ
rollback_attempts p = attempts_left p.inner.backoff

-- A Prewrite, whose replies are collected

abbrev pub Prewrites : Type 0
Prewrites = RetryableMultiRegion (Shard PrewriteRequest PrewriteResponse) PrewriteResponse (List Mutation)

abbrev pub prewrites : Meaning Prewrites (Result (Vec (Result PrewriteResponse Error)) Error)
prewrites = over_regions Prewrite reply.Prewrite (λ v. map key v.errors) (λ v. v.region_error) (λ v. locks_of_errors v.errors) PrewritePart mutations_of (λ whole pieces. AreJoined whole pieces) (λ r. by_items (length r.mutations))

abbrev pub Collected : Type 0
Collected = MergeResponse Prewrites PrewriteResponse CollectError (Vec PrewriteResponse)

abbrev pub collected : Meaning Collected (Result (Vec PrewriteResponse) Error)
collected = merged prewrites (λ all results result. FirstErrorOr (λ values out. out.items ≡ values) results result)

abbrev pub PrewritePlan : Type 0
PrewritePlan = ExtractError Collected (Vec PrewriteResponse)

abbrev pub prewrite_retries : PrewritePlan → RetryOptions
prewrite_retries plan = retries_of plan.inner.inner

abbrev pub prewrite_plan : Meaning PrewritePlan (Result (Vec PrewriteResponse) Error)
prewrite_plan = extracted collected (λ v. first_seen (λ (r : PrewriteResponse). map key r.errors) v.items) (λ v. filter_map (λ (r : PrewriteResponse). r.region_error) v.items)

abbrev pub prewrite_attempts : PrewritePlan → ℕ
prewrite_attempts p = attempts_left p.inner.inner.backoff

-- A heartbeat, whose one reply is taken

abbrev pub Beats : Type 0
Beats = RetryableMultiRegion (Dispatch TxnHeartBeatRequest TxnHeartBeatResponse) TxnHeartBeatResponse Key

abbrev pub beats : Meaning Beats (Result (Vec (Result TxnHeartBeatResponse Error)) Error)
beats = multi (dispatch TxnHeartBeat reply.TxnHeartBeat) (λ v. views_of_error v.error) (λ v. v.region_error) (λ part whole. TxnHeartBeatPart part.request whole.request) (λ s. s.request.primary_lock) IsAlone (λ s n. 1)

abbrev pub HeartbeatPlan : Type 0
HeartbeatPlan = MergeResponse Beats TxnHeartBeatResponse CollectSingle TxnHeartBeatResponse

abbrev pub heartbeat_plan : Meaning HeartbeatPlan (Result TxnHeartBeatResponse Error)
heartbeat_plan = merged beats (λ one results result. result ≡ single_of results)

-- lemmas

pub commit_plan-lawful : IsLawful commit_plan
commit_plan-lawful = extracted-lawful commits _ _ (over_regions-lawful Commit reply.Commit (λ v. views_of_error v.error) (λ v. v.region_error) (λ v. locks_of_error v.error) CommitPart commit_keys (λ whole pieces. ArePieces whole pieces) (λ r. by_items (length r.keys)))

pub rollback_plan-lawful : IsLawful rollback_plan
rollback_plan-lawful = extracted-lawful rollbacks _ _ (over_regions-lawful BatchRollback reply.BatchRollback (λ v. views_of_error v.error) (λ v. v.region_error) (λ v. locks_of_error v.error) BatchRollbackPart rollback_keys (λ whole pieces. AreJoined whole pieces) (λ r. by_items (length r.keys)))

pub prewrite_plan-lawful : IsLawful prewrite_plan
prewrite_plan-lawful = extracted-lawful collected _ _ (merged-lawful prewrites (λ all results result. FirstErrorOr (λ values out. out.items ≡ values) results result) (over_regions-lawful Prewrite reply.Prewrite (λ v. map key v.errors) (λ v. v.region_error) (λ v. locks_of_errors v.errors) PrewritePart mutations_of (λ whole pieces. AreJoined whole pieces) (λ r. by_items (length r.mutations))))
