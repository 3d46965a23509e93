-- Plans that send their request once, as one type.
use Rattle.std.specs.Prelude.{⊤, map, Result}
use Rattle.txn_commit.specs.Ways.{AreLasting, Ways}
use Rattle.txn_commit.specs.declared.fetched.Fetched.{Fetched}
use Rattle.txn_commit_plans.specs.Done.{done}
use Rattle.txn_either.specs.Either.{either}
use Rattle.txn_either.specs.declared.either.Either.{Either}
use Rattle.txn_history.specs.Meaning.{Meaning}
use Rattle.txn_kv.specs.ErrorView.{key}
use Rattle.txn_kv.specs.declared.errors.Error.{Error}
use Rattle.txn_kv.specs.declared.reply.Reply.TheVariants as reply
use Rattle.txn_kv.specs.declared.reply.commits.BatchRollbackResponse.{BatchRollbackResponse}
use Rattle.txn_kv.specs.declared.reply.commits.CommitResponse.{CommitResponse}
use Rattle.txn_kv.specs.declared.reply.commits.PrewriteResponse.{PrewriteResponse}
use Rattle.txn_kv.specs.declared.request.Request.TheVariants.{BatchRollback, Commit, Prewrite}
use Rattle.txn_kv.specs.declared.request.commits.BatchRollbackRequest.{BatchRollbackRequest}
use Rattle.txn_kv.specs.declared.request.commits.CommitRequest.{CommitRequest}
use Rattle.txn_kv.specs.declared.request.commits.PrewriteRequest.{PrewriteRequest}
use Rattle.txn_merge.specs.KeyErrors.{views_of_error}
use Rattle.txn_merge.specs.RegionErrors.{listed}
use Rattle.txn_plan.specs.Dispatch.{dispatch}
use Rattle.txn_plan.specs.Extracted.{extracted}
use Rattle.txn_plan.specs.declared.dispatch.Dispatch.{Dispatch}
use Rattle.txn_plan.specs.declared.extract_error.ExtractError.{ExtractError}

abbrev pub OnePrewrite : Type 0
OnePrewrite = ExtractError (Dispatch PrewriteRequest PrewriteResponse) PrewriteResponse

abbrev pub OneCommit : Type 0
OneCommit = ExtractError (Dispatch CommitRequest CommitResponse) CommitResponse

abbrev pub OneRollback : Type 0
OneRollback = ExtractError (Dispatch BatchRollbackRequest BatchRollbackResponse) BatchRollbackResponse

abbrev pub AnyOnce : Type 0
AnyOnce = Either OnePrewrite (Either OneCommit OneRollback)

abbrev pub one_prewrite : Meaning OnePrewrite (Result PrewriteResponse Error)
one_prewrite = extracted (dispatch Prewrite reply.Prewrite) (λ v. map key v.errors) (λ v. listed v.region_error)

abbrev pub one_commit : Meaning OneCommit (Result CommitResponse Error)
one_commit = extracted (dispatch Commit reply.Commit) (λ v. views_of_error v.error) (λ v. listed v.region_error)

abbrev pub one_rollback : Meaning OneRollback (Result BatchRollbackResponse Error)
one_rollback = extracted (dispatch BatchRollback reply.BatchRollback) (λ v. views_of_error v.error) (λ v. listed v.region_error)

abbrev pub once_plan : Meaning AnyOnce (Result Fetched Error)
once_plan = either (done one_prewrite) (either (done one_commit) (done one_rollback))

-- Of an error nothing is said.
abbrev pub once_ways : Ways AnyOnce
once_ways = record {
  plan = once_plan;
  unwritten = λ o h e. ⊤;
  uncommitted = λ o h e. ⊤;
  unrolled = λ o h e. ⊤;
  costs = record { prewrites = λ k n. 1; commits = λ k n. 1; rollbacks = λ k n. 1 };
}

-- lemmas

pub onces_last : AreLasting once_ways
onces_last = record { unwritten = λ o h longer e w r. tt; uncommitted = λ o h longer e w r. tt; unrolled = λ o h longer e w r. tt }
