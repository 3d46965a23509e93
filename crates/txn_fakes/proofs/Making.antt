-- A plan that sends a BatchRollback once is a plan of it; and each plan that sends a request once is one of all kinds.
use Rattle.std.proofs.Common.{◌≡◌, inl, inr, ℕ, false, List, [], ◌∷◌, Option, Some, None, map, refl, sym, ap, subst, ◌∙◌}
use Rattle.std.proofs.Math.Nat.{le_refl}
use Rattle.std.specs.Prelude.{⊤, Result, Ok, Err}
use Rattle.txn_history.specs.Around.{around-unbegun}
use Rattle.txn_history.specs.Event.{Event, Has}
use Rattle.txn_history.specs.Event.Event.{Took}
use Rattle.txn_kv.specs.ErrorView.{ErrorView, region}
use Rattle.txn_kv.specs.declared.errors.Error.{Error}
use Rattle.txn_kv.specs.declared.message.RegionErr.{RegionErr}
use Rattle.txn_kv.specs.declared.reply.commits.BatchRollbackResponse.{BatchRollbackResponse}
use Rattle.txn_kv.specs.declared.reply.Reply.{Reply}
use Rattle.txn_kv.specs.declared.reply.Reply.TheVariants as reply
use Rattle.txn_kv.specs.declared.request.commits.BatchRollbackRequest.{BatchRollbackRequest}
use Rattle.txn_kv.specs.declared.request.commits.CommitRequest.{CommitRequest}
use Rattle.txn_kv.specs.declared.request.commits.PrewriteRequest.{PrewriteRequest}
use Rattle.txn_kv.specs.declared.request.Request.{Request}
use Rattle.txn_kv.specs.declared.request.Request.TheVariants.{BatchRollback, Commit, Prewrite}
use Rattle.txn_kv.specs.declared.ticket.Ticket.{Ticket}
use Rattle.txn_merge.specs.Extracted.{views_in}
use Rattle.txn_merge.specs.KeyErrors.{no_error, views_of_error}
use Rattle.txn_merge.specs.RegionErrors.{listed}
use Rattle.txn_plan.specs.Dispatch.{dispatch, unsent, unsent-unbegun, IsReplied}
use Rattle.txn_plan.specs.Extracted.{IsAnswer}
use Rattle.txn_plan.specs.declared.dispatch.Dispatch.{Dispatch}
use Rattle.txn_commit.proofs.Once.{once_commits, once_prewrites}
use Rattle.txn_commit.specs.Plans.{AreRolledBack, IsPartOf, IsPlanFor}
use Rattle.txn_commit_plans.proofs.Making.{done_plan_for, first_plan_for, second_plan_for}
use Rattle.txn_commit_plans.specs.Done.{done}
use Rattle.txn_either.specs.Either.{either}
use Rattle.txn_either.specs.declared.either.Either.TheVariants.{First, Second}
use Rattle.txn_fakes.specs.Once.{OneCommit, OnePrewrite, OneRollback, once_plan, one_commit, one_prewrite, one_rollback}

-- an answer that holds no error is that of the plan inside

none_listed : (e : Option RegionErr) → map region (listed e) ≡ [] → e ≡ None
none_listed None i = refl
none_listed (Some e) i = cc

no_views : (ks : List ErrorView) (rs : List RegionErr) → views_in ks rs ≡ [] → (ks ≡ []) × (map region rs ≡ [])
no_views [] rs e = (refl, e)
no_views (k ∷ ks) rs e = cc

whole_answer : {V : Type 0} (keys : V → List ErrorView) (regions : V → List RegionErr) (x : Result V Error) (v : V) → IsAnswer keys regions x (Ok v) → (x ≡ Ok v) × (views_in (keys v) (regions v) ≡ [])
whole_answer keys regions x v (inl e) = cc
whole_answer keys regions (Ok w) v (inr i) = (ap Ok (sym i.1), subst (λ y. views_in (keys y) (regions y) ≡ []) (sym i.1) i.0)
whole_answer keys regions (Err e) v (inr i) = cc

replied_so : {V : Type 0} (reply_of : V → Reply) (keys : V → List ErrorView) (regions : V → List RegionErr) (r : Request) (h : List Event) (a : Result V Error) (v : V)
    → IsReplied reply_of r h a → IsAnswer keys regions a (Ok v) → (t : Ticket) × Has h (Took t r (reply_of v)) × (keys v ≡ []) × (map region (regions v) ≡ [])
replied_so reply_of keys regions r h a v g i =
    let w = whole_answer keys regions a v i in
    let f = subst (λ x. IsReplied reply_of r h x) w.0 g in
    let n = no_views (keys v) (regions v) w.1 in
    (f.0, f.1, n.0, n.1)

once_rolls_back : (request : BatchRollbackRequest) (store : ℕ) (p : OneRollback) → p.inner ≡ unsent request (Some store) → IsPlanFor one_rollback (λ h e. ⊤) (λ k n. 1) (BatchRollback request) p
once_rolls_back request store p e = record {
  unbegun = around-unbegun (dispatch BatchRollback reply.BatchRollback) (λ s. s.inner) (λ s. IsAnswer (λ (v : BatchRollbackResponse). views_of_error v.error) (λ v. listed v.region_error)) (λ s. ⊤) (λ b. false) p (rw e (unsent-unbegun BatchRollback reply.BatchRollback request (Some store)));
  ready = (rw e refl, tt);
  light = λ n. le_refl 1;
  asks = λ h r a. inl (of_request r (a.1 ∙ ap (λ (s : Dispatch BatchRollbackRequest BatchRollbackResponse). BatchRollback s.request) e));
  means = λ h v g. rolled_back h v (replied_so reply.BatchRollback (λ v. views_of_error v.error) (λ v. listed v.region_error) (BatchRollback request) h g.0 v (subst (λ (s : Dispatch BatchRollbackRequest BatchRollbackResponse). IsReplied reply.BatchRollback (BatchRollback s.request) h g.0) e g.1) g.2);
  fails = λ h x g. tt;
}
  where
    of_request : (r : Request) → r ≡ BatchRollback request → IsPartOf (BatchRollback request) r
    of_request r f = rw f (refl, λ k g. g)

    rolled_back : (h : List Event) (v : BatchRollbackResponse) → (t : Ticket) × Has h (Took t (BatchRollback request) (reply.BatchRollback v)) × (views_of_error v.error ≡ []) × (map region (listed v.region_error) ≡ []) → AreRolledBack request.start_version request.keys h
    rolled_back h v (t, taken, ks, rs) k named = (t, request, v, taken, (none_listed v.region_error rs, sym (no_error v.error ks)), refl, named)

-- as plans of all kinds

pub any_prewrites : (request : PrewriteRequest) (store : ℕ) (p : OnePrewrite) → p.inner ≡ unsent request (Some store) → IsPlanFor once_plan (λ h e. ⊤) (λ k n. 1) (Prewrite request) (First p)
any_prewrites request store p e = first_plan_for (done one_prewrite) (either (done one_commit) (done one_rollback)) _ _ _ p (done_plan_for one_prewrite _ _ _ p (once_prewrites request store p e))

pub any_commits : (request : CommitRequest) (store : ℕ) (p : OneCommit) → p.inner ≡ unsent request (Some store) → IsPlanFor once_plan (λ h e. ⊤) (λ k n. 1) (Commit request) (Second (First p))
any_commits request store p e = second_plan_for (done one_prewrite) (either (done one_commit) (done one_rollback)) _ _ _ (First p) (first_plan_for (done one_commit) (done one_rollback) _ _ _ p (done_plan_for one_commit _ _ _ p (once_commits request store p e)))

pub any_rolls_back : (request : BatchRollbackRequest) (store : ℕ) (p : OneRollback) → p.inner ≡ unsent request (Some store) → IsPlanFor once_plan (λ h e. ⊤) (λ k n. 1) (BatchRollback request) (Second (Second p))
any_rolls_back request store p e = second_plan_for (done one_prewrite) (either (done one_commit) (done one_rollback)) _ _ _ (Second p) (second_plan_for (done one_commit) (done one_rollback) _ _ _ p (done_plan_for one_rollback _ _ _ p (once_rolls_back request store p e)))
