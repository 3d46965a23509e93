-- A plan that sends its request to one store, once, and takes the errors out of the reply, is a plan of the request.
use Rattle.std.proofs.Common.{◌≡◌, inl, inr, ℕ, false, List, [], ◌∷◌, Option, Some, None, map, refl, sym, ap, subst, ◌∙◌}
use Rattle.std.proofs.Math.Nat.{le_refl}
use Rattle.std.specs.Prelude.{⊤, Result, Ok, Err}
use Rattle.txn_history.specs.Around.{around-unbegun}
use Rattle.txn_history.specs.Event.{Event, Has}
use Rattle.txn_history.specs.Event.Event.{Took}
use Rattle.txn_kv.specs.ErrorView.{ErrorView, key, region}
use Rattle.txn_kv.specs.declared.errors.Error.{Error}
use Rattle.txn_kv.specs.declared.message.RegionErr.{RegionErr}
use Rattle.txn_kv.specs.declared.reply.commits.CommitResponse.{CommitResponse}
use Rattle.txn_kv.specs.declared.reply.commits.PrewriteResponse.{PrewriteResponse}
use Rattle.txn_kv.specs.declared.reply.Reply.{Reply}
use Rattle.txn_kv.specs.declared.ticket.Ticket.{Ticket}
use Rattle.txn_kv.specs.declared.request.Request.{Request}
use Rattle.txn_kv.specs.declared.reply.Reply.TheVariants as reply
use Rattle.txn_kv.specs.declared.request.commits.CommitRequest.{CommitRequest}
use Rattle.txn_kv.specs.declared.request.commits.PrewriteRequest.{PrewriteRequest}
use Rattle.txn_kv.specs.declared.request.Request.TheVariants.{Commit, Prewrite}
use Rattle.txn_merge.specs.Extracted.{views_in}
use Rattle.txn_merge.specs.KeyErrors.{no_error, no_errors, views_of_error}
use Rattle.txn_merge.specs.RegionErrors.{listed}
use Rattle.txn_plan.specs.Dispatch.{dispatch, unsent, unsent-unbegun, IsReplied}
use Rattle.txn_plan.specs.Extracted.{extracted, IsAnswer}
use Rattle.txn_plan.specs.declared.dispatch.Dispatch.{Dispatch}
use Rattle.txn_plan.specs.declared.extract_error.ExtractError.{ExtractError}
use Rattle.txn_commit.specs.Plans.{AreCommitted, ArePrewritten, IsPartOf, IsPlanFor}

-- an answer that holds no error is that of the plan inside

none_listed : (e : Option RegionErr) → map region (listed e) ≡ [] → e ≡ None
none_listed None i = refl
none_listed (Some e) i = cc

no_views : (ks : List ErrorView) (rs : List RegionErr) → views_in ks rs ≡ [] → (ks ≡ []) × (map region rs ≡ [])
no_views [] rs e = (refl, e)
no_views (k ∷ ks) rs e = cc

whole_answer : {V : Type 0} (keys : V → List ErrorView) (regions : V → List RegionErr) (x : Result V Error) (v : V) → IsAnswer keys regions x (Ok v) → (x ≡ Ok v) × (views_in (keys v) (regions v) ≡ [])
whole_answer keys regions x v (inl e) = cc
whole_answer keys regions (Ok w) v (inr i) = (ap Ok (sym i.1), subst (λ y. views_in (keys y) (regions y) ≡ []) (sym i.1) i.0)
whole_answer keys regions (Err e) v (inr i) = cc

replied_so : {V : Type 0} (reply_of : V → Reply) (keys : V → List ErrorView) (regions : V → List RegionErr) (r : Request) (h : List Event) (a : Result V Error) (v : V)
    → IsReplied reply_of r h a → IsAnswer keys regions a (Ok v) → (t : Ticket) × Has h (Took t r (reply_of v)) × (keys v ≡ []) × (map region (regions v) ≡ [])
replied_so reply_of keys regions r h a v g i =
    let w = whole_answer keys regions a v i in
    let f = subst (λ x. IsReplied reply_of r h x) w.0 g in
    let n = no_views (keys v) (regions v) w.1 in
    (f.0, f.1, n.0, n.1)

pub once_prewrites : (request : PrewriteRequest) (store : ℕ) (p : ExtractError (Dispatch PrewriteRequest PrewriteResponse) PrewriteResponse) → p.inner ≡ unsent request (Some store)
    → IsPlanFor (extracted (dispatch Prewrite reply.Prewrite) (λ v. map key v.errors) (λ v. listed v.region_error)) (λ h e. ⊤) (λ k n. 1) (Prewrite request) p
once_prewrites request store p e = record {
  unbegun = around-unbegun (dispatch Prewrite reply.Prewrite) (λ s. s.inner) (λ s. IsAnswer (λ (v : PrewriteResponse). map key v.errors) (λ v. listed v.region_error)) (λ s. ⊤) (λ b. false) p (rw e (unsent-unbegun Prewrite reply.Prewrite request (Some store)));
  ready = (rw e refl, tt);
  light = λ n. le_refl 1;
  asks = λ h r a. inl (of_request r (a.1 ∙ ap (λ (s : Dispatch PrewriteRequest PrewriteResponse). Prewrite s.request) e));
  means = λ h v g. prewritten h v (replied_so reply.Prewrite (λ v. map key v.errors) (λ v. listed v.region_error) (Prewrite request) h g.0 v (subst (λ (s : Dispatch PrewriteRequest PrewriteResponse). IsReplied reply.Prewrite (Prewrite s.request) h g.0) e g.1) g.2);
  fails = λ h x g. tt;
}
  where
    of_request : (r : Request) → r ≡ Prewrite request → IsPartOf (Prewrite request) r
    of_request r f = rw f (refl, (λ m a. a), λ d. d)

    prewritten : (h : List Event) (v : PrewriteResponse) → (t : Ticket) × Has h (Took t (Prewrite request) (reply.Prewrite v)) × (map key v.errors ≡ []) × (map region (listed v.region_error) ≡ []) → ArePrewritten request h
    prewritten h v (t, taken, ks, rs) m among = record { ticket = t; request = request; response = v; taken = taken; fine = (none_listed v.region_error rs, sym (no_errors v.errors ks)); alike = refl; names = among }

pub once_commits : (request : CommitRequest) (store : ℕ) (p : ExtractError (Dispatch CommitRequest CommitResponse) CommitResponse) → p.inner ≡ unsent request (Some store)
    → IsPlanFor (extracted (dispatch Commit reply.Commit) (λ v. views_of_error v.error) (λ v. listed v.region_error)) (λ h e. ⊤) (λ k n. 1) (Commit request) p
once_commits request store p e = record {
  unbegun = around-unbegun (dispatch Commit reply.Commit) (λ s. s.inner) (λ s. IsAnswer (λ (v : CommitResponse). views_of_error v.error) (λ v. listed v.region_error)) (λ s. ⊤) (λ b. false) p (rw e (unsent-unbegun Commit reply.Commit request (Some store)));
  ready = (rw e refl, tt);
  light = λ n. le_refl 1;
  asks = λ h r a. inl (of_request r (a.1 ∙ ap (λ (s : Dispatch CommitRequest CommitResponse). Commit s.request) e));
  means = λ h v g. committed h v (replied_so reply.Commit (λ v. views_of_error v.error) (λ v. listed v.region_error) (Commit request) h g.0 v (subst (λ (s : Dispatch CommitRequest CommitResponse). IsReplied reply.Commit (Commit s.request) h g.0) e g.1) g.2);
  fails = λ h x g. tt;
}
  where
    of_request : (r : Request) → r ≡ Commit request → IsPartOf (Commit request) r
    of_request r f = rw f (refl, refl, (λ k g. g), λ k g. (k, g))

    committed : (h : List Event) (v : CommitResponse) → (t : Ticket) × Has h (Took t (Commit request) (reply.Commit v)) × (views_of_error v.error ≡ []) × (map region (listed v.region_error) ≡ []) → AreCommitted request.start_version request.commit_version request.keys h
    committed h v (t, taken, ks, rs) k named = (t, request, v, taken, (none_listed v.region_error rs, sym (no_error v.error ks)), refl, refl, named)
