-- The plan of a Cleanup is one of its lock.
use Rattle.std.proofs.Common.{◌≡◌, inl, inr, Bool, ℕ, false, List, [], Option, refl, sym, ap, subst, ◌∙◌}
use Rattle.std.proofs.Math.Nat.{le_refl}
use Rattle.std.specs.Global.{Vec}
use Rattle.std.specs.Prelude.{◌⊎◌, ⊤, Result, Ok, Err}
use Rattle.txn_history.specs.Around.{around-unbegun}
use Rattle.txn_history.specs.Event.{Event, Has}
use Rattle.txn_history.specs.Event.Event.{Took}
use Rattle.txn_history.specs.Foreign.{IsForeign}
use Rattle.txn_history.specs.Meaning.{IsUnbegun}
use Rattle.txn_kv.specs.ErrorView.{view_of}
use Rattle.txn_kv.specs.declared.errors.Error.{Error}
use Rattle.txn_kv.specs.declared.errors.Error.TheVariants.{OutOfMemory}
use Rattle.txn_kv.specs.declared.message.Context.{Context}
use Rattle.txn_kv.specs.declared.message.LockInfo.{LockInfo}
use Rattle.txn_kv.specs.declared.reply.Reply.TheVariants as reply
use Rattle.txn_kv.specs.declared.reply.locks.CleanupResponse.{CleanupResponse}
use Rattle.txn_kv.specs.declared.request.Request.{Request}
use Rattle.txn_kv.specs.declared.request.Request.TheVariants.{Cleanup}
use Rattle.txn_kv.specs.declared.request.locks.CleanupRequest.{CleanupRequest}
use Rattle.txn_merge.specs.Gathered.{single_of}
use Rattle.txn_merge.specs.KeyErrors.{no_error, views_of_error}
use Rattle.txn_merge.specs.Processed.{at_ok}
use Rattle.txn_multi.specs.Cutting.{IsLookUpRefused, IsPlacement}
use Rattle.txn_multi.specs.Multi.{IsAnswer}
use Rattle.txn_multi.specs.Task.{attempts_left, IsResult}
use Rattle.txn_multi.specs.declared.part.Part.{Part}
use Rattle.txn_plan.specs.Dispatch.{IsReplied}
use Rattle.txn_plan.specs.Merged.{IsMerged}
use Rattle.txn_resolve.specs.Unlocked.{IsUnlocked}
use Rattle.txn_settle.specs.Requests.{cleanup_of, WasSeen}
use Rattle.txn_settle.proofs.Licensing.{cleanup_licensed}
use Rattle.txn_shard.specs.Parts.{CleanupPart}
use Rattle.txn_lock.specs.Failing.{HasNoReply, IsRefusedForKeys}
use Rattle.txn_lock.specs.Plans.{cleanup_plan, cleanup_shard, cleanups, collected_cleanup, CleanupPlan, CleanupShard, Cleanups, CollectedCleanup}
use Rattle.txn_lock.specs.Settling.{ten_attempts, IsCleanupOf, IsCleanupPlan, IsDecided}
use Rattle.txn_lock.proofs.Placing.{placed_foreign}
use Rattle.txn_lock.proofs.Resulting.{alone, part_failed, part_refused, AloneGives}

-- no lock is taken out of a reply

unlocked_value : (s : CleanupShard) (h : List Event) (v : CleanupResponse) → cleanup_shard.gives s h (Ok v) → IsReplied reply.Cleanup (Cleanup s.inner.request) h (Ok v)
unlocked_value s h v g = by g.0 g.1 g.2
  where
    by : (a : Result CleanupResponse Error) → IsReplied reply.Cleanup (Cleanup s.inner.request) h a → IsUnlocked (λ v. []) a (Ok v) → IsReplied reply.Cleanup (Cleanup s.inner.request) h (Ok v)
    by (Ok x) r (inl e) = cc
    by (Ok x) r (inr l) = subst (λ (y : CleanupResponse). IsReplied reply.Cleanup (Cleanup s.inner.request) h (Ok y)) (sym l.1) r
    by (Err why) r e = cc

unlocked_error : (s : CleanupShard) (h : List Event) (e : Error) → cleanup_shard.gives s h (Err e) → (e ≡ OutOfMemory) ⊎ IsReplied reply.Cleanup (Cleanup s.inner.request) h (Err e)
unlocked_error s h e g = by g.0 g.1 g.2
  where
    by : (a : Result CleanupResponse Error) → IsReplied reply.Cleanup (Cleanup s.inner.request) h a → IsUnlocked (λ v. []) a (Err e) → (e ≡ OutOfMemory) ⊎ IsReplied reply.Cleanup (Cleanup s.inner.request) h (Err e)
    by (Ok x) r (inl i) = inl cc
    by (Ok x) r (inr l) = absurd (l.0 refl)
    by (Err why) r i = inr (let same : why ≡ e = cc in subst (λ (y : Error). IsReplied reply.Cleanup (Cleanup s.inner.request) h (Err y)) same r)

own_part : (lock : LockInfo) (at : Option Context) (q : CleanupRequest) → CleanupPart q (cleanup_of lock at) → IsCleanupOf lock q
own_part lock at q i = (q.context, i)

-- a Cleanup of the lock has its licence
pub cleanup_foreign : (h : List Event) (lock : LockInfo) (q : CleanupRequest) → WasSeen h lock → IsCleanupOf lock q → IsForeign h (Cleanup q)
cleanup_foreign h lock q seen own = subst (λ (x : CleanupRequest). IsForeign h (Cleanup x)) (sym own.1) (cleanup_licensed h lock own.0 seen)

-- What is made of its one reply.

abbrev Reads : LockInfo → ℕ → List Event → Result CleanupResponse Error → Type 0
Reads lock attempts h (Ok v) = IsDecided h lock v.commit_version
Reads lock attempts h (Err e) =
    HasNoReply (IsCleanupOf lock) Cleanup reply.Cleanup (λ (v : CleanupResponse). v.region_error) attempts h e
    ⊎ IsRefusedForKeys (IsCleanupOf lock) Cleanup reply.Cleanup (λ (v : CleanupResponse). views_of_error v.error) h (view_of e)

module _ (lock : LockInfo) (h : List Event) where
  decided : (s : CleanupShard) (v : CleanupResponse) → IsCleanupOf lock s.inner.request → IsResult cleanup_shard (λ v. views_of_error v.error) (λ v. v.region_error) s h (Ok v) → IsDecided h lock v.commit_version
  decided s v own i = let r = unlocked_value s h v i.0 in record {
    ticket = r.0;
    at = own.0;
    answer = v;
    taken = subst (λ (x : CleanupRequest). Has h (Took r.0 (Cleanup x) (reply.Cleanup v))) own.1 r.1;
    fine = (i.2, sym (no_error v.error i.1));
    version = refl;
  }

  one_part : (attempts : ℕ) (p : Part CleanupShard) (b : Result CleanupResponse Error) → IsCleanupOf lock p.plan.inner.request
      → AloneGives cleanup_shard (λ v. views_of_error v.error) (λ v. v.region_error) (λ s. ⊤) attempts h p b → Reads lock attempts h b
  one_part attempts p (Ok v) own g = decided p.plan v own g
  one_part attempts p (Err e) own (inl starved) = inl (inl starved)
  one_part attempts p (Err e) own (inr (inl r)) = inr (part_refused cleanup_shard (λ s. s.inner.request) Cleanup reply.Cleanup (λ v. views_of_error v.error) (λ v. v.region_error) (IsCleanupOf lock) unlocked_value unlocked_error p.plan h e own r)
  one_part attempts p (Err e) own (inr (inr o)) = inl (part_failed cleanup_shard (λ s. s.inner.request) Cleanup reply.Cleanup (λ v. views_of_error v.error) (λ v. v.region_error) (IsCleanupOf lock) unlocked_value unlocked_error attempts p h e own o)

  unfound : (attempts : ℕ) (why : Error) (b : Result CleanupResponse Error) → IsLookUpRefused h why → b ≡ Err why → Reads lock attempts h b
  unfound attempts why (Ok v) refused e = cc
  unfound attempts why (Err e) refused i = let same : why ≡ e = cc in inl (inr (inl (subst (IsLookUpRefused h) same refused)))

  collected : (at : Option Context) (s : Cleanups) → s.inner.inner.request ≡ cleanup_of lock at → s.preserve_region_results ≡ false
      → (a : Result (Vec (Result CleanupResponse Error)) Error) → cleanups.gives s h a → (b : Result CleanupResponse Error) → IsMerged (λ results result. result ≡ single_of results) a b → Reads lock (attempts_left s.backoff) h b
  collected at s same errors a (inl g) b i =
      let x = alone cleanup_shard (λ v. views_of_error v.error) (λ v. v.region_error) (λ q. CleanupPart q.inner.request s.inner.inner.request) (attempts_left s.backoff) h s.inner.inner.request.key (λ q. q.inner.request.key) g.0 g.1 g.2.cut g.2.belong g.2.each
      a (subst (λ (kept : Bool). IsAnswer kept g.1 a) errors g.3) b i in
      one_part (attempts_left s.backoff) x.0 b (own_part lock at x.0.plan.inner.request (subst (CleanupPart x.0.plan.inner.request) same x.1)) x.2
  collected at s same errors (Ok results) (inr w) b i = let never = w.1 in cc
  collected at s same errors (Err why) (inr w) b i = unfound (attempts_left s.backoff) w.0 b w.2 (let first : why ≡ w.0 = let is = w.1 in cc in i ∙ ap (λ (x : Error). Err x) first)

  -- the answer is read in it
  version_read : (attempts : ℕ) (c : ℕ) (b : Result CleanupResponse Error) → Reads lock attempts h b → Ok c ≡ at_ok (λ (r : CleanupResponse). Ok r.commit_version) b → IsDecided h lock c
  version_read attempts c (Ok v) g e = let same : v.commit_version ≡ c = cc in subst (IsDecided h lock) same g
  version_read attempts c (Err why) g e = cc

  error_read : (attempts : ℕ) (e : Error) (b : Result CleanupResponse Error) → Reads lock attempts h b → Err e ≡ at_ok (λ (r : CleanupResponse). Ok r.commit_version) b → Reads lock attempts h (Err e)
  error_read attempts e (Ok v) g i = cc
  error_read attempts e (Err why) g i = let same : why ≡ e = cc in subst (λ (x : Error). Reads lock attempts h (Err x)) same g

pub made_cleanup : (lock : LockInfo) (at : Option Context) (s : Cleanups) (m : CollectedCleanup) (p : CleanupPlan) → p.inner ≡ m → m.inner ≡ s → s.inner.inner.request ≡ cleanup_of lock at → s.preserve_region_results ≡ false
    → s.backoff ≡ ten_attempts → s.inner.backoff ≡ ten_attempts → IsUnbegun cleanups s → cleanups.ready s → IsCleanupPlan lock p
made_cleanup lock at s m p e f same errors regions locks u r = record {
  unbegun = around-unbegun collected_cleanup (λ x. x.inner) (λ x input result. result ≡ at_ok (λ (r : CleanupResponse). Ok r.commit_version) input) (λ x. ⊤) (λ b. false) p
      (around-unbegun cleanups (λ x. x.inner) (λ x. IsMerged (λ results result. result ≡ single_of results)) (λ x. ⊤) (λ b. false) p.inner (subst (IsUnbegun cleanups) (sym whole) u));
  ready = ((subst cleanups.ready (sym whole) r, tt), tt);
  light = λ n. le_refl 1;
  regions = ap (λ (x : Cleanups). x.backoff) whole ∙ regions;
  locks = ap (λ (x : Cleanups). x.inner.backoff) whole ∙ locks;
  asks = λ h q a. sent h q a;
  licensed = λ h q seen a. elim (sent h q a) [ inl x ↦ subst (IsForeign h) (sym x.2) (cleanup_foreign h lock x.0 seen x.1) | inr x ↦ placed_foreign h q x ];
  means = λ h c g. version_read lock h (attempts_left p.inner.inner.backoff) c g.0 (reads h g.0 g.1) g.2;
  fails = λ h why g. subst (λ (n : ℕ). Reads lock n h (Err why)) (ap attempts_left (ap (λ (x : Cleanups). x.backoff) whole ∙ regions)) (error_read lock h (attempts_left p.inner.inner.backoff) why g.0 (reads h g.0 g.1) g.2);
}
  where
    whole : p.inner.inner ≡ s
    whole = ap (λ (x : CollectedCleanup). x.inner) e ∙ f

    asked : p.inner.inner.inner.inner.request ≡ cleanup_of lock at
    asked = ap (λ (x : Cleanups). x.inner.inner.request) whole ∙ same

    sent : (h : List Event) (q : Request) → cleanup_plan.asks p h q → ((x : CleanupRequest) × IsCleanupOf lock x × (q ≡ Cleanup x)) ⊎ IsPlacement h q
    sent h q (inl a) = inl (a.0.inner.request, own_part lock at a.0.inner.request (subst (CleanupPart a.0.inner.request) asked a.1), a.2.1)
    sent h q (inr a) = inr a

    reads : (h : List Event) (b : Result CleanupResponse Error) → collected_cleanup.gives p.inner h b → Reads lock (attempts_left p.inner.inner.backoff) h b
    reads h b g = collected lock h at p.inner.inner asked (ap (λ (x : Cleanups). x.preserve_region_results) whole ∙ errors) g.0 g.1 b g.2
