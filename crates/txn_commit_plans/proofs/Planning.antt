-- The plans of a Prewrite, a Commit and a BatchRollback are plans of them.
use Rattle.std.proofs.Common.{◌≡◌, inl, inr, ℕ, ◌*◌, ◌≤◌, false, List, [], ◌∷◌, Option, length, map, refl, sym, ap, subst, ◌∙◌, arith}
use Rattle.std.specs.Global.{Vec}
use Rattle.std.specs.List.{filter_map}
use Rattle.std.specs.Prelude.{◌⊎◌, ⊤, Result, Ok, Err}
use Rattle.txn_history.specs.Around.{around-unbegun}
use Rattle.txn_history.specs.Event.{Event}
use Rattle.txn_history.specs.Meaning.{IsUnbegun}
use Rattle.txn_kv.specs.ErrorView.{ErrorView, key}
use Rattle.txn_kv.specs.declared.errors.Error.{Error}
use Rattle.txn_kv.specs.declared.message.Context.{Context}
use Rattle.txn_kv.specs.declared.message.RegionErr.{RegionErr}
use Rattle.txn_kv.specs.declared.reply.commits.BatchRollbackResponse.{BatchRollbackResponse}
use Rattle.txn_kv.specs.declared.reply.commits.CommitResponse.{CommitResponse}
use Rattle.txn_kv.specs.declared.reply.commits.PrewriteResponse.{PrewriteResponse}
use Rattle.txn_kv.specs.declared.reply.Reply.TheVariants as reply
use Rattle.txn_kv.specs.declared.request.commits.BatchRollbackRequest.{BatchRollbackRequest}
use Rattle.txn_kv.specs.declared.request.commits.CommitRequest.{CommitRequest}
use Rattle.txn_kv.specs.declared.request.commits.PrewriteRequest.{PrewriteRequest}
use Rattle.txn_kv.specs.declared.request.Request.{Request}
use Rattle.txn_kv.specs.declared.request.Request.TheVariants.{BatchRollback, Commit, Prewrite}
use Rattle.txn_merge.specs.Extracted.{views_in}
use Rattle.txn_merge.specs.Firsts.{first_seen, region_in, seen_in}
use Rattle.txn_merge.specs.Gathered.{FirstErrorOr}
use Rattle.txn_merge.specs.KeyErrors.{no_error, no_errors, views_of_error}
use Rattle.txn_merge.specs.Locks.{locks_of_error, locks_of_errors}
use Rattle.txn_merge.specs.declared.retry_options.RetryOptions.{RetryOptions}
use Rattle.txn_multi.specs.Cutting.{IsPlacement}
use Rattle.txn_multi.specs.Few.{by_items}
use Rattle.txn_plan.specs.Extracted.{IsAnswer}
use Rattle.txn_plan.specs.Merged.{IsMerged}
use Rattle.txn_shard.specs.Parts.{BatchRollbackPart, CommitPart, PrewritePart}
use Rattle.txn_shard.specs.Shards.{AreJoined, ArePieces}
use Rattle.txn_history.specs.Foreign.{IsForeign}
use Rattle.txn_commit.specs.Plans.{AreCommitted, ArePrewritten, AreRolledBack, IsPartOf, IsPlanFor}
use Rattle.txn_commit_plans.specs.Failing.{HasGivenWith}
use Rattle.txn_commit_plans.specs.Kinds.{collected, commit_keys, commit_plan, commit_retries, commits, mutations_of, prewrite_plan, prewrite_retries, prewrites, rollback_keys, rollback_plan, rollback_retries, rollbacks, Collected, CommitPlan, Commits, PrewritePlan, Prewrites, RollbackPlan, Rollbacks}
use Rattle.txn_commit_plans.specs.OverRegions.{retries_of}
use Rattle.txn_commit_plans.proofs.Answering.{answered, ok_if_clean, ok_if_collected, sends, AreAnswered}
use Rattle.txn_commit_plans.proofs.Pieces.{among_key, key_among, key_of_part, key_stands, part_with, some_key}
use Rattle.txn_commit_plans.proofs.Placing.{foreign}

-- an answer that holds no error is that of the plan inside

no_views : (ks : List ErrorView) (rs : List RegionErr) → views_in ks rs ≡ [] → ks ≡ []
no_views [] rs e = refl
no_views (k ∷ ks) rs e = cc

whole_answer : {V : Type 0} (keys : V → List ErrorView) (regions : V → List RegionErr) (x : Result V Error) (v : V) → IsAnswer keys regions x (Ok v) → (x ≡ Ok v) × (keys v ≡ [])
whole_answer keys regions x v (inl e) = cc
whole_answer keys regions (Ok w) v (inr i) = (ap Ok (sym i.1), subst (λ y. keys y ≡ []) (sym i.1) (no_views (keys w) (regions w) i.0))
whole_answer keys regions (Err e) v (inr i) = cc

-- a plan over regions posts one request for each item, and no more than it has parts
light_each : (items n : ℕ) → by_items items n * 1 ≤ by_items items n
light_each items n = omega arith

-- A Commit

commit_part : (request : CommitRequest) (context : Option Context) (q : CommitRequest) → CommitPart q (record request { context = context }) → IsPartOf (Commit request) (Commit q)
commit_part request context q i = (
  ap (λ (r : CommitRequest). r.start_version) i.0,
  ap (λ (r : CommitRequest). r.commit_version) i.0,
  (λ k g. key_of_part q.keys request.keys i.1 k g),
  λ k g. some_key q.keys (i.2 (key_stands request.keys k g)),
)

committed : (request : CommitRequest) (context : Option Context) (h : List Event)
    → AreAnswered Commit reply.Commit (λ (v : CommitResponse). views_of_error v.error) (λ v. v.region_error) CommitPart commit_keys (λ whole pieces. ArePieces whole pieces) h (record request { context = context })
    → AreCommitted request.start_version request.commit_version request.keys h
committed request context h a k named =
    let f = part_with (λ key. key) (λ p. p.plan.inner.request.keys) request.keys a.parts k a.cut.joined (key_among request.keys k named) in
    let i = a.belong f.0 f.1 in
    let e = a.each f.0 f.1 in (
      e.ticket,
      f.0.plan.inner.request,
      e.response,
      e.taken,
      (e.placed, sym (no_error e.response.error e.clean)),
      ap (λ (r : CommitRequest). r.start_version) i.0,
      ap (λ (r : CommitRequest). r.commit_version) i.0,
      among_key f.0.plan.inner.request.keys k f.2,
    )

pub plans_commit : (request : CommitRequest) (context : Option Context) (p : CommitPlan) → p.inner.inner.inner.request ≡ record request { context = context } → p.inner.preserve_region_results ≡ false
    → IsUnbegun commit_plan p → commit_plan.ready p → IsPlanFor commit_plan (HasGivenWith commit_plan commit_retries (commit_retries p)) by_items (Commit request) p
plans_commit request context p e all u r = record {
  unbegun = u;
  ready = r;
  light = λ n. subst (λ (r : CommitRequest). by_items (length r.keys) n * 1 ≤ by_items (length request.keys) n) (sym e) (light_each (length request.keys) n);
  asks = λ h q a. sent q h (sends Commit reply.Commit (λ v. views_of_error v.error) (λ v. v.region_error) (λ v. locks_of_error v.error) CommitPart commit_keys (λ whole pieces. ArePieces whole pieces) (λ r. by_items (length r.keys)) p.inner h q a);
  means = λ h v g. answers h v g.0 g.1 (whole_answer (λ (x : Vec (Result CommitResponse Error)). first_seen (seen_in (λ (y : CommitResponse). views_of_error y.error)) x.items) _ g.0 v g.2);
  fails = λ h x g. (p, refl, g);
}
  where
    sent : (q : Request) (h : List Event) → ((part : CommitRequest) × CommitPart part p.inner.inner.inner.request × (q ≡ Commit part)) ⊎ IsPlacement h q → IsPartOf (Commit request) q ⊎ IsForeign h q
    sent q h (inl s) = inl (subst (IsPartOf (Commit request)) (sym s.2) (commit_part request context s.0 (subst (CommitPart s.0) e s.1)))
    sent q h (inr f) = inr (foreign h q f)

    answers : (h : List Event) (v : Vec (Result CommitResponse Error)) (a : Result (Vec (Result CommitResponse Error)) Error) → commits.gives p.inner h a
        → (a ≡ Ok v) × (first_seen (seen_in (λ (y : CommitResponse). views_of_error y.error)) v.items ≡ []) → AreCommitted request.start_version request.commit_version request.keys h
    answers h v a g w =
        committed request context h (subst (λ x. AreAnswered Commit reply.Commit (λ (y : CommitResponse). views_of_error y.error) (λ y. y.region_error) CommitPart commit_keys (λ whole pieces. ArePieces whole pieces) h x) e
        (answered Commit reply.Commit (λ y. views_of_error y.error) (λ y. y.region_error) (λ y. locks_of_error y.error) CommitPart commit_keys (λ whole pieces. ArePieces whole pieces) (λ r. by_items (length r.keys)) p.inner h v all
        (subst (λ x. commits.gives p.inner h x) w.0 g) (ok_if_clean (λ (y : CommitResponse). views_of_error y.error) v.items w.1)))

-- A BatchRollback

rollback_part : (request : BatchRollbackRequest) (context : Option Context) (q : BatchRollbackRequest) → BatchRollbackPart q (record request { context = context }) → IsPartOf (BatchRollback request) (BatchRollback q)
rollback_part request context q i = (ap (λ (r : BatchRollbackRequest). r.start_version) i.0, λ k g. key_of_part q.keys request.keys i.1 k g)

rolled_back : (request : BatchRollbackRequest) (context : Option Context) (h : List Event)
    → AreAnswered BatchRollback reply.BatchRollback (λ (v : BatchRollbackResponse). views_of_error v.error) (λ v. v.region_error) BatchRollbackPart rollback_keys (λ whole pieces. AreJoined whole pieces) h (record request { context = context })
    → AreRolledBack request.start_version request.keys h
rolled_back request context h a k named =
    let f = part_with (λ key. key) (λ p. p.plan.inner.request.keys) request.keys a.parts k a.cut (key_among request.keys k named) in
    let i = a.belong f.0 f.1 in
    let e = a.each f.0 f.1 in (
      e.ticket,
      f.0.plan.inner.request,
      e.response,
      e.taken,
      (e.placed, sym (no_error e.response.error e.clean)),
      ap (λ (r : BatchRollbackRequest). r.start_version) i.0,
      among_key f.0.plan.inner.request.keys k f.2,
    )

pub plans_rollback : (request : BatchRollbackRequest) (context : Option Context) (p : RollbackPlan) → p.inner.inner.inner.request ≡ record request { context = context } → p.inner.preserve_region_results ≡ false
    → IsUnbegun rollback_plan p → rollback_plan.ready p → IsPlanFor rollback_plan (HasGivenWith rollback_plan rollback_retries (rollback_retries p)) by_items (BatchRollback request) p
plans_rollback request context p e all u r = record {
  unbegun = u;
  ready = r;
  light = λ n. subst (λ (r : BatchRollbackRequest). by_items (length r.keys) n * 1 ≤ by_items (length request.keys) n) (sym e) (light_each (length request.keys) n);
  asks = λ h q a. sent q h (sends BatchRollback reply.BatchRollback (λ v. views_of_error v.error) (λ v. v.region_error) (λ v. locks_of_error v.error) BatchRollbackPart rollback_keys (λ whole pieces. AreJoined whole pieces) (λ r. by_items (length r.keys)) p.inner h q a);
  means = λ h v g. answers h v g.0 g.1 (whole_answer (λ (x : Vec (Result BatchRollbackResponse Error)). first_seen (seen_in (λ (y : BatchRollbackResponse). views_of_error y.error)) x.items) _ g.0 v g.2);
  fails = λ h x g. (p, refl, g);
}
  where
    sent : (q : Request) (h : List Event) → ((part : BatchRollbackRequest) × BatchRollbackPart part p.inner.inner.inner.request × (q ≡ BatchRollback part)) ⊎ IsPlacement h q → IsPartOf (BatchRollback request) q ⊎ IsForeign h q
    sent q h (inl s) = inl (subst (IsPartOf (BatchRollback request)) (sym s.2) (rollback_part request context s.0 (subst (BatchRollbackPart s.0) e s.1)))
    sent q h (inr f) = inr (foreign h q f)

    answers : (h : List Event) (v : Vec (Result BatchRollbackResponse Error)) (a : Result (Vec (Result BatchRollbackResponse Error)) Error) → rollbacks.gives p.inner h a
        → (a ≡ Ok v) × (first_seen (seen_in (λ (y : BatchRollbackResponse). views_of_error y.error)) v.items ≡ []) → AreRolledBack request.start_version request.keys h
    answers h v a g w =
        rolled_back request context h (subst (λ x. AreAnswered BatchRollback reply.BatchRollback (λ (y : BatchRollbackResponse). views_of_error y.error) (λ y. y.region_error) BatchRollbackPart rollback_keys (λ whole pieces. AreJoined whole pieces) h x) e
        (answered BatchRollback reply.BatchRollback (λ y. views_of_error y.error) (λ y. y.region_error) (λ y. locks_of_error y.error) BatchRollbackPart rollback_keys (λ whole pieces. AreJoined whole pieces) (λ r. by_items (length r.keys)) p.inner h v all
        (subst (λ x. rollbacks.gives p.inner h x) w.0 g) (ok_if_clean (λ (y : BatchRollbackResponse). views_of_error y.error) v.items w.1)))

-- A Prewrite

prewrite_part : (request : PrewriteRequest) (context : Option Context) (q : PrewriteRequest) → PrewritePart q (record request { context = context }) → IsPartOf (Prewrite request) (Prewrite q)
prewrite_part request context q i = (i.0, i.1, i.2)

prewritten : (request : PrewriteRequest) (context : Option Context) (h : List Event)
    → AreAnswered Prewrite reply.Prewrite (λ (v : PrewriteResponse). map key v.errors) (λ v. v.region_error) PrewritePart mutations_of (λ whole pieces. AreJoined whole pieces) h (record request { context = context })
    → ArePrewritten request h
prewritten request context h a m among =
    let f = part_with (λ mutation. mutation.key) (λ p. p.plan.inner.request.mutations) request.mutations a.parts m a.cut among in
    let i = a.belong f.0 f.1 in
    let e = a.each f.0 f.1 in
    record {
      ticket = e.ticket;
      request = f.0.plan.inner.request;
      response = e.response;
      taken = e.taken;
      fine = (e.placed, sym (no_errors e.response.errors e.clean));
      alike = i.0;
      names = f.2;
    }

pub plans_prewrite : (request : PrewriteRequest) (context : Option Context) (p : PrewritePlan) → p.inner.inner.inner.inner.request ≡ record request { context = context } → p.inner.inner.preserve_region_results ≡ false
    → IsUnbegun prewrite_plan p → prewrite_plan.ready p → IsPlanFor prewrite_plan (HasGivenWith prewrite_plan prewrite_retries (prewrite_retries p)) by_items (Prewrite request) p
plans_prewrite request context p e all u r = record {
  unbegun = u;
  ready = r;
  light = λ n. subst (λ (r : PrewriteRequest). by_items (length r.mutations) n * 1 ≤ by_items (length request.mutations) n) (sym e) (light_each (length request.mutations) n);
  asks = λ h q a. sent q h (sends Prewrite reply.Prewrite (λ v. map key v.errors) (λ v. v.region_error) (λ v. locks_of_errors v.errors) PrewritePart mutations_of (λ whole pieces. AreJoined whole pieces) (λ r. by_items (length r.mutations)) p.inner.inner h q a);
  means = λ h v g. answers h v g.0 g.1 (whole_answer (λ (x : Vec PrewriteResponse). first_seen (λ (y : PrewriteResponse). map key y.errors) x.items) _ g.0 v g.2).0;
  fails = λ h x g. (p, refl, g);
}
  where
    sent : (q : Request) (h : List Event) → ((part : PrewriteRequest) × PrewritePart part p.inner.inner.inner.inner.request × (q ≡ Prewrite part)) ⊎ IsPlacement h q → IsPartOf (Prewrite request) q ⊎ IsForeign h q
    sent q h (inl s) = inl (subst (IsPartOf (Prewrite request)) (sym s.2) (prewrite_part request context s.0 (subst (PrewritePart s.0) e s.1)))
    sent q h (inr f) = inr (foreign h q f)

    gathered : (h : List Event) (v : Vec PrewriteResponse) (a : Result (Vec (Result PrewriteResponse Error)) Error) → prewrites.gives p.inner.inner h a
        → IsMerged (λ results result. FirstErrorOr (λ values out. out.items ≡ values) results result) a (Ok v) → ArePrewritten request h
    gathered h v (Ok results) g m =
        prewritten request context h (subst (λ x. AreAnswered Prewrite reply.Prewrite (λ (y : PrewriteResponse). map key y.errors) (λ y. y.region_error) PrewritePart mutations_of (λ whole pieces. AreJoined whole pieces) h x) e
        (answered Prewrite reply.Prewrite (λ y. map key y.errors) (λ y. y.region_error) (λ y. locks_of_errors y.errors) PrewritePart mutations_of (λ whole pieces. AreJoined whole pieces) (λ r. by_items (length r.mutations)) p.inner.inner h results all g (ok_if_collected results.items m.0)))
    gathered h v (Err why) g m = cc

    answers : (h : List Event) (v : Vec PrewriteResponse) (b : Result (Vec PrewriteResponse) Error) → collected.gives p.inner h b → b ≡ Ok v → ArePrewritten request h
    answers h v b g w = let f = subst (λ x. collected.gives p.inner h x) w g in gathered h v f.0 f.1 f.2

-- The plans as they are made: of a request over regions, whose errors are taken out.

pub made_commit : (request : CommitRequest) (context : Option Context) (options : RetryOptions) (s : Commits) (p : CommitPlan) → p.inner ≡ s → s.inner.inner.request ≡ record request { context = context } → s.preserve_region_results ≡ false → retries_of s ≡ options
    → IsUnbegun commits s → commits.ready s → IsPlanFor commit_plan (HasGivenWith commit_plan commit_retries options) by_items (Commit request) p
made_commit request context options s p e same all tries u r =
    subst (λ x. IsPlanFor commit_plan (HasGivenWith commit_plan commit_retries x) by_items (Commit request) p) (ap (λ (x : Commits). retries_of x) e ∙ tries)
    (plans_commit request context p (ap (λ (x : Commits). x.inner.inner.request) e ∙ same) (ap (λ (x : Commits). x.preserve_region_results) e ∙ all)
    (around-unbegun commits (λ x. x.inner) (λ x. IsAnswer (λ v. first_seen (seen_in (λ (y : CommitResponse). views_of_error y.error)) v.items) (λ v. filter_map (region_in (λ (y : CommitResponse). y.region_error)) v.items)) (λ x. ⊤) (λ b. false) p (subst (IsUnbegun commits) (sym e) u))
    (subst commits.ready (sym e) r, tt))

pub made_rollback : (request : BatchRollbackRequest) (context : Option Context) (options : RetryOptions) (s : Rollbacks) (p : RollbackPlan) → p.inner ≡ s → s.inner.inner.request ≡ record request { context = context } → s.preserve_region_results ≡ false → retries_of s ≡ options
    → IsUnbegun rollbacks s → rollbacks.ready s → IsPlanFor rollback_plan (HasGivenWith rollback_plan rollback_retries options) by_items (BatchRollback request) p
made_rollback request context options s p e same all tries u r =
    subst (λ x. IsPlanFor rollback_plan (HasGivenWith rollback_plan rollback_retries x) by_items (BatchRollback request) p) (ap (λ (x : Rollbacks). retries_of x) e ∙ tries)
    (plans_rollback request context p (ap (λ (x : Rollbacks). x.inner.inner.request) e ∙ same) (ap (λ (x : Rollbacks). x.preserve_region_results) e ∙ all)
    (around-unbegun rollbacks (λ x. x.inner) (λ x. IsAnswer (λ v. first_seen (seen_in (λ (y : BatchRollbackResponse). views_of_error y.error)) v.items) (λ v. filter_map (region_in (λ (y : BatchRollbackResponse). y.region_error)) v.items)) (λ x. ⊤) (λ b. false) p (subst (IsUnbegun rollbacks) (sym e) u))
    (subst rollbacks.ready (sym e) r, tt))

pub made_prewrite : (request : PrewriteRequest) (context : Option Context) (options : RetryOptions) (s : Prewrites) (m : Collected) (p : PrewritePlan) → p.inner ≡ m → m.inner ≡ s → s.inner.inner.request ≡ record request { context = context } → s.preserve_region_results ≡ false → retries_of s ≡ options
    → IsUnbegun prewrites s → prewrites.ready s → IsPlanFor prewrite_plan (HasGivenWith prewrite_plan prewrite_retries options) by_items (Prewrite request) p
made_prewrite request context options s m p e f same all tries u r =
    let g = ap (λ (x : Collected). x.inner) e ∙ f in
    subst (λ x. IsPlanFor prewrite_plan (HasGivenWith prewrite_plan prewrite_retries x) by_items (Prewrite request) p) (ap (λ (x : Prewrites). retries_of x) g ∙ tries)
    (plans_prewrite request context p (ap (λ (x : Prewrites). x.inner.inner.request) g ∙ same) (ap (λ (x : Prewrites). x.preserve_region_results) g ∙ all)
    (around-unbegun collected (λ x. x.inner) (λ x. IsAnswer (λ v. first_seen (λ (y : PrewriteResponse). map key y.errors) v.items) (λ v. filter_map (λ (y : PrewriteResponse). y.region_error) v.items)) (λ x. ⊤) (λ b. false) p
    (around-unbegun prewrites (λ x. x.inner) (λ x. IsMerged (λ results result. FirstErrorOr (λ values out. out.items ≡ values) results result)) (λ x. ⊤) (λ b. false) p.inner (subst (IsUnbegun prewrites) (sym g) u)))
    ((subst prewrites.ready (sym g) r, tt), tt))
