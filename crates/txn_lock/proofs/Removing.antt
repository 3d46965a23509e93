-- The plan of a PessimisticRollback is one of its lock.
use Rattle.std.proofs.Common.{◌≡◌, ◌≢◌, inl, inr, Bool, true, false, ℕ, ◌*◌, ◌≤◌, List, [], ◌∷◌, ◌++◌, Option, None, length, map, refl, sym, ap, subst, ◌∙◌, arith}
use Rattle.std.proofs.Math.Nat.{min-le_right}
use Rattle.std.specs.Global.{Vec}
use Rattle.std.specs.List.{cons_option, filter_map}
use Rattle.std.specs.Prelude.{◌⊎◌, ⊤, cond, max, Result, Ok, Err}
use Rattle.txn_history.specs.Among.{IsAmong}
use Rattle.txn_history.specs.Around.{around-unbegun}
use Rattle.txn_history.specs.Event.{Event, Has}
use Rattle.txn_history.specs.Event.Event.{Took}
use Rattle.txn_history.specs.Foreign.{IsForeign}
use Rattle.txn_history.specs.Meaning.{IsUnbegun}
use Rattle.txn_history.specs.Plan.{Plan}
use Rattle.txn_history.specs.Plan.Way.{TwoPhases}
use Rattle.txn_kv.specs.ErrorView.{key, listed, view_of, ErrorView}
use Rattle.txn_kv.specs.ErrorView.ErrorView.{extracted, region}
use Rattle.txn_kv.specs.declared.errors.Error.{Error}
use Rattle.txn_kv.specs.declared.message.Context.{Context}
use Rattle.txn_kv.specs.declared.message.LockInfo.{LockInfo}
use Rattle.txn_kv.specs.declared.message.RegionErr.{RegionErr}
use Rattle.txn_kv.specs.declared.reply.Reply.TheVariants as reply
use Rattle.txn_kv.specs.declared.reply.locks.PessimisticRollbackResponse.{PessimisticRollbackResponse}
use Rattle.txn_kv.specs.declared.request.Request.{Request}
use Rattle.txn_kv.specs.declared.request.Request.TheVariants.{PessimisticRollback}
use Rattle.txn_kv.specs.declared.request.locks.PessimisticRollbackRequest.{PessimisticRollbackRequest}
use Rattle.txn_merge.specs.Extracted.{views_in}
use Rattle.txn_merge.specs.Firsts.{first_seen, or_else, region_in, seen_in}
use Rattle.txn_merge.specs.KeyErrors.{no_errors}
use Rattle.txn_multi.specs.Cutting.{IsLookUpRefused, IsPlacement}
use Rattle.txn_multi.specs.Few.{by_items}
use Rattle.txn_multi.specs.Multi.{IsAnswer}
use Rattle.txn_multi.specs.Task.{attempts_left, IsResult}
use Rattle.txn_multi.specs.declared.part.Part.{Part}
use Rattle.txn_plan.specs.Extracted as Extracted
use Rattle.txn_region.specs.Regions.{Key}
use Rattle.txn_retry.specs.Outcome.{all_or_first}
use Rattle.txn_settle.specs.Requests.{rollback_of, WasSeen}
use Rattle.txn_settle.proofs.Licensing.{rollback_licensed}
use Rattle.txn_shard.specs.Batches.{joined}
use Rattle.txn_shard.specs.Order.{comes_before, in_order, placed}
use Rattle.txn_shard.specs.Parts.{PessimisticRollbackPart}
use Rattle.txn_shard.proofs.Licensed.{pessimistic_rollback_part}
use Rattle.txn_lock.specs.Failing.{HasNoReply, IsRefusedForKeys}
use Rattle.txn_lock.specs.Plans.{keys_of, removal_plan, removal_shard, removals, RemovalPlan, Removals, RemovalShard}
use Rattle.txn_lock.specs.Settling.{ten_attempts, IsNotRemoved, IsRemovalPlan, IsRemoved, IsRollbackOf}
use Rattle.txn_lock.proofs.Placing.{placed_foreign}
use Rattle.txn_lock.proofs.Resulting.{all_among, each_part, each_result, first_failed, part_failed, part_refused}

-- One key that is cut into pieces is one of them.

placed_some : (x : Key) (ys : List Key) → placed (λ k. k) x ys ≢ []
placed_some x [] e = cc
placed_some x (y ∷ ys) e = by (comes_before (λ k. k) y x) e
  where
    by : (b : Bool) → cond b (y ∷ placed (λ k. k) x ys) (x ∷ y ∷ ys) ≡ [] → ⊥
    by true e = cc
    by false e = cc

placed_more : (x k : Key) (ys : List Key) → ys ≢ [] → placed (λ k. k) x ys ≡ k ∷ [] → ⊥
placed_more x k [] some e = some refl
placed_more x k (y ∷ ys) some e = by (comes_before (λ k. k) y x) e
  where
    by : (b : Bool) → cond b (y ∷ placed (λ k. k) x ys) (x ∷ y ∷ ys) ≡ k ∷ [] → ⊥
    by true e = placed_some x ys cc
    by false e = cc

ordered_alone : (k : Key) (xs : List Key) → in_order (λ k. k) xs ≡ k ∷ [] → xs ≡ k ∷ []
ordered_alone k [] e = cc
ordered_alone k (x ∷ []) e = e
ordered_alone k (x ∷ y ∷ ys) e = absurd (placed_more x k (placed (λ k. k) y (in_order (λ k. k) ys)) (placed_some y (in_order (λ k. k) ys)) e)

first_alone : (k x : Key) (xs rest : List Key) → (x ∷ xs) ++ rest ≡ k ∷ [] → x ∷ xs ≡ k ∷ []
first_alone k x [] rest e = let same : x ≡ k = cc in ap (λ (y : Key). y ∷ []) same
first_alone k x (y ∷ ys) rest e = cc

whole_part : {P : Type 0} (load : P → List Key) (k : Key) (parts : List P) → joined (map load parts) ≡ k ∷ [] → (p : P) × IsAmong parts p × (load p ≡ k ∷ [])
whole_part load k [] e = cc
whole_part {P} load k (p ∷ parts) e = by (load p) refl e (whole_part load k parts)
  where
    by : (piece : List Key) → load p ≡ piece → piece ++ joined (map load parts) ≡ k ∷ [] → (joined (map load parts) ≡ k ∷ [] → (q : P) × IsAmong parts q × (load q ≡ k ∷ [])) → (q : P) × IsAmong (p ∷ parts) q × (load q ≡ k ∷ [])
    by [] is f more = let found = more f in (found.0, inr found.1, found.2)
    by (x ∷ xs) is f more = (p, inl refl, is ∙ first_alone k x xs (joined (map load parts)) f)

-- It names no key but the lock's.

no_plan : ℕ → Plan
no_plan s = record { primary = []; ops = λ k. None; writes = λ k. None; way = TwoPhases; one_phase = false }

-- a PessimisticRollback of the lock has its licence
pub rollback_foreign : (h : List Event) (lock : LockInfo) (q : PessimisticRollbackRequest) → WasSeen h lock → IsRollbackOf lock q → IsForeign h (PessimisticRollback q)
rollback_foreign h lock q seen own = pessimistic_rollback_part no_plan h q (rollback_of lock q.context) own (rollback_licensed h lock q.context seen)

own_part : (lock : LockInfo) (at : Option Context) (q : PessimisticRollbackRequest) → PessimisticRollbackPart q (rollback_of lock at) → IsRollbackOf lock q
own_part lock at q i = (i.0, i.1)

own_whole : (lock : LockInfo) (q : PessimisticRollbackRequest) → IsRollbackOf lock q → keys_of q ≡ lock.key ∷ [] → q ≡ rollback_of lock q.context
own_whole lock q own e = own.0 ∙ ap (λ (ks : List Key). record (rollback_of lock q.context) { keys = ks }) (ordered_alone lock.key q.keys e)

-- Results without an error hold no other; the first error is told.

or_none : (views others : List ErrorView) → or_else views others ≡ [] → (views ≡ []) × (others ≡ [])
or_none [] others e = (refl, e)
or_none (view ∷ views) others e = cc

none_among : (items : List (Result PessimisticRollbackResponse Error)) → first_seen (seen_in (λ (v : PessimisticRollbackResponse). map key v.errors)) items ≡ [] → (why : Error) → IsAmong items (Err why) → ⊥
none_among [] e why i = i
none_among (Ok v ∷ items) e why (inl same) = cc
none_among (Ok v ∷ items) e why (inr i) = none_among items (or_none (map key v.errors) (first_seen (seen_in (λ (v : PessimisticRollbackResponse). map key v.errors)) items) e).1 why i
none_among (Err first ∷ items) e why i = cc

module _ (lock : LockInfo) (h : List Event) where
  abbrev Refused : ErrorView → Type 0
  Refused = IsRefusedForKeys (IsRollbackOf lock) PessimisticRollback reply.PessimisticRollback (λ (v : PessimisticRollbackResponse). map key v.errors) h

  abbrev Resulted : Result PessimisticRollbackResponse Error → Type 0
  Resulted r = (p : Part RemovalShard) × PessimisticRollbackPart p.plan.request (rollback_of lock p.plan.request.context) × IsResult removal_shard (λ v. map key v.errors) (λ v. v.region_error) p.plan h r

  abbrev Seen : List (Result PessimisticRollbackResponse Error) → Type 0
  Seen items = ((first_seen (seen_in (λ (v : PessimisticRollbackResponse). map key v.errors)) items ≡ []) × (filter_map (region_in (λ (v : PessimisticRollbackResponse). v.region_error)) items ≡ []))
      ⊎ ((seen : ErrorView) × Refused seen × (first_seen (seen_in (λ (v : PessimisticRollbackResponse). map key v.errors)) items ≡ seen ∷ []))

  seen_first : (items : List (Result PessimisticRollbackResponse Error)) → ((r : Result PessimisticRollbackResponse Error) → IsAmong items r → Resulted r) → Seen items
  seen_first [] each = inl (refl, refl)
  seen_first (Ok v ∷ items) each = further (each (Ok v) (inl refl)) (seen_first items (λ r i. each r (inr i)))
    where
      further : Resulted (Ok v) → Seen items → Seen (Ok v ∷ items)
      further x (inl none) = inl (ap (λ (views : List ErrorView). or_else views (first_seen (seen_in (λ (v : PessimisticRollbackResponse). map key v.errors)) items)) x.2.1 ∙ none.0, ap (λ (e : Option RegionErr). cons_option e (filter_map (region_in (λ (v : PessimisticRollbackResponse). v.region_error)) items)) x.2.2 ∙ none.1)
      further x (inr some) = inr (some.0, some.1, ap (λ (views : List ErrorView). or_else views (first_seen (seen_in (λ (v : PessimisticRollbackResponse). map key v.errors)) items)) x.2.1 ∙ some.2)
  seen_first (Err why ∷ items) each =
      let x = each (Err why) (inl refl) in
      inr (view_of why, part_refused removal_shard (λ s. s.request) PessimisticRollback reply.PessimisticRollback (λ v. map key v.errors) (λ v. v.region_error) (IsRollbackOf lock) (λ s h v g. g) (λ s h e g. inr g) x.0.plan h why x.1 x.2, refl)

  told : (items : List (Result PessimisticRollbackResponse Error)) (views : List ErrorView) (e : Error) → Seen items
      → views_in (first_seen (seen_in (λ (v : PessimisticRollbackResponse). map key v.errors)) items) (filter_map (region_in (λ (v : PessimisticRollbackResponse). v.region_error)) items) ≡ views → views ≢ [] → view_of e ≡ extracted (listed views) → IsNotRemoved h lock e
  told items views e (inl none) is some v = absurd (some (sym is ∙ (ap (λ (ks : List ErrorView). views_in ks (filter_map (region_in (λ (v : PessimisticRollbackResponse). v.region_error)) items)) none.0 ∙ ap (λ (rs : List RegionErr). map region rs) none.1)))
  told items views e (inr s) is some v = inr (s.0, s.1, v ∙ ap (λ (ks : List ErrorView). extracted (listed ks)) (sym is ∙ ap (λ (ks : List ErrorView). views_in ks (filter_map (region_in (λ (v : PessimisticRollbackResponse). v.region_error)) items)) s.2))

  removed : (p : Part RemovalShard) (r : Result PessimisticRollbackResponse Error) → PessimisticRollbackPart p.plan.request (rollback_of lock p.plan.request.context) → keys_of p.plan.request ≡ lock.key ∷ []
      → IsResult removal_shard (λ v. map key v.errors) (λ v. v.region_error) p.plan h r → ((why : Error) → r ≡ Err why → ⊥) → IsRemoved h lock
  removed p (Ok v) own whole i fine = let g = i.0 in record {
    ticket = g.0;
    at = p.plan.request.context;
    answer = v;
    taken = subst (λ (x : PessimisticRollbackRequest). Has h (Took g.0 (PessimisticRollback x) (reply.PessimisticRollback v))) (own_whole lock p.plan.request own whole) g.1;
    fine = (i.2, sym (no_errors v.errors i.1));
  }
  removed p (Err why) own whole i fine = absurd (fine why refl)

  module _ (at : Option Context) (s : Removals) (same : s.inner.request ≡ rollback_of lock at) (errors : s.preserve_region_results ≡ false) where
    own_of : (q : PessimisticRollbackRequest) → PessimisticRollbackPart q s.inner.request → PessimisticRollbackPart q (rollback_of lock q.context)
    own_of q i = own_part lock at q (subst (PessimisticRollbackPart q) same i)

    answered : (results : Vec (Result PessimisticRollbackResponse Error)) → removals.gives s h (Ok results) → first_seen (seen_in (λ (v : PessimisticRollbackResponse). map key v.errors)) results.items ≡ [] → IsRemoved h lock
    answered results (inl g) clean =
        let ended : all_or_first g.1 ≡ Ok results.items = subst (λ (kept : Bool). IsAnswer kept g.1 (Ok results)) errors g.3 in
        let cut : joined (map (λ (p : Part RemovalShard). keys_of p.plan.request) g.0) ≡ lock.key ∷ [] = g.2.cut ∙ ap keys_of same in
        let f = whole_part (λ (p : Part RemovalShard). keys_of p.plan.request) lock.key g.0 cut in
        let r = each_part removal_shard (λ v. map key v.errors) (λ v. v.region_error) (λ q. PessimisticRollbackPart q.request s.inner.request) (attempts_left s.backoff) h g.0 g.1 results.items g.2.each ended f.0 f.1 in
        let own = all_among (λ (p : Part RemovalShard). PessimisticRollbackPart p.plan.request s.inner.request) g.0 f.0 g.2.belong f.1 in
        removed f.0 r.0 (own_of f.0.plan.request own) f.2 r.2 (λ why is. none_among results.items clean why (subst (IsAmong results.items) is r.1))
    answered results (inr w) clean = let never = w.1 in cc

    resulted : (results : Vec (Result PessimisticRollbackResponse Error)) → removals.gives s h (Ok results) → (r : Result PessimisticRollbackResponse Error) → IsAmong results.items r → Resulted r
    resulted results (inl g) r i =
        let ended : all_or_first g.1 ≡ Ok results.items = subst (λ (kept : Bool). IsAnswer kept g.1 (Ok results)) errors g.3 in
        let x = each_result removal_shard (λ v. map key v.errors) (λ v. v.region_error) (λ q. PessimisticRollbackPart q.request s.inner.request) (attempts_left s.backoff) h g.0 g.1 results.items g.2.belong g.2.each ended r i in
        (x.0, own_of x.0.plan.request x.1, x.2)
    resulted results (inr w) r i = let never = w.1 in cc

    failed : (why : Error) → removals.gives s h (Err why) → HasNoReply (IsRollbackOf lock) PessimisticRollback reply.PessimisticRollback (λ (v : PessimisticRollbackResponse). v.region_error) (attempts_left s.backoff) h why
    failed why (inl g) =
        let ended : all_or_first g.1 ≡ Err why = subst (λ (kept : Bool). IsAnswer kept g.1 (Err why)) errors g.3 in
        let x = first_failed removal_shard (λ v. map key v.errors) (λ v. v.region_error) (λ q. PessimisticRollbackPart q.request s.inner.request) (attempts_left s.backoff) h g.0 g.1 why g.2.belong g.2.each ended in
        part_failed removal_shard (λ s. s.request) PessimisticRollback reply.PessimisticRollback (λ v. map key v.errors) (λ v. v.region_error) (IsRollbackOf lock) (λ s h v g. g) (λ s h e g. inr g) (attempts_left s.backoff) x.0 h why (own_of x.0.plan.request x.1) x.2
    failed why (inr w) = let same : w.0 ≡ why = let is = w.1 in cc in inr (inl (subst (IsLookUpRefused h) same w.2))

-- What the plan answers

module _ (lock : LockInfo) (at : Option Context) (p : RemovalPlan) (same : p.inner.inner.request ≡ rollback_of lock at) (errors : p.inner.preserve_region_results ≡ false) (tries : p.inner.backoff ≡ ten_attempts) (h : List Event) where
  whole_answer : (v : Vec (Result PessimisticRollbackResponse Error)) (a : Result (Vec (Result PessimisticRollbackResponse Error)) Error) → removals.gives p.inner h a
      → Extracted.IsAnswer (λ (x : Vec (Result PessimisticRollbackResponse Error)). first_seen (seen_in (λ (r : PessimisticRollbackResponse). map key r.errors)) x.items) (λ x. filter_map (region_in (λ (r : PessimisticRollbackResponse). r.region_error)) x.items) a (Ok v) → IsRemoved h lock
  whole_answer v a g (inl e) = cc
  whole_answer v (Ok w) g (inr i) = answered lock h at p.inner same errors w g (clean (first_seen (seen_in (λ (r : PessimisticRollbackResponse). map key r.errors)) w.items) (filter_map (region_in (λ (r : PessimisticRollbackResponse). r.region_error)) w.items) i.0)
    where
      clean : (ks : List ErrorView) (rs : List RegionErr) → views_in ks rs ≡ [] → ks ≡ []
      clean [] rs e = refl
      clean (k ∷ ks) rs e = cc
  whole_answer v (Err why) g (inr i) = cc

  as_ten : (e : Error) → HasNoReply (IsRollbackOf lock) PessimisticRollback reply.PessimisticRollback (λ (v : PessimisticRollbackResponse). v.region_error) (attempts_left p.inner.backoff) h e → IsNotRemoved h lock e
  as_ten e f = inl (subst (λ (n : ℕ). HasNoReply (IsRollbackOf lock) PessimisticRollback reply.PessimisticRollback (λ (v : PessimisticRollbackResponse). v.region_error) n h e) (ap attempts_left tries) f)

  error_answer : (e : Error) (a : Result (Vec (Result PessimisticRollbackResponse Error)) Error) → removals.gives p.inner h a
      → Extracted.IsAnswer (λ (x : Vec (Result PessimisticRollbackResponse Error)). first_seen (seen_in (λ (r : PessimisticRollbackResponse). map key r.errors)) x.items) (λ x. filter_map (region_in (λ (r : PessimisticRollbackResponse). r.region_error)) x.items) a (Err e) → IsNotRemoved h lock e
  error_answer e a g (inl starved) = inl (inl (cc))
  error_answer e (Ok w) g (inr i) = told lock h w.items _ e (seen_first lock h w.items (resulted lock h at p.inner same errors w g)) refl i.0 i.1
  error_answer e (Err why) g (inr i) = let is : why ≡ e = cc in subst (λ (x : Error). IsNotRemoved h lock x) is (as_ten why (failed lock h at p.inner same errors why g))

pub made_removal : (lock : LockInfo) (at : Option Context) (s : Removals) (p : RemovalPlan) → p.inner ≡ s → s.inner.request ≡ rollback_of lock at → s.preserve_region_results ≡ false
    → s.backoff ≡ ten_attempts → IsUnbegun removals s → removals.ready s → IsRemovalPlan lock p
made_removal lock at s p e same errors tries u r = record {
  unbegun = around-unbegun removals (λ x. x.inner) (λ x. Extracted.IsAnswer (λ (v : Vec (Result PessimisticRollbackResponse Error)). first_seen (seen_in (λ (r : PessimisticRollbackResponse). map key r.errors)) v.items) (λ v. filter_map (region_in (λ (r : PessimisticRollbackResponse). r.region_error)) v.items)) (λ x. ⊤) (λ b. false) p
      (subst (IsUnbegun removals) (sym e) u);
  ready = (subst removals.ready (sym e) r, tt);
  light = λ n. subst (λ (q : PessimisticRollbackRequest). by_items (length q.keys) n * 1 ≤ 1) (sym asked) (let few : by_items 1 n ≤ 1 = min-le_right (max 1 n) 1 in omega arith);
  regions = regions;
  asks = λ h q a. sent h q a;
  licensed = λ h q seen a. elim (sent h q a) [ inl x ↦ subst (IsForeign h) (sym x.2) (rollback_foreign h lock x.0 seen x.1) | inr x ↦ placed_foreign h q x ];
  means = λ h v g. whole_answer lock at p asked kept regions h v g.0 g.1 g.2;
  fails = λ h why g. error_answer lock at p asked kept regions h why g.0 g.1 g.2;
}
  where
    asked : p.inner.inner.request ≡ rollback_of lock at
    asked = ap (λ (x : Removals). x.inner.request) e ∙ same

    kept : p.inner.preserve_region_results ≡ false
    kept = ap (λ (x : Removals). x.preserve_region_results) e ∙ errors

    regions : p.inner.backoff ≡ ten_attempts
    regions = ap (λ (x : Removals). x.backoff) e ∙ tries

    sent : (h : List Event) (q : Request) → removal_plan.asks p h q → ((x : PessimisticRollbackRequest) × IsRollbackOf lock x × (q ≡ PessimisticRollback x)) ⊎ IsPlacement h q
    sent h q (inl a) = inl (a.0.request, own_part lock at a.0.request (subst (PessimisticRollbackPart a.0.request) asked a.1), a.2.1)
    sent h q (inr a) = inr a
