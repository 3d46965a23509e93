-- The look-up of a plan over all stores: what the plan does after its calls.
use Rattle.std.proofs.Common.{◌≡◌, ◌⊎◌, inl, inr, ℕ, ◌*◌, Bool, true, false, List, refl, sym, ap, subst, ◌∙◌, arith}
use Rattle.std.proofs.Math.Nat.{le_refl}
use Rattle.std.specs.Global.{Vec}
use Rattle.std.specs.Prelude.{⊤, Option, None, Result, Ok, Err}
use Rattle.txn_history.proofs.Counting.{Spends-after, Spends-map, Spends-next, Spends-stops}
use Rattle.txn_history.proofs.Telling.{Expects-then}
use Rattle.txn_history.specs.Event.{Event}
use Rattle.txn_history.specs.Meaning.{Counts, Expects, Goes, IsUnbegun, Meaning, Tells, Told}
use Rattle.txn_history.specs.Moves.{Moves, Moves-after, Moves-before, Moves-map, Moves-stops, Moves-then}
use Rattle.txn_history.specs.Phase.{phase_after, unheard, Awaited, IsPosted}
use Rattle.txn_history.specs.Phase.Phase.{Fresh, Running}
use Rattle.txn_history.specs.Posted.{Posted}
use Rattle.txn_history.specs.Spends.{Spends}
use Rattle.txn_history.specs.Turn.{failing, is_kept, Turn}
use Rattle.txn_history.specs.Turn.Turn.{Stopped, Waits, Ends}
use Rattle.txn_kv.specs.ErrorView.{ErrorView}
use Rattle.txn_kv.specs.declared.errors.Error.{Error}
use Rattle.txn_kv.specs.declared.message.RegionErr.{RegionErr}
use Rattle.txn_region.specs.declared.store.Store.{Store}
use Rattle.txn_search.specs.Search.{search_phase, search_waits, IsOut}
use Rattle.txn_stores.proofs.AllRunning.{same_plan}
use Rattle.txn_stores.specs.AllFollows.{SearchFollows}
use Rattle.txn_stores.specs.AllStores.{all_bears, all_left, all_phase, all_stores, all_waits, run_left, run_width, AllAsk, AllFits, AllReady}
use Rattle.txn_stores.specs.Search.{searching, GivesStores, IsStoresQuery}
use Rattle.txn_stores.specs.declared.all_stage.AllStage.TheVariants as stage
use Rattle.txn_stores.specs.declared.all_stores.RetryableAllStores.{RetryableAllStores}
use Rattle.txn_stores.specs.declared.store_search.StoreSearch.{StoreSearch}

abbrev pub with_search : {S R : Type 0} → RetryableAllStores S R → StoreSearch → RetryableAllStores S R
with_search t search = record t { search = search }

module _ {S R : Type 0} (m : Meaning S (Result R Error)) (keys : R → List ErrorView) (region : R → Option RegionErr) (at_store : Store → S → S) where
  lifted : {told : Told} (old : RetryableAllStores S R) (search : StoreSearch) {from via : Posted} {p : Turn (Result (Vec Store) Error)}
      → ((h : List Event) → AllFits m keys region at_store old from h → searching.fits old.search from h)
      → Tells searching told old.search search from via p
      → Moves (AllAsk m at_store old.inner) (λ h. AllFits m keys region at_store old from h × told.known h) (λ h. searching.fits search via h) (λ h v. GivesStores h v) told.hear from via p
  lifted {told = told} old search fits t = Moves-map told.within (λ h k. (fits h k.0, k.1)) (λ h k l r a. inl a) (λ h k l w i. i) (λ h k l v g. g) t.moves

  -- it asks for the same plan
  kept_inner : {C : Type 0} (old new : RetryableAllStores S R) {from to : Posted} {pd pd' : C} (p : Turn (Result (Vec Store) Error)) {turn : Turn (Result (Vec (Result R Error)) Error)}
      → SearchFollows m keys region at_store p old new from to pd pd' turn → new.inner ≡ old.inner
  kept_inner old new Stopped f = rw f.at.1 refl
  kept_inner old new Waits f = rw f.at.1 refl
  kept_inner old new (Ends (Ok stores)) f = f.at.inner
  kept_inner old new (Ends (Err why)) f = rw f.at.1 refl

  waited : (heard : Awaited → Type 0) (old : RetryableAllStores S R) {is : Awaited → Type 0} {from via : Posted}
      → ((a : Awaited) → search_waits old.search.stage a → all_waits old old.stage a)
      → Expects (search_waits old.search.stage) is heard from via
      → Expects (all_waits old old.stage) is heard from via
  waited heard old w e = record {
    sends = e.sends;
    pushed = e.pushed;
    only = λ a i. elim (e.only a i) as (λ x. (all_waits old old.stage a × (heard a → ⊥)) ⊎ IsPosted e.sends a) [
      | inl x ↦ inl (w a x.0, x.1)
      | inr x ↦ inr x
    ];
  }

  none_waited : {was is is' heard : Awaited → Type 0} {from to : Posted} → ((a : Awaited) → is' a → is a) → Expects was is heard from to → Expects was is' heard from to
  none_waited f e = record { sends = e.sends; pushed = e.pushed; only = λ a w. e.only a (f a w) }

  from_none : {was is heard : Awaited → Type 0} {from to : Posted} → Expects (λ a. ⊥) is heard from to → Expects was is heard from to
  from_none e = record { sends = e.sends; pushed = e.pushed; only = λ a w. elim (e.only a w) [ inl x ↦ absurd x.0 | inr x ↦ inr x ] }

  pub Search-tells : {told : Told} {C : Type 0} (old new : RetryableAllStores S R) (search : StoreSearch) {from via to : Posted} {pd pd' : C} (p : Turn (Result (Vec Store) Error)) {turn : Turn (Result (Vec (Result R Error)) Error)}
      → ((h : List Event) → AllFits m keys region at_store old from h → searching.fits old.search from h)
      → ((a : Awaited) → search_waits old.search.stage a → all_waits old old.stage a)
      → search_phase search.stage ≡ phase_after p
      → Tells searching told old.search search from via p
      → SearchFollows m keys region at_store p (with_search old search) new via to pd pd' turn
      → Tells (all_stores m keys region at_store) told old new from to turn
  Search-tells {told = told} old new search Stopped fits waits runs t f =
      rw (f.at.0, f.at.1, f.at.2) (record {
        moves = Moves-stops (lifted old search fits t) refl;
        job = same_plan m keys region at_store (record old { search = search; stage = stage.Stopped }) old refl;
        expects = none_waited (λ a w. absurd w) (waited told.heard old waits t.expects);
      })
  Search-tells {told = told} old new search Waits fits waits runs t f =
      rw (f.at.0, f.at.1, f.at.2) (record {
        moves = Moves-after (lifted old search fits t) (λ h k. record { at = (k.0, runs) }) tt;
        job = same_plan m keys region at_store (record old { search = search; stage = stage.Searching }) old refl;
        expects = waited told.heard old waits t.expects;
      })
  Search-tells {told = told} old new search (Ends (Err why)) fits waits runs t f =
      rw (f.at.0, f.at.1, f.at.2) (record {
        moves = Moves-after (lifted old search fits t) (λ h k. record { at = tt }) (λ h k. k.1);
        job = same_plan m keys region at_store (record old { search = search; stage = stage.Over }) old refl;
        expects = none_waited (λ a w. absurd w) (waited told.heard old waits t.expects);
      })
  Search-tells {told = told} old new search (Ends (Ok stores)) fits waits runs t f =
      let s = f.at in record {
        moves = Moves-then (lifted old search fits t) (Moves-before (λ h k. k.1) s.moves);
        job = same_plan m keys region at_store new old s.inner;
        expects = Expects-then (waited told.heard old waits t.expects) (from_none s.expects);
      }

  follows_next : {C : Type 0} (old new : RetryableAllStores S R) {from to : Posted} {pd pd' : C} (p : Turn (Result (Vec Store) Error)) {turn : Turn (Result (Vec (Result R Error)) Error)}
      → SearchFollows m keys region at_store p old new from to pd pd' turn → all_phase new.stage ≡ phase_after turn
  follows_next old new Stopped f = rw (f.at.0, f.at.1) refl
  follows_next old new Waits f = rw (f.at.0, f.at.1) refl
  follows_next old new (Ends (Ok stores)) f = f.at.next
  follows_next old new (Ends (Err why)) f = rw (f.at.0, f.at.1) refl

  follows_idle : {C : Type 0} (old new : RetryableAllStores S R) {from to : Posted} {pd pd' : C} (p : Turn (Result (Vec Store) Error)) {turn : Turn (Result (Vec (Result R Error)) Error)}
      → p ≡ Waits → SearchFollows m keys region at_store p old new from to pd pd' turn
      → (turn ≡ Waits) × (new ≡ record old { stage = stage.Searching }) × (to ≡ from) × (pd' ≡ pd)
  follows_idle old new Stopped e f = cc
  follows_idle old new Waits e f = f.at
  follows_idle old new (Ends v) e f = cc

  pub Search-goes : {C : Type 0} (a : Awaited) (old new : RetryableAllStores S R) (search : StoreSearch) {from via to : Posted} {pd pd' pd'' : C} (p : Turn (Result (Vec Store) Error)) {turn : Turn (Result (Vec (Result R Error)) Error)}
      → old.stage ≡ stage.Searching
      → search_phase old.search.stage ≡ Running
      → Goes searching.phase (search_waits old.search.stage a) old.search search from via pd pd' p
      → SearchFollows m keys region at_store p (with_search old search) new via to pd' pd'' turn
      → Goes (λ (t : RetryableAllStores S R). all_phase t.stage) (all_waits old old.stage a) old new from to pd pd'' turn
  Search-goes a old new search p at runs t f =
      let not = λ (other : all_waits old old.stage a → ⊥). λ (w : search_waits old.search.stage a). other (rw at w) in
      let deaf = λ (other : all_waits old old.stage a → ⊥). t.deaf (not other) ∙ ap unheard runs in record {
        deaf = λ other. (follows_idle (with_search old search) new p (deaf other) f).0 ∙ sym (ap (λ g. unheard (all_phase g)) at);
        state = λ other. (follows_idle (with_search old search) new p (deaf other) f).1 ∙ rw (t.state (not other), ← at) refl;
        outbox = λ other. (follows_idle (with_search old search) new p (deaf other) f).2 ∙ t.outbox (not other);
        client = λ other. (follows_idle (with_search old search) new p (deaf other) f).3 ∙ t.client (not other);
        next = λ this. follows_next (with_search old search) new p f;
      }

  pub Start-goes : {C : Type 0} (old new : RetryableAllStores S R) (search : StoreSearch) {from via to : Posted} {pd pd' pd'' : C} (p : Turn (Result (Vec Store) Error)) {turn : Turn (Result (Vec (Result R Error)) Error)}
      → old.stage ≡ stage.Fresh
      → SearchFollows m keys region at_store p (with_search old search) new via to pd' pd'' turn
      → Goes (λ (t : RetryableAllStores S R). all_phase t.stage) (all_phase old.stage ≡ Fresh) old new from to pd pd'' turn
  Start-goes old new search p at f =
      let meant : all_phase old.stage ≡ Fresh = rw at refl in record {
        deaf = λ other. absurd (other meant);
        state = λ other. absurd (other meant);
        outbox = λ other. absurd (other meant);
        client = λ other. absurd (other meant);
        next = λ this. follows_next (with_search old search) new p f;
      }

  never_fails : {A : Type 0} (turn : Turn A) → failing (λ v. false) turn ≡ false
  never_fails Stopped = refl
  never_fails Waits = refl
  never_fails (Ends v) = refl

  -- the look-up makes no call of a store
  paid : (old : RetryableAllStores S R) {bad fails : Bool} {weight locked : ℕ} {search : StoreSearch} {from via : Posted} {p : Turn (Result (Vec Store) Error)}
      → Counts searching bad fails weight locked old.search search from via p
      → Spends (λ w. all_bears m keys region at_store old old.stage w) (λ w. ⊤) (λ n. n * m.round old.inner n) (λ n. n * m.round old.inner n) (λ n. n * m.round old.inner n) bad fails weight locked 0 0 from via (is_kept p) (failing (λ v. false) p)
  paid old c = Spends-map (λ w b. tt) (λ w v l o b. tt) (λ n w u o. omega arith) (λ n w u o. omega arith) (λ n w u o. omega arith) c.spends

  relabelled : (old : RetryableAllStores S R) {bad fails : Bool} {weight locked width width' : ℕ} {was is : ℕ → Type 0} {after : ℕ → ℕ} {from to : Posted} {kept failed : Bool}
      → ((n : ℕ) → all_left (n * m.round old.inner n) (run_left m keys region at_store old.inner old.run n) old.stage ≡ n * m.round old.inner n)
      → old.run ≡ None
      → width ≡ width'
      → Spends was is (λ n. n * m.round old.inner n) after (λ n. n * m.round old.inner n) bad fails weight locked 0 width from to kept failed
      → Spends was is (λ n. all_left (n * m.round old.inner n) (run_left m keys region at_store old.inner old.run n) old.stage) after (λ n. n * m.round old.inner n) bad fails weight locked (run_width m keys region at_store old.inner old.run) width' from to kept failed
  relabelled old {bad = bad} {fails = fails} {weight = weight} {locked = locked} {width = width} {width' = width'} {was = was} {is = is} {after = after} {from = from} {to = to} {kept = kept} {failed = failed} left none same s =
      let zero : 0 ≡ run_width m keys region at_store old.inner old.run = rw none refl in
      let s' : Spends was is (λ n. all_left (n * m.round old.inner n) (run_left m keys region at_store old.inner old.run n) old.stage) after (λ n. n * m.round old.inner n) bad fails weight locked 0 width from to kept failed =
      Spends-map (λ w b. b) (λ w v l o b. b) (λ n w u o. le_refl _) (λ n w u o. let x = left n in omega arith) (λ n w u o. let x = left n in omega arith) s in
      subst (λ (w : ℕ). Spends was is (λ n. all_left (n * m.round old.inner n) (run_left m keys region at_store old.inner old.run n) old.stage) after (λ n. n * m.round old.inner n) bad fails weight locked w width' from to kept failed) zero
      (subst (λ (w : ℕ). Spends was is (λ n. all_left (n * m.round old.inner n) (run_left m keys region at_store old.inner old.run n) old.stage) after (λ n. n * m.round old.inner n) bad fails weight locked 0 w from to kept failed) same s')

  pub Search-counts : {C : Type 0} {bad fails : Bool} {weight locked : ℕ} (old new : RetryableAllStores S R) (search : StoreSearch) {from via to : Posted} {pd pd' : C} (p : Turn (Result (Vec Store) Error)) {turn : Turn (Result (Vec (Result R Error)) Error)}
      → (fails ≡ true → bad ≡ true)
      → ((n : ℕ) → all_left (n * m.round old.inner n) (run_left m keys region at_store old.inner old.run n) old.stage ≡ n * m.round old.inner n)
      → old.run ≡ None
      → Counts searching bad fails weight locked old.search search from via p
      → SearchFollows m keys region at_store p (with_search old search) new via to pd pd' turn
      → Counts (all_stores m keys region at_store) bad fails weight locked old new from to turn
  Search-counts old new search Stopped worse left none c f =
      rw (f.at.0, f.at.1, f.at.2) (record { spends = relabelled old left none (rw none refl) (Spends-stops (paid old c) refl (λ e. e)); fewer = λ n. le_refl _ })
  Search-counts old new search Waits worse left none c f =
      rw (f.at.0, f.at.1, f.at.2) (record { spends = relabelled old left none (rw none refl) (paid old c); fewer = λ n. le_refl _ })
  Search-counts old new search (Ends (Err why)) worse left none c f =
      rw (f.at.0, f.at.1, f.at.2) (record { spends = relabelled old left none (rw none refl) (Spends-after (λ e. e) (λ w b. tt) (λ n. omega arith) (paid old c)); fewer = λ n. le_refl _ })
  Search-counts old new search (Ends (Ok stores)) {turn = turn} worse left none c f =
      let s = f.at in record {
        spends = rw (never_fails turn) (relabelled old left none refl (Spends-next worse (λ n w u o. le_refl _) (paid old c) s.spends));
        fewer = λ n. rw s.inner (le_refl _);
      }

  pub Search-ready : {C : Type 0} (old new : RetryableAllStores S R) (search : StoreSearch) {from to : Posted} {pd pd' : C} (p : Turn (Result (Vec Store) Error)) {turn : Turn (Result (Vec (Result R Error)) Error)}
      → IsUnbegun m old.inner
      → old.run ≡ None
      → IsOut IsStoresQuery search.stage
      → search_phase search.stage ≡ phase_after p
      → SearchFollows m keys region at_store p (with_search old search) new from to pd pd' turn
      → AllReady m keys region new
  Search-ready old new search Stopped u none out runs f = rw f.at.1 (record { unbegun = u; at = tt })
  Search-ready old new search Waits u none out runs f = rw f.at.1 (record { unbegun = u; at = (out, runs, none) })
  Search-ready old new search (Ends (Err why)) u none out runs f = rw f.at.1 (record { unbegun = u; at = tt })
  Search-ready old new search (Ends (Ok stores)) u none out runs f = let s = f.at in record { unbegun = subst (λ (x : S). IsUnbegun m x) (sym s.inner) u; at = s.ready }
