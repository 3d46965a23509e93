-- What the events of one task of a plan over many regions cost.
use Rattle.std.proofs.Common.{◌≡◌, ℕ, ◌+◌, ◌*◌, ◌≤◌, Bool, true, false, List, refl, ap, arith}
use Rattle.std.proofs.Math.Nat.{le-max_left, le_refl, le_trans, mul-le-mul_right}
use Rattle.std.specs.Global.{Vec}
use Rattle.std.specs.Prelude.{⊤, max, Option, Result}
use Rattle.txn_history.specs.Meaning.{Counts, IsUnbegun, Meaning}
use Rattle.txn_history.specs.Posted.{Posted}
use Rattle.txn_history.specs.Spends.{Spends}
use Rattle.txn_history.specs.Turn.{failing, is_kept, Turn}
use Rattle.txn_history.specs.Turn.Turn.{Ends, Stopped, Waits}
use Rattle.txn_history.proofs.Counting.{spare-le, Spends-after, Spends-before, Spends-map, Spends-next, Spends-stops, Spends-then}
use Rattle.txn_kv.specs.ErrorView.{ErrorView}
use Rattle.txn_kv.specs.declared.errors.Error.{Error}
use Rattle.txn_kv.specs.declared.message.RegionErr.{RegionErr}
use Rattle.txn_multi.specs.Cutting.{cutting, Looking}
use Rattle.txn_multi.specs.Task.{owed, region_task, CostsOver, IsUnderWay}
use Rattle.txn_multi.specs.declared.part.Part.{Part}
use Rattle.txn_multi.specs.declared.stage.Stage.TheVariants as stage
use Rattle.txn_multi.specs.declared.task.RegionTask.{RegionTask}
use Rattle.txn_tasks.specs.declared.step.Step.{Step}

-- a new run in each part, or in one, costs no less than one run
round_within : (x y k : ℕ) → x ≤ y → x ≤ max 1 k * y
round_within x y k l = let one = mul-le-mul_right y (le-max_left 1 k) in omega arith

-- nothing inside is cut
Spends-narrow : {was is : ℕ → Type 0} {before after round : ℕ → ℕ} {bad fails : Bool} {weight locked inner inner' : ℕ} {from to : Posted} {kept failed : Bool} (width : ℕ)
    → inner' ≤ 1
    → Spends was is before after round bad fails weight locked inner inner' from to kept failed
    → Spends was is before after round bad fails weight locked width width from to kept failed
Spends-narrow width l s = record {
  wider = le_refl width;
  bears = s.bears;
  allowed = s.allowed;
  spends = λ e n w u t o. s.spends e n w u (le_trans l u) o;
  stopped = λ n w u t o. s.stopped n w u (le_trans l u) o;
  rests = s.rests;
  stopped_rests = s.stopped_rests;
}

-- a state inside that posts no calls of stores
Spends-beside : {bad fails : Bool} {weight locked inner inner' : ℕ} {from to : Posted} {kept failed : Bool} (owed round : ℕ → ℕ) (width : ℕ)
    → Spends (λ w. ⊤) (λ w. ⊤) (λ n. 0) (λ n. 0) (λ n. 0) bad fails weight locked inner inner' from to kept failed
    → Spends (λ w. ⊤) (λ w. ⊤) owed owed round bad fails weight locked width width from to kept failed
Spends-beside {bad = bad} {weight = weight} {inner' = inner'} {failed = failed} owed round width s = record {
  wider = le_refl width;
  bears = λ e w o. tt;
  allowed = s.allowed;
  spends = λ e n w u t o.
      let one = s.spends e (inner' + 1) w (omega arith) (omega arith) tt in
      let two = spare-le bad failed (0 + w + weight) (round n + w + weight) (omega arith) in
      omega arith;
  stopped = λ n w u t o.
      let one = s.stopped (inner' + 1) w (omega arith) (omega arith) tt in
      let two = spare-le bad false (0 + w + weight) (round n + w + weight) (omega arith) in
      omega arith;
  rests = s.rests;
  stopped_rests = s.stopped_rests;
}

-- a failure pays for what is owed after it
pub Costs-paid : {S A : Type 0} {m : Meaning S A} {old new : S} {from to : Posted} {turn : Turn A}
    → CostsOver m (m.round old) false old new from to turn → CostsOver m (λ n. 0) true old new from to turn
Costs-paid t = record {
  spends = Spends-before refl (omega arith) (le_refl _) (λ w o. tt) (λ n w u k o. omega arith) (λ n. le_refl _) t.spends;
  fewer = t.fewer;
}

-- a call of its plan, which is left to post so much
inside : {S A : Type 0} {m : Meaning S A} (most : S → ℕ → ℕ) {was : ℕ → Type 0} {before : ℕ → ℕ} {bad fails : Bool} {weight locked : ℕ} (job : S) {p q : S} (width : ℕ) {from to : Posted} {turn : Turn A}
    → ((w : ℕ) → was w → m.bears p w) → ((n : ℕ) → m.left p n ≤ before n) → ((n : ℕ) → m.round p n ≤ m.round job n) → m.width q ≤ 1
    → Counts m bad fails weight locked p q from to turn
    → Spends was (m.bears q) before (m.left q) (owed m most job) bad fails weight locked width width from to (is_kept turn) (failing m.fails turn)
inside {m = m} most job {p} {q} width b l r uncut s = Spends-map b (λ w v k o i. i) (λ n w u o. round_within (m.round p n) (m.round job n) (most job n) (r n)) (λ n w u o. l n) (λ n w u o. let x = l n in omega arith) (Spends-narrow width uncut s.spends)

module _ {S R H L : Type 0} (m : Meaning S (Result R Error)) (keys : R → List ErrorView) (region : R → Option RegionErr) (is_part : S → S → Type 0) (load : S → L) (are_cut : L → List L → Type 0) (most : S → ℕ → ℕ) where
  -- its plan runs on
  pub counts_on_plan : {bad fails : Bool} {weight locked : ℕ} (t : RegionTask S R H) (p q : S) {from to : Posted} → IsUnderWay m t.job p → m.width q ≤ 1
      → Counts m bad fails weight locked p q from to Waits
      → Counts (region_task m keys region is_part load are_cut most) bad fails weight locked (record t { stage = stage.Running p }) (record t { stage = stage.Running q }) from to Waits
  counts_on_plan t p q way uncut s = record {
    spends = inside most t.job t.width (λ w o. o) (λ n. le_refl _) way.less uncut s;
    fewer = λ n. le_refl _;
  }

  -- its plan gave up
  pub counts_off_plan : {bad fails : Bool} {weight locked : ℕ} (t u : RegionTask S R H) (p q : S) {from to : Posted} {inner : Turn (Result R Error)} {turn : Turn (Step (RegionTask S R H) R)} → IsUnderWay m t.job p → m.width q ≤ 1
      → u.job ≡ t.job → u.width ≡ t.width → turn ≡ Stopped
      → Counts m bad fails weight locked p q from to inner
      → Counts (region_task m keys region is_part load are_cut most) bad fails weight locked (record t { stage = stage.Running p }) u from to turn
  counts_off_plan t u p q way uncut same wide e s = record {
    spends = rw wide (Spends-stops (inside most t.job t.width (λ w o. o) (λ n. le_refl _) way.less uncut s) (ap is_kept e) (λ f. f));
    fewer = λ n. rw same (le_refl _);
  }

  -- its plan has ended
  pub counts_over_plan : {bad fails : Bool} {weight locked : ℕ} (t : RegionTask S R H) (p q : S) {new : RegionTask S R H} {v : Result R Error} {from via to : Posted} {turn : Turn (Step (RegionTask S R H) R)} → IsUnderWay m t.job p → m.width q ≤ 1
      → (fails ≡ true → bad ≡ true)
      → Counts m bad fails weight locked p q from via (Ends v)
      → CostsOver (region_task m keys region is_part load are_cut most) (λ n. 0) (m.fails v) t new via to turn
      → Counts (region_task m keys region is_part load are_cut most) bad fails weight locked (record t { stage = stage.Running p }) new from to turn
  counts_over_plan t p q way uncut worse s over = record {
    spends = Spends-then worse (λ f. f) (λ f. f) (λ n w u o. le_refl _)
        (Spends-after {is = λ w. ⊤} (λ f. f) (λ w o. tt) (λ n. omega arith) (inside most t.job t.width (λ w o. o) (λ n. le_refl _) way.less uncut s)) over.spends;
    fewer = over.fewer;
  }

  -- its plan was started
  pub counts_on_start : (t : RegionTask S R H) (q : S) {from to : Posted} → IsUnbegun m t.job → m.width q ≤ 1
      → Counts m false false 0 0 t.job q from to Waits
      → Counts (region_task m keys region is_part load are_cut most) false false 0 0 (record t { stage = stage.Fresh }) (record t { stage = stage.Running q }) from to Waits
  counts_on_start t q u uncut s = record {
    spends = inside most t.job t.width (λ w o. u.light w) u.whole (λ n. le_refl _) uncut s;
    fewer = λ n. le_refl _;
  }

  -- it gave up as its plan was started
  pub counts_off_start : (t u : RegionTask S R H) (q : S) {from to : Posted} {inner : Turn (Result R Error)} {turn : Turn (Step (RegionTask S R H) R)} → IsUnbegun m t.job → m.width q ≤ 1
      → u.job ≡ t.job → u.width ≡ t.width → turn ≡ Stopped
      → Counts m false false 0 0 t.job q from to inner
      → Counts (region_task m keys region is_part load are_cut most) false false 0 0 (record t { stage = stage.Fresh }) u from to turn
  counts_off_start t u q unbegun uncut same wide e s = record {
    spends = rw wide (Spends-stops (inside most t.job t.width (λ w o. unbegun.light w) unbegun.whole (λ n. le_refl _) uncut s) (ap is_kept e) (λ f. f));
    fewer = λ n. rw same (le_refl _);
  }

  -- its plan ended as it was started
  pub counts_over_start : (t : RegionTask S R H) (q : S) {new : RegionTask S R H} {v : Result R Error} {from via to : Posted} {turn : Turn (Step (RegionTask S R H) R)} → IsUnbegun m t.job → m.width q ≤ 1
      → Counts m false false 0 0 t.job q from via (Ends v)
      → CostsOver (region_task m keys region is_part load are_cut most) (λ n. 0) (m.fails v) t new via to turn
      → Counts (region_task m keys region is_part load are_cut most) false false 0 0 (record t { stage = stage.Fresh }) new from to turn
  counts_over_start t q u uncut s over = record {
    spends = Spends-then (λ f. f) (λ f. f) (λ f. f) (λ n w k o. le_refl _)
        (Spends-after {is = λ w. ⊤} (λ f. f) (λ w o. tt) (λ n. omega arith) (inside most t.job t.width (λ w o. u.light w) u.whole (λ n. le_refl _) uncut s)) over.spends;
    fewer = over.fewer;
  }

  -- the search of its shards goes on
  pub counts_on_search : {bad fails : Bool} {weight locked : ℕ} (t : RegionTask S R H) (c d : Looking S H) {from to : Posted}
      → Counts (cutting m is_part load are_cut most) bad fails weight locked c d from to Waits
      → Counts (region_task m keys region is_part load are_cut most) bad fails weight locked (record t { stage = stage.Cutting c }) (record t { stage = stage.Cutting d }) from to Waits
  counts_on_search t c d s = record {
    spends = Spends-beside (owed m most t.job) (owed m most t.job) t.width s.spends;
    fewer = λ n. le_refl _;
  }

  -- the search gave up
  pub counts_off_search : {bad fails : Bool} {weight locked : ℕ} (t u : RegionTask S R H) (c d : Looking S H) {from to : Posted} {inner : Turn (Result (Vec (Part S)) Error)} {turn : Turn (Step (RegionTask S R H) R)}
      → u.job ≡ t.job → u.width ≡ t.width → turn ≡ Stopped
      → Counts (cutting m is_part load are_cut most) bad fails weight locked c d from to inner
      → Counts (region_task m keys region is_part load are_cut most) bad fails weight locked (record t { stage = stage.Cutting c }) u from to turn
  counts_off_search t u c d same wide e s = record {
    spends = rw wide (Spends-stops (Spends-beside (owed m most t.job) (owed m most t.job) t.width s.spends) (ap is_kept e) (λ f. f));
    fewer = λ n. rw same (le_refl _);
  }

  -- the search has ended
  pub counts_over_search : {bad fails : Bool} {weight locked : ℕ} (t : RegionTask S R H) (c d : Looking S H) {new : RegionTask S R H} {v : Result (Vec (Part S)) Error} {from via to : Posted} {turn : Turn (Step (RegionTask S R H) R)}
      → (fails ≡ true → bad ≡ true)
      → Counts (cutting m is_part load are_cut most) bad fails weight locked c d from via (Ends v)
      → CostsOver (region_task m keys region is_part load are_cut most) (owed m most t.job) false t new via to turn
      → Counts (region_task m keys region is_part load are_cut most) bad fails weight locked (record t { stage = stage.Cutting c }) new from to turn
  counts_over_search t c d worse s over = record {
    spends = Spends-next worse (λ n w u o. le_refl _) (Spends-beside (owed m most t.job) (owed m most t.job) t.width s.spends) over.spends;
    fewer = over.fewer;
  }

  -- a search was begun, and goes on
  pub costs_on_search : (t : RegionTask S R H) (c d : Looking S H) {from to : Posted}
      → Counts (cutting m is_part load are_cut most) false false 0 0 c d from to Waits
      → CostsOver (region_task m keys region is_part load are_cut most) (owed m most t.job) false t (record t { stage = stage.Cutting d }) from to Waits
  costs_on_search t c d s = record {
    spends = Spends-beside (owed m most t.job) (owed m most t.job) t.width s.spends;
    fewer = λ n. le_refl _;
  }

  -- a search was begun, and gave up
  pub costs_off_search : (t u : RegionTask S R H) (c d : Looking S H) {from to : Posted} {inner : Turn (Result (Vec (Part S)) Error)} {turn : Turn (Step (RegionTask S R H) R)}
      → u.job ≡ t.job → u.width ≡ t.width → turn ≡ Stopped
      → Counts (cutting m is_part load are_cut most) false false 0 0 c d from to inner
      → CostsOver (region_task m keys region is_part load are_cut most) (owed m most t.job) false t u from to turn
  costs_off_search t u c d same wide e s = record {
    spends = rw wide (Spends-stops (Spends-beside (owed m most t.job) (owed m most t.job) t.width s.spends) (ap is_kept e) (λ f. f));
    fewer = λ n. rw same (le_refl _);
  }

  -- a search was begun, and ended at once
  pub costs_over_search : (t : RegionTask S R H) (c d : Looking S H) {new : RegionTask S R H} {v : Result (Vec (Part S)) Error} {from via to : Posted} {turn : Turn (Step (RegionTask S R H) R)}
      → Counts (cutting m is_part load are_cut most) false false 0 0 c d from via (Ends v)
      → CostsOver (region_task m keys region is_part load are_cut most) (owed m most t.job) false t new via to turn
      → CostsOver (region_task m keys region is_part load are_cut most) (owed m most t.job) false t new from to turn
  costs_over_search t c d s over = record {
    spends = Spends-next (λ f. f) (λ n w u o. le_refl _) (Spends-beside (owed m most t.job) (owed m most t.job) t.width s.spends) over.spends;
    fewer = over.fewer;
  }

  -- tasks for its parts owe what it did
  pub costs_given : (t : RegionTask S R H) (width : ℕ) {o : Posted} {s : Step (RegionTask S R H) R} → t.width ≤ width
      → CostsOver (region_task m keys region is_part load are_cut most) (owed m most t.job) false t (record t { stage = stage.Cut; width = width }) o o (Ends s)
  costs_given t width wider = record {
    spends = record {
      wider = wider;
      bears = λ e w o. tt;
      allowed = λ e f. f;
      spends = λ e n w u k o. omega arith;
      stopped = λ n w u k o. omega arith;
      rests = λ e. omega arith;
      stopped_rests = omega arith;
    };
    fewer = λ n. le_refl _;
  }

  -- a sleep ended, which is no error
  pub counts_wake : {bad fails : Bool} {weight locked : ℕ} (t : RegionTask S R H) (k : ℕ) {new : RegionTask S R H} {from to : Posted} {turn : Turn (Step (RegionTask S R H) R)}
      → bad ≡ false → fails ≡ false → weight ≡ 0 → locked ≡ 0
      → CostsOver (region_task m keys region is_part load are_cut most) (owed m most t.job) false t new from to turn
      → Counts (region_task m keys region is_part load are_cut most) bad fails weight locked (record t { stage = stage.Sleeping k }) new from to turn
  counts_wake t k good fine light free over = rw (good, fine, light, free) (record { spends = over.spends; fewer = over.fewer })
