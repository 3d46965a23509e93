-- Events of a plan over many regions, by those of the search of its shards and of its tasks.
use Rattle.std.proofs.Common.{◌≡◌, inl, inr, ℕ, ◌+◌, ◌*◌, ◌-◌, ◌≤◌, Bool, true, false, List, [], ◌∷◌, length, map, refl, sym, ap, subst, ◌∙◌, arith}
use Rattle.std.proofs.Math.Nat.{le-max_left, le-max_right, le_refl, le_trans, max-le, mul-le-mul, mul-le-mul_right}
use Rattle.std.proofs.lemmas.Bool.{false≢true}
use Rattle.std.proofs.lemmas.List.{length-map}
use Rattle.std.proofs.lemmas.List.Elements.{All-cons, All-head, All-nil, All-tail}
use Rattle.std.proofs.lemmas.List.Sums.{sum_by-le}
use Rattle.std.specs.Global.{Global, Vec}
use Rattle.std.specs.List.{sum_by, All, AllZip}
use Rattle.std.specs.Prelude.{⊤, max, IfSome, Option, Some, None, Result, Err}
use Rattle.txn_history.specs.Event.{Event}
use Rattle.txn_history.specs.Meaning.{further, started, Counts, Goes, IsUnbegun, Meaning, Tells, Told}
use Rattle.txn_history.specs.Moves.{Moves, Moves-after, Moves-map, Moves-quiet, Moves-stops}
use Rattle.txn_history.specs.Phase.{phase_after, unheard, Awaited}
use Rattle.txn_history.specs.Phase.Phase.{Fresh, Running}
use Rattle.txn_history.specs.Posted.{Posted}
use Rattle.txn_history.specs.Spends.{Spends}
use Rattle.txn_history.specs.Turn.{Turn}
use Rattle.txn_history.specs.Turn.Turn.{Ends, Stopped, Waits}
use Rattle.txn_history.proofs.Counting.{spare-le, Spends-quiet}
use Rattle.txn_history.proofs.Telling.{Counts-then, Expects-quiet, Tells-stopped, Tells-then}
use Rattle.txn_kv.specs.ErrorView.{ErrorView}
use Rattle.txn_kv.specs.declared.backoff.Backoff.{Backoff}
use Rattle.txn_kv.specs.declared.errors.Error.{Error}
use Rattle.txn_kv.specs.declared.message.RegionErr.{RegionErr}
use Rattle.txn_kv.specs.declared.request.Request.{Request}
use Rattle.txn_multi.specs.Cutting.{cutting, cutting-lawful, ArePartsOf, IsLookUpRefused, IsPartOf, Looking, UnfoundIfErr}
use Rattle.txn_multi.specs.Multi.{multi, multi_phase, number_of, tasks_for, AfterCut, AfterTasks, Begins, IsAnswer, MultiAsks, MultiGives, MultiWaits, StandsReady}
use Rattle.txn_multi.specs.Task.{attempts_left, limit_of, region_task, shared, stage_left, task_for, IsOutcome, IsTaskOf, Limited, TaskFits}
use Rattle.txn_multi.specs.declared.multi_region.RetryableMultiRegion.{RetryableMultiRegion}
use Rattle.txn_multi.specs.declared.multi_stage.MultiStage.{MultiStage}
use Rattle.txn_multi.specs.declared.multi_stage.MultiStage.TheVariants as stage
use Rattle.txn_multi.specs.declared.part.Part.{Part}
use Rattle.txn_multi.specs.declared.task.RegionTask.{RegionTask}
use Rattle.txn_search.specs.Search.{search_phase, search_waits, SearchAt}
use Rattle.txn_tasks.specs.Step.{IsNew}
use Rattle.txn_tasks.specs.Tasks.{tasks_phase, Outcome}
use Rattle.txn_tasks.specs.declared.stage.Stage.{Stage as Together}
use Rattle.txn_tasks.specs.declared.stage.Stage.TheVariants as together
use Rattle.txn_tasks.specs.declared.tasks.Tasks.{Tasks}

-- What is spent.

-- a call of a state inside, and then work on the state alone, which may give up
pub Spends-around : {was was' is is' : ℕ → Type 0} {before before' after after' round : ℕ → ℕ} {bad fails : Bool} {weight locked inner inner' width width' : ℕ} {from to : Posted} {kept kept' : Bool}
    → width ≤ width' → inner' ≤ width'
    → ((w : ℕ) → was' w → was w) → ((w : ℕ) → is w → is' w)
    → ((n : ℕ) → width' ≤ n → before n ≤ before' n) → ((n : ℕ) → after' n ≤ after n)
    → (kept' ≡ true → kept ≡ true)
    → Spends was is before after round bad fails weight locked inner inner' from to kept false
    → Spends was' is' before' after' round bad fails weight locked width width' from to kept' false
Spends-around v l p i b a k s = record {
  wider = v;
  bears = λ e w o. i _ (s.bears (k e) w (p w o));
  allowed = λ e f. absurd (false≢true f);
  spends = λ e n w u t o. let one = s.spends (k e) n w u (le_trans l t) (p w o) in let x = b n t in let y = a n in omega arith;
  stopped = λ n w u t o. let one = s.stopped n w u (le_trans l t) (p w o) in let x = b n t in omega arith;
  rests = λ e. s.rests (k e);
  stopped_rests = s.stopped_rests;
}

-- a state inside that makes no calls of stores, beside what is owed
pub Spends-beside : {bears : ℕ → Type 0} {bad fails : Bool} {weight locked inner inner' : ℕ} {from to : Posted} {kept : Bool} (owed : ℕ → ℕ) (width : ℕ)
    → ((w : ℕ) → bears w)
    → Spends (λ w. ⊤) (λ w. ⊤) (λ n. 0) (λ n. 0) (λ n. 0) bad fails weight locked inner inner' from to kept false
    → Spends bears bears owed owed owed bad fails weight locked width width from to kept false
Spends-beside {bad = bad} {weight = weight} {inner' = inner'} owed width b s = record {
  wider = le_refl width;
  bears = λ e w o. b _;
  allowed = s.allowed;
  spends = λ e n w u t o.
      let one = s.spends e (inner' + 1) w (omega arith) (omega arith) tt in
      let two = spare-le bad false (0 + w + weight) (owed n + w + weight) (omega arith) in
      omega arith;
  stopped = λ n w u t o.
      let one = s.stopped (inner' + 1) w (omega arith) (omega arith) tt in
      let two = spare-le bad false (0 + w + weight) (owed n + w + weight) (omega arith) in
      omega arith;
  rests = s.rests;
  stopped_rests = s.stopped_rests;
}

-- What is owed may be dropped where the call gave up.
Spends-gone : {was is is' : ℕ → Type 0} {before after after' round : ℕ → ℕ} {bad fails : Bool} {weight locked width width' : ℕ} {from to : Posted} {kept : Bool}
    → Spends was is before after round bad fails weight locked width width' from to kept false
    → Spends was is' before after' round bad fails weight locked width width' from to false false
Spends-gone s = record {
  wider = s.wider;
  bears = λ e. absurd (false≢true e);
  allowed = λ e. absurd (false≢true e);
  spends = λ e. absurd (false≢true e);
  stopped = s.stopped;
  rests = λ e. absurd (false≢true e);
  stopped_rests = s.stopped_rests;
}

-- What is owed may be written otherwise.
Spends-owing : {was is : ℕ → Type 0} {before before' after round : ℕ → ℕ} {bad fails : Bool} {weight locked width width' : ℕ} {from to : Posted} {kept failed : Bool}
    → ((n : ℕ) → before' n ≡ before n)
    → Spends was is before after round bad fails weight locked width width' from to kept failed
    → Spends was is before' after round bad fails weight locked width width' from to kept failed
Spends-owing same s = record {
  wider = s.wider;
  bears = s.bears;
  allowed = s.allowed;
  spends = λ e n w u t o. let one = s.spends e n w u t o in let x = same n in omega arith;
  stopped = λ n w u t o. let one = s.stopped n w u t o in let x = same n in omega arith;
  rests = s.rests;
  stopped_rests = s.stopped_rests;
}

-- it gave up, and nothing was posted
Spends-off : {was is : ℕ → Type 0} {before after round : ℕ → ℕ} {bad fails : Bool} {weight locked width width' : ℕ} {o : Posted} {failed : Bool}
    → width ≤ width'
    → Spends was is before after round bad fails weight locked width width' o o false failed
Spends-off v = record {
  wider = v;
  bears = λ e. absurd (false≢true e);
  allowed = λ e. absurd (false≢true e);
  spends = λ e. absurd (false≢true e);
  stopped = λ n w u t o. omega arith;
  rests = λ e. absurd (false≢true e);
  stopped_rests = omega arith;
}

stopped_waits : {A : Type 0} → ◌≡◌ {A = Turn A} Stopped Waits → ⊥
stopped_waits e = cc

ends_waits : {A : Type 0} (v : A) → Ends v ≡ Waits → ⊥
ends_waits v e = cc

fresh_running : Fresh ≡ Running → ⊥
fresh_running e = cc

fresh_waits : (g : Together) → tasks_phase g ≡ Fresh → g ≡ together.Running → ⊥
fresh_waits g e w = fresh_running (sym e ∙ ap tasks_phase w)

-- only a plan that was not started is fresh
pub fresh_only : {S R H : Type 0} (g : MultiStage S R H) → multi_phase g ≡ Fresh → g ≡ stage.Fresh
fresh_only stage.Fresh e = refl
fresh_only (stage.Cutting c) e = absurd (fresh_running (sym e))
fresh_only stage.Running e = absurd (fresh_running (sym e))
fresh_only stage.Over e = cc
fresh_only stage.Stopped e = cc

-- a copy of a plan that was not started
pub copied : {S R H : Type 0} (s : RetryableMultiRegion S R H) (inner : S) → s.stage ≡ stage.Fresh → s.tasks ≡ None → inner ≡ s.inner → record s { inner = inner; stage = stage.Fresh; tasks = None } ≡ s
copied {S} {R} {H} s inner fresh none same =
    rw same (subst (λ (g : MultiStage S R H). record s { stage = g; tasks = None } ≡ s) fresh (subst (λ (t : Option (Tasks (RegionTask S R H) R)). record s { tasks = t } ≡ s) none refl))

-- The parts of the tasks.

abbrev part_of : {S R H : Type 0} → RegionTask S R H → Part S
part_of t = record { plan = t.job; region = t.region }

loads_same : {S R H L : Type 0} (load : S → L) (ts : List (RegionTask S R H)) → map (λ (p : Part S). load p.plan) (map part_of ts) ≡ map (λ t. load t.job) ts
loads_same load [] = refl
loads_same {L = L} load (t ∷ ts) = ap (λ (ls : List L). load t.job ∷ ls) (loads_same load ts)

parts_belong : {S A R H : Type 0} (m : Meaning S A) (is_part : S → S → Type 0) (most : S → ℕ → ℕ) (whole : Limited S) (ts : List (RegionTask S R H)) → All (λ t. IsTaskOf m is_part most t whole) ts → All (λ (p : Part S). is_part p.plan whole.plan) (map part_of ts)
parts_belong {S} m is_part most whole [] a = All-nil (λ (p : Part S). is_part p.plan whole.plan)
parts_belong {S} {R = R} {H = H} m is_part most whole (t ∷ ts) a = All-cons (λ (p : Part S). is_part p.plan whole.plan) (part_of t) (map part_of ts)
    (All-head (λ (u : RegionTask S R H). IsTaskOf m is_part most u whole) t ts a).part
    (parts_belong m is_part most whole ts (All-tail (λ (u : RegionTask S R H). IsTaskOf m is_part most u whole) t ts a))

parts_ended : {S R H : Type 0} (m : Meaning S (Result R Error)) (keys : R → List ErrorView) (region : R → Option RegionErr) (is_part : S → S → Type 0) (most : S → ℕ → ℕ) (whole : Limited S) (h : List Event) (ts : List (RegionTask S R H)) (outcomes : List (Outcome R))
    → All (λ t. IsTaskOf m is_part most t whole) ts
    → AllZip (λ t outcome. IsOutcome m keys region (limit_of t) t.region t.job h outcome) ts outcomes → AllZip (λ (p : Part S) outcome. IsOutcome m keys region whole.limit p.region p.plan h outcome) (map part_of ts) outcomes
parts_ended m keys region is_part most whole h [] [] a z = tt
parts_ended m keys region is_part most whole h [] (o ∷ outcomes) a z = absurd z
parts_ended m keys region is_part most whole h (t ∷ ts) [] a z = absurd z
parts_ended {S} {R} {H} m keys region is_part most whole h (t ∷ ts) (o ∷ outcomes) a z = (
  subst (λ (limit : ℕ). IsOutcome m keys region limit t.region t.job h o) (All-head (λ (u : RegionTask S R H). IsTaskOf m is_part most u whole) t ts a).limit z.0,
  parts_ended m keys region is_part most whole h ts outcomes (All-tail (λ (u : RegionTask S R H). IsTaskOf m is_part most u whole) t ts a) z.1,
)

-- The tasks for parts.
module _ {S A R H : Type 0} (m : Meaning S A) (is_part : S → S → Type 0) (most : S → ℕ → ℕ) (inner : S) (alloc : Global) (backoff : Backoff) (before : ℕ) where
  each_task : (P : RegionTask S R H → Type 0) → ((p : Part S) → IsPartOf m is_part most inner p.plan → P (task_for alloc backoff before p)) → (parts : List (Part S)) → All (λ p. IsPartOf m is_part most inner p.plan) parts → All P (map (task_for alloc backoff before) parts)
  each_task P f [] a = All-nil P
  each_task P f (p ∷ ps) a = All-cons P (task_for alloc backoff before p) (map (task_for alloc backoff before) ps)
      (f p (All-head (λ (q : Part S). IsPartOf m is_part most inner q.plan) p ps a))
      (each_task P f ps (All-tail (λ (q : Part S). IsPartOf m is_part most inner q.plan) p ps a))

task_loads : {S L : Type 0} (R H : Type 0) (load : S → L) (alloc : Global) (backoff : Backoff) (before : ℕ) (parts : List (Part S)) → map (λ (t : RegionTask S R H). load t.job) (map (task_for alloc backoff before) parts) ≡ map (λ p. load p.plan) parts
task_loads R H load alloc backoff before [] = refl
task_loads {L = L} R H load alloc backoff before (p ∷ ps) = ap (λ (xs : List L). load p.plan ∷ xs) (task_loads R H load alloc backoff before ps)

pub tasks_cut : (H : Type 0) {S R L : Type 0} (m : Meaning S (Result R Error)) (is_part : S → S → Type 0) (load : S → L) (are_cut : L → List L → Type 0) (most : S → ℕ → ℕ) (inner : S) (alloc : Global) (backoff : Backoff) (before : ℕ) (parts : List (Part S)) → ArePartsOf m is_part load are_cut most inner parts
    → are_cut (load inner) (map (λ (t : RegionTask S R H). load t.job) (map (task_for alloc backoff before) parts))
tasks_cut H {R = R} m is_part load are_cut most inner alloc backoff before parts are = rw (task_loads R H load alloc backoff before parts) are.cut

pub tasks_owe : (H : Type 0) {S R L : Type 0} (m : Meaning S (Result R Error)) (is_part : S → S → Type 0) (load : S → L) (are_cut : L → List L → Type 0) (most : S → ℕ → ℕ) (inner : S) (alloc : Global) (backoff : Backoff) (before : ℕ) (parts : List (Part S)) (n : ℕ) → ArePartsOf m is_part load are_cut most inner parts → length parts ≤ n
    → sum_by (λ (u : RegionTask S R H). stage_left m most u.job u.stage n) (map (task_for alloc backoff before) parts) ≤ shared m most inner n
tasks_owe H {S} {R} m is_part load are_cut most inner alloc backoff before parts n are few =
    let made : List (RegionTask S R H) = map (task_for alloc backoff before) parts in
    let each : All (λ (u : RegionTask S R H). stage_left m most u.job u.stage n ≤ m.round inner n) made =
    each_task {R = R} {H = H} m is_part most inner alloc backoff before (λ u. stage_left m most u.job u.stage n ≤ m.round inner n) (λ p i. i.applied.less n) parts are.each in
    let sum : sum_by (λ (u : RegionTask S R H). stage_left m most u.job u.stage n) made ≤ length made * m.round inner n =
    sum_by-le (λ (u : RegionTask S R H). stage_left m most u.job u.stage n) (m.round inner n) made each in
    let short : length made ≤ most inner n = rw (length-map parts (task_for {R = R} {H = H} alloc backoff before)) (are.few n few) in
    le_trans sum (mul-le-mul_right (m.round inner n) short)

-- it stands as its turn says
pub after_phase : {S R H : Type 0} (preserve : Bool) (p : Turn (List (Outcome R))) (g : MultiStage S R H) (turn : Turn (Result (Vec (Result R Error)) Error)) → AfterTasks preserve p g turn → multi_phase g ≡ phase_after turn
after_phase preserve Stopped g turn a = rw (a.0, a.1) refl
after_phase preserve Waits g turn a = rw (a.0, a.1) refl
after_phase preserve (Ends outcomes) g turn (inl a) = rw (a.0, a.1) refl
after_phase preserve (Ends outcomes) g turn (inr a) = rw (a.1, a.2) refl

module _ {S R H L : Type 0} (m : Meaning S (Result R Error)) (keys : R → List ErrorView) (region : R → Option RegionErr) (is_part : S → S → Type 0) (load : S → L) (are_cut : L → List L → Type 0) (most : S → ℕ → ℕ) where
  -- its answer is made of how its tasks have ended
  answers : (inner : S) (limit : ℕ) (preserve : Bool) (ts : Tasks (RegionTask S R H) R) (h : List Event) (outcomes : List (Outcome R)) (v : Result (Vec (Result R Error)) Error)
      → (tasks_for {H = H} m keys region is_part load are_cut most inner limit).gives ts h outcomes → IsAnswer preserve outcomes v → MultiGives m keys region is_part load are_cut inner limit preserve h v
  answers inner limit preserve ts h outcomes v g a = inl (
    map part_of g.0,
    outcomes,
    record {
      cut = rw (loads_same load g.0) g.1.cut;
      belong = parts_belong m is_part most (record { plan = inner; limit = limit }) g.0 g.1.belong;
      each = parts_ended m keys region is_part most (record { plan = inner; limit = limit }) h g.0 outcomes g.1.belong g.1.each;
    },
    a,
  )

  asks_so : (inner : S) (limit : ℕ) (ts : Tasks (RegionTask S R H) R) (h : List Event) (r : Request) → (tasks_for {H = H} m keys region is_part load are_cut most inner limit).asks ts h r → MultiAsks m is_part inner h r
  asks_so inner limit ts h r a = elim a.2 [ inl x ↦ inl (a.0.job, a.1.part, x) | inr x ↦ inr x ]

  -- A call of its tasks.

  wider : (old : RetryableMultiRegion S R H) (ts ts' : Tasks (RegionTask S R H) R) (width : ℕ)
      → old.width ≤ width
      → number_of old.tasks (tasks_for {H = H} m keys region is_part load are_cut most old.inner (attempts_left old.backoff)).width ≤ (tasks_for {H = H} m keys region is_part load are_cut most old.inner (attempts_left old.backoff)).width ts
      → (tasks_for {H = H} m keys region is_part load are_cut most old.inner (attempts_left old.backoff)).width ts ≤ (tasks_for {H = H} m keys region is_part load are_cut most old.inner (attempts_left old.backoff)).width ts'
      → max old.width (number_of old.tasks (tasks_for {H = H} m keys region is_part load are_cut most old.inner (attempts_left old.backoff)).width) ≤ max width ((tasks_for {H = H} m keys region is_part load are_cut most old.inner (attempts_left old.backoff)).width ts')
  wider old ts ts' width wide inside further = max-le (le_trans wide (le-max_left width _)) (le_trans inside (le_trans further (le-max_right width _)))

  borne : (s : RetryableMultiRegion S R H) → s.tasks ≡ None → (w : ℕ) → IfSome s.tasks (λ t. (tasks_for {H = H} m keys region is_part load are_cut most s.inner (attempts_left s.backoff)).bears t w)
  borne s none w = rw none tt

  lifted : {told : Told} (old : RetryableMultiRegion S R H) (ts ts' : Tasks (RegionTask S R H) R) {from to : Posted} {p : Turn (List (Outcome R))}
      → ((h : List Event) → (multi {H = H} m keys region is_part load are_cut most).fits old from h → (tasks_for {H = H} m keys region is_part load are_cut most old.inner (attempts_left old.backoff)).fits ts from h)
      → Tells (tasks_for {H = H} m keys region is_part load are_cut most old.inner (attempts_left old.backoff)) told ts ts' from to p
      → Moves (MultiAsks m is_part old.inner) (λ h. (multi {H = H} m keys region is_part load are_cut most).fits old from h × told.known h) (λ h. (tasks_for {H = H} m keys region is_part load are_cut most old.inner (attempts_left old.backoff)).fits ts' to h)
      (λ h v. (tasks_for {H = H} m keys region is_part load are_cut most old.inner (attempts_left old.backoff)).gives ts h v) told.hear from to p
  lifted {told = told} old ts ts' fits t = Moves-map told.within (λ h f. (fits h f.0, f.1)) (λ h f k r a. asks_so old.inner (attempts_left old.backoff) ts k r a) (λ h f k w i. i) (λ h f k v g. g) t.moves

  pub tasks_told : {told : Told} (old : RetryableMultiRegion S R H) (ts ts' : Tasks (RegionTask S R H) R) (g : MultiStage S R H) (width : ℕ) {from to : Posted} (p : Turn (List (Outcome R))) {turn : Turn (Result (Vec (Result R Error)) Error)}
      → ((h : List Event) → (multi {H = H} m keys region is_part load are_cut most).fits old from h → (tasks_for {H = H} m keys region is_part load are_cut most old.inner (attempts_left old.backoff)).fits ts from h)
      → ((a : Awaited) → (tasks_for {H = H} m keys region is_part load are_cut most old.inner (attempts_left old.backoff)).waits ts a → (multi {H = H} m keys region is_part load are_cut most).waits old a)
      → (p ≡ Waits → tasks_phase ts'.stage ≡ Running)
      → AfterTasks old.preserve_region_results p g turn
      → Tells (tasks_for {H = H} m keys region is_part load are_cut most old.inner (attempts_left old.backoff)) told ts ts' from to p
      → Tells (multi {H = H} m keys region is_part load are_cut most) told old (record old { stage = g; tasks = Some ts'; width = width }) from to turn
  tasks_told old ts ts' g width Stopped fits waits runs after t = rw (after.0, after.1) (record {
    moves = Moves-stops (lifted old ts ts' fits t) refl;
    job = record { asked = λ h r x. x; given = λ h v x. x; gave = λ h v x. x };
    expects = record { sends = t.expects.sends; pushed = t.expects.pushed; only = λ a w. absurd w };
  })
  tasks_told old ts ts' g width Waits fits waits runs after t = rw (after.0, after.1) (record {
    moves = Moves-after (lifted old ts ts' fits t) (λ h k. (k.0, runs refl)) tt;
    job = record { asked = λ h r x. x; given = λ h v x. x; gave = λ h v x. x };
    expects = record { sends = t.expects.sends; pushed = t.expects.pushed; only = λ a w. elim (t.expects.only a w) [ inl x ↦ inl (waits a x.0, x.1) | inr x ↦ inr x ] };
  })
  tasks_told old ts ts' g width (Ends outcomes) fits waits runs (inl after) t = rw (after.0, after.1) (record {
    moves = Moves-stops (lifted old ts ts' fits t) refl;
    job = record { asked = λ h r x. x; given = λ h v x. x; gave = λ h v x. x };
    expects = record { sends = t.expects.sends; pushed = t.expects.pushed; only = λ a w. absurd w };
  })
  tasks_told old ts ts' g width (Ends outcomes) fits waits runs (inr after) t = rw (after.1, after.2) (record {
    moves = Moves-after (lifted old ts ts' fits t) (λ h k. tt) (λ h k. answers old.inner (attempts_left old.backoff) old.preserve_region_results ts h outcomes after.0 k.1 after.3);
    job = record { asked = λ h r x. x; given = λ h v x. x; gave = λ h v x. x };
    expects = record { sends = t.expects.sends; pushed = t.expects.pushed; only = λ a w. absurd w };
  })

  pub tasks_counted : {bad fails : Bool} {weight locked : ℕ} (old : RetryableMultiRegion S R H) (ts ts' : Tasks (RegionTask S R H) R) (g : MultiStage S R H) (width : ℕ) {from to : Posted} (p : Turn (List (Outcome R))) {turn : Turn (Result (Vec (Result R Error)) Error)}
      → old.width ≤ width
      → number_of old.tasks (tasks_for {H = H} m keys region is_part load are_cut most old.inner (attempts_left old.backoff)).width ≤ (tasks_for {H = H} m keys region is_part load are_cut most old.inner (attempts_left old.backoff)).width ts
      → ((w : ℕ) → (multi {H = H} m keys region is_part load are_cut most).bears old w → (tasks_for {H = H} m keys region is_part load are_cut most old.inner (attempts_left old.backoff)).bears ts w)
      → ((n : ℕ) → width ≤ n → (tasks_for {H = H} m keys region is_part load are_cut most old.inner (attempts_left old.backoff)).left ts n ≤ (multi {H = H} m keys region is_part load are_cut most).left old n)
      → AfterTasks old.preserve_region_results p g turn
      → Counts (tasks_for {H = H} m keys region is_part load are_cut most old.inner (attempts_left old.backoff)) bad fails weight locked ts ts' from to p
      → Counts (multi {H = H} m keys region is_part load are_cut most) bad fails weight locked old (record old { stage = g; tasks = Some ts'; width = width }) from to turn
  tasks_counted old ts ts' g width Stopped wide inside bears left after c = rw (after.0, after.1) (record {
    spends = Spends-around (wider old ts ts' width wide inside c.spends.wider) (le-max_right width _) bears (λ w b. b) (λ n l. left n (le_trans (le-max_left width _) l)) (λ n. omega arith) (λ e. e) c.spends;
    fewer = λ n. le_refl _;
  })
  tasks_counted old ts ts' g width Waits wide inside bears left after c = rw (after.0, after.1) (record {
    spends = Spends-around (wider old ts ts' width wide inside c.spends.wider) (le-max_right width _) bears (λ w b. b) (λ n l. left n (le_trans (le-max_left width _) l)) (λ n. le_refl _) (λ e. e) c.spends;
    fewer = λ n. le_refl _;
  })
  tasks_counted old ts ts' g width (Ends outcomes) wide inside bears left (inl after) c = rw (after.0, after.1) (record {
    spends = Spends-around (wider old ts ts' width wide inside c.spends.wider) (le-max_right width _) bears (λ w b. b) (λ n l. left n (le_trans (le-max_left width _) l)) (λ n. omega arith) (λ e. refl) c.spends;
    fewer = λ n. le_refl _;
  })
  tasks_counted old ts ts' g width (Ends outcomes) wide inside bears left (inr after) c = rw (after.1, after.2) (record {
    spends = Spends-around (wider old ts ts' width wide inside c.spends.wider) (le-max_right width _) bears (λ w b. b) (λ n l. left n (le_trans (le-max_left width _) l)) (λ n. omega arith) (λ e. e) c.spends;
    fewer = λ n. le_refl _;
  })

  -- A call of the search of its shards.

  looked : {told : Told} (old : RetryableMultiRegion S R H) (c c' : Looking S H) {from to : Posted} {p : Turn (Result (Vec (Part S)) Error)}
      → ((h : List Event) → (multi {H = H} m keys region is_part load are_cut most).fits old from h → SearchAt c.stage from h)
      → Tells (cutting {H = H} m is_part load are_cut most) told c c' from to p
      → Moves (MultiAsks m is_part old.inner) (λ h. (multi {H = H} m keys region is_part load are_cut most).fits old from h × told.known h) (λ h. SearchAt c'.stage to h) (λ h (v : Result (Vec (Part S)) Error). UnfoundIfErr h v) told.hear from to p
  looked {told = told} old c c' fits t = Moves-map told.within (λ h f. (fits h f.0, f.1)) (λ h f k r a. inr a) (λ h f k w i. i) (λ h f k v g. g.1) t.moves

  pub cut_told : {C : Type 0} {told : Told} (s new : RetryableMultiRegion S R H) (g : MultiStage S R H) (c c' : Looking S H) {from via to : Posted} (pd pd' : C) (p : Turn (Result (Vec (Part S)) Error)) {turn : Turn (Result (Vec (Result R Error)) Error)}
      → s.stage ≡ stage.Stopped → IsUnbegun m s.inner → s.tasks ≡ None
      → ((h : List Event) → (multi {H = H} m keys region is_part load are_cut most).fits (record s { stage = g }) from h → SearchAt c.stage from h)
      → ((a : Awaited) → search_waits c.stage a → (multi {H = H} m keys region is_part load are_cut most).waits (record s { stage = g }) a)
      → (p ≡ Waits → search_phase c'.stage ≡ Running)
      → Tells (cutting {H = H} m is_part load are_cut most) told c c' from via p
      → AfterCut (multi {H = H} m keys region is_part load are_cut most) p c' s new via to pd pd' turn
      → Tells (multi {H = H} m keys region is_part load are_cut most) told (record s { stage = g }) new from to turn
  cut_told s new g c c' pd pd' Stopped gone ready none fits waits runs t after = rw (after.0, after.1, after.2) (record {
    moves = Moves-stops (looked (record s { stage = g }) c c' fits t) refl;
    job = record { asked = λ h r x. x; given = λ h v x. x; gave = λ h v x. x };
    expects = record { sends = t.expects.sends; pushed = t.expects.pushed; only = λ a w. absurd (rw gone at w) };
  })
  cut_told s new g c c' pd pd' Waits gone ready none fits waits runs t after = rw (after.0, after.1, after.2) (record {
    moves = Moves-after (looked (record s { stage = g }) c c' fits t) (λ h k. (k.0, runs refl)) tt;
    job = record { asked = λ h r x. x; given = λ h v x. x; gave = λ h v x. x };
    expects = record { sends = t.expects.sends; pushed = t.expects.pushed; only = λ a w. elim (t.expects.only a w) [ inl x ↦ inl (waits a x.0, x.1) | inr x ↦ inr x ] };
  })
  cut_told {told = told} s new g c c' {via = via} pd pd' (Ends v) gone ready none fits waits runs t after = Tells-then {mid = record s { stage = stage.Fresh }} {gives = λ h (v : Result (Vec (Part S)) Error). UnfoundIfErr h v} {p = Ends v} (λ e. cc)
      (Moves-after (looked (record s { stage = g }) c c' fits t) (λ h k. (ready, none)) (λ h k. k.1))
      (record { asked = λ h r x. x; given = λ h v x. x; gave = λ h v x. x })
      (record { sends = t.expects.sends; pushed = t.expects.pushed; only = λ a w. absurd w })
      after.tells

  pub cut_counted : {C : Type 0} {bad fails : Bool} {weight locked : ℕ} (s new : RetryableMultiRegion S R H) (g : MultiStage S R H) (c c' : Looking S H) {from via to : Posted} (pd pd' : C) (p : Turn (Result (Vec (Part S)) Error)) {turn : Turn (Result (Vec (Result R Error)) Error)}
      → (fails ≡ true → bad ≡ true)
      → s.tasks ≡ None
      → ((n : ℕ) → (multi {H = H} m keys region is_part load are_cut most).left (record s { stage = g }) n ≡ shared m most s.inner n)
      → Counts (cutting {H = H} m is_part load are_cut most) bad fails weight locked c c' from via p
      → AfterCut (multi {H = H} m keys region is_part load are_cut most) p c' s new via to pd pd' turn
      → Counts (multi {H = H} m keys region is_part load are_cut most) bad fails weight locked (record s { stage = g }) new from to turn
  cut_counted s new g c c' pd pd' Stopped worse none left t after = rw (after.0, after.1, after.2) (record {
    spends = Spends-gone (Spends-owing left (Spends-beside (shared m most s.inner) _ (borne s none) t.spends));
    fewer = λ n. le_refl _;
  })
  cut_counted s new g c c' pd pd' Waits worse none left t after = rw (after.0, after.1, after.2) (record {
    spends = Spends-owing left (Spends-beside (shared m most s.inner) _ (borne s none) t.spends);
    fewer = λ n. le_refl _;
  })
  cut_counted s new g c c' pd pd' (Ends v) worse none left t after = Counts-then {first = false} {mid = record s { stage = stage.Fresh }} worse
      (Spends-owing left (Spends-beside (shared m most s.inner) _ (borne s none) t.spends)) (λ n. le_refl _) after.counts

  -- Which calls are meant for it.

  pub tasks_gone : {C : Type 0} {meant : Type 0} (old : RetryableMultiRegion S R H) (ts ts' : Tasks (RegionTask S R H) R) (g : MultiStage S R H) {from to : Posted} {pd pd' : C} (p : Turn (List (Outcome R))) {turn : Turn (Result (Vec (Result R Error)) Error)}
      → tasks_phase ts.stage ≡ Running
      → AfterTasks old.preserve_region_results p g turn
      → Goes (λ (t : Tasks (RegionTask S R H) R). tasks_phase t.stage) meant ts ts' from to pd pd' p
      → Goes (multi {H = H} m keys region is_part load are_cut most).phase meant (record old { stage = stage.Running; tasks = Some ts }) (record old { stage = g; tasks = Some ts' }) from to pd pd' turn
  tasks_gone old ts ts' g Stopped running after t = record {
    deaf = λ other. absurd (stopped_waits (t.deaf other ∙ ap unheard running));
    state = λ other. absurd (stopped_waits (t.deaf other ∙ ap unheard running));
    outbox = t.outbox;
    client = t.client;
    next = λ this. after_phase old.preserve_region_results Stopped g _ after;
  }
  tasks_gone old ts ts' g Waits running after t = rw (after.0, after.1) (record {
    deaf = λ other. refl;
    state = λ other. ap (λ (x : Tasks (RegionTask S R H) R). record old { stage = stage.Running; tasks = Some x }) (t.state other);
    outbox = t.outbox;
    client = t.client;
    next = λ this. refl;
  })
  tasks_gone old ts ts' g (Ends outcomes) running after t = record {
    deaf = λ other. absurd (ends_waits outcomes (t.deaf other ∙ ap unheard running));
    state = λ other. absurd (ends_waits outcomes (t.deaf other ∙ ap unheard running));
    outbox = t.outbox;
    client = t.client;
    next = λ this. after_phase old.preserve_region_results (Ends outcomes) g _ after;
  }

  pub cut_gone : {C : Type 0} {meant : Type 0} (s new : RetryableMultiRegion S R H) (c c' : Looking S H) {from via to : Posted} {pd pd' pd'' : C} (p : Turn (Result (Vec (Part S)) Error)) {turn : Turn (Result (Vec (Result R Error)) Error)}
      → s.stage ≡ stage.Stopped → search_phase c.stage ≡ Running
      → Goes (λ (c : Looking S H). search_phase c.stage) meant c c' from via pd pd' p
      → AfterCut (multi {H = H} m keys region is_part load are_cut most) p c' s new via to pd' pd'' turn
      → Goes (multi {H = H} m keys region is_part load are_cut most).phase meant (record s { stage = stage.Cutting c }) new from to pd pd'' turn
  cut_gone s new c c' Stopped gone running t after = record {
    deaf = λ other. absurd (stopped_waits (t.deaf other ∙ ap unheard running));
    state = λ other. absurd (stopped_waits (t.deaf other ∙ ap unheard running));
    outbox = λ other. absurd (stopped_waits (t.deaf other ∙ ap unheard running));
    client = λ other. absurd (stopped_waits (t.deaf other ∙ ap unheard running));
    next = λ this. rw (after.1, gone, after.0) refl;
  }
  cut_gone s new c c' Waits gone running t after = rw (after.0, after.1, after.2, after.3) (record {
    deaf = λ other. refl;
    state = λ other. ap (λ (x : Looking S H). record s { stage = stage.Cutting x }) (t.state other);
    outbox = t.outbox;
    client = t.client;
    next = λ this. refl;
  })
  cut_gone s new c c' (Ends v) gone running t after = record {
    deaf = λ other. absurd (ends_waits v (t.deaf other ∙ ap unheard running));
    state = λ other. absurd (ends_waits v (t.deaf other ∙ ap unheard running));
    outbox = λ other. absurd (ends_waits v (t.deaf other ∙ ap unheard running));
    client = λ other. absurd (ends_waits v (t.deaf other ∙ ap unheard running));
    next = λ this. after.next;
  }

  -- How it begins.

  -- it gave up before its tasks were started
  pub begins_not : {known : List Event → Type 0} (s : RetryableMultiRegion S R H) (width : ℕ) {o : Posted} {turn : Turn (Result (Vec (Result R Error)) Error)}
      → s.stage ≡ stage.Stopped → s.tasks ≡ None → s.width ≤ width → turn ≡ Stopped
      → Begins (multi {H = H} m keys region is_part load are_cut most) known (record s { stage = stage.Fresh }) (record s { width = width }) o o turn
  begins_not s width gone none wide e = rw e (record {
    tells = Tells-stopped refl refl (record { asked = λ h r x. x; given = λ h v x. x; gave = λ h v x. x }) (λ a w. absurd (rw gone at w));
    counts = record { spends = Spends-off (rw none (max-le (le_trans wide (le-max_left width 0)) (omega arith))); fewer = λ n. le_refl _ };
    next = ap multi_phase gone;
  })

  -- the first look-ups failed
  pub begins_refused : (s : RetryableMultiRegion S R H) (why : Error) {o : Posted}
      → IsUnbegun m s.inner → s.tasks ≡ None
      → Begins (multi {H = H} m keys region is_part load are_cut most) (λ h. IsLookUpRefused h why) (record s { stage = stage.Fresh }) (record s { stage = stage.Over }) o o (Ends (Err why))
  begins_refused s why ready none = record {
    tells = record {
      moves = Moves-quiet refl (λ h f. tt) (λ h f. inr (why, refl, f.1));
      job = record { asked = λ h r x. x; given = λ h v x. x; gave = λ h v x. x };
      expects = Expects-quiet (λ a w. absurd w);
    };
    counts = record { spends = Spends-quiet (λ e. e) (λ w b. borne s none (w + 0)) (λ n. omega arith); fewer = λ n. le_refl _ };
    next = refl;
  }

  -- each task for a part is new, has not been tried, and is a task of the plan
  pub tasks_new : (inner : S) (alloc : Global) (backoff : Backoff) (before : ℕ) (parts : List (Part S)) → ArePartsOf m is_part load are_cut most inner parts
      → All (λ t. IsNew (region_task {H = H} m keys region is_part load are_cut most) t) (map (task_for alloc backoff before) parts)
  tasks_new inner alloc backoff before parts are = each_task {R = R} {H = H} m is_part most inner alloc backoff before (λ u. IsNew (region_task m keys region is_part load are_cut most) u)
      (λ p i. record { phase = refl; light = λ w. tt; ready = record { job = record { unbegun = i.applied.unbegun; ready = i.applied.ready }; at = tt } }) parts are.each

  pub tasks_fit : (inner : S) (alloc : Global) (backoff : Backoff) (before : ℕ) (parts : List (Part S)) (o : Posted) (h : List Event) → before ≡ backoff.current_attempts → ArePartsOf m is_part load are_cut most inner parts
      → All (λ (t : RegionTask S R H). TaskFits m keys region t o h) (map (task_for alloc backoff before) parts)
  tasks_fit inner alloc backoff before parts o h e are = each_task {R = R} {H = H} m is_part most inner alloc backoff before (λ u. TaskFits m keys region u o h)
      (λ p i. record { at = let none : backoff.current_attempts - before ≡ 0 = omega arith in rw none tt }) parts are.each

  pub tasks_belong : (inner : S) (alloc : Global) (backoff : Backoff) (before : ℕ) (parts : List (Part S)) → before ≡ backoff.current_attempts → ArePartsOf m is_part load are_cut most inner parts
      → All (λ (t : RegionTask S R H). IsTaskOf m is_part most t (record { plan = inner; limit = attempts_left backoff })) (map (task_for alloc backoff before) parts)
  tasks_belong inner alloc backoff before parts e are = each_task {R = R} {H = H} m is_part most inner alloc backoff before (λ u. IsTaskOf m is_part most u (record { plan = inner; limit = attempts_left backoff }))
      (λ p i. record { part = i.belongs; less = λ n. mul-le-mul (i.fewer n) (i.applied.less n); limit = ap (λ (k : ℕ). backoff.max_attempts - k) e }) parts are.each

  -- its tasks are started
  pub begins_tasks : (s : RetryableMultiRegion S R H) (ts ts' : Tasks (RegionTask S R H) R) (g : MultiStage S R H) (width : ℕ) {from to : Posted} (p : Turn (List (Outcome R))) {turn : Turn (Result (Vec (Result R Error)) Error)}
      → s.tasks ≡ None → s.width ≤ width
      → tasks_phase ts.stage ≡ Fresh
      → ((o : Posted) (h : List Event) → (tasks_for {H = H} m keys region is_part load are_cut most s.inner (attempts_left s.backoff)).fits ts o h)
      → ((w : ℕ) → (tasks_for {H = H} m keys region is_part load are_cut most s.inner (attempts_left s.backoff)).bears ts w)
      → ((n : ℕ) → width ≤ n → (tasks_for {H = H} m keys region is_part load are_cut most s.inner (attempts_left s.backoff)).left ts n ≤ shared m most s.inner n)
      → (p ≡ Waits → tasks_phase ts'.stage ≡ Running)
      → AfterTasks s.preserve_region_results p g turn
      → Tells (tasks_for {H = H} m keys region is_part load are_cut most s.inner (attempts_left s.backoff)) started ts ts' from to p
      → Counts (tasks_for {H = H} m keys region is_part load are_cut most s.inner (attempts_left s.backoff)) false false 0 0 ts ts' from to p
      → Begins (multi {H = H} m keys region is_part load are_cut most) (λ h. ⊤) (record s { stage = stage.Fresh }) (record s { stage = g; tasks = Some ts'; width = width }) from to turn
  begins_tasks s ts ts' g width {from = from} p none wide fresh fits light left runs after t c = record {
    tells = tasks_told (record s { stage = stage.Fresh }) ts ts' g width p (λ h f. fits from h) (λ a w. absurd (fresh_waits ts.stage fresh w.1)) runs after t;
    counts = tasks_counted (record s { stage = stage.Fresh }) ts ts' g width p wide (rw none (omega arith)) (λ w b. light w) left after c;
    next = after_phase s.preserve_region_results p g _ after;
  }

  -- once it was told, it may be told more
  pub ready_after : (inner : S) (limit : ℕ) (preserve : Bool) (ts' : Tasks (RegionTask S R H) R) (g : MultiStage S R H) (p : Turn (List (Outcome R))) (turn : Turn (Result (Vec (Result R Error)) Error))
      → AfterTasks preserve p g turn → (p ≡ Waits → tasks_phase ts'.stage ≡ Running) → (tasks_for {H = H} m keys region is_part load are_cut most inner limit).ready ts'
      → StandsReady (tasks_for {H = H} m keys region is_part load are_cut most inner limit) inner g (Some ts')
  ready_after inner limit preserve ts' g Stopped turn after runs ready = rw after.1 tt
  ready_after inner limit preserve ts' g Waits turn after runs ready = rw after.1 (ready, runs refl)
  ready_after inner limit preserve ts' g (Ends outcomes) turn (inl after) runs ready = rw after.1 tt
  ready_after inner limit preserve ts' g (Ends outcomes) turn (inr after) runs ready = rw after.2 tt

  pub cut_next : {C : Type 0} (s new : RetryableMultiRegion S R H) (c' : Looking S H) (via to : Posted) (pd pd' : C) (p : Turn (Result (Vec (Part S)) Error)) (turn : Turn (Result (Vec (Result R Error)) Error))
      → s.stage ≡ stage.Stopped → AfterCut (multi {H = H} m keys region is_part load are_cut most) p c' s new via to pd pd' turn → multi_phase new.stage ≡ phase_after turn
  cut_next s new c' via to pd pd' Stopped turn gone after = rw (after.1, gone, after.0) refl
  cut_next s new c' via to pd pd' Waits turn gone after = rw (after.0, after.1) refl
  cut_next s new c' via to pd pd' (Ends v) turn gone after = after.next

  -- a search that was not begun waits for nothing
  pub unbegun_waits : (c : Looking S H) (a : Awaited) → IsUnbegun (cutting {H = H} m is_part load are_cut most) c → search_waits c.stage a → ⊥
  unbegun_waits c a u w = let law = cutting-lawful {H = H} m is_part load are_cut most in fresh_running (sym u.phase ∙ law.runs c a w)

  pub not_waiting : (inner : S) (limit : ℕ) (g : MultiStage S R H) (ts : Option (Tasks (RegionTask S R H) R)) (a : Awaited) → ((c : Looking S H) → g ≡ stage.Cutting c → ⊥) → (g ≡ stage.Running → ⊥)
      → MultiWaits (tasks_for {H = H} m keys region is_part load are_cut most inner limit) g ts a → ⊥
  not_waiting inner limit stage.Fresh ts a cuts runs w = w
  not_waiting inner limit (stage.Cutting c) ts a cuts runs w = cuts c refl
  not_waiting inner limit stage.Running ts a cuts runs w = runs refl
  not_waiting inner limit stage.Over ts a cuts runs w = w
  not_waiting inner limit stage.Stopped ts a cuts runs w = w
