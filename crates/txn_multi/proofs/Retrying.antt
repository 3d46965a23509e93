-- Events of one task of a plan over many regions, by those of its plan and of the search of its shards.
use Rattle.std.proofs.Common.{◌≡◌, ◌≢◌, ◌⊎◌, inl, inr, ℕ, suc, ◌+◌, ◌*◌, ◌-◌, ◌≤◌, true, false, List, [], ◌∷◌, ◌++◌, length, map, refl, sym, ap, subst, ◌∙◌, arith}
use Rattle.std.proofs.Math.Nat.{le_refl, le-max_right, le_trans, mul-le-mul, mul-le-mul_right}
use Rattle.std.proofs.lemmas.Bool.{false≢true}
use Rattle.std.proofs.lemmas.List.{length-map}
use Rattle.std.proofs.lemmas.List.Elements.{All-cons, All-head, All-nil, All-tail}
use Rattle.std.proofs.lemmas.List.Sums.{sum_by-le}
use Rattle.std.specs.List.{sum_by, All}
use Rattle.std.specs.Prelude.{⊤, max, IsErr, OnOk, Option, Some, None, Result, Ok, Err}
use Rattle.std.specs.Global.{Global, Vec}
use Rattle.txn_history.specs.Event.{Event}
use Rattle.txn_history.specs.Event.Event.{Began}
use Rattle.txn_history.specs.Later.{IsLater-refl, Moves-later}
use Rattle.txn_history.specs.Meaning.{started, Counts, Expects, Goes, IsLawful, IsUnbegun, Meaning, Tells, Told}
use Rattle.txn_history.specs.Moves.{Moves, Moves-after, Moves-before, Moves-map, Moves-quiet, Moves-slept, Moves-stopped, Moves-stops, Moves-then, SameJob, SameJob-trans}
use Rattle.txn_history.specs.Phase.{phase_after, unheard, Awaited, IsPosted, IsRunning, Phase}
use Rattle.txn_history.specs.Phase.Awaited.{EndOf}
use Rattle.txn_history.specs.Phase.Phase.{Fresh, GivenUp, Over, Running}
use Rattle.txn_history.specs.Posted.{Posted, ticket_of, Within-one, Within-refl, Within-trans}
use Rattle.txn_history.specs.Turn.{IfEnds, IfEnds-weaker, Turn}
use Rattle.txn_history.specs.Turn.Turn.{Ends, Stopped, Waits}
use Rattle.txn_history.proofs.Telling.{Expects-quiet, Expects-then}
use Rattle.txn_kv.specs.ErrorView.{ErrorView, listed, view_of, view_step}
use Rattle.txn_kv.specs.ErrorView.ErrorView.{multiple}
use Rattle.txn_kv.specs.Errors.{IsRegionError}
use Rattle.txn_kv.specs.declared.backoff.Backoff.{Backoff}
use Rattle.txn_kv.specs.declared.errors.Error.{Error}
use Rattle.txn_kv.specs.declared.errors.Error.TheVariants as errors
use Rattle.txn_kv.specs.declared.errors.Error.TheFolds.{fold-roll-Error}
use Rattle.txn_kv.specs.declared.errors.Internal.TheVariants.{NoEpoch}
use Rattle.txn_kv.specs.declared.errors.Error.TheOpen as layer
use Rattle.txn_kv.specs.declared.memory.NoMemory.{NoMemory}
use Rattle.txn_kv.specs.declared.message.Peer.{Peer}
use Rattle.txn_kv.specs.declared.message.RegionErr.{RegionErr}
use Rattle.txn_kv.specs.declared.outbox.Errand.TheVariants.{Sleep}
use Rattle.txn_kv.specs.declared.region.RegionVerId.{RegionVerId}
use Rattle.txn_kv.specs.declared.request.Request.{Request}
use Rattle.txn_kv.specs.declared.ticket.Ticket.{Ticket}
use Rattle.txn_multi.specs.Cutting.{cutting, cutting-lawful, ArePartsOf, IsPartOf, Looking, UnfoundIfErr}
use Rattle.txn_multi.specs.Task.{failed_by_longer, failed_longer, limit_of, owed, region_task, stage_left, stage_phase, stage_runs, task_for, tried, GoesOnAt, GoesOver, HaveFailedBefore, HaveFailedBy, IsChanged, IsEndAt, IsRefused, IsRefusedFor, IsTaskOf, IsUnderWay, MayGoOn, StageWaits, StepGives, TaskFits}
use Rattle.txn_multi.proofs.Trying.{before_on, before_start, counted, failed_once, is_over, limit_after, Moves-known}
use Rattle.txn_multi.specs.declared.part.Part.{Part}
use Rattle.txn_multi.specs.declared.stage.Stage.{Stage}
use Rattle.txn_multi.specs.declared.stage.Stage.TheVariants as stage
use Rattle.txn_multi.specs.declared.task.RegionTask.{RegionTask}
use Rattle.txn_history.specs.Arrivals.{awaited_as, tells_error, tells_failure, told_by}
use Rattle.txn_kv.specs.declared.arrival.Arrival.{Arrival}
use Rattle.txn_retry.specs.Remedy.{after, delay_ms, on_loss, on_region_error}
use Rattle.txn_retry.specs.declared.remedy.Next.{Next}
use Rattle.txn_retry.specs.declared.remedy.Next.TheVariants as next
use Rattle.txn_search.specs.Search.{search_phase}
use Rattle.txn_tasks.specs.Step.{step_turn, AreInPlace, IsNew, Keeps, MayStand}
use Rattle.txn_tasks.specs.declared.step.Step.{Step}
use Rattle.txn_tasks.specs.declared.step.Step.TheVariants.{End, Parts}

pub step_stopped : {T A : Type 0} (r : Result (Option (Step T A)) NoMemory) → IsErr r → step_turn r ≡ Stopped
step_stopped (Ok s) e = absurd (false≢true e)
step_stopped (Err e) i = refl

pub view-multiple : (found : Vec Error) → view_of (errors.MultipleKeyErrors found) ≡ multiple (listed (map view_of found.items))
view-multiple found = ap view_of (sym (errors.rolls-MultipleKeyErrors found)) ∙ fold-roll-Error ErrorView view_step (layer.MultipleKeyErrors found)

-- where it did not give up, as it holds at all
pub on_ok : {A E P : Type 0} (r : Result A E) → P → OnOk r P
on_ok (Ok a) p = p
on_ok (Err e) p = tt

pub on_ok_weaker : {A E P Q : Type 0} (r : Result A E) → (P → Q) → OnOk r P → OnOk r Q
on_ok_weaker (Ok a) w p = w p
on_ok_weaker (Err e) w p = tt

-- the region of a lost request is not believed in any more
pub loss_drops : {C : Type 0} (drops : RegionVerId → C → C → Type 0) (leads : RegionVerId → Peer → C → C → Type 0) (used : RegionVerId) (delay : Option ℕ) {old new : C} → IsChanged drops leads used (on_loss delay).change old new → drops used old new
loss_drops drops leads used None x = x
loss_drops drops leads used (Some ms) x = x

-- a loss is never followed by a cut at once
pub loss_waits : (delay : Option ℕ) → (on_loss delay).next ≡ next.AtOnce → ⊥
loss_waits None e = cc
loss_waits (Some ms) e = cc

-- What it tells, of any state.

-- what was under way ended in something that is known, and then it went on
Tells-over : {S A : Type 0} {m : Meaning S A} {told : Told} {old mid new : S} {known : List Event → Type 0} {waits : Awaited → Type 0} {from via to : Posted} {turn : Turn A}
    → Moves (m.asks old) (λ h. m.fits old from h × told.known h) known (λ (h : List Event) (v : A). ⊤) told.hear from via Waits
    → SameJob m.asks m.gives mid old
    → Expects (m.waits old) waits told.heard from via
    → GoesOver m known mid new via to turn
    → Tells m told old new from to turn
Tells-over {m = m} {waits = waits} s job e t = record {
  moves = Moves-then s (Moves-before (λ h k. k.0) (Moves-map {hear = λ h. h} Within-refl (λ h k. k) (λ h f k r a. job.asked k r a) (λ h f k w i. i) (λ h f k v g. job.given k v g) t.moves));
  job = SameJob-trans t.job job;
  expects = Expects-then e (record {
    sends = t.expects.sends;
    pushed = t.expects.pushed;
    only = λ a w. elim (t.expects.only a w) as (λ x. (waits a × (⊥ → ⊥)) ⊎ IsPosted t.expects.sends a) [ inl x ↦ absurd x.0 | inr p ↦ inr p ];
  });
}

-- it knows more
pub Over-before : {S A : Type 0} {m : Meaning S A} {known more : List Event → Type 0} {old new : S} {from to : Posted} {turn : Turn A}
    → ((h : List Event) → more h → known h) → GoesOver m known old new from to turn → GoesOver m more old new from to turn
Over-before w t = record { moves = Moves-before w t.moves; job = t.job; expects = t.expects; next = t.next }

-- a state with the same job goes on in its place
pub Over-mid : {S A : Type 0} {m : Meaning S A} {known : List Event → Type 0} {old mid new : S} {from to : Posted} {turn : Turn A}
    → SameJob m.asks m.gives mid old → GoesOver m known mid new from to turn → GoesOver m known old new from to turn
Over-mid job t = record {
  moves = Moves-map {hear = λ h. h} Within-refl (λ h k. k) (λ h f k r a. job.asked k r a) (λ h f k w i. i) (λ h f k v g. job.given k v g) t.moves;
  job = SameJob-trans t.job job;
  expects = t.expects;
  next = t.next;
}

-- the end of a state inside is an end of the state, unless it was not meant
pub Goes-over : {S T A B C : Type 0} {phase : S → Phase} {phase' : T → Phase} {meant : Type 0} {p q : S} {old new : T} {from via to : Posted} {pd pd' pd'' : C} {turn : Turn B}
    → (inner : Turn A) → inner ≢ Waits → phase p ≡ Running
    → Goes phase meant p q from via pd pd' inner
    → phase' new ≡ phase_after turn
    → Goes phase' meant old new from to pd pd'' turn
Goes-over {meant = meant} inner ends runs g after = record {
  deaf = λ other. absurd (never other);
  state = λ other. absurd (never other);
  outbox = λ other. absurd (never other);
  client = λ other. absurd (never other);
  next = λ this. after;
}
  where
    never : (meant → ⊥) → ⊥
    never other = ends (g.deaf other ∙ ap unheard runs)

-- a state that goes on goes on in the state around it
pub Goes-on : {S T A B C : Type 0} {phase : S → Phase} {phase' : T → Phase} {meant : Type 0} {p q : S} {from to : Posted} {pd pd' : C} (around : S → T)
    → ((s : S) → phase' (around s) ≡ Running)
    → Goes {A = A} phase meant p q from to pd pd' Waits
    → Goes {A = B} phase' meant (around p) (around q) from to pd pd' Waits
Goes-on {p = p} {q = q} around runs g = record {
  deaf = λ other. sym (ap unheard (runs p));
  state = λ other. ap around (g.state other);
  outbox = g.outbox;
  client = g.client;
  next = λ this. runs q;
}

running_or : (p : Phase) → ((p ≡ Running → ⊥) → ⊥) → p ≡ Running
running_or Fresh n = absurd (n (λ (e : Fresh ≡ Running). cc))
running_or Running n = refl
running_or Over n = absurd (n (λ (e : Over ≡ Running). cc))
running_or GivenUp n = absurd (n (λ (e : GivenUp ≡ Running). cc))

-- a state that has no answer yet runs on
pub still_running : {S A C : Type 0} {phase : S → Phase} {meant : Type 0} {p q : S} {from to : Posted} {pd pd' : C} → phase p ≡ Running → Goes {A = A} phase meant p q from to pd pd' Waits → phase q ≡ Running
still_running {phase = phase} {q = q} runs g = running_or (phase q) (λ not. not (ap phase (g.state (λ this. not (g.next this))) ∙ runs))

-- a state that was started waits on, or has ended
pub begun_running : {S A C : Type 0} {phase : S → Phase} {p q : S} {from to : Posted} {pd pd' : C} → phase p ≡ Fresh → Goes {A = A} phase (phase p ≡ Fresh) p q from to pd pd' Waits → phase q ≡ Running
begun_running fresh g = g.next fresh

-- what a state waits for that was just begun was posted
begun : {S A : Type 0} {m : Meaning S A} (law : IsLawful m) {job q : S} {from to : Posted} → m.phase job ≡ Fresh → Expects (m.waits job) (m.waits q) (λ a. ⊥) from to → Expects (λ a. ⊥) (m.waits q) (λ a. ⊥) from to
begun {m = m} law {job = job} fresh s = record {
  sends = s.sends;
  pushed = s.pushed;
  only = λ a w. elim (s.only a w) as (λ x. (⊥ × (⊥ → ⊥)) ⊎ IsPosted s.sends a) [ inl x ↦ absurd (subst IsRunning (sym (law.runs job a x.0) ∙ fresh) tt) | inr p ↦ inr p ];
}

module _ {S R H : Type 0} (m : Meaning S (Result R Error)) (keys : R → List ErrorView) (region : R → Option RegionErr) where
  -- what is known of a loss, whatever is done about it
  pub may_lose : (t : RegionTask S R H) (b : Backoff) (o : Posted) (ticket : Ticket) (n : Next) (h : List Event) → b ≡ after t.backoff → (on_loss (delay_ms t.backoff)).next ≡ n
      → m.gives t.job h (Err (errors.GrpcAPI ticket)) × HaveFailedBy (suc (tried t)) o h → MayGoOn {H = H} m keys region (record t { backoff = b }) o (errors.GrpcAPI ticket) n h
  may_lose t b o ticket n h same is g =
      rw same (subst (λ (x : Next). MayGoOn {H = H} m keys region (record t { backoff = after t.backoff }) o (errors.GrpcAPI ticket) x h) is (by (delay_ms t.backoff) refl))
    where
      by : (delay : Option ℕ) → delay_ms t.backoff ≡ delay → MayGoOn {H = H} m keys region (record t { backoff = after t.backoff }) o (errors.GrpcAPI ticket) (on_loss delay).next h
      by None e = inl (record { given = g.0; spent = λ loss. rw (limit_after t.backoff t.before) (is_over t.backoff t.before o h e g.1) })
      by (Some ms) e = (inl (ticket, g.0), counted t.backoff t.before o h g.1)

  -- what is known of an error of the region
  pub may_refuse : (t : RegionTask S R H) (b : Backoff) (o : Posted) (e : RegionErr) (failure : Error) (n : Next) (h : List Event) → b ≡ after t.backoff → (on_region_error (delay_ms t.backoff) e t.region).next ≡ n → IsRegionError e failure
      → IsRefused m keys region t.job h e × HaveFailedBy (suc (tried t)) o h → MayGoOn {H = H} m keys region (record t { backoff = b }) o failure n h
  may_refuse t b o e failure n h same is f r = rw same (by n is)
    where
      why : (end : Error) → IsEndAt e (on_region_error (delay_ms t.backoff) e t.region).next end → IsRefusedFor m keys region ((after t.backoff).max_attempts - t.before) t.region t.job h end
      why end at = record { error = e; delay = delay_ms t.backoff; refused = r.0; spent = λ none. rw (limit_after t.backoff t.before) (is_over t.backoff t.before o h none r.1); end = at }

      by : (x : Next) → (on_region_error (delay_ms t.backoff) e t.region).next ≡ x → MayGoOn {H = H} m keys region (record t { backoff = after t.backoff }) o failure x h
      by next.AtOnce at = (inr (e, r.0), counted t.backoff t.before o h r.1)
      by (next.Sleep ms) at = (inr (e, r.0), counted t.backoff t.before o h r.1)
      by next.End at = inr (inl (why failure (rw at f)))
      by (next.EndWithoutEpoch id) at = inr (inl (why (errors.InternalError (NoEpoch id)) (rw at refl)))

-- a stage that is none of those that wait
pub idle_at : {S A R H : Type 0} (m : Meaning S A) (g : Stage S R H) → ((p : S) → g ≡ stage.Running p → ⊥) → ((n : ℕ) → g ≡ stage.Sleeping n → ⊥) → ((c : Looking S H) → g ≡ stage.Cutting c → ⊥) → (a : Awaited) → StageWaits m g a → ⊥
idle_at m stage.Fresh r s c a w = w
idle_at m (stage.Running p) r s c a w = r p refl
idle_at m (stage.Sleeping n) r s c a w = s n refl
idle_at m (stage.Cutting k) r s c a w = c k refl
idle_at m stage.Cut r s c a w = w
idle_at m stage.Over r s c a w = w
idle_at m stage.Stopped r s c a w = w

-- only a task that was not started is fresh
pub only_fresh : {S R H : Type 0} (g : Stage S R H) → (g ≡ stage.Fresh → ⊥) → stage_phase g ≡ Fresh → ⊥
only_fresh stage.Fresh n e = n refl
only_fresh (stage.Running p) n e = cc
only_fresh (stage.Sleeping k) n e = cc
only_fresh (stage.Cutting c) n e = cc
only_fresh stage.Cut n e = cc
only_fresh stage.Over n e = cc
only_fresh stage.Stopped n e = cc

-- a call that is not for a state has no answer
pub no_end : {A : Type 0} (p : Phase) (P : A → Type 0) → IfEnds (unheard p) P
no_end Fresh P = tt
no_end Running P = tt
no_end Over P = tt
no_end GivenUp P = tt

-- The tasks for parts.
module _ {S A R H : Type 0} (m : Meaning S A) (is_part : S → S → Type 0) (most : S → ℕ → ℕ) (job : S) (alloc : Global) (backoff : Backoff) (before : ℕ) where
  each_made : (P : RegionTask S R H → Type 0) → ((p : Part S) → IsPartOf m is_part most job p.plan → P (task_for alloc backoff before p)) → (parts : List (Part S)) → All (λ p. IsPartOf m is_part most job p.plan) parts → All P (map (task_for alloc backoff before) parts)
  each_made P f [] a = All-nil P
  each_made P f (p ∷ ps) a = All-cons P (task_for alloc backoff before p) (map (task_for alloc backoff before) ps)
      (f p (All-head (λ (q : Part S). IsPartOf m is_part most job q.plan) p ps a))
      (each_made P f ps (All-tail (λ (q : Part S). IsPartOf m is_part most job q.plan) p ps a))

loads_made : {S L : Type 0} (R H : Type 0) (load : S → L) (alloc : Global) (backoff : Backoff) (before : ℕ) (parts : List (Part S)) → map (λ (t : RegionTask S R H). load t.job) (map (task_for alloc backoff before) parts) ≡ map (λ p. load p.plan) parts
loads_made R H load alloc backoff before [] = refl
loads_made {L = L} R H load alloc backoff before (p ∷ ps) = ap (λ (xs : List L). load p.plan ∷ xs) (loads_made R H load alloc backoff before ps)

module _ {S R H L : Type 0} (m : Meaning S (Result R Error)) (keys : R → List ErrorView) (region : R → Option RegionErr) (is_part : S → S → Type 0) (load : S → L) (are_cut : L → List L → Type 0) (most : S → ℕ → ℕ) where
  -- they stand in the place of the task
  pub made_in_place : (part_of_part : (a b c : S) → is_part a b → is_part b c → is_part a c) (t : RegionTask S R H) (width : ℕ) (alloc : Global) (parts : List (Part S))
      → ArePartsOf m is_part load are_cut most t.job parts
      → AreInPlace (region_task m keys region is_part load are_cut most) (λ (u : RegionTask S R H). load u.job) are_cut (IsTaskOf m is_part most) t (record t { stage = stage.Cut; width = width }) (map (task_for alloc t.backoff t.before) parts)
  made_in_place part_of_part t width alloc parts are = record {
    each = each_made {R = R} {H = H} m is_part most t.job alloc t.backoff t.before (λ u. IsNew (region_task m keys region is_part load are_cut most) u)
        (λ p i. record { phase = refl; light = λ w. tt; ready = record { job = record { unbegun = i.applied.unbegun; ready = i.applied.ready }; at = tt } }) parts are.each;
    fit = λ o h f. each_made {R = R} {H = H} m is_part most t.job alloc t.backoff t.before (λ u. TaskFits m keys region u o h) (λ p i. record { at = f.at }) parts are.each;
    cut = rw (loads_made R H load alloc t.backoff t.before parts) are.cut;
    belong = λ w is. each_made {R = R} {H = H} m is_part most t.job alloc t.backoff t.before (λ u. IsTaskOf m is_part most u w)
        (λ p i. record { part = part_of_part p.plan t.job w.plan i.belongs is.part; less = λ n. le_trans (mul-le-mul (le_trans (i.fewer n) (le-max_right 1 _)) (i.applied.less n)) (is.less n); limit = is.limit }) parts are.each;
  }

  -- they are left to post what it owed
  pub made_owe : (t : RegionTask S R H) (alloc : Global) (parts : List (Part S)) (n : ℕ)
      → ArePartsOf m is_part load are_cut most t.job parts → length parts ≤ n
      → sum_by (λ (u : RegionTask S R H). stage_left m most u.job u.stage n) (map (task_for alloc t.backoff t.before) parts) ≤ owed m most t.job n
  made_owe t alloc parts n are few =
      let made : List (RegionTask S R H) = map (task_for alloc t.backoff t.before) parts in
      let each : All (λ (u : RegionTask S R H). stage_left m most u.job u.stage n ≤ m.round t.job n) made =
      each_made {R = R} {H = H} m is_part most t.job alloc t.backoff t.before (λ u. stage_left m most u.job u.stage n ≤ m.round t.job n) (λ p i. i.applied.less n) parts are.each in
      let sum : sum_by (λ (u : RegionTask S R H). stage_left m most u.job u.stage n) made ≤ length made * m.round t.job n =
      sum_by-le (λ (u : RegionTask S R H). stage_left m most u.job u.stage n) (m.round t.job n) made each in
      let short : length made ≤ max 1 (most t.job n) = rw (length-map parts (task_for {R = R} {H = H} alloc t.backoff t.before)) (le_trans (are.few n few) (le-max_right 1 _)) in
      le_trans sum (mul-le-mul_right (m.round t.job n) short)

  step_same : (t u : RegionTask S R H) → u.job ≡ t.job → u.region ≡ t.region → limit_of u ≡ limit_of t → (h : List Event) (s : Step (RegionTask S R H) R) → StepGives m keys region is_part load are_cut most u h s → StepGives m keys region is_part load are_cut most t h s
  step_same t u same used limit h (End v) g = rw (same, used, limit) at g
  step_same t u same used limit h (Parts tasks) g = rw same at g

  -- its job is the same
  pub same_task : (t u : RegionTask S R H) → u.job ≡ t.job → u.region ≡ t.region → limit_of u ≡ limit_of t → SameJob (region_task {H = H} m keys region is_part load are_cut most).asks (region_task {H = H} m keys region is_part load are_cut most).gives u t
  same_task t u same used limit = record {
    asked = λ h r x. rw same at x;
    given = λ h v x. step_same t u same used limit h v x;
    gave = λ h v x. step_same u t (sym same) (sym used) (sym limit) h v x;
  }

  may_stand : (t u new : RegionTask S R H) → u.job ≡ t.job → limit_of u ≡ limit_of t → (s : Step (RegionTask S R H) R)
      → MayStand (region_task m keys region is_part load are_cut most) (λ (x : RegionTask S R H). load x.job) are_cut (IsTaskOf m is_part most) u new s
      → MayStand (region_task m keys region is_part load are_cut most) (λ (x : RegionTask S R H). load x.job) are_cut (IsTaskOf m is_part most) t new s
  may_stand t u new same limit (End v) x = tt
  may_stand t u new same limit (Parts tasks) x = record { each = x.each; fit = x.fit; cut = rw same at x.cut; belong = λ w is. x.belong w (record { part = rw same is.part; less = λ n. rw same (is.less n); limit = limit ∙ is.limit }) }

  -- what it keeps stands by its job and its attempts alone
  pub keeps_at : (t u : RegionTask S R H) {new : RegionTask S R H} (turn : Turn (Step (RegionTask S R H) R)) → u.job ≡ t.job → limit_of u ≡ limit_of t
      → Keeps (region_task m keys region is_part load are_cut most) (λ x. load x.job) are_cut (IsTaskOf m is_part most) (λ x. stage_runs x.stage) u new turn
      → Keeps (region_task m keys region is_part load are_cut most) (λ x. load x.job) are_cut (IsTaskOf m is_part most) (λ x. stage_runs x.stage) t new turn
  keeps_at t u {new} turn same limit k = record {
    work = rw same at k.work;
    belongs = λ w is. k.belongs w (record { part = rw same is.part; less = λ n. rw same (is.less n); limit = limit ∙ is.limit });
    rests = k.rests;
    stands = IfEnds-weaker turn (λ s x. may_stand t u new same limit s x) k.stands;
    wide = k.wide;
    owes = k.owes;
  }

  -- an event that is not for it
  pub keeps_idle : (t : RegionTask S R H) (p : Phase)
      → Keeps (region_task m keys region is_part load are_cut most) (λ x. load x.job) are_cut (IsTaskOf m is_part most) (λ x. stage_runs x.stage) t t (unheard p)
  keeps_idle t Fresh = record { work = refl; belongs = λ w is. is; rests = λ e. absurd e; stands = tt; wide = tt; owes = tt }
  keeps_idle t Running = record { work = refl; belongs = λ w is. is; rests = λ e. absurd e; stands = tt; wide = tt; owes = tt }
  keeps_idle t Over = record { work = refl; belongs = λ w is. is; rests = λ e. absurd e; stands = tt; wide = tt; owes = tt }
  keeps_idle t GivenUp = record { work = refl; belongs = λ w is. is; rests = λ e. absurd e; stands = tt; wide = tt; owes = tt }

  -- it gives tasks for its parts
  pub over_given : (t : RegionTask S R H) (width : ℕ) (alloc : Global) (parts : List (Part S)) (tasks : Vec (RegionTask S R H)) {o : Posted}
      → ArePartsOf m is_part load are_cut most t.job parts → tasks.items ≡ map (task_for alloc t.backoff t.before) parts
      → GoesOver (region_task m keys region is_part load are_cut most) (GoesOnAt m keys region t o) t (record t { stage = stage.Cut; width = width }) o o (Ends (Parts tasks))
  over_given t width alloc parts tasks are made = record {
    moves = Moves-quiet refl (λ h f. record { at = f.1 }) (λ h f. (f.0, record { parts = parts; are = are; alloc = alloc; backoff = t.backoff; before = t.before; made = made }));
    job = record { asked = λ h r x. x; given = λ h v x. x; gave = λ h v x. x };
    expects = Expects-quiet (λ a w. absurd w);
    next = refl;
  }

  pub keeps_given : (part_of_part : (a b c : S) → is_part a b → is_part b c → is_part a c) (t : RegionTask S R H) (width : ℕ) (alloc : Global) (parts : List (Part S)) (tasks : Vec (RegionTask S R H))
      → ArePartsOf m is_part load are_cut most t.job parts → tasks.items ≡ map (task_for alloc t.backoff t.before) parts → length parts ≤ width
      → Keeps (region_task m keys region is_part load are_cut most) (λ u. load u.job) are_cut (IsTaskOf m is_part most) (λ u. stage_runs u.stage) t (record t { stage = stage.Cut; width = width }) (Ends (Parts tasks))
  keeps_given part_of_part t width alloc parts tasks are made few = record {
    work = refl;
    belongs = λ w is. record { part = is.part; less = is.less; limit = is.limit };
    rests = λ e. refl;
    stands = rw made (made_in_place part_of_part t width alloc parts are);
    wide = rw (made, length-map parts (task_for {R = R} {H = H} alloc t.backoff t.before)) few;
    owes = λ n wide. rw made (made_owe t alloc parts n are (le_trans few wide));
  }

  module _ (law : IsLawful m) where
    -- it begins a sleep
    pub Over-slept : (t : RegionTask S R H) (ms n : ℕ) {from to : Posted} → n ≡ from.next
        → to ≡ record from { next = from.next + 1; sends = from.sends ++ Sleep from.next ms ∷ [] }
        → GoesOver (region_task m keys region is_part load are_cut most) (GoesOnAt m keys region t from) t (record t { stage = stage.Sleeping n }) from to Waits
    Over-slept t ms n {from} {to} e is = record {
      moves = Moves-slept ms is (λ h f. record {
        at = (
          rw (e, is) (ms, inl refl, omega arith),
          failed_longer m keys region law t.job h (Began (ticket_of from from.next) ms ∷ h) (Within-one (Began (ticket_of from from.next) ms) h) f.0,
          failed_by_longer (tried t) from to h (Began (ticket_of from from.next) ms ∷ h) (rw is (record { line = refl; beat = refl; next = omega arith; next_ask = le_refl _ })) (Within-one (Began (ticket_of from from.next) ms) h) f.1,
        );
      });
      job = record { asked = λ h r x. x; given = λ h v x. x; gave = λ h v x. x };
      expects = record { sends = Sleep from.next ms ∷ []; pushed = ap (λ (o : Posted). o.sends) is; only = λ a w. inr (Sleep from.next ms, inl refl, ap EndOf (sym e) ∙ sym w) };
      next = refl;
    }

    -- it gives up, and nothing is posted
    pub Over-stopped : {known : List Event → Type 0} (t u : RegionTask S R H) {o : Posted} {turn : Turn (Step (RegionTask S R H) R)} → u.job ≡ t.job → u.region ≡ t.region → limit_of u ≡ limit_of t → u.stage ≡ stage.Stopped → turn ≡ Stopped
        → GoesOver (region_task m keys region is_part load are_cut most) known t u o o turn
    Over-stopped t u same used limit s e = record {
      moves = Moves-stopped e refl;
      job = same_task t u same used limit;
      expects = Expects-quiet (λ a w. absurd (rw s at w));
      next = rw (s, e) refl;
    }

    -- its plan runs on
    pub tells_on_plan : {told : Told} (t : RegionTask S R H) (p q : S) {from to : Posted} → IsUnderWay m t.job p → m.phase q ≡ Running
        → Tells m told p q from to Waits
        → Tells (region_task m keys region is_part load are_cut most) told (record t { stage = stage.Running p }) (record t { stage = stage.Running q }) from to Waits
    tells_on_plan {told} t p q {from} {to} way runs s = record {
      moves = Moves-after
          (Moves-known {more = HaveFailedBefore m q (tried t) to} (λ h f k w. before_on m p q (tried t) from to h k s.moves.sends (Moves-later s.moves) (Within-trans h (told.hear h) k (told.within h) w) s.moves.pushed s.moves.numbered s.expects f.0.at.2)
          (Moves-map told.within (λ h f. (f.0.at.0, f.1)) (λ h f k r a. inl (way.same.asked k r a)) (λ h f k w i. i) (λ h f k v g. g) s.moves))
          (λ h k. record { at = (k.0.0, runs, k.0.1) }) tt;
      job = record { asked = λ h r x. x; given = λ h v x. x; gave = λ h v x. x };
      expects = record { sends = s.expects.sends; pushed = s.expects.pushed; only = s.expects.only };
    }

    -- Its plan has ended. An answer that a new run may better comes of a failure, which is counted.
    pub tells_over_plan : {C : Type 0} {weight locked : ℕ} (x : Arrival) (r : Request) (t : RegionTask S R H) (p q : S) {new : RegionTask S R H} {v : Result R Error} {from via to : Posted} {pd pd' : C} {turn : Turn (Step (RegionTask S R H) R)} → IsUnderWay m t.job p
        → Goes m.phase (m.waits p (awaited_as x)) p q from via pd pd' (Ends v)
        → Counts m (tells_error x) (tells_failure x) weight locked p q from via (Ends v)
        → Tells m (told_by x from r) p q from via (Ends v)
        → GoesOver (region_task m keys region is_part load are_cut most) (λ h. m.gives t.job h v × (m.fails v ≡ true → HaveFailedBy (suc (tried t)) via h)) t new via to turn
        → Tells (region_task m keys region is_part load are_cut most) (told_by x from r) (record t { stage = stage.Running p }) new from to turn
    tells_over_plan x r t p q {v = v} {from = from} {via = via} way goes counts s over =
        let told = told_by x from r in
        Tells-over
        (Moves-after
        (Moves-known {more = λ k. m.fails v ≡ true → HaveFailedBy (suc (tried t)) via k}
        (λ h f k w fails. failed_once m x r p v (tried t) from via h k law way.phase (Moves-later s.moves) (Within-trans h (told.hear h) k (told.within h) w) w goes.deaf f.0.at.0 f.0.at.2 (counts.spends.allowed refl fails))
        (Moves-map told.within (λ h f. (f.0.at.0, f.1)) (λ h f k r a. inl (way.same.asked k r a)) (λ h f k w i. i) (λ h f k v g. way.same.given k v g) s.moves))
        (λ h k. (k.1, k.0.1)) tt)
        (record { asked = λ h r x. x; given = λ h v x. x; gave = λ h v x. x }) s.expects over

    -- its plan gave up
    pub tells_off_plan : {told : Told} (t u : RegionTask S R H) (p q : S) {from to : Posted} {inner : Turn (Result R Error)} {turn : Turn (Step (RegionTask S R H) R)} → IsUnderWay m t.job p
        → u.job ≡ t.job → u.region ≡ t.region → limit_of u ≡ limit_of t → u.stage ≡ stage.Stopped → turn ≡ Stopped
        → Tells m told p q from to inner
        → Tells (region_task m keys region is_part load are_cut most) told (record t { stage = stage.Running p }) u from to turn
    tells_off_plan {told} t u p q way same used limit stops e s = record {
      moves = Moves-stops (Moves-map told.within (λ h f. (f.0.at.0, f.1)) (λ h f k r a. inl (way.same.asked k r a)) (λ h f k w i. i) (λ h f k v g. g) s.moves) e;
      job = same_task (record t { stage = stage.Running p }) u same used limit;
      expects = record { sends = s.expects.sends; pushed = s.expects.pushed; only = λ a w. absurd (rw stops at w) };
    }

    -- its plan was started
    pub tells_on_start : (t : RegionTask S R H) (q : S) {from to : Posted} → IsUnbegun m t.job → m.phase q ≡ Running
        → Tells m started t.job q from to Waits
        → Tells (region_task m keys region is_part load are_cut most) started (record t { stage = stage.Fresh }) (record t { stage = stage.Running q }) from to Waits
    tells_on_start t q {from} {to} u runs s = record {
      moves = Moves-after
          (Moves-known {more = HaveFailedBefore m q (tried t) to} (λ h f k w. before_start m q (tried t) from to h k s.moves.sends (Moves-later s.moves) w s.moves.pushed s.moves.numbered (begun law u.phase s.expects) f.0.at)
          (Moves-map Within-refl (λ h f. (u.fits from h, tt)) (λ h f k r a. inl a) (λ h f k w i. i) (λ h f k v g. g) s.moves))
          (λ h k. record { at = (k.0.0, runs, k.0.1) }) tt;
      job = record { asked = λ h r x. x; given = λ h v x. x; gave = λ h v x. x };
      expects = begun law u.phase s.expects;
    }

    -- its plan ended as it was started, which no new run betters
    pub tells_over_start : (t : RegionTask S R H) (q : S) {new : RegionTask S R H} {v : Result R Error} {from via to : Posted} {turn : Turn (Step (RegionTask S R H) R)} → IsUnbegun m t.job
        → Counts m false false 0 0 t.job q from via (Ends v)
        → Tells m started t.job q from via (Ends v)
        → GoesOver (region_task m keys region is_part load are_cut most) (λ h. m.gives t.job h v × (m.fails v ≡ true → HaveFailedBy (suc (tried t)) via h)) t new via to turn
        → Tells (region_task m keys region is_part load are_cut most) started (record t { stage = stage.Fresh }) new from to turn
    tells_over_start t q {from = from} u counts s over = Tells-over
        (Moves-after (Moves-map Within-refl (λ h f. (u.fits from h, tt)) (λ h f k r a. inl a) (λ h f k w i. i) (λ h f k v g. g) s.moves) (λ h k. (k.1, λ fails. absurd (false≢true (counts.spends.allowed refl fails)))) tt)
        (record { asked = λ h r x. x; given = λ h v x. x; gave = λ h v x. x }) (begun law u.phase s.expects) over

    -- it gave up before or as its plan was started
    pub tells_off_start : (t u : RegionTask S R H) (q : S) {from to : Posted} {inner : Turn (Result R Error)} {turn : Turn (Step (RegionTask S R H) R)} → IsUnbegun m t.job
        → u.job ≡ t.job → u.region ≡ t.region → limit_of u ≡ limit_of t → u.stage ≡ stage.Stopped → turn ≡ Stopped
        → Tells m started t.job q from to inner
        → Tells (region_task m keys region is_part load are_cut most) started (record t { stage = stage.Fresh }) u from to turn
    tells_off_start t u q {from} unbegun same used limit stops e s = record {
      moves = Moves-stops (Moves-map Within-refl (λ h f. (unbegun.fits from h, tt)) (λ h f k r a. inl a) (λ h f k w i. i) (λ h f k v g. g) s.moves) e;
      job = same_task (record t { stage = stage.Fresh }) u same used limit;
      expects = record { sends = s.expects.sends; pushed = s.expects.pushed; only = λ a w. absurd (rw stops at w) };
    }

    -- its search goes on
    pub tells_on_search : {told : Told} (t : RegionTask S R H) (c d : Looking S H) {from to : Posted} → search_phase d.stage ≡ Running
        → Tells (cutting m is_part load are_cut most) told c d from to Waits
        → Tells (region_task m keys region is_part load are_cut most) told (record t { stage = stage.Cutting c }) (record t { stage = stage.Cutting d }) from to Waits
    tells_on_search {told} t c d {from = from} {to = to} runs s = record {
      moves = Moves-after (Moves-map {is' = TaskFits m keys region (record t { stage = stage.Cutting d }) to} told.within (λ h f. (f.0.at.0, f.1)) (λ h f k r a. inr a)
          (λ h f k w i. record { at = (i, runs, failed_longer m keys region law t.job h k w f.0.at.2, failed_by_longer (tried t) from to h k (Moves-later s.moves) w f.0.at.3) }) (λ h f k v g. g) s.moves) (λ h k. k.0) tt;
      job = record { asked = λ h r x. x; given = λ h v x. x; gave = λ h v x. x };
      expects = record { sends = s.expects.sends; pushed = s.expects.pushed; only = s.expects.only };
    }

    -- its search has ended
    pub tells_over_search : {told : Told} (t : RegionTask S R H) (c d : Looking S H) {new : RegionTask S R H} {v : Result (Vec (Part S)) Error} {from via to : Posted} {turn : Turn (Step (RegionTask S R H) R)}
        → Tells (cutting m is_part load are_cut most) told c d from via (Ends v)
        → GoesOver (region_task m keys region is_part load are_cut most) (λ h. GoesOnAt m keys region t via h × UnfoundIfErr h v) t new via to turn
        → Tells (region_task m keys region is_part load are_cut most) told (record t { stage = stage.Cutting c }) new from to turn
    tells_over_search {told} t c d {from = from} {via = via} s over = Tells-over
        (Moves-after (Moves-map {is' = GoesOnAt m keys region t via} told.within (λ h f. (f.0.at.0, f.1)) (λ h f k r a. inr a)
        (λ h f k w i. (failed_longer m keys region law t.job h k w f.0.at.2, failed_by_longer (tried t) from via h k (Moves-later s.moves) w f.0.at.3)) (λ h f k v g. g) s.moves) (λ h k. (k.0, k.1.1)) tt)
        (record { asked = λ h r x. x; given = λ h v x. x; gave = λ h v x. x }) s.expects over

    -- its search gave up
    pub tells_off_search : {told : Told} (t u : RegionTask S R H) (c d : Looking S H) {from to : Posted} {inner : Turn (Result (Vec (Part S)) Error)} {turn : Turn (Step (RegionTask S R H) R)}
        → u.job ≡ t.job → u.region ≡ t.region → limit_of u ≡ limit_of t → u.stage ≡ stage.Stopped → turn ≡ Stopped
        → Tells (cutting m is_part load are_cut most) told c d from to inner
        → Tells (region_task m keys region is_part load are_cut most) told (record t { stage = stage.Cutting c }) u from to turn
    tells_off_search {told} t u c d same used limit stops e s = record {
      moves = Moves-stops (Moves-map told.within (λ h f. (f.0.at.0, f.1)) (λ h f k r a. inr a) (λ h f k w i. i) (λ h f k v g. g) s.moves) e;
      job = same_task (record t { stage = stage.Cutting c }) u same used limit;
      expects = record { sends = s.expects.sends; pushed = s.expects.pushed; only = λ a w. absurd (rw stops at w) };
    }

    -- a search that is begun, and goes on
    pub over_on_search : (t : RegionTask S R H) (c d : Looking S H) {from to : Posted} → IsUnbegun (cutting m is_part load are_cut most) c → search_phase d.stage ≡ Running
        → Tells (cutting m is_part load are_cut most) started c d from to Waits
        → GoesOver (region_task m keys region is_part load are_cut most) (GoesOnAt m keys region t from) t (record t { stage = stage.Cutting d }) from to Waits
    over_on_search t c d {from} {to} u runs s = record {
      moves = Moves-after (Moves-map {is' = TaskFits m keys region (record t { stage = stage.Cutting d }) to} Within-refl (λ h f. (u.fits from h, tt)) (λ h f k r a. inr a)
          (λ h f k w i. record { at = (i, runs, failed_longer m keys region law t.job h k w f.0, failed_by_longer (tried t) from to h k (Moves-later s.moves) w f.1) }) (λ h f k v g. g) s.moves) (λ h k. k.0) tt;
      job = record { asked = λ h r x. x; given = λ h v x. x; gave = λ h v x. x };
      expects = begun (cutting-lawful {H = H} m is_part load are_cut most) {job = c} {q = d} u.phase s.expects;
      next = refl;
    }

    -- a search that is begun, and gives up
    pub over_off_search : {known : List Event → Type 0} (t u : RegionTask S R H) (c d : Looking S H) {from to : Posted} {inner : Turn (Result (Vec (Part S)) Error)} {turn : Turn (Step (RegionTask S R H) R)} → IsUnbegun (cutting m is_part load are_cut most) c
        → u.job ≡ t.job → u.region ≡ t.region → limit_of u ≡ limit_of t → u.stage ≡ stage.Stopped → turn ≡ Stopped
        → Tells (cutting m is_part load are_cut most) started c d from to inner
        → GoesOver (region_task m keys region is_part load are_cut most) known t u from to turn
    over_off_search {known} t u c d {from} unbegun same used limit stops e s = record {
      moves = Moves-stops (Moves-map {was' = known} Within-refl (λ h f. (unbegun.fits from h, tt)) (λ h f k r a. inr a) (λ h f k w i. i) (λ h f k v g. g) s.moves) e;
      job = same_task t u same used limit;
      expects = record { sends = s.expects.sends; pushed = s.expects.pushed; only = λ a w. absurd (rw stops at w) };
      next = rw (stops, e) refl;
    }

    -- a search that is begun, and ends at once
    pub over_over_search : (t : RegionTask S R H) (c d : Looking S H) {new : RegionTask S R H} {v : Result (Vec (Part S)) Error} {from via to : Posted} {turn : Turn (Step (RegionTask S R H) R)} → IsUnbegun (cutting m is_part load are_cut most) c
        → Tells (cutting m is_part load are_cut most) started c d from via (Ends v)
        → GoesOver (region_task m keys region is_part load are_cut most) (λ h. GoesOnAt m keys region t via h × UnfoundIfErr h v) t new via to turn
        → GoesOver (region_task m keys region is_part load are_cut most) (GoesOnAt m keys region t from) t new from to turn
    over_over_search t c d {from = from} {via = via} u s over = record {
      moves = Moves-then (Moves-after {B = Step (RegionTask S R H) R} {gives' = λ h v. ⊤} {q = Waits} (Moves-map {is' = GoesOnAt m keys region t via} Within-refl (λ h f. (u.fits from h, tt)) (λ h f k r a. inr a)
          (λ h f k w i. (failed_longer m keys region law t.job h k w f.0, failed_by_longer (tried t) from via h k (Moves-later s.moves) w f.1)) (λ h f k v g. g) s.moves) (λ h k. (k.0, k.1.1)) tt)
          (Moves-before (λ h k. k.0) over.moves);
      job = over.job;
      expects = Expects-then (begun (cutting-lawful {H = H} m is_part load are_cut most) {job = c} {q = d} u.phase s.expects) (record {
        sends = over.expects.sends;
        pushed = over.expects.pushed;
        only = λ a w. elim (over.expects.only a w) as (λ x. ((cutting {H = H} m is_part load are_cut most).waits d a × (⊥ → ⊥)) ⊎ IsPosted over.expects.sends a) [ inl x ↦ absurd x.0 | inr p ↦ inr p ];
      });
      next = over.next;
    }

    -- its sleep has ended
    pub tells_wake : {told : Told} (t : RegionTask S R H) (n : ℕ) {new : RegionTask S R H} {from to : Posted} {turn : Turn (Step (RegionTask S R H) R)}
        → GoesOver (region_task m keys region is_part load are_cut most) (GoesOnAt m keys region t from) t new from to turn
        → Tells (region_task m keys region is_part load are_cut most) told (record t { stage = stage.Sleeping n }) new from to turn
    tells_wake {told} t n {from = from} over = Tells-over {waits = λ a. ⊥}
        (Moves-quiet refl (λ h f. (failed_longer m keys region law t.job h (told.hear h) (told.within h) f.0.at.1, failed_by_longer (tried t) from from h (told.hear h) (IsLater-refl from) (told.within h) f.0.at.2)) tt)
        (record { asked = λ h r x. x; given = λ h v x. x; gave = λ h v x. x }) (Expects-quiet (λ a w. absurd w)) over
