-- The tasks of a plan over all stores: how they begin, and what the plan does after their calls.
use Rattle.std.proofs.Common.{◌≡◌, ◌⊎◌, inl, inr, ℕ, ◌+◌, ◌*◌, ◌≤◌, Bool, false, List, [], ◌∷◌, length, map, max, refl, sym, ap, subst, ◌∙◌, arith}
use Rattle.std.proofs.Math.Nat.{le_refl, mul-le-mul_right}
use Rattle.std.proofs.lemmas.List.Elements.{All-head, All-map, All-tail}
use Rattle.std.proofs.lemmas.List.Sums.{sum_by-le}
use Rattle.std.proofs.lemmas.List.{length-map}
use Rattle.std.specs.Global.{Global, Vec}
use Rattle.std.specs.List.{concat, sum_by, All, AllZip}
use Rattle.std.specs.Prelude.{Option, Some, Result, Ok, Err}
use Rattle.txn_history.proofs.Counting.{Spends-after, Spends-before, Spends-failed, Spends-map, Spends-stops}
use Rattle.txn_history.proofs.Telling.{Expects-quiet}
use Rattle.txn_history.specs.Event.{Event}
use Rattle.txn_history.specs.Meaning.{started, Counts, Goes, IsLawful, IsUnbegun, Meaning, Tells, Told}
use Rattle.txn_history.specs.Moves.{Moves, Moves-after, Moves-map, Moves-quiet, Moves-stops, SameJob}
use Rattle.txn_history.specs.Phase.{phase_after, unheard, Awaited, IsPosted, Phase}
use Rattle.txn_history.specs.Phase.Phase.{Fresh, Running}
use Rattle.txn_history.specs.Posted.{Posted, Within, Within-refl}
use Rattle.txn_history.specs.Spends.{Spends}
use Rattle.txn_history.specs.Turn.{failing, is_kept, Turn}
use Rattle.txn_history.specs.Turn.Turn.{Stopped, Waits, Ends}
use Rattle.txn_kv.specs.ErrorView.{ErrorView}
use Rattle.txn_kv.specs.declared.backoff.Backoff.{Backoff}
use Rattle.txn_kv.specs.declared.errors.Error.{Error}
use Rattle.txn_kv.specs.declared.message.RegionErr.{RegionErr}
use Rattle.txn_region.specs.declared.store.Store.{Store}
use Rattle.txn_retry.specs.Outcome.{in_place}
use Rattle.txn_stores.specs.Aimed.{IsAimed}
use Rattle.txn_stores.specs.AllFollows.{AllGoesOn, AreFoundIn, TasksFollow}
use Rattle.txn_stores.specs.AllLaws.{found_longer, store_tasks-lawful}
use Rattle.txn_stores.specs.AllStores.{all_bears, all_left, all_phase, all_stores, all_waits, ids_of, run_left, run_width, store_tasks, AllAsk, AllAt, AllFits, AllGive, AllReady, IfRun, IsAnswered, ReadyAt, TasksFit}
use Rattle.txn_stores.specs.StoreTask.{is_running, store_of, store_task, task_at, AreStores, IsTaskOf, TaskFits, TaskGives}
use Rattle.txn_stores.specs.declared.all_stage.AllStage.{AllStage}
use Rattle.txn_stores.specs.declared.all_stage.AllStage.TheVariants as stage
use Rattle.txn_stores.specs.declared.all_stores.RetryableAllStores.{RetryableAllStores}
use Rattle.txn_stores.specs.declared.all_stores.StoreTasks.{StoreTasks}
use Rattle.txn_stores.specs.declared.store_task.StoreTask.{StoreTask}
use Rattle.txn_tasks.specs.Step.{IsNew}
use Rattle.txn_tasks.specs.Tasks.{tasks_phase, AreReady, LeadsSomewhere, Outcome}
use Rattle.txn_tasks.specs.declared.step.Step.TheVariants.{End}
use Rattle.txn_tasks.specs.declared.tasks.Tasks.{Tasks}

-- tasks that were not started, one for each store

module _ {S R : Type 0} (m : Meaning S (Result R Error)) (keys : R → List ErrorView) (region : R → Option RegionErr) (at_store : Store → S → S) (whole : S) (b : Backoff) (alloc : Global) where
  new_at : (store : Store) → IsAimed m whole (at_store store whole) → IsNew (store_task m keys region) (task_at at_store whole b alloc store)
  new_at store a = record {
    phase = refl;
    light = λ w. tt;
    ready = record { unbegun = a.unbegun; ready = a.ready; at = refl };
  }

  pub tasks_new : (stores : List Store) → ((store : Store) → IsAimed m whole (at_store store whole)) → All (λ t. IsNew (store_task m keys region) t) (map (task_at at_store whole b alloc) stores)
  tasks_new stores aim = All-map (λ t. IsNew (store_task m keys region) t) (task_at at_store whole b alloc) stores (λ k d l. new_at _ (aim _))

  pub tasks_fit : (stores : List Store) (o : Posted) (h : List Event) → All (λ t. TaskFits m t o h) (map (task_at at_store whole b alloc) stores)
  tasks_fit stores o h = All-map (λ t. TaskFits m t o h) (task_at at_store whole b alloc) stores (λ k d l. record { at = tt })

  pub tasks_belong : (stores : List Store) → ((store : Store) → IsAimed m whole (at_store store whole)) → All (λ t. IsTaskOf m at_store t whole) (map (task_at at_store whole b alloc) stores)
  tasks_belong stores aim = All-map (λ t. IsTaskOf m at_store t whole) (task_at at_store whole b alloc) stores (λ k d l. let a = aim _ in record { aimed = refl; less = a.less })

  pub tasks_cut : (stores : List Store) → concat (map store_of (map (task_at at_store whole b alloc) stores)) ≡ ids_of stores
  tasks_cut [] = refl
  tasks_cut (store ∷ stores) = ap (λ ids. store.id ∷ ids) (tasks_cut stores)

  pub tasks_cost : (stores : List Store) (n : ℕ) → ((store : Store) → IsAimed m whole (at_store store whole)) → sum_by (λ t. (store_task m keys region).left t n) (map (task_at at_store whole b alloc) stores) ≤ length stores * m.round whole n
  tasks_cost stores n aim =
      let each : All (λ t. (store_task m keys region).left t n ≤ m.round whole n) (map (task_at at_store whole b alloc) stores) =
      All-map (λ t. (store_task m keys region).left t n ≤ m.round whole n) (task_at at_store whole b alloc) stores (λ k d l. let a = aim _ in a.less n) in
      rw length-map at (sum_by-le (λ t. (store_task m keys region).left t n) (m.round whole n) (map (task_at at_store whole b alloc) stores) each)

not_fresh : {p : Phase} → p ≡ Running → p ≡ Fresh → ⊥
not_fresh e f = cc

-- what comes of the tasks

abbrev pub with_run : {S R : Type 0} → RetryableAllStores S R → Vec Store → Tasks (StoreTask S) R → AllStage → RetryableAllStores S R
with_run t stores ts g = record t { run = Some (record { stores = stores; tasks = ts }); stage = g }

module _ {S R : Type 0} (m : Meaning S (Result R Error)) (keys : R → List ErrorView) (region : R → Option RegionErr) (at_store : Store → S → S) where
  abbrev tasks_with : S → Vec Store → Meaning (Tasks (StoreTask S) R) (List (Outcome R))
  tasks_with whole stores = store_tasks m keys region at_store whole (ids_of stores.items)

  belongs : S → StoreTask S → Type 0
  belongs whole t = IsTaskOf m at_store t whole

  answered : (whole : S) (h : List Event) (ts : List (StoreTask S)) (outcomes : List (Outcome R))
      → All (λ t. IsTaskOf m at_store t whole) ts
      → AllZip (λ t r. TaskGives m keys region t h (End r)) ts outcomes
      → AllZip (λ id r. IsAnswered m keys region at_store whole h id r) (concat (map store_of ts)) (map in_place outcomes)
  answered whole h [] [] i z = tt
  answered whole h [] (r ∷ rs) i z = absurd z
  answered whole h (t ∷ ts) [] i z = absurd z
  answered whole h (t ∷ ts) (Err why ∷ rs) i z = absurd z.0
  answered whole h (t ∷ ts) (Ok a ∷ rs) i z =
      let o = z.0 in
      let here : IsTaskOf m at_store t whole = All-head (λ u. IsTaskOf m at_store u whole) t ts i in
      (record { inner = o.inner; given = subst (λ (j : S). m.gives j h o.inner) here.aimed o.given; taken = o.taken }, answered whole h ts rs (All-tail (λ u. IsTaskOf m at_store u whole) t ts i) z.1)

  -- the results of the tasks are those of the plan
  all_given : (whole : S) (stores results : Vec _) (h : List Event) (ts0 : Tasks (StoreTask S) R) (outcomes : List (Outcome R))
      → AreFoundIn h stores → (tasks_with whole stores).gives ts0 h outcomes → results.items ≡ map in_place outcomes → AllGive m keys region at_store whole h (Ok results)
  all_given whole stores results h ts0 outcomes found g e =
      let given = g.1 in (
        ids_of stores.items,
        found,
        subst (λ (rs : List (Result R Error)). AllZip (λ id r. IsAnswered m keys region at_store whole h id r) (ids_of stores.items) rs) (sym e)
            (subst (λ (ids : List ℕ). AllZip (λ id r. IsAnswered m keys region at_store whole h id r) ids (map in_place outcomes)) given.cut (answered whole h g.0 outcomes given.belong given.each)),
      )

  -- what it may send, and that the stores were found, after a call of the tasks
  lifted : (whole : S) (stores : Vec Store) (ts ts' : Tasks (StoreTask S) R) {was : List Event → Type 0} {hear : List Event → List Event} {known : List Event → Type 0} {from to : Posted} {p : Turn (List (Outcome R))}
      → ((h : List Event) → Within h (hear h))
      → ((h : List Event) → was h → AreFoundIn h stores × (tasks_with whole stores).fits ts from h × known h)
      → Moves ((tasks_with whole stores).asks ts) (λ h. (tasks_with whole stores).fits ts from h × known h) ((tasks_with whole stores).fits ts' to) ((tasks_with whole stores).gives ts) hear from to p
      → Moves (AllAsk m at_store whole) was (λ h. AreFoundIn h stores × (tasks_with whole stores).fits ts' to h) ((tasks_with whole stores).gives ts) hear from to p
  lifted whole stores ts ts' w k s =
      Moves-map w (λ h f. (let x = k h f in (x.1, x.2))) (λ h f l r a. inr (let t = a.0 in t.store, let i = a.1 in subst (λ (j : S). m.asks j l r) i.aimed a.2))
      (λ h f l v i. (let x = k h f in found_longer h l (ids_of stores.items) v x.0, i)) (λ h f l v g. g) s

  -- what it does after a call of the tasks
  follows_moves : (old new : RetryableAllStores S R) (stores : Vec Store) (g : AllStage) {was : List Event → Type 0} {hear : List Event → List Event} (ts ts' : Tasks (StoreTask S) R) {from to : Posted} (p : Turn (List (Outcome R))) (turn : Turn (Result (Vec (Result R Error)) Error))
      → tasks_phase ts'.stage ≡ phase_after p
      → Moves (AllAsk m at_store old.inner) was (λ h. AreFoundIn h stores × (tasks_with old.inner stores).fits ts' to h) ((tasks_with old.inner stores).gives ts) hear from to p
      → TasksFollow p (with_run old stores ts' g) new turn
      → Moves (AllAsk m at_store old.inner) was (λ h. AllFits m keys region at_store new to h) (λ h v. AllGive m keys region at_store old.inner h v) hear from to turn
  follows_moves old new stores g ts ts' Stopped turn runs s f = rw f.at.0 (Moves-stops s refl)
  follows_moves old new stores g ts ts' Waits turn runs s f = rw (f.at.0, f.at.1) (Moves-after s (λ h k. record { at = (k.0.0, k.0.1, runs) }) tt)
  follows_moves old new stores g ts ts' (Ends outcomes) Stopped runs s f = Moves-stops s refl
  follows_moves old new stores g ts ts' (Ends outcomes) Waits runs s f = absurd f.at
  follows_moves old new stores g ts ts' (Ends outcomes) (Ends (Err why)) runs s f = absurd f.at
  follows_moves old new stores g ts ts' (Ends outcomes) (Ends (Ok results)) runs s f =
      rw f.at.0 (Moves-after s (λ h k. record { at = tt }) (λ h k. all_given old.inner stores results h ts outcomes k.0.0 k.1 f.at.1))

  follows_next : (old new : RetryableAllStores S R) (p : Turn (List (Outcome R))) (turn : Turn (Result (Vec (Result R Error)) Error)) → TasksFollow p old new turn → all_phase new.stage ≡ phase_after turn
  follows_next old new Stopped turn f = rw (f.at.0, f.at.1) refl
  follows_next old new Waits turn f = rw (f.at.0, f.at.1) refl
  follows_next old new (Ends outcomes) Stopped f = rw f.at refl
  follows_next old new (Ends outcomes) Waits f = absurd f.at
  follows_next old new (Ends outcomes) (Ends (Err why)) f = absurd f.at
  follows_next old new (Ends outcomes) (Ends (Ok results)) f = rw f.at.0 refl

  -- only its stage is another then
  pub follows_stage : (old new : RetryableAllStores S R) (p : Turn (List (Outcome R))) (turn : Turn (Result (Vec (Result R Error)) Error)) → TasksFollow p old new turn → new ≡ record old { stage = new.stage }
  follows_stage old new Stopped turn f = rw f.at.1 refl
  follows_stage old new Waits turn f = rw f.at.1 refl
  follows_stage old new (Ends outcomes) Stopped f = rw f.at refl
  follows_stage old new (Ends outcomes) Waits f = absurd f.at
  follows_stage old new (Ends outcomes) (Ends (Err why)) f = absurd f.at
  follows_stage old new (Ends outcomes) (Ends (Ok results)) f = rw f.at.0 refl

  -- it waits for what the tasks wait for
  follows_waits : (old new : RetryableAllStores S R) (stores : Vec Store) (g : AllStage) (ts' : Tasks (StoreTask S) R) (p : Turn (List (Outcome R))) (turn : Turn (Result (Vec (Result R Error)) Error))
      → TasksFollow p (with_run old stores ts' g) new turn → (a : Awaited) → all_waits new new.stage a → LeadsSomewhere ts' a
  follows_waits old new stores g ts' Stopped turn f a w = absurd (rw f.at.1 at w)
  follows_waits old new stores g ts' Waits turn f a w = rw f.at.1 at w
  follows_waits old new stores g ts' (Ends outcomes) Stopped f a w = absurd (rw f.at at w)
  follows_waits old new stores g ts' (Ends outcomes) Waits f a w = absurd f.at
  follows_waits old new stores g ts' (Ends outcomes) (Ends (Err why)) f a w = absurd f.at
  follows_waits old new stores g ts' (Ends outcomes) (Ends (Ok results)) f a w = absurd (rw f.at.0 at w)

  follows_ready : (old new : RetryableAllStores S R) (stores : Vec Store) (g : AllStage) (ts' : Tasks (StoreTask S) R) (p : Turn (List (Outcome R))) (turn : Turn (Result (Vec (Result R Error)) Error))
      → AreReady (store_task m keys region) (λ t. is_running t.stage) ts'
      → tasks_phase ts'.stage ≡ phase_after p
      → TasksFollow p (with_run old stores ts' g) new turn → ReadyAt m keys region new new.stage
  follows_ready old new stores g ts' Stopped turn r runs f = rw f.at.1 tt
  follows_ready old new stores g ts' Waits turn r runs f = rw f.at.1 (r, runs)
  follows_ready old new stores g ts' (Ends outcomes) Stopped r runs f = rw f.at tt
  follows_ready old new stores g ts' (Ends outcomes) Waits r runs f = absurd f.at
  follows_ready old new stores g ts' (Ends outcomes) (Ends (Err why)) r runs f = absurd f.at
  follows_ready old new stores g ts' (Ends outcomes) (Ends (Ok results)) r runs f = rw f.at.0 tt

  -- what it is paid for

  widened : (k : ℕ) {was is : ℕ → Type 0} {before after round : ℕ → ℕ} {bad fails : Bool} {weight locked width width' : ℕ} {from to : Posted} {kept failed : Bool}
      → Spends was is before after round bad fails weight locked width width' from to kept failed
      → Spends was is before after round bad fails weight locked (max k width) (max k width') from to kept failed
  widened k s = record {
    wider = let x = s.wider in omega arith;
    bears = s.bears;
    allowed = s.allowed;
    spends = λ e n w u o b. s.spends e n w u (omega arith) b;
    stopped = λ n w u o b. s.stopped n w u (omega arith) b;
    rests = s.rests;
    stopped_rests = s.stopped_rests;
  }

  follows_spends : (old new : RetryableAllStores S R) (stores : Vec Store) (g : AllStage) (ts' : Tasks (StoreTask S) R) (p : Turn (List (Outcome R))) (turn : Turn (Result (Vec (Result R Error)) Error))
      {was : ℕ → Type 0} {before round : ℕ → ℕ} {bad fails : Bool} {weight locked width : ℕ} {from to : Posted}
      → Spends was ((tasks_with old.inner stores).bears ts') before ((tasks_with old.inner stores).left ts') round bad fails weight locked width (max (length stores.items) ((tasks_with old.inner stores).width ts')) from to (is_kept p) (failing (λ outcomes. false) p)
      → TasksFollow p (with_run old stores ts' g) new turn
      → Spends was (λ w. all_bears m keys region at_store new new.stage w) before (λ n. all_left (n * m.round new.inner n) (run_left m keys region at_store new.inner new.run n) new.stage) round bad fails weight locked width (run_width m keys region at_store new.inner new.run) from to (is_kept turn) false
  follows_spends old new stores g ts' Stopped turn s f = rw (f.at.0, f.at.1) (Spends-stops s refl (λ e. e))
  follows_spends old new stores g ts' Waits turn s f = rw (f.at.0, f.at.1) s
  follows_spends old new stores g ts' (Ends outcomes) Stopped s f = rw f.at (Spends-stops s refl (λ e. e))
  follows_spends old new stores g ts' (Ends outcomes) Waits s f = absurd f.at
  follows_spends old new stores g ts' (Ends outcomes) (Ends (Err why)) s f = absurd f.at
  follows_spends old new stores g ts' (Ends outcomes) (Ends (Ok results)) s f = rw f.at.0 (Spends-after (λ e. e) (λ w b. tt) (λ n. omega arith) s)

  never_fails : {A : Type 0} (turn : Turn A) → failing (λ v. false) turn ≡ false
  never_fails Stopped = refl
  never_fails Waits = refl
  never_fails (Ends v) = refl

  -- an event of the tasks is an event of the plan

  fit : (t : RetryableAllStores S R) (run : StoreTasks S R) (o : Posted) (h : List Event) → t.stage ≡ stage.Running → t.run ≡ Some run → AllFits m keys region at_store t o h → TasksFit m keys region at_store t.inner run o h
  fit t run o h at has f =
      let x : IfRun t.run (λ r. TasksFit m keys region at_store t.inner r o h) = subst (λ (g : AllStage). AllAt m keys region at_store t g o h) at f.at in
      subst (λ (r : Option (StoreTasks S R)). IfRun r (λ r. TasksFit m keys region at_store t.inner r o h)) has x

  waits_at : (t : RetryableAllStores S R) (run : StoreTasks S R) (a : Awaited) → t.stage ≡ stage.Running → t.run ≡ Some run → LeadsSomewhere run.tasks a → all_waits t t.stage a
  waits_at t run a at has w = rw (at, has) w

  bears_at : (t : RetryableAllStores S R) (run : StoreTasks S R) (w : ℕ) → t.stage ≡ stage.Running → t.run ≡ Some run → all_bears m keys region at_store t t.stage w → (tasks_with t.inner run.stores).bears run.tasks w
  bears_at t run w at has b = rw (at, has) at b

  pub same_plan : (new old : RetryableAllStores S R) → new.inner ≡ old.inner → SameJob (all_stores m keys region at_store).asks (all_stores m keys region at_store).gives new old
  same_plan new old e = record {
    asked = λ h r a. subst (λ (x : S). AllAsk m at_store x h r) e a;
    given = λ h v g. subst (λ (x : S). AllGive m keys region at_store x h v) e g;
    gave = λ h v g. subst (λ (x : S). AllGive m keys region at_store x h v) (sym e) g;
  }

  kept_inner : (old new : RetryableAllStores S R) (stores : Vec Store) (g : AllStage) (ts' : Tasks (StoreTask S) R) (p : Turn (List (Outcome R))) (turn : Turn (Result (Vec (Result R Error)) Error))
      → TasksFollow p (with_run old stores ts' g) new turn → new.inner ≡ old.inner
  kept_inner old new stores g ts' p turn f = ap (λ (t : RetryableAllStores S R). t.inner) (follows_stage (with_run old stores ts' g) new p turn f)

  pub Tasks-tells : {told : Told} (old new : RetryableAllStores S R) (stores : Vec Store) (ts ts' : Tasks (StoreTask S) R) {from via : Posted} (p : Turn (List (Outcome R))) (turn : Turn (Result (Vec (Result R Error)) Error))
      → old.stage ≡ stage.Running
      → old.run ≡ Some (record { stores = stores; tasks = ts })
      → tasks_phase ts'.stage ≡ phase_after p
      → Tells (tasks_with old.inner stores) told ts ts' from via p
      → TasksFollow p (with_run old stores ts' old.stage) new turn
      → Tells (all_stores m keys region at_store) told old new from via turn
  Tasks-tells {told = told} old new stores ts ts' {from = from} {via = via} p turn at has runs t f =
      let run : StoreTasks S R = record { stores = stores; tasks = ts } in
      let e = t.expects in record {
        moves = follows_moves old new stores old.stage ts ts' p turn runs (lifted old.inner stores ts ts' told.within (λ h k. (let x = fit old run from h at has k.0 in (x.0, x.1, k.1))) t.moves) f;
        job = same_plan new old (kept_inner old new stores old.stage ts' p turn f);
        expects = record {
          sends = e.sends;
          pushed = e.pushed;
          only = λ a w. elim (e.only a (follows_waits old new stores old.stage ts' p turn f a w)) as (λ x. (all_waits old old.stage a × (told.heard a → ⊥)) ⊎ IsPosted e.sends a) [
            | inl x ↦ inl (waits_at old run a at has x.0, x.1)
            | inr x ↦ inr x
          ];
        };
      }

  follows_idle : (old new : RetryableAllStores S R) (p : Turn (List (Outcome R))) (turn : Turn (Result (Vec (Result R Error)) Error)) → p ≡ Waits → TasksFollow p old new turn → (turn ≡ Waits) × (new ≡ record old { stage = stage.Running })
  follows_idle old new Stopped turn e f = cc
  follows_idle old new Waits turn e f = f.at
  follows_idle old new (Ends outcomes) turn e f = cc

  pub Tasks-goes : {C : Type 0} (a : Awaited) (old new : RetryableAllStores S R) (stores : Vec Store) (ts ts' : Tasks (StoreTask S) R) {from via : Posted} {pd pd' : C} (p : Turn (List (Outcome R))) (turn : Turn (Result (Vec (Result R Error)) Error))
      → old.stage ≡ stage.Running
      → old.run ≡ Some (record { stores = stores; tasks = ts })
      → tasks_phase ts.stage ≡ Running
      → Goes (λ (s : Tasks (StoreTask S) R). tasks_phase s.stage) (LeadsSomewhere ts a) ts ts' from via pd pd' p
      → TasksFollow p (with_run old stores ts' old.stage) new turn
      → Goes (λ (t : RetryableAllStores S R). all_phase t.stage) (all_waits old old.stage a) old new from via pd pd' turn
  Tasks-goes a old new stores ts ts' p turn at has runs t f =
      let run : StoreTasks S R = record { stores = stores; tasks = ts } in
      let not = λ (other : all_waits old old.stage a → ⊥). λ (w : LeadsSomewhere ts a). other (waits_at old run a at has w) in
      let deaf = λ (other : all_waits old old.stage a → ⊥). t.deaf (not other) ∙ ap unheard runs in record {
        deaf = λ other. (follows_idle (with_run old stores ts' old.stage) new p turn (deaf other) f).0 ∙ sym (ap (λ g. unheard (all_phase g)) at);
        state = λ other. (follows_idle (with_run old stores ts' old.stage) new p turn (deaf other) f).1 ∙ rw (t.state (not other), ← at, ← has) refl;
        outbox = λ other. t.outbox (not other);
        client = λ other. t.client (not other);
        next = λ this. follows_next (with_run old stores ts' old.stage) new p turn f;
      }

  pub Tasks-counts : {bad fails : Bool} {weight locked : ℕ} (old new : RetryableAllStores S R) (stores : Vec Store) (ts ts' : Tasks (StoreTask S) R) {from via : Posted} (p : Turn (List (Outcome R))) (turn : Turn (Result (Vec (Result R Error)) Error))
      → old.stage ≡ stage.Running
      → old.run ≡ Some (record { stores = stores; tasks = ts })
      → Counts (tasks_with old.inner stores) bad fails weight locked ts ts' from via p
      → TasksFollow p (with_run old stores ts' old.stage) new turn
      → Counts (all_stores m keys region at_store) bad fails weight locked old new from via turn
  Tasks-counts {bad = bad} {fails = fails} {weight = weight} {locked = locked} old new stores ts ts' {from = from} {via = via} p turn at has c f =
      let run : StoreTasks S R = record { stores = stores; tasks = ts } in
      let left : (n : ℕ) → all_left (n * m.round old.inner n) (run_left m keys region at_store old.inner old.run n) old.stage ≡ (tasks_with old.inner stores).left ts n = λ n. rw (at, has) refl in
      let width : max (length stores.items) ((tasks_with old.inner stores).width ts) ≡ run_width m keys region at_store old.inner old.run = rw has refl in
      record {
        spends = rw (never_fails turn) (follows_spends old new stores old.stage ts' p turn
            (subst (λ (w : ℕ). Spends (λ w. all_bears m keys region at_store old old.stage w) ((tasks_with old.inner stores).bears ts') (λ n. all_left (n * m.round old.inner n) (run_left m keys region at_store old.inner old.run n) old.stage) ((tasks_with old.inner stores).left ts') (λ n. n * m.round old.inner n) bad fails weight locked w (max (length stores.items) ((tasks_with old.inner stores).width ts')) from via (is_kept p) (failing (λ outcomes. false) p)) width
            (widened (length stores.items) (Spends-map (λ w b. bears_at old run w at has b) (λ w v l o b. b) (λ n w u o. let x = mul-le-mul_right (m.round old.inner n) u in omega arith) (λ n w u o. let x = left n in omega arith) (λ n w u o. let x = left n in omega arith) c.spends))) f);
        fewer = λ n. let e = kept_inner old new stores old.stage ts' p turn f in rw e (le_refl _);
      }

  pub Tasks-ready : (old new : RetryableAllStores S R) (stores : Vec Store) (g : AllStage) (ts' : Tasks (StoreTask S) R) (p : Turn (List (Outcome R))) (turn : Turn (Result (Vec (Result R Error)) Error))
      → AllReady m keys region old
      → AreReady (store_task m keys region) (λ t. is_running t.stage) ts'
      → tasks_phase ts'.stage ≡ phase_after p
      → TasksFollow p (with_run old stores ts' g) new turn
      → AllReady m keys region new
  Tasks-ready old new stores g ts' p turn r ready runs f = record {
    unbegun = subst (λ (x : S). IsUnbegun m x) (sym (kept_inner old new stores g ts' p turn f)) r.unbegun;
    at = follows_ready old new stores g ts' p turn ready runs f;
  }

  -- it gives up, and nothing was posted
  pub all_stopped : {known : List Event → Type 0} {old new : RetryableAllStores S R} {from to : Posted} {turn : Turn (Result (Vec (Result R Error)) Error)}
      → turn ≡ Stopped → new ≡ record old { stage = stage.Stopped } → to ≡ from → AllGoesOn m keys region at_store known old new from to turn
  all_stopped e n same = rw (e, n, same) (record {
    moves = Moves-quiet refl tt tt;
    expects = Expects-quiet (λ a w. absurd w);
    next = refl;
    inner = refl;
    ready = tt;
    spends = Spends-failed refl refl (omega arith) (omega arith);
  })

  -- it runs a task for each store
  pub tasks_begin : IsLawful m → (old new : RetryableAllStores S R) (stores : Vec Store) (b : Backoff) (alloc : Global) (tasks : Vec (StoreTask S)) (ts ts' : Tasks (StoreTask S) R) {from to : Posted} (p : Turn (List (Outcome R))) (turn : Turn (Result (Vec (Result R Error)) Error))
      → ((store : Store) → IsAimed m old.inner (at_store store old.inner))
      → tasks.items ≡ map (task_at at_store old.inner b alloc) stores.items
      → tasks_phase ts.stage ≡ Fresh
      → ((whole : S) (first : List ℕ) (o : Posted) (h : List Event) → All (λ t. TaskFits m t o h) tasks.items → All (λ t. IsTaskOf m at_store t whole) tasks.items → AreStores first (map store_of tasks.items) → (store_tasks m keys region at_store whole first).fits ts o h)
      → ((whole : S) (first : List ℕ) (n : ℕ) → (store_tasks m keys region at_store whole first).left ts n ≡ sum_by (λ t. (store_task m keys region).left t n) tasks.items)
      → ((whole : S) (first : List ℕ) (w : ℕ) → All (λ t. IsTaskOf m at_store t whole) tasks.items → (store_tasks m keys region at_store whole first).bears ts w)
      → tasks_phase ts'.stage ≡ phase_after p
      → AreReady (store_task m keys region) (λ t. is_running t.stage) ts'
      → Tells (tasks_with old.inner stores) started ts ts' from to p
      → Counts (tasks_with old.inner stores) false false 0 0 ts ts' from to p
      → TasksFollow p (with_run old stores ts' stage.Stopped) new turn
      → AllGoesOn m keys region at_store (λ h. AreFoundIn h stores) old new from to turn
  tasks_begin law old new stores b alloc tasks ts ts' {from = from} {to = to} p turn aim made fresh fits left bears runs ready t c f =
      let whole = old.inner in
      let ids = ids_of stores.items in
      let cut : concat (map store_of tasks.items) ≡ ids = rw made (tasks_cut m keys region at_store whole b alloc stores.items) in
      let belong : All (λ u. IsTaskOf m at_store u whole) tasks.items = rw made (tasks_belong m keys region at_store whole b alloc stores.items aim) in
      let cost : (n : ℕ) → (tasks_with whole stores).left ts n ≤ length stores.items * m.round whole n = λ n. rw (left whole ids n, made) (tasks_cost m keys region at_store whole b alloc stores.items n aim) in
      let law_all = store_tasks-lawful m keys region at_store whole ids law in
      let e = t.expects in record {
        moves = follows_moves old new stores stage.Stopped ts ts' p turn runs (lifted whole stores ts ts' Within-refl (λ h k. (k, fits whole ids from h (rw made (tasks_fit m keys region at_store whole b alloc stores.items from h)) belong cut, tt)) t.moves) f;
        expects = record {
          sends = e.sends;
          pushed = e.pushed;
          only = λ a w. elim (e.only a (follows_waits old new stores stage.Stopped ts' p turn f a w)) as (λ x. (⊥ × (⊥ → ⊥)) ⊎ IsPosted e.sends a) [
            | inl x ↦ absurd (not_fresh (law_all.runs ts a x.0) fresh)
            | inr x ↦ inr x
          ];
        };
        next = follows_next (with_run old stores ts' stage.Stopped) new p turn f;
        inner = kept_inner old new stores stage.Stopped ts' p turn f;
        ready = follows_ready old new stores stage.Stopped ts' p turn ready runs f;
        spends = follows_spends old new stores stage.Stopped ts' p turn
            (Spends-before refl (omega arith) (omega arith) (λ w u. bears whole ids (w + 0) belong) (λ n w u l o. let x = cost n in let k : length stores.items ≤ n = omega arith in let y = mul-le-mul_right (m.round whole n) k in omega arith) (λ n. le_refl _) (widened (length stores.items) c.spends)) f;
      }
