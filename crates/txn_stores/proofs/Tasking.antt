-- The calls of a task are calls of its plan.
use Rattle.std.proofs.Common.{◌≡◌, ◌⊎◌, inl, inr, ℕ, ◌≤◌, Bool, true, false, List, length, max, refl, sym, ap, subst, ◌∙◌, arith}
use Rattle.std.proofs.Math.Nat.{le_refl}
use Rattle.std.specs.List.{sum_by}
use Rattle.std.specs.Prelude.{⊤, Option, Result, Ok, Err}
use Rattle.txn_history.proofs.Counting.{Spends-map, Spends-stops, Spends-then}
use Rattle.txn_history.proofs.Telling.{Expects-then}
use Rattle.txn_history.specs.Event.{Event}
use Rattle.txn_history.specs.Meaning.{Counts, Expects, Goes, IsUnbegun, Meaning, Tells, Told}
use Rattle.txn_history.specs.Moves.{Moves, Moves-after, Moves-map, Moves-stops, Moves-then, SameJob}
use Rattle.txn_history.specs.Phase.{phase_after, unheard, Awaited, IsPosted, Phase}
use Rattle.txn_history.specs.Phase.Phase.{Fresh, Running, Over, GivenUp}
use Rattle.txn_history.specs.Posted.{Posted, Within-refl}
use Rattle.txn_history.specs.Spends.{Spends}
use Rattle.txn_history.specs.Turn.{failing, is_kept, IfEnds-weaker, Turn}
use Rattle.txn_history.specs.Turn.Turn.{Stopped, Waits, Ends}
use Rattle.txn_kv.specs.ErrorView.{ErrorView}
use Rattle.txn_kv.specs.declared.errors.Error.{Error}
use Rattle.txn_kv.specs.declared.message.RegionErr.{RegionErr}
use Rattle.txn_region.specs.declared.store.Store.{Store}
use Rattle.txn_stores.specs.Settling.{Follows}
use Rattle.txn_stores.specs.StoreTask.{is_running, stage_left, stage_phase, stage_waits, store_of, store_task, AreStores, IfRuns, IsTaskOf, TaskFits, TaskGives, TaskReady}
use Rattle.txn_stores.specs.declared.stage.Stage.{Stage}
use Rattle.txn_stores.specs.declared.stage.Stage.TheVariants as stage
use Rattle.txn_stores.specs.declared.store_task.StoreTask.{StoreTask}
use Rattle.txn_tasks.specs.Step.{parts_in, IsEnd, Keeps, MayStand}
use Rattle.txn_tasks.specs.declared.step.Step.{Step}
use Rattle.txn_tasks.specs.declared.step.Step.TheVariants.{End, Parts}

-- what its answers mean rests on its job, its store and its backoff

abbrev pub after_call : {S : Type 0} → StoreTask S → S → Stage → StoreTask S
after_call t plan g = record t { plan = plan; stage = g }

gives_to : {S R : Type 0} (m : Meaning S (Result R Error)) (keys : R → List ErrorView) (region : R → Option RegionErr) (t : StoreTask S) (plan : S) (g : Stage) (h : List Event) (s : Step (StoreTask S) R)
    → TaskGives m keys region (after_call t plan g) h s → TaskGives m keys region t h s
gives_to m keys region t plan g h (End (Ok answer)) x = x
gives_to m keys region t plan g h (End (Err why)) x = x
gives_to m keys region t plan g h (Parts tasks) x = x

gives_from : {S R : Type 0} (m : Meaning S (Result R Error)) (keys : R → List ErrorView) (region : R → Option RegionErr) (t : StoreTask S) (plan : S) (g : Stage) (h : List Event) (s : Step (StoreTask S) R)
    → TaskGives m keys region t h s → TaskGives m keys region (after_call t plan g) h s
gives_from m keys region t plan g h (End (Ok answer)) x = x
gives_from m keys region t plan g h (End (Err why)) x = x
gives_from m keys region t plan g h (Parts tasks) x = x

pub same_task : {S R : Type 0} (m : Meaning S (Result R Error)) (keys : R → List ErrorView) (region : R → Option RegionErr) (t : StoreTask S) (plan : S) (g : Stage)
    → SameJob (store_task m keys region).asks (store_task m keys region).gives (after_call t plan g) t
same_task m keys region t plan g = record {
  asked = λ h r x. x;
  given = λ h v x. gives_to m keys region t plan g h v x;
  gave = λ h v x. gives_from m keys region t plan g h v x;
}

expects_from : {was was' is heard : Awaited → Type 0} {from to : Posted} → ((a : Awaited) → was a → was' a) → Expects was is heard from to → Expects was' is heard from to
expects_from {was' = was'} {heard = heard} f e = record {
  sends = e.sends;
  pushed = e.pushed;
  only = λ a w. elim (e.only a w) as (λ x. (was' a × (heard a → ⊥)) ⊎ IsPosted e.sends a) [
    | inl k ↦ inl (f a k.0, k.1)
    | inr p ↦ inr p
  ];
}

expects_none : {was is is' heard : Awaited → Type 0} {from to : Posted} → ((a : Awaited) → is' a → is a) → Expects was is heard from to → Expects was is' heard from to
expects_none f e = record { sends = e.sends; pushed = e.pushed; only = λ a w. e.only a (f a w) }

-- The first clause.

-- what its plan posts, it may post
lifted : {S R : Type 0} {m : Meaning S (Result R Error)} {told : Told} {old : StoreTask S} {plan : S} {from via : Posted} {p : Turn (Result R Error)}
    → ((h : List Event) → TaskFits m old from h → m.fits old.plan from h)
    → SameJob m.asks m.gives old.plan old.job
    → Tells m told old.plan plan from via p
    → Moves (m.asks old.job) (λ h. TaskFits m old from h × told.known h) (m.fits plan via) (m.gives old.job) told.hear from via p
lifted {told = told} fits same t = Moves-map told.within (λ h k. (fits h k.0, k.1)) (λ h k l r a. same.asked l r a) (λ h k l w i. i) (λ h k l v g. same.given l v g) t.moves

pub Task-tells : {S R : Type 0} {m : Meaning S (Result R Error)} {keys : R → List ErrorView} {region : R → Option RegionErr} {told : Told}
    {old new : StoreTask S} {plan : S} {g : Stage} {from via to : Posted} (p : Turn (Result R Error)) {turn : Turn (Step (StoreTask S) R)}
    → ((h : List Event) → TaskFits m old from h → m.fits old.plan from h)
    → SameJob m.asks m.gives old.plan old.job
    → ((a : Awaited) → m.waits old.plan a → stage_waits (m.waits old.plan) old.stage a)
    → g ≡ stage.Running
    → m.phase plan ≡ phase_after p
    → Tells m told old.plan plan from via p
    → Follows m keys region p (after_call old plan g) new via to turn
    → Tells (store_task m keys region) told old new from to turn
Task-tells {m = m} {keys = keys} {region = region} {old = old} {plan = plan} Stopped fits same waits runs phase t f =
    rw (f.at.0, f.at.1, f.at.2) (record {
      moves = Moves-stops (lifted fits same t) refl;
      job = same_task m keys region old plan stage.Stopped;
      expects = expects_none (λ a w. absurd w) (expects_from waits t.expects);
    })
Task-tells {m = m} {keys = keys} {region = region} {old = old} {plan = plan} Waits fits same waits runs phase t f =
    rw (f.at.0, f.at.1, f.at.2, runs) (record {
      moves = Moves-after (lifted fits same t) (λ h k. record { at = (k.0, phase) }) tt;
      job = same_task m keys region old plan stage.Running;
      expects = expects_from waits t.expects;
    })
Task-tells {m = m} {keys = keys} {region = region} {old = old} {new = new} {plan = plan} {g = g} (Ends answer) fits same waits runs phase t f = record {
  moves = Moves-then (lifted fits same t) (Moves-map Within-refl (λ h k. k.1) (λ h k l r a. a) (λ h k l w i. i) (λ h k l s x. gives_to m keys region old plan g l s x) f.at.moves);
  job = subst (λ (u : StoreTask _). SameJob (store_task m keys region).asks (store_task m keys region).gives u old) (sym f.at.stage) (same_task m keys region old plan new.stage);
  expects = Expects-then (expects_from waits t.expects) (expects_from (λ a w. absurd w) f.at.expects);
}

-- The second.

-- a plan that runs stands where its call left it
same_phase : (x y : Phase) → ((x ≡ y → ⊥) → ⊥) → x ≡ y
same_phase Fresh Fresh n = refl
same_phase Fresh Running n = absurd (n (λ e. cc))
same_phase Fresh Over n = absurd (n (λ e. cc))
same_phase Fresh GivenUp n = absurd (n (λ e. cc))
same_phase Running Fresh n = absurd (n (λ e. cc))
same_phase Running Running n = refl
same_phase Running Over n = absurd (n (λ e. cc))
same_phase Running GivenUp n = absurd (n (λ e. cc))
same_phase Over Fresh n = absurd (n (λ e. cc))
same_phase Over Running n = absurd (n (λ e. cc))
same_phase Over Over n = refl
same_phase Over GivenUp n = absurd (n (λ e. cc))
same_phase GivenUp Fresh n = absurd (n (λ e. cc))
same_phase GivenUp Running n = absurd (n (λ e. cc))
same_phase GivenUp Over n = absurd (n (λ e. cc))
same_phase GivenUp GivenUp n = refl

pub stands : {S A C : Type 0} {phase : S → Phase} {meant : Type 0} {old new : S} {from to : Posted} {pd pd' : C} {p : Turn A}
    → phase old ≡ Running → Goes phase meant old new from to pd pd' p → phase new ≡ phase_after p
stands {phase = phase} {meant = meant} {old = old} {new = new} {p = p} runs t = same_phase (phase new) (phase_after p)
    (λ other. let deaf : meant → ⊥ = λ this. other (t.next this) in
    other (ap phase (t.state deaf) ∙ runs ∙ ap phase_after (sym (t.deaf deaf ∙ ap unheard runs))))

pub follows_next : {S R : Type 0} {m : Meaning S (Result R Error)} {keys : R → List ErrorView} {region : R → Option RegionErr}
    {old new : StoreTask S} {from to : Posted} (p : Turn (Result R Error)) {turn : Turn (Step (StoreTask S) R)}
    → old.stage ≡ stage.Running → Follows m keys region p old new from to turn → stage_phase new.stage ≡ phase_after turn
follows_next Stopped runs f = rw (f.at.0, f.at.1) refl
follows_next Waits runs f = rw (f.at.0, f.at.1, runs) refl
follows_next (Ends answer) runs f = f.at.next

follows_idle : {S R : Type 0} {m : Meaning S (Result R Error)} {keys : R → List ErrorView} {region : R → Option RegionErr}
    {old new : StoreTask S} {from to : Posted} (p : Turn (Result R Error)) {turn : Turn (Step (StoreTask S) R)}
    → p ≡ Waits → Follows m keys region p old new from to turn → (turn ≡ Waits) × (new ≡ old) × (to ≡ from)
follows_idle Stopped e f = cc
follows_idle Waits e f = f.at
follows_idle (Ends answer) e f = cc

pub Task-goes : {S R C : Type 0} {m : Meaning S (Result R Error)} {keys : R → List ErrorView} {region : R → Option RegionErr}
    {old new : StoreTask S} {plan : S} {from via to : Posted} {pd pd' : C} (a : Awaited) (p : Turn (Result R Error)) {turn : Turn (Step (StoreTask S) R)}
    → old.stage ≡ stage.Running
    → m.phase old.plan ≡ Running
    → Goes m.phase (m.waits old.plan a) old.plan plan from via pd pd' p
    → Follows m keys region p (after_call old plan old.stage) new via to turn
    → Goes (store_task m keys region).phase (stage_waits (m.waits old.plan) old.stage a) old new from to pd pd' turn
Task-goes {m = m} {old = old} {new = new} {plan = plan} a p {turn = turn} at runs t f =
    let deaf = λ (other : m.waits old.plan a → ⊥). t.deaf other ∙ ap unheard runs in record {
      deaf = λ other. (follows_idle p (deaf (λ w. other (rw at w))) f).0 ∙ sym (ap (λ g. unheard (stage_phase g)) at);
      state = λ other. (follows_idle p (deaf (λ w. other (rw at w))) f).1 ∙ ap (λ x. after_call old x old.stage) (t.state (λ w. other (rw at w)));
      outbox = λ other. (follows_idle p (deaf (λ w. other (rw at w))) f).2 ∙ t.outbox (λ w. other (rw at w));
      client = λ other. t.client (λ w. other (rw at w));
      next = λ this. follows_next p at f;
    }

-- The third.

widened : {was is : ℕ → Type 0} {before after round : ℕ → ℕ} {bad fails : Bool} {weight locked width width' : ℕ} {from to : Posted} {kept failed : Bool}
    → Spends was is before after round bad fails weight locked width width' from to kept failed
    → Spends was is before after round bad fails weight locked (max 1 width) (max 1 width') from to kept failed
widened s = record {
  wider = let x = s.wider in omega arith;
  bears = s.bears;
  allowed = s.allowed;
  spends = λ k n w u o b. s.spends k n w u (omega arith) b;
  stopped = λ n w u o b. s.stopped n w u (omega arith) b;
  rests = s.rests;
  stopped_rests = s.stopped_rests;
}

none_fails : {A : Type 0} (t : Turn A) → failing (λ s. false) t ≡ false
none_fails Stopped = refl
none_fails Waits = refl
none_fails (Ends v) = refl

-- what its plan is paid for, it is paid for
paid : {S A : Type 0} {m : Meaning S A} {bad fails : Bool} {weight locked : ℕ} (old : StoreTask S) {plan : S} {from via : Posted} {p : Turn A}
    → ((n : ℕ) → m.left old.plan n ≤ stage_left (m.left old.plan n) (m.round old.job n) old.stage)
    → ((w : ℕ) → IfRuns old.stage (m.bears old.plan w) → m.bears old.plan w)
    → ((n : ℕ) → m.round old.plan n ≤ m.round old.job n)
    → Counts m bad fails weight locked old.plan plan from via p
    → Spends (λ w. IfRuns old.stage (m.bears old.plan w)) (m.bears plan) (λ n. stage_left (m.left old.plan n) (m.round old.job n) old.stage) (m.left plan) (m.round old.job) bad fails weight locked (max 1 (m.width old.plan)) (max 1 (m.width plan)) from via (is_kept p) (failing m.fails p)
paid old left bears less t = widened (Spends-map bears (λ w v l o b. b) (λ n w u o. less n) (λ n w u o. left n) (λ n w u o. let x = left n in omega arith) t.spends)

from_nothing : {was is : ℕ → Type 0} {before after round : ℕ → ℕ} {bad fails : Bool} {weight locked width width' : ℕ} {from to : Posted} {kept failed : Bool}
    → Spends (λ w. ⊤) is (λ n. 0) after round bad fails weight locked width width' from to kept failed
    → Spends was is before after round bad fails weight locked width width' from to kept failed
from_nothing {before = before} {after = after} s = Spends-map {before = λ n. 0} {before' = before} {after = after} {after' = after} (λ w b. tt) (λ w v l o b. b) (λ n w u o. le_refl _) (λ n w u o. omega arith) (λ n w u o. omega arith) s

pub Task-counts : {S R : Type 0} {m : Meaning S (Result R Error)} {keys : R → List ErrorView} {region : R → Option RegionErr} {bad fails : Bool} {weight locked : ℕ}
    {old new : StoreTask S} {plan : S} {g : Stage} {from via to : Posted} (p : Turn (Result R Error)) {turn : Turn (Step (StoreTask S) R)}
    → (fails ≡ true → bad ≡ true)
    → ((n : ℕ) → m.left old.plan n ≤ stage_left (m.left old.plan n) (m.round old.job n) old.stage)
    → ((w : ℕ) → IfRuns old.stage (m.bears old.plan w) → m.bears old.plan w)
    → ((n : ℕ) → m.round old.plan n ≤ m.round old.job n)
    → g ≡ stage.Running
    → Counts m bad fails weight locked old.plan plan from via p
    → Follows m keys region p (after_call old plan g) new via to turn
    → Counts (store_task m keys region) bad fails weight locked old new from to turn
Task-counts {m = m} {old = old} {plan = plan} Stopped worse left bears less runs t f =
    rw (f.at.0, f.at.1, f.at.2) (record { spends = Spends-stops (paid old left bears less t) refl (λ e. e); fewer = λ n. le_refl _ })
Task-counts {m = m} {old = old} {plan = plan} Waits worse left bears less runs t f =
    rw (f.at.0, f.at.1, f.at.2, runs) (record { spends = paid old left bears less t; fewer = λ n. le_refl _ })
Task-counts {m = m} {old = old} {new = new} {plan = plan} {g = g} (Ends answer) {turn = turn} worse left bears less runs t f = record {
  spends = rw (none_fails turn) (Spends-then worse (λ e. e) (λ e. e) (λ n w u o. le_refl _) (paid old left bears less t)
      (from_nothing f.at.spends));
  fewer = λ n. rw f.at.stage (le_refl _);
}

-- What it keeps.

stands_end : {S R : Type 0} (m : Meaning S (Result R Error)) (keys : R → List ErrorView) (region : R → Option RegionErr) (at_store : Store → S → S) (old new : StoreTask S) (s : Step (StoreTask S) R)
    → IsEnd s → MayStand (store_task m keys region) store_of AreStores (λ t whole. IsTaskOf m at_store t whole) old new s
stands_end m keys region at_store old new (End answer) e = tt
stands_end m keys region at_store old new (Parts tasks) e = absurd e

wide_end : {S R : Type 0} {n : ℕ} (s : Step (StoreTask S) R) → IsEnd s → length (parts_in s) ≤ n
wide_end (End answer) e = omega arith
wide_end (Parts tasks) e = absurd e

owes_end : {S R : Type 0} (f : StoreTask S → ℕ) {n : ℕ} (s : Step (StoreTask S) R) → IsEnd s → sum_by f (parts_in s) ≤ n
owes_end f (End answer) e = omega arith
owes_end f (Parts tasks) e = absurd e

pub Task-keeps : {S R : Type 0} {m : Meaning S (Result R Error)} {keys : R → List ErrorView} {region : R → Option RegionErr} (at_store : Store → S → S)
    {old new : StoreTask S} (plan : S) (g : Stage) {via to : Posted} (p : Turn (Result R Error)) {turn : Turn (Step (StoreTask S) R)}
    → Follows m keys region p (after_call old plan g) new via to turn
    → Keeps (store_task m keys region) store_of AreStores (λ t whole. IsTaskOf m at_store t whole) (λ t. is_running t.stage) old new turn
Task-keeps at_store {old = old} plan g Stopped f = rw (f.at.0, f.at.1) (record {
  work = refl;
  belongs = λ w i. record { aimed = i.aimed; less = i.less };
  rests = λ e. absurd e;
  stands = tt;
  wide = tt;
  owes = tt;
})
Task-keeps at_store {old = old} plan g Waits f = rw (f.at.0, f.at.1) (record {
  work = refl;
  belongs = λ w i. record { aimed = i.aimed; less = i.less };
  rests = λ e. absurd e;
  stands = tt;
  wide = tt;
  owes = tt;
})
Task-keeps {m = m} {keys = keys} {region = region} at_store {old = old} {new = new} plan g (Ends answer) {turn = turn} f = record {
  work = rw f.at.stage refl;
  belongs = λ w i. rw f.at.stage (record { aimed = i.aimed; less = i.less });
  rests = λ e. f.at.off;
  stands = IfEnds-weaker turn (λ s e. stands_end m keys region at_store old new s e) f.at.ends;
  wide = IfEnds-weaker turn (λ s e. wide_end s e) f.at.ends;
  owes = IfEnds-weaker turn (λ s e n w. owes_end (λ part. stage_left (m.left part.plan n) (m.round part.job n) part.stage) s e) f.at.ends;
}

-- It may be called on.
pub Task-ready : {S R : Type 0} {m : Meaning S (Result R Error)} {keys : R → List ErrorView} {region : R → Option RegionErr}
    {old new : StoreTask S} (plan : S) (g : Stage) {via to : Posted} (p : Turn (Result R Error)) {turn : Turn (Step (StoreTask S) R)}
    → TaskReady m old
    → m.ready plan
    → SameJob m.asks m.gives plan old.job
    → ((n : ℕ) → m.round plan n ≤ m.round old.job n)
    → g ≡ stage.Running
    → m.phase plan ≡ phase_after p
    → Follows m keys region p (after_call old plan g) new via to turn
    → TaskReady m new
Task-ready plan g Stopped r ready same less runs phase f = rw f.at.1 (record { unbegun = r.unbegun; ready = r.ready; at = tt })
Task-ready plan g Waits r ready same less runs phase f = rw (f.at.1, runs) (record { unbegun = r.unbegun; ready = r.ready; at = record { ready = ready; same = same; less = less; runs = phase } })
Task-ready {m = m} {new = new} plan g (Ends answer) r ready same less runs phase f = record {
  unbegun = subst (λ (u : StoreTask _). IsUnbegun m u.job) (sym f.at.stage) r.unbegun;
  ready = subst (λ (u : StoreTask _). m.ready u.job) (sym f.at.stage) r.ready;
  at = f.at.ready;
}
