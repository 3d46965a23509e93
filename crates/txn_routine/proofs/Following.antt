-- How a routine goes on.
use Rattle.std.proofs.Common.{◌≡◌, inl, inr, ℕ, ◌+◌, ◌≤◌, Bool, true, false, List, [], ◌∷◌, refl, sym, ap, subst, ◌∙◌, arith}
use Rattle.std.proofs.Math.Nat.{le_refl, le_trans}
use Rattle.std.proofs.lemmas.Bool.{false≢true}
use Rattle.std.specs.Prelude.{⊤, ◌*◌, Result, Ok}
use Rattle.txn_kv.specs.declared.arrival.Arrival.{Arrival}
use Rattle.txn_kv.specs.declared.errors.Error.{Error}
use Rattle.txn_kv.specs.declared.outbox.Errand.TheVariants.{Send, Sleep, Ask}
use Rattle.txn_kv.specs.declared.request.Request.{Request}
use Rattle.txn_kv.specs.declared.request.Request.TheVariants.{Members}
use Rattle.txn_history.specs.Arrivals.{arrives, awaited_as, tells_error, tells_failure, told_by, weight_told}
use Rattle.txn_history.specs.Event.{Event}
use Rattle.txn_history.specs.Meaning.{started, Expects, Goes, IsLawful, IsUnbegun, Meaning, Tells, Told}
use Rattle.txn_history.specs.Moves.{Moves, Moves-after, Moves-before, Moves-map, Moves-quiet, Moves-stopped, Moves-stops, Moves-then, SameJob, SameJob-trans}
use Rattle.txn_history.specs.Phase.{unheard, Awaited, IsRunning, Phase}
use Rattle.txn_history.specs.Phase.Phase.{Fresh, Running, Over, GivenUp}
use Rattle.txn_history.specs.Posted.{posting, Errand, HasNumbers, Licensed, Posted, Within, Within-after, Within-one, Within-refl, Within-trans}
use Rattle.txn_history.specs.Spends.{calls, spare, Spends}
use Rattle.txn_history.specs.Steps.{begins, Steps}
use Rattle.txn_history.specs.Turn.{failing, IfEnds-weaker, IfKept-weaker, Turn}
use Rattle.txn_history.specs.Turn.Turn.{Stopped, Waits, Ends}
use Rattle.txn_history.proofs.Arriving.{counts_begun, counts_of, goes_begun, goes_of, tells_begun, tells_of, worse, Steps-deaf}
use Rattle.txn_history.proofs.Counting.{spare-le}
use Rattle.txn_history.proofs.Numbering.{Moves-numbers}
use Rattle.txn_history.proofs.Stepping.{Goes-meant, Steps-idle}
use Rattle.txn_history.proofs.Telling.{Expects-quiet, Expects-then, SameJob-refl}
use Rattle.txn_routine.specs.Next.{allowance, IsEnd, IsNext, KeepsJob, Runs, Serves}
use Rattle.txn_routine.specs.RoutinePlan.{in_turn, in_turn-lawful, stage_left, stage_phase, Follows, FollowsNext, IsOver, IsRunnable, IsUnderWay, StageReady, StageWaits}
use Rattle.txn_routine.specs.Way.{IsLevel, IsWay, Way}
use Rattle.txn_routine.specs.declared.routine.Next.{Next}
use Rattle.txn_routine.specs.declared.routine.Next.TheVariants.{Run, End}
use Rattle.txn_routine.specs.declared.routine_plan.RoutinePlan.{RoutinePlan}
use Rattle.txn_routine.specs.declared.stage.Stage.{Stage}
use Rattle.txn_routine.specs.declared.stage.Stage.TheVariants as stage

-- A call of a state inside, of which more is known over each longer history.

licensed_inside : {may more : List Event → Request → Type 0} (h : List Event) → ((k : List Event) → Within h k → (r : Request) → may k r → more k r)
    → (line : ℕ) (beat : Bool) (k : List Event) (rs : List Errand) → Within h k → Licensed may line beat k rs → Licensed more line beat k rs
licensed_inside h f line beat k [] i l = tt
licensed_inside {may} {more} h f line beat k (Send n to r ∷ rs) i l = (f k i r l.0, licensed_inside {may = may} {more = more} h f line beat (posting line beat (Send n to r) ∷ k) rs (Within-trans h k (posting line beat (Send n to r) ∷ k) i (Within-one (posting line beat (Send n to r)) k)) l.1)
licensed_inside {may} {more} h f line beat k (Sleep n ms ∷ rs) i l = (tt, licensed_inside {may = may} {more = more} h f line beat (posting line beat (Sleep n ms) ∷ k) rs (Within-trans h k (posting line beat (Sleep n ms) ∷ k) i (Within-one (posting line beat (Sleep n ms)) k)) l.1)
licensed_inside {may} {more} h f line beat k (Ask n ∷ rs) i l = (tt, licensed_inside {may = may} {more = more} h f line beat (posting line beat (Ask n) ∷ k) rs (Within-trans h k (posting line beat (Ask n) ∷ k) i (Within-one (posting line beat (Ask n)) k)) l.1)

moves_inside : {A : Type 0}
    {may may' : List Event → Request → Type 0} {was was' is is' : List Event → Type 0} {gives gives' : List Event → A → Type 0}
    {hear : List Event → List Event} {from to : Posted} {turn : Turn A}
    → ((h : List Event) → Within h (hear h))
    → ((h : List Event) → was' h → was h)
    → ((h : List Event) → was' h → (k : List Event) → Within h k → (r : Request) → may k r → may' k r)
    → ((h : List Event) → was' h → (k : List Event) → Within h k → is k → is' k)
    → ((h : List Event) → was' h → (k : List Event) → Within h k → (v : A) → gives k v → gives' k v)
    → Moves may was is gives hear from to turn
    → Moves may' was' is' gives' hear from to turn
moves_inside {may = may} {may' = may'} {hear = hear} {from = from} {turn = turn} l w m i g s = record {
  sends = s.sends;
  pushed = s.pushed;
  line = s.line;
  beat = s.beat;
  numbered = s.numbered;
  licensed = λ h f. licensed_inside {may = may} {more = may'} h (m h f) from.line from.beat (hear h) s.sends (l h) (s.licensed h (w h f));
  still = IfKept-weaker turn (λ q h f. i h f _ (Within-trans h (hear h) _ (l h) (Within-after from.line from.beat (hear h) s.sends)) (q h (w h f))) s.still;
  done = IfEnds-weaker turn (λ v q h f. g h f _ (Within-trans h (hear h) _ (l h) (Within-after from.line from.beat (hear h) s.sends)) v (q h (w h f))) s.done;
}

-- what ended did wait for it
never_ended : {B : Type 0} (v : B) (p : Phase) → p ≡ Running → Ends v ≡ unheard p → ⊥
never_ended v p runs e = let never : Ends v ≡ Waits = e ∙ ap unheard runs in cc

parted : {B : Type 0} (x : Turn B) → Stopped ≡ x → x ≡ Waits → ⊥
parted x e f = cc

never_stopped : {B : Type 0} (p : Phase) → p ≡ Running → Stopped ≡ unheard {A = B} p → ⊥
never_stopped p runs e = parted (unheard p) e (ap unheard runs)

running : (p : Phase) → ((p ≡ Running → ⊥) → ⊥) → p ≡ Running
running Fresh n = absurd (n (λ (q : Fresh ≡ Running). cc))
running Running n = refl
running Over n = absurd (n (λ (q : Over ≡ Running). cc))
running GivenUp n = absurd (n (λ (q : GivenUp ≡ Running). cc))

not_failed : (b : Bool) → (b ≡ true → ⊥) → b ≡ false
not_failed true n = absurd (n refl)
not_failed false n = refl

spare_less : (bad f f' : Bool) (x : ℕ) → (f' ≡ true → f ≡ true) → spare bad f x ≤ spare bad f' x
spare_less true true true x i = omega arith
spare_less true true false x i = omega arith
spare_less true false true x i = absurd (false≢true (i refl))
spare_less true false false x i = omega arith
spare_less false f f' x i = omega arith

-- a plan that runs and does not answer runs on
runs_on : {P B C : Type 0} (m : Meaning P B) {meant : Type 0} {p p' : P} {from to : Posted} {pd pd' : C} → m.phase p ≡ Running → Goes {A = B} m.phase meant p p' from to pd pd' Waits → m.phase p' ≡ Running
runs_on m {p' = p'} runs g = running (m.phase p') (λ other. other (ap m.phase (g.state (λ this. other (g.next this))) ∙ runs))

-- What a plan whose costs are level posts, for each number of parts.
module _ {P B : Type 0} (m : Meaning P B) (level : IsLevel m) {p p' : P} {bad fails : Bool} {weight locked : ℕ} {from to : Posted} where
  level_spends : {failed : Bool} → Spends (m.bears p) (m.bears p') (m.left p) (m.left p') (m.round p) bad fails weight locked (m.width p) (m.width p') from to true failed
      → (n k : ℕ) → 1 ≤ n → m.bears p k → calls to + m.left p' n ≤ calls from + m.left p n + spare bad failed (m.round p n + k + weight) + weight
  level_spends {failed} s n k l b =
      let one : 1 ≤ n + m.width p' = omega arith in
      let x = s.spends refl (n + m.width p') k one (omega arith) b in
      let y = level.left p' (n + m.width p') n one l in
      let z = level.left p (n + m.width p') n one l in
      let r = level.round p (n + m.width p') n one l in
      let u = spare-le bad failed (m.round p (n + m.width p') + k + weight) (m.round p n + k + weight) (omega arith) in
      omega arith

  level_stops : {kept failed : Bool} → Spends (m.bears p) (m.bears p') (m.left p) (m.left p') (m.round p) bad fails weight locked (m.width p) (m.width p') from to kept failed
      → (n k : ℕ) → 1 ≤ n → m.bears p k → calls to ≤ calls from + m.left p n + spare bad false (m.round p n + k + weight) + weight
  level_stops s n k l b =
      let one : 1 ≤ n + m.width p' = omega arith in
      let x = s.stopped (n + m.width p') k one (omega arith) b in
      let z = level.left p (n + m.width p') n one l in
      let r = level.round p (n + m.width p') n one l in
      let u = spare-le bad false (m.round p (n + m.width p') + k + weight) (m.round p n + k + weight) (omega arith) in
      omega arith

-- what is heard makes the history longer
told_within : (a : Arrival) (o : Posted) (r : Request) (h : List Event) → Within h ((told_by a o r).hear h)
told_within a o r h = let t = told_by a o r in t.within h

any_request : Request
any_request = Members (record {})

-- What is left after a plan that failed or did not, and after all that followed.
module _ {S P V A : Type 0} (w : Way S P V A) (s : S) where
  after_plan : (bad f f' : Bool) (a b c x y inner outer more left : ℕ)
      → (f ≡ true → bad ≡ true) → (f' ≡ true → (f ≡ true) × (c + left ≤ b)) → inner ≤ outer → w.round s ≤ outer
      → b + x ≤ a + y + spare bad f inner + more
      → c + left ≤ b + allowance w s f
      → c + left ≤ a + (y + w.rest s) + spare bad f' outer + more
  after_plan true true true a b c x y inner outer more left i o l r p q = let z = o refl in let z1 = z.1 in omega arith
  after_plan true true false a b c x y inner outer more left i o l r p q = omega arith
  after_plan true false true a b c x y inner outer more left i o l r p q = let z = o refl in absurd (false≢true z.0)
  after_plan true false false a b c x y inner outer more left i o l r p q = omega arith
  after_plan false true f' a b c x y inner outer more left i o l r p q = absurd (false≢true (i refl))
  after_plan false false f' a b c x y inner outer more left i o l r p q = omega arith

  stops_plan : (bad f : Bool) (a b c x y inner outer more : ℕ)
      → (f ≡ true → bad ≡ true) → inner ≤ outer → w.round s ≤ outer
      → b + x ≤ a + y + spare bad f inner + more
      → c ≤ b + allowance w s f
      → c ≤ a + (y + w.rest s) + spare bad false outer + more
  stops_plan true true a b c x y inner outer more i l r p q = omega arith
  stops_plan true false a b c x y inner outer more i l r p q = omega arith
  stops_plan false true a b c x y inner outer more i l r p q = absurd (false≢true (i refl))
  stops_plan false false a b c x y inner outer more i l r p q = omega arith

module _ {S P V A : Type 0} (m : Meaning P (Result V Error)) (w : Way S P V A) where
  job_same : {s : S} → KeepsJob w s s
  job_same = record { same = SameJob-refl; round = le_refl _ }

  -- What the routine does next.

  -- it gave up, and nothing was posted
  pub stopped : {known : List Event → Type 0} {allowed : ℕ → ℕ} {failed : Bool} {old new : RoutinePlan S P A V} {o : Posted}
      → new.stage ≡ stage.Stopped → KeepsJob w old.routine new.routine → Follows m w known allowed failed old new o o Stopped
  stopped e job = record {
    moves = Moves-stopped refl refl;
    expects = Expects-quiet (λ a i. absurd (subst (λ (g : Stage P). StageWaits m g a) e i));
    next = ap (λ (g : Stage P). stage_phase m g) e;
    job = job;
    ready = rw e tt;
    bears = λ k n. rw e tt;
    spends = λ k. absurd (false≢true k);
    stopped = λ n l. omega arith;
    rests = le_refl _;
    fails = λ f. absurd (false≢true f);
  }

  over : {known : List Event → Type 0} {allowed : ℕ → ℕ} {failed : Bool} {old mid new : RoutinePlan S P A V} {from to : Posted} {turn : Turn (Result A Error)} (v : Result A Error)
      → KeepsJob w old.routine mid.routine → IsEnd w known failed old.routine v → IsOver v mid new from to turn → Follows m w known allowed failed old new from to turn
  over {known} {allowed} {failed} {old} {mid} {from = from} v job end x = rw (x.ends, x.outbox, x.state) ends
    where
      ends : Follows m w known allowed failed old (record mid { stage = stage.Over }) from from (Ends v)
      ends = record {
        moves = Moves-quiet refl (λ h k. tt) (λ h k. end.given h k);
        expects = Expects-quiet (λ a i. absurd i);
        next = refl;
        job = job;
        ready = tt;
        bears = λ e k. tt;
        spends = λ e n l. omega arith;
        stopped = λ n l. omega arith;
        rests = le_refl _;
        fails = λ f. (end.fails f, λ n. omega arith);
      }

  ran : {known : List Event → Type 0} {allowed : ℕ} {failed : Bool} {old mid new : RoutinePlan S P A V} {from to : Posted} {turn : Turn (Result A Error)} (p : P)
      → KeepsJob w old.routine mid.routine → Runs w m known allowed old.routine mid.routine p
      → Follows m w (λ h. w.knows mid.routine h) (λ n. m.round p n + w.rest mid.routine) false mid new from to turn
      → Follows m w known (λ n. allowed) failed old new from to turn
  ran p job r s = let same = job.same in let on = s.job in record {
    moves = Moves-map Within-refl r.knows (λ h k l q a. same.asked l q a) (λ h k l i f. f) (λ h k l v g. same.given l v g) s.moves;
    expects = s.expects;
    next = s.next;
    job = record { same = SameJob-trans on.same same; round = le_trans on.round job.round };
    ready = s.ready;
    bears = s.bears;
    spends = λ e n l. let x = s.spends e n l in let y = r.costs n l in omega arith;
    stopped = λ n l. let x = s.stopped n l in let y = r.costs n l in omega arith;
    rests = s.rests;
    fails = λ f. let x = s.fails f in absurd (false≢true x.0);
  }

  -- it does what the routine does next
  pub next : {known : List Event → Type 0} {allowed : ℕ} {failed : Bool} {old : RoutinePlan S P A V} (mid : RoutinePlan S P A V) {new : RoutinePlan S P A V} {from to : Posted} {turn : Turn (Result A Error)} (x : Next P A)
      → KeepsJob w old.routine mid.routine → IsNext w m known allowed failed old.routine mid.routine (Ok x) → FollowsNext m w x mid new from to turn
      → Follows m w known (λ n. allowed) failed old new from to turn
  next mid (Run p) job i s = ran p job i s
  next mid (End v) job i s = over v job i s

  -- the routine's job is that of the plan
  plan_job : {old new : RoutinePlan S P A V} → SameJob w.asks w.gives new.routine old.routine → SameJob (λ (x : RoutinePlan S P A V) h r. w.asks x.routine h r) (λ x h v. w.gives x.routine h v) new old
  plan_job j = record { asked = j.asked; given = j.given; gave = j.gave }

  -- A call of the plan that it runs.

  -- the plan serves as before
  serves_on : {s : S} {p p' : P} → Serves w m s p → SameJob m.asks m.gives p' p → ((n : ℕ) → m.round p' n ≤ m.round p n) → Serves w m s p'
  serves_on v job fewer = record {
    asks = λ h r k a. v.asks h r k (job.asked h r a);
    says = λ h x k g. v.says h x k (job.given h x g);
    less = λ n l. le_trans (fewer n) (v.less n l);
  }

  plan_moves : {known : List Event → Type 0} {hear : List Event → List Event} {s : S} {p p' : P} {from to : Posted} {turn : Turn (Result V Error)} → IsWay w → Serves w m s p
      → ((h : List Event) → Within h (hear h))
      → Moves (m.asks p) (λ h. m.fits p from h × known h) (m.fits p' to) (m.gives p) hear from to turn
      → Moves (λ h r. w.asks s h r) (λ h. (w.knows s h × m.fits p from h) × known h) (λ h. w.knows s h × m.fits p' to h) (λ h v. w.hears s h v) hear from to turn
  plan_moves {s = s} way v within x = moves_inside within (λ h f. (f.0.1, f.1))
      (λ h f k i r a. v.asks k r (way.knows_longer s h k i f.0.0) a)
      (λ h f k i y. (way.knows_longer s h k i f.0.0, y))
      (λ h f k i y g. v.says k y (way.knows_longer s h k i f.0.0) g) x

  -- a plan that is not begun waits for nothing
  waits_none : {p : P} {is : Awaited → Type 0} {from to : Posted} → IsLawful m → IsUnbegun m p → Expects (m.waits p) is (λ a. ⊥) from to → Expects (λ a. ⊥) is (λ a. ⊥) from to
  waits_none {p} law u e = record {
    sends = e.sends;
    pushed = e.pushed;
    only = λ a i. elim (e.only a i) [ inl x ↦ absurd (subst IsRunning (sym (law.runs p a x.0) ∙ u.phase) tt) | inr x ↦ inr x ];
  }

  -- nothing of what is posted is waited for any more
  waits_over : {was is heard : Awaited → Type 0} {from to : Posted} → Expects was is heard from to → Expects was (λ a. ⊥) heard from to
  waits_over e = record { sends = e.sends; pushed = e.pushed; only = λ a i. absurd i }

  begun_moves : {s : S} {p p' : P} {from to : Posted} {turn : Turn (Result V Error)} → IsLawful m → IsWay w → IsRunnable m w s p → Tells m started p p' from to turn
      → Moves (λ h r. w.asks s h r) (λ h. w.knows s h) (λ h. w.knows s h × m.fits p' to h) (λ h v. w.hears s h v) (λ h. h) from to turn
  begun_moves {from = from} law way r t = let u = r.unbegun in Moves-before (λ h k. ((k, u.fits from h), tt)) (plan_moves way r.serves Within-refl t.moves)

  plan_waits : {p p' : P} {heard : Awaited → Type 0} {from to : Posted} → Expects (m.waits p) (m.waits p') heard from to → Expects (m.waits p) (λ a. StageWaits m (stage.Running p') a) heard from to
  plan_waits e = record { sends = e.sends; pushed = e.pushed; only = e.only }

  module _ (law : IsLawful m) (way : IsWay w) (level : IsLevel m) {C : Type 0} {touches : Told → Posted → P → P → C → C → Type 0} {p p' : P} {pd pd' : C} where
    -- it begins the plan

    pub run_waits : {old : RoutinePlan S P A V} {from to : Posted} → IsRunnable m w old.routine p → Steps m touches begins p p' from to pd pd' Waits
        → Follows m w (λ h. w.knows old.routine h) (λ n. m.round p n + w.rest old.routine) false old (record old { stage = stage.Running p' }) from to Waits
    run_waits r k =
        let u = r.unbegun in
        let t = tells_begun k in
        let g = goes_begun k in
        let c = counts_begun k in
        let spent = c.spends in
        record {
          moves = Moves-after (begun_moves law way r t) (λ h x. x.0) tt;
          expects = waits_none law u t.expects;
          next = g.next u.phase;
          job = job_same;
          ready = record { ready = r.ready; called = k.ready; runs = g.next u.phase; serves = serves_on r.serves t.job c.fewer };
          bears = λ e n. law.bears_more p' (n + 0) n (omega arith) (spent.bears refl n (u.light n));
          spends = λ e n l. let x = level_spends m level spent n 0 l (u.light 0) in let y = u.whole n in omega arith;
          stopped = λ n l. let x = level_stops m level spent n 0 l (u.light 0) in let y = u.whole n in omega arith;
          rests = let x = spent.rests refl in omega arith;
          fails = λ f. absurd (false≢true f);
        }

    pub run_stops : {old : RoutinePlan S P A V} {from to : Posted} → old.stage ≡ stage.Stopped → IsRunnable m w old.routine p → Steps m touches begins p p' from to pd pd' Stopped
        → Follows m w (λ h. w.knows old.routine h) (λ n. m.round p n + w.rest old.routine) false old old from to Stopped
    run_stops e r k =
        let u = r.unbegun in
        let t = tells_begun k in
        let c = counts_begun k in
        let spent = c.spends in
        let x = t.expects in
        record {
          moves = Moves-stops (begun_moves law way r t) refl;
          expects = record { sends = x.sends; pushed = x.pushed; only = λ a i. absurd (subst (λ (g : Stage P). StageWaits m g a) e i) };
          next = ap (λ (g : Stage P). stage_phase m g) e;
          job = job_same;
          ready = rw e tt;
          bears = λ k n. rw e tt;
          spends = λ k. absurd (false≢true k);
          stopped = λ n l. let x = level_stops m level spent n 0 l (u.light 0) in let y = u.whole n in omega arith;
          rests = let y = spent.stopped_rests in omega arith;
          fails = λ f. absurd (false≢true f);
        }

    pub run_ends : {old new : RoutinePlan S P A V} {from via to : Posted} {turn : Turn (Result A Error)} (v : Result V Error) → IsRunnable m w old.routine p → Steps m touches begins p p' from via pd pd' (Ends v)
        → Follows m w (λ h. w.knows old.routine h × w.hears old.routine h v) (λ n. allowance w old.routine (m.fails v)) (m.fails v) old new via to turn
        → Follows m w (λ h. w.knows old.routine h) (λ n. m.round p n + w.rest old.routine) false old new from to turn
    run_ends {old = old} v r k s =
        let u = r.unbegun in
        let t = tells_begun k in
        let c = counts_begun k in
        let spent = c.spends in
        let none = ap (λ b. allowance w old.routine b) (not_failed (m.fails v) (λ f. false≢true (spent.allowed refl f))) in
        record {
          moves = Moves-then (begun_moves law way r t) (Moves-before (λ h x. (x.0.0, x.1)) s.moves);
          expects = Expects-then (waits_over (waits_none law u t.expects)) s.expects;
          next = s.next;
          job = s.job;
          ready = s.ready;
          bears = s.bears;
          spends = λ e n l. let x = level_spends m level spent n 0 l (u.light 0) in let y = u.whole n in let z = s.spends e n l in omega arith;
          stopped = λ n l. let x = level_spends m level spent n 0 l (u.light 0) in let y = u.whole n in let z = s.stopped n l in omega arith;
          rests = let x = spent.rests refl in let y = s.rests in omega arith;
          fails = λ f. let x = s.fails f in absurd (false≢true (spent.allowed refl x.0));
        }

    -- it tells the plan what came

    pub told_waits : (a : Arrival) (old : RoutinePlan S P A V) {from to : Posted} → IsUnderWay m w old.routine p → Steps m touches (arrives a from) p p' from to pd pd' Waits
        → Steps (in_turn m w) (λ told o s t x y. ⊤) (arrives a from) (record old { stage = stage.Running p }) (record old { stage = stage.Running p' }) from to pd pd' Waits
    unfolding arrives
    told_waits a old {from} u k =
        let g = goes_of a k in
        let c = counts_of a k in
        let spent = c.spends in
        let t = tells_of a k in
        record {
          tells = λ r. let x = t r in record {
            moves = Moves-after (plan_moves way u.serves (told_within a from r) x.moves) (λ h y. y.0) tt;
            job = record { asked = λ h q x. x; given = λ h x i. i; gave = λ h x i. i };
            expects = plan_waits x.expects;
          };
          goes = record {
            deaf = λ other. sym (ap unheard u.runs);
            state = λ other. ap (λ x. record old { stage = stage.Running x }) (g.state other);
            outbox = g.outbox;
            client = g.client;
            next = g.next;
          };
          counts = record {
            spends = record {
              wider = le_refl 0;
              bears = λ e n b. spent.bears refl n b;
              allowed = λ e f. absurd (false≢true f);
              spends = λ e n q l i b.
                  let x = level_spends m level spent n q l b in
                  let y = spare-le (tells_error a) false (m.round p n + q + weight_told a) (w.round old.routine + q + weight_told a) (let v = u.serves in let z = v.less n l in omega arith) in
                  omega arith;
              stopped = λ n q l i b.
                  let x = level_stops m level spent n q l b in
                  let y = spare-le (tells_error a) false (m.round p n + q + weight_told a) (w.round old.routine + q + weight_told a) (let v = u.serves in let z = v.less n l in omega arith) in
                  omega arith;
              rests = λ e. spent.rests refl;
              stopped_rests = spent.stopped_rests;
            };
            fewer = λ n. le_refl _;
          };
          client = λ r. tt;
          ready = record { ready = u.ready; called = k.ready; runs = runs_on m u.runs g; serves = let x = k.tells any_request in serves_on u.serves x.job c.fewer };
          numbers = k.numbers;
        }

    pub told_stops : (a : Arrival) (old : RoutinePlan S P A V) {from to : Posted} → old.stage ≡ stage.Stopped → IsUnderWay m w old.routine p → Steps m touches (arrives a from) p p' from to pd pd' Stopped
        → Steps (in_turn m w) (λ told o s t x y. ⊤) (arrives a from) (record old { stage = stage.Running p }) old from to pd pd' Stopped
    unfolding arrives
    told_stops a old {from} e u k =
        let g = goes_of a k in
        let c = counts_of a k in
        let spent = c.spends in
        let t = tells_of a k in
        record {
          tells = λ r. let x = t r in let y = x.expects in record {
            moves = Moves-stops (plan_moves way u.serves (told_within a from r) x.moves) refl;
            job = record { asked = λ h q x. x; given = λ h x i. i; gave = λ h x i. i };
            expects = record { sends = y.sends; pushed = y.pushed; only = λ b i. absurd (subst (λ (s : Stage P). StageWaits m s b) e i) };
          };
          goes = record {
            deaf = λ other. absurd (never_stopped (m.phase p) u.runs (g.deaf other));
            state = λ other. absurd (never_stopped (m.phase p) u.runs (g.deaf other));
            outbox = g.outbox;
            client = g.client;
            next = λ this. ap (λ (s : Stage P). stage_phase m s) e;
          };
          counts = record {
            spends = record {
              wider = le_refl 0;
              bears = λ k. absurd (false≢true k);
              allowed = λ k. absurd (false≢true k);
              spends = λ k. absurd (false≢true k);
              stopped = λ n q l i b.
                  let x = level_stops m level spent n q l b in
                  let y = spare-le (tells_error a) false (m.round p n + q + weight_told a) (w.round old.routine + q + weight_told a) (let v = u.serves in let z = v.less n l in omega arith) in
                  omega arith;
              rests = λ k. absurd (false≢true k);
              stopped_rests = spent.stopped_rests;
            };
            fewer = λ n. le_refl _;
          };
          client = λ r. tt;
          ready = rw e tt;
          numbers = k.numbers;
        }

    pub told_ends : {D : Type 0} {pd'' : D} {pd0 : D} (a : Arrival) (old : RoutinePlan S P A V) {new : RoutinePlan S P A V} {from via to : Posted} {turn : Turn (Result A Error)} (v : Result V Error) → IsUnderWay m w old.routine p → Steps m touches (arrives a from) p p' from via pd pd' (Ends v)
        → Follows m w (λ h. w.knows old.routine h × w.hears old.routine h v) (λ n. allowance w old.routine (m.fails v)) (m.fails v) old new via to turn
        → Steps (in_turn m w) (λ told o s t x y. ⊤) (arrives a from) (record old { stage = stage.Running p }) new from to pd0 pd'' turn
    unfolding arrives
    told_ends a old {new} {from} {via} {to} {turn} v u k s =
        let g = goes_of a k in
        let c = counts_of a k in
        let spent = c.spends in
        let t = tells_of a k in
        let job = s.job in
        record {
          tells = λ r. let x = t r in record {
            moves = Moves-then (plan_moves way u.serves (told_within a from r) x.moves) (Moves-before (λ h y. (y.0.0, y.1)) s.moves);
            job = plan_job job.same;
            expects = Expects-then (waits_over x.expects) s.expects;
          };
          goes = record {
            deaf = λ other. absurd (never_ended v (m.phase p) u.runs (g.deaf other));
            state = λ other. absurd (never_ended v (m.phase p) u.runs (g.deaf other));
            outbox = λ other. absurd (never_ended v (m.phase p) u.runs (g.deaf other));
            client = λ other. absurd (never_ended v (m.phase p) u.runs (g.deaf other));
            next = λ this. s.next;
          };
          counts = record {
            spends = record {
              wider = le_refl 0;
              bears = λ e n b. s.bears e (n + weight_told a);
              allowed = λ e f. let x = s.fails f in spent.allowed refl x.0;
              spends = λ e n q l i b.
                  let x = level_spends m level spent n q l b in
                  let y = u.serves in
                  let z = y.less n l in
                  after_plan w old.routine (tells_error a) (m.fails v) (failing w.fails turn) (calls from) (calls via) (calls to) (m.left p' n) (m.left p n) (m.round p n + q + weight_told a) (w.round old.routine + q + weight_told a) (weight_told a) (stage_left m w new.routine new.stage n) (λ f. worse a (spent.allowed refl f)) (λ f. let d = s.fails f in (d.0, d.1 n)) (omega arith) (omega arith) x (s.spends e n l);
              stopped = λ n q l i b.
                  let x = level_spends m level spent n q l b in
                  let y = u.serves in
                  let z = y.less n l in
                  stops_plan w old.routine (tells_error a) (m.fails v) (calls from) (calls via) (calls to) (m.left p' n) (m.left p n) (m.round p n + q + weight_told a) (w.round old.routine + q + weight_told a) (weight_told a) (λ f. worse a (spent.allowed refl f)) (omega arith) (omega arith) x (s.stopped n l);
              rests = λ e. let x = spent.rests refl in let y = s.rests in let z = spare_less (tells_failure a) (m.fails v) (failing w.fails turn) 1 (λ f. let i = s.fails f in i.0) in omega arith;
              stopped_rests = let x = spent.rests refl in let y = s.rests in let z = spare_less (tells_failure a) (m.fails v) false 1 (λ f. absurd (false≢true f)) in omega arith;
            };
            fewer = λ n. job.round;
          };
          client = λ r. tt;
          ready = s.ready;
          numbers = Moves-numbers s.moves k.numbers;
        }

  -- it begins
  pub begun : {C : Type 0} {pd pd' : C} (old : RoutinePlan S P A V) (g : Stage P) {new : RoutinePlan S P A V} {from to : Posted} {turn : Turn (Result A Error)} → old.stage ≡ stage.Fresh → HasNumbers from
      → Follows m w (λ h. ⊤) (λ n. w.round old.routine) false (record old { stage = g }) new from to turn
      → Steps (in_turn m w) (λ told o s t x y. ⊤) begins old new from to pd pd' turn
  unfolding begins
  begun old g fresh numbers s = let e = s.expects in let job = s.job in record {
    tells = λ r. record {
      moves = Moves-before (λ h k. tt) s.moves;
      job = plan_job job.same;
      expects = record { sends = e.sends; pushed = e.pushed; only = λ a i. elim (e.only a i) [ inl x ↦ absurd x.0 | inr x ↦ inr x ] };
    };
    goes = Goes-meant (ap (λ (g : Stage P). stage_phase m g) fresh) s.next;
    counts = record {
      spends = record {
        wider = le_refl 0;
        bears = λ k n b. s.bears k (n + 0);
        allowed = λ k f. let x = s.fails f in x.0;
        spends = λ k n q l i b. let x = s.spends k n l in let y = ap (λ (g : Stage P). stage_left m w old.routine g n) fresh in omega arith;
        stopped = λ n q l i b. let x = s.stopped n l in let y = ap (λ (g : Stage P). stage_left m w old.routine g n) fresh in omega arith;
        rests = λ k. let x = s.rests in omega arith;
        stopped_rests = let x = s.rests in omega arith;
      };
      fewer = λ n. job.round;
    };
    client = λ r. tt;
    ready = s.ready;
    numbers = Moves-numbers s.moves numbers;
  }

  -- what is not for it leaves it as it is
  pub stays : (s : S) (g : Stage P) → StageReady m w s g → (g ≡ stage.Stopped → ⊥) → Waits ≡ unheard {A = Result A Error} (stage_phase m g)
  stays s stage.Fresh r n = refl
  stays s (stage.Running p) r n = sym (ap unheard r.runs)
  stays s stage.Over r n = refl
  stays s stage.Stopped r n = absurd (n refl)

  pub only_fresh : (s : S) (g : Stage P) → StageReady m w s g → (g ≡ stage.Fresh → ⊥) → stage_phase m g ≡ Fresh → ⊥
  only_fresh s stage.Fresh r n e = n refl
  only_fresh s (stage.Running p) r n e = absurd (subst IsRunning (sym r.runs ∙ e) tt)
  only_fresh s stage.Over r n e = cc
  only_fresh s stage.Stopped r n e = cc

  pub only_runs : (g : Stage P) (a : Awaited) → ((p : P) → g ≡ stage.Running p → ⊥) → StageWaits m g a → ⊥
  only_runs stage.Fresh a n i = i
  only_runs (stage.Running p) a n i = n p refl
  only_runs stage.Over a n i = i
  only_runs stage.Stopped a n i = i

  pub idle_start : {C : Type 0} {pd : C} {new : RoutinePlan S P A V} {o : Posted} {turn : Turn (Result A Error)} → IsLawful m → IsWay w → (old : RoutinePlan S P A V) → new ≡ old
      → StageReady m w old.routine old.stage → HasNumbers o → (old.stage ≡ stage.Fresh → ⊥) → turn ≡ unheard (stage_phase m old.stage)
      → Steps (in_turn m w) (λ told o s t x y. ⊤) begins old new o o pd pd turn
  unfolding begins
  idle_start law way old e ready numbers other t = rw e (Steps-idle (in_turn-lawful m w law way) (only_fresh old.routine old.stage ready other) (λ r a heard i. heard) t (λ r. tt) ready numbers)

  pub idle_tell : {C : Type 0} {pd : C} {new : RoutinePlan S P A V} {o : Posted} {turn : Turn (Result A Error)} → IsLawful m → IsWay w → (a : Arrival) (old : RoutinePlan S P A V) → new ≡ old
      → StageReady m w old.routine old.stage → HasNumbers o → ((p : P) → old.stage ≡ stage.Running p → ⊥) → turn ≡ unheard (stage_phase m old.stage)
      → Steps (in_turn m w) (λ told o s t x y. ⊤) (arrives a o) old new o o pd pd turn
  idle_tell law way a old e ready numbers other t = rw e (Steps-deaf a (in_turn-lawful m w law way) (only_runs old.stage (awaited_as a) other) t (λ r. tt) ready numbers)

  -- the plan was taken out
  pub told_at : {C : Type 0} {pd pd' : C} (a : Arrival) (old : RoutinePlan S P A V) (p : P) {new : RoutinePlan S P A V} {from to : Posted} {turn : Turn (Result A Error)} → old.stage ≡ stage.Running p
      → Steps (in_turn m w) (λ told o s t x y. ⊤) (arrives a from) (record old { stage = stage.Running p }) new from to pd pd' turn
      → Steps (in_turn m w) (λ told o s t x y. ⊤) (arrives a from) old new from to pd pd' turn
  told_at {pd = pd} {pd' = pd'} a old p {new} {from} {to} {turn} e k =
      subst (λ (g : Stage P). Steps (in_turn m w) (λ told o s t x y. ⊤) (arrives a from) (record old { stage = g }) new from to pd pd' turn) (sym e) k

-- how many calls are still to come, of those that lead to one another
abbrev pub calls_of : {P A : Type 0} → ℕ → Next P A → ℕ
calls_of n (Run p) = 3 * n + 3
calls_of n (End v) = 0
