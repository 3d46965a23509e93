-- A plan over many regions.
use Rattle.std.specs.Prelude.{◌≡◌, ◌⊎◌, ⊤, ℕ, ◌≤◌, max, Bool, true, false, List, [], ◌∷◌, map, Option, Some, None, IfSome, Result, Ok, Err, refl}
use Rattle.std.proofs.Common.{inl, inr, subst, sym}
use Rattle.std.specs.Global.{Vec}
use Rattle.std.specs.List.{All, AllZip}
use Rattle.txn_history.specs.Event.{Event}
use Rattle.txn_history.specs.Later.{IsLater}
use Rattle.txn_history.specs.Meaning.{further, Counts, IsLawful, IsUnbegun, Meaning, Tells, WasPosted}
use Rattle.txn_history.specs.Phase.{phase_after, Awaited, IsRunning, Phase}
use Rattle.txn_history.specs.Phase.Phase.{Fresh, GivenUp, Over, Running}
use Rattle.txn_history.specs.Posted.{Posted, Within}
use Rattle.txn_history.specs.Turn.{Turn}
use Rattle.txn_history.specs.Turn.Turn.{Ends, Stopped, Waits}
use Rattle.txn_kv.specs.ErrorView.{ErrorView}
use Rattle.txn_kv.specs.declared.errors.Error.{Error}
use Rattle.txn_kv.specs.declared.message.RegionErr.{RegionErr}
use Rattle.txn_kv.specs.declared.request.Request.{Request}
use Rattle.txn_multi.specs.Cutting.{cutting, cutting-lawful, IsLookUpRefused, IsLookUpRefused-longer, IsPlacement, Looking, UnfoundIfErr}
use Rattle.txn_multi.specs.Task.{attempts_left, outcome_longer, region_task, region_task-lawful, shared, stage_runs, IsOutcome, IsTaskOf}
use Rattle.txn_multi.specs.declared.multi_region.RetryableMultiRegion.{RetryableMultiRegion}
use Rattle.txn_multi.specs.declared.multi_stage.MultiStage.{MultiStage}
use Rattle.txn_multi.specs.declared.multi_stage.MultiStage.TheVariants as stage
use Rattle.txn_multi.specs.declared.part.Part.{Part}
use Rattle.txn_multi.specs.declared.task.RegionTask.{RegionTask}
use Rattle.txn_retry.specs.Outcome.{all_or_first, in_place}
use Rattle.txn_search.specs.Search.{search_phase, search_waits, SearchAt}
use Rattle.txn_tasks.specs.Lawful.{tasks-lawful}
use Rattle.txn_tasks.specs.Tasks.{tasks_of, Outcome}
use Rattle.txn_tasks.specs.declared.tasks.Tasks.{Tasks}

-- the tasks of a plan with so many attempts
abbrev pub tasks_for : {S R H L : Type 0} → Meaning S (Result R Error) → (R → List ErrorView) → (R → Option RegionErr) → (S → S → Type 0) → (S → L) → (L → List L → Type 0) → (S → ℕ → ℕ) → S → ℕ → Meaning (Tasks (RegionTask S R H) R) (List (Outcome R))
tasks_for m keys region is_part load are_cut most inner limit =
    tasks_of (region_task m keys region is_part load are_cut most) (λ t. load t.job) are_cut (IsTaskOf m is_part most) (λ whole n. shared m most whole.plan n) (λ t. stage_runs t.stage) (record { plan = inner; limit = limit }) (load inner)

-- What it answers.

-- Each of some parts of a plan with so many attempts, which are together the whole, has ended so.
pub record HaveEnded {S R L : Type 0} (m : Meaning S (Result R Error)) (keys : R → List ErrorView) (region : R → Option RegionErr) (is_part : S → S → Type 0) (load : S → L) (are_cut : L → List L → Type 0) (inner : S) (limit : ℕ) (h : List Event) (parts : List (Part S)) (outcomes : List (Outcome R)) : Type 0 where
  pub cut : are_cut (load inner) (map (λ p. load p.plan) parts)
  pub belong : All (λ p. is_part p.plan inner) parts
  pub each : AllZip (λ p outcome. IsOutcome m keys region limit p.region p.plan h outcome) parts outcomes

-- What is answered of these, in their order. Errors of tasks stand in their places where they are preserved; else the first is
-- the answer.
abbrev pub IsAnswer : {R : Type 0} → Bool → List (Outcome R) → Result (Vec (Result R Error)) Error → Type 0
IsAnswer true outcomes (Ok results) = results.items ≡ map in_place outcomes
IsAnswer true outcomes (Err why) = ⊥
IsAnswer false outcomes (Ok results) = all_or_first outcomes ≡ Ok results.items
IsAnswer false outcomes (Err why) = all_or_first outcomes ≡ Err why

-- The answer is made of how the parts have ended; or it is why the first shards were not found.
abbrev pub MultiGives : {S R L : Type 0} → Meaning S (Result R Error) → (R → List ErrorView) → (R → Option RegionErr) → (S → S → Type 0) → (S → L) → (L → List L → Type 0) → S → ℕ → Bool → List Event → Result (Vec (Result R Error)) Error → Type 0
MultiGives {S} {R} m keys region is_part load are_cut inner limit preserve h v =
    ((parts : List (Part S)) × (outcomes : List (Outcome R)) × HaveEnded m keys region is_part load are_cut inner limit h parts outcomes × IsAnswer preserve outcomes v)
    ⊎ ((why : Error) × (v ≡ Err why) × IsLookUpRefused h why)

-- it sends what some part may, and look-ups
abbrev pub MultiAsks : {S A : Type 0} → Meaning S A → (S → S → Type 0) → S → List Event → Request → Type 0
MultiAsks {S} m is_part inner h r = ((part : S) × is_part part inner × m.asks part h r) ⊎ IsPlacement h r

-- Where it stands.

abbrev pub multi_phase : {S R H : Type 0} → MultiStage S R H → Phase
multi_phase stage.Fresh = Fresh
multi_phase (stage.Cutting c) = Running
multi_phase stage.Running = Running
multi_phase stage.Over = Over
multi_phase stage.Stopped = GivenUp

-- so of what is there, which has to be
abbrev pub Holding : {X : Type 0} → Option X → (X → Type 0) → Type 0
Holding None P = ⊥
Holding (Some x) P = P x

abbrev pub number_of : {X : Type 0} → Option X → (X → ℕ) → ℕ
number_of None f = 0
number_of (Some x) f = f x

-- What has happened where it stands here. `k` is the meaning of its tasks.
abbrev pub MultiAt : {S A R H K B : Type 0} → Meaning S A → Meaning K B → S → MultiStage S R H → Option K → Posted → List Event → Type 0
MultiAt m k inner stage.Fresh ts o h = IsUnbegun m inner × (ts ≡ None)
MultiAt m k inner (stage.Cutting c) ts o h = SearchAt c.stage o h × (search_phase c.stage ≡ Running)
MultiAt m k inner stage.Running ts o h = Holding ts (λ t. k.fits t o h × (k.phase t ≡ Running))
MultiAt m k inner stage.Over ts o h = ⊤
MultiAt m k inner stage.Stopped ts o h = ⊤

abbrev pub MultiWaits : {S R H K B : Type 0} → Meaning K B → MultiStage S R H → Option K → Awaited → Type 0
MultiWaits k stage.Fresh ts a = ⊥
MultiWaits k (stage.Cutting c) ts a = search_waits c.stage a
MultiWaits k stage.Running ts a = Holding ts (λ t. k.waits t a)
MultiWaits k stage.Over ts a = ⊥
MultiWaits k stage.Stopped ts a = ⊥

-- what holds of it, whatever has happened
abbrev pub StandsReady : {S R H K B : Type 0} → Meaning K B → S → MultiStage S R H → Option K → Type 0
StandsReady k inner stage.Fresh ts = ts ≡ None
StandsReady k inner (stage.Cutting c) ts = (c.plan ≡ inner) × (search_phase c.stage ≡ Running) × (ts ≡ None)
StandsReady k inner stage.Running ts = Holding ts (λ t. k.ready t × (k.phase t ≡ Running))
StandsReady k inner stage.Over ts = ⊤
StandsReady k inner stage.Stopped ts = ⊤

-- a new run in each part, until the tasks run
abbrev pub multi_left : {S A R H K B : Type 0} → Meaning S A → (S → ℕ → ℕ) → Meaning K B → S → MultiStage S R H → Option K → ℕ → ℕ
multi_left m most k inner stage.Fresh ts n = shared m most inner n
multi_left m most k inner (stage.Cutting c) ts n = shared m most inner n
multi_left m most k inner stage.Running ts n = number_of ts (λ t. k.left t n)
multi_left m most k inner stage.Over ts n = 0
multi_left m most k inner stage.Stopped ts n = 0

-- No new run of the whole betters its answer: its tasks make new runs themselves.
abbrev pub multi : {S R H L : Type 0} → Meaning S (Result R Error) → (R → List ErrorView) → (R → Option RegionErr) → (S → S → Type 0) → (S → L) → (L → List L → Type 0) → (S → ℕ → ℕ) → Meaning (RetryableMultiRegion S R H) (Result (Vec (Result R Error)) Error)
multi {S} {R} {H} {L} m keys region is_part load are_cut most = record {
  fits = λ s o h. MultiAt m (tasks_for {H = H} m keys region is_part load are_cut most s.inner (attempts_left s.backoff)) s.inner s.stage s.tasks o h;
  asks = λ s h r. MultiAsks m is_part s.inner h r;
  gives = λ s h v. MultiGives m keys region is_part load are_cut s.inner (attempts_left s.backoff) s.preserve_region_results h v;
  phase = λ s. multi_phase s.stage;
  waits = λ s a. MultiWaits (tasks_for {H = H} m keys region is_part load are_cut most s.inner (attempts_left s.backoff)) s.stage s.tasks a;
  ready = λ s. IsUnbegun m s.inner × StandsReady (tasks_for {H = H} m keys region is_part load are_cut most s.inner (attempts_left s.backoff)) s.inner s.stage s.tasks;
  round = λ s n. shared m most s.inner n;
  left = λ s n. multi_left m most (tasks_for {H = H} m keys region is_part load are_cut most s.inner (attempts_left s.backoff)) s.inner s.stage s.tasks n;
  width = λ s. max s.width (number_of s.tasks (tasks_for {H = H} m keys region is_part load are_cut most s.inner (attempts_left s.backoff)).width);
  bears = λ s w. IfSome s.tasks (λ t. (tasks_for {H = H} m keys region is_part load are_cut most s.inner (attempts_left s.backoff)).bears t w);
  fails = λ v. false;
}

-- How its steps go on.

-- what comes of a call of its tasks, which ended so
abbrev pub AfterTasks : {S R H : Type 0} → Bool → Turn (List (Outcome R)) → MultiStage S R H → Turn (Result (Vec (Result R Error)) Error) → Type 0
AfterTasks preserve Stopped g turn = (turn ≡ Stopped) × (g ≡ stage.Stopped)
AfterTasks preserve Waits g turn = (turn ≡ Waits) × (g ≡ stage.Running)
AfterTasks {R = R} preserve (Ends outcomes) g turn =
    ((turn ≡ Stopped) × (g ≡ stage.Stopped))
    ⊎ ((v : Result (Vec (Result R Error)) Error) × (turn ≡ Ends v) × (g ≡ stage.Over) × IsAnswer preserve outcomes v)

-- it goes on as a plan that was just started, and so much is known
pub record Begins {S A : Type 0} (m : Meaning S A) (known : List Event → Type 0) (old new : S) (from to : Posted) (turn : Turn A) : Type 0 where
  pub tells : Tells m (further known) old new from to turn
  pub counts : Counts m false false 0 0 old new from to turn
  pub next : m.phase new ≡ phase_after turn

-- what comes of a call of the search of its shards, which ended so
abbrev pub AfterCut : {S R H C A : Type 0} → Meaning (RetryableMultiRegion S R H) (Result (Vec (Result R Error)) Error) → Turn (Result A Error) → Looking S H → RetryableMultiRegion S R H → RetryableMultiRegion S R H → Posted → Posted → C → C → Turn (Result (Vec (Result R Error)) Error) → Type 0
AfterCut m Stopped c old new from to pd pd' turn = (turn ≡ Stopped) × (new ≡ old) × (to ≡ from)
AfterCut m Waits c old new from to pd pd' turn = (turn ≡ Waits) × (new ≡ record old { stage = stage.Cutting c }) × (to ≡ from) × (pd' ≡ pd)
AfterCut m (Ends v) c old new from to pd pd' turn = Begins m (λ h. UnfoundIfErr h v) (record old { stage = stage.Fresh }) new from to turn

-- lemmas

holding : {X : Type 0} (ts : Option X) {P Q : X → Type 0} → ((x : X) → P x → Q x) → Holding ts P → Holding ts Q
holding None w f = f
holding (Some x) w f = w x f

module _ {S R : Type 0} (m : Meaning S (Result R Error)) (keys : R → List ErrorView) (region : R → Option RegionErr) (law : IsLawful m) where
  ended_longer : (limit : ℕ) (h longer : List Event) (parts : List (Part S)) (outcomes : List (Outcome R)) → Within h longer
      → AllZip (λ p outcome. IsOutcome m keys region limit p.region p.plan h outcome) parts outcomes → AllZip (λ p outcome. IsOutcome m keys region limit p.region p.plan longer outcome) parts outcomes
  ended_longer limit h longer [] [] w z = tt
  ended_longer limit h longer [] (o ∷ outcomes) w z = absurd z
  ended_longer limit h longer (p ∷ parts) [] w z = absurd z
  ended_longer limit h longer (p ∷ parts) (o ∷ outcomes) w z = (outcome_longer m keys region law limit p.region p.plan h longer o w z.0, ended_longer limit h longer parts outcomes w z.1)

  answer_longer : {L : Type 0} (is_part : S → S → Type 0) (load : S → L) (are_cut : L → List L → Type 0) (inner : S) (limit : ℕ) (preserve : Bool) (h longer : List Event) (v : Result (Vec (Result R Error)) Error) → Within h longer → MultiGives m keys region is_part load are_cut inner limit preserve h v → MultiGives m keys region is_part load are_cut inner limit preserve longer v
  answer_longer is_part load are_cut inner limit preserve h longer v w (inl g) = inl (g.0, g.1, record { cut = g.2.cut; belong = g.2.belong; each = ended_longer limit h longer g.0 g.1 w g.2.each }, g.3)
  answer_longer is_part load are_cut inner limit preserve h longer v w (inr g) = inr (g.0, g.1, IsLookUpRefused-longer h longer g.0 w g.2)

module _ {S R H L : Type 0} (m : Meaning S (Result R Error)) (keys : R → List ErrorView) (region : R → Option RegionErr) (is_part : S → S → Type 0) (load : S → L) (are_cut : L → List L → Type 0) (most : S → ℕ → ℕ) (law : IsLawful m) where
  looking : IsLawful (cutting {H = H} m is_part load are_cut most)
  looking = cutting-lawful m is_part load are_cut most

  working : (inner : S) (limit : ℕ) → IsLawful (tasks_for {H = H} m keys region is_part load are_cut most inner limit)
  working inner limit = tasks-lawful (region_task m keys region is_part load are_cut most) (λ t. load t.job) are_cut (IsTaskOf m is_part most) (λ whole n. shared m most whole.plan n) (λ t. stage_runs t.stage) (record { plan = inner; limit = limit }) (load inner) (region_task-lawful m keys region is_part load are_cut most law)

  at_longer : (inner : S) (limit : ℕ) (g : MultiStage S R H) (ts : Option (Tasks (RegionTask S R H) R)) (o p : Posted) (h longer : List Event) → IsLater o p → Within h longer
      → MultiAt m (tasks_for {H = H} m keys region is_part load are_cut most inner limit) inner g ts o h → MultiAt m (tasks_for {H = H} m keys region is_part load are_cut most inner limit) inner g ts p longer
  at_longer inner limit stage.Fresh ts o p h longer l w f = f
  at_longer inner limit (stage.Cutting c) ts o p h longer l w f = (looking.fits_longer c o p h longer l w f.0, f.1)
  at_longer inner limit stage.Running ts o p h longer l w f = holding ts (λ t x. ((working inner limit).fits_longer t o p h longer l w x.0, x.1)) f
  at_longer inner limit stage.Over ts o p h longer l w f = tt
  at_longer inner limit stage.Stopped ts o p h longer l w f = tt

  more_borne : (inner : S) (limit : ℕ) (ts : Option (Tasks (RegionTask S R H) R)) (w more : ℕ) → w ≤ more
      → IfSome ts (λ t. (tasks_for {H = H} m keys region is_part load are_cut most inner limit).bears t w) → IfSome ts (λ t. (tasks_for {H = H} m keys region is_part load are_cut most inner limit).bears t more)
  more_borne inner limit None w more l b = b
  more_borne inner limit (Some t) w more l b = (working inner limit).bears_more t w more l b

  waits_running : (inner : S) (limit : ℕ) (g : MultiStage S R H) (ts : Option (Tasks (RegionTask S R H) R)) (a : Awaited) → MultiWaits (tasks_for {H = H} m keys region is_part load are_cut most inner limit) g ts a → multi_phase g ≡ Running
  waits_running inner limit stage.Fresh ts a w = absurd w
  waits_running inner limit (stage.Cutting c) ts a w = refl
  waits_running inner limit stage.Running ts a w = refl
  waits_running inner limit stage.Over ts a w = absurd w
  waits_running inner limit stage.Stopped ts a w = absurd w

  task_waits : (inner : S) (limit : ℕ) (ts : Option (Tasks (RegionTask S R H) R)) (o : Posted) (h : List Event)
      → Holding ts (λ t. (tasks_for {H = H} m keys region is_part load are_cut most inner limit).fits t o h × ((tasks_for {H = H} m keys region is_part load are_cut most inner limit).phase t ≡ Running))
      → (a : Awaited) × Holding ts (λ t. (tasks_for {H = H} m keys region is_part load are_cut most inner limit).waits t a)
  task_waits inner limit None o h f = absurd f
  task_waits inner limit (Some t) o h f = (working inner limit).waits t o h f.0 f.1

  something : (inner : S) (limit : ℕ) (g : MultiStage S R H) (ts : Option (Tasks (RegionTask S R H) R)) (o : Posted) (h : List Event)
      → MultiAt m (tasks_for {H = H} m keys region is_part load are_cut most inner limit) inner g ts o h → multi_phase g ≡ Running → (a : Awaited) × MultiWaits (tasks_for {H = H} m keys region is_part load are_cut most inner limit) g ts a
  something inner limit stage.Fresh ts o h f e = absurd (subst IsRunning (sym e) tt)
  something inner limit (stage.Cutting c) ts o h f e = looking.waits c o h f.0 f.1
  something inner limit stage.Running ts o h f e = task_waits inner limit ts o h f
  something inner limit stage.Over ts o h f e = absurd (subst IsRunning (sym e) tt)
  something inner limit stage.Stopped ts o h f e = absurd (subst IsRunning (sym e) tt)

  task_posted : (inner : S) (limit : ℕ) (ts : Option (Tasks (RegionTask S R H) R)) (o : Posted) (h : List Event) (a : Awaited)
      → Holding ts (λ t. (tasks_for {H = H} m keys region is_part load are_cut most inner limit).fits t o h × ((tasks_for {H = H} m keys region is_part load are_cut most inner limit).phase t ≡ Running))
      → Holding ts (λ t. (tasks_for {H = H} m keys region is_part load are_cut most inner limit).waits t a) → WasPosted o h a
  task_posted inner limit None o h a f w = absurd f
  task_posted inner limit (Some t) o h a f w = (working inner limit).posted t o h a f.0 w

  was_posted : (inner : S) (limit : ℕ) (g : MultiStage S R H) (ts : Option (Tasks (RegionTask S R H) R)) (o : Posted) (h : List Event) (a : Awaited)
      → MultiAt m (tasks_for {H = H} m keys region is_part load are_cut most inner limit) inner g ts o h → MultiWaits (tasks_for {H = H} m keys region is_part load are_cut most inner limit) g ts a → WasPosted o h a
  was_posted inner limit stage.Fresh ts o h a f w = absurd w
  was_posted inner limit (stage.Cutting c) ts o h a f w = looking.posted c o h a f.0 w
  was_posted inner limit stage.Running ts o h a f w = task_posted inner limit ts o h a f w
  was_posted inner limit stage.Over ts o h a f w = absurd w
  was_posted inner limit stage.Stopped ts o h a f w = absurd w

  pub multi-lawful : IsLawful (multi {H = H} m keys region is_part load are_cut most)
  multi-lawful = record {
    fits_longer = λ s o p h longer l w f. at_longer s.inner (attempts_left s.backoff) s.stage s.tasks o p h longer l w f;
    gives_longer = λ s h longer v w g. answer_longer m keys region law is_part load are_cut s.inner (attempts_left s.backoff) s.preserve_region_results h longer v w g;
    bears_more = λ s w more l b. more_borne s.inner (attempts_left s.backoff) s.tasks w more l b;
    runs = λ s a w. waits_running s.inner (attempts_left s.backoff) s.stage s.tasks a w;
    waits = λ s o h f e. something s.inner (attempts_left s.backoff) s.stage s.tasks o h f e;
    posted = λ s o h a f w. was_posted s.inner (attempts_left s.backoff) s.stage s.tasks o h a f w;
  }
