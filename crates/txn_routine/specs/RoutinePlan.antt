-- A routine as a plan.
use Rattle.std.specs.Prelude.{◌≡◌, ◌≤◌, ⊤, ℕ, ◌+◌, Bool, true, false, List, Result, refl}
use Rattle.std.proofs.Common.{subst, sym}
use Rattle.std.proofs.Math.Nat.{le_refl}
use Rattle.txn_kv.specs.declared.errors.Error.{Error}
use Rattle.txn_history.specs.Event.{Event}
use Rattle.txn_history.specs.Later.{IsLater}
use Rattle.txn_history.specs.Meaning.{Expects, IsLawful, IsUnbegun, Meaning, WasPosted}
use Rattle.txn_history.specs.Moves.{Moves}
use Rattle.txn_history.specs.Phase.{phase_after, Awaited, IsRunning, Phase}
use Rattle.txn_history.specs.Phase.Phase.{Fresh, Running, Over, GivenUp}
use Rattle.txn_history.specs.Posted.{Posted, Within}
use Rattle.txn_history.specs.Spends.{calls, sleeps}
use Rattle.txn_history.specs.Turn.{failing, is_kept, Turn}
use Rattle.txn_history.specs.Turn.Turn.{Ends}
use Rattle.txn_routine.specs.Next.{KeepsJob, Serves}
use Rattle.txn_routine.specs.Way.{IsLevel, IsWay, Way}
use Rattle.txn_routine.specs.declared.routine.Next.{Next}
use Rattle.txn_routine.specs.declared.routine.Next.TheVariants.{Run, End}
use Rattle.txn_routine.specs.declared.routine_plan.RoutinePlan.{RoutinePlan}
use Rattle.txn_routine.specs.declared.stage.Stage.{Stage}
use Rattle.txn_routine.specs.declared.stage.Stage.TheVariants as stage

-- Where it stands.

-- what has happened where its plan is under way
abbrev pub StageFits : {S P V A : Type 0} → Meaning P (Result V Error) → Way S P V A → S → Stage P → Posted → List Event → Type 0
StageFits m w s stage.Fresh o h = ⊤
StageFits m w s (stage.Running p) o h = w.knows s h × m.fits p o h
StageFits m w s stage.Over o h = ⊤
StageFits m w s stage.Stopped o h = ⊤

abbrev pub stage_phase : {P B : Type 0} → Meaning P B → Stage P → Phase
stage_phase m stage.Fresh = Fresh
stage_phase m (stage.Running p) = m.phase p
stage_phase m stage.Over = Over
stage_phase m stage.Stopped = GivenUp

abbrev pub StageWaits : {P B : Type 0} → Meaning P B → Stage P → Awaited → Type 0
StageWaits m stage.Fresh a = ⊥
StageWaits m (stage.Running p) a = m.waits p a
StageWaits m stage.Over a = ⊥
StageWaits m stage.Stopped a = ⊥

-- a plan that is under way for a routine
pub record IsUnderWay {S P V A : Type 0} (m : Meaning P (Result V Error)) (w : Way S P V A) (s : S) (p : P) : Type 0 where
  pub ready : w.ready s
  pub called : m.ready p
  pub runs : m.phase p ≡ Running
  pub serves : Serves w m s p

abbrev pub StageReady : {S P V A : Type 0} → Meaning P (Result V Error) → Way S P V A → S → Stage P → Type 0
StageReady m w s stage.Fresh = w.fresh s
StageReady m w s (stage.Running p) = IsUnderWay m w s p
StageReady m w s stage.Over = ⊤
StageReady m w s stage.Stopped = ⊤

abbrev pub stage_left : {S P V A : Type 0} → Meaning P (Result V Error) → Way S P V A → S → Stage P → ℕ → ℕ
stage_left m w s stage.Fresh n = w.round s
stage_left m w s (stage.Running p) n = m.left p n + w.rest s
stage_left m w s stage.Over n = 0
stage_left m w s stage.Stopped n = 0

abbrev pub StageBears : {P B : Type 0} → Meaning P B → Stage P → ℕ → Type 0
StageBears m stage.Fresh k = ⊤
StageBears m (stage.Running p) k = m.bears p k
StageBears m stage.Over k = ⊤
StageBears m stage.Stopped k = ⊤

-- A routine whose plans mean this, as a plan. What its plans cost does not hang on the number of parts that requests are cut into.
abbrev pub in_turn : {S P V A : Type 0} → Meaning P (Result V Error) → Way S P V A → Meaning (RoutinePlan S P A V) (Result A Error)
in_turn m w = record {
  fits = λ s o h. StageFits m w s.routine s.stage o h;
  asks = λ s h r. w.asks s.routine h r;
  gives = λ s h v. w.gives s.routine h v;
  phase = λ s. stage_phase m s.stage;
  waits = λ s a. StageWaits m s.stage a;
  ready = λ s. StageReady m w s.routine s.stage;
  round = λ s n. w.round s.routine;
  left = λ s n. stage_left m w s.routine s.stage n;
  width = λ s. 0;
  bears = λ s k. StageBears m s.stage k;
  fails = w.fails;
}

-- How it goes on.

-- The routine may run this plan.
pub record IsRunnable {S P V A : Type 0} (m : Meaning P (Result V Error)) (w : Way S P V A) (s : S) (p : P) : Type 0 where
  pub unbegun : IsUnbegun m p
  pub begins : m.ready p
  pub serves : Serves w m s p
  pub ready : w.ready s

abbrev pub MayFollow : {S P V A : Type 0} → Meaning P (Result V Error) → Way S P V A → S → Next P A → Type 0
MayFollow m w s (Run p) = IsRunnable m w s p
MayFollow m w s (End v) = ⊤

-- The plan that it ran is over, and so much is known. From here it may post so much. Its answer is one that a new run may better
-- only where that of the plan was: no other was run then.
pub record Follows {S P V A : Type 0} (m : Meaning P (Result V Error)) (w : Way S P V A) (known : List Event → Type 0) (allowed : ℕ → ℕ) (failed : Bool)
    (old new : RoutinePlan S P A V) (from to : Posted) (turn : Turn (Result A Error)) : Type 0 where
  pub moves : Moves (λ h r. w.asks old.routine h r) known (λ h. StageFits m w new.routine new.stage to h) (λ h v. w.gives old.routine h v) (λ h. h) from to turn
  pub expects : Expects (λ a. ⊥) (λ a. StageWaits m new.stage a) (λ a. ⊥) from to
  pub next : stage_phase m new.stage ≡ phase_after turn
  pub job : KeepsJob w old.routine new.routine
  pub ready : StageReady m w new.routine new.stage
  pub bears : is_kept turn ≡ true → (k : ℕ) → StageBears m new.stage k
  pub spends : is_kept turn ≡ true → (n : ℕ) → 1 ≤ n → calls to + stage_left m w new.routine new.stage n ≤ calls from + allowed n
  pub stopped : (n : ℕ) → 1 ≤ n → calls to ≤ calls from + allowed n
  pub rests : sleeps to ≤ sleeps from
  pub fails : failing w.fails turn ≡ true → (failed ≡ true) × ((n : ℕ) → calls to + stage_left m w new.routine new.stage n ≤ calls from)

-- It ends with this answer, and nothing is posted.
pub record IsOver {S P A V : Type 0} (v : Result A Error) (old new : RoutinePlan S P A V) (from to : Posted) (turn : Turn (Result A Error)) : Type 0 where
  pub ends : turn ≡ Ends v
  pub state : new ≡ record old { stage = stage.Over }
  pub outbox : to ≡ from

-- It runs a plan, which may post what the plan posts, and what is left after it.
abbrev pub FollowsNext : {S P V A : Type 0} → Meaning P (Result V Error) → Way S P V A → Next P A → RoutinePlan S P A V → RoutinePlan S P A V → Posted → Posted → Turn (Result A Error) → Type 0
FollowsNext m w (Run p) old new from to turn = Follows m w (λ h. w.knows old.routine h) (λ n. m.round p n + w.rest old.routine) false old new from to turn
FollowsNext m w (End v) old new from to turn = IsOver v old new from to turn

-- lemmas

module _ {S P V A : Type 0} (m : Meaning P (Result V Error)) (w : Way S P V A) (law : IsLawful m) (way : IsWay w) where
  fits_longer : (s : S) (g : Stage P) (o later : Posted) (h longer : List Event) → IsLater o later → Within h longer → StageFits m w s g o h → StageFits m w s g later longer
  fits_longer s stage.Fresh o later h longer l i f = tt
  fits_longer s (stage.Running p) o later h longer l i f = (way.knows_longer s h longer i f.0, law.fits_longer p o later h longer l i f.1)
  fits_longer s stage.Over o later h longer l i f = tt
  fits_longer s stage.Stopped o later h longer l i f = tt

  bears_more : (g : Stage P) (k more : ℕ) → k ≤ more → StageBears m g k → StageBears m g more
  bears_more stage.Fresh k more l b = tt
  bears_more (stage.Running p) k more l b = law.bears_more p k more l b
  bears_more stage.Over k more l b = tt
  bears_more stage.Stopped k more l b = tt

  waits_running : (g : Stage P) (a : Awaited) → StageWaits m g a → stage_phase m g ≡ Running
  waits_running stage.Fresh a i = absurd i
  waits_running (stage.Running p) a i = law.runs p a i
  waits_running stage.Over a i = absurd i
  waits_running stage.Stopped a i = absurd i

  something : (s : S) (g : Stage P) (o : Posted) (h : List Event) → StageFits m w s g o h → stage_phase m g ≡ Running → (a : Awaited) × StageWaits m g a
  something s stage.Fresh o h f e = absurd (subst IsRunning (sym e) tt)
  something s (stage.Running p) o h f e = law.waits p o h f.1 e
  something s stage.Over o h f e = absurd (subst IsRunning (sym e) tt)
  something s stage.Stopped o h f e = absurd (subst IsRunning (sym e) tt)

  was_posted : (s : S) (g : Stage P) (o : Posted) (h : List Event) (a : Awaited) → StageFits m w s g o h → StageWaits m g a → WasPosted o h a
  was_posted s stage.Fresh o h a f i = absurd i
  was_posted s (stage.Running p) o h a f i = law.posted p o h a f.1 i
  was_posted s stage.Over o h a f i = absurd i
  was_posted s stage.Stopped o h a f i = absurd i

  pub in_turn-lawful : IsLawful (in_turn m w)
  in_turn-lawful = record {
    fits_longer = λ s o p h longer l i f. fits_longer s.routine s.stage o p h longer l i f;
    gives_longer = λ s h longer v i g. way.gives_longer s.routine h longer v i g;
    bears_more = λ s k more l b. bears_more s.stage k more l b;
    runs = λ s a i. waits_running s.stage a i;
    waits = λ s o h f e. something s.routine s.stage o h f e;
    posted = λ s o h a f i. was_posted s.routine s.stage o h a f i;
  }

-- where it was not started
pub in_turn-unbegun : {S P V A : Type 0} (m : Meaning P (Result V Error)) (w : Way S P V A) (s : RoutinePlan S P A V) → s.stage ≡ stage.Fresh → IsUnbegun (in_turn m w) s
in_turn-unbegun m w s e = record {
  phase = rw e refl;
  fits = λ o h. rw e tt;
  whole = λ n. rw e (le_refl (w.round s.routine));
  light = λ k. rw e tt;
}

-- What it costs is level where what its plans cost is.
module _ {S P V A : Type 0} (m : Meaning P (Result V Error)) (w : Way S P V A) (level : IsLevel m) where
  left_level : (s : S) (g : Stage P) (n k : ℕ) → 1 ≤ n → 1 ≤ k → stage_left m w s g n ≡ stage_left m w s g k
  left_level s stage.Fresh n k a b = refl
  left_level s (stage.Running p) n k a b = rw (level.left p n k a b) refl
  left_level s stage.Over n k a b = refl
  left_level s stage.Stopped n k a b = refl

  pub in_turn-level : IsLevel (in_turn m w)
  in_turn-level = record { left = λ s n k a b. left_level s.routine s.stage n k a b; round = λ s n k a b. refl }
