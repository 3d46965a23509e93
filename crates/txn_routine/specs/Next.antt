-- What a routine does next.
use Rattle.std.specs.Prelude.{◌≡◌, ⊤, ℕ, ◌+◌, ◌<◌, ◌≤◌, Bool, true, false, List, Result, Ok, Err}
use Rattle.txn_kv.specs.declared.errors.Error.{Error}
use Rattle.txn_kv.specs.declared.memory.NoMemory.{NoMemory}
use Rattle.txn_kv.specs.declared.request.Request.{Request}
use Rattle.txn_history.specs.Event.{Event}
use Rattle.txn_history.specs.Meaning.{IsUnbegun, Meaning}
use Rattle.txn_history.specs.Moves.{SameJob}
use Rattle.txn_routine.specs.Way.{Way}
use Rattle.txn_routine.specs.declared.routine.Next.{Next}
use Rattle.txn_routine.specs.declared.routine.Next.TheVariants.{Run, End}

-- The plan serves the routine: it asks only what the routine may ask, its answers say what the routine is to hear, and a new run of
-- it costs no more than one of the whole.
pub record Serves {S P V A : Type 0} (w : Way S P V A) (m : Meaning P (Result V Error)) (s : S) (p : P) : Type 0 where
  pub asks : (h : List Event) (r : Request) → w.knows s h → m.asks p h r → w.asks s h r
  pub says : (h : List Event) (v : Result V Error) → w.knows s h → m.gives p h v → w.hears s h v
  pub less : (n : ℕ) → 1 ≤ n → m.round p n ≤ w.round s

-- it asks no more than before, its answers mean the same, and a new run costs no more
pub record KeepsJob {S P V A : Type 0} (w : Way S P V A) (old new : S) : Type 0 where
  pub same : SameJob w.asks w.gives new old
  pub round : w.round new ≤ w.round old

-- What it may still post after a plan: what was left, and a new run where the plan's answer is one that a new run may better.
abbrev pub allowance : {S P V A : Type 0} → Way S P V A → S → Bool → ℕ
allowance w s true = w.rest s + w.round s
allowance w s false = w.rest s

-- It runs this plan, which is not begun.
pub record Runs {S P V A : Type 0} (w : Way S P V A) (m : Meaning P (Result V Error)) (known : List Event → Type 0) (allowed : ℕ) (old new : S) (p : P) : Type 0 where
  pub unbegun : IsUnbegun m p
  pub begins : m.ready p
  pub serves : Serves w m new p
  pub knows : (h : List Event) → known h → w.knows new h
  pub ready : w.ready new
  pub costs : (n : ℕ) → 1 ≤ n → m.round p n + w.rest new ≤ allowed
  pub fewer : w.steps new < w.steps old

-- It ends so. Its answer is one that a new run may better only where that of its last plan is.
pub record IsEnd {S P V A : Type 0} (w : Way S P V A) (known : List Event → Type 0) (failed : Bool) (old : S) (v : Result A Error) : Type 0 where
  pub given : (h : List Event) → known h → w.gives old h v
  pub fails : w.fails v ≡ true → failed ≡ true

-- What it does next, where so much is known, it may post so much, and what was answered is such that a new run may better it.
abbrev pub IsNext : {S P V A : Type 0} → Way S P V A → Meaning P (Result V Error) → (List Event → Type 0) → ℕ → Bool → S → S → Result (Next P A) NoMemory → Type 0
IsNext w m known allowed failed old new (Err e) = ⊤
IsNext w m known allowed failed old new (Ok (Run p)) = Runs w m known allowed old new p
IsNext w m known allowed failed old new (Ok (End v)) = IsEnd w known failed old v
