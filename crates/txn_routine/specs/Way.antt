-- What a contract sees of a routine: plans that run one after the other, as what each answered decides.
use Rattle.std.specs.Prelude.{◌≡◌, ◌≤◌, ℕ, Bool, List, Result}
use Rattle.txn_kv.specs.declared.errors.Error.{Error}
use Rattle.txn_kv.specs.declared.request.Request.{Request}
use Rattle.txn_history.specs.Event.{Event}
use Rattle.txn_history.specs.Meaning.{Meaning}
use Rattle.txn_history.specs.Posted.{Within}

-- A routine of type S, whose plans are of type P and answer a V, and whose own answer is an A.
pub record Way (S P V A : Type 0) : Type 1 where
  -- it has run no plan yet
  pub fresh : S → Type 0
  -- it may go on, once the plan that it runs has answered
  pub ready : S → Type 0
  -- what it rests on
  pub knows : S → List Event → Type 0
  -- what the answer of the plan that it runs says
  pub hears : S → List Event → Result V Error → Type 0
  -- after the history the request may be sent
  pub asks : S → List Event → Request → Type 0
  -- its answer stands on the history
  pub gives : S → List Event → Result A Error → Type 0
  -- The most requests to stores and asks of a whole run, and of all plans after the one that it runs, where no error comes.
  pub round : S → ℕ
  pub rest : S → ℕ
  -- how many plans it may still run
  pub steps : S → ℕ
  -- the answer is one that a new run may better
  pub fails : Result A Error → Bool

-- more events do no harm
pub record IsWay {S P V A : Type 0} (w : Way S P V A) : Type 0 where
  pub knows_longer : (s : S) (h longer : List Event) → Within h longer → w.knows s h → w.knows s longer
  pub gives_longer : (s : S) (h longer : List Event) (v : Result A Error) → Within h longer → w.gives s h v → w.gives s longer v

-- what the plans cost does not hang on the number of parts that requests are cut into
pub record IsLevel {P B : Type 0} (m : Meaning P B) : Type 0 where
  pub left : (p : P) (n k : ℕ) → 1 ≤ n → 1 ≤ k → m.left p n ≡ m.left p k
  pub round : (p : P) (n k : ℕ) → 1 ≤ n → 1 ≤ k → m.round p n ≡ m.round p k
