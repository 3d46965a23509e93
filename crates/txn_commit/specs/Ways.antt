-- The ways in which the requests of commits and rollbacks go: one plan type, what its errors rest on, and what its plans cost.
use Rattle.std.specs.Prelude.{◌≤◌, ℕ, List, Result}
use Rattle.txn_kv.specs.declared.errors.Error.{Error}
use Rattle.txn_history.specs.Event.{Event}
use Rattle.txn_history.specs.Meaning.{Meaning}
use Rattle.txn_history.specs.Posted.{Within}
use Rattle.txn_merge.specs.declared.retry_options.RetryOptions.{RetryOptions}
use Rattle.txn_commit.specs.declared.fetched.Fetched.{Fetched}

-- What plans of so many keys post at most, where nothing is cut into more than so many parts, and where no error and no lock comes:
-- requests to stores and asks.
pub record Costs : Type 0 where
  pub prewrites : ℕ → ℕ → ℕ
  pub commits : ℕ → ℕ → ℕ
  pub rollbacks : ℕ → ℕ → ℕ

-- no more than one request for each key
pub record IsOneEach (costs : Costs) : Type 0 where
  pub prewrites : (keys n : ℕ) → costs.prewrites keys n ≤ keys
  pub commits : (keys n : ℕ) → costs.commits keys n ≤ keys
  pub rollbacks : (keys n : ℕ) → costs.rollbacks keys n ≤ keys

-- Plans of Prewrites, of Commits and of BatchRollbacks are of one type. An error of one rests on this, where it was made with these
-- options.
pub record Ways (P : Type 0) : Type 1 where
  pub plan : Meaning P (Result Fetched Error)
  pub unwritten : RetryOptions → List Event → Error → Type 0
  pub uncommitted : RetryOptions → List Event → Error → Type 0
  pub unrolled : RetryOptions → List Event → Error → Type 0
  pub costs : Costs

-- what an error rests on stays so
pub record AreLasting {P : Type 0} (w : Ways P) : Type 0 where
  pub unwritten : (options : RetryOptions) (h longer : List Event) (e : Error) → Within h longer → w.unwritten options h e → w.unwritten options longer e
  pub uncommitted : (options : RetryOptions) (h longer : List Event) (e : Error) → Within h longer → w.uncommitted options h e → w.uncommitted options longer e
  pub unrolled : (options : RetryOptions) (h longer : List Event) (e : Error) → Within h longer → w.unrolled options h e → w.unrolled options longer e
