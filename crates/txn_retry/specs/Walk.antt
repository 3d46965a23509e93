-- A walk through tasks in the order of their results.
use Rattle.std.specs.Prelude.{◌≡◌, ℕ, zero, suc, ◌+◌, ◌<◌, ◌≤◌, List, ◌++◌, length, reverse, Option, Some, None}
use Rattle.std.specs.List.{All, flat_map, sum_by}
use Rattle.std.proofs.Math.ListN.{get_or}
use Rattle.txn_retry.specs.declared.place.Parts.{Parts}
use Rattle.txn_retry.specs.Place.{numbers, standing}

-- who stands in the places of a run of tasks
abbrev pub run_of : List (Option Parts) → Parts → List ℕ
run_of cuts p = flat_map (standing (length cuts) cuts) (numbers p)

-- who is still to come, where these runs are; the last is the next
abbrev pub pending : List (Option Parts) → List Parts → List ℕ
pending cuts runs = flat_map (run_of cuts) (reverse runs)

-- how many steps the walk takes through the place of a task
abbrev pub steps_for : (Parts → ℕ) → Option Parts → ℕ
steps_for of None = 1
steps_for of (Some p) = 2 + of p

abbrev pub steps_at : ℕ → List (Option Parts) → ℕ → ℕ
steps_at zero cuts i = 1
steps_at (suc n) cuts i = steps_for (λ p. sum_by (steps_at n cuts) (numbers p)) (get_or cuts i None)

abbrev pub steps_of : List (Option Parts) → Parts → ℕ
steps_of cuts p = 1 + sum_by (steps_at (length cuts) cuts) (numbers p)

abbrev pub steps_left : List (Option Parts) → List Parts → ℕ
steps_left cuts runs = sum_by (steps_of cuts) runs

abbrev pub IsMade : List (Option Parts) → Parts → Type 0
IsMade cuts p = p.first + p.count ≤ length cuts

-- a step of the walk, which takes up one of the runs
pub record Walks (cuts : List (Option Parts)) (taken : Parts) (old_runs new_runs : List Parts) (old_order new_order : List ℕ) : Type 0 where
  pub same : new_order ++ pending cuts new_runs ≡ old_order ++ (run_of cuts taken ++ pending cuts old_runs)
  pub made : All (IsMade cuts) old_runs → All (IsMade cuts) new_runs
  pub less : steps_left cuts new_runs < steps_of cuts taken + steps_left cuts old_runs
