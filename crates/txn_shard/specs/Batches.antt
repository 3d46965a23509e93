-- A list cut into batches, in its order.
use Rattle.std.specs.Prelude.{◌≡◌, ℕ, ◌+◌, ◌<◌, ◌≤◌, List, [], ◌∷◌, length, ⊤}
use Rattle.std.specs.List.{All, flat_map, sum_by}

-- lists one after another
abbrev pub joined : {X : Type 0} → List (List X) → List X
joined lists = flat_map (λ list. list) lists

-- it is not empty, and where it has two or more items their sizes together are below the limit
abbrev pub IsBatch : {X : Type 0} → (X → ℕ) → ℕ → List X → Type 0
IsBatch size limit batch = (0 < length batch) × (1 < length batch → sum_by size batch < limit)

-- the first item of the next batch would have made this one reach the limit
abbrev pub IsFullBefore : {X : Type 0} → (X → ℕ) → ℕ → List X → List X → Type 0
IsFullBefore size limit batch [] = ⊤
IsFullBefore size limit batch (x ∷ next) = limit ≤ sum_by size batch + size x

-- so for each batch and the one after it
abbrev pub IsFullBeforeRest : {X : Type 0} → (X → ℕ) → ℕ → List X → List (List X) → Type 0
IsFullBeforeRest size limit batch [] = ⊤
IsFullBeforeRest size limit batch (next ∷ rest) = IsFullBefore size limit batch next

abbrev pub AreFull : {X : Type 0} → (X → ℕ) → ℕ → List (List X) → Type 0
AreFull size limit [] = ⊤
AreFull size limit (batch ∷ rest) = IsFullBeforeRest size limit batch rest × AreFull size limit rest

-- the items cut into batches: a batch takes items until the next one would make it reach the limit
pub record AreBatches {X : Type 0} (size : X → ℕ) (limit : ℕ) (items : List X) (batches : List (List X)) : Type 0 where
  pub in_order : joined batches ≡ items
  pub each : All (IsBatch size limit) batches
  pub full : AreFull size limit batches
