-- Pairs on their way past writes, in key order.
use Rattle.std.specs.Prelude.{◌≡◌, ℕ, List, [], ◌∷◌, ◌++◌, Bool, false}
use Rattle.std.specs.Cmp.Lexicographic.{slice_cmp}
use Rattle.std.specs.List.{AllByRecursion}
use Rattle.std.specs.List.Sorted.{IsStrictlySortedBy}
use Rattle.std.specs.Map.{keys_of}
use Rattle.std.specs.Ordering.{is_eq, is_gt, nat_cmp}
use Rattle.std.specs.declared.cmp.Ordering.TheVariants.{Less}
use Rattle.txn_buffer.specs.Overlay.{Pairs, overlaid}
use Rattle.txn_buffer.specs.Reads.{pairs_of}
use Rattle.txn_buffer.specs.Writes.{Writes}
use Rattle.txn_buffer.specs.declared.merge.Merge.{Merge}

-- the keys ascend, and each stands once
abbrev pub IsAscending : {X : Type 0} → List (List ℕ × X) → Type 0
IsAscending entries = IsStrictlySortedBy (slice_cmp nat_cmp) (keys_of entries)

-- the key is below each of these
abbrev pub IsBelow : {X : Type 0} → List ℕ → List (List ℕ × X) → Type 0
IsBelow key entries = AllByRecursion (λ k. slice_cmp nat_cmp key k ≡ Less) (keys_of entries)

-- the key is one of these or below
abbrev pub IsUpTo : {X : Type 0} → List ℕ → List (List ℕ × X) → Type 0
IsUpTo key entries = AllByRecursion (λ k. is_gt (slice_cmp nat_cmp key k) ≡ false) (keys_of entries)

-- what comes of the pairs that have passed and of those that wait, if these writes are still to be met
abbrev pub outcome : Merge → Writes → Pairs
outcome merge writes = pairs_of merge.passed.items ++ overlaid (pairs_of merge.waiting.items) writes

-- whether the first of these has a key below this one
abbrev pub is_above_first : {X : Type 0} → List ℕ → List (List ℕ × X) → Bool
is_above_first key [] = false
is_above_first key (e ∷ entries) = is_gt (slice_cmp nat_cmp key e.0)

-- whether the first of these has this key
abbrev pub is_first : {X : Type 0} → List ℕ → List (List ℕ × X) → Bool
is_first key [] = false
is_first key (e ∷ entries) = is_eq (slice_cmp nat_cmp key e.0)
