-- Ranges of keys: their two bounds, and the two keys that mean the same.
use Rattle.std.specs.Prelude.{ℕ, ◌-◌, List, [], ◌∷◌, ◌++◌, Bool, ◌&&◌, ◌==◌, if◌then◌else◌, nat_lt, length, take, slice_index, Option, Some, None}
use Rattle.std.specs.declared.ops.Bound.{Bound}
use Rattle.std.specs.declared.ops.Bound.TheVariants.{Included, Excluded, Unbounded}

-- the least key above a key
abbrev pub next_key : List ℕ → List ℕ
next_key key = key ++ 0 ∷ []

-- the first key that a start lets in
abbrev pub start_of : Bound (List ℕ) → List ℕ
start_of (Included key) = key
start_of (Excluded key) = next_key key
start_of Unbounded = []

-- the first key that an end keeps out, if there is one
abbrev pub end_of : Bound (List ℕ) → Option (List ℕ)
end_of (Included key) = Some (next_key key)
end_of (Excluded key) = Some key
end_of Unbounded = None

-- an end of no key at all is unbounded
abbrev pub effective_end : Bound (List ℕ) → Bound (List ℕ)
effective_end (Included key) = Included key
effective_end (Excluded key) = if length key == 0 then Unbounded else Excluded key
effective_end Unbounded = Unbounded

abbrev pub ends_in_zero : List ℕ → Bool
ends_in_zero key = nat_lt 0 (length key) && (slice_index key (length key - 1) == 0)

-- the key without its last byte
abbrev pub front : List ℕ → List ℕ
front key = take (length key - 1) key

-- the start that a first key stands for
abbrev pub lower_bound : List ℕ → Bound (List ℕ)
lower_bound key = if ends_in_zero key then Excluded (front key) else Included key

-- the end that the first key beyond it stands for
abbrev pub upper_bound : List ℕ → Bound (List ℕ)
upper_bound key = if ends_in_zero key then Included (front key) else Excluded key

abbrev pub upper_bound_of : Option (List ℕ) → Bound (List ℕ)
upper_bound_of None = Unbounded
upper_bound_of (Some key) = upper_bound key

-- an empty last key stands for none
abbrev pub or_empty : Option (List ℕ) → List ℕ
or_empty None = []
or_empty (Some key) = key
