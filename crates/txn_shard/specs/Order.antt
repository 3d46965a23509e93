-- Items in ascending order of their keys.
use Rattle.std.specs.Prelude.{List, [], ◌∷◌, Bool, if◌then◌else◌}
use Rattle.std.specs.Ordering.{is_lt}
use Rattle.txn_region.specs.Regions.{Key, key_cmp}

abbrev pub comes_before : {X : Type 0} → (X → Key) → X → X → Bool
comes_before key x y = is_lt (key_cmp (key x) (key y))

-- an item among others in order, before the first whose key is not below its own
abbrev pub placed : {X : Type 0} → (X → Key) → X → List X → List X
placed key x [] = x ∷ []
placed key x (y ∷ ys) = if comes_before key y x then y ∷ placed key x ys else x ∷ y ∷ ys

-- all items in ascending order of their keys; those of one key keep their order, and none is left out
abbrev pub in_order : {X : Type 0} → (X → Key) → List X → List X
in_order key [] = []
in_order key (x ∷ xs) = placed key x (in_order key xs)
