-- Cells in the order of their keys, and as a function from keys to cells.
use Rattle.std.specs.Prelude.{◌≡◌, ℕ, Bool, true, false, not, ◌&&◌, if◌then◌else◌, List, [], ◌∷◌, map, filter, None, is_none, nat_eq}
use Rattle.std.specs.List.{list_any}
use Rattle.std.specs.Ordering.{nat_cmp, match_ordering}
use Rattle.std.specs.declared.cmp.Ordering.{Ordering}
use Rattle.std.specs.declared.cmp.Ordering.TheVariants.{Less}
use Rattle.std.specs.Cmp.Lexicographic.{pointwise, slice_cmp}
use Rattle.txn_model.specs.declared.cell.Cell.{Cell}

abbrev pub Key : Type 0
Key = List ℕ

abbrev pub key_eq : Key → Key → Bool
key_eq = pointwise nat_eq

abbrev pub key_cmp : Key → Key → Ordering
key_cmp = slice_cmp nat_cmp

abbrev pub has_key : List Key → Key → Bool
has_key ks k = list_any (λ x. key_eq x k) ks

-- the cell of a key of which nothing is known
abbrev pub no_cell : Key → Cell
no_cell k = record { key = k; lock = None; commits = []; rolled = [] }

abbrev pub has_none : {X : Type 0} → List X → Bool
has_none [] = true
has_none (x ∷ xs) = false

abbrev pub is_empty_cell : Cell → Bool
is_empty_cell c = is_none c.lock && has_none c.commits && has_none c.rolled

-- the cell of a key
abbrev pub cell_at : List Cell → Key → Cell
cell_at [] k = no_cell k
cell_at (c ∷ cs) k = if key_eq c.key k then c else cell_at cs k

-- the cells with an empty one in its place where none is kept of the key
abbrev pub with_room : Key → List Cell → List Cell
with_room k [] = no_cell k ∷ []
with_room k (c ∷ cs) = match_ordering (key_cmp k c.key) (no_cell k ∷ c ∷ cs) (c ∷ cs) (c ∷ with_room k cs)

abbrev pub with_rooms : List Key → List Cell → List Cell
with_rooms [] cs = cs
with_rooms (k ∷ ks) cs = with_rooms ks (with_room k cs)

-- each cell changed, and those kept that are not empty
abbrev pub each_changed : (Cell → Cell) → List Cell → List Cell
each_changed f cs = filter (λ c. not (is_empty_cell c)) (map f cs)

-- the cells of these keys changed, and those kept that are not empty
abbrev pub changed_at : List Key → (Cell → Cell) → List Cell → List Cell
changed_at ks f cs = each_changed (λ c. if has_key ks c.key then f c else c) (with_rooms ks cs)

-- each cell's key is above k
abbrev pub AllAbove : Key → List Cell → Type 0
AllAbove k [] = Unit {0}
AllAbove k (c ∷ cs) = (key_cmp k c.key ≡ Less) × AllAbove k cs

-- each key is below all later ones
abbrev pub AreInOrder : List Cell → Type 0
AreInOrder [] = Unit {0}
AreInOrder (c ∷ cs) = AllAbove c.key cs × AreInOrder cs

abbrev pub NoneEmpty : List Cell → Type 0
NoneEmpty [] = Unit {0}
NoneEmpty (c ∷ cs) = (is_empty_cell c ≡ false) × NoneEmpty cs

-- what holds of the cells of a store
pub record AreKept (cs : List Cell) : Type 0 where
  pub in_order : AreInOrder cs
  pub none_empty : NoneEmpty cs
