-- What holds of items in order.
use Rattle.std.proofs.Common.{◌≡◌, Bool, true, false, List, [], ◌∷◌, ◌++◌, refl, ap, ◌∙◌, inl, inr}
use Rattle.std.specs.Prelude.{cond, ◌⊎◌}
use Rattle.std.specs.Cmp.{IsStrictWeakOrder}
use Rattle.std.proofs.lemmas.Cmp.{nat_list_cmp_total}
use Rattle.std.proofs.lemmas.List.Sorted.{ranks_by}
use Rattle.txn_region.specs.Regions.{Key}
use Rattle.txn_history.specs.Among.{IsAmong}
use Rattle.txn_shard.specs.Order.{comes_before, in_order, placed}

pub order : {X : Type 0} (key : X → Key) → IsStrictWeakOrder (comes_before key)
order key = ranks_by nat_list_cmp_total key

-- none of these comes before x
abbrev pub NoneBefore : {X : Type 0} → (X → Key) → X → List X → Type 0
NoneBefore key x [] = Unit {0}
NoneBefore key x (y ∷ ys) = (comes_before key y x ≡ false) × NoneBefore key x ys

abbrev pub Ascends : {X : Type 0} → (X → Key) → List X → Type 0
Ascends key [] = Unit {0}
Ascends key (x ∷ xs) = NoneBefore key x xs × Ascends key xs

none_placed : {X : Type 0} (key : X → Key) (w x : X) (ys : List X) → comes_before key x w ≡ false → NoneBefore key w ys → NoneBefore key w (placed key x ys)
none_placed key w x [] e n = (e, tt)
none_placed {X} key w x (y ∷ ys) e n = by (comes_before key y x) (none_placed key w x ys e n.1)
  where
    by : (b : Bool) → NoneBefore key w (placed key x ys) → NoneBefore key w (cond b (y ∷ placed key x ys) (x ∷ y ∷ ys))
    by true more = (n.0, more)
    by false more = (e, n)

none_chained : {X : Type 0} (key : X → Key) (x y : X) (zs : List X) → comes_before key y x ≡ false → NoneBefore key y zs → NoneBefore key x zs
none_chained key x y [] e n = tt
none_chained key x y (z ∷ zs) e n = ((order key).chain z y x n.0 e, none_chained key x y zs e n.1)

ascends_placed : {X : Type 0} (key : X → Key) (x : X) (ys : List X) → Ascends key ys → Ascends key (placed key x ys)
ascends_placed key x [] a = (tt, tt)
ascends_placed {X} key x (y ∷ ys) a = by (comes_before key y x) refl (ascends_placed key x ys a.1)
  where
    by : (b : Bool) → comes_before key y x ≡ b → Ascends key (placed key x ys) → Ascends key (cond b (y ∷ placed key x ys) (x ∷ y ∷ ys))
    by true e more = (none_placed key y x ys ((order key).one_way y x e) a.0, more)
    by false e more = ((e, none_chained key x y ys e a.0), a)

pub ascends_in_order : {X : Type 0} (key : X → Key) (xs : List X) → Ascends key (in_order key xs)
ascends_in_order key [] = tt
ascends_in_order key (x ∷ xs) = ascends_placed key x (in_order key xs) (ascends_in_order key xs)

-- Items that are in order

pub in_order_same : {X : Type 0} (key : X → Key) (xs : List X) → Ascends key xs → in_order key xs ≡ xs
in_order_same key [] a = refl
in_order_same key (x ∷ xs) a = ap (placed key x) (in_order_same key xs a.1) ∙ first xs a.0
  where
    first : (ys : List _) → NoneBefore key x ys → placed key x ys ≡ x ∷ ys
    first [] n = refl
    first (y ∷ ys) n = ap (λ b. cond b (y ∷ placed key x ys) (x ∷ y ∷ ys)) n.0

none_left : {X : Type 0} (key : X → Key) (x : X) (xs ys : List X) → NoneBefore key x (xs ++ ys) → NoneBefore key x xs
none_left key x [] ys n = tt
none_left key x (y ∷ xs) ys n = (n.0, none_left key x xs ys n.1)

pub ascends_left : {X : Type 0} (key : X → Key) (xs ys : List X) → Ascends key (xs ++ ys) → Ascends key xs
ascends_left key [] ys a = tt
ascends_left key (x ∷ xs) ys a = (none_left key x xs ys a.0, ascends_left key xs ys a.1)

pub ascends_right : {X : Type 0} (key : X → Key) (xs ys : List X) → Ascends key (xs ++ ys) → Ascends key ys
ascends_right key [] ys a = a
ascends_right key (x ∷ xs) ys a = ascends_right key xs ys a.1

pub among_placed : {X : Type 0} (key : X → Key) (x : X) (ys : List X) (w : X) → IsAmong (placed key x ys) w → IsAmong (x ∷ ys) w
among_placed key x [] w i = i
among_placed {X} key x (y ∷ ys) w i = by (comes_before key y x) i (among_placed key x ys w)
  where
    turned : (x ≡ w) ⊎ IsAmong ys w → IsAmong (x ∷ y ∷ ys) w
    turned (inl e) = inl e
    turned (inr e) = inr (inr e)

    past : (y ≡ w) ⊎ IsAmong (placed key x ys) w → (IsAmong (placed key x ys) w → IsAmong (x ∷ ys) w) → IsAmong (x ∷ y ∷ ys) w
    past (inl e) more = inr (inl e)
    past (inr e) more = turned (more e)

    by : (b : Bool) → IsAmong (cond b (y ∷ placed key x ys) (x ∷ y ∷ ys)) w → (IsAmong (placed key x ys) w → IsAmong (x ∷ ys) w) → IsAmong (x ∷ y ∷ ys) w
    by true j more = past j more
    by false j more = j

-- and no other item is among them
pub among_in_order : {X : Type 0} (key : X → Key) (xs : List X) (w : X) → IsAmong (in_order key xs) w → IsAmong xs w
among_in_order key [] w i = i
among_in_order {X} key (x ∷ xs) w i = by (among_placed key x (in_order key xs) w i) (among_in_order key xs w)
  where
    by : (x ≡ w) ⊎ IsAmong (in_order key xs) w → (IsAmong (in_order key xs) w → IsAmong xs w) → IsAmong (x ∷ xs) w
    by (inl e) more = inl e
    by (inr e) more = inr (more e)
