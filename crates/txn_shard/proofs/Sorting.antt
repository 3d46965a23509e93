-- A list has one stable order: `in_order`.
use Rattle.std.proofs.Common.{◌≡◌, ℕ, suc, ◌<◌, ◌≤◌, Bool, true, false, List, [], ◌∷◌, length, get_or, refl, sym, ap, ◌∙◌, arith}
use Rattle.std.specs.Prelude.{cond, not, ◌&&◌}
use Rattle.std.specs.List.{filter}
use Rattle.std.specs.List.Sorted.{IsSortedBy, IsStableBy, ties}
use Rattle.std.proofs.lemmas.List.Sorted.{sorted_far}
use Rattle.txn_region.specs.Regions.{Key}
use Rattle.txn_shard.specs.Order.{comes_before, in_order, placed}
use Rattle.txn_shard.specs.Sorted.{order, Ascends, NoneBefore, ascends_in_order}

pub by_cases : (b : Bool) {G : Type 0} → (b ≡ true → G) → (b ≡ false → G) → G
by_cases true f g = f refl
by_cases false f g = g refl

-- What a sort ensures

none_from : {X : Type 0} (key : X → Key) (x : X) (ys : List X) → ((j : ℕ) (d : X) → j < length ys → comes_before key (get_or ys j d) x ≡ false) → NoneBefore key x ys
none_from key x [] f = tt
none_from key x (y ∷ ys) f = (f 0 y (omega arith), none_from key x ys (λ j d l. f (suc j) d (omega arith)))

ascends_from : {X : Type 0} (key : X → Key) (xs : List X) → ((i j : ℕ) (d : X) → i ≤ j → j < length xs → comes_before key (get_or xs j d) (get_or xs i d) ≡ false) → Ascends key xs
ascends_from key [] f = tt
ascends_from key (x ∷ xs) f =
    (none_from key x xs (λ j d l. f 0 (suc j) d (omega arith) (omega arith)), ascends_from key xs (λ i j d le l. f (suc i) (suc j) d (omega arith) (omega arith)))

pub ascends_sorted : {X : Type 0} (key : X → Key) (xs : List X) → IsSortedBy (comes_before key) xs → Ascends key xs
ascends_sorted key xs up = ascends_from key xs (sorted_far (comes_before key) (order key) xs up)

-- It keeps the order of items of one key

not_tied_before : {X : Type 0} (key : X → Key) (w x y : X) → comes_before key y x ≡ true → ties (comes_before key) w y ≡ true → ties (comes_before key) w x ≡ true → ⊥
not_tied_before {X} key w x y less a b =
    let back : comes_before key y w ≡ false = right (comes_before key w y) (comes_before key y w) a in
    let on : comes_before key w x ≡ false = left (comes_before key w x) (comes_before key x w) b in
    let no : comes_before key y x ≡ false = (order key).chain y w x back on in
    cc
  where
    left : (p q : Bool) → (not p && not q) ≡ true → p ≡ false
    left true q e = absurd (cc)
    left false q e = refl

    right : (p q : Bool) → (not p && not q) ≡ true → q ≡ false
    right true q e = absurd (cc)
    right false true e = absurd (cc)
    right false false e = refl

keeps_placed : {X : Type 0} (key : X → Key) (w x : X) (ys : List X) → filter (ties (comes_before key) w) (placed key x ys) ≡ filter (ties (comes_before key) w) (x ∷ ys)
keeps_placed key w x [] = refl
keeps_placed {X} key w x (y ∷ ys) = by (comes_before key y x) refl (keeps_placed key w x ys)
  where
    swapped : (a b : Bool) (zs : List X) → (a ≡ true → b ≡ true → ⊥) → cond a (y ∷ cond b (x ∷ zs) zs) (cond b (x ∷ zs) zs) ≡ cond b (x ∷ cond a (y ∷ zs) zs) (cond a (y ∷ zs) zs)
    swapped true true zs never = absurd (never refl refl)
    swapped true false zs never = refl
    swapped false true zs never = refl
    swapped false false zs never = refl

    by : (b : Bool) → comes_before key y x ≡ b → filter (ties (comes_before key) w) (placed key x ys) ≡ filter (ties (comes_before key) w) (x ∷ ys) → filter (ties (comes_before key) w) (cond b (y ∷ placed key x ys) (x ∷ y ∷ ys)) ≡ filter (ties (comes_before key) w) (x ∷ y ∷ ys)
    by true e more = rw more (swapped (ties (comes_before key) w y) (ties (comes_before key) w x) (filter (ties (comes_before key) w) ys) (not_tied_before key w x y e))
    by false e more = refl

pub keeps_in_order : {X : Type 0} (key : X → Key) (w : X) (xs : List X) → filter (ties (comes_before key) w) (in_order key xs) ≡ filter (ties (comes_before key) w) xs
keeps_in_order key w [] = refl
keeps_in_order key w (x ∷ xs) = keeps_placed key w x (in_order key xs) ∙ ap (λ l. cond (ties (comes_before key) w x) (x ∷ l) l) (keeps_in_order key w xs)

-- Lists that ascend, and keep the same items of each key, are one list

tied_itself : {X : Type 0} (key : X → Key) (x : X) → ties (comes_before key) x x ≡ true
tied_itself {X} key x = by (comes_before key x x) refl
  where
    by : (b : Bool) → comes_before key x x ≡ b → (not b && not b) ≡ true
    by true e = absurd (let f : comes_before key x x ≡ false = (order key).one_way x x e in cc)
    by false e = refl

first_kept : {X : Type 0} (p : X → Bool) (x : X) (xs : List X) → p x ≡ true → filter p (x ∷ xs) ≡ x ∷ filter p xs
first_kept p x xs e = ap (λ b. cond b (x ∷ filter p xs) (filter p xs)) e

first_dropped : {X : Type 0} (p : X → Bool) (x : X) (xs : List X) → p x ≡ false → filter p (x ∷ xs) ≡ filter p xs
first_dropped p x xs e = ap (λ b. cond b (x ∷ filter p xs) (filter p xs)) e

-- none of these ties with what comes before the first
none_tied : {X : Type 0} (key : X → Key) (y z : X) (zs : List X) → comes_before key y z ≡ true → NoneBefore key z zs → filter (ties (comes_before key) y) zs ≡ []
none_tied key y z [] less n = refl
none_tied {X} key y z (w ∷ zs) less n = first_dropped (ties (comes_before key) y) w zs (by (comes_before key y w) refl) ∙ none_tied key y z zs less n.1
  where
    by : (b : Bool) → comes_before key y w ≡ b → (not b && not (comes_before key w y)) ≡ false
    by true e = refl
    by false e = absurd (let f : comes_before key y z ≡ false = (order key).chain y w z e n.0 in cc)

no_item : {X : Type 0} (x : X) (xs : List X) → x ∷ xs ≡ [] → ⊥
no_item x xs e = cc

starts_not_before : {X : Type 0} (key : X → Key) (y z : X) (ys zs : List X) → NoneBefore key z zs
    → filter (ties (comes_before key) y) (y ∷ ys) ≡ filter (ties (comes_before key) y) (z ∷ zs) → comes_before key y z ≡ false
starts_not_before {X} key y z ys zs n e = by (comes_before key y z) refl
  where
    by : (b : Bool) → comes_before key y z ≡ b → b ≡ false
    by true less = absurd (no_item y (filter (ties (comes_before key) y) ys)
        (sym (first_kept (ties (comes_before key) y) y ys (tied_itself key y)) ∙ e
        ∙ first_dropped (ties (comes_before key) y) z zs (ap (λ b. not b && not (comes_before key z y)) less) ∙ none_tied key y z zs less n))
    by false f = refl

pub one_order : {X : Type 0} (key : X → Key) (ys zs : List X) → Ascends key ys → Ascends key zs
    → ((x : X) → filter (ties (comes_before key) x) ys ≡ filter (ties (comes_before key) x) zs) → ys ≡ zs
one_order key [] [] a b same = refl
one_order key [] (z ∷ zs) a b same = absurd (no_item z (filter (ties (comes_before key) z) zs) (sym (same z ∙ first_kept (ties (comes_before key) z) z zs (tied_itself key z))))
one_order key (y ∷ ys) [] a b same = absurd (no_item y (filter (ties (comes_before key) y) ys) (sym (first_kept (ties (comes_before key) y) y ys (tied_itself key y)) ∙ same y))
one_order {X} key (y ∷ ys) (z ∷ zs) a b same = whole (one_order key ys zs a.1 b.1 rest)
  where
    forth : comes_before key y z ≡ false
    forth = starts_not_before key y z ys zs b.0 (same y)

    back : comes_before key z y ≡ false
    back = starts_not_before key z y zs ys a.0 (sym (same z))

    tie : ties (comes_before key) y z ≡ true
    tie = ap (λ p. not p && not (comes_before key z y)) forth ∙ ap (λ q. not false && not q) back

    heads : y ∷ filter (ties (comes_before key) y) ys ≡ z ∷ filter (ties (comes_before key) y) zs
    heads = sym (first_kept (ties (comes_before key) y) y ys (tied_itself key y)) ∙ same y ∙ first_kept (ties (comes_before key) y) z zs tie

    first : y ≡ z
    first = cc heads

    rest : (x : X) → filter (ties (comes_before key) x) ys ≡ filter (ties (comes_before key) x) zs
    rest x = by (ties (comes_before key) x y) refl
      where
        alike : filter (ties (comes_before key) x) (y ∷ ys) ≡ filter (ties (comes_before key) x) (y ∷ zs)
        alike = same x ∙ ap (λ v. filter (ties (comes_before key) x) (v ∷ zs)) (sym first)

        tails : (u v : List X) → y ∷ u ≡ y ∷ v → u ≡ v
        tails u v e = cc

        by : (b : Bool) → ties (comes_before key) x y ≡ b → filter (ties (comes_before key) x) ys ≡ filter (ties (comes_before key) x) zs
        by true e = tails _ _ (sym (first_kept (ties (comes_before key) x) y ys e) ∙ alike ∙ first_kept (ties (comes_before key) x) y zs e)
        by false e = sym (first_dropped (ties (comes_before key) x) y ys e) ∙ alike ∙ first_dropped (ties (comes_before key) x) y zs e

    whole : ys ≡ zs → y ∷ ys ≡ z ∷ zs
    whole more = ap (λ v. v ∷ ys) first ∙ ap (λ l. z ∷ l) more

-- what a stable sort leaves
pub sorted_is : {X : Type 0} (key : X → Key) (xs ys : List X) → IsSortedBy (comes_before key) ys → IsStableBy (comes_before key) xs ys → ys ≡ in_order key xs
sorted_is key xs ys up stable = one_order key ys (in_order key xs) (ascends_sorted key ys up) (ascends_in_order key xs) (λ x. stable x ∙ sym (keeps_in_order key x xs))
