-- What stands in a list that was made from another.
use Rattle.std.proofs.Common.{◌≡◌, ℕ, ◌<◌, ◌⊎◌, inl, inr, Bool, true, false, ◌||◌, cond, List, [], ◌∷◌, ◌++◌, length, Option, Some, None, zero, suc, refl, sym, ap, ◌∙◌, subst, arith}
use Rattle.std.specs.Prelude.{if◌then◌else◌, map, filter, take, reverse, option_to_list}
use Rattle.std.specs.List.{filter_map, cons_option}
use mathlib.Core.List.{reverse_aux}
use Rattle.txn_history.specs.Among.{IsAmong}
use Rattle.txn_model.specs.declared.cell.Cell.{Cell}
use Rattle.txn_model.specs.Cells.{Key, key_eq, key_cmp, has_key, no_cell, cell_at, AllAbove, AreInOrder}
use Rattle.txn_model.proofs.Keys.{same_key, key_itself, differs_if_less, key_cmp_itself, less_trans}
use Rattle.std.specs.declared.cmp.Ordering.TheVariants.{Less}

pub among_map : {X Y : Type 0} (f : X → Y) (xs : List X) (y : Y) → IsAmong (map f xs) y → (x : X) × IsAmong xs x × (f x ≡ y)
among_map f [] y a = absurd a
among_map f (x ∷ xs) y (inl a) = (x, inl refl, a)
among_map f (x ∷ xs) y (inr a) = let h = among_map f xs y a in (h.0, inr h.1, h.2)

pub among_filter_map : {X Y : Type 0} (f : X → Option Y) (xs : List X) (y : Y) → IsAmong (filter_map f xs) y → (x : X) × IsAmong xs x × (f x ≡ Some y)
among_filter_map f [] y a = absurd a
among_filter_map {X} {Y} f (x ∷ xs) y a = by (λ b. among_filter_map f xs y b) (f x) refl a
  where
    by : (IsAmong (filter_map f xs) y → (z : X) × IsAmong xs z × (f z ≡ Some y)) → (o : Option Y) → f x ≡ o → IsAmong (cons_option o (filter_map f xs)) y → (z : X) × IsAmong (x ∷ xs) z × (f z ≡ Some y)
    by rest None e b = let h = rest b in (h.0, inr h.1, h.2)
    by rest (Some z) e (inl b) = (x, inl refl, e ∙ ap Some b)
    by rest (Some z) e (inr b) = let h = rest b in (h.0, inr h.1, h.2)

pub among_filter : {X : Type 0} (p : X → Bool) (xs : List X) (x : X) → IsAmong (filter p xs) x → IsAmong xs x
among_filter p [] x a = absurd a
among_filter {X} p (y ∷ ys) x a = by (λ b. among_filter p ys x b) (p y) a
  where
    by : (IsAmong (filter p ys) x → IsAmong ys x) → (b : Bool) → IsAmong (cond b (y ∷ filter p ys) (filter p ys)) x → IsAmong (y ∷ ys) x
    by rest true (inl c) = inl c
    by rest true (inr c) = inr (rest c)
    by rest false c = inr (rest c)

pub among_take : {X : Type 0} (n : ℕ) (xs : List X) (x : X) → IsAmong (take n xs) x → IsAmong xs x
among_take zero xs x a = absurd a
among_take (suc n) [] x a = absurd a
among_take (suc n) (y ∷ ys) x (inl a) = inl a
among_take (suc n) (y ∷ ys) x (inr a) = inr (among_take n ys x a)

among_reverse_aux : {X : Type 0} (xs ys : List X) (x : X) → IsAmong (reverse_aux xs ys) x → IsAmong xs x ⊎ IsAmong ys x
among_reverse_aux [] ys x a = inr a
among_reverse_aux (y ∷ xs) ys x a = elim (among_reverse_aux xs (y ∷ ys) x a) [ inl b ↦ inl (inr b) | inr b ↦ elim b [ inl c ↦ inl (inl c) | inr c ↦ inr c ] ]

pub among_reverse : {X : Type 0} (xs : List X) (x : X) → IsAmong (reverse xs) x → IsAmong xs x
among_reverse xs x a = elim (among_reverse_aux xs [] x a) [ inl b ↦ b | inr b ↦ absurd b ]

pub among_option : {X : Type 0} (o : Option X) (xs : List X) (x : X) → IsAmong (option_to_list o ++ xs) x → (o ≡ Some x) ⊎ IsAmong xs x
among_option None xs x a = inr a
among_option (Some y) xs x (inl a) = inl (ap Some a)
among_option (Some y) xs x (inr a) = inr a

above_all : (k : Key) (cs : List Cell) (c : Cell) → AllAbove k cs → IsAmong cs c → key_cmp k c.key ≡ Less
above_all k [] c a h = absurd h
above_all k (d ∷ ds) c a (inl h) = subst (λ q. key_cmp k q.key ≡ Less) h a.0
above_all k (d ∷ ds) c a (inr h) = above_all k ds c a.1 h

-- a cell of the list is the cell of its key
pub cell_among : (cs : List Cell) (c : Cell) → AreInOrder cs → IsAmong cs c → cell_at cs c.key ≡ c
cell_among [] c o h = absurd h
cell_among (d ∷ ds) c o (inl h) = subst (λ q. cell_at (d ∷ ds) q.key ≡ q) h (rw (key_itself d.key) refl)
cell_among (d ∷ ds) c o (inr h) = rw (differs_if_less d.key c.key (above_all d.key ds c o.0 h)) (cell_among ds c o.1 h)

-- and what of a list stands in one that was made from it

pub filter_map_among : {X Y : Type 0} (f : X → Option Y) (xs : List X) (x : X) (y : Y) → IsAmong xs x → f x ≡ Some y → IsAmong (filter_map f xs) y
filter_map_among f [] x y a e = absurd a
filter_map_among {X} {Y} f (z ∷ xs) x y (inl a) e = subst (λ o. IsAmong (cons_option o (filter_map f xs)) y) (sym (ap f a ∙ e)) (inl refl)
filter_map_among {X} {Y} f (z ∷ xs) x y (inr a) e = by (filter_map_among f xs x y a e) (f z)
  where
    by : IsAmong (filter_map f xs) y → (o : Option Y) → IsAmong (cons_option o (filter_map f xs)) y
    by rest None = rest
    by rest (Some w) = inr rest

pub map_among : {X Y : Type 0} (f : X → Y) (xs : List X) (x : X) → IsAmong xs x → IsAmong (map f xs) (f x)
map_among f [] x a = absurd a
map_among f (z ∷ xs) x (inl a) = inl (ap f a)
map_among f (z ∷ xs) x (inr a) = inr (map_among f xs x a)

pub filter_among : {X : Type 0} (p : X → Bool) (xs : List X) (x : X) → IsAmong xs x → p x ≡ true → IsAmong (filter p xs) x
filter_among p [] x a e = absurd a
filter_among {X} p (z ∷ xs) x (inl a) e = subst (λ b. IsAmong (cond b (z ∷ filter p xs) (filter p xs)) x) (sym (ap p a ∙ e)) (inl a)
filter_among {X} p (z ∷ xs) x (inr a) e = by (filter_among p xs x a e) (p z)
  where
    by : IsAmong (filter p xs) x → (b : Bool) → IsAmong (cond b (z ∷ filter p xs) (filter p xs)) x
    by rest true = inr rest
    by rest false = rest

reverse_aux_among : {X : Type 0} (xs ys : List X) (x : X) → IsAmong xs x ⊎ IsAmong ys x → IsAmong (reverse_aux xs ys) x
reverse_aux_among [] ys x a = elim a [ inl b ↦ absurd b | inr b ↦ b ]
reverse_aux_among (z ∷ xs) ys x a = reverse_aux_among xs (z ∷ ys) x (elim a [ inl b ↦ elim b [ inl c ↦ inr (inl c) | inr c ↦ inl c ] | inr b ↦ inr (inr b) ])

pub reverse_among : {X : Type 0} (xs : List X) (x : X) → IsAmong xs x → IsAmong (reverse xs) x
reverse_among xs x a = reverse_aux_among xs [] x (inl a)

-- what is taken is all, where it is less than was asked for
pub take_all : {X : Type 0} (n : ℕ) (xs : List X) → length (take n xs) < n → take n xs ≡ xs
take_all zero xs h = absurd (omega (arith, h))
take_all (suc n) [] h = refl
take_all (suc n) (x ∷ xs) h = ap (λ ys. x ∷ ys) (take_all n xs (omega (arith, h)))

pub map_length : {X Y : Type 0} (f : X → Y) (xs : List X) → length (map f xs) ≡ length xs
map_length f [] = refl
map_length f (x ∷ xs) = ap suc (map_length f xs)

pub key_among : (ks : List Key) (k : Key) → has_key ks k ≡ true → IsAmong ks k
key_among [] k h = absurd (cc)
key_among (q ∷ ks) k h = by (λ g. key_among ks k g) (key_eq q k) refl h
  where
    by : (has_key ks k ≡ true → IsAmong ks k) → (b : Bool) → key_eq q k ≡ b → (b || has_key ks k) ≡ true → IsAmong (q ∷ ks) k
    by rest true e g = inl (same_key q k e)
    by rest false e g = inr (rest g)

-- the cell of a key is kept, or nothing is known of it
pub kept_or_none : (cs : List Cell) (k : Key) → IsAmong cs (cell_at cs k) ⊎ (cell_at cs k ≡ no_cell k)
kept_or_none [] k = inr refl
kept_or_none (c ∷ cs) k = by (kept_or_none cs k) (key_eq c.key k)
  where
    by : IsAmong cs (cell_at cs k) ⊎ (cell_at cs k ≡ no_cell k) → (b : Bool) → IsAmong (c ∷ cs) (if b then c else cell_at cs k) ⊎ ((if b then c else cell_at cs k) ≡ no_cell k)
    by rest true = inl (inl refl)
    by rest false = elim rest [ inl a ↦ inl (inr a) | inr a ↦ inr a ]

-- Lists in an order of keys, upwards or downwards.

abbrev pub Follows : Bool → Key → Key → Type 0
Follows down k q = (if down then key_cmp q k else key_cmp k q) ≡ Less

-- each cell goes before all later ones
abbrev pub GoOn : Bool → List Cell → Type 0
GoOn down [] = Unit {0}
GoOn down (c ∷ cs) = ((d : Cell) → IsAmong cs d → Follows down c.key d.key) × GoOn down cs

no_circle : (down : Bool) (k q : Key) → Follows down k q → Follows down q k → ⊥
no_circle true k q h g = let e = key_cmp_itself k in let f = less_trans k q k g h in absurd (cc)
no_circle false k q h g = let e = key_cmp_itself k in let f = less_trans k q k h g in absurd (cc)

pub in_order_goes : (cs : List Cell) → AreInOrder cs → GoOn false cs
in_order_goes [] o = tt
in_order_goes (c ∷ cs) o = ((λ d a. above_all c.key cs d o.0 a), in_order_goes cs o.1)

pub filter_goes : (down : Bool) (p : Cell → Bool) (cs : List Cell) → GoOn down cs → GoOn down (filter p cs)
filter_goes down p [] g = tt
filter_goes down p (c ∷ cs) g = by (filter_goes down p cs g.1) (p c)
  where
    by : GoOn down (filter p cs) → (b : Bool) → GoOn down (cond b (c ∷ filter p cs) (filter p cs))
    by rest true = ((λ d a. g.0 d (among_filter p cs d a)), rest)
    by rest false = rest

reverse_aux_goes : (xs ys : List Cell) → GoOn false xs → GoOn true ys → ((x y : Cell) → IsAmong xs x → IsAmong ys y → key_cmp y.key x.key ≡ Less) → GoOn true (reverse_aux xs ys)
reverse_aux_goes [] ys g h f = h
reverse_aux_goes (x ∷ xs) ys g h f = reverse_aux_goes xs (x ∷ ys) g.1 ((λ d a. f x d (inl refl) a), h) (λ u v a b. elim b [ inl e ↦ subst (λ (z : Cell). key_cmp z.key u.key ≡ Less) e (g.0 u a) | inr e ↦ f u v (inr a) e ])

pub reverse_goes : (xs : List Cell) → GoOn false xs → GoOn true (reverse xs)
reverse_goes xs g = reverse_aux_goes xs [] g tt (λ x y a b. absurd b)

-- What a list of cells gives in order: where something is taken that a later cell gave, all that earlier ones gave is taken.
pub taken_before : {Y : Type 0} (down : Bool) (f : Cell → Option Y) (at : Y → Key) → ((c : Cell) (y : Y) → f c ≡ Some y → at y ≡ c.key) → (n : ℕ) (cs : List Cell) → GoOn down cs → (c : Cell) (y : Y) → IsAmong cs c → f c ≡ Some y → (q : Y) → IsAmong (take n (filter_map f cs)) q → Follows down c.key (at q) → IsAmong (take n (filter_map f cs)) y
taken_before down f at k n [] g c y a e q b h = absurd a
taken_before {Y} down f at k n (d ∷ ds) g c y a e q b h = by (f d) refl n (λ m x. taken_before down f at k m ds g.1 c y x e q) b
  where
    here : (z : Y) → f d ≡ Some z → IsAmong ds c → Follows down c.key (at z) → ⊥
    here z u x w = no_circle down c.key d.key (subst (λ j. Follows down c.key j) (k d z u) w) (g.0 c x)

    by : (o : Option Y) → f d ≡ o → (m : ℕ) → ((l : ℕ) → IsAmong ds c → IsAmong (take l (filter_map f ds)) q → Follows down c.key (at q) → IsAmong (take l (filter_map f ds)) y) → IsAmong (take m (cons_option o (filter_map f ds))) q → IsAmong (take m (cons_option o (filter_map f ds))) y
    by None u m rest v = elim a [ inl w ↦ absurd (let z = ap f w in cc) | inr x ↦ rest m x v h ]
    by (Some z) u zero rest v = absurd v
    by (Some z) u (suc m) rest v = elim a [
      | inl w ↦ inl (let p = ap f w in cc)
      | inr x ↦ elim v [
        | inl w ↦ absurd (here z u x (subst (λ j. Follows down c.key (at j)) (sym w) h))
        | inr w ↦ inr (rest m x w h)
      ]
    ]
