-- Items in pieces: each is in one of them.
use Rattle.std.proofs.Common.{◌≡◌, ◌≢◌, inl, inr, Bool, true, false, ◌||◌, List, [], ◌∷◌, ◌++◌, map, refl, sym, ap, subst}
use Rattle.std.specs.Prelude.{◌⊎◌, cond}
use Rattle.txn_history.specs.Among.{IsAmong}
use Rattle.txn_history.specs.Plan.{Key, has_key, key_eq}
use Rattle.txn_commit.proofs.Keys.{key_itself, same_key}
use Rattle.txn_shard.specs.Batches.{joined}
use Rattle.txn_shard.specs.Order.{comes_before, in_order, placed}
use Rattle.txn_shard.specs.Parts.{AreAmong}
use Rattle.txn_shard.specs.Sorted.{among_in_order}

-- in order

among_placed : {X : Type 0} (key : X → Key) (x : X) (ys : List X) (w : X) → IsAmong (x ∷ ys) w → IsAmong (placed key x ys) w
among_placed key x [] w i = i
among_placed {X} key x (y ∷ ys) w i = by (comes_before key y x) i (among_placed key x ys w)
  where
    past : (x ≡ w) ⊎ ((y ≡ w) ⊎ IsAmong ys w) → (IsAmong (x ∷ ys) w → IsAmong (placed key x ys) w) → IsAmong (y ∷ placed key x ys) w
    past (inl e) more = inr (more (inl e))
    past (inr (inl e)) more = inl e
    past (inr (inr i)) more = inr (more (inr i))

    by : (b : Bool) → IsAmong (x ∷ y ∷ ys) w → (IsAmong (x ∷ ys) w → IsAmong (placed key x ys) w) → IsAmong (cond b (y ∷ placed key x ys) (x ∷ y ∷ ys)) w
    by true i more = past i more
    by false i more = i

pub ordered_among : {X : Type 0} (key : X → Key) (xs : List X) (w : X) → IsAmong xs w → IsAmong (in_order key xs) w
ordered_among key [] w i = i
ordered_among key (x ∷ xs) w (inl e) = among_placed key x (in_order key xs) w (inl e)
ordered_among key (x ∷ xs) w (inr i) = among_placed key x (in_order key xs) w (inr (ordered_among key xs w i))

-- in pieces

among_either : {X : Type 0} (xs ys : List X) (w : X) → IsAmong (xs ++ ys) w → IsAmong xs w ⊎ IsAmong ys w
among_either [] ys w i = inr i
among_either (x ∷ xs) ys w (inl e) = inl (inl e)
among_either {X} (x ∷ xs) ys w (inr i) = further (among_either xs ys w i)
  where
    further : IsAmong xs w ⊎ IsAmong ys w → IsAmong (x ∷ xs) w ⊎ IsAmong ys w
    further (inl i) = inl (inr i)
    further (inr i) = inr i

pub piece_with : {P X : Type 0} (load : P → List X) (parts : List P) (w : X) → IsAmong (joined (map load parts)) w → (p : P) × IsAmong parts p × IsAmong (load p) w
piece_with load [] w i = absurd i
piece_with {P} {X} load (p ∷ parts) w i = found (among_either (load p) (joined (map load parts)) w i) (piece_with load parts w)
  where
    found : IsAmong (load p) w ⊎ IsAmong (joined (map load parts)) w → (IsAmong (joined (map load parts)) w → (q : P) × IsAmong parts q × IsAmong (load q) w) → (q : P) × IsAmong (p ∷ parts) q × IsAmong (load q) w
    found (inl i) more = (p, inl refl, i)
    found (inr i) more = let f = more i in (f.0, inr f.1, f.2)

-- an item of the whole is in one of the parts that it is cut into in its order
pub part_with : {P X : Type 0} (key : X → Key) (items : P → List X) (whole : List X) (parts : List P) (w : X) → joined (map (λ p. in_order key (items p)) parts) ≡ in_order key whole → IsAmong whole w → (p : P) × IsAmong parts p × IsAmong (items p) w
part_with key items whole parts w cut i =
    let f = piece_with (λ p. in_order key (items p)) parts w (subst (λ l. IsAmong l w) (sym cut) (ordered_among key whole w i)) in
    (f.0, f.1, among_in_order key (items f.0) w f.2)

-- keys

pub key_among : (ks : List Key) (k : Key) → has_key ks k ≡ true → IsAmong ks k
key_among [] k h = absurd (cc)
key_among (q ∷ ks) k h = by (λ g. key_among ks k g) (key_eq q k) refl h
  where
    by : (has_key ks k ≡ true → IsAmong ks k) → (b : Bool) → key_eq q k ≡ b → (b || has_key ks k) ≡ true → IsAmong (q ∷ ks) k
    by rest true e g = inl (same_key q k e)
    by rest false e g = inr (rest g)

pub among_key : (ks : List Key) (k : Key) → IsAmong ks k → has_key ks k ≡ true
among_key [] k i = absurd i
among_key (q ∷ ks) k (inl e) = ap (λ b. b || has_key ks k) (subst (λ x. key_eq x k ≡ true) (sym e) (key_itself k))
among_key (q ∷ ks) k (inr i) = by (key_eq q k) (among_key ks k i)
  where
    by : (b : Bool) → has_key ks k ≡ true → (b || has_key ks k) ≡ true
    by true e = refl
    by false e = e

pub key_of_part : (ks qs : List Key) → AreAmong ks qs → (k : Key) → has_key ks k ≡ true → has_key qs k ≡ true
key_of_part ks qs a k h = among_key qs k (a k (key_among ks k h))

-- a list in which a key stands is not empty, and in one that is not empty some key stands

pub key_stands : (ks : List Key) (k : Key) → has_key ks k ≡ true → ks ≢ []
key_stands [] k h e = absurd (cc)
key_stands (q ∷ ks) k h e = cc

pub some_key : (ks : List Key) → ks ≢ [] → (k : Key) × (has_key ks k ≡ true)
some_key [] is = absurd (is refl)
some_key (k ∷ ks) is = (k, ap (λ b. b || has_key ks k) (key_itself k))
