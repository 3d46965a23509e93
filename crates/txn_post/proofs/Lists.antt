-- Elements of lists that are pushed or set.
use Rattle.std.proofs.Common.{◌≡◌, ◌≢◌, ℕ, zero, suc, ◌<◌, ◌≤◌, ◌⊎◌, inl, inr, List, [], ◌∷◌, ◌++◌, Some, length, get_or, set, slice_get, refl, ap, arith}
use Rattle.std.specs.Option.{option_map}

pub get_old : {X : Type 0} (xs ys : List X) (i : ℕ) (x : X) → slice_get xs i ≡ Some x → slice_get (xs ++ ys) i ≡ Some x
get_old [] ys i x h = absurd (cc)
get_old (z ∷ xs) ys zero x h = h
get_old (z ∷ xs) ys (suc i) x h = get_old xs ys i x h

pub get_last : {X : Type 0} (xs : List X) (y : X) → slice_get (xs ++ y ∷ []) (length xs) ≡ Some y
get_last [] y = refl
get_last (z ∷ xs) y = get_last xs y

pub get_pushed : {X : Type 0} (xs : List X) (y : X) (i : ℕ) (x : X) → slice_get (xs ++ y ∷ []) i ≡ Some x → (slice_get xs i ≡ Some x) ⊎ ((i ≡ length xs) × (y ≡ x))
get_pushed [] y zero x h = inr (refl, (cc))
get_pushed [] y (suc i) x h = absurd (cc)
get_pushed (z ∷ xs) y zero x h = inl h
get_pushed (z ∷ xs) y (suc i) x h = elim (get_pushed xs y i x h) [ inl a ↦ inl a | inr b ↦ inr (ap (λ n. suc n) b.0, b.1) ]

-- the same of what is told of the elements

pub told_old : {X Y : Type 0} (f : X → Y) (xs ys : List X) (i : ℕ) (t : Y) → option_map f (slice_get xs i) ≡ Some t → option_map f (slice_get (xs ++ ys) i) ≡ Some t
told_old f [] ys i t h = absurd (cc)
told_old f (z ∷ xs) ys zero t h = h
told_old f (z ∷ xs) ys (suc i) t h = told_old f xs ys i t h

pub told_last : {X Y : Type 0} (f : X → Y) (xs : List X) (y : X) → option_map f (slice_get (xs ++ y ∷ []) (length xs)) ≡ Some (f y)
told_last f [] y = refl
told_last f (z ∷ xs) y = told_last f xs y

pub told_pushed : {X Y : Type 0} (f : X → Y) (xs : List X) (y : X) (i : ℕ) (t : Y) → option_map f (slice_get (xs ++ y ∷ []) i) ≡ Some t → (option_map f (slice_get xs i) ≡ Some t) ⊎ ((i ≡ length xs) × (f y ≡ t))
told_pushed f [] y zero t h = inr (refl, (cc))
told_pushed f [] y (suc i) t h = absurd (cc)
told_pushed f (z ∷ xs) y zero t h = inl h
told_pushed f (z ∷ xs) y (suc i) t h = elim (told_pushed f xs y i t h) [ inl a ↦ inl a | inr b ↦ inr (ap (λ n. suc n) b.0, b.1) ]

pub told_within : {X Y : Type 0} (f : X → Y) (xs : List X) (i : ℕ) (t : Y) → option_map f (slice_get xs i) ≡ Some t → i < length xs
told_within f [] i t h = absurd (cc)
told_within f (z ∷ xs) zero t h = omega arith
told_within f (z ∷ xs) (suc i) t h = let l = told_within f xs i t h in omega arith

-- reads with a default

pub or_past : {X : Type 0} (xs : List X) (d : X) (i : ℕ) → length xs ≤ i → get_or xs i d ≡ d
or_past [] d i h = refl
or_past (z ∷ xs) d zero h = absurd (omega arith)
or_past (z ∷ xs) d (suc i) h = or_past xs d i (omega arith)

pub or_same : {X : Type 0} (xs : List X) (i : ℕ) (y d : X) → i < length xs → get_or (set xs i y) i d ≡ y
or_same [] i y d h = absurd (omega arith)
or_same (z ∷ xs) zero y d h = refl
or_same (z ∷ xs) (suc i) y d h = or_same xs i y d (omega arith)

suc_apart : (i j : ℕ) → suc j ≢ suc i → j ≢ i
suc_apart i j h e = h (ap (λ n. suc n) e)

pub or_other : {X : Type 0} (xs : List X) (i j : ℕ) (y d : X) → j ≢ i → get_or (set xs i y) j d ≡ get_or xs j d
or_other [] i j y d h = refl
or_other (w ∷ xs) zero zero y d h = absurd (h refl)
or_other (w ∷ xs) zero (suc j) y d h = refl
or_other (w ∷ xs) (suc i) zero y d h = refl
or_other (w ∷ xs) (suc i) (suc j) y d h = or_other xs i j y d (suc_apart i j h)

-- the default at the end changes no read
pub or_ended : {X : Type 0} (xs : List X) (d : X) (i : ℕ) → get_or (xs ++ d ∷ []) i d ≡ get_or xs i d
or_ended [] d zero = refl
or_ended [] d (suc i) = refl
or_ended (z ∷ xs) d zero = refl
or_ended (z ∷ xs) d (suc i) = or_ended xs d i
