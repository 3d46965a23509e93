-- A region split at its place.
use Rattle.std.proofs.Common.{◌≡◌, ℕ, suc, zero, ◌+◌, ◌<◌, ◌≤◌, ◌⊎◌, inl, inr, ◌^◌, Bool, true, false, List, [], ◌∷◌, length, get_or, set, refl, sym, ap, ◌∙◌, subst, arith, add-one}
use Rattle.std.specs.Prelude.{if◌then◌else◌, nat_eq}
use Rattle.std.specs.List.{insert}
use Rattle.txn_model.specs.declared.region.StoredRegion.{StoredRegion}
use Rattle.txn_model.specs.Cells.{Key}
use Rattle.txn_model.specs.Regions.{lower_part, upper_part, split_at}
use Rattle.txn_model.specs.Regions.{led_by}
use Rattle.txn_model.specs.Splits.{holds, VersionsFit, VersionsUpTo, AreCounted}

pub not_split : (k : Key) (n : ℕ) (gs : List StoredRegion) → ((i : ℕ) (d : StoredRegion) → i < length gs → holds k (get_or gs i d) ≡ false) → gs ≡ split_at k n gs
not_split k n [] h = refl
not_split k n (g ∷ gs) h = rw (h 0 g (omega arith)) (ap (λ xs. g ∷ xs) (not_split k n gs (λ i d l. h (suc i) d (omega arith))))

split_suc : (k : Key) (n : ℕ) (gs : List StoredRegion) (at : ℕ) (g : StoredRegion) → at < length gs → g ≡ get_or gs at g → holds k (get_or gs at g) ≡ true → ((i : ℕ) (d : StoredRegion) → i < at → holds k (get_or gs i d) ≡ false) → set (insert gs (suc at) (upper_part k n g)) at (lower_part k g) ≡ split_at k n gs
split_suc k n [] at g l is here first = absurd (omega arith)
split_suc k n (x ∷ gs) zero g l is here first = rw (here) (ap (λ y. lower_part k y ∷ upper_part k n y ∷ gs) is)
split_suc k n (x ∷ gs) (suc at) g l is here first = rw (first 0 g (omega arith)) (ap (λ xs. x ∷ xs) (split_suc k n gs at g (omega arith) is here (λ i d m. first (suc i) d (omega arith))))

pub split_there : (k : Key) (n : ℕ) (gs : List StoredRegion) (at : ℕ) (g : StoredRegion) → at < length gs → g ≡ get_or gs at g → holds k (get_or gs at g) ≡ true → ((i : ℕ) (d : StoredRegion) → i < at → holds k (get_or gs i d) ≡ false) → set (insert gs (at + 1) (upper_part k n g)) at (lower_part k g) ≡ split_at k n gs
split_there k n gs at g l is here first = rw add-one (split_suc k n gs at g l is here first)

pub version_fits : (gs : List StoredRegion) (at : ℕ) (d : StoredRegion) → at < length gs → VersionsFit gs → (get_or gs at d).epoch.version + 1 < 2 ^ 64
version_fits [] at d l fit = absurd (omega arith)
version_fits (g ∷ gs) zero d l fit = fit.0
version_fits (g ∷ gs) (suc at) d l fit = version_fits gs at d (omega arith) fit.1

any_default : (gs : List StoredRegion) (at : ℕ) (d e : StoredRegion) → at < length gs → get_or gs at d ≡ get_or gs at e
any_default [] at d e l = absurd (omega arith)
any_default (g ∷ gs) zero d e l = refl
any_default (g ∷ gs) (suc at) d e l = any_default gs at d e (omega arith)

-- a region that comes after another leaves it where it is
insert_suc : (gs : List StoredRegion) (at : ℕ) (u d : StoredRegion) → at < length gs → get_or (insert gs (suc at) u) at d ≡ get_or gs at d
insert_suc [] at u d l = absurd (omega arith)
insert_suc (g ∷ gs) zero u d l = refl
insert_suc (g ∷ gs) (suc at) u d l = insert_suc gs at u d (omega arith)

-- what is read at the place after the other part came
pub read_again : (gs : List StoredRegion) (at : ℕ) (g u m : StoredRegion) (new : List StoredRegion) → at < length gs → g ≡ get_or gs at g → new ≡ insert gs (at + 1) u → m ≡ get_or new at m → m ≡ g
read_again gs at g u m new l is grows again = again ∙ (ap (λ xs. get_or xs at m) (grows ∙ rw add-one refl) ∙ (insert_suc gs at u m l ∙ (any_default gs at m g l ∙ sym is)))

pub split_done : (k : Key) (n : ℕ) (gs : List StoredRegion) (at : ℕ) (g u m low : StoredRegion) (new : List StoredRegion) → at < length gs → g ≡ get_or gs at g → u ≡ upper_part k n g → new ≡ insert gs (at + 1) u → m ≡ g → low ≡ lower_part k m → holds k (get_or gs at g) ≡ true → ((i : ℕ) (d : StoredRegion) → i < at → holds k (get_or gs i d) ≡ false) → set new at low ≡ split_at k n gs
split_done k n gs at g u m low new l is upper grows again lower here first =
    ap (λ xs. set xs at low) (grows ∙ ap (insert gs (at + 1)) upper)
    ∙ (ap (set (insert gs (at + 1) (upper_part k n g)) at) (lower ∙ ap (lower_part k) again)
    ∙ split_there k n gs at g l is here first)

-- Versions.

up_to_more : (m n : ℕ) (gs : List StoredRegion) → m ≤ n → VersionsUpTo m gs → VersionsUpTo n gs
up_to_more m n [] l a = tt
up_to_more m n (g ∷ gs) l a = (let h = a.0 in omega (arith, h), up_to_more m n gs l a.1)

up_to_split : (m : ℕ) (k : Key) (n : ℕ) (gs : List StoredRegion) → VersionsUpTo m gs → VersionsUpTo (m + 1) (split_at k n gs)
up_to_split m k n [] a = tt
up_to_split m k n (g ∷ gs) a = by (holds k g) (up_to_split m k n gs a.1)
  where
    by : (b : Bool) → VersionsUpTo (m + 1) (split_at k n gs) → VersionsUpTo (m + 1) (if b then lower_part k g ∷ upper_part k n g ∷ gs else g ∷ split_at k n gs)
    by true rest = let h = a.0 in (omega (arith, h), (omega (arith, h), up_to_more m (m + 1) gs (omega arith) a.1))
    by false rest = let h = a.0 in (omega (arith, h), rest)

split_length : (k : Key) (n : ℕ) (gs : List StoredRegion) → (split_at k n gs ≡ gs) ⊎ (length (split_at k n gs) ≡ length gs + 1)
split_length k n [] = inl refl
split_length k n (g ∷ gs) = by (holds k g) (split_length k n gs)
  where
    by : (b : Bool) → (split_at k n gs ≡ gs) ⊎ (length (split_at k n gs) ≡ length gs + 1) → ((if b then lower_part k g ∷ upper_part k n g ∷ gs else g ∷ split_at k n gs) ≡ g ∷ gs) ⊎ (length (if b then lower_part k g ∷ upper_part k n g ∷ gs else g ∷ split_at k n gs) ≡ length (g ∷ gs) + 1)
    by true rest = inr (omega arith)
    by false (inl e) = inl (ap (λ xs. g ∷ xs) e)
    by false (inr e) = inr (omega (arith, e))

pub counted_split : (k : Key) (n : ℕ) (gs : List StoredRegion) → AreCounted gs → AreCounted (split_at k n gs)
counted_split k n gs a = elim (split_length k n gs) [
  | inl e ↦ subst AreCounted (sym e) a
  | inr e ↦ subst (λ m. VersionsUpTo m (split_at k n gs)) (sym e) (up_to_split (length gs) k n gs a)
]

pub counted_fit : (m : ℕ) (gs : List StoredRegion) → m + 1 < 2 ^ 64 → VersionsUpTo m gs → VersionsFit gs
counted_fit m [] l a = tt
counted_fit m (g ∷ gs) l a = (let h = a.0 in omega (arith, h), counted_fit m gs l a.1)

led_length : (id store : ℕ) (gs : List StoredRegion) → length (led_by id store gs) ≡ length gs
led_length id store [] = refl
led_length id store (g ∷ gs) = ap (λ n. suc n) (led_length id store gs)

up_to_led : (m id store : ℕ) (gs : List StoredRegion) → VersionsUpTo m gs → VersionsUpTo m (led_by id store gs)
up_to_led m id store [] a = tt
up_to_led m id store (g ∷ gs) a = (by (nat_eq g.id id), up_to_led m id store gs a.1)
  where
    by : (b : Bool) → (if b then record g { leader = store } else g).epoch.version ≤ m
    by true = a.0
    by false = a.0

pub counted_led : (id store : ℕ) (gs : List StoredRegion) → AreCounted gs → AreCounted (led_by id store gs)
counted_led id store gs a = subst (λ m. VersionsUpTo m (led_by id store gs)) (sym (led_length id store gs)) (up_to_led (length gs) id store gs a)
