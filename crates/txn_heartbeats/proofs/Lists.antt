-- The lists of lines, which are counted from 1.
use Rattle.std.proofs.Common.{◌≡◌, ◌≢◌, inl, inr, ℕ, zero, suc, ◌+◌, ◌-◌, ◌<◌, ◌≤◌, List, [], ◌∷◌, ◌++◌, length, map, get_or, set, refl, sym, ap, ◌∙◌, subst, arith}
use Rattle.std.proofs.lemmas.Bool.{cases_eq}
use Rattle.std.proofs.lemmas.List.{get_or-set_other, get_or-set_same, length-set, set-get_or}
use Rattle.txn_side.specs.Sight.{next_at, with_next}
use Rattle.txn_heartbeats.specs.Beating.{IsLine}

-- what is read of an element
pub read_in : {X Y : Type 0} (f : X → Y) (xs : List X) (i : ℕ) (d : X) (e : Y) → i < length xs → get_or (map f xs) i e ≡ f (get_or xs i d)
read_in f [] i d e h = absurd (omega arith)
read_in f (x ∷ xs) zero d e h = refl
read_in f (x ∷ xs) (suc i) d e h = read_in f xs i d e (omega arith)

-- one of the list is replaced by one of which f reads the same
pub map_kept : {X Y : Type 0} (f : X → Y) (xs : List X) (i : ℕ) (y d : X) → i < length xs → f y ≡ f (get_or xs i d) → map f (set xs i y) ≡ map f xs
map_kept f [] i y d h e = absurd (omega arith)
map_kept f (x ∷ xs) zero y d h e = ap (λ z. z ∷ map f xs) e
map_kept f (x ∷ xs) (suc i) y d h e = ap (λ zs. f x ∷ zs) (map_kept f xs i y d (omega arith) e)

-- the element of a line
abbrev pub at : {X : Type 0} → X → List X → ℕ → X
at d xs zero = d
at d xs (suc i) = get_or xs i d

pub next_is : (xs : List ℕ) (n : ℕ) → next_at xs n ≡ at 0 xs n
next_is xs zero = refl
next_is xs (suc i) = refl

module _ {X : Type 0} (d : X) where
  pub at_line : (xs : List X) (n : ℕ) → 1 ≤ n → at d xs n ≡ get_or xs (n - 1) d
  at_line xs zero one = absurd (omega (arith, one))
  at_line xs (suc i) one = let e : suc i - 1 ≡ i = omega arith in rw e refl

  pub at_same : (xs : List X) (n : ℕ) (v : X) → 1 ≤ n → n ≤ length xs → at d (set xs (n - 1) v) n ≡ v
  at_same xs n v one within = at_line (set xs (n - 1) v) n one ∙ get_or-set_same xs (n - 1) v d (omega (arith, one, within))

  pub at_other : (xs : List X) (line n : ℕ) (v : X) → 1 ≤ line → n ≢ line → at d (set xs (line - 1) v) n ≡ at d xs n
  at_other xs line zero v one apart = refl
  at_other xs line (suc i) v one apart = get_or-set_other xs (line - 1) i v d (λ e. apart (omega (arith, one, e)))

  -- one more stands at the end
  pub at_front : (xs ys : List X) (n : ℕ) → n ≤ length xs → at d (xs ++ ys) n ≡ at d xs n
  at_front xs ys zero h = refl
  at_front [] ys (suc i) h = absurd (omega (arith, h))
  at_front (x ∷ xs) ys (suc zero) h = refl
  at_front (x ∷ xs) ys (suc (suc i)) h = at_front xs ys (suc i) (omega (arith, h))

  pub at_past : (xs : List X) (n : ℕ) → length xs < n → at d xs n ≡ d
  at_past xs zero h = refl
  at_past [] (suc i) h = refl
  at_past (x ∷ xs) (suc zero) h = absurd (omega (arith, h))
  at_past (x ∷ xs) (suc (suc i)) h = at_past xs (suc i) (omega (arith, h))

-- The numbers

pub next_set : (xs : List ℕ) (line v : ℕ) → IsLine xs line → next_at (set xs (line - 1) v) line ≡ v
next_set xs line v own = next_is (set xs (line - 1) v) line ∙ at_same 0 xs line v own.first own.last

pub next_other : (xs : List ℕ) (line n v : ℕ) → 1 ≤ line → n ≢ line → next_at (set xs (line - 1) v) n ≡ next_at xs n
next_other xs line n v one apart = next_is (set xs (line - 1) v) n ∙ at_other 0 xs line n v one apart ∙ sym (next_is xs n)

pub next_line : (xs : List ℕ) (line : ℕ) → 1 ≤ line → next_at xs line ≡ get_or xs (line - 1) 0
next_line xs line one = next_is xs line ∙ at_line 0 xs line one

-- it stays
pub set_next_same : (xs : List ℕ) (line : ℕ) → 1 ≤ line → set xs (line - 1) (next_at xs line) ≡ xs
set_next_same xs line one = ap (set xs (line - 1)) (next_line xs line one) ∙ set-get_or xs (line - 1) 0

-- none falls where more stand at the end
pub next_opened : (xs ys : List ℕ) (n : ℕ) → next_at xs n ≤ next_at (xs ++ ys) n
next_opened xs ys zero = omega arith
next_opened [] ys (suc i) = omega arith
next_opened (x ∷ xs) ys (suc zero) = omega arith
next_opened (x ∷ xs) ys (suc (suc i)) = next_opened xs ys (suc i)

pub line_set : (xs : List ℕ) (i v line : ℕ) → IsLine xs line → IsLine (set xs i v) line
line_set xs i v line own = record { first = own.first; last = subst (λ n. line ≤ n) (sym (length-set xs i v)) own.last }

-- none falls where one is raised
pub raised_rises : (xs : List ℕ) (line n : ℕ) → IsLine xs line → next_at xs n ≤ next_at (with_next xs line) n
raised_rises xs line n own = elim (cases_eq n line) [
  | inl same ↦ (let e = next_set xs line (next_at xs line + 1) own in subst (λ k. next_at xs k ≤ next_at (with_next xs line) k) (sym same) (omega (arith, e)))
  | inr apart ↦ (let e = next_other xs line n (next_at xs line + 1) own.first apart in omega (arith, e))
]
