-- A list of numbers that does not fall is told by how often it has each.
use Rattle.std.proofs.Common.{◌≡◌, ◌≢◌, ℕ, zero, suc, ◌+◌, ◌<◌, ◌≤◌, ◌⊎◌, inl, inr, Bool, true, false, if◌then◌else◌, List, [], ◌∷◌, length, get_or, nat_eq, nat_lt, refl, sym, ap, ◌∙◌, subst, arith}
use Rattle.std.proofs.lemmas.Bool.Decides.{nat_tests}
use Rattle.std.proofs.lemmas.List.Sorted.{sum_by-IsPermutation}
use Rattle.std.proofs.lemmas.List.Sums.{sum_by-cons}
use Rattle.std.specs.List.{filter, sum_by}
use Rattle.std.specs.List.Sorted.{IsNonDecreasing, IsPermutation}
use Rattle.txn_machine.specs.Told.{lines_from}
use Rattle.txn_machine.proofs.Calms.{same_line}

abbrev one_if : ℕ → ℕ → ℕ
one_if k x = if nat_eq x k then 1 else 0

-- how often a number is in a list
abbrev pub count : ℕ → List ℕ → ℕ
count k [] = 0
count k (x ∷ xs) = one_if k x + count k xs

count_sum : (k : ℕ) (xs : List ℕ) → sum_by (λ x. one_if k x) xs ≡ count k xs
count_sum k [] = refl
count_sum k (x ∷ xs) = sum_by-cons (λ y. one_if k y) x xs ∙ ap (λ n. one_if k x + n) (count_sum k xs)

pub count_same : (k : ℕ) (xs ys : List ℕ) → IsPermutation xs ys → count k ys ≡ count k xs
count_same k xs ys h = sym (count_sum k ys) ∙ sum_by-IsPermutation (λ x. one_if k x) xs ys h ∙ count_sum k xs

one_here : (k : ℕ) → one_if k k ≡ 1
one_here k = let q : nat_eq k k ≡ true = grind (arith, nat_tests) in ap (λ (b : Bool). if b then 1 else 0) q

one_off : (k x : ℕ) → x ≢ k → one_if k x ≡ 0
one_off k x h = let q : nat_eq x k ≡ false = grind (arith, nat_tests) in ap (λ (b : Bool). if b then 1 else 0) q

none_counted : (k : ℕ) (xs : List ℕ) → ((i d : ℕ) → i < length xs → k < get_or xs i d) → count k xs ≡ 0
none_counted k [] h = refl
none_counted k (x ∷ xs) h =
    let low : k < x = h 0 x (omega arith) in
    let a = one_off k x (λ e. absurd (omega arith)) in
    let b = none_counted k xs (λ i d l. h (suc i) d (omega arith)) in
    omega arith

tail_rises : (x : ℕ) (xs : List ℕ) → IsNonDecreasing (x ∷ xs) → IsNonDecreasing xs
tail_rises x xs h i j d a b = h (suc i) (suc j) d (omega arith) (omega arith)

pub is_below : (a b : ℕ) → (a < b) ⊎ (b ≤ a)
is_below a b = by (nat_lt a b) refl
  where
    by : (t : Bool) → nat_lt a b ≡ t → (a < b) ⊎ (b ≤ a)
    by true e = inl (grind (arith, nat_tests))
    by false e = inr (grind (arith, nat_tests))

record Head (first : ℕ) (xs : List ℕ) : Type 0 where
  rest : List ℕ
  is : xs ≡ first ∷ rest

sorted_head : (first : ℕ) (xs : List ℕ) → IsNonDecreasing xs → ((k : ℕ) → k < first → count k xs ≡ 0) → count first xs ≡ 1 → Head first xs
sorted_head first [] up low one = absurd (omega arith)
sorted_head first (x ∷ xs) up low one = elim (same_line first x) [
  | inl e ↦ record { rest = xs; is = ap (λ k. k ∷ xs) e }
  | inr off ↦ absurd (elim (is_below x first) [
    | inl h ↦ let a = low x h in let b = one_here x in omega arith
    | inr h ↦ let a = none_counted first (x ∷ xs) (λ i d l. let b : x ≤ get_or (x ∷ xs) i d = up 0 i d (omega arith) l in omega arith) in omega arith
  ])
]

abbrev later : (ℕ → Bool) → ℕ → ℕ → List ℕ
later P first n = filter P (lines_from (suc first) n)

pub sorted_is : (P : ℕ → Bool) (first n : ℕ) (xs : List ℕ) → IsNonDecreasing xs → ((k : ℕ) → k < first → count k xs ≡ 0) → ((k : ℕ) → first + n ≤ k → count k xs ≡ 0)
    → ((k : ℕ) → first ≤ k → k < first + n → count k xs ≡ (if P k then 1 else 0)) → xs ≡ filter P (lines_from first n)
sorted_is P first zero [] up low high within = refl
sorted_is P first zero (x ∷ xs) up low high within = absurd (elim (is_below x first) [
  | inl h ↦ let a = low x h in let b = one_here x in omega arith
  | inr h ↦ let a = high x (omega arith) in let b = one_here x in omega arith
])
sorted_is P first (suc n) xs up low high within = by (P first) refl (λ ys a b c d. sorted_is P (suc first) n ys a b c d)
  where
    by : (b : Bool) → P first ≡ b
        → ((ys : List ℕ) → IsNonDecreasing ys → ((k : ℕ) → k < suc first → count k ys ≡ 0) → ((k : ℕ) → suc first + n ≤ k → count k ys ≡ 0) → ((k : ℕ) → suc first ≤ k → k < suc first + n → count k ys ≡ (if P k then 1 else 0)) → ys ≡ later P first n)
        → xs ≡ (if P first then first ∷ later P first n else later P first n)
    by false q again =
        let here : count first xs ≡ 0 = within first (omega arith) (omega arith) ∙ ap (λ (b : Bool). if b then 1 else 0) q in
        again xs up (λ k h. elim (same_line first k) [ inl e ↦ ap (λ j. count j xs) e ∙ here | inr off ↦ low k (omega arith) ]) (λ k h. high k (omega arith)) (λ k a b. within k (omega arith) (omega arith))
        ∙ sym (ap (λ (b : Bool). if b then first ∷ later P first n else later P first n) q)
    by true q again =
        let here : count first xs ≡ 1 = within first (omega arith) (omega arith) ∙ ap (λ (b : Bool). if b then 1 else 0) q in
        let head = sorted_head first xs up low here in
        let counts : (k : ℕ) → count k xs ≡ one_if k first + count k head.rest = λ k. ap (λ ys. count k ys) head.is in
        let none : count first head.rest ≡ 0 = let a = counts first in let b = one_here first in omega arith in
        let rest = again head.rest (tail_rises first head.rest (subst (λ ys. IsNonDecreasing ys) head.is up))
        (λ k h. elim (same_line first k) [ inl e ↦ ap (λ j. count j head.rest) e ∙ none | inr off ↦ let a = low k (omega arith) in let b = counts k in omega arith ])
        (λ k h. let a = high k (omega arith) in let b = counts k in omega arith)
        (λ k a b. let c = counts k in let z = one_off k first (λ e. absurd (omega arith)) in let y : count k head.rest ≡ count k xs = omega arith in y ∙ within k (omega arith) (omega arith)) in
        head.is ∙ ap (λ ys. first ∷ ys) rest ∙ sym (ap (λ (b : Bool). if b then first ∷ later P first n else later P first n) q)
