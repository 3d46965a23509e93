-- A list whose elements are changed one after another.
use Rattle.std.proofs.Common.{◌≡◌, ℕ, suc, zero, ◌+◌, ◌<◌, List, [], ◌∷◌, ◌++◌, map, take, drop, length, get_or, set, refl, ap, ◌∙◌, arith, add-one}

module _ {X : Type 0} (f : X → X) where
  mapped_suc : (xs : List X) (i : ℕ) (d : X) → i < length xs → set (map f (take i xs) ++ drop i xs) i (f (get_or (map f (take i xs) ++ drop i xs) i d)) ≡ map f (take (suc i) xs) ++ drop (suc i) xs
  mapped_suc [] i d l = absurd (omega arith)
  mapped_suc (x ∷ xs) zero d l = refl
  mapped_suc (x ∷ xs) (suc i) d l = ap (λ ys. f x ∷ ys) (mapped_suc xs i d (omega arith))

  pub mapped_next : (xs ys : List X) (i : ℕ) (x y : X) → i < length xs → ys ≡ map f (take i xs) ++ drop i xs → x ≡ get_or ys i x → y ≡ f x → set ys i y ≡ map f (take (i + 1) xs) ++ drop (i + 1) xs
  mapped_next xs ys i x y l so_far is makes =
      let new = makes ∙ ap f (is ∙ ap (λ zs. get_or zs i x) so_far) in
      ap (λ zs. set zs i y) so_far ∙ (ap (set (map f (take i xs) ++ drop i xs) i) new ∙ (mapped_suc xs i x l ∙ rw add-one refl))
