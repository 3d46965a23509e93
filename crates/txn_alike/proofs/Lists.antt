-- Lists that are compared place by place.
use Rattle.std.proofs.Common.{◌≡◌, ℕ, zero, suc, ◌<◌, List, [], ◌∷◌, length, refl, ap, ◌∙◌, arith}
use Rattle.std.specs.Prelude.{slice_index_or}

pub same_lists : {X : Type 0} (xs ys : List X) → length xs ≡ length ys → ((j : ℕ) (d : X) → j < length xs → slice_index_or xs j d ≡ slice_index_or ys j d) → xs ≡ ys
same_lists [] [] l e = refl
same_lists [] (y ∷ ys) l e = absurd (omega arith)
same_lists (x ∷ xs) [] l e = absurd (omega arith)
same_lists (x ∷ xs) (y ∷ ys) l e =
    let rest = same_lists xs ys (omega arith) (λ j d b. e (suc j) d (omega arith)) in
    ap (λ z. z ∷ xs) (e zero x (omega arith)) ∙ ap (λ zs. y ∷ zs) rest
