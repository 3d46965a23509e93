-- Results are taken one after the other.
use Rattle.std.proofs.Common.{◌≡◌, ◌≢◌, ℕ, ◌<◌, List, [], ◌∷◌, ◌++◌, length, get_or, set, refl, ap, ◌∙◌, append_assoc}
use Rattle.std.specs.List.{All}
use Rattle.std.proofs.lemmas.List.{get_or-set_other, get_or_default}
use Rattle.std.proofs.lemmas.List.Elements.{All-head, All-tail}
use Rattle.txn_retry.specs.declared.place.Place.{Place}
use Rattle.txn_retry.specs.declared.place.Place.TheVariants.{Waiting}
use Rattle.txn_retry.specs.Place.{result_of, results, AreDistinct}

-- what becomes of another place makes no difference
results-set : {R : Type 0} (places : List (Place R)) (at : ℕ) (y : Place R) (order : List ℕ) → All (λ j. j ≢ at) order → results (set places at y) order ≡ results places order
results-set places at y [] a = refl
results-set places at y (i ∷ order) a =
    let here : get_or (set places at y) i Waiting ≡ get_or places i Waiting = get_or-set_other places at i y Waiting (All-head (λ j. j ≢ at) i order a) in
    let rest = results-set places at y order (All-tail (λ j. j ≢ at) i order a) in
    ap (λ p. result_of p ++ results (set places at y) order) here ∙ ap (λ xs. result_of (get_or places i Waiting) ++ xs) rest

pub results-taken : {R : Type 0} (places : List (Place R)) (at : ℕ) (rest : List ℕ) (p y : Place R) (before : List R) → AreDistinct (at ∷ rest) → at < length places → p ≡ get_or places at p
    → (before ++ result_of p) ++ results (set places at y) rest ≡ before ++ results places (at ∷ rest)
results-taken places at rest p y before d l is =
    append_assoc before (result_of p) (results (set places at y) rest)
    ∙ ap (λ xs. before ++ (result_of p ++ xs)) (results-set places at y rest d.0)
    ∙ ap (λ q. before ++ (result_of q ++ results places rest)) (is ∙ get_or_default places at p Waiting l)
