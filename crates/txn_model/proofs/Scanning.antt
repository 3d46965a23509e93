-- What is found one after another, as far as a limit.
use Rattle.std.proofs.Common.{◌≡◌, ℕ, ◌+◌, ◌<◌, ◌≤◌, Bool, true, false, List, [], ◌∷◌, ◌++◌, map, take, drop, length, get_or, Option, Some, None, refl, sym, ap, ◌∙◌, arith, append-nil}
use Rattle.std.specs.List.{filter_map}
use Rattle.std.proofs.lemmas.List.{take_more, take-append-drop, map-append, length-append, length-reverse}
use Rattle.std.proofs.lemmas.List.Elements.{filter_map-append}
use Rattle.std.proofs.Math.Seq.{take-append_seam}
use Rattle.txn_model.specs.declared.cell.Cell.{Cell}
use Rattle.txn_model.specs.Scans.{ordered}

module _ {X Y Z : Type 0} (h : X → Option Y) (s : Y → Z) where
  found_more : (xs : List X) (i : ℕ) (x : X) → i < length xs → x ≡ get_or xs i x → filter_map h (take (i + 1) xs) ≡ filter_map h (take i xs) ++ filter_map h (x ∷ [])
  found_more xs i x l is = ap (filter_map h) (take_more xs i x l ∙ ap (λ y. take i xs ++ y ∷ []) (sym is)) ∙ filter_map-append h (take i xs) (x ∷ [])

  pub next_some : (xs : List X) (i : ℕ) (x : X) (o : Option Y) (y : Y) (done next : List Z) → i < length xs → x ≡ get_or xs i x → o ≡ h x → o ≡ Some y → next ≡ done ++ s y ∷ [] → done ≡ map s (filter_map h (take i xs)) → next ≡ map s (filter_map h (take (i + 1) xs))
  next_some xs i x o y done next l is finds some grows so_far =
      let one : h x ≡ Some y = sym finds ∙ some in
      let part : filter_map h (x ∷ []) ≡ y ∷ [] = rw one refl in
      grows ∙ (ap (λ ds. ds ++ s y ∷ []) so_far
      ∙ (sym (map-append s (filter_map h (take i xs)) (y ∷ []))
      ∙ ap (map s) (ap (λ ys. filter_map h (take i xs) ++ ys) (sym part) ∙ sym (found_more xs i x l is))))

  pub next_none : (xs : List X) (i : ℕ) (x : X) (o : Option Y) (done next : List Z) → i < length xs → x ≡ get_or xs i x → o ≡ h x → o ≡ None → next ≡ done → done ≡ map s (filter_map h (take i xs)) → next ≡ map s (filter_map h (take (i + 1) xs))
  next_none xs i x o done next l is finds none same so_far =
      let one : h x ≡ None = sym finds ∙ none in
      let part : filter_map h (x ∷ []) ≡ [] = rw one refl in
      same ∙ (so_far ∙ ap (map s) (sym (append-nil (filter_map h (take i xs))) ∙ (ap (λ ys. filter_map h (take i xs) ++ ys) (sym part) ∙ sym (found_more xs i x l is))))

  -- as many as the limit are found
  pub stopped : (xs : List X) (i n : ℕ) (done : List Z) → done ≡ map s (filter_map h (take i xs)) → length done ≤ n → n ≤ length done → done ≡ map s (take n (filter_map h xs))
  stopped xs i n done so_far few many =
      let front = filter_map h (take i xs) in
      let size : length front ≡ n = sized front (ap length so_far) in
      let all : filter_map h xs ≡ front ++ filter_map h (drop i xs) = ap (filter_map h) (sym (take-append-drop i xs)) ∙ filter_map-append h (take i xs) (drop i xs) in
      so_far ∙ ap (map s) (sym (ap (take n) all ∙ (ap (λ k. take k (front ++ filter_map h (drop i xs))) (sym size) ∙ take-append_seam front (filter_map h (drop i xs)))))
    where
      mapped : (ys : List Y) → length (map s ys) ≡ length ys
      mapped [] = refl
      mapped (y ∷ ys) = let e = mapped ys in omega arith

      sized : (ys : List Y) → length done ≡ length (map s ys) → length ys ≡ n
      sized ys e = let f = mapped ys in omega arith

pub map_same : {X : Type 0} (xs : List X) → map (λ x. x) xs ≡ xs
map_same [] = refl
map_same (x ∷ xs) = ap (λ ys. x ∷ ys) (map_same xs)

pub length_more : {Z : Type 0} (done next : List Z) (z : Z) (n : ℕ) → next ≡ done ++ z ∷ [] → length done < n → length next ≤ n
length_more done next z n grows few = rw grows (omega (arith, length-append done (z ∷ [])))

pub length_same : {Z : Type 0} (done next : List Z) (n : ℕ) → next ≡ done → length done ≤ n → length next ≤ n
length_same done next n same few = rw same few

pub ordered_length : (b : Bool) (cs : List Cell) → length (ordered b cs) ≡ length cs
ordered_length true cs = length-reverse cs
ordered_length false cs = refl
