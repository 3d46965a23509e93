-- A walk through tasks ends, and comes to each in its place.
use Rattle.std.proofs.Common.{◌≡◌, ℕ, zero, suc, ◌+◌, ◌-◌, ◌<◌, ◌≤◌, List, [], ◌∷◌, ◌++◌, length, get_or, refl, sym, ap, ◌∙◌, append_assoc, arith}
use Rattle.std.specs.Prelude.{Option, Some, None}
use Rattle.std.specs.List.{flat_map, range_with_len, sum_by}
use Rattle.std.proofs.lemmas.List.{get_or_past, reverse-append}
use Rattle.std.proofs.lemmas.List.Elements.{All-push}
use Rattle.std.proofs.lemmas.List.Sums.{sum_by-cons, sum_by_push}
use Rattle.txn_retry.specs.declared.place.Parts.{Parts}
use Rattle.txn_retry.specs.Place.{itself_or, numbers, standing, AreLater}
use Rattle.txn_retry.specs.Walk.{pending, run_of, steps_at, steps_for, steps_of, IsMade, Walks}
use Rattle.txn_retry.proofs.Standing.{standing-steps}

sum_by-range : (f g : ℕ → ℕ) (a n : ℕ) → ((k : ℕ) → a ≤ k → k < a + n → f k ≡ g k) → sum_by f (range_with_len a n) ≡ sum_by g (range_with_len a n)
sum_by-range f g a zero e = refl
sum_by-range f g a (suc n) e =
    let one = e a (omega arith) (omega arith) in
    let more = sum_by-range f g (a + 1) n (λ k l m. e k (omega arith) (omega arith)) in
    omega (arith, sum_by-cons f a (range_with_len (a + 1) n), sum_by-cons g a (range_with_len (a + 1) n), one, more)

steps_at-alone : (f : ℕ) (cuts : List (Option Parts)) (i : ℕ) → get_or cuts i None ≡ None → steps_at f cuts i ≡ 1
steps_at-alone zero cuts i e = refl
steps_at-alone (suc f) cuts i e = ap (λ o. steps_for (λ p. sum_by (steps_at f cuts) (numbers p)) o) e

at_most : (f g : ℕ) (cuts : List (Option Parts)) (i : ℕ) (o : Option Parts) → get_or cuts i None ≡ o → AreLater cuts
    → length cuts ≤ i + suc f → length cuts ≤ i + suc g
    → ((k : ℕ) → length cuts ≤ k + f → length cuts ≤ k + g → steps_at f cuts k ≡ steps_at g cuts k)
    → steps_for (λ p. sum_by (steps_at f cuts) (numbers p)) o ≡ steps_for (λ p. sum_by (steps_at g cuts) (numbers p)) o
at_most f g cuts i None e later l m ih = refl
at_most f g cuts i (Some p) e later l m ih =
    let after : i < p.first = later.later i p e in
    ap (λ n. 2 + n) (sum_by-range (steps_at f cuts) (steps_at g cuts) p.first p.count (λ k a b. ih k (omega arith) (omega arith)))

steps_at-steps : (f g : ℕ) (cuts : List (Option Parts)) (i : ℕ) → AreLater cuts → length cuts ≤ i + f → length cuts ≤ i + g → steps_at f cuts i ≡ steps_at g cuts i
steps_at-steps zero zero cuts i later l m = refl
steps_at-steps zero (suc g) cuts i later l m = sym (steps_at-alone (suc g) cuts i (get_or_past cuts i None (omega arith)))
steps_at-steps (suc f) zero cuts i later l m = steps_at-alone (suc f) cuts i (get_or_past cuts i None (omega arith))
steps_at-steps (suc f) (suc g) cuts i later l m = at_most f g cuts i _ refl later l m (λ k a b. steps_at-steps f g cuts k later a b)

-- one level of the tree
standing_here : (cuts : List (Option Parts)) (i : ℕ) → AreLater cuts → standing (length cuts) cuts i ≡ itself_or (run_of cuts) i (get_or cuts i None)
standing_here cuts i later = standing-steps (length cuts) (suc (length cuts)) cuts i later (omega arith) (omega arith)

steps_here : (cuts : List (Option Parts)) (i : ℕ) → AreLater cuts → steps_at (length cuts) cuts i ≡ steps_for (λ p. sum_by (steps_at (length cuts) cuts) (numbers p)) (get_or cuts i None)
steps_here cuts i later = steps_at-steps (length cuts) (suc (length cuts)) cuts i later (omega arith) (omega arith)

pending-push : (cuts : List (Option Parts)) (runs : List Parts) (p : Parts) → pending cuts (runs ++ p ∷ []) ≡ run_of cuts p ++ pending cuts runs
pending-push cuts runs p = ap (flat_map (run_of cuts)) (reverse-append runs (p ∷ []))

abbrev rest_of : Parts → Parts
rest_of p = record { first = p.first + 1; count = p.count - 1 }

-- a run is its first task and the rest
run_split : (cuts : List (Option Parts)) (first n : ℕ) → AreLater cuts
    → run_of cuts (record { first = first; count = suc n }) ≡ itself_or (run_of cuts) first (get_or cuts first None) ++ run_of cuts (record { first = first + 1; count = n })
run_split cuts first n later = ap (λ xs. xs ++ run_of cuts (record { first = first + 1; count = n })) (standing_here cuts first later)

steps_split : (cuts : List (Option Parts)) (first n : ℕ) → AreLater cuts
    → steps_of cuts (record { first = first; count = suc n }) ≡ steps_for (λ p. sum_by (steps_at (length cuts) cuts) (numbers p)) (get_or cuts first None) + steps_of cuts (record { first = first + 1; count = n })
steps_split cuts first n later = omega (arith, sum_by-cons (steps_at (length cuts) cuts) first (range_with_len (first + 1) n), steps_here cuts first later)

walks_alone : (cuts : List (Option Parts)) (first n : ℕ) (runs : List Parts) (order : List ℕ) → AreLater cuts → first + suc n ≤ length cuts → get_or cuts first None ≡ None
    → Walks cuts (record { first = first; count = suc n }) runs (runs ++ record { first = first + 1; count = n } ∷ []) order (order ++ first ∷ [])
walks_alone cuts first n runs order later m e =
    let rest : Parts = record { first = first + 1; count = n } in
    let split = run_split cuts first n later in
    let here : itself_or (run_of cuts) first (get_or cuts first None) ≡ first ∷ [] = ap (λ o. itself_or (run_of cuts) first o) e in
    let cost : steps_for (λ p. sum_by (steps_at (length cuts) cuts) (numbers p)) (get_or cuts first None) ≡ 1 = ap (λ o. steps_for (λ p. sum_by (steps_at (length cuts) cuts) (numbers p)) o) e in
    record {
      same = rw (pending-push cuts runs rest, split, here) (append_assoc order (first ∷ []) (run_of cuts rest ++ pending cuts runs));
      made = λ a. All-push (IsMade cuts) runs rest a (omega (arith, m));
      less = omega (arith, sum_by_push (steps_of cuts) runs rest, steps_split cuts first n later, cost);
    }

walks_in : (cuts : List (Option Parts)) (first n : ℕ) (inner : Parts) (runs : List Parts) (order : List ℕ) → AreLater cuts → first + suc n ≤ length cuts → get_or cuts first None ≡ Some inner
    → Walks cuts (record { first = first; count = suc n }) runs ((runs ++ record { first = first + 1; count = n } ∷ []) ++ inner ∷ []) order order
walks_in cuts first n inner runs order later m e =
    let rest : Parts = record { first = first + 1; count = n } in
    let split = run_split cuts first n later in
    let here : itself_or (run_of cuts) first (get_or cuts first None) ≡ run_of cuts inner = ap (λ o. itself_or (run_of cuts) first o) e in
    let cost : steps_for (λ p. sum_by (steps_at (length cuts) cuts) (numbers p)) (get_or cuts first None) ≡ 2 + sum_by (steps_at (length cuts) cuts) (numbers inner) = ap (λ o. steps_for (λ p. sum_by (steps_at (length cuts) cuts) (numbers p)) o) e in
    record {
      same = rw (pending-push cuts (runs ++ rest ∷ []) inner, pending-push cuts runs rest, split, here)
          (ap (λ xs. order ++ xs) (sym (append_assoc (run_of cuts inner) (run_of cuts rest) (pending cuts runs))));
      made = λ a. All-push (IsMade cuts) (runs ++ rest ∷ []) inner (All-push (IsMade cuts) runs rest a (omega (arith, m))) (later.made first inner e);
      less = omega (arith, sum_by_push (steps_of cuts) runs rest, sum_by_push (steps_of cuts) (runs ++ rest ∷ []) inner, steps_split cuts first n later, cost);
    }

again : (p : Parts) → 0 < p.count → p ≡ record { first = p.first; count = suc (p.count - 1) }
again p l = let e : suc (p.count - 1) ≡ p.count = omega arith in ap (λ n. record { first = p.first; count = n }) (sym e)

pub Walks-alone : (cuts : List (Option Parts)) (p : Parts) (runs : List Parts) (order : List ℕ) → AreLater cuts → IsMade cuts p → 0 < p.count → get_or cuts p.first None ≡ None
    → Walks cuts p runs (runs ++ rest_of p ∷ []) order (order ++ p.first ∷ [])
Walks-alone cuts p runs order later m l e =
    let is = again p l in
    let w = walks_alone cuts p.first (p.count - 1) runs order later (omega arith) e in
    record { same = w.same ∙ ap (λ q. order ++ (run_of cuts q ++ pending cuts runs)) (sym is); made = w.made; less = omega (arith, w.less, ap (steps_of cuts) is) }

pub Walks-in : (cuts : List (Option Parts)) (p inner : Parts) (runs : List Parts) (order : List ℕ) → AreLater cuts → IsMade cuts p → 0 < p.count → get_or cuts p.first None ≡ Some inner
    → Walks cuts p runs ((runs ++ rest_of p ∷ []) ++ inner ∷ []) order order
Walks-in cuts p inner runs order later m l e =
    let is = again p l in
    let w = walks_in cuts p.first (p.count - 1) inner runs order later (omega arith) e in
    record { same = w.same ∙ ap (λ q. order ++ (run_of cuts q ++ pending cuts runs)) (sym is); made = w.made; less = omega (arith, w.less, ap (steps_of cuts) is) }
