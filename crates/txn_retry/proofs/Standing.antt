-- In which order tasks stand, and how a cut changes it.
use Rattle.std.proofs.Common.{◌≡◌, ◌≢◌, ℕ, zero, suc, ◌+◌, ◌<◌, ◌≤◌, List, [], ◌∷◌, ◌++◌, length, get_or, refl, sym, ap, ◌∙◌, arith, inl, inr}
use Rattle.std.specs.Prelude.{Option, Some, None, nat_eq, if◌then◌else◌}
use Rattle.std.specs.List.{flat_map, range_with_len}
use Rattle.std.proofs.lemmas.List.Concat.{flat_map-append}
use Rattle.std.proofs.lemmas.Bool.{cases_eq, cases_lt, eq-eqb, ne_eqb}
use Rattle.std.proofs.lemmas.List.{append-nil, get_or_past}
use Rattle.txn_retry.specs.declared.place.Parts.{Parts}
use Rattle.txn_retry.specs.Place.{itself_or, numbers, standing, order_of, replaced, AreLater}

-- what is the same for each number of a run gives the same list
pub flat_map-range : {A : Type 0} (f g : ℕ → List A) (a n : ℕ) → ((k : ℕ) → a ≤ k → k < a + n → f k ≡ g k) → flat_map f (range_with_len a n) ≡ flat_map g (range_with_len a n)
flat_map-range f g a zero e = refl
flat_map-range f g a (suc n) e =
    let one = e a (omega arith) (omega arith) in
    let more = flat_map-range f g (a + 1) n (λ k l m. e k (omega arith) (omega arith)) in
    cc

pub flat_map-flat_map : {A B C : Type 0} (g : B → List C) (f : A → List B) (xs : List A) → flat_map g (flat_map f xs) ≡ flat_map (λ x. flat_map g (f x)) xs
flat_map-flat_map g f [] = refl
flat_map-flat_map g f (x ∷ xs) = flat_map-append g (f x) (flat_map f xs) ∙ ap (λ ys. flat_map g (f x) ++ ys) (flat_map-flat_map g f xs)

pub flat_map-alone : (xs : List ℕ) → flat_map (λ i. i ∷ []) xs ≡ xs
flat_map-alone [] = refl
flat_map-alone (x ∷ xs) = ap (λ ys. x ∷ ys) (flat_map-alone xs)

pub itself : (cuts : List (Option Parts)) (f : Parts → List ℕ) (i : ℕ) → get_or cuts i None ≡ None → itself_or f i (get_or cuts i None) ≡ i ∷ []
itself cuts f i e = ap (λ o. itself_or f i o) e

-- a task that is not cut stands alone
pub standing-alone : (f : ℕ) (cuts : List (Option Parts)) (i : ℕ) → get_or cuts i None ≡ None → standing f cuts i ≡ i ∷ []
standing-alone zero cuts i e = refl
standing-alone (suc f) cuts i e = itself cuts (λ p. flat_map (standing f cuts) (numbers p)) i e

steps_of : (f g : ℕ) (cuts : List (Option Parts)) (i : ℕ) (o : Option Parts) → get_or cuts i None ≡ o → AreLater cuts
    → length cuts ≤ i + suc f → length cuts ≤ i + suc g
    → ((k : ℕ) → length cuts ≤ k + f → length cuts ≤ k + g → standing f cuts k ≡ standing g cuts k)
    → itself_or (λ p. flat_map (standing f cuts) (numbers p)) i o ≡ itself_or (λ p. flat_map (standing g cuts) (numbers p)) i o
steps_of f g cuts i None e later l m ih = refl
steps_of f g cuts i (Some p) e later l m ih =
    let after : i < p.first = later.later i p e in
    flat_map-range (standing f cuts) (standing g cuts) p.first p.count (λ k a b. ih k (omega arith) (omega arith))

-- enough steps are as good as more
pub standing-steps : (f g : ℕ) (cuts : List (Option Parts)) (i : ℕ) → AreLater cuts → length cuts ≤ i + f → length cuts ≤ i + g → standing f cuts i ≡ standing g cuts i
standing-steps zero zero cuts i later l m = refl
standing-steps zero (suc g) cuts i later l m = sym (standing-alone (suc g) cuts i (get_or_past cuts i None (omega arith)))
standing-steps (suc f) zero cuts i later l m = standing-alone (suc f) cuts i (get_or_past cuts i None (omega arith))
standing-steps (suc f) (suc g) cuts i later l m = steps_of f g cuts i _ refl later l m (λ k a b. standing-steps f g cuts k later a b)

-- task `at` was cut, and those from `first` on are new
pub record IsCut (at first count : ℕ) (old new : List (Option Parts)) : Type 0 where
  pub end : length old ≡ first
  pub more : length new ≡ first + count
  pub whole : get_or old at None ≡ None
  pub cut : get_or new at None ≡ Some (record { first = first; count = count })
  pub below : at < first
  pub others : (k : ℕ) → k < first → k ≢ at → get_or new k None ≡ get_or old k None
  pub parts : (k : ℕ) → first ≤ k → get_or new k None ≡ None

later_at : {first count : ℕ} {old new : List (Option Parts)} (at : ℕ) → IsCut at first count old new → AreLater old → (i : ℕ) (p : Parts) → get_or new i None ≡ Some p
    → (i < p.first) × (p.first + p.count ≤ length new)
later_at {first} {count} {old} {new} at c l i p e =
    elim (cases_lt i first) [
      | inl below ↦ elim (cases_eq i at) [
        | inl same ↦
            let found : Some (record { first = first; count = count }) ≡ Some p = sym c.cut ∙ ap (λ k. get_or new k None) (sym same) ∙ e in
            let q : Parts = record { first = first; count = count } in
            let is : q ≡ p = cc in
            let starts : first ≡ p.first = ap (λ (x : Parts). x.first) is in
            let counts : count ≡ p.count = ap (λ (x : Parts). x.count) is in
            (omega (arith, c.below), omega (arith, c.more))
        | inr other ↦
            let was : get_or old i None ≡ Some p = sym (c.others i below other) ∙ e in
            (l.later i p was, omega (arith, l.made i p was, c.end, c.more))
      ]
      | inr past ↦ let no : None ≡ Some p = sym (c.parts i past) ∙ e in absurd (cc)
    ]

pub IsCut-later : {at first count : ℕ} {old new : List (Option Parts)} → IsCut at first count old new → AreLater old → AreLater new
IsCut-later {at} c l = record { later = λ i p e. (later_at at c l i p e).0; made = λ i p e. (later_at at c l i p e).1 }

pub replaced-itself : (at : ℕ) (others : List ℕ) → replaced at others (at ∷ []) ≡ others
replaced-itself at others = rw (eq-eqb at at refl) (append-nil others)

pub replaced-other : (at i : ℕ) (others : List ℕ) → i ≢ at → replaced at others (i ∷ []) ≡ i ∷ []
replaced-other at i others ne = rw (ne_eqb i at ne) refl

-- new tasks stand alone
fresh_ones : (f at first count : ℕ) (old new : List (Option Parts)) → IsCut at first count old new → flat_map (standing f new) (range_with_len first count) ≡ range_with_len first count
fresh_ones f at first count old new c =
    flat_map-range (standing f new) (λ i. i ∷ []) first count (λ k a b. standing-alone f new k (c.parts k a)) ∙ flat_map-alone (range_with_len first count)

standing_of : (f at first count : ℕ) (old new : List (Option Parts)) (i : ℕ) (o : Option Parts) → get_or old i None ≡ o
    → IsCut at first count old new → AreLater old → first ≤ i + suc f
    → ((k : ℕ) → k < first → first ≤ k + f → standing (suc f) new k ≡ replaced at (range_with_len first count) (standing f old k))
    → i ≢ at
    → itself_or (λ p. flat_map (standing (suc f) new) (numbers p)) i o ≡ replaced at (range_with_len first count) (itself_or (λ p. flat_map (standing f old) (numbers p)) i o)
standing_of f at first count old new i None e c later m ih ne = sym (replaced-other at i (range_with_len first count) ne)
standing_of f at first count old new i (Some p) e c later m ih ne =
    let after : i < p.first = later.later i p e in
    let within : p.first + p.count ≤ first = omega (arith, later.made i p e, c.end) in
    flat_map-range (standing (suc f) new) (λ k. replaced at (range_with_len first count) (standing f old k)) p.first p.count (λ k a b. ih k (omega arith) (omega arith))
    ∙ sym (flat_map-flat_map (λ (j : ℕ). if nat_eq j at then range_with_len first count else j ∷ []) (standing f old) (numbers p))

pub standing-cut : (f at first count : ℕ) (old new : List (Option Parts)) → IsCut at first count old new → AreLater old
    → (i : ℕ) → i < first → first ≤ i + f
    → standing (suc f) new i ≡ replaced at (range_with_len first count) (standing f old i)
standing-cut zero at first count old new c later i l m = absurd (omega arith)
standing-cut (suc f) at first count old new c later i l m =
    elim (cases_eq i at) [
      | inl same ↦
          let now : get_or new i None ≡ Some (record { first = first; count = count }) = ap (λ k. get_or new k None) same ∙ c.cut in
          let was : get_or old i None ≡ None = ap (λ k. get_or old k None) same ∙ c.whole in
          ap (λ o. itself_or (λ p. flat_map (standing (suc f) new) (numbers p)) i o) now ∙ fresh_ones (suc f) at first count old new c
          ∙ sym (ap (λ xs. replaced at (range_with_len first count) xs) (standing-alone (suc f) old i was ∙ ap (λ k. k ∷ []) same) ∙ replaced-itself at (range_with_len first count))
      | inr other ↦
          ap (λ o. itself_or (λ p. flat_map (standing (suc f) new) (numbers p)) i o) (c.others i l other)
          ∙ standing_of f at first count old new i (get_or old i None) refl c later m (λ k a b. standing-cut f at first count old new c later k a b) other
    ]

-- the whole order, once a task was cut
pub order_of-cut : (roots at first count : ℕ) (old new : List (Option Parts)) → IsCut at first count old new → AreLater old → roots ≤ first
    → order_of roots new ≡ replaced at (range_with_len first count) (order_of roots old)
order_of-cut roots at first count old new c later r =
    flat_map-range (standing (length new) new) (λ k. replaced at (range_with_len first count) (standing (length old) old k)) 0 roots
    (λ k a b. standing-steps (length new) (suc (length new)) new k (IsCut-later c later) (omega arith) (omega arith)
    ∙ standing-cut (length new) at first count old new c later k (omega arith) (omega (arith, c.more))
    ∙ ap (λ xs. replaced at (range_with_len first count) xs) (standing-steps (length new) (length old) old k later (omega (arith, c.more, c.end)) (omega arith)))
    ∙ sym (flat_map-flat_map (λ (j : ℕ). if nat_eq j at then range_with_len first count else j ∷ []) (standing (length old) old) (range_with_len 0 roots))
