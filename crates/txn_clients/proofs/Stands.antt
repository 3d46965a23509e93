-- What stands at a line where another is set, and which calls transactions wait for then.
use Rattle.std.proofs.Common.{◌≡◌, ◌≢◌, ◌⊎◌, inl, inr, ℕ, zero, suc, ◌-◌, ◌<◌, ◌≤◌, Bool, true, false, List, [], ◌∷◌, ◌++◌, length, get_or, set, nat_eq, nat_lt, refl, sym, ap, ◌∙◌, subst, arith, length-set}
use Rattle.std.proofs.lemmas.Bool.Decides.{nat_tests}
use Rattle.txn_side.specs.Sight.{Stand, stand_at}
use Rattle.txn_side.specs.Sight.Stand.{Calling, HasBegun, Idle}
use Rattle.txn_clients.specs.Matching.{AreMatched, IsCallOf, IsLine}

-- Elements that are set.

pub or_same : {X : Type 0} (xs : List X) (i : ℕ) (y d : X) → i < length xs → get_or (set xs i y) i d ≡ y
or_same [] i y d h = absurd (omega arith)
or_same (z ∷ xs) zero y d h = refl
or_same (z ∷ xs) (suc i) y d h = or_same xs i y d (omega arith)

suc_apart : (i j : ℕ) → suc j ≢ suc i → j ≢ i
suc_apart i j h e = h (ap (λ n. suc n) e)

pub or_other : {X : Type 0} (xs : List X) (i j : ℕ) (y d : X) → j ≢ i → get_or (set xs i y) j d ≡ get_or xs j d
or_other [] i j y d h = refl
or_other (w ∷ xs) zero zero y d h = absurd (h refl)
or_other (w ∷ xs) zero (suc j) y d h = refl
or_other (w ∷ xs) (suc i) zero y d h = refl
or_other (w ∷ xs) (suc i) (suc j) y d h = or_other xs i j y d (suc_apart i j h)

pub or_ended : {X : Type 0} (xs : List X) (d : X) (i : ℕ) → get_or (xs ++ d ∷ []) i d ≡ get_or xs i d
or_ended [] d zero = refl
or_ended [] d (suc i) = refl
or_ended (z ∷ xs) d zero = refl
or_ended (z ∷ xs) d (suc i) = or_ended xs d i

or_past : {X : Type 0} (xs : List X) (d : X) (i : ℕ) → length xs ≤ i → get_or xs i d ≡ d
or_past [] d i h = refl
or_past (z ∷ xs) d zero h = absurd (omega arith)
or_past (z ∷ xs) d (suc i) h = or_past xs d i (omega arith)

-- What stands at a line.

pub same_line : (line n : ℕ) → (n ≡ line) ⊎ (n ≢ line)
same_line line n = by (nat_eq n line) refl
  where
    by : (b : Bool) → nat_eq n line ≡ b → (n ≡ line) ⊎ (n ≢ line)
    by true e = inl (grind (arith, nat_tests))
    by false e = inr (grind (arith, nat_tests))

pub stand_same : (stands : List Stand) (line : ℕ) (new : Stand) → IsLine stands line → stand_at (set stands (line - 1) new) line ≡ new
stand_same stands zero new is = absurd (omega (arith, is.first))
stand_same stands (suc i) new is = let e : suc i - 1 ≡ i = omega arith in let l : i < length stands = omega (arith, is.last) in rw e (or_same stands i new Idle l)

pub stand_other : (stands : List Stand) (line n : ℕ) (new : Stand) → 1 ≤ line → n ≢ line → stand_at (set stands (line - 1) new) n ≡ stand_at stands n
stand_other stands zero n new one apart = absurd (omega arith)
stand_other stands (suc i) zero new one apart = refl
stand_other stands (suc i) (suc j) new one apart = let e : suc i - 1 ≡ i = omega arith in rw e (or_other stands i j new Idle (suc_apart i j apart))

pub stand_opened : (stands : List Stand) (n : ℕ) → stand_at (stands ++ Idle ∷ []) n ≡ stand_at stands n
stand_opened stands zero = refl
stand_opened stands (suc i) = or_ended stands Idle i

-- where something stands, there is a line
pub line_of : (stands : List Stand) (n : ℕ) → stand_at stands n ≢ Idle → IsLine stands n
line_of stands zero h = absurd (h refl)
line_of stands (suc i) h = record { first = omega arith; last = by (nat_lt i (length stands)) refl }
  where
    by : (b : Bool) → nat_lt i (length stands) ≡ b → suc i ≤ length stands
    by true e = grind (arith, nat_tests)
    by false e = let l : length stands ≤ i = grind (arith, nat_tests) in absurd (h (or_past stands Idle i l))

-- What stands there tells its parts.

abbrev waits_of : Stand → ℕ
waits_of (HasBegun c m) = m
waits_of _ = 0

pub waited : (c d l m : ℕ) → HasBegun c l ≡ HasBegun d m → l ≡ m
waited c d l m e = ap waits_of e

abbrev transaction_of : Stand → ℕ
transaction_of (Calling c x b) = x
transaction_of _ = 0

pub called : (c d x y : ℕ) (a b : Bool) → Calling c x a ≡ Calling d y b → x ≡ y
called c d x y a b e = ap transaction_of e

-- Which transaction waits for which call.

-- nothing that is set waits, and nobody waited for what stood there
pub matched_set : (stands : List Stand) (line : ℕ) (new : Stand) → IsLine stands line → AreMatched stands
    → ((c x : ℕ) (b : Bool) → stand_at stands line ≢ Calling c x b) → ((c m : ℕ) → new ≡ HasBegun c m → m ≡ 0)
    → AreMatched (set stands (line - 1) new)
matched_set stands line new is matched before after x c m e = by (same_line line x)
  where
    by : (x ≡ line) ⊎ (x ≢ line) → (m ≡ 0) ⊎ IsCallOf (set stands (line - 1) new) x m
    by (inl same) = inl (after c m (sym (stand_same stands line new is) ∙ ap (stand_at (set stands (line - 1) new)) (sym same) ∙ e))
    by (inr apart) = call (matched x c m (sym (stand_other stands line x new is.first apart) ∙ e))
      where
        call : (m ≡ 0) ⊎ IsCallOf stands x m → (m ≡ 0) ⊎ IsCallOf (set stands (line - 1) new) x m
        call (inl z) = inl z
        call (inr (d, b, k)) = at (same_line line m)
          where
            at : (m ≡ line) ⊎ (m ≢ line) → (m ≡ 0) ⊎ IsCallOf (set stands (line - 1) new) x m
            at (inl same) = absurd (before d x b (ap (stand_at stands) (sym same) ∙ k))
            at (inr far) = inr (d, b, stand_other stands line m new is.first far ∙ k)

pub matched_opened : (stands : List Stand) → AreMatched stands → AreMatched (stands ++ Idle ∷ [])
matched_opened stands matched x c m e = by (matched x c m (sym (stand_opened stands x) ∙ e))
  where
    by : (m ≡ 0) ⊎ IsCallOf stands x m → (m ≡ 0) ⊎ IsCallOf (stands ++ Idle ∷ []) x m
    by (inl z) = inl z
    by (inr (d, b, k)) = inr (d, b, stand_opened stands m ∙ k)

-- a call has ended, and its transaction waits no more
pub matched_ended : (stands : List Stand) (line x c d : ℕ) (b : Bool) (new : Stand) → stand_at stands line ≡ Calling c x b → stand_at stands x ≡ HasBegun d line → AreMatched stands
    → ((e m : ℕ) → new ≡ HasBegun e m → m ≡ 0)
    → AreMatched (set (set stands (x - 1) (HasBegun d 0)) (line - 1) new)
matched_ended stands line x c d b new calls waits matched after y e m k = by (same_line line y)
  where
    own : IsLine stands line
    own = line_of stands line (λ i. no (sym calls ∙ i))
      where
        no : Calling c x b ≡ Idle → ⊥
        no q = cc

    begun : IsLine stands x
    begun = line_of stands x (λ i. no (sym waits ∙ i))
      where
        no : HasBegun d line ≡ Idle → ⊥
        no q = cc

    mid : List Stand
    mid = set stands (x - 1) (HasBegun d 0)

    own_mid : IsLine mid line
    own_mid = record { first = own.first; last = subst (λ n. line ≤ n) (sym (length-set stands (x - 1) (HasBegun d 0))) own.last }

    by : (y ≡ line) ⊎ (y ≢ line) → (m ≡ 0) ⊎ IsCallOf (set mid (line - 1) new) y m
    by (inl same) = inl (after e m (sym (stand_same mid line new own_mid) ∙ ap (stand_at (set mid (line - 1) new)) (sym same) ∙ k))
    by (inr far) = other (same_line x y)
      where
        there : stand_at mid y ≡ HasBegun e m
        there = sym (stand_other mid line y new own.first far) ∙ k

        other : (y ≡ x) ⊎ (y ≢ x) → (m ≡ 0) ⊎ IsCallOf (set mid (line - 1) new) y m
        other (inl same) = inl (sym (waited d e 0 m (sym (stand_same stands x (HasBegun d 0) begun) ∙ ap (stand_at mid) (sym same) ∙ there)))
        other (inr apart) = call (matched y e m (sym (stand_other stands x y (HasBegun d 0) begun.first apart) ∙ there))
          where
            call : (m ≡ 0) ⊎ IsCallOf stands y m → (m ≡ 0) ⊎ IsCallOf (set mid (line - 1) new) y m
            call (inl z) = inl z
            call (inr (f, g, q)) = inr (f, g, stand_other mid line m new own.first not_line ∙ stand_other stands x m (HasBegun d 0) begun.first not_x ∙ q)
              where
                not_line : m ≢ line
                not_line s = apart (sym (called c f x y b g (sym calls ∙ ap (stand_at stands) (sym s) ∙ q)))

                not_x : m ≢ x
                not_x s = no (sym waits ∙ ap (stand_at stands) (sym s) ∙ q)
                  where
                    no : HasBegun d line ≡ Calling f y g → ⊥
                    no r = cc

-- a transaction waits for a new call
pub matched_called : (stands : List Stand) (line x c : ℕ) (b : Bool) → IsLine stands line → stand_at stands line ≡ Idle → stand_at stands x ≡ HasBegun c 0 → AreMatched stands
    → AreMatched (set (set stands (x - 1) (HasBegun c line)) (line - 1) (Calling c x b))
matched_called stands line x c b is idle free matched y d m e = by (same_line line y)
  where
    begun : IsLine stands x
    begun = line_of stands x (λ i. distinct_begun (sym free ∙ i))
      where
        distinct_begun : HasBegun c 0 ≡ Idle → ⊥
        distinct_begun k = cc

    mid : List Stand
    mid = set stands (x - 1) (HasBegun c line)

    is_mid : IsLine mid line
    is_mid = record { first = is.first; last = subst (λ n. line ≤ n) (sym (length-set stands (x - 1) (HasBegun c line))) is.last }

    apart_lines : line ≢ x
    apart_lines e = no (sym idle ∙ ap (stand_at stands) e ∙ free)
      where
        no : Idle ≡ HasBegun c 0 → ⊥
        no k = cc

    by : (y ≡ line) ⊎ (y ≢ line) → (m ≡ 0) ⊎ IsCallOf (set mid (line - 1) (Calling c x b)) y m
    by (inl same) = absurd (no (sym (stand_same mid line (Calling c x b) is_mid) ∙ ap (stand_at (set mid (line - 1) (Calling c x b))) (sym same) ∙ e))
      where
        no : Calling c x b ≡ HasBegun d m → ⊥
        no k = cc
    by (inr apart) = own (same_line x y)
      where
        there : stand_at mid y ≡ HasBegun d m
        there = sym (stand_other mid line y (Calling c x b) is.first apart) ∙ e

        own : (y ≡ x) ⊎ (y ≢ x) → (m ≡ 0) ⊎ IsCallOf (set mid (line - 1) (Calling c x b)) y m
        own (inl same) = inr (c, b, ap (stand_at (set mid (line - 1) (Calling c x b))) (sym waits) ∙ stand_same mid line (Calling c x b) is_mid ∙ ap (λ k. Calling c k b) (sym same))
          where
            set_so : HasBegun c line ≡ HasBegun d m
            set_so = sym (stand_same stands x (HasBegun c line) begun) ∙ ap (stand_at mid) (sym same) ∙ there

            waits : line ≡ m
            waits = waited c d line m set_so
        own (inr far) = call (matched y d m (sym (stand_other stands x y (HasBegun c line) begun.first far) ∙ there))
          where
            call : (m ≡ 0) ⊎ IsCallOf stands y m → (m ≡ 0) ⊎ IsCallOf (set mid (line - 1) (Calling c x b)) y m
            call (inl z) = inl z
            call (inr (f, g, k)) = inr (f, g, stand_other mid line m (Calling c x b) is.first not_line ∙ stand_other stands x m (HasBegun c line) begun.first not_x ∙ k)
              where
                not_line : m ≢ line
                not_line s = no (sym idle ∙ ap (stand_at stands) (sym s) ∙ k)
                  where
                    no : Idle ≡ Calling f y g → ⊥
                    no q = cc

                not_x : m ≢ x
                not_x s = no (sym free ∙ ap (stand_at stands) (sym s) ∙ k)
                  where
                    no : HasBegun c 0 ≡ Calling f y g → ⊥
                    no q = cc
