-- Elements of lists that are pushed or set, and tickets.
use Rattle.std.proofs.Common.{◌≡◌, ◌≢◌, ℕ, zero, suc, ◌+◌, ◌-◌, ◌<◌, ◌≤◌, ◌⊎◌, inl, inr, Bool, true, false, ◌&&◌, if◌then◌else◌, List, [], ◌∷◌, ◌++◌, Some, None, length, get_or, set, slice_get, nat_eq, refl, ap, ◌∙◌, arith}
use Rattle.std.proofs.lemmas.Bool.Decides.{nat_tests}
use Rattle.std.proofs.lemmas.Option.{slice_get_past}
use Rattle.txn_kv.specs.declared.ticket.Ticket.{Ticket}
use Rattle.txn_history.specs.Event.{bool_eq, same_ticket}
use Rattle.txn_first.specs.Posting.{places_of, place_in, position, ticket_after}

pub get_old : {X : Type 0} (xs ys : List X) (i : ℕ) (x : X) → slice_get xs i ≡ Some x → slice_get (xs ++ ys) i ≡ Some x
get_old [] ys i x h = absurd (cc)
get_old (z ∷ xs) ys zero x h = h
get_old (z ∷ xs) ys (suc i) x h = get_old xs ys i x h

pub get_last : {X : Type 0} (xs : List X) (y : X) → slice_get (xs ++ y ∷ []) (length xs) ≡ Some y
get_last [] y = refl
get_last (z ∷ xs) y = get_last xs y

pub get_pushed : {X : Type 0} (xs : List X) (y : X) (i : ℕ) (x : X) → slice_get (xs ++ y ∷ []) i ≡ Some x → (slice_get xs i ≡ Some x) ⊎ ((i ≡ length xs) × (y ≡ x))
get_pushed [] y zero x h = inr (refl, (cc))
get_pushed [] y (suc i) x h = absurd (cc)
get_pushed (z ∷ xs) y zero x h = inl h
get_pushed (z ∷ xs) y (suc i) x h = elim (get_pushed xs y i x h) [ inl a ↦ inl a | inr b ↦ inr (ap (λ n. suc n) b.0, b.1) ]

pub get_below : {X : Type 0} (xs ys : List X) (i : ℕ) → i < length xs → slice_get (xs ++ ys) i ≡ slice_get xs i
get_below [] ys i h = absurd (omega arith)
get_below (z ∷ xs) ys zero h = refl
get_below (z ∷ xs) ys (suc i) h = get_below xs ys i (omega arith)

pub get_same : {X : Type 0} (xs : List X) (i : ℕ) (y z : X) → slice_get xs i ≡ Some z → slice_get (set xs i y) i ≡ Some y
get_same [] i y z h = absurd (cc)
get_same (w ∷ xs) zero y z h = refl
get_same (w ∷ xs) (suc i) y z h = get_same xs i y z h

suc_apart : (i j : ℕ) → suc j ≢ suc i → j ≢ i
suc_apart i j h e = h (ap (λ n. suc n) e)

pub get_other : {X : Type 0} (xs : List X) (i j : ℕ) (y : X) → j ≢ i → slice_get (set xs i y) j ≡ slice_get xs j
get_other [] i j y h = refl
get_other (w ∷ xs) zero zero y h = absurd (h refl)
get_other (w ∷ xs) zero (suc j) y h = refl
get_other (w ∷ xs) (suc i) zero y h = refl
get_other (w ∷ xs) (suc i) (suc j) y h = get_other xs i j y (suc_apart i j h)

pub get_put : {X : Type 0} (xs : List X) (i j : ℕ) (y x : X) → slice_get (set xs i y) j ≡ Some x → ((j ≡ i) × (y ≡ x)) ⊎ ((j ≢ i) × (slice_get xs j ≡ Some x))
get_put [] i j y x h = absurd (cc)
get_put (w ∷ xs) zero zero y x h = inl (refl, (cc))
get_put (w ∷ xs) zero (suc j) y x h = inr (λ e. grind arith, h)
get_put (w ∷ xs) (suc i) zero y x h = inr (λ e. grind arith, h)
get_put (w ∷ xs) (suc i) (suc j) y x h = elim (get_put xs i j y x h) [ inl a ↦ inl (ap (λ n. suc n) a.0, a.1) | inr b ↦ inr (λ e. b.0 (omega arith), b.1) ]

pub get_within : {X : Type 0} (xs : List X) (i : ℕ) (x : X) → slice_get xs i ≡ Some x → i < length xs
get_within [] i x h = absurd (cc)
get_within (y ∷ xs) zero x h = omega arith
get_within (y ∷ xs) (suc i) x h = let l = get_within xs i x h in omega arith

pub get_some : {X : Type 0} (xs : List X) (i : ℕ) → i < length xs → (x : X) × (slice_get xs i ≡ Some x)
get_some [] i h = absurd (omega arith)
get_some (y ∷ xs) zero h = (y, refl)
get_some (y ∷ xs) (suc i) h = get_some xs i (omega arith)

pub get_is_or : {X : Type 0} (xs : List X) (i : ℕ) (x d : X) → slice_get xs i ≡ Some x → get_or xs i d ≡ x
get_is_or [] i x d h = absurd (cc)
get_is_or (y ∷ xs) zero x d h = cc
get_is_or (y ∷ xs) (suc i) x d h = get_is_or xs i x d h

pub or_pushed : {X : Type 0} (xs : List X) (y d : X) (i : ℕ) → i < length xs → get_or (xs ++ y ∷ []) i d ≡ get_or xs i d
or_pushed [] y d i h = absurd (omega arith)
or_pushed (z ∷ xs) y d zero h = refl
or_pushed (z ∷ xs) y d (suc i) h = or_pushed xs y d i (omega arith)

pub or_last : {X : Type 0} (xs : List X) (y d : X) → get_or (xs ++ y ∷ []) (length xs) d ≡ y
or_last [] y d = refl
or_last (z ∷ xs) y d = or_last xs y d

pub or_past : {X : Type 0} (xs : List X) (d : X) (i : ℕ) → length xs ≤ i → get_or xs i d ≡ d
or_past [] d i h = refl
or_past (z ∷ xs) d zero h = absurd (omega arith)
or_past (z ∷ xs) d (suc i) h = or_past xs d i (omega arith)

pub or_same : {X : Type 0} (xs : List X) (i : ℕ) (y d : X) → i < length xs → get_or (set xs i y) i d ≡ y
or_same [] i y d h = absurd (omega arith)
or_same (z ∷ xs) zero y d h = refl
or_same (z ∷ xs) (suc i) y d h = or_same xs i y d (omega arith)

pub or_other : {X : Type 0} (xs : List X) (i j : ℕ) (y d : X) → j ≢ i → get_or (set xs i y) j d ≡ get_or xs j d
or_other [] i j y d h = refl
or_other (w ∷ xs) zero zero y d h = absurd (h refl)
or_other (w ∷ xs) zero (suc j) y d h = refl
or_other (w ∷ xs) (suc i) zero y d h = refl
or_other (w ∷ xs) (suc i) (suc j) y d h = or_other xs i j y d (suc_apart i j h)

-- Tickets.

pub same_itself : (t : Ticket) → same_ticket t t ≡ true
same_itself t = by_beat t.beat refl
  where
    by_beat : (b : Bool) → t.beat ≡ b → same_ticket t t ≡ true
    by_beat true e = rw e (grind (arith, nat_tests))
    by_beat false e = rw e (grind (arith, nat_tests))

same_bool : (a b : Bool) → bool_eq a b ≡ true → a ≡ b
same_bool true true e = refl
same_bool true false e = absurd (cc)
same_bool false true e = absurd (cc)
same_bool false false e = refl

and_left : (a b : Bool) → a && b ≡ true → a ≡ true
and_left true b e = refl
and_left false b e = e

and_right : (a b : Bool) → a && b ≡ true → b ≡ true
and_right true b e = e
and_right false b e = absurd (cc)

pub same_is : (t u : Ticket) → same_ticket t u ≡ true → t ≡ u
same_is t u e =
    let first = and_left (nat_eq t.line u.line && bool_eq t.beat u.beat) (nat_eq t.number u.number) e in
    let number : nat_eq t.number u.number ≡ true = and_right (nat_eq t.line u.line && bool_eq t.beat u.beat) (nat_eq t.number u.number) e in
    let line : nat_eq t.line u.line ≡ true = and_left (nat_eq t.line u.line) (bool_eq t.beat u.beat) first in
    let beat = same_bool t.beat u.beat (and_right (nat_eq t.line u.line) (bool_eq t.beat u.beat) first) in
    let a : t.line ≡ u.line = grind (arith, nat_tests) in
    let b : t.number ≡ u.number = grind (arith, nat_tests) in
    λ i. record { line = a i; beat = beat i; number = b i }

place_push : (ns : List ℕ) (p k : ℕ) → place_in (ns ++ p ∷ []) k ≡ (if nat_eq (length ns + 1) k then Some p else place_in ns k)
place_push ns p zero = grind (arith, nat_tests)
place_push ns p (suc k) = at ns k
  where
    at : (ms : List ℕ) (j : ℕ) → slice_get (ms ++ p ∷ []) j ≡ (if nat_eq (length ms + 1) (suc j) then Some p else slice_get ms j)
    at [] zero = refl
    at [] (suc j) = grind (arith, nat_tests)
    at (m ∷ ms) zero = grind (arith, nat_tests)
    at (m ∷ ms) (suc j) = let h = at ms j in grind (arith, nat_tests, h)

-- the ticket of one request more of line x leads to its place, and the others as before
pub position_set : (tickets : List (List ℕ)) (x p : ℕ) (t : Ticket) → 1 ≤ x → x ≤ length tickets
    → position (set tickets (x - 1) (places_of tickets x ++ p ∷ [])) t ≡ (if same_ticket (ticket_after tickets x) t then Some p else position tickets t)
position_set tickets zero p t one last = absurd (omega arith)
position_set tickets (suc i) p t one last = by_beat t.beat refl
  where
    here : suc i - 1 ≡ i
    here = omega arith

    ps : List ℕ
    ps = get_or tickets i []

    by_line : (b : Bool) → nat_eq (suc i) t.line ≡ b → place_in (places_of (set tickets i (get_or tickets i [] ++ p ∷ [])) t.line) t.number ≡ (if b && true && nat_eq (length (get_or tickets i []) + 1) t.number then Some p else place_in (places_of tickets t.line) t.number)
    by_line true f =
        let same : t.line ≡ suc i = grind (arith, nat_tests) in
        let inside : i < length tickets = omega arith in
        let a : places_of (set tickets i (get_or tickets i [] ++ p ∷ [])) t.line ≡ get_or tickets i [] ++ p ∷ [] = ap (λ n. places_of (set tickets i (get_or tickets i [] ++ p ∷ [])) n) same ∙ or_same tickets i (get_or tickets i [] ++ p ∷ []) [] inside in
        let b : places_of tickets t.line ≡ get_or tickets i [] = ap (λ n. places_of tickets n) same in
        rw (a, b) (place_push (get_or tickets i []) p t.number)
    by_line false f = at_line t.line refl
      where
        at_line : (n : ℕ) → t.line ≡ n → place_in (places_of (set tickets i (get_or tickets i [] ++ p ∷ [])) n) t.number ≡ place_in (places_of tickets n) t.number
        at_line zero g = refl
        at_line (suc j) g = let apart : j ≢ i = grind (arith, nat_tests) in ap (λ qs. place_in qs t.number) (or_other tickets i j (get_or tickets i [] ++ p ∷ []) [] apart)

    by_beat : (b : Bool) → t.beat ≡ b → (if b then None else place_in (places_of (set tickets (suc i - 1) (get_or tickets i [] ++ p ∷ [])) t.line) t.number) ≡ (if nat_eq (suc i) t.line && bool_eq false b && nat_eq (length (get_or tickets i []) + 1) t.number then Some p else (if b then None else place_in (places_of tickets t.line) t.number))
    by_beat true e = grind (arith, nat_tests)
    by_beat false e = rw here (by_line (nat_eq (suc i) t.line) refl)

-- it led nowhere before
pub position_fresh : (tickets : List (List ℕ)) (x : ℕ) → position tickets (ticket_after tickets x) ≡ None
position_fresh tickets x = rw (suc_length (places_of tickets x)) (slice_get_past (places_of tickets x) (length (places_of tickets x)) (omega arith))
  where
    suc_length : (ps : List ℕ) → length ps + 1 ≡ suc (length ps)
    suc_length ps = omega arith
