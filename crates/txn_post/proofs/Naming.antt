-- The next ticket of a line, or of its heartbeat, leads to a place, and the others lead where they led.
use Rattle.std.proofs.Common.{◌≡◌, ◌≢◌, ℕ, zero, suc, ◌+◌, ◌-◌, ◌≤◌, ◌⊎◌, inl, inr, Bool, true, false, List, [], ◌∷◌, ◌++◌, Some, length, set, nat_eq, refl, sym, ap, ◌∙◌, arith}
use Rattle.std.proofs.lemmas.Bool.Decides.{nat_tests}
use Rattle.txn_kv.specs.declared.ticket.Ticket.{Ticket}
use Rattle.txn_post.specs.declared.post.Place.{Place}
use Rattle.txn_post.specs.Mail.{Mail, Tickets, lane, naming, naming_in, opened_lanes, place_in, place_of, places_of, IsNext}
use Rattle.txn_post.proofs.Lists.{get_old, get_last, get_pushed, or_same, or_other, or_ended}

-- The places of one line.

in_old : (ps qs : List Place) (n : ℕ) (p : Place) → place_in ps n ≡ Some p → place_in (ps ++ qs) n ≡ Some p
in_old ps qs zero p h = absurd (cc)
in_old ps qs (suc k) p h = get_old ps qs k p h

in_last : (ps : List Place) (p : Place) (n : ℕ) → n ≡ length ps + 1 → place_in (ps ++ p ∷ []) n ≡ Some p
in_last ps p zero h = absurd (omega arith)
in_last ps p (suc k) h = let e : k ≡ length ps = omega arith in rw e (get_last ps p)

in_pushed : (ps : List Place) (p : Place) (n : ℕ) (q : Place) → place_in (ps ++ p ∷ []) n ≡ Some q → (place_in ps n ≡ Some q) ⊎ ((n ≡ length ps + 1) × (p ≡ q))
in_pushed ps p zero q h = absurd (cc)
in_pushed ps p (suc k) q h = elim (get_pushed ps p k q h) [ inl a ↦ inl a | inr b ↦ inr (let e = b.0 in omega arith, b.1) ]

-- The places of all lines.

of_same : (lines : List (List Place)) (line : ℕ) (ps : List Place) → 1 ≤ line → line ≤ length lines → places_of (set lines (line - 1) ps) line ≡ ps
of_same lines zero ps one most = absurd (omega arith)
of_same lines (suc i) ps one most = let e : suc i - 1 ≡ i = omega arith in rw e (or_same lines i ps [] (omega arith))

of_other : (lines : List (List Place)) (line n : ℕ) (ps : List Place) → 1 ≤ line → n ≢ line → places_of (set lines (line - 1) ps) n ≡ places_of lines n
of_other lines zero n ps one apart = absurd (omega arith)
of_other lines (suc i) zero ps one apart = refl
of_other lines (suc i) (suc j) ps one apart =
    let e : suc i - 1 ≡ i = omega arith in
    rw e (or_other lines i j ps [] (λ s. apart (ap (λ k. suc k) s)))

-- Calls and heartbeats.

named_lane : (b : Bool) (tickets : Tickets) (line : ℕ) (p : Place) → lane b (naming tickets b line p) ≡ naming_in (lane b tickets) line p
named_lane false tickets line p = refl
named_lane true tickets line p = refl

other_lane : (a b : Bool) (tickets : Tickets) (line : ℕ) (p : Place) → a ≢ b → lane a (naming tickets b line p) ≡ lane a tickets
other_lane false false tickets line p apart = absurd (apart refl)
other_lane false true tickets line p apart = refl
other_lane true false tickets line p apart = refl
other_lane true true tickets line p apart = absurd (apart refl)

same_beat : (a b : Bool) → (a ≡ b) ⊎ (a ≢ b)
same_beat false false = inl refl
same_beat false true = inr (λ e. cc)
same_beat true false = inr (λ e. cc)
same_beat true true = inl refl

same_line : (line n : ℕ) → (n ≡ line) ⊎ (n ≢ line)
same_line line n = by (nat_eq n line) refl
  where
    by : (b : Bool) → nat_eq n line ≡ b → (n ≡ line) ⊎ (n ≢ line)
    by true e = inl (grind (arith, nat_tests))
    by false e = inr (grind (arith, nat_tests))

-- What a line, or its heartbeat, named is what it was; or this is its next.
pub record IsHere (tickets : Tickets) (t : Ticket) (p : Place) (b : Bool) (n : ℕ) : Type 0 where
  pub beat : b ≡ t.beat
  pub line : n ≡ t.line
  pub places : places_of (lane b (naming tickets t.beat t.line p)) n ≡ places_of (lane b tickets) n ++ p ∷ []

abbrev pub IsElsewhere : Tickets → Ticket → Place → Bool → ℕ → Type 0
IsElsewhere tickets t p b n = places_of (lane b (naming tickets t.beat t.line p)) n ≡ places_of (lane b tickets) n

pub named_where : (tickets : Tickets) (t : Ticket) (p : Place) (b : Bool) (n : ℕ) → 1 ≤ t.line → t.line ≤ length (lane t.beat tickets) → IsHere tickets t p b n ⊎ IsElsewhere tickets t p b n
named_where tickets t p b n first last = by_beat (same_beat b t.beat)
  where
    on_lane : b ≡ t.beat → places_of (lane b (naming tickets t.beat t.line p)) n ≡ places_of (naming_in (lane t.beat tickets) t.line p) n
    on_lane e = ap (λ c. places_of (lane c (naming tickets t.beat t.line p)) n) e ∙ ap (λ lines. places_of lines n) (named_lane t.beat tickets t.line p)

    by_line : b ≡ t.beat → (n ≡ t.line) ⊎ (n ≢ t.line) → IsHere tickets t p b n ⊎ IsElsewhere tickets t p b n
    by_line e (inl l) = inl (record {
      beat = e;
      line = l;
      places = on_lane e
          ∙ ap (λ k. places_of (naming_in (lane t.beat tickets) t.line p) k) l
          ∙ of_same (lane t.beat tickets) t.line (places_of (lane t.beat tickets) t.line ++ p ∷ []) first last
          ∙ ap (λ k. places_of (lane t.beat tickets) k ++ p ∷ []) (sym l)
          ∙ ap (λ c. places_of (lane c tickets) n ++ p ∷ []) (sym e);
    })
    by_line e (inr apart) = inr (on_lane e ∙ of_other (lane t.beat tickets) t.line n (places_of (lane t.beat tickets) t.line ++ p ∷ []) first apart ∙ ap (λ c. places_of (lane c tickets) n) (sym e))

    by_beat : (b ≡ t.beat) ⊎ (b ≢ t.beat) → IsHere tickets t p b n ⊎ IsElsewhere tickets t p b n
    by_beat (inl e) = by_line e (same_line t.line n)
    by_beat (inr apart) = inr (ap (λ lines. places_of lines n) (other_lane b t.beat tickets t.line p apart))

-- The places of tickets.

pub named_next : (mail : Mail) (t : Ticket) (p : Place) → IsNext mail t → place_of (naming mail.tickets t.beat t.line p) t ≡ Some p
named_next mail t p next =
    ap (λ lines. place_in (places_of lines t.line) t.number) (named_lane t.beat mail.tickets t.line p)
    ∙ ap (λ qs. place_in qs t.number) (of_same (lane t.beat mail.tickets) t.line (places_of (lane t.beat mail.tickets) t.line ++ p ∷ []) next.first next.last)
    ∙ in_last (places_of (lane t.beat mail.tickets) t.line) p t.number next.number

pub named_old : (mail : Mail) (t u : Ticket) (p q : Place) → IsNext mail t → place_of mail.tickets u ≡ Some q → place_of (naming mail.tickets t.beat t.line p) u ≡ Some q
named_old mail t u p q next h = elim (named_where mail.tickets t p u.beat u.line next.first next.last) [
  | inl here ↦ ap (λ qs. place_in qs u.number) here.places ∙ in_old (places_of (lane u.beat mail.tickets) u.line) (p ∷ []) u.number q h
  | inr there ↦ ap (λ qs. place_in qs u.number) there ∙ h
]

same_ticket : (t u : Ticket) → u.line ≡ t.line → u.beat ≡ t.beat → u.number ≡ t.number → u ≡ t
same_ticket t u a b c = λ i. record { line = a i; beat = b i; number = c i }

pub named_pushed : (mail : Mail) (t u : Ticket) (p q : Place) → IsNext mail t → place_of (naming mail.tickets t.beat t.line p) u ≡ Some q → (place_of mail.tickets u ≡ Some q) ⊎ ((u ≡ t) × (p ≡ q))
named_pushed mail t u p q next h = elim (named_where mail.tickets t p u.beat u.line next.first next.last) [
  | inl here ↦ elim (in_pushed (places_of (lane u.beat mail.tickets) u.line) p u.number q (ap (λ qs. place_in qs u.number) (sym here.places) ∙ h)) [
    | inl a ↦ inl a
    | inr b ↦
        let many : length (places_of (lane u.beat mail.tickets) u.line) + 1 ≡ length (places_of (lane t.beat mail.tickets) t.line) + 1 =
        ap (λ c. length (places_of (lane c mail.tickets) u.line) + 1) here.beat ∙ ap (λ n. length (places_of (lane t.beat mail.tickets) n) + 1) here.line in
        inr (same_ticket t u here.line here.beat (b.0 ∙ many ∙ sym next.number), b.1)
  ]
  | inr there ↦ inl (ap (λ qs. place_in qs u.number) (sym there) ∙ h)
]

-- A line more has named nothing.

of_opened : (lines : List (List Place)) (line : ℕ) → places_of (lines ++ [] ∷ []) line ≡ places_of lines line
of_opened lines zero = refl
of_opened lines (suc i) = or_ended lines [] i

pub opened_lane : (b : Bool) (tickets : Tickets) (line : ℕ) → places_of (lane b (opened_lanes tickets)) line ≡ places_of (lane b tickets) line
opened_lane false tickets line = of_opened tickets.calls line
opened_lane true tickets line = of_opened tickets.beats line

pub opened_leads : (tickets : Tickets) (t : Ticket) → place_of (opened_lanes tickets) t ≡ place_of tickets t
opened_leads tickets t = ap (λ ps. place_in ps t.number) (opened_lane t.beat tickets t.line)
