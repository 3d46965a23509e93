-- A history that a heartbeat has of its own: each ticket names one request, and its numbers lie below that of the next.
use Rattle.std.proofs.Common.{◌≡◌, ◌⊎◌, inl, inr, ℕ, ◌+◌, ◌<◌, Bool, true, false, List, [], ◌∷◌, refl, sym, ap, ◌∙◌, subst, arith}
use Rattle.txn_kv.specs.declared.outbox.Errand.TheVariants.{Send, Sleep, Ask}
use Rattle.txn_kv.specs.declared.request.Request.{Request}
use Rattle.txn_kv.specs.declared.ticket.Ticket.{Ticket}
use Rattle.txn_history.specs.Event.{Event, Has, same_ticket}
use Rattle.txn_history.specs.Event.Event.{Sent, Served, Took, Refused, Lost, Began, Slept, Asked, Answered, Crashed, Split, Led, Clocked}
use Rattle.txn_history.specs.Posted.{AreNumbered, Errand, Posted, after}
use Rattle.txn_history.specs.Arrivals.{told_by}
use Rattle.txn_kv.specs.declared.arrival.Arrival.{Arrival}
use Rattle.txn_kv.specs.declared.arrival.Arrival.TheVariants as arrivals
use Rattle.txn_commit.proofs.Following.{ticket_is, ticket_itself}

-- Whether a request was sent with a ticket.

falsely : {X : Type 0} → false ≡ true → X
falsely e = absurd (cc)

sent_here : (e : Event) (t : Ticket) → ((r : Request) × (e ≡ Sent t r)) ⊎ ((r : Request) → e ≡ Sent t r → ⊥)
sent_here (Sent u q) t = by (same_ticket u t) refl
  where
    by : (b : Bool) → same_ticket u t ≡ b → ((r : Request) × (Sent u q ≡ Sent t r)) ⊎ ((r : Request) → Sent u q ≡ Sent t r → ⊥)
    by true h = inl (q, ap (λ v. Sent v q) (ticket_is u t h))
    by false h = inr (λ r e. falsely (sym h ∙ ap (λ v. same_ticket v t) (same e) ∙ ticket_itself t))
      where
        same : {r : Request} → Sent u q ≡ Sent t r → u ≡ t
        same e = cc
sent_here (Served u q x) t = inr (λ r e. cc)
sent_here (Took u q x) t = inr (λ r e. cc)
sent_here (Refused u q x) t = inr (λ r e. cc)
sent_here (Lost u q) t = inr (λ r e. cc)
sent_here (Began u ms) t = inr (λ r e. cc)
sent_here (Slept u) t = inr (λ r e. cc)
sent_here (Asked u) t = inr (λ r e. cc)
sent_here (Answered u x) t = inr (λ r e. cc)
sent_here (Crashed c) t = inr (λ r e. cc)
sent_here (Split k) t = inr (λ r e. cc)
sent_here (Led r s) t = inr (λ r e. cc)
sent_here (Clocked ms) t = inr (λ r e. cc)

pub sent_or_not : (h : List Event) (t : Ticket) → ((r : Request) × Has h (Sent t r)) ⊎ ((r : Request) → Has h (Sent t r) → ⊥)
sent_or_not [] t = inr (λ r i. i)
sent_or_not (e ∷ h) t = by (sent_here e t) (sent_or_not h t)
  where
    by : ((r : Request) × (e ≡ Sent t r)) ⊎ ((r : Request) → e ≡ Sent t r → ⊥) → ((r : Request) × Has h (Sent t r)) ⊎ ((r : Request) → Has h (Sent t r) → ⊥)
        → ((r : Request) × Has (e ∷ h) (Sent t r)) ⊎ ((r : Request) → Has (e ∷ h) (Sent t r) → ⊥)
    by (inl (r, x)) later = inl (r, inl x)
    by (inr other) (inl (r, x)) = inl (r, inr x)
    by (inr other) (inr never) = inr (λ r i. elim i [ inl x ↦ other r x | inr y ↦ never r y ])

-- What is kept as a history grows.

pub record IsOwn (line : ℕ) (beat : Bool) (next : ℕ) (h : List Event) : Type 0 where
  pub alone : (t : Ticket) (r q : Request) → Has h (Sent t r) → Has h (Sent t q) → q ≡ r
  pub below : (t : Ticket) (r : Request) → Has h (Sent t r) → t.line ≡ line → t.beat ≡ beat → t.number < next

pub own_nothing : (line : ℕ) (beat : Bool) (next : ℕ) → IsOwn line beat next []
own_nothing line beat next = record { alone = λ t r q x y. absurd x; below = λ t r x. absurd x }

own_raised : {line : ℕ} {beat : Bool} (first : ℕ) (h : List Event) → IsOwn line beat first h → IsOwn line beat (first + 1) h
own_raised first h k = record { alone = k.alone; below = λ t r i l b. let under = k.below t r i l b in omega (arith, under) }

own_other : (line : ℕ) (beat : Bool) (next : ℕ) (e : Event) (h : List Event) → ((t : Ticket) (r : Request) → e ≡ Sent t r → ⊥) → IsOwn line beat next h → IsOwn line beat next (e ∷ h)
own_other line beat next e h other k = record {
  alone = λ t r q x y. alone t r q x y;
  below = λ t r x. elim x [ inl f ↦ absurd (other t r f) | inr i ↦ k.below t r i ];
}
  where
    alone : (t : Ticket) (r q : Request) → Has (e ∷ h) (Sent t r) → Has (e ∷ h) (Sent t q) → q ≡ r
    alone t r q (inl f) y = absurd (other t r f)
    alone t r q (inr i) (inl f) = absurd (other t q f)
    alone t r q (inr i) (inr j) = k.alone t r q i j

clash : (line : ℕ) (beat : Bool) (first : ℕ) (u t : Ticket) (q : Request) (h : List Event) → u.line ≡ line → u.beat ≡ beat → u.number ≡ first → u ≡ t → IsOwn line beat first h → Has h (Sent t q) → ⊥
clash line beat first u t q h l b n e k i =
    let under = k.below t q i (sym (ap (λ (v : Ticket). v.line) e) ∙ l) (sym (ap (λ (v : Ticket). v.beat) e) ∙ b) in
    let at : t.number ≡ first = sym (ap (λ (v : Ticket). v.number) e) ∙ n in
    omega (arith, under, at)

own_sent : (line : ℕ) (beat : Bool) (first : ℕ) (u : Ticket) (p : Request) (h : List Event) → u.line ≡ line → u.beat ≡ beat → u.number ≡ first → IsOwn line beat first h → IsOwn line beat (first + 1) (Sent u p ∷ h)
own_sent line beat first u p h l b n k = record { alone = λ t r q x y. alone t r q x y; below = λ t r x. below t r x }
  where
    ticket : (t : Ticket) (r : Request) → Sent u p ≡ Sent t r → u ≡ t
    ticket t r e = cc

    alone : (t : Ticket) (r q : Request) → Has (Sent u p ∷ h) (Sent t r) → Has (Sent u p ∷ h) (Sent t q) → q ≡ r
    alone t r q (inl e) (inl f) = same (sym f ∙ e)
      where
        same : Sent t q ≡ Sent t r → q ≡ r
        same g = cc
    alone t r q (inl e) (inr j) = absurd (clash line beat first u t q h l b n (ticket t r e) k j)
    alone t r q (inr i) (inl f) = absurd (clash line beat first u t r h l b n (ticket t q f) k i)
    alone t r q (inr i) (inr j) = k.alone t r q i j

    below : (t : Ticket) (r : Request) → Has (Sent u p ∷ h) (Sent t r) → t.line ≡ line → t.beat ≡ beat → t.number < first + 1
    below t r (inl e) x y = let at : t.number ≡ first = sym (ap (λ (v : Ticket). v.number) (ticket t r e)) ∙ n in omega (arith, at)
    below t r (inr i) x y = let under = k.below t r i x y in omega (arith, under)

pub own_after : (line : ℕ) (beat : Bool) (first ask next next_ask : ℕ) (sends : List Errand) (h : List Event) → AreNumbered first ask sends next next_ask → IsOwn line beat first h → IsOwn line beat next (after line beat h sends)
own_after line beat first ask next next_ask [] h n k = subst (λ x. IsOwn line beat x h) (sym n.0) k
own_after line beat first ask next next_ask (Send i to r ∷ rs) h n k = own_after line beat (first + 1) ask next next_ask rs _ n.1 (own_sent line beat first _ r h refl refl n.0 k)
own_after line beat first ask next next_ask (Sleep i ms ∷ rs) h n k = own_after line beat (first + 1) ask next next_ask rs _ n.1 (own_other line beat (first + 1) _ h (λ t r e. cc) (own_raised first h k))
own_after line beat first ask next next_ask (Ask i ∷ rs) h n k = own_after line beat first (ask + 1) next next_ask rs _ n.1 (own_other line beat first _ h (λ t r e. cc) k)

pub own_heard : (a : Arrival) (o : Posted) (r : Request) (line : ℕ) (beat : Bool) (next : ℕ) (h : List Event) → IsOwn line beat next h → IsOwn line beat next ((told_by a o r).hear h)
own_heard (arrivals.Reply n x) o r line beat next h k = own_other line beat next _ h (λ u q e. cc) k
own_heard (arrivals.Lost n) o r line beat next h k = own_other line beat next _ h (λ u q e. cc) k
own_heard (arrivals.Slept n) o r line beat next h k = own_other line beat next _ h (λ u q e. cc) k
own_heard (arrivals.Time n x) o r line beat next h k = own_other line beat next _ h (λ u q e. cc) k
