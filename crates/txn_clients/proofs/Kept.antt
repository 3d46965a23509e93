-- The history that a row keeps of its own.
use Rattle.std.proofs.Common.{◌≡◌, ◌⊎◌, inl, inr, ℕ, ◌+◌, ◌<◌, ◌≤◌, Bool, true, false, List, [], ◌∷◌, length, ◌||◌, refl, sym, ap, ◌∙◌, subst, arith}
use Rattle.std.specs.List.{list_any}
use Rattle.txn_kv.specs.declared.outbox.Errand.TheVariants.{Send, Sleep, Ask}
use Rattle.txn_kv.specs.declared.reply.Reply as reply
use Rattle.txn_kv.specs.declared.request.Request.{Request}
use Rattle.txn_kv.specs.declared.ticket.Ticket.{Ticket}
use Rattle.txn_history.specs.Among.{IsAmong}
use Rattle.txn_history.specs.Event.{Event, Has, same_ticket}
use Rattle.txn_history.specs.Event.Event.{Sent, Served, Took, Refused, Lost, Began, Slept, Asked, Answered, Crashed, Split, Led, Clocked}
use Rattle.txn_history.specs.Plan.{Plan}
use Rattle.txn_history.specs.Posted.{AreNumbered, Errand, Posted, after}
use Rattle.txn_history.specs.Arrivals.{told_by}
use Rattle.txn_kv.specs.declared.arrival.Arrival.{Arrival}
use Rattle.txn_kv.specs.declared.arrival.Arrival.TheVariants as arrivals
use Rattle.txn_commit.specs.Following.{Commits, KnowsCommits, is_out}
use Rattle.txn_commit.proofs.Following.{ticket_is, ticket_itself}
use Rattle.txn_side.specs.Sight.{next_at}
use Rattle.txn_clients.specs.Waiting.{IsKept, IsRisen}

-- where none is left
pub nil_so : {X : Type 0} (xs : List X) → length xs ≡ 0 → xs ≡ []
nil_so [] e = refl
nil_so (x ∷ xs) e = absurd (omega (arith, e))

-- Whether a request was sent with a ticket.

falsely : {X : Type 0} → false ≡ true → X
falsely e = absurd (cc)

sent_here : (e : Event) (t : Ticket) → ((r : Request) × (e ≡ Sent t r)) ⊎ ((r : Request) → e ≡ Sent t r → ⊥)
sent_here (Sent u q) t = by (same_ticket u t) refl
  where
    by : (b : Bool) → same_ticket u t ≡ b → ((r : Request) × (Sent u q ≡ Sent t r)) ⊎ ((r : Request) → Sent u q ≡ Sent t r → ⊥)
    by true h = inl (q, ap (λ v. Sent v q) (ticket_is u t h))
    by false h = inr (λ r e. falsely (sym h ∙ ap (λ v. same_ticket v t) (same e) ∙ ticket_itself t))
      where
        same : {r : Request} → Sent u q ≡ Sent t r → u ≡ t
        same e = cc
sent_here (Served u q x) t = inr (λ r e. cc)
sent_here (Took u q x) t = inr (λ r e. cc)
sent_here (Refused u q x) t = inr (λ r e. cc)
sent_here (Lost u q) t = inr (λ r e. cc)
sent_here (Began u ms) t = inr (λ r e. cc)
sent_here (Slept u) t = inr (λ r e. cc)
sent_here (Asked u) t = inr (λ r e. cc)
sent_here (Answered u x) t = inr (λ r e. cc)
sent_here (Crashed c) t = inr (λ r e. cc)
sent_here (Split k) t = inr (λ r e. cc)
sent_here (Led r s) t = inr (λ r e. cc)
sent_here (Clocked ms) t = inr (λ r e. cc)

pub sent_or_not : (h : List Event) (t : Ticket) → ((r : Request) × Has h (Sent t r)) ⊎ ((r : Request) → Has h (Sent t r) → ⊥)
sent_or_not [] t = inr (λ r i. i)
sent_or_not (e ∷ h) t = by (sent_here e t) (sent_or_not h t)
  where
    by : ((r : Request) × (e ≡ Sent t r)) ⊎ ((r : Request) → e ≡ Sent t r → ⊥) → ((r : Request) × Has h (Sent t r)) ⊎ ((r : Request) → Has h (Sent t r) → ⊥)
        → ((r : Request) × Has (e ∷ h) (Sent t r)) ⊎ ((r : Request) → Has (e ∷ h) (Sent t r) → ⊥)
    by (inl (r, x)) later = inl (r, inl x)
    by (inr other) (inl (r, x)) = inl (r, inr x)
    by (inr other) (inr never) = inr (λ r i. elim i [ inl x ↦ other r x | inr y ↦ never r y ])

-- what is out of the Commits was sent
pub out_among : (t : Ticket) (ts : List Ticket) → list_any (λ u. same_ticket u t) ts ≡ true → IsAmong ts t
out_among t [] h = falsely h
out_among t (x ∷ ts) h = by (same_ticket x t) refl h (out_among t ts)
  where
    by : (b : Bool) → same_ticket x t ≡ b → (b || list_any (λ u. same_ticket u t) ts) ≡ true → (list_any (λ u. same_ticket u t) ts ≡ true → IsAmong ts t) → IsAmong (x ∷ ts) t
    by true e g later = inl (ticket_is x t e)
    by false e g later = inr (later g)

pub none_out : (plan : Plan) (s : ℕ) (c : Commits) (h : List Event) (t : Ticket) → KnowsCommits plan s c h → ((r : Request) → Has h (Sent t r) → ⊥) → is_out t c ≡ false
none_out plan s c h t k never = by (is_out t c) refl
  where
    by : (b : Bool) → is_out t c ≡ b → b ≡ false
    by true e = let w = k.waiting t (out_among t c.out e) in absurd (never _ w.1)
    by false e = refl

-- What is kept as a history grows.

pub kept_risen : (nexts news : List ℕ) (h : List Event) → IsRisen nexts news → IsKept nexts h → IsKept news h
kept_risen nexts news h risen k = record {
  alone = k.alone;
  below = λ t r i. let b = k.below t r i in let up = risen t.line in omega (arith, b, up);
}

pub kept_nothing : (nexts : List ℕ) → IsKept nexts []
kept_nothing nexts = record { alone = λ t r q x y. absurd x; below = λ t r x. absurd x }

kept_other : (nexts : List ℕ) (e : Event) (h : List Event) → ((t : Ticket) (r : Request) → e ≡ Sent t r → ⊥) → IsKept nexts h → IsKept nexts (e ∷ h)
kept_other nexts e h other k = record {
  alone = λ t r q x y. alone t r q x y;
  below = λ t r x. elim x [ inl f ↦ absurd (other t r f) | inr i ↦ k.below t r i ];
}
  where
    alone : (t : Ticket) (r q : Request) → Has (e ∷ h) (Sent t r) → Has (e ∷ h) (Sent t q) → q ≡ r
    alone t r q (inl f) y = absurd (other t r f)
    alone t r q (inr i) (inl f) = absurd (other t q f)
    alone t r q (inr i) (inr j) = k.alone t r q i j

-- a history that begins with what was taken
pub kept_took : (nexts : List ℕ) (t : Ticket) (r : Request) (x : reply.Reply) → IsKept nexts (Took t r x ∷ [])
kept_took nexts t r x = kept_other nexts (Took t r x) [] (λ u q e. cc) (kept_nothing nexts)

pub kept_heard : (a : Arrival) (o : Posted) (r : Request) (nexts : List ℕ) (h : List Event) → IsKept nexts h → IsKept nexts ((told_by a o r).hear h)
kept_heard (arrivals.Reply n x) o r nexts h k = kept_other nexts _ h (λ u q e. cc) k
kept_heard (arrivals.Lost n) o r nexts h k = kept_other nexts _ h (λ u q e. cc) k
kept_heard (arrivals.Slept n) o r nexts h k = kept_other nexts _ h (λ u q e. cc) k
kept_heard (arrivals.Time n x) o r nexts h k = kept_other nexts _ h (λ u q e. cc) k

-- tickets are below the next of their lines, or below a further number of this line
record IsBelow (nexts : List ℕ) (line first : ℕ) (h : List Event) : Type 0 where
  pub alone : (t : Ticket) (r q : Request) → Has h (Sent t r) → Has h (Sent t q) → q ≡ r
  pub below : (t : Ticket) (r : Request) → Has h (Sent t r) → (t.number < next_at nexts t.line) ⊎ ((t.line ≡ line) × (t.number < first))

clash : (nexts : List ℕ) (line first : ℕ) (u t : Ticket) (q : Request) (h : List Event) → next_at nexts line ≤ first → u.line ≡ line → u.number ≡ first → u ≡ t → IsBelow nexts line first h → Has h (Sent t q) → ⊥
clash nexts line first u t q h low own number e b i = by (b.below t q i)
  where
    at : t.number ≡ first
    at = sym (ap (λ (v : Ticket). v.number) e) ∙ number

    of : next_at nexts t.line ≡ next_at nexts line
    of = ap (next_at nexts) (sym (ap (λ (v : Ticket). v.line) e) ∙ own)

    by : (t.number < next_at nexts t.line) ⊎ ((t.line ≡ line) × (t.number < first)) → ⊥
    by (inl l) = let m = at in let n = of in omega (arith, l, m, n, low)
    by (inr l) = let m = at in let k = l.1 in omega (arith, k, m)

below_sent : (nexts : List ℕ) (line first : ℕ) (u : Ticket) (p : Request) (h : List Event) → next_at nexts line ≤ first → u.line ≡ line → u.number ≡ first → IsBelow nexts line first h → IsBelow nexts line (first + 1) (Sent u p ∷ h)
below_sent nexts line first u p h low own number b = record { alone = λ t r q x y. alone t r q x y; below = λ t r x. below t r x }
  where
    ticket : (t : Ticket) (r : Request) → Sent u p ≡ Sent t r → u ≡ t
    ticket t r e = cc

    alone : (t : Ticket) (r q : Request) → Has (Sent u p ∷ h) (Sent t r) → Has (Sent u p ∷ h) (Sent t q) → q ≡ r
    alone t r q (inl e) (inl f) = same (sym f ∙ e)
      where
        same : Sent t q ≡ Sent t r → q ≡ r
        same g = cc
    alone t r q (inl e) (inr j) = absurd (clash nexts line first u t q h low own number (ticket t r e) b j)
    alone t r q (inr i) (inl f) = absurd (clash nexts line first u t r h low own number (ticket t q f) b i)
    alone t r q (inr i) (inr j) = b.alone t r q i j

    below : (t : Ticket) (r : Request) → Has (Sent u p ∷ h) (Sent t r) → (t.number < next_at nexts t.line) ⊎ ((t.line ≡ line) × (t.number < first + 1))
    below t r (inl e) = let at : t.number ≡ first = sym (ap (λ (v : Ticket). v.number) (ticket t r e)) ∙ number in inr (sym (ap (λ (v : Ticket). v.line) (ticket t r e)) ∙ own, omega (arith, at))
    below t r (inr i) = more (b.below t r i)
      where
        more : (t.number < next_at nexts t.line) ⊎ ((t.line ≡ line) × (t.number < first)) → (t.number < next_at nexts t.line) ⊎ ((t.line ≡ line) × (t.number < first + 1))
        more (inl l) = inl l
        more (inr l) = let k = l.1 in inr (l.0, omega (arith, k))

below_other : (nexts : List ℕ) (line first next : ℕ) (e : Event) (h : List Event) → ((t : Ticket) (r : Request) → e ≡ Sent t r → ⊥) → first ≤ next → IsBelow nexts line first h → IsBelow nexts line next (e ∷ h)
below_other nexts line first next e h other up b = record { alone = λ t r q x y. alone t r q x y; below = λ t r x. below t r x }
  where
    alone : (t : Ticket) (r q : Request) → Has (e ∷ h) (Sent t r) → Has (e ∷ h) (Sent t q) → q ≡ r
    alone t r q (inl f) y = absurd (other t r f)
    alone t r q (inr i) (inl f) = absurd (other t q f)
    alone t r q (inr i) (inr j) = b.alone t r q i j

    below : (t : Ticket) (r : Request) → Has (e ∷ h) (Sent t r) → (t.number < next_at nexts t.line) ⊎ ((t.line ≡ line) × (t.number < next))
    below t r (inl f) = absurd (other t r f)
    below t r (inr i) = more (b.below t r i)
      where
        more : (t.number < next_at nexts t.line) ⊎ ((t.line ≡ line) × (t.number < first)) → (t.number < next_at nexts t.line) ⊎ ((t.line ≡ line) × (t.number < next))
        more (inl l) = inl l
        more (inr l) = let k = l.1 in inr (l.0, omega (arith, k, up))

below_after : (nexts : List ℕ) (line : ℕ) (beat : Bool) (first ask next next_ask : ℕ) (sends : List Errand) (h : List Event) → next_at nexts line ≤ first → AreNumbered first ask sends next next_ask → IsBelow nexts line first h → IsBelow nexts line next (after line beat h sends)
below_after nexts line beat first ask next next_ask [] h low n b = subst (λ k. IsBelow nexts line k h) (sym n.0) b
below_after nexts line beat first ask next next_ask (Send k to r ∷ rs) h low n b = below_after nexts line beat (first + 1) ask next next_ask rs _ (omega (arith, low)) n.1 (below_sent nexts line first _ r h low refl n.0 b)
below_after nexts line beat first ask next next_ask (Sleep k ms ∷ rs) h low n b = below_after nexts line beat (first + 1) ask next next_ask rs _ (omega (arith, low)) n.1 (below_other nexts line first (first + 1) _ h (λ t r e. cc) (omega arith) b)
below_after nexts line beat first ask next next_ask (Ask k ∷ rs) h low n b = below_after nexts line beat first (ask + 1) next next_ask rs _ low n.1 (below_other nexts line first first _ h (λ t r e. cc) (omega arith) b)

-- and as errands are posted, under numbers from the next of the line on
pub kept_posted : (nexts news : List ℕ) (line : ℕ) (beat : Bool) (first ask next next_ask : ℕ) (sends : List Errand) (h : List Event) → next_at nexts line ≤ first → AreNumbered first ask sends next next_ask → IsRisen nexts news → next ≤ next_at news line
    → IsKept nexts h → IsKept news (after line beat h sends)
kept_posted nexts news line beat first ask next next_ask sends h low n risen up k = record { alone = grown.alone; below = λ t r i. by t (grown.below t r i) }
  where
    grown : IsBelow nexts line next (after line beat h sends)
    grown = below_after nexts line beat first ask next next_ask sends h low n (record { alone = k.alone; below = λ t r i. inl (k.below t r i) })

    by : (t : Ticket) → (t.number < next_at nexts t.line) ⊎ ((t.line ≡ line) × (t.number < next)) → t.number < next_at news t.line
    by t (inl l) = let more = risen t.line in omega (arith, l, more)
    by t (inr l) = let k = l.1 in let e : next_at news t.line ≡ next_at news line = ap (next_at news) l.0 in omega (arith, k, e, up)
