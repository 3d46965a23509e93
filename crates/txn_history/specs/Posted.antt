-- What a call posts: requests, sleeps and asks for a timestamp, as its outbox holds them.
use Rattle.std.specs.Prelude.{◌≡◌, ℕ, ◌+◌, Bool, List, [], ◌∷◌, ◌++◌, refl}
use Rattle.std.proofs.Common.{inr, subst}
use Rattle.txn_kv.specs.declared.outbox.Errand.TheVariants.{Send, Sleep, Ask}
use Rattle.txn_kv.specs.declared.ticket.Ticket.{Ticket}
use Rattle.txn_kv.specs.declared.request.Request.{Request}
use Rattle.txn_history.specs.Event.{Event, Has}
use Rattle.txn_history.specs.Event.Event.{Sent, Began, Asked}
pub use Rattle.txn_kv.specs.declared.outbox.Errand.{Errand}
pub use Rattle.txn_kv.specs.Posted.{Posted, HasNumbers}

abbrev pub ticket_of : Posted → ℕ → Ticket
ticket_of o n = record { line = o.line; beat = o.beat; number = n }

-- the event that it makes, of this line or its heartbeat
abbrev pub posting : ℕ → Bool → Errand → Event
posting line beat (Send n to r) = Sent (record { line = line; beat = beat; number = n }) r
posting line beat (Sleep n ms) = Began (record { line = line; beat = beat; number = n }) ms
posting line beat (Ask n) = Asked (record { line = line; beat = beat; number = n })

-- the history once these are posted, the first of them first
abbrev pub after : ℕ → Bool → List Event → List Errand → List Event
after line beat h [] = h
after line beat h (r ∷ rs) = after line beat (posting line beat r ∷ h) rs

-- a request may be sent; a sleep and an ask always
abbrev pub MayPost : (List Event → Request → Type 0) → List Event → Errand → Type 0
MayPost may h (Send n to r) = may h r
MayPost may h (Sleep n ms) = Unit {0}
MayPost may h (Ask n) = Unit {0}

-- each of these may be posted, when those before it were
abbrev pub Licensed : (List Event → Request → Type 0) → ℕ → Bool → List Event → List Errand → Type 0
Licensed may line beat h [] = Unit {0}
Licensed may line beat h (r ∷ rs) = MayPost may h r × Licensed may line beat (posting line beat r ∷ h) rs

-- the numbers rise by one: those of requests and sleeps together, and those of asks
abbrev pub AreNumbered : ℕ → ℕ → List Errand → ℕ → ℕ → Type 0
AreNumbered first ask [] next next_ask = (next ≡ first) × (next_ask ≡ ask)
AreNumbered first ask (Send n to r ∷ rs) next next_ask = (n ≡ first) × AreNumbered (first + 1) ask rs next next_ask
AreNumbered first ask (Sleep n ms ∷ rs) next next_ask = (n ≡ first) × AreNumbered (first + 1) ask rs next next_ask
AreNumbered first ask (Ask n ∷ rs) next next_ask = (n ≡ ask) × AreNumbered first (ask + 1) rs next next_ask

-- each event of the first stands in the second
abbrev pub Within : List Event → List Event → Type 0
Within xs ys = (e : Event) → Has xs e → Has ys e

-- lemmas

pub Within-one : (e : Event) (h : List Event) → Within h (e ∷ h)
Within-one e h x i = inr i

pub Within-refl : (h : List Event) → Within h h
Within-refl h e i = i

pub Within-trans : (xs ys zs : List Event) → Within xs ys → Within ys zs → Within xs zs
Within-trans xs ys zs p q e i = q e (p e i)

pub Within-after : (line : ℕ) (beat : Bool) (h : List Event) (rs : List Errand) → Within h (after line beat h rs)
Within-after line beat h [] e i = i
Within-after line beat h (r ∷ rs) e i = Within-after line beat (posting line beat r ∷ h) rs e (inr i)

pub after-append : (line : ℕ) (beat : Bool) (h : List Event) (rs qs : List Errand) → after line beat h (rs ++ qs) ≡ after line beat (after line beat h rs) qs
after-append line beat h [] qs = refl
after-append line beat h (r ∷ rs) qs = after-append line beat (posting line beat r ∷ h) rs qs

MayPost-weaker : {may more : List Event → Request → Type 0} → ((h : List Event) (r : Request) → may h r → more h r)
    → (h : List Event) (r : Errand) → MayPost may h r → MayPost more h r
MayPost-weaker w h (Send n to r) m = w h r m
MayPost-weaker w h (Sleep n ms) m = tt
MayPost-weaker w h (Ask n) m = tt

-- what is licensed under less is licensed under more
pub Licensed-weaker : {may more : List Event → Request → Type 0} → ((h : List Event) (r : Request) → may h r → more h r)
    → (line : ℕ) (beat : Bool) (h : List Event) (rs : List Errand) → Licensed may line beat h rs → Licensed more line beat h rs
Licensed-weaker w line beat h [] l = tt
Licensed-weaker {may} {more} w line beat h (r ∷ rs) l = (MayPost-weaker {may = may} {more = more} w h r l.0, Licensed-weaker {may = may} {more = more} w line beat (posting line beat r ∷ h) rs l.1)

pub Licensed-append : (may : List Event → Request → Type 0) (line : ℕ) (beat : Bool) (h : List Event) (rs qs : List Errand)
    → Licensed may line beat h rs → Licensed may line beat (after line beat h rs) qs → Licensed may line beat h (rs ++ qs)
Licensed-append may line beat h [] qs l m = m
Licensed-append may line beat h (r ∷ rs) qs l m = (l.0, Licensed-append may line beat (posting line beat r ∷ h) rs qs l.1 m)

pub AreNumbered-append : (a a' b b' c c' : ℕ) (rs qs : List Errand) → AreNumbered a a' rs b b' → AreNumbered b b' qs c c' → AreNumbered a a' (rs ++ qs) c c'
AreNumbered-append a a' b b' c c' [] qs n m = subst (λ (y : ℕ). AreNumbered a y qs c c') n.1 (subst (λ (x : ℕ). AreNumbered x b' qs c c') n.0 m)
AreNumbered-append a a' b b' c c' (Send k to r ∷ rs) qs n m = (n.0, AreNumbered-append (a + 1) a' b b' c c' rs qs n.1 m)
AreNumbered-append a a' b b' c c' (Sleep k ms ∷ rs) qs n m = (n.0, AreNumbered-append (a + 1) a' b b' c c' rs qs n.1 m)
AreNumbered-append a a' b b' c c' (Ask k ∷ rs) qs n m = (n.0, AreNumbered-append a (a' + 1) b b' c c' rs qs n.1 m)
