-- What a line posts under free numbers.
use Rattle.std.proofs.Common.{◌≡◌, ℕ, ◌+◌, ◌<◌, ◌≤◌, inl, inr, Bool, List, [], ◌∷◌, refl, sym, ap, subst, subst₂, arith}
use Rattle.txn_kv.specs.declared.outbox.Errand.TheVariants.{Send, Sleep, Ask}
use Rattle.txn_kv.specs.declared.request.Request.{Request}
use Rattle.txn_kv.specs.declared.ticket.Ticket.{Ticket}
use Rattle.txn_history.specs.Event.{Event, Has}
use Rattle.txn_history.specs.Event.Event.{Sent, Began, Asked}
use Rattle.txn_history.specs.Licence.{IsLicensed}
use Rattle.txn_history.specs.Plan.{Plan}
use Rattle.txn_history.specs.Posted.{AreNumbered, Errand, Licensed, after, posting}
use Rattle.txn_law.specs.Run.{IsCovered, IsRun, IsUnused}
use Rattle.txn_trace.specs.Posting.{IsFreshFor, IsOf, PostsNothing}

-- the ticket of this number
abbrev pub numbered : ℕ → Bool → ℕ → Ticket
numbered line beat n = record { line = line; beat = beat; number = n }

-- Free numbers

pub fresh_on : (line : ℕ) (beat : Bool) (n a : ℕ) (e : Event) (h : List Event)
    → ((t : Ticket) (r : Request) → e ≡ Sent t r → IsOf line beat t → t.number < n)
    → ((t : Ticket) (ms : ℕ) → e ≡ Began t ms → IsOf line beat t → t.number < n)
    → ((t : Ticket) → e ≡ Asked t → IsOf line beat t → t.number < a)
    → IsFreshFor line beat n a h → IsFreshFor line beat n a (e ∷ h)
fresh_on line beat n a e h p q s f = record {
  sent = λ t r g w. elim g [ inl x ↦ p t r x w | inr b ↦ f.sent t r b w ];
  began = λ t ms g w. elim g [ inl x ↦ q t ms x w | inr b ↦ f.began t ms b w ];
  asked = λ t g w. elim g [ inl x ↦ s t x w | inr b ↦ f.asked t b w ];
}

pub fresh_higher : (line : ℕ) (beat : Bool) (h : List Event) (n a m b : ℕ) → n ≤ m → a ≤ b → IsFreshFor line beat n a h → IsFreshFor line beat m b h
fresh_higher line beat h n a m b low low_ask f = record {
  sent = λ t r g w. let x = f.sent t r g w in omega (arith, x, low);
  began = λ t ms g w. let x = f.began t ms g w in omega (arith, x, low);
  asked = λ t g w. let x = f.asked t g w in omega (arith, x, low_ask);
}

pub fresh_none : (line : ℕ) (beat : Bool) (n a : ℕ) → IsFreshFor line beat n a []
fresh_none line beat n a = record { sent = λ t r g w. absurd g; began = λ t ms g w. absurd g; asked = λ t g w. absurd g }

pub fresh_quiet : (line : ℕ) (beat : Bool) (h : List Event) (n a : ℕ) (e : Event) → PostsNothing e → IsFreshFor line beat n a h → IsFreshFor line beat n a (e ∷ h)
fresh_quiet line beat h n a e quiet f = fresh_on line beat n a e h (λ t r x w. absurd (subst PostsNothing x quiet)) (λ t ms x w. absurd (subst PostsNothing x quiet)) (λ t x w. absurd (subst PostsNothing x quiet)) f

-- a request, a sleep or an ask under the next number

pub sent_ticket : (t u : Ticket) (r q : Request) → Sent t r ≡ Sent u q → t ≡ u
sent_ticket t u r q e = cc

began_ticket : (t u : Ticket) (m k : ℕ) → Began t m ≡ Began u k → t ≡ u
began_ticket t u m k e = cc

asked_ticket : (t u : Ticket) → Asked t ≡ Asked u → t ≡ u
asked_ticket t u e = cc

same_number : (t u : Ticket) → t ≡ u → t.number ≡ u.number
same_number t u e = ap (λ (x : Ticket). x.number) e

pub fresh_sent : (line : ℕ) (beat : Bool) (n a k : ℕ) (r : Request) (h : List Event) → k ≡ n → IsFreshFor line beat n a h → IsFreshFor line beat (n + 1) a (Sent (numbered line beat k) r ∷ h)
fresh_sent line beat n a k r h e f = fresh_on line beat (n + 1) a (Sent (numbered line beat k) r) h
    (λ t q x w. let y = same_number (numbered line beat k) t (sent_ticket (numbered line beat k) t r q x) in omega (arith, y, e))
    (λ t ms x w. absurd (cc))
    (λ t x w. absurd (cc))
    (fresh_higher line beat h n a (n + 1) a (omega arith) (omega arith) f)

pub fresh_began : (line : ℕ) (beat : Bool) (n a k ms : ℕ) (h : List Event) → k ≡ n → IsFreshFor line beat n a h → IsFreshFor line beat (n + 1) a (Began (numbered line beat k) ms ∷ h)
fresh_began line beat n a k ms h e f = fresh_on line beat (n + 1) a (Began (numbered line beat k) ms) h
    (λ t q x w. absurd (cc))
    (λ t m x w. let y = same_number (numbered line beat k) t (began_ticket (numbered line beat k) t ms m x) in omega (arith, y, e))
    (λ t x w. absurd (cc))
    (fresh_higher line beat h n a (n + 1) a (omega arith) (omega arith) f)

pub fresh_asked : (line : ℕ) (beat : Bool) (n a k : ℕ) (h : List Event) → k ≡ a → IsFreshFor line beat n a h → IsFreshFor line beat n (a + 1) (Asked (numbered line beat k) ∷ h)
fresh_asked line beat n a k h e f = fresh_on line beat n (a + 1) (Asked (numbered line beat k)) h
    (λ t q x w. absurd (cc))
    (λ t m x w. absurd (cc))
    (λ t x w. let y = same_number (numbered line beat k) t (asked_ticket (numbered line beat k) t x) in omega (arith, y, e))
    (fresh_higher line beat h n a n (a + 1) (omega arith) (omega arith) f)

pub fresh_after : (line : ℕ) (beat : Bool) (h : List Event) (rs : List Errand) (n a n' a' : ℕ) → AreNumbered n a rs n' a' → IsFreshFor line beat n a h → IsFreshFor line beat n' a' (after line beat h rs)
fresh_after line beat h [] n a n' a' m f = subst₂ (λ x y. IsFreshFor line beat x y h) (sym m.0) (sym m.1) f
fresh_after line beat h (Send k to r ∷ rs) n a n' a' m f = fresh_after line beat (posting line beat (Send k to r) ∷ h) rs (n + 1) a n' a' m.1 (fresh_sent line beat n a k r h m.0 f)
fresh_after line beat h (Sleep k ms ∷ rs) n a n' a' m f = fresh_after line beat (posting line beat (Sleep k ms) ∷ h) rs (n + 1) a n' a' m.1 (fresh_began line beat n a k ms h m.0 f)
fresh_after line beat h (Ask k ∷ rs) n a n' a' m f = fresh_after line beat (posting line beat (Ask k) ∷ h) rs n (a + 1) n' a' m.1 (fresh_asked line beat n a k h m.0 f)

-- what another line posts

abbrev pub AreApart : ℕ → Bool → ℕ → Bool → Type 0
AreApart line beat other other_beat = (line ≡ other) × (beat ≡ other_beat) → ⊥

sent_of : (line : ℕ) (beat : Bool) (k : ℕ) (r q : Request) (u : Ticket) → Sent (numbered line beat k) r ≡ Sent u q → IsOf line beat u
sent_of line beat k r q u e = subst (IsOf line beat) (sent_ticket (numbered line beat k) u r q e) (refl, refl)

began_of : (line : ℕ) (beat : Bool) (k m ms : ℕ) (u : Ticket) → Began (numbered line beat k) m ≡ Began u ms → IsOf line beat u
began_of line beat k m ms u e = subst (IsOf line beat) (began_ticket (numbered line beat k) u m ms e) (refl, refl)

asked_of : (line : ℕ) (beat : Bool) (k : ℕ) (u : Ticket) → Asked (numbered line beat k) ≡ Asked u → IsOf line beat u
asked_of line beat k u e = subst (IsOf line beat) (asked_ticket (numbered line beat k) u e) (refl, refl)

of_two : (line other : ℕ) (beat other_beat : Bool) (u : Ticket) → AreApart line beat other other_beat → IsOf line beat u → IsOf other other_beat u → ⊥
of_two line other beat other_beat u apart x y = apart (let a = x.0 in let b = y.0 in cc, let a = x.1 in let b = y.1 in cc)

fresh_apart : (line other : ℕ) (beat other_beat : Bool) (h : List Event) (r : Errand) (n a : ℕ) → AreApart line beat other other_beat → IsFreshFor other other_beat n a h → IsFreshFor other other_beat n a (posting line beat r ∷ h)
fresh_apart line other beat other_beat h (Send k to r) n a apart f = fresh_on other other_beat n a (posting line beat (Send k to r)) h
    (λ t q x w. absurd (of_two line other beat other_beat t apart (sent_of line beat k r q t x) w))
    (λ t m x w. absurd (cc))
    (λ t x w. absurd (cc))
    f
fresh_apart line other beat other_beat h (Sleep k ms) n a apart f = fresh_on other other_beat n a (posting line beat (Sleep k ms)) h
    (λ t q x w. absurd (cc))
    (λ t m x w. absurd (of_two line other beat other_beat t apart (began_of line beat k ms m t x) w))
    (λ t x w. absurd (cc))
    f
fresh_apart line other beat other_beat h (Ask k) n a apart f = fresh_on other other_beat n a (posting line beat (Ask k)) h
    (λ t q x w. absurd (cc))
    (λ t m x w. absurd (cc))
    (λ t x w. absurd (of_two line other beat other_beat t apart (asked_of line beat k t x) w))
    f

pub fresh_others : (line other : ℕ) (beat other_beat : Bool) (h : List Event) (rs : List Errand) (n a : ℕ) → AreApart line beat other other_beat → IsFreshFor other other_beat n a h → IsFreshFor other other_beat n a (after line beat h rs)
fresh_others line other beat other_beat h [] n a apart f = f
fresh_others line other beat other_beat h (r ∷ rs) n a apart f = fresh_others line other beat other_beat (posting line beat r ∷ h) rs n a apart (fresh_apart line other beat other_beat h r n a apart f)

-- Runs

unused : (line : ℕ) (beat : Bool) (n a k : ℕ) (h : List Event) → k ≡ n → IsFreshFor line beat n a h → IsUnused h (numbered line beat k)
unused line beat n a k h e f r g = let x = f.sent (numbered line beat k) r g (refl, refl) in omega (arith, x, e)

unasked : (line : ℕ) (beat : Bool) (n a k : ℕ) (h : List Event) → k ≡ a → IsFreshFor line beat n a h → Has h (Asked (numbered line beat k)) → ⊥
unasked line beat n a k h e f g = let x = f.asked (numbered line beat k) g (refl, refl) in omega (arith, x, e)

-- it is licensed, where what was before it is a run
abbrev pub IsLicensedInRun : (ℕ → Plan) → List Event → Request → Type 0
IsLicensedInRun plans k r = IsRun plans k → IsCovered r × IsLicensed plans k r

pub posting_runs : (plans : ℕ → Plan) (line : ℕ) (beat : Bool) (h : List Event) (rs : List Errand) (n a n' a' : ℕ)
    → IsRun plans h → Licensed (IsLicensedInRun plans) line beat h rs → AreNumbered n a rs n' a' → IsFreshFor line beat n a h → IsRun plans (after line beat h rs)
posting_runs plans line beat h [] n a n' a' run l m f = run
posting_runs plans line beat h (Send k to r ∷ rs) n a n' a' run l m f =
    posting_runs plans line beat (posting line beat (Send k to r) ∷ h) rs (n + 1) a n' a' (unused line beat n a k h m.0 f, l.0 run, run) l.1 m.1 (fresh_sent line beat n a k r h m.0 f)
posting_runs plans line beat h (Sleep k ms ∷ rs) n a n' a' run l m f =
    posting_runs plans line beat (posting line beat (Sleep k ms) ∷ h) rs (n + 1) a n' a' (tt, tt, run) l.1 m.1 (fresh_began line beat n a k ms h m.0 f)
posting_runs plans line beat h (Ask k ∷ rs) n a n' a' run l m f =
    posting_runs plans line beat (posting line beat (Ask k) ∷ h) rs n (a + 1) n' a' (unasked line beat n a k h m.0 f, tt, run) l.1 m.1 (fresh_asked line beat n a k h m.0 f)
