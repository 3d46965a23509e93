-- Requests are found by their tickets, and what is found stays.
use Rattle.std.proofs.Common.{◌≡◌, ℕ, zero, suc, ◌<◌, ◌≤◌, Bool, true, false, ◌&&◌, if◌then◌else◌, List, [], ◌∷◌, ◌++◌, Option, Some, None, slice_get, nat_eq, nat_lt, refl, ap, ◌∙◌, subst, arith}
use Rattle.std.proofs.lemmas.Bool.Decides.{nat_tests}
use Rattle.std.specs.Option.{option_map}
use Rattle.txn_kv.specs.declared.request.Request.{Request}
use Rattle.txn_kv.specs.declared.ticket.Ticket.{Ticket}
use Rattle.txn_history.specs.Event.{Event, bool_eq, same_ticket}
use Rattle.txn_history.specs.Event.Event.{Sent as SentEvent}
use Rattle.txn_post.specs.Mail.{IsMail, Mail, as_sent, place_of}
use Rattle.txn_post.specs.declared.post.Place.{Place}
use Rattle.txn_post.specs.declared.post.Place.TheVariants.{Sent, Slept}
use Rattle.txn_report.specs.declared.report.SentNote.{SentNote}
use Rattle.txn_side.specs.declared.turn.Posting.{Posting}
use Rattle.txn_side.specs.declared.turn.Posting.TheVariants.{Send, Sleep}
use Rattle.txn_machine.specs.Lists.{all_posted, posted_at}
use Rattle.txn_machine.specs.Script.{AllBefore, find, with_sends}

-- Tickets.

pub same_itself : (t : Ticket) → same_ticket t t ≡ true
same_itself t = by_beat t.beat refl
  where
    by_beat : (b : Bool) → t.beat ≡ b → same_ticket t t ≡ true
    by_beat true e = rw e (grind (arith, nat_tests))
    by_beat false e = rw e (grind (arith, nat_tests))

same_bool : (a b : Bool) → bool_eq a b ≡ true → a ≡ b
same_bool true true e = refl
same_bool true false e = absurd (cc)
same_bool false true e = absurd (cc)
same_bool false false e = refl

and_left : (a b : Bool) → a && b ≡ true → a ≡ true
and_left true b e = refl
and_left false b e = e

and_right : (a b : Bool) → a && b ≡ true → b ≡ true
and_right true b e = e
and_right false b e = absurd (cc)

pub same_is : (t u : Ticket) → same_ticket t u ≡ true → t ≡ u
same_is t u e =
    let first = and_left (nat_eq t.line u.line && bool_eq t.beat u.beat) (nat_eq t.number u.number) e in
    let number : nat_eq t.number u.number ≡ true = and_right (nat_eq t.line u.line && bool_eq t.beat u.beat) (nat_eq t.number u.number) e in
    let line : nat_eq t.line u.line ≡ true = and_left (nat_eq t.line u.line) (bool_eq t.beat u.beat) first in
    let beat = same_bool t.beat u.beat (and_right (nat_eq t.line u.line) (bool_eq t.beat u.beat) first) in
    let a : t.line ≡ u.line = grind (arith, nat_tests) in
    let b : t.number ≡ u.number = grind (arith, nat_tests) in
    λ i. record { line = a i; beat = beat i; number = b i }

-- Where the mail has it.

abbrev ticket_of : List SentNote → ℕ → Option Ticket
ticket_of ss k = option_map (λ (s : SentNote). s.ticket) (slice_get ss k)

abbrev pub request_of : List SentNote → ℕ → Option Request
request_of ss k = option_map (λ (s : SentNote). s.request) (slice_get ss k)

abbrev pub request_by : List SentNote → Option ℕ → Option Request
request_by ss None = None
request_by ss (Some k) = request_of ss k

-- the request that a ticket names
abbrev pub looked_up : Mail → Ticket → Option Request
looked_up mail t = request_by mail.sent (as_sent (place_of mail.tickets t))

find_none : (ss : List SentNote) (n : ℕ) (t : Ticket) → ((k : ℕ) → ticket_of ss k ≡ Some t → ⊥) → find ss n t ≡ None
find_none [] n t no_place = refl
find_none (s ∷ ss) n t no_place = by (same_ticket s.ticket t) refl (find_none ss n t (λ k h. no_place (suc k) h))
  where
    by : (b : Bool) → same_ticket s.ticket t ≡ b → find ss n t ≡ None → (if b && nat_lt s.at n then Some s.request else find ss n t) ≡ None
    by true e more = absurd (no_place 0 (ap (λ u. Some u) (same_is s.ticket t e)))
    by false e more = more

both : (a b : Bool) (x y : Option Request) → a ≡ true → b ≡ true → (if a && b then x else y) ≡ x
both true true x y e f = refl
both true false x y e f = absurd (cc)
both false true x y e f = absurd (cc)
both false false x y e f = absurd (cc)

find_at : (ss : List SentNote) (n k : ℕ) (t : Ticket) → AllBefore n ss → ticket_of ss k ≡ Some t → ((j : ℕ) → ticket_of ss j ≡ Some t → j ≡ k) → find ss n t ≡ request_of ss k
find_at [] n k t a h one = absurd (cc)
find_at (s ∷ ss) n zero t a h one =
    let is : s.ticket ≡ t = cc in
    let x : same_ticket s.ticket t ≡ true = subst (λ u. same_ticket s.ticket u ≡ true) is (same_itself s.ticket) in
    let l = a.0 in
    let y : nat_lt s.at n ≡ true = grind (arith, nat_tests) in
    both (same_ticket s.ticket t) (nat_lt s.at n) (Some s.request) (find ss n t) x y
find_at (s ∷ ss) n (suc k) t a h one = by (same_ticket s.ticket t) refl (find_at ss n k t a.1 h (λ j g. let e = one (suc j) g in omega arith))
  where
    by : (b : Bool) → same_ticket s.ticket t ≡ b → find ss n t ≡ request_of ss k → (if b && nat_lt s.at n then Some s.request else find ss n t) ≡ request_of ss k
    by true e more = absurd (let z = one 0 (ap (λ u. Some u) (same_is s.ticket t e)) in omega arith)
    by false e more = more

pub found_by : (mail : Mail) (n : ℕ) (t : Ticket) → IsMail mail → AllBefore n mail.sent → find mail.sent n t ≡ looked_up mail t
found_by mail n t m a = by (place_of mail.tickets t) refl
  where
    by : (o : Option Place) → place_of mail.tickets t ≡ o → find mail.sent n t ≡ request_by mail.sent (as_sent o)
    by None e = find_none mail.sent n t (λ k h. let f = m.found t (Sent k) h in cc)
    by (Some (Slept j)) e = find_none mail.sent n t (λ k h. let f = m.found t (Sent k) h in cc)
    by (Some (Sent k)) e = find_at mail.sent n k t a (m.named t (Sent k) e) (λ j h. let f = m.found t (Sent j) h in cc)

some_request : (ss : List SentNote) (k : ℕ) (t : Ticket) → ticket_of ss k ≡ Some t → (s : SentNote) × (slice_get ss k ≡ Some s)
some_request [] k t h = absurd (cc)
some_request (s ∷ ss) zero t h = (s, refl)
some_request (s ∷ ss) (suc k) t h = some_request ss k t h

-- what a ticket names was sent
pub sent_there : (mail : Mail) (t : Ticket) (k : ℕ) → IsMail mail → as_sent (place_of mail.tickets t) ≡ Some k → (s : SentNote) × (slice_get mail.sent k ≡ Some s)
sent_there mail t k m h = by (place_of mail.tickets t) refl h
  where
    by : (o : Option Place) → place_of mail.tickets t ≡ o → as_sent o ≡ Some k → (s : SentNote) × (slice_get mail.sent k ≡ Some s)
    by None e g = absurd (cc)
    by (Some (Slept j)) e g = absurd (cc)
    by (Some (Sent j)) e g = some_request mail.sent k t (m.named t (Sent k) (let same : j ≡ k = cc in subst (λ i. place_of mail.tickets t ≡ Some (Sent i)) same e))

-- What is sent in the step of line `at`.

-- a note that is sent at line n or later says nothing before n
find_push : (ns : List SentNote) (s : SentNote) (n : ℕ) (t : Ticket) → n ≤ s.at → find (ns ++ s ∷ []) n t ≡ find ns n t
find_push [] s n t h =
    let e : nat_lt s.at n ≡ false = grind (arith, nat_tests) in
    rw e (at_false (same_ticket s.ticket t))
  where
    at_false : (b : Bool) → ◌≡◌ {A = Option Request} (if b && false then Some s.request else None) None
    at_false true = refl
    at_false false = refl
find_push (m ∷ ns) s n t h = ap (λ (z : Option Request). if same_ticket m.ticket t && nat_lt m.at n then Some m.request else z) (find_push ns s n t h)

pub sends_push : (ns : List SentNote) (s : SentNote) (n : ℕ) (es : List Event) → with_sends (ns ++ s ∷ []) n es ≡ (if nat_eq s.at n then SentEvent s.ticket s.request ∷ with_sends ns n es else with_sends ns n es)
sends_push [] s n es = refl
sends_push (m ∷ ns) s n es = sends_push ns s n (if nat_eq m.at n then SentEvent m.ticket m.request ∷ es else es)

sends_apart : (ns : List SentNote) (s : SentNote) (n : ℕ) (es : List Event) → n < s.at → with_sends (ns ++ s ∷ []) n es ≡ with_sends ns n es
sends_apart ns s n es h =
    let apart : nat_eq s.at n ≡ false = grind (arith, nat_tests) in
    sends_push ns s n es ∙ ap (λ (b : Bool). if b then SentEvent s.ticket s.request ∷ with_sends ns n es else with_sends ns n es) apart

all_push : (n : ℕ) (ns : List SentNote) (s : SentNote) → AllBefore n ns → s.at < n → AllBefore n (ns ++ s ∷ [])
all_push n [] s a h = (h, tt)
all_push n (m ∷ ns) s a h = (a.0, all_push n ns s a.1 h)

pub all_more : (n : ℕ) (ns : List SentNote) → AllBefore n ns → AllBefore (suc n) ns
all_more n [] a = tt
all_more n (m ∷ ns) a = let h = a.0 in (omega arith, all_more n ns a.1)

pub posted_finds : (at : ℕ) (ps : List Posting) (mail : Mail) (j : ℕ) (t : Ticket) → j ≤ at → find (all_posted at ps mail).sent j t ≡ find mail.sent j t
posted_finds at [] mail j t h = refl
posted_finds at (p ∷ ps) mail j t h = posted_finds at ps (posted_at at p mail) j t h ∙ one p
  where
    one : (q : Posting) → find (posted_at at q mail).sent j t ≡ find mail.sent j t
    one (Send u to r askers) = find_push mail.sent (record { ticket = u; at = at; to = to; request = r; askers = askers }) j t h
    one (Sleep u) = refl

pub posted_sends : (at : ℕ) (ps : List Posting) (mail : Mail) (j : ℕ) (es : List Event) → j < at → with_sends (all_posted at ps mail).sent j es ≡ with_sends mail.sent j es
posted_sends at [] mail j es h = refl
posted_sends at (p ∷ ps) mail j es h = posted_sends at ps (posted_at at p mail) j es h ∙ one p
  where
    one : (q : Posting) → with_sends (posted_at at q mail).sent j es ≡ with_sends mail.sent j es
    one (Send u to r askers) = sends_apart mail.sent (record { ticket = u; at = at; to = to; request = r; askers = askers }) j es h
    one (Sleep u) = refl

pub posted_before : (at : ℕ) (ps : List Posting) (mail : Mail) (n : ℕ) → at < n → AllBefore n mail.sent → AllBefore n (all_posted at ps mail).sent
posted_before at [] mail n h a = a
posted_before at (p ∷ ps) mail n h a = posted_before at ps (posted_at at p mail) n h (one p)
  where
    one : (q : Posting) → AllBefore n (posted_at at q mail).sent
    one (Send u to r askers) = all_push n mail.sent (record { ticket = u; at = at; to = to; request = r; askers = askers }) a h
    one (Sleep u) = a
