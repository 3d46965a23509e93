-- What is in the mail came in order, and what comes next comes last.
use Rattle.std.proofs.Common.{◌≡◌, ℕ, zero, suc, ◌+◌, ◌<◌, ◌≤◌, ◌⊎◌, inl, inr, Bool, true, false, List, [], ◌∷◌, ◌++◌, Some, length, get_or, map, slice_get, nat_lt, refl, sym, ap, ◌∙◌, subst, arith, length-append}
use Rattle.std.proofs.lemmas.Bool.Decides.{nat_tests}
use Rattle.std.proofs.lemmas.List.Elements.{All-push}
use Rattle.std.specs.Option.{option_map}
use Rattle.txn_kv.specs.declared.ticket.Ticket.{Ticket}
use Rattle.txn_post.proofs.Naming.{IsElsewhere, IsHere, named_where, opened_lane}
use Rattle.txn_post.specs.Mail.{IsMail, Mail, lane, naming, no_mail, no_tickets, opened, places_of, ticket_at}
use Rattle.txn_post.specs.Mail as mails
use Rattle.txn_post.specs.declared.post.Place.{Place}
use Rattle.txn_post.specs.declared.post.Place.TheVariants.{Sent, Slept}
use Rattle.txn_side.specs.Sight.{ArePosted, Nexts, ticket_in}
use Rattle.txn_side.specs.declared.turn.Posting.{Posting}
use Rattle.txn_side.specs.declared.turn.Posting.TheVariants.{Send, Sleep}
use Rattle.txn_machine.specs.Lists.{all_posted, posted_at}
use Rattle.txn_machine.specs.Running.{AreNumbered, AreRising, CameInOrder, at_of}
use Rattle.txn_machine.proofs.Numbers.{length_raised, mail_one, next_in, numbered_one, or_last, or_old, used}

-- Lists that rise.

pub none_rises : (least most : ℕ) → AreRising least most []
none_rises least most = record { pairs = λ i j d lt below. absurd (omega arith); within = λ k d below. absurd (omega arith) }

pub rises_later : (least most more : ℕ) (xs : List ℕ) → most ≤ more → AreRising least most xs → AreRising least more xs
rises_later least most more xs le r = record { pairs = r.pairs; within = λ k d below. let w = r.within k d below in (w.0, let b = w.1 in omega arith) }

pub rises_on : (least most : ℕ) (xs : List ℕ) → least ≤ most → AreRising least most xs → AreRising least most (xs ++ most ∷ [])
rises_on least most xs le r = record { pairs = pairs; within = All-push (λ (a : ℕ). (least ≤ a) × (a ≤ most)) xs most r.within (le, omega arith) }
  where
    by : (i j d : ℕ) (b : Bool) → nat_lt j (length xs) ≡ b → i < j → j < length (xs ++ most ∷ []) → get_or (xs ++ most ∷ []) i d ≤ get_or (xs ++ most ∷ []) j d
    by i j d true e lt below =
        let inside : j < length xs = grind (arith, nat_tests) in
        rw (or_old xs most d i (omega arith), or_old xs most d j inside) (r.pairs i j d lt inside)
    by i j d false e lt below =
        let n = length-append xs (most ∷ []) in
        let far : length xs ≤ j = grind (arith, nat_tests) in
        let last : j ≡ length xs = omega arith in
        let inside : i < length xs = omega arith in
        rw (last, or_last xs most d, or_old xs most d i inside) (r.within i d inside).1

    pairs : (i j d : ℕ) → i < j → j < length (xs ++ most ∷ []) → get_or (xs ++ most ∷ []) i d ≤ get_or (xs ++ most ∷ []) j d
    pairs i j d lt below = by i j d (nat_lt j (length xs)) refl lt below

-- Lists whose elements are mapped.

mapped_on : {X Y : Type 0} (f : X → Y) (xs : List X) (x : X) → map f (xs ++ x ∷ []) ≡ map f xs ++ f x ∷ []
mapped_on f [] x = refl
mapped_on f (y ∷ xs) x = ap (λ ys. f y ∷ ys) (mapped_on f xs x)

mapped_same : {X Y : Type 0} (f g : X → Y) (xs : List X) → ((i : ℕ) (x : X) → slice_get xs i ≡ Some x → f x ≡ g x) → map f xs ≡ map g xs
mapped_same f g [] h = refl
mapped_same f g (x ∷ xs) h = ap (λ y. y ∷ map f xs) (h 0 x refl) ∙ ap (λ ys. g x ∷ ys) (mapped_same f g xs (λ i y e. h (suc i) y e))

-- what is told of an element stays so
or_mapped : {X Y : Type 0} (t : X → Y) (f : X → ℕ) (xs : List X) (x : X) (i : ℕ) (y : Y) → option_map t (slice_get xs i) ≡ Some y → get_or (map f (xs ++ x ∷ [])) i 0 ≡ get_or (map f xs) i 0
or_mapped t f [] x i y h = absurd (cc)
or_mapped t f (z ∷ xs) x zero y h = refl
or_mapped t f (z ∷ xs) x (suc i) y h = or_mapped t f xs x i y h

mapped_last : {X : Type 0} (f : X → ℕ) (xs : List X) (x : X) → get_or (map f (xs ++ x ∷ [])) (length xs) 0 ≡ f x
mapped_last f [] x = refl
mapped_last f (y ∷ xs) x = mapped_last f xs x

-- One that is posted.

-- the ticket of a place in the list of a line, or of its heartbeat
ticket_here : (mail : Mail) (b : Bool) (line i : ℕ) (p : Place) → IsMail mail → slice_get (places_of (lane b mail.tickets) line) i ≡ Some p → ticket_at mail p ≡ Some (record { line = line; beat = b; number = suc i })
ticket_here mail b line i p m h = m.named (record { line = line; beat = b; number = suc i }) p h

at_stays : (at : ℕ) (p : Posting) (mail : Mail) (q : Place) (t : Ticket) → ticket_at mail q ≡ Some t → at_of (posted_at at p mail) q ≡ at_of mail q
at_stays at (Send t to r askers) mail (Sent i) u h = or_mapped (λ s. s.ticket) (λ s. s.at) mail.sent (record { ticket = t; at = at; to = to; request = r; askers = askers }) i u h
at_stays at (Send t to r askers) mail (Slept i) u h = refl
at_stays at (Sleep t) mail (Sent i) u h = refl
at_stays at (Sleep t) mail (Slept i) u h = or_mapped (λ s. s.ticket) (λ s. s.at) mail.sleeps (record { ticket = t; at = at }) i u h

-- where it stands
abbrev place_by : Mail → Posting → Place
place_by mail (Send t to r askers) = Sent (length mail.sent)
place_by mail (Sleep t) = Slept (length mail.sleeps)

at_new : (at : ℕ) (p : Posting) (mail : Mail) → at_of (posted_at at p mail) (place_by mail p) ≡ at
at_new at (Send t to r askers) mail = mapped_last (λ s. s.at) mail.sent (record { ticket = t; at = at; to = to; request = r; askers = askers })
at_new at (Sleep t) mail = mapped_last (λ s. s.at) mail.sleeps (record { ticket = t; at = at })

named_so : (at : ℕ) (p : Posting) (mail : Mail) → (posted_at at p mail).tickets ≡ naming mail.tickets (ticket_in p).beat (ticket_in p).line (place_by mail p)
named_so at (Send t to r askers) mail = refl
named_so at (Sleep t) mail = refl

sent_rises : (at : ℕ) (p : Posting) (mail : Mail) → AreRising 0 at (map (λ s. s.at) mail.sent) → AreRising 0 at (map (λ s. s.at) (posted_at at p mail).sent)
sent_rises at (Send t to r askers) mail h = subst (λ xs. AreRising 0 at xs) (sym (mapped_on (λ s. s.at) mail.sent (record { ticket = t; at = at; to = to; request = r; askers = askers }))) (rises_on 0 at (map (λ s. s.at) mail.sent) (omega arith) h)
sent_rises at (Sleep t) mail h = h

sleeps_rise : (at : ℕ) (p : Posting) (mail : Mail) → AreRising 0 at (map (λ s. s.at) mail.sleeps) → AreRising 0 at (map (λ s. s.at) (posted_at at p mail).sleeps)
sleeps_rise at (Send t to r askers) mail h = h
sleeps_rise at (Sleep t) mail h = subst (λ xs. AreRising 0 at xs) (sym (mapped_on (λ s. s.at) mail.sleeps (record { ticket = t; at = at }))) (rises_on 0 at (map (λ s. s.at) mail.sleeps) (omega arith) h)

module _ (at : ℕ) (p : Posting) (mail : Mail) (next : mails.IsNext mail (ticket_in p)) (own : (ticket_in p).line ≤ at) (m : IsMail mail) (o : CameInOrder at mail) where
  ats_stay : (b : Bool) (n : ℕ) → map (λ q. at_of (posted_at at p mail) q) (places_of (lane b mail.tickets) n) ≡ map (λ q. at_of mail q) (places_of (lane b mail.tickets) n)
  ats_stay b n = mapped_same (λ q. at_of (posted_at at p mail) q) (λ q. at_of mail q) (places_of (lane b mail.tickets) n) (λ i q h. at_stays at p mail q (record { line = n; beat = b; number = suc i }) (ticket_here mail b n i q m h))

  lines_by : (b : Bool) (n : ℕ) → IsHere mail.tickets (ticket_in p) (place_by mail p) b n ⊎ IsElsewhere mail.tickets (ticket_in p) (place_by mail p) b n
      → AreRising n at (map (λ q. at_of (posted_at at p mail) q) (places_of (lane b (naming mail.tickets (ticket_in p).beat (ticket_in p).line (place_by mail p))) n))
  lines_by b n (inl here) =
      let now = ap (λ ps. map (λ q. at_of (posted_at at p mail) q) ps) here.places
      ∙ mapped_on (λ q. at_of (posted_at at p mail) q) (places_of (lane b mail.tickets) n) (place_by mail p)
      ∙ ap (λ xs. xs ++ at_of (posted_at at p mail) (place_by mail p) ∷ []) (ats_stay b n)
      ∙ ap (λ a. map (λ q. at_of mail q) (places_of (lane b mail.tickets) n) ++ a ∷ []) (at_new at p mail) in
      subst (λ xs. AreRising n at xs) (sym now) (rises_on n at (map (λ q. at_of mail q) (places_of (lane b mail.tickets) n)) (let e = here.line in omega arith) (o.lines b n))
  lines_by b n (inr there) = subst (λ xs. AreRising n at xs) (sym (ap (λ ps. map (λ q. at_of (posted_at at p mail) q) ps) there ∙ ats_stay b n)) (o.lines b n)

  pub order_one : CameInOrder at (posted_at at p mail)
  order_one = record {
    sent = sent_rises at p mail o.sent;
    sleeps = sleeps_rise at p mail o.sleeps;
    lines = λ b n. subst (λ ts. AreRising n at (map (λ q. at_of (posted_at at p mail) q) (places_of (lane b ts) n))) (sym (named_so at p mail)) (lines_by b n (named_where mail.tickets (ticket_in p) (place_by mail p) b n next.first next.last));
  }

-- All that is posted.

pub order_all : (at : ℕ) (ps : List Posting) (mail : Mail) (from to : Nexts) → ArePosted from ps to → AreNumbered mail.tickets from → ((b : Bool) → length (lane b mail.tickets) ≤ at) → IsMail mail → CameInOrder at mail → CameInOrder at (all_posted at ps mail)
order_all at [] mail from to h a few m o = o
order_all at (p ∷ ps) mail from to h a few m o =
    let next = next_in (ticket_in p) mail from h.0 a in
    let new = numbered_one at p mail from h.0 a in
    order_all at ps (posted_at at p mail) (used p from) to h.2 new
    (as_many new) (mail_one at p mail next m) (order_one at p mail next (let l = next.last in let f = few (ticket_in p).beat in omega arith) m o)
  where
    as_many : AreNumbered (posted_at at p mail).tickets (used p from) → (b : Bool) → length (lane b (posted_at at p mail).tickets) ≤ at
    as_many new b = let a1 = (new.lanes b).lines in let a2 = (a.lanes b).lines in let a3 = length_raised b (ticket_in p).beat (ticket_in p).line from in let f = few b in omega arith

-- A line more.

pub order_opened : (n : ℕ) (mail : Mail) → CameInOrder n mail → CameInOrder (n + 1) (opened mail)
order_opened n mail o = record {
  sent = rises_later 0 n (n + 1) (map (λ s. s.at) mail.sent) (omega arith) o.sent;
  sleeps = rises_later 0 n (n + 1) (map (λ s. s.at) mail.sleeps) (omega arith) o.sleeps;
  lines = λ b line. subst (λ ps. AreRising line (n + 1) (map (λ q. at_of mail q) ps)) (sym (opened_lane b mail.tickets line)) (rises_later line n (n + 1) (map (λ q. at_of mail q) (places_of (lane b mail.tickets) line)) (omega arith) (o.lines b line));
}

pub none_in_order : (n : ℕ) → CameInOrder n no_mail
none_in_order n = record {
  sent = none_rises 0 n;
  sleeps = none_rises 0 n;
  lines = no_lines;
}
  where
    no_lines : (b : Bool) (line : ℕ) → AreRising line n (map (λ q. at_of no_mail q) (places_of (lane b no_tickets) line))
    no_lines b zero = none_rises 0 n
    no_lines false (suc i) = none_rises (suc i) n
    no_lines true (suc i) = none_rises (suc i) n
