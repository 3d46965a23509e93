-- What a report notes, from what the mail keeps.
use Rattle.std.proofs.Common.{◌≡◌, ◌≢◌, ℕ, zero, suc, ◌-◌, ◌<◌, ◌≤◌, inl, inr, Bool, true, false, List, [], ◌∷◌, Option, Some, None, length, get_or, map, slice_get, nat_lt, refl, sym, ap, ◌∙◌, subst, arith, All, AllPairs}
use Rattle.std.proofs.lemmas.Bool.Decides.{nat_tests}
use Rattle.std.specs.Option.{option_map}
use Rattle.txn_kv.specs.declared.ticket.Ticket.{Ticket}
use Rattle.txn_history.specs.Among.{IsAmong}
use Rattle.txn_post.specs.Mail.{IsMail, Mail, Tickets, lane, place_in, place_of, places_of, ticket_at}
use Rattle.txn_post.specs.declared.post.Place.{Place}
use Rattle.txn_post.specs.declared.post.Place.TheVariants.{Sent, Slept}
use Rattle.txn_report.specs.declared.report.SentNote.{SentNote}
use Rattle.txn_report.specs.declared.report.SleepNote.{SleepNote}
use Rattle.txn_side.specs.Waiting.{Awaited}
use Rattle.txn_machine.specs.Lists.{newest}
use Rattle.txn_machine.specs.Notes.{AreNoted, HasSlept, IsNoted, WasSent}
use Rattle.txn_lines.specs.declared.line.Line.{Line}
use Rattle.txn_side.specs.Sight.{AskFor, Sight}
use Rattle.txn_machine.specs.Running.{AreRising, CameInOrder, HasMemory, StandsFor, at_of, lists_of}
use Rattle.txn_machine.specs.declared.machine.Machine.{Machine}

-- Elements by their places.

pub among_at : {X : Type 0} (xs : List X) (x : X) → IsAmong xs x → (i : ℕ) × (slice_get xs i ≡ Some x)
among_at [] x h = absurd h
among_at (y ∷ ys) x (inl e) = (0, ap (λ z. Some z) e)
among_at (y ∷ ys) x (inr h) = let r = among_at ys x h in (suc r.0, r.1)

at_among : {X : Type 0} (xs : List X) (i : ℕ) (x : X) → slice_get xs i ≡ Some x → IsAmong xs x
at_among [] i x h = absurd (cc)
at_among (y ∷ ys) zero x h = inl (cc)
at_among (y ∷ ys) (suc i) x h = inr (at_among ys i x h)

told_at : {X Y : Type 0} (f : X → Y) (o : Option X) (y : Y) → option_map f o ≡ Some y → (x : X) × (o ≡ Some x) × (f x ≡ y)
told_at f None y h = absurd (cc)
told_at f (Some x) y h = (x, refl, cc)

or_told : {X : Type 0} (f : X → ℕ) (xs : List X) (i d : ℕ) (x : X) → slice_get xs i ≡ Some x → get_or (map f xs) i d ≡ f x
or_told f [] i d x h = absurd (cc)
or_told f (y ∷ ys) zero d x h = ap (λ z. f z) (let e : y ≡ x = cc in e)
or_told f (y ∷ ys) (suc i) d x h = or_told f ys i d x h

pub there_is : {X : Type 0} (xs : List X) (i : ℕ) (d : X) → i < length xs → slice_get xs i ≡ Some (get_or xs i d)
there_is [] i d h = absurd (omega arith)
there_is (y ∷ ys) zero d h = refl
there_is (y ∷ ys) (suc i) d h = there_is ys i d (omega arith)

is_within : {X : Type 0} (xs : List X) (i : ℕ) (x : X) → slice_get xs i ≡ Some x → i < length xs
is_within [] i x h = absurd (cc)
is_within (y ∷ ys) zero x h = omega arith
is_within (y ∷ ys) (suc i) x h = let l = is_within ys i x h in omega arith

some_at : {X : Type 0} (xs : List X) (i : ℕ) → i < length xs → (x : X) × (slice_get xs i ≡ Some x)
some_at [] i h = absurd (omega arith)
some_at (y ∷ ys) zero h = (y, refl)
some_at (y ∷ ys) (suc i) h = some_at ys i (omega arith)

as_many : {X : Type 0} (f : X → ℕ) (xs : List X) → length (map f xs) ≡ length xs
as_many f [] = refl
as_many f (x ∷ xs) = ap (λ n. suc n) (as_many f xs)

-- those that rise by what is told of them
pairs_rise : {X : Type 0} (f : X → ℕ) (least most : ℕ) (xs : List X) → AreRising least most (map f xs) → AllPairs (λ (a b : X). f a ≤ f b) xs
pairs_rise f least most xs r i j d lt below =
    let n = as_many f xs in
    let a = or_told f xs i 0 (get_or xs i d) (there_is xs i d (omega arith)) in
    let b = or_told f xs j 0 (get_or xs j d) (there_is xs j d below) in
    let h = r.pairs i j 0 lt (omega arith) in
    omega (arith, a, b, h)

-- Where a ticket leads.

pub record Leads (tickets : Tickets) (t : Ticket) (p : Place) : Type 0 where
  pub line : 1 ≤ t.line
  pub number : 1 ≤ t.number
  pub here : slice_get (places_of (lane t.beat tickets) t.line) (t.number - 1) ≡ Some p

leads : (tickets : Tickets) (t : Ticket) (p : Place) → place_of tickets t ≡ Some p → Leads tickets t p
leads tickets t p h = let n = number_by (places_of (lane t.beat tickets) t.line) t.number h in record { line = line_by (lane t.beat tickets) t.line (t.number - 1) n.1; number = n.0; here = n.1 }
  where
    number_by : (ps : List Place) (n : ℕ) → place_in ps n ≡ Some p → (1 ≤ n) × (slice_get ps (n - 1) ≡ Some p)
    number_by ps zero e = absurd (cc)
    number_by ps (suc n) e = (omega arith, let same : suc n - 1 ≡ n = omega arith in rw same e)

    line_by : (lines : List (List Place)) (n k : ℕ) → slice_get (places_of lines n) k ≡ Some p → 1 ≤ n
    line_by lines zero k e = absurd (cc)
    line_by lines (suc n) k e = omega arith

module _ (mail : Mail) (n : ℕ) (m : IsMail mail) (o : CameInOrder n mail) where
  place_sent : (t : Ticket) (at : ℕ) → WasSent mail.sent t at → (i : ℕ) × (ticket_at mail (Sent i) ≡ Some t) × (at_of mail (Sent i) ≡ at)
  place_sent t at w =
      let r = among_at mail.sent w.0 w.1 in
      (r.0, ap (λ x. option_map (λ (s : SentNote). s.ticket) x) r.1 ∙ ap (λ u. Some u) w.2, or_told (λ (s : SentNote). s.at) mail.sent r.0 0 w.0 r.1 ∙ w.3)

  place_slept : (t : Ticket) (at : ℕ) → HasSlept mail.sleeps t at → (i : ℕ) × (ticket_at mail (Slept i) ≡ Some t) × (at_of mail (Slept i) ≡ at)
  place_slept t at w =
      let r = among_at mail.sleeps w.0 w.1 in
      (r.0, ap (λ x. option_map (λ (s : SleepNote). s.ticket) x) r.1 ∙ ap (λ u. Some u) w.2, or_told (λ (s : SleepNote). s.at) mail.sleeps r.0 0 w.0 r.1 ∙ w.3)

  place_noted : (t : Ticket) (at : ℕ) → IsNoted mail.sent mail.sleeps t at → (p : Place) × (ticket_at mail p ≡ Some t) × (at_of mail p ≡ at)
  place_noted t at (inl w) = let r = place_sent t at w in (Sent r.0, r.1, r.2)
  place_noted t at (inr w) = let r = place_slept t at w in (Slept r.0, r.1, r.2)

  noted_at : (t : Ticket) (p : Place) → ticket_at mail p ≡ Some t → IsNoted mail.sent mail.sleeps t (at_of mail p)
  noted_at t (Sent i) h = let r = told_at (λ (s : SentNote). s.ticket) (slice_get mail.sent i) t h in inl (r.0, at_among mail.sent i r.0 r.1, r.2, sym (or_told (λ (s : SentNote). s.at) mail.sent i 0 r.0 r.1))
  noted_at t (Slept i) h = let r = told_at (λ (s : SleepNote). s.ticket) (slice_get mail.sleeps i) t h in inr (r.0, at_among mail.sleeps i r.0 r.1, r.2, sym (or_told (λ (s : SleepNote). s.at) mail.sleeps i 0 r.0 r.1))

  leads_to : (t : Ticket) (p : Place) → ticket_at mail p ≡ Some t → Leads mail.tickets t p
  leads_to t p h = leads mail.tickets t p (m.found t p h)

  -- what a line, or its heartbeat, named
  abbrev those : Bool → ℕ → List Place
  those b line = places_of (lane b mail.tickets) line

  came_at : (b : Bool) (line k : ℕ) (p : Place) → slice_get (those b line) k ≡ Some p → get_or (map (λ q. at_of mail q) (those b line)) k 0 ≡ at_of mail p
  came_at b line k p h = or_told (λ q. at_of mail q) (those b line) k 0 p h

  came_within : (b : Bool) (line k : ℕ) (p : Place) → slice_get (those b line) k ≡ Some p → (line ≤ at_of mail p) × (at_of mail p ≤ n)
  came_within b line k p h =
      let below = is_within (those b line) k p h in
      let count = as_many (λ q. at_of mail q) (those b line) in
      subst (λ a. (line ≤ a) × (a ≤ n)) (came_at b line k p h) ((o.lines b line).within k 0 (omega arith))

  came_later : (b : Bool) (line j k : ℕ) (p q : Place) → slice_get (those b line) j ≡ Some p → slice_get (those b line) k ≡ Some q → j ≤ k → at_of mail p ≤ at_of mail q
  came_later b line j k p q first second le = by (nat_lt j k) refl
    where
      by : (t : Bool) → nat_lt j k ≡ t → at_of mail p ≤ at_of mail q
      by true e =
          let below = is_within (those b line) k q second in
          let count = as_many (λ r. at_of mail r) (those b line) in
          let lt : j < k = grind (arith, nat_tests) in
          let h = (o.lines b line).pairs j k 0 lt (omega arith) in
          let x = came_at b line j p first in
          let y = came_at b line k q second in
          omega (arith, h, x, y)
      by false e =
          let far : k ≤ j = grind (arith, nat_tests) in
          let same : j ≡ k = omega arith in
          let one : Some p ≡ Some q = sym first ∙ ap (λ i. slice_get (those b line) i) same ∙ second in
          let eq : p ≡ q = cc in
          subst (λ r. at_of mail p ≤ at_of mail r) eq (omega arith)

  own : (t : Ticket) (at : ℕ) → IsNoted mail.sent mail.sleeps t at → (1 ≤ t.line) × (t.line ≤ at) × (at ≤ n)
  own t at h =
      let p = place_noted t at h in
      let l = leads_to t p.0 p.1 in
      let w = came_within t.beat t.line (t.number - 1) p.0 l.here in
      (l.line, subst (λ a. t.line ≤ a) p.2 w.0, subst (λ a. a ≤ n) p.2 w.1)

  whole : (t : Ticket) (at k : ℕ) → IsNoted mail.sent mail.sleeps t at → 1 ≤ k → k ≤ t.number → (earlier : ℕ) × IsNoted mail.sent mail.sleeps (record t { number = k }) earlier
  whole t at k h one most =
      let p = place_noted t at h in
      let l = leads_to t p.0 p.1 in
      let below = is_within (those t.beat t.line) (t.number - 1) p.0 l.here in
      let q = some_at (those t.beat t.line) (k - 1) (omega arith) in
      let next : suc (k - 1) ≡ k = omega arith in
      let named = m.named (record { line = t.line; beat = t.beat; number = suc (k - 1) }) q.0 q.1 in
      let this : ticket_at mail q.0 ≡ Some (record t { number = k }) = named ∙ ap (λ n. Some (record t { number = n })) next in
      (at_of mail q.0, noted_at (record t { number = k }) q.0 this)

  rise : (t u : Ticket) (a b : ℕ) → IsNoted mail.sent mail.sleeps t a → IsNoted mail.sent mail.sleeps u b → t.line ≡ u.line → t.beat ≡ u.beat → t.number ≤ u.number → a ≤ b
  rise t u a b h g line beat number =
      let p = place_noted t a h in
      let q = place_noted u b g in
      let l = leads_to t p.0 p.1 in
      let k = leads_to u q.0 q.1 in
      let there : those t.beat t.line ≡ those u.beat u.line = ap (λ c. those c t.line) beat ∙ ap (λ i. those u.beat i) line in
      let here : slice_get (those t.beat t.line) (u.number - 1) ≡ Some q.0 = ap (λ ps. slice_get ps (u.number - 1)) there ∙ k.here in
      let c = came_later t.beat t.line (t.number - 1) (u.number - 1) p.0 q.0 l.here here (omega arith) in
      let x = p.2 in
      let y = q.2 in
      omega (arith, c, x, y)

  sent_once : AllPairs (λ (a b : SentNote). a.ticket ≢ b.ticket) mail.sent
  sent_once i j d lt below same =
      let x = ap (λ s. option_map (λ (s : SentNote). s.ticket) s) (there_is mail.sent i d (omega arith)) in
      let y = ap (λ s. option_map (λ (s : SentNote). s.ticket) s) (there_is mail.sent j d below) in
      let f = m.found (get_or mail.sent i d).ticket (Sent i) x in
      let g = m.found (get_or mail.sent i d).ticket (Sent j) (y ∙ ap (λ u. Some u) (sym same)) in
      let one : Some (Sent i) ≡ Some (Sent j) = sym f ∙ g in
      let eq : i ≡ j = cc in
      omega arith

  slept_once : AllPairs (λ (a b : SleepNote). a.ticket ≢ b.ticket) mail.sleeps
  slept_once i j d lt below same =
      let x = ap (λ s. option_map (λ (s : SleepNote). s.ticket) s) (there_is mail.sleeps i d (omega arith)) in
      let y = ap (λ s. option_map (λ (s : SleepNote). s.ticket) s) (there_is mail.sleeps j d below) in
      let f = m.found (get_or mail.sleeps i d).ticket (Slept i) x in
      let g = m.found (get_or mail.sleeps i d).ticket (Slept j) (y ∙ ap (λ u. Some u) (sym same)) in
      let one : Some (Slept i) ≡ Some (Slept j) = sym f ∙ g in
      let eq : i ≡ j = cc in
      omega arith

  apart : (t : Ticket) (a b : ℕ) → WasSent mail.sent t a → HasSlept mail.sleeps t b → ⊥
  apart t a b h g =
      let p = place_sent t a h in
      let q = place_slept t b g in
      let f = m.found t (Sent p.0) p.1 in
      let e = m.found t (Slept q.0) q.1 in
      let one : Some (Sent p.0) ≡ Some (Slept q.0) = sym f ∙ e in
      cc

  mail_noted : All (λ (s : SentNote). AskFor s.ticket.line s.request s.askers) mail.sent → AreNoted n mail.sent mail.sleeps
  mail_noted askers = record {
    sent_rise = pairs_rise (λ (s : SentNote). s.at) 0 n mail.sent o.sent;
    sleeps_rise = pairs_rise (λ (s : SleepNote). s.at) 0 n mail.sleeps o.sleeps;
    own = own;
    sent_once = sent_once;
    slept_once = slept_once;
    apart = apart;
    first = λ t at h. let p = place_noted t at h in (leads_to t p.0 p.1).number;
    whole = whole;
    rise = rise;
    askers = askers;
  }

-- the report of a machine that stands for lines
pub standing_notes : {S : Type 0} (sight : S → Sight) (ready : S → Type 0) (waits : S → ℕ → Awaited → Type 0) (m : Machine S) (sent : List SentNote) (sleeps : List SleepNote) (script : List Line) → sent ≡ m.post.sent → sleeps ≡ m.post.sleeps → HasMemory m → StandsFor sight ready waits m script → AreNoted (length script) sent sleeps
standing_notes sight ready waits m sent sleeps script a b memory stands =
    let s = stands.stands memory in
    let h = s.ordered.sound in
    subst (λ k. AreNoted k sent sleeps) s.told (rw (a, b) (mail_noted m.post (newest (lists_of sight m)) h.mail h.order h.askers))
