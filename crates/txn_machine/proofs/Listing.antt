-- The tickets that a machine lists as out are those that are out by its report.
use Rattle.std.proofs.Common.{◌≡◌, ℕ, zero, suc, ◌+◌, ◌<◌, ◌≤◌, ◌⊎◌, inl, inr, Bool, true, false, not, ◌&&◌, ◌||◌, if◌then◌else◌, List, [], ◌∷◌, ◌++◌, Option, Some, None, length, slice_get, is_some, refl, sym, ap, ◌∙◌, subst, arith}
use Rattle.std.specs.Option.{option_to_list}
use Rattle.txn_kv.specs.declared.ticket.Ticket.{Ticket}
use Rattle.txn_history.specs.Among.{IsAmong}
use Rattle.txn_history.specs.Event.{Event, is_awaited, is_lost, taken_reply}
use Rattle.txn_lines.specs.declared.line.Line.{Line}
use Rattle.txn_post.specs.Mail.{IsMail, Mail, as_slept, is_lasting, is_out, lane, out_at, outs_among, outs_of, place_in, place_of, places_of, ticket_at}
use Rattle.txn_post.specs.declared.post.Place.{Place}
use Rattle.txn_post.specs.declared.post.Place.TheVariants.{Sent, Slept}
use Rattle.txn_report.specs.declared.report.Report.{Report}
use Rattle.txn_side.specs.Sight.{is_live, stand_at}
use Rattle.txn_machine.specs.Causes.{began, ended_of, hears, is_woken}
use Rattle.txn_machine.specs.Lists.{Lists, newest}
use Rattle.txn_machine.specs.Outs.{AreInOrder, AreOutAfter, ComesBefore, is_out_by}
use Rattle.txn_machine.specs.Outs.ComesBefore.{earlier, heartbeat, smaller}
use Rattle.txn_machine.specs.Rows.{Caused, Fate, IsUnsent}
use Rattle.txn_machine.specs.Running.{IsOrdered, IsReportOf, outs_at, outs_until}
use Rattle.txn_machine.specs.Script.{history, outcome_of}
use Rattle.txn_machine.proofs.Fates.{began_by}
use Rattle.txn_machine.proofs.Idles.{live_of}

-- Lists.

split_among : {X : Type 0} (xs ys : List X) (x : X) → IsAmong (xs ++ ys) x → IsAmong xs x ⊎ IsAmong ys x
split_among [] ys x a = inr a
split_among (z ∷ xs) ys x (inl e) = inl (inl e)
split_among (z ∷ xs) ys x (inr a) = elim (split_among xs ys x a) [ inl b ↦ inl (inr b) | inr b ↦ inr b ]

among_front : {X : Type 0} (xs ys : List X) (x : X) → IsAmong xs x → IsAmong (xs ++ ys) x
among_front [] ys x a = absurd a
among_front (z ∷ xs) ys x (inl e) = inl e
among_front (z ∷ xs) ys x (inr a) = inr (among_front xs ys x a)

among_back : {X : Type 0} (xs ys : List X) (x : X) → IsAmong ys x → IsAmong (xs ++ ys) x
among_back [] ys x a = a
among_back (z ∷ xs) ys x a = inr (among_back xs ys x a)

listed : (o : Option Ticket) (t : Ticket) → IsAmong (option_to_list o) t → o ≡ Some t
listed None t a = absurd a
listed (Some u) t (inl e) = ap (λ v. Some v) e
listed (Some u) t (inr a) = absurd a

some_ticket : (t u : Ticket) → ◌≡◌ {A = Option Ticket} (Some t) (Some u) → t ≡ u
some_ticket t u h = cc

-- What stands at the places of a line.

-- the ticket leads to something that is out
pub record IsOutIn (mail : Mail) (t : Ticket) : Type 0 where
  pub place : Place
  pub named : place_of mail.tickets t ≡ Some place
  pub out : is_out mail place ≡ true

-- something of these places is out, and has the ticket
pub record IsOutAt (mail : Mail) (places : List Place) (t : Ticket) : Type 0 where
  pub at : ℕ
  pub place : Place
  pub there : slice_get places at ≡ Some place
  pub out : is_out mail place ≡ true
  pub ticket : ticket_at mail place ≡ Some t

module _ (mail : Mail) where
  out_here : (p : Place) (t : Ticket) → IsAmong (option_to_list (out_at mail p)) t → (is_out mail p ≡ true) × (ticket_at mail p ≡ Some t)
  out_here p t a = by (is_out mail p) refl a
    where
      by : (b : Bool) → is_out mail p ≡ b → IsAmong (option_to_list (if b then ticket_at mail p else None)) t → (is_out mail p ≡ true) × (ticket_at mail p ≡ Some t)
      by true e a = (e, listed (ticket_at mail p) t a)
      by false e a = absurd a

  outs_in : (places : List Place) (t : Ticket) → IsAmong (outs_among mail places) t → IsOutAt mail places t
  outs_in [] t a = absurd a
  outs_in (p ∷ ps) t a = elim (split_among (option_to_list (out_at mail p)) (outs_among mail ps) t a) [
    | inl x ↦ let h = out_here p t x in record { at = 0; place = p; there = refl; out = h.0; ticket = h.1 }
    | inr y ↦ let r = outs_in ps t y in record { at = suc r.at; place = r.place; there = r.there; out = r.out; ticket = r.ticket }
  ]

  here_out : (p : Place) (t : Ticket) → is_out mail p ≡ true → ticket_at mail p ≡ Some t → IsAmong (option_to_list (out_at mail p)) t
  here_out p t o i =
      let is : out_at mail p ≡ Some t = ap (λ (b : Bool). if b then ticket_at mail p else None) o ∙ i in
      subst (λ x. IsAmong (option_to_list x) t) (sym is) (inl refl)

  outs_has : (places : List Place) (k : ℕ) (p : Place) (t : Ticket) → slice_get places k ≡ Some p → is_out mail p ≡ true → ticket_at mail p ≡ Some t → IsAmong (outs_among mail places) t
  outs_has [] k p t e o i = absurd (cc)
  outs_has (q ∷ ps) zero p t e o i =
      let same : p ≡ q = cc in
      among_front (option_to_list (out_at mail q)) (outs_among mail ps) t (subst (λ x. IsAmong (option_to_list (out_at mail x)) t) same (here_out p t o i))
  outs_has (q ∷ ps) (suc k) p t e o i = among_back (option_to_list (out_at mail q)) (outs_among mail ps) t (outs_has ps k p t e o i)

-- What is out of a line.

-- and is of this line
pub record IsOutOf (mail : Mail) (line : ℕ) (t : Ticket) : Type 0 where
  pub is : IsOutIn mail t
  pub own : t.line ≡ line

module _ (mail : Mail) (m : IsMail mail) where
  of_lane : (b : Bool) (line : ℕ) (t : Ticket) → IsAmong (outs_among mail (places_of (lane b mail.tickets) line)) t → IsOutOf mail line t
  of_lane b line t a =
      let r = outs_in mail (places_of (lane b mail.tickets) line) t a in
      let u : Ticket = record { line = line; beat = b; number = suc r.at } in
      let there : place_of mail.tickets u ≡ Some r.place = r.there in
      let same : u ≡ t = some_ticket u t (sym (m.named u r.place there) ∙ r.ticket) in
      record {
        is = record { place = r.place; named = subst (λ v. place_of mail.tickets v ≡ Some r.place) same there; out = r.out };
        own = ap (λ (v : Ticket). v.line) (sym same);
      }

  of_line : (line : ℕ) (t : Ticket) → IsAmong (outs_of mail line) t → IsOutOf mail line t
  of_line line t a = elim (split_among (outs_among mail (places_of mail.tickets.calls line)) (outs_among mail (places_of mail.tickets.beats line)) t a) [
    | inl x ↦ of_lane false line t x
    | inr y ↦ of_lane true line t y
  ]

  in_lane : (b : Bool) (line : ℕ) (t : Ticket) → IsAmong (outs_among mail (places_of (lane b mail.tickets) line)) t → IsAmong (outs_of mail line) t
  in_lane false line t a = among_front (outs_among mail (places_of mail.tickets.calls line)) (outs_among mail (places_of mail.tickets.beats line)) t a
  in_lane true line t a = among_back (outs_among mail (places_of mail.tickets.calls line)) (outs_among mail (places_of mail.tickets.beats line)) t a

  in_line : (t : Ticket) → IsOutIn mail t → IsAmong (outs_of mail t.line) t
  in_line t o = by t.number o.named
    where
      by : (n : ℕ) → place_in (places_of (lane t.beat mail.tickets) t.line) n ≡ Some o.place → IsAmong (outs_of mail t.line) t
      by zero e = absurd (cc)
      by (suc k) e = in_lane t.beat t.line t (outs_has mail (places_of (lane t.beat mail.tickets) t.line) k o.place t e o.out (m.named t o.place o.named))

-- a ticket that leads somewhere is of a line that is there
lane_within : (lanes : List (List Place)) (line n : ℕ) (p : Place) → place_in (places_of lanes line) n ≡ Some p → (1 ≤ line) × (line ≤ length lanes)
lane_within lanes zero n p e = absurd (none_in n e)
  where
    none_in : (n : ℕ) → place_in [] n ≡ Some p → ⊥
    none_in zero e = cc
    none_in (suc k) e = cc
lane_within [] (suc i) n p e = absurd (none_in n e)
  where
    none_in : (n : ℕ) → place_in [] n ≡ Some p → ⊥
    none_in zero e = cc
    none_in (suc k) e = cc
lane_within (ps ∷ lanes) (suc zero) n p e = (omega arith, omega arith)
lane_within (ps ∷ lanes) (suc (suc i)) n p e = let w = lane_within lanes (suc i) n p e in let x = w.1 in (omega arith, omega arith)

-- What is out of a run.

pub record IsOutLive (l : Lists) (t : Ticket) : Type 0 where
  pub is : IsOutIn l.mail t
  pub live : is_live l.sight t.line ≡ true

module _ (l : Lists) (m : IsMail l.mail) where
  at_in : (line : ℕ) (t : Ticket) → IsAmong (outs_at l line) t → IsOutLive l t
  at_in line t a = by (is_live l.sight line) refl a
    where
      by : (b : Bool) → is_live l.sight line ≡ b → IsAmong (if b then outs_of l.mail line else []) t → IsOutLive l t
      by true e a = let o = of_line l.mail m line t a in record { is = o.is; live = ap (λ n. is_live l.sight n) o.own ∙ e }
      by false e a = absurd a

  until_in : (n : ℕ) (t : Ticket) → IsAmong (outs_until l n) t → IsOutLive l t
  until_in zero t a = absurd a
  until_in (suc n) t a = elim (split_among (outs_until l n) (outs_at l (suc n)) t a) [
    | inl x ↦ until_in n t x
    | inr y ↦ at_in (suc n) t y
  ]

  has_at : (t : Ticket) → IsOutLive l t → IsAmong (outs_at l t.line) t
  has_at t o = subst (λ (b : Bool). IsAmong (if b then outs_of l.mail t.line else []) t) (sym o.live) (in_line l.mail m t o.is)

  until_has : (n : ℕ) (t : Ticket) → IsOutLive l t → 1 ≤ t.line → t.line ≤ n → IsAmong (outs_until l n) t
  until_has zero t o one most = absurd (omega arith)
  until_has (suc n) t o one most = elim (last t.line (suc n) most) [
    | inl e ↦ among_back (outs_until l n) (outs_at l (suc n)) t (subst (λ k. IsAmong (outs_at l k) t) e (has_at t o))
    | inr less ↦ among_front (outs_until l n) (outs_at l (suc n)) t (until_has n t o one (omega arith))
  ]
    where
      last : (a b : ℕ) → a ≤ b → (a ≡ b) ⊎ (a < b)
      last zero zero h = inl refl
      last zero (suc b) h = inr (omega arith)
      last (suc a) zero h = absurd (omega arith)
      last (suc a) (suc b) h = elim (last a b (omega arith)) [ inl e ↦ inl (ap (λ k. suc k) e) | inr less ↦ inr (omega arith) ]

-- The order of the tickets.

order_append : (xs ys : List Ticket) → AreInOrder xs → AreInOrder ys → ((t u : Ticket) → IsAmong xs t → IsAmong ys u → ComesBefore t u) → AreInOrder (xs ++ ys)
order_append [] ys o q h = q
order_append (x ∷ xs) ys o q h =
    (λ u a. elim (split_among xs ys u a) [ inl b ↦ o.0 u b | inr b ↦ h x u (inl refl) b ], order_append xs ys o.1 q (λ t u a b. h t u (inr a) b))

one_in_order : (o : Option Ticket) → AreInOrder (option_to_list o)
one_in_order None = tt
one_in_order (Some t) = (λ u a. absurd a, tt)

-- a ticket of this line, or of its heartbeat, with a number above this
pub record IsAbove (line : ℕ) (b : Bool) (least : ℕ) (t : Ticket) : Type 0 where
  pub line_is : t.line ≡ line
  pub beat_is : t.beat ≡ b
  pub above : least < t.number

-- these tickets have the numbers from there on
abbrev pub AreFrom : Mail → ℕ → Bool → ℕ → List Place → Type 0
AreFrom mail line b from ps = (k : ℕ) (p : Place) (t : Ticket) → slice_get ps k ≡ Some p → ticket_at mail p ≡ Some t → (t.line ≡ line) × (t.beat ≡ b) × (t.number ≡ suc (from + k))

module _ (mail : Mail) (line : ℕ) (b : Bool) where
  later : (from : ℕ) (p : Place) (ps : List Place) → AreFrom mail line b from (p ∷ ps) → AreFrom mail line b (suc from) ps
  later from p ps h k q t e i = let x = h (suc k) q t e i in let n = x.2 in (x.0, x.1, omega arith)

  all_above : (from : ℕ) (ps : List Place) → AreFrom mail line b from ps → (t : Ticket) → IsAmong (outs_among mail ps) t → IsAbove line b from t
  all_above from ps h t a =
      let r = outs_in mail ps t a in
      let x = h r.at r.place t r.there r.ticket in
      let n = x.2 in
      record { line_is = x.0; beat_is = x.1; above = omega arith }

  rising : (from : ℕ) (ps : List Place) → AreFrom mail line b from ps → AreInOrder (outs_among mail ps)
  rising from [] h = tt
  rising from (p ∷ ps) h =
      order_append (option_to_list (out_at mail p)) (outs_among mail ps) (one_in_order (out_at mail p)) (rising (suc from) ps (later from p ps h))
      (λ t u x y.
      let first = h 0 p t refl (out_here mail p t x).1 in
      let second = all_above (suc from) ps (later from p ps h) u y in
      let n = first.2 in
      let over = second.above in
      smaller (first.0 ∙ sym second.line_is) (first.1 ∙ sym second.beat_is) (omega arith))

module _ (mail : Mail) (m : IsMail mail) where
  lane_from : (b : Bool) (line : ℕ) → AreFrom mail line b 0 (places_of (lane b mail.tickets) line)
  lane_from b line k p t e i =
      let u : Ticket = record { line = line; beat = b; number = suc k } in
      let there : place_of mail.tickets u ≡ Some p = e in
      let same : u ≡ t = some_ticket u t (sym (m.named u p there) ∙ i) in
      let number : t.number ≡ suc k = ap (λ (v : Ticket). v.number) (sym same) in
      (ap (λ (v : Ticket). v.line) (sym same), ap (λ (v : Ticket). v.beat) (sym same), omega arith)

  line_in_order : (line : ℕ) → AreInOrder (outs_of mail line)
  line_in_order line =
      order_append (outs_among mail (places_of mail.tickets.calls line)) (outs_among mail (places_of mail.tickets.beats line))
      (rising mail line false 0 (places_of mail.tickets.calls line) (lane_from false line)) (rising mail line true 0 (places_of mail.tickets.beats line) (lane_from true line))
      (λ t u x y.
      let first = all_above mail line false 0 (places_of mail.tickets.calls line) (lane_from false line) t x in
      let second = all_above mail line true 0 (places_of mail.tickets.beats line) (lane_from true line) u y in
      heartbeat (first.line_is ∙ sym second.line_is) first.beat_is second.beat_is)

module _ (l : Lists) (m : IsMail l.mail) where
  at_line : (line : ℕ) (t : Ticket) → IsAmong (outs_at l line) t → t.line ≡ line
  at_line line t a = by (is_live l.sight line) a
    where
      by : (b : Bool) → IsAmong (if b then outs_of l.mail line else []) t → t.line ≡ line
      by true a = (of_line l.mail m line t a).own
      by false a = absurd a

  at_in_order : (line : ℕ) → AreInOrder (outs_at l line)
  at_in_order line = by (is_live l.sight line)
    where
      by : (b : Bool) → AreInOrder (if b then outs_of l.mail line else [])
      by true = line_in_order l.mail m line
      by false = tt

  until_within : (n : ℕ) (t : Ticket) → IsAmong (outs_until l n) t → t.line ≤ n
  until_within zero t a = absurd a
  until_within (suc n) t a = elim (split_among (outs_until l n) (outs_at l (suc n)) t a) [
    | inl x ↦ let w = until_within n t x in omega arith
    | inr y ↦ let e = at_line (suc n) t y in omega arith
  ]

  until_in_order : (n : ℕ) → AreInOrder (outs_until l n)
  until_in_order zero = tt
  until_in_order (suc n) =
      order_append (outs_until l n) (outs_at l (suc n)) (until_in_order n) (at_in_order (suc n))
      (λ t u x y. let w = until_within n t x in let e = at_line (suc n) u y in earlier (omega arith))

-- By what had happened.

or_none : (a b : Bool) → a || false && b ≡ a
or_none true b = refl
or_none false b = refl

not_not : (a : Bool) → not (not a) ≡ a
not_not true = refl
not_not false = refl

unsent_awaits : (es : List Event) (t : Ticket) → IsUnsent es t → is_awaited es t ≡ false
unsent_awaits es t f = ap (λ z. (is_some z && not (is_some (taken_reply es t))) && not (is_lost es t)) f.sent

abbrev pub leads_out : Mail → Option Place → Bool
leads_out mail None = false
leads_out mail (Some p) = is_out mail p

fate_out : (es : List Event) (mail : Mail) (t : Ticket) (o : Option Place) → Fate es mail t o → is_awaited es t || is_some (as_slept o) && not (is_woken es t) ≡ leads_out mail o
fate_out es mail t None f = ap (λ a. a || false && not (is_woken es t)) (unsent_awaits es t f.0)
fate_out es mail t (Some (Sent k)) f = or_none (is_awaited es t) (not (is_woken es t)) ∙ f.awaited
fate_out es mail t (Some (Slept k)) f = ap (λ a. a || true && not (is_woken es t)) (unsent_awaits es t f.0) ∙ ap not f.1 ∙ not_not (is_lasting mail k)

leads_some : (mail : Mail) (t : Ticket) → leads_out mail (place_of mail.tickets t) ≡ true → IsOutIn mail t
leads_some mail t h = by (place_of mail.tickets t) refl h
  where
    by : (o : Option Place) → place_of mail.tickets t ≡ o → leads_out mail o ≡ true → IsOutIn mail t
    by None e h = cc
    by (Some p) e h = record { place = p; named = e; out = h }

some_leads : (mail : Mail) (t : Ticket) → IsOutIn mail t → leads_out mail (place_of mail.tickets t) ≡ true
some_leads mail t o = ap (λ x. leads_out mail x) o.named ∙ o.out

both_true : (a b : Bool) → a && b ≡ true → (a ≡ true) × (b ≡ true)
both_true true true e = (refl, refl)
both_true true false e = absurd (cc)
both_true false b e = absurd (cc)

are_true : (a b : Bool) → a ≡ true → b ≡ true → a && b ≡ true
are_true a b e f = λ i. e i && f i

module _ (script : List Line) (l : Lists) (ordered : IsOrdered l) (told : newest l ≡ length script) (caused : Caused script l) where
  abbrev es : List Event
  es = history l.mail.sent l.outcomes script

  out_is : (t : Ticket) → is_out_by (λ u. began l.mail.sleeps (suc (length script)) u) es t ≡ leads_out l.mail (place_of l.mail.tickets t)
  out_is t =
      ap (λ a. is_awaited es t || a && not (is_woken es t)) (began_by l.mail (suc (length script)) t ordered.sound.mail caused.fates.slept)
      ∙ fate_out es l.mail t (place_of l.mail.tickets t) (caused.fates.fates t)

  hears_is : (t : Ticket) → IsOutIn l.mail t → is_live l.sight t.line ≡ hears (λ n. outcome_of l.outcomes n) script t
  hears_is t o =
      let c = caused.owned.owner t o.place o.named in
      live_of script (λ n. outcome_of l.outcomes n) (λ n. ended_of l.ended n) (λ n. stand_at l.sight.stands n) l.sight.crashed caused.rows t.line c.0 c.1

  within : (t : Ticket) → IsOutIn l.mail t → (1 ≤ t.line) × (t.line ≤ newest l)
  within t o = by t.beat (lane_within (lane t.beat l.mail.tickets) t.line t.number o.place o.named)
    where
      by : (b : Bool) → (1 ≤ t.line) × (t.line ≤ length (lane b l.mail.tickets)) → (1 ≤ t.line) × (t.line ≤ newest l)
      by false w = let x = w.1 in let y = ordered.even.calls in (w.0, omega arith)
      by true w = let x = w.1 in let y = ordered.even.beats in (w.0, omega arith)

  abbrev pub is_out_now : Ticket → Bool
  is_out_now t = hears (λ n. outcome_of l.outcomes n) script t && is_out_by (λ u. began l.mail.sleeps (suc (length script)) u) es t

  now_in : (t : Ticket) → IsAmong (outs_until l (newest l)) t → is_out_now t ≡ true
  now_in t a =
      let o = until_in l ordered.sound.mail (newest l) t a in
      are_true (hears (λ n. outcome_of l.outcomes n) script t) (is_out_by (λ u. began l.mail.sleeps (suc (length script)) u) es t) (sym (hears_is t o.is) ∙ o.live) (out_is t ∙ some_leads l.mail t o.is)

  now_has : (t : Ticket) → is_out_now t ≡ true → IsAmong (outs_until l (newest l)) t
  now_has t h =
      let w = both_true (hears (λ n. outcome_of l.outcomes n) script t) (is_out_by (λ u. began l.mail.sleeps (suc (length script)) u) es t) h in
      let o = leads_some l.mail t (sym (out_is t) ∙ w.1) in
      let at = within t o in
      until_has l ordered.sound.mail (newest l) t (record { is = o; live = hears_is t o ∙ w.0 }) at.0 at.1

  pub outs_are : (report : Report) → IsReportOf l report → AreOutAfter script report (outs_until l (newest l))
  outs_are report r = record {
    each = λ t a. rw (r.outcomes, r.sent, r.sleeps) (now_in t a);
    all = λ t h. now_has t (rw (r.outcomes, r.sent, r.sleeps) at h);
    order = until_in_order l ordered.sound.mail (newest l);
  }
