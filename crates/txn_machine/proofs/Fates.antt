-- What became of what was sent is what the mail says.
use Rattle.std.proofs.Common.{◌≡◌, ◌≢◌, ℕ, zero, suc, ◌+◌, ◌<◌, ◌≤◌, inl, inr, Bool, true, false, not, ◌&&◌, ◌||◌, if◌then◌else◌, List, [], ◌∷◌, ◌++◌, Option, Some, None, length, get_or, slice_get, is_some, nat_eq, nat_lt, refl, sym, ap, ◌∙◌, subst, arith}
use Rattle.std.proofs.lemmas.Bool.Decides.{nat_tests}
use Rattle.std.specs.Option.{option_map}
use Rattle.txn_kv.specs.declared.reply.Reply.{Reply}
use Rattle.txn_kv.specs.declared.request.Request.{Request}
use Rattle.txn_kv.specs.declared.ticket.Ticket.{Ticket}
use Rattle.txn_history.specs.Busy.{busy_reply}
use Rattle.txn_history.specs.Event.{Event, is_awaited, is_lost, is_refused, kept_reply, same_ticket, sent_request, taken_reply}
use Rattle.txn_history.specs.Event.Event.{Lost, Refused, Served, Took}
use Rattle.txn_history.specs.Event.Event.{Sent as SentEvent, Slept as Woke}
use Rattle.txn_law.specs.Run.{store_after}
use Rattle.txn_model.specs.Table.{table}
use Rattle.txn_post.proofs.Lists.{get_last, get_old, told_within}
use Rattle.txn_post.proofs.Naming.{named_next, named_old, named_pushed, opened_leads}
use Rattle.txn_post.specs.Mail.{IsMail, IsNext, Mail, as_sent, as_slept, changing, delivering, is_lasting, just_sent, keeping, lane, letter_at, losing, naming, place_in, place_of, places_of, refusing, sending, sleeping, taking, waking}
use Rattle.txn_post.specs.Mail as mails
use Rattle.txn_post.specs.declared.letter.Letter.{Letter}
use Rattle.txn_post.specs.declared.post.Place.{Place}
use Rattle.txn_post.specs.declared.post.Place.TheVariants.{Sent, Slept}
use Rattle.txn_report.specs.declared.report.SentNote.{SentNote}
use Rattle.txn_report.specs.declared.report.SleepNote.{SleepNote}
use Rattle.txn_side.specs.Sight.{ArePosted, Nexts, ticket_in}
use Rattle.txn_side.specs.declared.turn.Posting.{Posting}
use Rattle.txn_side.specs.declared.turn.Posting.TheVariants.{Send, Sleep}
use Rattle.txn_machine.specs.Causes.{began, is_woken}
use Rattle.txn_machine.specs.Lists.{all_posted, posted_at, request_in}
use Rattle.txn_machine.specs.Rows.{AllSleptBefore, Fate, IsFate, IsUnsent}
use Rattle.txn_machine.specs.Running.{AreNumbered}
use Rattle.txn_machine.specs.Script.{AllBefore, loses, refuses, refuses_it, serves, takes, takes_it, with_sends}
use Rattle.txn_machine.proofs.Calms.{or_ended, or_other, or_past, or_same}
use Rattle.txn_machine.proofs.Finds.{same_is, same_itself, sends_push}
use Rattle.txn_machine.proofs.Numbers.{next_in, numbered_one, mail_one, or_last, used}

-- Histories that tell the same of a ticket.

pub record Same (es fs : List Event) (t : Ticket) : Type 0 where
  pub sent : sent_request fs t ≡ sent_request es t
  pub kept : kept_reply fs t ≡ kept_reply es t
  pub taken : taken_reply fs t ≡ taken_reply es t
  pub refused : is_refused fs t ≡ is_refused es t
  pub lost : is_lost fs t ≡ is_lost es t
  pub woken : is_woken fs t ≡ is_woken es t

pub same_none : (es : List Event) (t : Ticket) → Same es es t
same_none es t = record { sent = refl; kept = refl; taken = refl; refused = refl; lost = refl; woken = refl }

pub same_then : (es fs gs : List Event) (t : Ticket) → Same es fs t → Same fs gs t → Same es gs t
same_then es fs gs t a b = record { sent = b.sent ∙ a.sent; kept = b.kept ∙ a.kept; taken = b.taken ∙ a.taken; refused = b.refused ∙ a.refused; lost = b.lost ∙ a.lost; woken = b.woken ∙ a.woken }

module _ (u t : Ticket) (q : same_ticket u t ≡ false) (es : List Event) where
  pub served_apart : (r : Request) (o : Reply) → Same es (Served u r o ∷ es) t
  served_apart r o = record { sent = refl; kept = ap (λ (b : Bool). if b then Some o else kept_reply es t) q; taken = refl; refused = refl; lost = refl; woken = refl }

  pub took_apart : (r : Request) (o : Reply) → Same es (Took u r o ∷ es) t
  took_apart r o = record { sent = refl; kept = refl; taken = ap (λ (b : Bool). if b then Some o else taken_reply es t) q; refused = refl; lost = refl; woken = refl }

  pub refused_apart : (r : Request) (o : Reply) → Same es (Refused u r o ∷ es) t
  refused_apart r o = record { sent = refl; kept = refl; taken = refl; refused = ap (λ (b : Bool). b || is_refused es t) q; lost = refl; woken = refl }

  pub lost_apart : (r : Request) → Same es (Lost u r ∷ es) t
  lost_apart r = record { sent = refl; kept = refl; taken = refl; refused = refl; lost = ap (λ (b : Bool). b || is_lost es t) q; woken = refl }

  woke_apart : Same es (Woke u ∷ es) t
  woke_apart = record { sent = refl; kept = refl; taken = refl; refused = refl; lost = refl; woken = ap (λ (b : Bool). b || is_woken es t) q }

  sent_apart : (r : Request) → Same es (SentEvent u r ∷ es) t
  sent_apart r = record { sent = ap (λ (b : Bool). if b then Some r else sent_request es t) q; kept = refl; taken = refl; refused = refl; lost = refl; woken = refl }

same_awaited : (es fs : List Event) (t : Ticket) → Same es fs t → is_awaited fs t ≡ is_awaited es t
same_awaited es fs t s = λ i. (is_some (s.sent i) && not (is_some (s.taken i))) && not (s.lost i)

same_unsent : (es fs : List Event) (t : Ticket) → Same es fs t → IsUnsent es t → IsUnsent fs t
same_unsent es fs t s f = record { sent = s.sent ∙ f.sent; kept = s.kept ∙ f.kept; taken = s.taken ∙ f.taken; refused = s.refused ∙ f.refused; lost = s.lost ∙ f.lost }

same_fate : (es fs : List Event) (t : Ticket) (r : Request) (letter : Letter) → Same es fs t → IsFate es t r letter → IsFate fs t r letter
same_fate es fs t r letter s f = record {
  sent = s.sent ∙ f.sent;
  served = ap is_some s.kept ∙ f.served;
  refused = s.refused ∙ f.refused;
  awaited = same_awaited es fs t s ∙ f.awaited;
  kept = λ w. s.kept ∙ f.kept w;
}

-- What an event makes of the fate of its own request.

module _ (t : Ticket) (r : Request) (es : List Event) (letter : Letter) (f : IsFate es t r letter) where
  self : same_ticket t t ≡ true
  self = same_itself t

  pub serve_fate : (o : Reply) → IsFate (Served t r o ∷ es) t r (keeping o letter)
  serve_fate o =
      let here : kept_reply (Served t r o ∷ es) t ≡ Some o = ap (λ (b : Bool). if b then Some o else kept_reply es t) self in
      record { sent = f.sent; served = ap is_some here; refused = f.refused; awaited = f.awaited; kept = λ w. here }

  none_waits : (a c : Bool) → (a && false) && c ≡ false
  none_waits true c = refl
  none_waits false c = refl

  took_waits : (o : Reply) (fs : List Event) → is_awaited (Took t r o ∷ fs) t ≡ false
  took_waits o fs = ap (λ (b : Bool). (is_some (sent_request fs t) && not (is_some (if b then Some o else taken_reply fs t))) && not (is_lost fs t)) self ∙ none_waits (is_some (sent_request fs t)) (not (is_lost fs t))

  pub answer_fate : (o : Reply) → letter.awaited ≡ true → letter.kept ≡ Some o → IsFate (takes t (Some r) es) t r (taking letter)
  answer_fate o waits kept = subst (λ l. IsFate (takes t (Some r) es) t r l) (sym (ap (λ (b : Bool). if b then record letter { awaited = false; kept = None } else letter) (ap is_some kept)))
      (subst (λ z. IsFate (takes_it t r z es) t r (record letter { awaited = false; kept = None })) (sym (f.kept waits ∙ kept))
      (record { sent = f.sent; served = f.served; refused = f.refused; awaited = took_waits o es; kept = λ w. absurd (cc) }))

  pub deliver_fate : IsFate (takes t (Some r) (serves t (Some r) es)) t r (delivering letter)
  deliver_fate =
      let here : kept_reply (Served t r (table (store_after es) r).reply ∷ es) t ≡ Some (table (store_after es) r).reply = ap (λ (b : Bool). if b then Some (table (store_after es) r).reply else kept_reply es t) self in
      subst (λ z. IsFate (takes_it t r z (Served t r (table (store_after es) r).reply ∷ es)) t r (delivering letter)) (sym here)
      (record { sent = f.sent; served = ap is_some here; refused = f.refused; awaited = took_waits (table (store_after es) r).reply (Served t r (table (store_after es) r).reply ∷ es); kept = λ w. absurd (cc) })

  lost_waits : (a : Bool) → a && false ≡ false
  lost_waits true = refl
  lost_waits false = refl

  pub lose_fate : IsFate (loses t (Some r) es) t r (losing letter)
  lose_fate = record {
    sent = f.sent;
    served = f.served;
    refused = f.refused;
    awaited = ap (λ (b : Bool). (is_some (sent_request es t) && not (is_some (taken_reply es t))) && not (b || is_lost es t)) self ∙ lost_waits (is_some (sent_request es t) && not (is_some (taken_reply es t)));
    kept = λ w. absurd (cc);
  }

  pub refuse_fate : (o : Reply) → busy_reply r ≡ Some o → IsFate (refuses t (Some r) es) t r (refusing letter)
  refuse_fate o busy = subst (λ z. IsFate (refuses_it t r z es) t r (refusing letter)) (sym busy) (record {
    sent = f.sent;
    served = f.served;
    refused = ap (λ (b : Bool). b || is_refused es t) self;
    awaited = took_waits o (Refused t r o ∷ es);
    kept = λ w. absurd (cc);
  })

-- All fates.

abbrev pub Fates : List Event → Mail → Type 0
Fates es mail = (t : Ticket) → Fate es mail t (place_of mail.tickets t)

is_sent_place : (o : Option Place) (k : ℕ) → as_sent o ≡ Some k → o ≡ Some (Sent k)
is_sent_place None k h = absurd (cc)
is_sent_place (Some (Sent j)) k h = let e : j ≡ k = cc in ap (λ i. Some (Sent i)) e
is_sent_place (Some (Slept j)) k h = absurd (cc)

is_slept_place : (o : Option Place) (k : ℕ) → as_slept o ≡ Some k → o ≡ Some (Slept k)
is_slept_place None k h = absurd (cc)
is_slept_place (Some (Slept j)) k h = let e : j ≡ k = cc in ap (λ i. Some (Slept i)) e
is_slept_place (Some (Sent j)) k h = absurd (cc)

module _ (es : List Event) (mail : Mail) (m : IsMail mail) (fates : Fates es mail) where
  pub fates_same : (fs : List Event) → ((t : Ticket) → Same es fs t) → Fates fs mail
  fates_same fs same t = by (place_of mail.tickets t) (fates t)
    where
      by : (o : Option Place) → Fate es mail t o → Fate fs mail t o
      by None f = (same_unsent es fs t (same t) f.0, (same t).woken ∙ f.1)
      by (Some (Sent k)) f = same_fate es fs t (request_in (slice_get mail.sent k)) (letter_at mail k) (same t) f
      by (Some (Slept k)) f = (same_unsent es fs t (same t) f.0, (same t).woken ∙ f.1)

  pub fate_of : (t : Ticket) (k : ℕ) → as_sent (place_of mail.tickets t) ≡ Some k → IsFate es t (request_in (slice_get mail.sent k)) (letter_at mail k)
  fate_of t k named = subst (λ o. Fate es mail t o) (is_sent_place (place_of mail.tickets t) k named) (fates t)

  one_place : (t u : Ticket) (p : Place) → place_of mail.tickets t ≡ Some p → place_of mail.tickets u ≡ Some p → t ≡ u
  one_place t u p a b = some_ticket t u (sym (m.named t p a) ∙ m.named u p b)
    where
      some_ticket : (t u : Ticket) → ◌≡◌ {A = Option Ticket} (Some t) (Some u) → t ≡ u
      some_ticket t u h = cc

  unlike : (t u : Ticket) → same_ticket t u ≡ false → t ≡ u → ⊥
  unlike t u far e = let a = subst (λ v. same_ticket t v ≡ true) e (same_itself t) in cc

  module _ (t : Ticket) (fs : List Event) (others : (u : Ticket) → same_ticket t u ≡ false → Same es fs u) where
    pub fates_changed : (k : ℕ) (change : Letter → Letter) → as_sent (place_of mail.tickets t) ≡ Some k → IsFate fs t (request_in (slice_get mail.sent k)) (change (letter_at mail k)) → Fates fs (changing change k mail)
    fates_changed k change named own u = by (same_ticket t u) refl
      where
        here : place_of mail.tickets t ≡ Some (Sent k)
        here = is_sent_place (place_of mail.tickets t) k named

        low : k < length mail.letters
        low = let a = told_within (λ (n : SentNote). n.ticket) mail.sent k t (m.named t (Sent k) here) in let b = m.letters in omega arith

        at : (o : Option Place) → place_of mail.tickets u ≡ o → same_ticket t u ≡ false → Fate es mail u o → Fate fs (changing change k mail) u o
        at None e far f = (same_unsent es fs u (others u far) f.0, (others u far).woken ∙ f.1)
        at (Some (Slept j)) e far f = (same_unsent es fs u (others u far) f.0, (others u far).woken ∙ f.1)
        at (Some (Sent j)) e far f =
            let off : j ≢ k = λ h. unlike t u far (one_place t u (Sent k) here (e ∙ ap (λ i. Some (Sent i)) h)) in
            subst (λ l. IsFate fs u (request_in (slice_get mail.sent j)) l) (sym (or_other mail.letters k j (change (letter_at mail k)) just_sent off)) (same_fate es fs u (request_in (slice_get mail.sent j)) (letter_at mail j) (others u far) f)

        by : (b : Bool) → same_ticket t u ≡ b → Fate fs (changing change k mail) u (place_of mail.tickets u)
        by true e = subst (λ v. Fate fs (changing change k mail) v (place_of mail.tickets v)) (same_is t u e)
            (subst (λ o. Fate fs (changing change k mail) t o) (sym here) (subst (λ l. IsFate fs t (request_in (slice_get mail.sent k)) l) (sym (or_same mail.letters k (change (letter_at mail k)) just_sent low)) own))
        by false e = at (place_of mail.tickets u) refl e (fates u)

  pub fates_woken : (t : Ticket) (k : ℕ) → as_slept (place_of mail.tickets t) ≡ Some k → Fates (Woke t ∷ es) (waking k mail)
  fates_woken t k named u = by (same_ticket t u) refl
    where
      here : place_of mail.tickets t ≡ Some (Slept k)
      here = is_slept_place (place_of mail.tickets t) k named

      low : k < length mail.lasting
      low = let a = told_within (λ (n : SleepNote). n.ticket) mail.sleeps k t (m.named t (Slept k) here) in let b = m.flags in omega arith

      own : Fate es mail t (Some (Slept k))
      own = subst (λ o. Fate es mail t o) here (fates t)

      at : (o : Option Place) → place_of mail.tickets u ≡ o → same_ticket t u ≡ false → Fate es mail u o → Fate (Woke t ∷ es) (waking k mail) u o
      at None e far f = let s = woke_apart t u far es in (same_unsent es (Woke t ∷ es) u s f.0, s.woken ∙ f.1)
      at (Some (Sent j)) e far f = same_fate es (Woke t ∷ es) u (request_in (slice_get mail.sent j)) (letter_at mail j) (woke_apart t u far es) f
      at (Some (Slept j)) e far f =
          let s = woke_apart t u far es in
          let off : j ≢ k = λ h. unlike t u far (one_place t u (Slept k) here (e ∙ ap (λ i. Some (Slept i)) h)) in
          (same_unsent es (Woke t ∷ es) u s f.0, s.woken ∙ f.1 ∙ ap not (sym (or_other mail.lasting k j false false off)))

      by : (b : Bool) → same_ticket t u ≡ b → Fate (Woke t ∷ es) (waking k mail) u (place_of mail.tickets u)
      by true e = subst (λ v. Fate (Woke t ∷ es) (waking k mail) v (place_of mail.tickets v)) (same_is t u e)
          (subst (λ o. Fate (Woke t ∷ es) (waking k mail) t o) (sym here) (
            record { sent = own.0.sent; kept = own.0.kept; taken = own.0.taken; refused = own.0.refused; lost = own.0.lost },
            ap (λ (b : Bool). b || is_woken es t) (same_itself t) ∙ ap not (sym (or_same mail.lasting k false false low)),
          ))
      by false e = at (place_of mail.tickets u) refl e (fates u)

-- Lines that are opened, and what is posted.

pub fates_opened : (es : List Event) (mail : Mail) → Fates es mail → Fates es (mails.opened mail)
fates_opened es mail fates t = subst (λ o. Fate es (mails.opened mail) t o) (sym (opened_leads mail.tickets t)) (by (place_of mail.tickets t) (fates t))
  where
    by : (o : Option Place) → Fate es mail t o → Fate es (mails.opened mail) t o
    by None f = f
    by (Some (Sent k)) f = f
    by (Some (Slept k)) f = f

none_past : {X : Type 0} (xs : List X) (i : ℕ) → length xs ≤ i → slice_get xs i ≡ None
none_past [] i h = refl
none_past (x ∷ xs) zero h = absurd (omega arith)
none_past (x ∷ xs) (suc i) h = none_past xs i (omega arith)

-- the next ticket of a line names nothing yet
next_fresh : (mail : Mail) (t : Ticket) → IsNext mail t → place_of mail.tickets t ≡ None
next_fresh mail t next = past (places_of (lane t.beat mail.tickets) t.line) t.number next.number
  where
    past : (ps : List Place) (n : ℕ) → n ≡ length ps + 1 → place_in ps n ≡ None
    past ps zero h = refl
    past ps (suc i) h = none_past ps i (omega arith)

place_apart : (mail : Mail) (t u : Ticket) (p : Place) → IsNext mail t → same_ticket t u ≡ false → place_of (naming mail.tickets t.beat t.line p) u ≡ place_of mail.tickets u
place_apart mail t u p next far = by (place_of mail.tickets u) refl
  where
    unlike_it : t ≡ u → ⊥
    unlike_it e = let a = subst (λ v. same_ticket t v ≡ true) e (same_itself t) in cc

    after : (o : Option Place) → place_of (naming mail.tickets t.beat t.line p) u ≡ o → place_of mail.tickets u ≡ None → o ≡ None
    after None e h = refl
    after (Some q) e h = absurd (elim (named_pushed mail t u p q next e) [ inl a ↦ cc | inr a ↦ unlike_it (sym a.0) ])

    by : (o : Option Place) → place_of mail.tickets u ≡ o → place_of (naming mail.tickets t.beat t.line p) u ≡ o
    by None e = after (place_of (naming mail.tickets t.beat t.line p) u) refl e
    by (Some q) e = named_old mail t u p q next e

module _ (es : List Event) (mail : Mail) (m : IsMail mail) (fates : Fates es mail) where
  fresh_fate : (t : Ticket) → IsNext mail t → IsUnsent es t × (is_woken es t ≡ false)
  fresh_fate t next = subst (λ o. Fate es mail t o) (next_fresh mail t next) (fates t)

  fates_sent : (note : SentNote) → IsNext mail note.ticket → Fates (SentEvent note.ticket note.request ∷ es) (sending note mail)
  fates_sent note next u = by (same_ticket note.ticket u) refl
    where
      last : slice_get (mail.sent ++ note ∷ []) (length mail.sent) ≡ Some note
      last = get_last mail.sent note

      own : IsFate (SentEvent note.ticket note.request ∷ es) note.ticket (request_in (slice_get (mail.sent ++ note ∷ []) (length mail.sent))) (letter_at (sending note mail) (length mail.sent))
      own =
          let f = (fresh_fate note.ticket next).0 in
          let here : sent_request (SentEvent note.ticket note.request ∷ es) note.ticket ≡ Some note.request = ap (λ (b : Bool). if b then Some note.request else sent_request es note.ticket) (same_itself note.ticket) in
          let new : letter_at (sending note mail) (length mail.sent) ≡ just_sent = or_ended mail.letters just_sent (length mail.sent) ∙ or_past mail.letters just_sent (length mail.sent) (let a = m.letters in omega arith) in
          subst (λ l. IsFate (SentEvent note.ticket note.request ∷ es) note.ticket (request_in (slice_get (mail.sent ++ note ∷ []) (length mail.sent))) l) (sym new)
          (subst (λ o. IsFate (SentEvent note.ticket note.request ∷ es) note.ticket (request_in o) just_sent) (sym last) (record {
            sent = here;
            served = ap is_some f.kept;
            refused = f.refused;
            awaited = λ i. (is_some (here i) && not (is_some (f.taken i))) && not (f.lost i);
            kept = λ w. f.kept;
          }))

      at : (o : Option Place) → place_of mail.tickets u ≡ o → same_ticket note.ticket u ≡ false → Fate es mail u o → Fate (SentEvent note.ticket note.request ∷ es) (sending note mail) u o
      at None e far f = let s = sent_apart note.ticket u far es note.request in (same_unsent es (SentEvent note.ticket note.request ∷ es) u s f.0, s.woken ∙ f.1)
      at (Some (Slept j)) e far f = let s = sent_apart note.ticket u far es note.request in (same_unsent es (SentEvent note.ticket note.request ∷ es) u s f.0, s.woken ∙ f.1)
      at (Some (Sent j)) e far f =
          let there = some_note mail.sent j u (m.named u (Sent j) e) in
          let was : request_in (slice_get (mail.sent ++ note ∷ []) j) ≡ request_in (slice_get mail.sent j) = ap request_in (get_old mail.sent (note ∷ []) j there.0 there.1 ∙ sym there.1) in
          subst (λ l. IsFate (SentEvent note.ticket note.request ∷ es) u (request_in (slice_get (mail.sent ++ note ∷ []) j)) l) (sym (or_ended mail.letters just_sent j))
          (subst (λ r. IsFate (SentEvent note.ticket note.request ∷ es) u r (letter_at mail j)) (sym was)
          (same_fate es (SentEvent note.ticket note.request ∷ es) u (request_in (slice_get mail.sent j)) (letter_at mail j) (sent_apart note.ticket u far es note.request) f))
        where
          some_note : (ss : List SentNote) (k : ℕ) (t : Ticket) → option_map (λ (s : SentNote). s.ticket) (slice_get ss k) ≡ Some t → (s : SentNote) × (slice_get ss k ≡ Some s)
          some_note [] k t h = absurd (cc)
          some_note (s ∷ ss) zero t h = (s, refl)
          some_note (s ∷ ss) (suc k) t h = some_note ss k t h

      by : (b : Bool) → same_ticket note.ticket u ≡ b → Fate (SentEvent note.ticket note.request ∷ es) (sending note mail) u (place_of (naming mail.tickets note.ticket.beat note.ticket.line (Sent (length mail.sent))) u)
      by true e = subst (λ v. Fate (SentEvent note.ticket note.request ∷ es) (sending note mail) v (place_of (naming mail.tickets note.ticket.beat note.ticket.line (Sent (length mail.sent))) v)) (same_is note.ticket u e)
          (subst (λ o. Fate (SentEvent note.ticket note.request ∷ es) (sending note mail) note.ticket o) (sym (named_next mail note.ticket (Sent (length mail.sent)) next)) own)
      by false e = subst (λ o. Fate (SentEvent note.ticket note.request ∷ es) (sending note mail) u o) (sym (place_apart mail note.ticket u (Sent (length mail.sent)) next e)) (at (place_of mail.tickets u) refl e (fates u))

  fates_slept : (note : SleepNote) → IsNext mail note.ticket → Fates es (sleeping note mail)
  fates_slept note next u = by (same_ticket note.ticket u) refl
    where
      lasting_same : (j : ℕ) → j < length mail.lasting → is_lasting (sleeping note mail) j ≡ is_lasting mail j
      lasting_same j h = before mail.lasting j h
        where
          before : (bs : List Bool) (j : ℕ) → j < length bs → get_or (bs ++ true ∷ []) j false ≡ get_or bs j false
          before [] j h = absurd (omega arith)
          before (b ∷ bs) zero h = refl
          before (b ∷ bs) (suc j) h = before bs j (omega arith)

      last : is_lasting (sleeping note mail) (length mail.sleeps) ≡ true
      last = ap (λ k. get_or (mail.lasting ++ true ∷ []) k false) (sym m.flags) ∙ or_last mail.lasting true false

      own : Fate es (sleeping note mail) note.ticket (Some (Slept (length mail.sleeps)))
      own = let f = fresh_fate note.ticket next in (f.0, f.1 ∙ ap not (sym last))

      at : (o : Option Place) → place_of mail.tickets u ≡ o → Fate es mail u o → Fate es (sleeping note mail) u o
      at None e f = f
      at (Some (Sent j)) e f = f
      at (Some (Slept j)) e f =
          let low : j < length mail.lasting = let a = told_within (λ (n : SleepNote). n.ticket) mail.sleeps j u (m.named u (Slept j) e) in let b = m.flags in omega arith in
          (f.0, f.1 ∙ ap not (sym (lasting_same j low)))

      by : (b : Bool) → same_ticket note.ticket u ≡ b → Fate es (sleeping note mail) u (place_of (naming mail.tickets note.ticket.beat note.ticket.line (Slept (length mail.sleeps))) u)
      by true e = subst (λ v. Fate es (sleeping note mail) v (place_of (naming mail.tickets note.ticket.beat note.ticket.line (Slept (length mail.sleeps))) v)) (same_is note.ticket u e)
          (subst (λ o. Fate es (sleeping note mail) note.ticket o) (sym (named_next mail note.ticket (Slept (length mail.sleeps)) next)) own)
      by false e = subst (λ o. Fate es (sleeping note mail) u o) (sym (place_apart mail note.ticket u (Slept (length mail.sleeps)) next e)) (at (place_of mail.tickets u) refl (fates u))

sends_now : (ns : List SentNote) (s : SentNote) (n : ℕ) (es : List Event) → s.at ≡ n → with_sends (ns ++ s ∷ []) n es ≡ SentEvent s.ticket s.request ∷ with_sends ns n es
sends_now ns s n es h =
    let e : nat_eq s.at n ≡ true = grind (arith, nat_tests) in
    sends_push ns s n es ∙ ap (λ (b : Bool). if b then SentEvent s.ticket s.request ∷ with_sends ns n es else with_sends ns n es) e

pub fates_posted : (at : ℕ) (ps : List Posting) (mail : Mail) (es : List Event) (from to : Nexts) → ArePosted from ps to → AreNumbered mail.tickets from → IsMail mail → Fates (with_sends mail.sent at es) mail → Fates (with_sends (all_posted at ps mail).sent at es) (all_posted at ps mail)
fates_posted at [] mail es from to h a m f = f
fates_posted at (p ∷ ps) mail es from to h a m f = fates_posted at ps (posted_at at p mail) es (used p from) to h.2 (numbered_one at p mail from h.0 a) (mail_one at p mail (next_in (ticket_in p) mail from h.0 a) m) (one p (next_in (ticket_in p) mail from h.0 a))
  where
    one : (q : Posting) → IsNext mail (ticket_in q) → Fates (with_sends (posted_at at q mail).sent at es) (posted_at at q mail)
    one (Send t to r askers) next =
        subst (λ zs. Fates zs (sending (record { ticket = t; at = at; to = to; request = r; askers = askers }) mail)) (sym (sends_now mail.sent (record { ticket = t; at = at; to = to; request = r; askers = askers }) at es refl))
        (fates_sent (with_sends mail.sent at es) mail m f (record { ticket = t; at = at; to = to; request = r; askers = askers }) next)
    one (Sleep t) next = fates_slept (with_sends mail.sent at es) mail m f (record { ticket = t; at = at }) next

pub sends_none : (ss : List SentNote) (n : ℕ) (es : List Event) → AllBefore n ss → with_sends ss n es ≡ es
sends_none [] n es h = refl
sends_none (s ∷ ss) n es h =
    let low = h.0 in
    let e : nat_eq s.at n ≡ false = grind (arith, nat_tests) in
    ap (λ (b : Bool). with_sends ss n (if b then SentEvent s.ticket s.request ∷ es else es)) e ∙ sends_none ss n es h.1

-- Sleeps are found by their tickets.

began_none : (ss : List SleepNote) (n : ℕ) (t : Ticket) → ((k : ℕ) → option_map (λ (s : SleepNote). s.ticket) (slice_get ss k) ≡ Some t → ⊥) → began ss n t ≡ false
began_none [] n t h = refl
began_none (s ∷ ss) n t h = by (same_ticket s.ticket t) refl (began_none ss n t (λ k e. h (suc k) e))
  where
    by : (b : Bool) → same_ticket s.ticket t ≡ b → began ss n t ≡ false → b && nat_lt s.at n || began ss n t ≡ false
    by true e more = absurd (h 0 (ap (λ u. Some u) (same_is s.ticket t e)))
    by false e more = more

began_some : (ss : List SleepNote) (n k : ℕ) (t : Ticket) → AllSleptBefore n ss → option_map (λ (s : SleepNote). s.ticket) (slice_get ss k) ≡ Some t → began ss n t ≡ true
began_some [] n k t a h = absurd (cc)
began_some (s ∷ ss) n zero t a h =
    let is : s.ticket ≡ t = cc in
    let x : same_ticket s.ticket t ≡ true = subst (λ u. same_ticket s.ticket u ≡ true) is (same_itself s.ticket) in
    let l = a.0 in
    let y : nat_lt s.at n ≡ true = grind (arith, nat_tests) in
    λ i. x i && y i || began ss n t
began_some (s ∷ ss) n (suc k) t a h = either (same_ticket s.ticket t && nat_lt s.at n) (began ss n t) (began_some ss n k t a.1 h)
  where
    either : (a b : Bool) → b ≡ true → a || b ≡ true
    either true b h = refl
    either false b h = h

pub began_by : (mail : Mail) (n : ℕ) (t : Ticket) → IsMail mail → AllSleptBefore n mail.sleeps → began mail.sleeps n t ≡ is_some (as_slept (place_of mail.tickets t))
began_by mail n t m a = by (place_of mail.tickets t) refl
  where
    by : (o : Option Place) → place_of mail.tickets t ≡ o → began mail.sleeps n t ≡ is_some (as_slept o)
    by None e = began_none mail.sleeps n t (λ k h. let f = m.found t (Slept k) h in cc)
    by (Some (Sent j)) e = began_none mail.sleeps n t (λ k h. let f = m.found t (Slept k) h in cc)
    by (Some (Slept k)) e = began_some mail.sleeps n k t a (m.named t (Slept k) e)

began_push : (ss : List SleepNote) (s : SleepNote) (n : ℕ) (t : Ticket) → n ≤ s.at → began (ss ++ s ∷ []) n t ≡ began ss n t
began_push [] s n t h =
    let e : nat_lt s.at n ≡ false = grind (arith, nat_tests) in
    ap (λ (b : Bool). same_ticket s.ticket t && b || false) e ∙ none (same_ticket s.ticket t)
  where
    none : (b : Bool) → b && false || false ≡ false
    none true = refl
    none false = refl
began_push (m ∷ ss) s n t h = ap (λ (b : Bool). same_ticket m.ticket t && nat_lt m.at n || b) (began_push ss s n t h)

pub posted_began : (at : ℕ) (ps : List Posting) (mail : Mail) (j : ℕ) (t : Ticket) → j ≤ at → began (all_posted at ps mail).sleeps j t ≡ began mail.sleeps j t
posted_began at [] mail j t h = refl
posted_began at (p ∷ ps) mail j t h = posted_began at ps (posted_at at p mail) j t h ∙ one p
  where
    one : (q : Posting) → began (posted_at at q mail).sleeps j t ≡ began mail.sleeps j t
    one (Send u to r askers) = refl
    one (Sleep u) = began_push mail.sleeps (record { ticket = u; at = at }) j t h

slept_push : (n : ℕ) (ns : List SleepNote) (s : SleepNote) → AllSleptBefore n ns → s.at < n → AllSleptBefore n (ns ++ s ∷ [])
slept_push n [] s a h = (h, tt)
slept_push n (m ∷ ns) s a h = (a.0, slept_push n ns s a.1 h)

pub slept_more : (n : ℕ) (ns : List SleepNote) → AllSleptBefore n ns → AllSleptBefore (suc n) ns
slept_more n [] a = tt
slept_more n (m ∷ ns) a = let h = a.0 in (omega arith, slept_more n ns a.1)

pub posted_slept : (at : ℕ) (ps : List Posting) (mail : Mail) (n : ℕ) → at < n → AllSleptBefore n mail.sleeps → AllSleptBefore n (all_posted at ps mail).sleeps
posted_slept at [] mail n h a = a
posted_slept at (p ∷ ps) mail n h a = posted_slept at ps (posted_at at p mail) n h (one p)
  where
    one : (q : Posting) → AllSleptBefore n (posted_at at q mail).sleeps
    one (Send u to r askers) = a
    one (Sleep u) = slept_push n mail.sleeps (record { ticket = u; at = at }) a h
