-- What keeps the mail in order.
use Rattle.std.proofs.Common.{◌≡◌, ℕ, zero, suc, inl, inr, Bool, true, false, List, [], ◌∷◌, ◌++◌, Some, length, refl, sym, ap, ◌∙◌, subst, arith, length-append}
use Rattle.std.proofs.Math.ListN.{length-set}
use Rattle.txn_kv.specs.declared.ticket.Ticket.{Ticket}
use Rattle.txn_report.specs.declared.report.SentNote.{SentNote}
use Rattle.txn_report.specs.declared.report.SleepNote.{SleepNote}
use Rattle.txn_post.specs.declared.letter.Letter.{Letter}
use Rattle.txn_post.specs.declared.post.Place.{Place}
use Rattle.txn_post.specs.declared.post.Place.TheVariants.{Sent, Slept}
use Rattle.txn_post.specs.Mail.{Mail, Tickets, ticket_at, place_of, place_in, places_of, lane, no_tickets, naming, changing, letter_at, opened, sending, sleeping, no_mail, just_sent, waking, IsMail, IsNext, IsSentAt, IsSleptAt}
use Rattle.txn_post.proofs.Lists.{told_old, told_last, told_pushed, told_within}
use Rattle.txn_post.proofs.Naming.{named_next, named_old, named_pushed, opened_leads}

pub none_is_mail : IsMail no_mail
none_is_mail = record { letters = refl; flags = refl; named = λ t p h. absurd (nowhere t p h); found = λ t p h. absurd (nothing t p h) }
  where
    none_in : (lines : List (List Place)) (n m : ℕ) (p : Place) → lines ≡ [] → place_in (places_of lines n) m ≡ Some p → ⊥
    none_in lines zero zero p e h = cc
    none_in lines zero (suc m) p e h = cc
    none_in [] (suc n) zero p e h = cc
    none_in [] (suc n) (suc m) p e h = cc
    none_in (ps ∷ lines) (suc n) m p e h = cc

    none_there : (b : Bool) → lane b no_tickets ≡ []
    none_there false = refl
    none_there true = refl

    nowhere : (t : Ticket) (p : Place) → place_of no_tickets t ≡ Some p → ⊥
    nowhere t p h = none_in (lane t.beat no_tickets) t.line t.number p (none_there t.beat) h

    nothing : (t : Ticket) (p : Place) → ticket_at no_mail p ≡ Some t → ⊥
    nothing t (Sent k) h = cc
    nothing t (Slept k) h = cc

pub opened_is_mail : (mail : Mail) → IsMail mail → IsMail (opened mail)
opened_is_mail mail m = record {
  letters = m.letters;
  flags = m.flags;
  named = λ t p h. m.named t p (sym (opened_leads mail.tickets t) ∙ h);
  found = λ t p h. opened_leads mail.tickets t ∙ m.found t p h;
}

pub sent_is_mail : (mail : Mail) (note : SentNote) → IsNext mail note.ticket → IsMail mail → IsMail (sending note mail)
sent_is_mail mail note next m = record {
  letters = let a = m.letters in let b = length-append mail.letters (just_sent ∷ []) in let d = length-append mail.sent (note ∷ []) in omega arith;
  flags = m.flags;
  named = λ t p h. elim (named_pushed mail note.ticket t here p next h) [
    | inl a ↦ stays t p (m.named t p a)
    | inr b ↦ ap (λ q. ticket_at (sending note mail) q) (sym b.1) ∙ told_last (λ n. n.ticket) mail.sent note ∙ ap (λ u. Some u) (sym b.0)
  ];
  found = back;
}
  where
    here : Place
    here = Sent (length mail.sent)

    stays : (t : Ticket) (p : Place) → ticket_at mail p ≡ Some t → ticket_at (sending note mail) p ≡ Some t
    stays t (Sent k) h = told_old (λ n. n.ticket) mail.sent (note ∷ []) k t h
    stays t (Slept k) h = h

    back : (t : Ticket) (p : Place) → ticket_at (sending note mail) p ≡ Some t → place_of (naming mail.tickets note.ticket.beat note.ticket.line (Sent (length mail.sent))) t ≡ Some p
    back t (Sent k) h = elim (told_pushed (λ n. n.ticket) mail.sent note k t h) [
      | inl a ↦ named_old mail note.ticket t (Sent (length mail.sent)) (Sent k) next (m.found t (Sent k) a)
      | inr b ↦
          ap (λ u. place_of (naming mail.tickets note.ticket.beat note.ticket.line (Sent (length mail.sent))) u) (sym b.1)
          ∙ named_next mail note.ticket (Sent (length mail.sent)) next
          ∙ ap (λ n. Some (Sent n)) (sym b.0)
    ]
    back t (Slept k) h = named_old mail note.ticket t (Sent (length mail.sent)) (Slept k) next (m.found t (Slept k) h)

pub slept_is_mail : (mail : Mail) (note : SleepNote) → IsNext mail note.ticket → IsMail mail → IsMail (sleeping note mail)
slept_is_mail mail note next m = record {
  letters = m.letters;
  flags = let a = m.flags in let b = length-append mail.lasting (true ∷ []) in let d = length-append mail.sleeps (note ∷ []) in omega arith;
  named = λ t p h. elim (named_pushed mail note.ticket t (Slept (length mail.sleeps)) p next h) [
    | inl a ↦ stays t p (m.named t p a)
    | inr b ↦ ap (λ q. ticket_at (sleeping note mail) q) (sym b.1) ∙ told_last (λ n. n.ticket) mail.sleeps note ∙ ap (λ u. Some u) (sym b.0)
  ];
  found = back;
}
  where
    stays : (t : Ticket) (p : Place) → ticket_at mail p ≡ Some t → ticket_at (sleeping note mail) p ≡ Some t
    stays t (Sent k) h = h
    stays t (Slept k) h = told_old (λ n. n.ticket) mail.sleeps (note ∷ []) k t h

    back : (t : Ticket) (p : Place) → ticket_at (sleeping note mail) p ≡ Some t → place_of (naming mail.tickets note.ticket.beat note.ticket.line (Slept (length mail.sleeps))) t ≡ Some p
    back t (Slept k) h = elim (told_pushed (λ n. n.ticket) mail.sleeps note k t h) [
      | inl a ↦ named_old mail note.ticket t (Slept (length mail.sleeps)) (Slept k) next (m.found t (Slept k) a)
      | inr b ↦
          ap (λ u. place_of (naming mail.tickets note.ticket.beat note.ticket.line (Slept (length mail.sleeps))) u) (sym b.1)
          ∙ named_next mail note.ticket (Slept (length mail.sleeps)) next
          ∙ ap (λ n. Some (Slept n)) (sym b.0)
    ]
    back t (Sent k) h = named_old mail note.ticket t (Slept (length mail.sleeps)) (Sent k) next (m.found t (Sent k) h)

-- In these lists.

pub sent_so : (was mail : Mail) (note : SentNote) (sent : List SentNote) (letters : List Letter) (tickets : Tickets) (n : ℕ) → was ≡ mail → IsNext mail note.ticket → IsMail was →
    sent ≡ was.sent ++ note ∷ [] → letters ≡ was.letters ++ just_sent ∷ [] → tickets ≡ naming was.tickets note.ticket.beat note.ticket.line (Sent n) → n ≡ length was.sent →
    IsMail (record { sent = sent; letters = letters; sleeps = was.sleeps; lasting = was.lasting; tickets = tickets })
sent_so was mail note sent letters tickets n e next m a b named len =
    let here : IsNext was note.ticket = subst (λ x. IsNext x note.ticket) (sym e) next in
    let place : tickets ≡ naming was.tickets note.ticket.beat note.ticket.line (Sent (length was.sent)) = named ∙ ap (λ k. naming was.tickets note.ticket.beat note.ticket.line (Sent k)) len in
    rw (a, b, place) (sent_is_mail was note here m)

pub slept_so : (was mail : Mail) (note : SleepNote) (sleeps : List SleepNote) (lasting : List Bool) (tickets : Tickets) (n : ℕ) → was ≡ mail → IsNext mail note.ticket → IsMail was →
    sleeps ≡ was.sleeps ++ note ∷ [] → lasting ≡ was.lasting ++ true ∷ [] → tickets ≡ naming was.tickets note.ticket.beat note.ticket.line (Slept n) → n ≡ length was.sleeps →
    IsMail (record { sent = was.sent; letters = was.letters; sleeps = sleeps; lasting = lasting; tickets = tickets })
slept_so was mail note sleeps lasting tickets n e next m a b named len =
    let here : IsNext was note.ticket = subst (λ x. IsNext x note.ticket) (sym e) next in
    let place : tickets ≡ naming was.tickets note.ticket.beat note.ticket.line (Slept (length was.sleeps)) = named ∙ ap (λ k. naming was.tickets note.ticket.beat note.ticket.line (Slept k)) len in
    rw (a, b, place) (slept_is_mail was note here m)

-- What a ticket leads to has the ticket.

pub found_sent : (mail : Mail) (t : Ticket) (place : ℕ) → IsMail mail → place_of mail.tickets t ≡ Some (Sent place) → IsSentAt mail t place
found_sent mail t place m e = record { below = told_within (λ n. n.ticket) mail.sent place t (m.named t (Sent place) e); ticket = m.named t (Sent place) e }

pub found_slept : (mail : Mail) (t : Ticket) (place : ℕ) → IsMail mail → place_of mail.tickets t ≡ Some (Slept place) → IsSleptAt mail t place
found_slept mail t place m e = record { below = told_within (λ n. n.ticket) mail.sleeps place t (m.named t (Slept place) e); ticket = m.named t (Slept place) e }

-- For those who carry the order along: what changes a letter, or ends a sleep, keeps it.

pub changed_is_mail : (change : Letter → Letter) (place : ℕ) (mail : Mail) → IsMail mail → IsMail (changing change place mail)
changed_is_mail change place mail m = record { letters = length-set mail.letters place (change (letter_at mail place)) ∙ m.letters; flags = m.flags; named = m.named; found = m.found }

pub waked_is_mail : (place : ℕ) (mail : Mail) → IsMail mail → IsMail (waking place mail)
waked_is_mail place mail m = record { letters = m.letters; flags = length-set mail.lasting place false ∙ m.flags; named = m.named; found = m.found }
