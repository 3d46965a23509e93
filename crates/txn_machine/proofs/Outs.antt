-- What the clients wait for is out, and stays so until they hear of it.
use Rattle.std.proofs.Common.{◌≡◌, ◌≢◌, ℕ, zero, suc, ◌<◌, ◌⊎◌, inl, inr, true, false, List, [], ◌∷◌, ◌++◌, Option, Some, length, get_or, sym, ap, ◌∙◌, subst, arith}
use Rattle.txn_kv.specs.declared.request.Request.TheVariants.{Tso}
use Rattle.txn_kv.specs.declared.ticket.Ticket.{Ticket}
use Rattle.txn_post.proofs.Lists.{told_within}
use Rattle.txn_post.proofs.Naming.{named_next, named_old, opened_leads}
use Rattle.txn_post.specs.Mail.{IsMail, IsNext, Mail, changing, just_sent, letter_at, place_of, ticket_at, waking}
use Rattle.txn_post.specs.Mail as mails
use Rattle.txn_post.specs.declared.letter.Letter.{Letter}
use Rattle.txn_post.specs.declared.post.Place.TheVariants.{Sent, Slept}
use Rattle.txn_report.specs.declared.report.SleepNote.{SleepNote}
use Rattle.txn_side.specs.Sight.{ArePosted, Group, IsAsk, Nexts, ticket_in}
use Rattle.txn_side.specs.Waiting.{Awaited, HearsEnd, HearsReply, awaited_as}
use Rattle.txn_side.specs.Waiting.Awaited.{EndOf, ReplyTo}
use Rattle.txn_side.specs.declared.turn.Posting.{Posting}
use Rattle.txn_side.specs.declared.turn.Posting.TheVariants.{Send, Sleep}
use Rattle.txn_machine.specs.Dues.{IsAskedIn, IsAwaitedIn, IsEndOut, IsReplyOut}
use Rattle.txn_machine.specs.Lists.{all_posted, posted_at}
use Rattle.txn_machine.specs.Running.{AreNumbered}
use Rattle.txn_machine.proofs.Calms.{or_ended, or_old, or_other, or_past, or_same, same_line}
use Rattle.txn_machine.proofs.Numbers.{mail_one, next_in, numbered_one, or_last, used}

-- What is out in the first mail, and not heard of, is out in the second; what heartbeats post is not told of.
pub record StaysBut (Hears : ℕ → Awaited → Type 0) (old new : Mail) : Type 0 where
  pub replies : (t : Ticket) → t.beat ≡ false → (Hears t.line (ReplyTo t.number) → ⊥) → IsReplyOut old t → IsReplyOut new t
  pub ends : (t : Ticket) → t.beat ≡ false → (Hears t.line (EndOf t.number) → ⊥) → IsEndOut old t → IsEndOut new t

pub stays_same : (Hears : ℕ → Awaited → Type 0) (mail new : Mail) → new ≡ mail → StaysBut Hears mail new
stays_same Hears mail new e = record {
  replies = λ t calm far out. subst (λ x. IsReplyOut x t) (sym e) out;
  ends = λ t calm far out. subst (λ x. IsEndOut x t) (sym e) out;
}

pub stays_opened : (Hears : ℕ → Awaited → Type 0) (mail : Mail) → StaysBut Hears mail (mails.opened mail)
stays_opened Hears mail = record {
  replies = λ t calm far out. record { place = out.place; sent = opened_leads mail.tickets t ∙ out.sent; awaited = out.awaited };
  ends = λ t calm far out. record { place = out.place; slept = opened_leads mail.tickets t ∙ out.slept; lasts = out.lasts };
}

some_ticket : (t u : Ticket) → ◌≡◌ {A = Option Ticket} (Some t) (Some u) → t ≡ u
some_ticket t u h = cc

-- a letter changes, or a sleep ends
module _ (mail : Mail) (m : IsMail mail) (t : Ticket) (k : ℕ) where
  one_reply : place_of mail.tickets t ≡ Some (Sent k) → (u : Ticket) (j : ℕ) → u.beat ≡ false → place_of mail.tickets u ≡ Some (Sent j) → j ≡ k → HearsReply t u.line (ReplyTo u.number)
  one_reply here u j calm there e =
      let same = some_ticket u t (sym (m.named u (Sent j) there) ∙ ap (λ i. ticket_at mail (Sent i)) e ∙ m.named t (Sent k) here) in
      (ap (λ (x : Ticket). x.beat) (sym same) ∙ calm, ap (λ (x : Ticket). x.line) same, ap (λ (x : Ticket). ReplyTo x.number) same)

  one_end : place_of mail.tickets t ≡ Some (Slept k) → (u : Ticket) (j : ℕ) → u.beat ≡ false → place_of mail.tickets u ≡ Some (Slept j) → j ≡ k → HearsEnd t u.line (EndOf u.number)
  one_end here u j calm there e =
      let same = some_ticket u t (sym (m.named u (Slept j) there) ∙ ap (λ i. ticket_at mail (Slept i)) e ∙ m.named t (Slept k) here) in
      (ap (λ (x : Ticket). x.beat) (sym same) ∙ calm, ap (λ (x : Ticket). x.line) same, ap (λ (x : Ticket). EndOf x.number) same)

  pub stays_changed : (change : Letter → Letter) → place_of mail.tickets t ≡ Some (Sent k) → StaysBut (HearsReply t) mail (changing change k mail)
  stays_changed change here = record {
    replies = λ u calm far out. record {
      place = out.place;
      sent = out.sent;
      awaited = ap (λ (x : Letter). x.awaited) (or_other mail.letters k out.place (change (letter_at mail k)) just_sent (λ e. far (one_reply here u out.place calm out.sent e))) ∙ out.awaited;
    };
    ends = λ u calm far out. record { place = out.place; slept = out.slept; lasts = out.lasts };
  }

  pub stays_woken : place_of mail.tickets t ≡ Some (Slept k) → StaysBut (HearsEnd t) mail (waking k mail)
  stays_woken here = record {
    replies = λ u calm far out. record { place = out.place; sent = out.sent; awaited = out.awaited };
    ends = λ u calm far out. record {
      place = out.place;
      slept = out.slept;
      lasts = or_other mail.lasting k out.place false false (λ e. far (one_end here u out.place calm out.slept e)) ∙ out.lasts;
    };
  }

-- a letter is awaited as before
pub stays_kept : (Hears : ℕ → Awaited → Type 0) (mail : Mail) (k : ℕ) (change : Letter → Letter) → k < length mail.letters → (change (letter_at mail k)).awaited ≡ (letter_at mail k).awaited → StaysBut Hears mail (changing change k mail)
stays_kept Hears mail k change low same = record {
  replies = λ u calm far out. record { place = out.place; sent = out.sent; awaited = at out.place (same_line k out.place) ∙ out.awaited };
  ends = λ u calm far out. record { place = out.place; slept = out.slept; lasts = out.lasts };
}
  where
    at : (j : ℕ) → (j ≡ k) ⊎ (j ≢ k) → (letter_at (changing change k mail) j).awaited ≡ (letter_at mail j).awaited
    at j (inl e) =
        subst (λ i. (letter_at (changing change k mail) i).awaited ≡ (letter_at mail i).awaited) (sym e)
        (ap (λ (x : Letter). x.awaited) (or_same mail.letters k (change (letter_at mail k)) just_sent low) ∙ same)
    at j (inr far) = ap (λ (x : Letter). x.awaited) (or_other mail.letters k j (change (letter_at mail k)) just_sent far)

-- What is posted.

-- it is out as what it is posted as
abbrev pub IsPostedIn : Mail → Posting → Type 0
IsPostedIn mail (Send t to r askers) = IsReplyOut mail t
IsPostedIn mail (Sleep t) = IsEndOut mail t

module _ (at : ℕ) (mail : Mail) (m : IsMail mail) where
  reply_one : (q : Posting) → IsNext mail (ticket_in q) → (u : Ticket) → IsReplyOut mail u → IsReplyOut (posted_at at q mail) u
  reply_one (Send t to r askers) next u out = record {
    place = out.place;
    sent = named_old mail t u (Sent (length mail.sent)) (Sent out.place) next out.sent;
    awaited = ap (λ (x : Letter). x.awaited) (or_ended mail.letters just_sent out.place) ∙ out.awaited;
  }
  reply_one (Sleep t) next u out = record { place = out.place; sent = named_old mail t u (Slept (length mail.sleeps)) (Sent out.place) next out.sent; awaited = out.awaited }

  end_one : (q : Posting) → IsNext mail (ticket_in q) → (u : Ticket) → IsEndOut mail u → IsEndOut (posted_at at q mail) u
  end_one (Send t to r askers) next u out = record { place = out.place; slept = named_old mail t u (Sent (length mail.sent)) (Slept out.place) next out.slept; lasts = out.lasts }
  end_one (Sleep t) next u out =
      let low : out.place < length mail.lasting = let a = told_within (λ (n : SleepNote). n.ticket) mail.sleeps out.place u (m.named u (Slept out.place) out.slept) in let b = m.flags in omega arith in
      record { place = out.place; slept = named_old mail t u (Slept (length mail.sleeps)) (Slept out.place) next out.slept; lasts = or_old mail.lasting true false out.place low ∙ out.lasts }

  new_one : (q : Posting) → IsNext mail (ticket_in q) → IsPostedIn (posted_at at q mail) q
  new_one (Send t to r askers) next = record {
    place = length mail.sent;
    sent = named_next mail t (Sent (length mail.sent)) next;
    awaited = ap (λ (x : Letter). x.awaited) (or_ended mail.letters just_sent (length mail.sent) ∙ or_past mail.letters just_sent (length mail.sent) (let a = m.letters in omega arith));
  }
  new_one (Sleep t) next = record {
    place = length mail.sleeps;
    slept = named_next mail t (Slept (length mail.sleeps)) next;
    lasts = ap (λ i. get_or (mail.lasting ++ true ∷ []) i false) (sym m.flags) ∙ or_last mail.lasting true false;
  }

pub reply_stays : (at : ℕ) (ps : List Posting) (mail : Mail) (from to : Nexts) → ArePosted from ps to → AreNumbered mail.tickets from → IsMail mail → (u : Ticket) → IsReplyOut mail u → IsReplyOut (all_posted at ps mail) u
reply_stays at [] mail from to h a m u out = out
reply_stays at (p ∷ ps) mail from to h a m u out =
    let next = next_in (ticket_in p) mail from h.0 a in
    reply_stays at ps (posted_at at p mail) (used p from) to h.2 (numbered_one at p mail from h.0 a) (mail_one at p mail next m) u (reply_one at mail m p next u out)

pub end_stays : (at : ℕ) (ps : List Posting) (mail : Mail) (from to : Nexts) → ArePosted from ps to → AreNumbered mail.tickets from → IsMail mail → (u : Ticket) → IsEndOut mail u → IsEndOut (all_posted at ps mail) u
end_stays at [] mail from to h a m u out = out
end_stays at (p ∷ ps) mail from to h a m u out =
    let next = next_in (ticket_in p) mail from h.0 a in
    end_stays at ps (posted_at at p mail) (used p from) to h.2 (numbered_one at p mail from h.0 a) (mail_one at p mail next m) u (end_one at mail m p next u out)

-- each that is posted is out
pub posted_out : (at : ℕ) (ps : List Posting) (mail : Mail) (from to : Nexts) → ArePosted from ps to → AreNumbered mail.tickets from → IsMail mail → (k : ℕ) (x : Posting) → k < length ps → get_or ps k x ≡ x → IsPostedIn (all_posted at ps mail) x
posted_out at [] mail from to h a m k x low e = absurd (omega arith)
posted_out at (p ∷ ps) mail from to h a m zero x low e = subst (λ q. IsPostedIn (all_posted at (p ∷ ps) mail) q) e (stays p (new_one at mail m p next))
  where
    next : IsNext mail (ticket_in p)
    next = next_in (ticket_in p) mail from h.0 a

    stays : (q : Posting) → IsPostedIn (posted_at at p mail) q → IsPostedIn (all_posted at ps (posted_at at p mail)) q
    stays (Send t place r askers) out = reply_stays at ps (posted_at at p mail) (used p from) to h.2 (numbered_one at p mail from h.0 a) (mail_one at p mail next m) t out
    stays (Sleep t) out = end_stays at ps (posted_at at p mail) (used p from) to h.2 (numbered_one at p mail from h.0 a) (mail_one at p mail next m) t out
posted_out at (p ∷ ps) mail from to h a m (suc k) x low e =
    posted_out at ps (posted_at at p mail) (used p from) to h.2 (numbered_one at p mail from h.0 a) (mail_one at p mail (next_in (ticket_in p) mail from h.0 a) m) k x (omega arith) e

-- what is posted for a line is out for it
pub as_awaited : (mail : Mail) (x : Posting) (line : ℕ) (a : Awaited) → IsPostedIn mail x → (ticket_in x).line ≡ line → (ticket_in x).beat ≡ false → awaited_as x ≡ a → IsAwaitedIn mail line a
as_awaited mail (Send t to r askers) line a out own calm is =
    subst (λ b. IsAwaitedIn mail line b) is (subst (λ u. IsReplyOut mail u) (λ i. record { line = own i; beat = calm i; number = t.number }) out)
as_awaited mail (Sleep t) line a out own calm is =
    subst (λ b. IsAwaitedIn mail line b) is (subst (λ u. IsEndOut mail u) (λ i. record { line = own i; beat = calm i; number = t.number }) out)

pub as_group : (mail : Mail) (g : Group) (x : Posting) → IsPostedIn mail x → IsAsk g x → IsAskedIn mail g
as_group mail g (Send t to (Tso r) askers) out is = (ap (λ (x : Ticket). x.beat) (sym is.0) ∙ is.2, subst (λ u. IsReplyOut mail u) is.0 out)
as_group mail g _ out is = absurd is
