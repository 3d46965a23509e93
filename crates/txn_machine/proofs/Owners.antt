-- What was posted is of lines that have a client.
use Rattle.std.proofs.Common.{◌≡◌, ◌≢◌, ℕ, suc, ◌-◌, ◌≤◌, ◌⊎◌, inl, inr, Bool, true, List, [], ◌∷◌, Option, Some, None, length, get_or, set, refl, sym, ap, ◌∙◌, subst, arith}
use Rattle.std.specs.List.{All}
use Rattle.txn_kv.specs.declared.ticket.Ticket.{Ticket}
use Rattle.txn_lines.specs.Lines.{why_after}
use Rattle.txn_lines.specs.Deeds.{deed_of}
use Rattle.txn_lines.specs.declared.deed.Deed.{Deed}
use Rattle.txn_lines.specs.declared.deed.Deed.TheVariants as deeds
use Rattle.txn_lines.specs.declared.happening.Happening.TheVariants as happenings
use Rattle.txn_lines.specs.declared.line.Line.{Line}
use Rattle.txn_post.proofs.Mails.{opened_is_mail}
use Rattle.txn_post.proofs.Naming.{named_pushed, opened_leads}
use Rattle.txn_post.specs.Mail.{IsMail, IsNext, Mail, place_of}
use Rattle.txn_post.specs.declared.post.Place.{Place}
use Rattle.txn_post.specs.declared.post.Place.TheVariants.{Sent, Slept}
use Rattle.txn_side.specs.Sight.{ArePosted, Nexts, Sight, Stand, client_at, connected, line_count, lives, stand_at, ticket_in, with_stand}
use Rattle.txn_side.specs.Sight.Stand.{Asking, Calling, HasBegun, IsClient}
use Rattle.txn_side.specs.declared.turn.Posting.{Posting}
use Rattle.txn_side.specs.declared.turn.Posting.TheVariants.{Send, Sleep}
use Rattle.txn_machine.specs.Causes.{Role, ended_of, role_of}
use Rattle.txn_machine.specs.Causes.Role.{AsksTime, MakesClient, NoCall, UsesTransaction}
use Rattle.txn_machine.specs.Lists.{Lists, all_posted, followed, newest, opened, posted_at, with_mail}
use Rattle.txn_machine.specs.Rows.{AreOwned, AreRows}
use Rattle.txn_machine.specs.Running.{AreNumbered, IsOrdered}
use Rattle.txn_machine.specs.Script.{outcome_of}
use Rattle.txn_machine.proofs.Calms.{same_line, stand_opened, stand_other}
use Rattle.txn_machine.proofs.Caused.{lined, set_other}
use Rattle.txn_machine.proofs.Courses.{Begins, Course, Falls, IsCalled, own_done}
use Rattle.txn_machine.proofs.Folds.{ended_mail, ended_sight}
use Rattle.txn_machine.proofs.Goings.{client_stays}
use Rattle.txn_machine.proofs.Happenings.{Keeps, from_nexts, mail_keeps}
use Rattle.txn_machine.proofs.Idles.{Names, names}
use Rattle.txn_machine.proofs.Numberings.{line_ahead, line_range, stand_set}
use Rattle.txn_machine.proofs.Numbers.{mail_one, next_in, numbered_one, numbered_opened, used}

-- something of all lines under whose tickets something was posted
pub posted_owned : (Has : ℕ → Type 0) (at : ℕ) (ps : List Posting) (mail : Mail) (from to : Nexts) → ArePosted from ps to → AreNumbered mail.tickets from → IsMail mail
    → All (λ (p : Posting). Has (ticket_in p).line) ps → ((t : Ticket) (p : Place) → place_of mail.tickets t ≡ Some p → Has t.line)
    → (t : Ticket) (p : Place) → place_of (all_posted at ps mail).tickets t ≡ Some p → Has t.line
posted_owned Has at [] mail from to h a m all own t p e = own t p e
posted_owned Has at (q ∷ ps) mail from to h a m all own t p e =
    posted_owned Has at ps (posted_at at q mail) (used q from) to h.2 (numbered_one at q mail from h.0 a) (mail_one at q mail (next_in (ticket_in q) mail from h.0 a) m)
    (λ k d low. all (suc k) d (omega arith)) (one q (next_in (ticket_in q) mail from h.0 a) (all 0 q (omega arith))) t p e
  where
    one : (q : Posting) → IsNext mail (ticket_in q) → Has (ticket_in q).line → (t : Ticket) (p : Place) → place_of (posted_at at q mail).tickets t ≡ Some p → Has t.line
    one (Send u to r askers) next has t p e = elim (named_pushed mail u t (Sent (length mail.sent)) p next e) [ inl old ↦ own t p old | inr new ↦ subst (λ (x : Ticket). Has x.line) (sym new.0) has ]
    one (Sleep u) next has t p e = elim (named_pushed mail u t (Slept (length mail.sleeps)) p next e) [ inl old ↦ own t p old | inr new ↦ subst (λ (x : Ticket). Has x.line) (sym new.0) has ]

pub has_client : (crashed : List Bool) (o : Option ℕ) → lives crashed o ≡ true → (c : ℕ) × (o ≡ Some c)
has_client crashed None h = absurd (cc)
has_client crashed (Some c) h = (c, refl)

falls_stands : (deed : Deed) (d : Bool) (s from : Sight) → Falls deed d s from → from.stands ≡ s.stands
falls_stands (deeds.Happens (happenings.Crash k)) d s from f = ap (λ (x : Sight). x.stands) f.1
falls_stands deed d s from f = ap (λ (x : Sight). x.stands) f

module _ (line : Line) (ls : List Line) (old : Lists) (told : newest old ≡ length ls) (ordered : IsOrdered old) (good : why_after ls line ≡ None)
    (was : AreRows ls (λ n. outcome_of old.outcomes n) (λ n. ended_of old.ended n) (λ n. stand_at old.sight.stands n) old.sight.crashed)
    (owned : AreOwned old.mail old.sight.stands)
    (new : Lists) (c : Course (deed_of line) old new) where
  abbrev st : ℕ → Stand
  st n = stand_at old.sight.stands n

  abbrev s : Sight
  s = (opened old).sight

  abbrev Stays : List Stand → Type 0
  Stays stands = (n : ℕ) → n ≢ suc (length ls) → client_at (stand_at stands n) ≡ client_at (st n)

  from_opened : Stays s.stands
  from_opened n far = ap client_at (stand_opened old.sight.stands n)

  from_set : (x : Stand) → Stays (set s.stands (line_count s - 1) x)
  from_set x n far = ap client_at (set_other line ls old told ordered.even good was new c x n far)

  from_called : (b : Bool) (x : ℕ) → 1 ≤ x → x ≤ length ls → (a : IsCalled x b c.own c.ended s c.from) → Stays (set (set s.stands (x - 1) (HasBegun a.client (line_count s))) (line_count s - 1) (Calling a.client x b))
  from_called b x low high a n far = ap client_at (stand_other (set s.stands (x - 1) (HasBegun a.client (line_count s))) (line_count s) n (Calling a.client x b) (let k = count in omega arith) (λ h. far (h ∙ count))) ∙ by (same_line x n)
    where
      count : line_count s ≡ suc (length ls)
      count = lined line ls old told ordered.even good was new c

      free : client_at (st x) ≡ Some a.client
      free = ap client_at (sym (stand_opened old.sight.stands x) ∙ a.free)

      here : stand_at (set s.stands (x - 1) (HasBegun a.client (line_count s))) x ≡ HasBegun a.client (line_count s)
      here = stand_set s.stands x (HasBegun a.client (line_count s)) low (let k = count in omega arith)

      by : (n ≡ x) ⊎ (n ≢ x) → client_at (stand_at (set s.stands (x - 1) (HasBegun a.client (line_count s))) n) ≡ client_at (st n)
      by (inl e) = ap (λ k. client_at (stand_at (set s.stands (x - 1) (HasBegun a.client (line_count s))) k)) e ∙ ap client_at here ∙ sym free ∙ ap (λ k. client_at (st k)) (sym e)
      by (inr off) = ap client_at (stand_other s.stands x n (HasBegun a.client (line_count s)) low off ∙ stand_opened old.sight.stands n)

  from_stays : Stays c.from.stands
  from_stays = by (role_of line) (names ls line good) c.begins
    where
      so : (x : Sight) → c.from ≡ x → Stays x.stands → Stays c.from.stands
      so x is h = subst (λ (z : Sight). Stays z.stands) (sym is) h

      by : (r : Role) → Names ls r → Begins r (deed_of line) c.own c.ended s c.from → Stays c.from.stands
      by MakesClient named h = so (connected s) h.begun (from_set (IsClient (length old.sight.crashed)))
      by (AsksTime b k) named h = elim h [
        | inl i ↦ so s i.same from_opened
        | inr a ↦ so (with_stand (line_count s) (Asking a.client b) s) a.begun (from_set (Asking a.client b))
      ]
      by (UsesTransaction b x) named h = elim h [
        | inl i ↦ so s i.same from_opened
        | inr a ↦
            let range = line_range ls x named.line named.is in
            so (with_stand (line_count s) (Calling a.client x b) (with_stand x (HasBegun a.client (line_count s)) s)) a.begun (from_called b x range.0 range.1 a)
      ]
      by NoCall named h = subst Stays (sym (falls_stands (deed_of line) h.done s c.from h.falls)) from_opened

  abbrev Has : List Stand → ℕ → Type 0
  Has stands n = (k : ℕ) × (client_at (stand_at stands n) ≡ Some k)

  from_has : (n : ℕ) → Has old.sight.stands n → Has c.from.stands n
  from_has n h = (h.0, from_stays n (λ here. absurd (empty here)) ∙ h.1)
    where
      empty : n ≡ suc (length ls) → ⊥
      empty here =
          let a : client_at (st n) ≡ None = ap (λ k. client_at (st k)) here ∙ ap client_at (was.none (suc (length ls)) (line_ahead ls (suc (length ls)) (omega arith))).at in
          let b = sym a ∙ h.1 in
          cc

  mid_has : (n : ℕ) → Has c.from.stands n → Has c.mid.sight.stands n
  mid_has n h = (h.0, client_stays c.ended n (stand_at c.from.stands n) (stand_at c.mid.sight.stands n) (c.goes.lines n) ∙ h.1)

  abbrev all : Lists
  all = followed c.posted c.ended c.mid

  keeps : Keeps (opened old) c.mid.mail
  keeps = mail_keeps (opened old) c.mid.mail (opened_is_mail old.mail ordered.sound.mail) (own_done c.own) (deed_of line) c.mails

  numbered : AreNumbered c.mid.mail.tickets c.from.nexts
  numbered = subst (λ ts. AreNumbered ts c.from.nexts) (sym keeps.tickets) (subst (λ ns. AreNumbered (opened old).mail.tickets ns) (sym (from_nexts (role_of line) (deed_of line) c.own c.ended (opened old).sight c.from c.begins)) (numbered_opened old.mail.tickets old.sight.nexts ordered.even.numbered))

  posting_has : All (λ (p : Posting). Has c.mid.sight.stands (ticket_in p).line) c.posted
  posting_has k d low = mid_has (ticket_in (get_or c.posted k d)).line (has_client c.from.crashed (client_at (stand_at c.from.stands (ticket_in (get_or c.posted k d)).line)) (c.goes.posting k d low))

  mid_owned : (t : Ticket) (p : Place) → place_of c.mid.mail.tickets t ≡ Some p → Has c.mid.sight.stands t.line
  mid_owned t p e = mid_has t.line (from_has t.line (owned.owner t p (sym (opened_leads old.mail.tickets t) ∙ ap (λ ts. place_of ts t) (sym keeps.tickets) ∙ e)))

  pub owned_now : AreOwned all.mail all.sight.stands
  owned_now = subst (λ (m : Mail). AreOwned m all.sight.stands) (sym (ended_mail c.ended (with_mail (all_posted (newest c.mid) c.posted c.mid.mail) c.mid)))
      (subst (λ (z : Sight). AreOwned (all_posted (newest c.mid) c.posted c.mid.mail) z.stands) (sym (ended_sight c.ended (with_mail (all_posted (newest c.mid) c.posted c.mid.mail) c.mid)))
      (record { owner = posted_owned (Has c.mid.sight.stands) (newest c.mid) c.posted c.mid.mail c.from.nexts c.mid.sight.nexts c.goes.numbers numbered keeps.is posting_has mid_owned }))
