-- Each line keeps what is said of events and of what became of requests.
use Rattle.std.proofs.Common.{◌≡◌, ℕ, inl, inr, Bool, true, false, if◌then◌else◌, List, ◌∷◌, Option, Some, None, slice_get, refl, sym, ap, ◌∙◌, subst}
use Rattle.txn_kv.specs.declared.reply.Reply.{Reply}
use Rattle.txn_kv.specs.declared.request.Request.{Request}
use Rattle.txn_kv.specs.declared.ticket.Ticket.{Ticket}
use Rattle.txn_history.specs.Busy.{busy_reply}
use Rattle.txn_history.specs.Event.{Event, kept_reply, same_ticket}
use Rattle.txn_history.specs.Event.Event.{Clocked, Crashed, Led, Refused, Split}
use Rattle.txn_history.specs.Event.Event.{Slept as Woke}
use Rattle.txn_law.specs.Run.{store_after}
use Rattle.txn_lines.specs.declared.deed.Deed.{Deed}
use Rattle.txn_lines.specs.declared.deed.Deed.TheVariants as deeds
use Rattle.txn_lines.specs.declared.happening.Happening.TheVariants as happenings
use Rattle.txn_model.specs.Store.{Store}
use Rattle.txn_model.specs.Table.{table}
use Rattle.txn_post.proofs.Mails.{changed_is_mail, opened_is_mail, waked_is_mail}
use Rattle.txn_post.proofs.Naming.{opened_leads}
use Rattle.txn_post.specs.Mail.{IsMail, Mail, as_sent, changing, delivering, keeping, letter_at, losing, place_of, refusing, taking, waking}
use Rattle.txn_post.specs.declared.letter.Letter.{Letter}
use Rattle.txn_report.specs.declared.outcome.Outcome.{Outcome}
use Rattle.txn_side.specs.Sight.{Sight}
use Rattle.txn_side.specs.declared.turn.Ending.{Ending}
use Rattle.txn_machine.specs.Causes.{Role}
use Rattle.txn_machine.specs.Causes.Role.{AsksTime, MakesClient, NoCall, UsesTransaction}
use Rattle.txn_machine.specs.Lists.{Lists, opened, reply_at, request_in}
use Rattle.txn_machine.specs.Rows.{IsFate}
use Rattle.txn_machine.specs.Script.{does, loses, refuses, refuses_it, serves, takes, takes_it}
use Rattle.txn_machine.proofs.Courses.{Begins, Falls, MailGoes}
use Rattle.txn_machine.proofs.Fates.{Fates, Same, answer_fate, deliver_fate, fate_of, fates_changed, fates_opened, fates_same, fates_woken, lose_fate, lost_apart, refuse_fate, refused_apart, same_none, same_then, serve_fate, served_apart, took_apart}
use Rattle.txn_machine.proofs.Finds.{looked_up}
use Rattle.txn_machine.proofs.Folds.{asked}

-- An event is about its own request.

module _ (t u : Ticket) (q : same_ticket t u ≡ false) where
  serves_apart : (o : Option Request) (es : List Event) → Same es (serves t o es) u
  serves_apart None es = same_none es u
  serves_apart (Some r) es = served_apart t u q es r (table (store_after es) r).reply

  takes_apart : (o : Option Request) (es : List Event) → Same es (takes t o es) u
  takes_apart None es = same_none es u
  takes_apart (Some r) es = by (kept_reply es t)
    where
      by : (k : Option Reply) → Same es (takes_it t r k es) u
      by None = same_none es u
      by (Some o) = took_apart t u q es r o

  refuses_apart : (o : Option Request) (es : List Event) → Same es (refuses t o es) u
  refuses_apart None es = same_none es u
  refuses_apart (Some r) es = by (busy_reply r)
    where
      by : (k : Option Reply) → Same es (refuses_it t r k es) u
      by None = same_none es u
      by (Some o) = same_then es (Refused t r o ∷ es) (takes_it t r (Some o) (Refused t r o ∷ es)) u (refused_apart t u q es r o) (took_apart t u q (Refused t r o ∷ es) r o)

  loses_apart : (o : Option Request) (es : List Event) → Same es (loses t o es) u
  loses_apart None es = same_none es u
  loses_apart (Some r) es = lost_apart t u q es r

-- What a line leaves of the mail.

pub record Keeps (l : Lists) (mail : Mail) : Type 0 where
  pub is : IsMail mail
  pub tickets : mail.tickets ≡ l.mail.tickets
  pub sent : mail.sent ≡ l.mail.sent
  pub sleeps : mail.sleeps ≡ l.mail.sleeps

module _ (l : Lists) (mail : Mail) (m : IsMail l.mail) where
  keeps_same : mail ≡ l.mail → Keeps l mail
  keeps_same e = subst (λ x. Keeps l x) (sym e) (record { is = m; tickets = refl; sent = refl; sleeps = refl })

  keeps_change : (change : Letter → Letter) (place : ℕ) → mail ≡ changing change place l.mail → Keeps l mail
  keeps_change change place e = subst (λ x. Keeps l x) (sym e) (record { is = changed_is_mail change place l.mail m; tickets = refl; sent = refl; sleeps = refl })

  keeps_wake : (place : ℕ) → mail ≡ waking place l.mail → Keeps l mail
  keeps_wake place e = subst (λ x. Keeps l x) (sym e) (record { is = waked_is_mail place l.mail m; tickets = refl; sent = refl; sleeps = refl })

  pub mail_keeps : (d : Bool) (deed : Deed) → MailGoes d deed l mail → Keeps l mail
  mail_keeps false deed g = keeps_same g
  mail_keeps true (deeds.Happens (happenings.Serve t)) g = keeps_change (keeping (reply_at l g.place)) g.place g.is
  mail_keeps true (deeds.Happens (happenings.Answer t)) g = keeps_change taking g.place g.is
  mail_keeps true (deeds.Happens (happenings.Deliver t)) g = keeps_change delivering g.place g.is
  mail_keeps true (deeds.Happens (happenings.Lose t)) g = keeps_change losing g.place g.is
  mail_keeps true (deeds.Happens (happenings.Busy t)) g = keeps_change refusing g.place g.is
  mail_keeps true (deeds.Happens (happenings.Wake t)) g = keeps_wake g.place g.is
  mail_keeps true deed g = keeps_same g

pub from_nexts : (r : Role) (deed : Deed) (own : Option Outcome) (ended : List Ending) (s from : Sight) → Begins r deed own ended s from → from.nexts ≡ s.nexts
from_nexts MakesClient deed own ended s from h = ap (λ (x : Sight). x.nexts) h.begun
from_nexts (AsksTime b k) deed own ended s from h = elim h [ inl i ↦ ap (λ (x : Sight). x.nexts) i.same | inr i ↦ ap (λ (x : Sight). x.nexts) i.begun ]
from_nexts (UsesTransaction b x) deed own ended s from h = elim h [ inl i ↦ ap (λ (x : Sight). x.nexts) i.same | inr i ↦ ap (λ (x : Sight). x.nexts) i.begun ]
from_nexts NoCall deed own ended s from h = falls deed h.done h.falls
  where
    falls : (deed : Deed) (d : Bool) → Falls deed d s from → from.nexts ≡ s.nexts
    falls (deeds.Happens (happenings.Crash k)) d f = ap (λ (x : Sight). x.nexts) f.1
    falls deed d f = ap (λ (x : Sight). x.nexts) f

-- What a line makes of the fates.

module _ (old : Lists) (es : List Event) (mail : Mail) (m : IsMail old.mail) (was : Fates es old.mail) (store : old.store ≡ store_after es)
    (looks : Ticket → Option Request) (looked : (t : Ticket) → looks t ≡ looked_up old.mail t) where
  opened_mail : IsMail (opened old).mail
  opened_mail = opened_is_mail old.mail m

  opened_fates : Fates es (opened old).mail
  opened_fates = fates_opened es old.mail was

  request_is : (t : Ticket) (k : ℕ) → as_sent (place_of (opened old).mail.tickets t) ≡ Some k → looks t ≡ Some (request_in (slice_get old.mail.sent k))
  request_is t k named = looked t ∙ asked old t k m (ap as_sent (sym (opened_leads old.mail.tickets t)) ∙ named)

  own_fate : (t : Ticket) (k : ℕ) → as_sent (place_of (opened old).mail.tickets t) ≡ Some k → IsFate es t (request_in (slice_get old.mail.sent k)) (letter_at old.mail k)
  own_fate t k named = fate_of es (opened old).mail opened_mail opened_fates t k named

  same_fates : (fs : List Event) → ((t : Ticket) → Same es fs t) → mail ≡ (opened old).mail → Fates fs mail
  same_fates fs same e = subst (λ x. Fates fs x) (sym e) (fates_same es (opened old).mail opened_mail opened_fates fs same)

  changed_fates : (t : Ticket) (fs : List Event) (k : ℕ) (change : Letter → Letter) → ((u : Ticket) → same_ticket t u ≡ false → Same es fs u) → as_sent (place_of (opened old).mail.tickets t) ≡ Some k → IsFate fs t (request_in (slice_get old.mail.sent k)) (change (letter_at old.mail k)) → mail ≡ changing change k (opened old).mail → Fates fs mail
  changed_fates t fs k change others named own e = subst (λ x. Fates fs x) (sym e) (fates_changed es (opened old).mail opened_mail opened_fates t fs others k change named own)

  done_fates : (deed : Deed) → MailGoes true deed (opened old) mail → Fates (does looks deed es) mail
  done_fates (deeds.Happens (happenings.Serve t)) g =
      let r = request_in (slice_get old.mail.sent g.place) in
      let reply : (table (store_after es) r).reply ≡ reply_at (opened old) g.place = ap (λ (s : Store). (table s (request_in (slice_get old.mail.sent g.place))).reply) (sym store) in
      changed_fates t (serves t (looks t) es) g.place (keeping (reply_at (opened old) g.place)) (λ u q. serves_apart t u q (looks t) es) g.sent
      (subst (λ o. IsFate (serves t o es) t (request_in (slice_get old.mail.sent g.place)) (keeping (reply_at (opened old) g.place) (letter_at old.mail g.place))) (sym (request_is t g.place g.sent))
      (subst (λ o. IsFate (serves t (Some (request_in (slice_get old.mail.sent g.place))) es) t (request_in (slice_get old.mail.sent g.place)) (keeping o (letter_at old.mail g.place))) reply
      (serve_fate t (request_in (slice_get old.mail.sent g.place)) es (letter_at old.mail g.place) (own_fate t g.place g.sent) _)))
      g.is
  done_fates (deeds.Happens (happenings.Answer t)) g =
      changed_fates t (takes t (looks t) es) g.place taking (λ u q. takes_apart t u q (looks t) es) g.sent
      (subst (λ o. IsFate (takes t o es) t (request_in (slice_get old.mail.sent g.place)) (taking (letter_at old.mail g.place))) (sym (request_is t g.place g.sent))
      (answer_fate t (request_in (slice_get old.mail.sent g.place)) es (letter_at old.mail g.place) (own_fate t g.place g.sent) g.reply g.awaited g.kept))
      g.is
  done_fates (deeds.Happens (happenings.Deliver t)) g =
      changed_fates t (takes t (looks t) (serves t (looks t) es)) g.place delivering (λ u q. same_then es (serves t (looks t) es) (takes t (looks t) (serves t (looks t) es)) u (serves_apart t u q (looks t) es) (takes_apart t u q (looks t) (serves t (looks t) es))) g.sent
      (subst (λ o. IsFate (takes t o (serves t o es)) t (request_in (slice_get old.mail.sent g.place)) (delivering (letter_at old.mail g.place))) (sym (request_is t g.place g.sent))
      (deliver_fate t (request_in (slice_get old.mail.sent g.place)) es (letter_at old.mail g.place) (own_fate t g.place g.sent)))
      g.is
  done_fates (deeds.Happens (happenings.Lose t)) g =
      changed_fates t (loses t (looks t) es) g.place losing (λ u q. loses_apart t u q (looks t) es) g.sent
      (subst (λ o. IsFate (loses t o es) t (request_in (slice_get old.mail.sent g.place)) (losing (letter_at old.mail g.place))) (sym (request_is t g.place g.sent))
      (lose_fate t (request_in (slice_get old.mail.sent g.place)) es (letter_at old.mail g.place) (own_fate t g.place g.sent)))
      g.is
  done_fates (deeds.Happens (happenings.Busy t)) g =
      changed_fates t (refuses t (looks t) es) g.place refusing (λ u q. refuses_apart t u q (looks t) es) g.sent
      (subst (λ o. IsFate (refuses t o es) t (request_in (slice_get old.mail.sent g.place)) (refusing (letter_at old.mail g.place))) (sym (request_is t g.place g.sent))
      (refuse_fate t (request_in (slice_get old.mail.sent g.place)) es (letter_at old.mail g.place) (own_fate t g.place g.sent) g.reply g.busy))
      g.is
  done_fates (deeds.Happens (happenings.Wake t)) g = subst (λ x. Fates (Woke t ∷ es) x) (sym g.is) (fates_woken es (opened old).mail opened_mail opened_fates t g.place g.slept)
  done_fates (deeds.Happens (happenings.Split key)) g = same_fates (Split key ∷ es) (λ t. record { sent = refl; kept = refl; taken = refl; refused = refl; lost = refl; woken = refl }) g
  done_fates (deeds.Happens (happenings.Lead region to)) g = same_fates (Led region to ∷ es) (λ t. record { sent = refl; kept = refl; taken = refl; refused = refl; lost = refl; woken = refl }) g
  done_fates (deeds.Happens (happenings.Clock ms)) g = same_fates (Clocked ms ∷ es) (λ t. record { sent = refl; kept = refl; taken = refl; refused = refl; lost = refl; woken = refl }) g
  done_fates (deeds.Happens (happenings.Crash k)) g = same_fates (Crashed k ∷ es) (λ t. record { sent = refl; kept = refl; taken = refl; refused = refl; lost = refl; woken = refl }) g
  done_fates deed g = same_fates es (λ t. same_none es t) g

  pub event_fates : (d : Bool) (deed : Deed) → MailGoes d deed (opened old) mail → Fates (if d then does looks deed es else es) mail
  event_fates true deed g = done_fates deed g
  event_fates false deed g = same_fates es (λ t. same_none es t) g
