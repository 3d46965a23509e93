-- Each line keeps what is said of the events and of what became of requests.
use Rattle.std.proofs.Common.{◌≡◌, ℕ, suc, ◌≤◌, inl, inr, Bool, false, if◌then◌else◌, List, [], ◌∷◌, Option, Some, None, length, refl, sym, ap, ◌∙◌, subst, arith}
use Rattle.txn_kv.specs.declared.request.Request.{Request}
use Rattle.txn_kv.specs.declared.ticket.Ticket.{Ticket}
use Rattle.txn_history.specs.Event.{Event}
use Rattle.txn_lines.specs.Lines.{line_at, why_after}
use Rattle.txn_lines.specs.Deeds.{deed_of}
use Rattle.txn_lines.specs.declared.deed.Deed.{Deed}
use Rattle.txn_lines.specs.declared.deed.Deed.TheVariants as deeds
use Rattle.txn_lines.specs.declared.happening.Happening.TheVariants as happenings
use Rattle.txn_lines.specs.declared.line.Line.{Line}
use Rattle.txn_post.proofs.Mails.{opened_is_mail}
use Rattle.txn_post.specs.Mail.{Mail}
use Rattle.txn_report.specs.declared.outcome.Outcome.{Outcome}
use Rattle.txn_machine.specs.Causes.{AllEventsMeet, EventMeets, began, ended_of, is_unfinished, known, role_for, role_of}
use Rattle.txn_machine.specs.Causes.Role.{NoCall}
use Rattle.txn_machine.specs.Lists.{Lists, all_posted, followed, newest, opened, with_mail}
use Rattle.txn_machine.specs.Rows.{AllSleptBefore, AreFates, Caused, Row, outcome_in, role_in}
use Rattle.txn_machine.specs.Rows.Row.{Acted, AskFailed, AskSkipped, AskWaits, Begun, CallFailed, CallSkipped, CallWaits, Happened, Made, Over, Timed, Works}
use Rattle.txn_machine.specs.Running.{AreNumbered, IsOrdered}
use Rattle.txn_machine.specs.Script.{Folded, does, find, history, is_done, outcome_of, with_sends}
use Rattle.txn_machine.specs.Steps.{does_it, done_if}
use Rattle.txn_machine.proofs.Caused.{apart, changes, known_same, mid_count, none_here, over_is, seen_now, some_here}
use Rattle.txn_machine.proofs.Courses.{Course, own_done}
use Rattle.txn_machine.proofs.Events.{event_meets}
use Rattle.txn_machine.proofs.Fates.{Fates, began_by, fates_posted, posted_began, posted_slept, sends_none, slept_more}
use Rattle.txn_machine.proofs.Finds.{found_by, looked_up}
use Rattle.txn_machine.proofs.Folds.{Stepped, ended_mail, history_same}
use Rattle.txn_machine.proofs.Goings.{done_stays}
use Rattle.txn_machine.proofs.Idles.{good_named}
use Rattle.txn_machine.proofs.Happenings.{Keeps, event_fates, from_nexts, mail_keeps}
use Rattle.txn_machine.proofs.Numberings.{line_new, line_old, line_range}
use Rattle.txn_machine.proofs.Numbers.{numbered_opened}

event_over : (r : Row) → role_in r ≡ NoCall → is_unfinished (outcome_in r) ≡ false
event_over (Happened d) h = over_is d
event_over (Made c) h = refl
event_over (Begun k v c m) h = refl
event_over (Timed k v c) h = refl
event_over (AskFailed b k c e) h = refl
event_over (AskSkipped b k) h = refl
event_over (Acted x c) h = refl
event_over (Over x v c) h = refl
event_over (Works x v c) h = refl
event_over (CallFailed b x c e) h = refl
event_over (CallSkipped b x) h = refl
event_over (AskWaits b k c) h = absurd (cc)
event_over (CallWaits b x c) h = absurd (cc)

module _ (asleep : Ticket → Bool) (seen : ℕ → Outcome) (before : List Line) (es : List Event) where
  meets_out : (z : Deed) (x y : Outcome) → (role_for z ≡ NoCall → x ≡ y) → EventMeets asleep seen before es z x → EventMeets asleep seen before es z y
  meets_out deeds.Nothing x y h m = subst (λ w. EventMeets asleep seen before es deeds.Nothing w) (h refl) m
  meets_out (deeds.Happens (happenings.Serve t)) x y h m = subst (λ w. EventMeets asleep seen before es (deeds.Happens (happenings.Serve t)) w) (h refl) m
  meets_out (deeds.Happens (happenings.Answer t)) x y h m = subst (λ w. EventMeets asleep seen before es (deeds.Happens (happenings.Answer t)) w) (h refl) m
  meets_out (deeds.Happens (happenings.Deliver t)) x y h m = subst (λ w. EventMeets asleep seen before es (deeds.Happens (happenings.Deliver t)) w) (h refl) m
  meets_out (deeds.Happens (happenings.Lose t)) x y h m = subst (λ w. EventMeets asleep seen before es (deeds.Happens (happenings.Lose t)) w) (h refl) m
  meets_out (deeds.Happens (happenings.Busy t)) x y h m = subst (λ w. EventMeets asleep seen before es (deeds.Happens (happenings.Busy t)) w) (h refl) m
  meets_out (deeds.Happens (happenings.Wake t)) x y h m = subst (λ w. EventMeets asleep seen before es (deeds.Happens (happenings.Wake t)) w) (h refl) m
  meets_out (deeds.Happens (happenings.Split key)) x y h m = subst (λ w. EventMeets asleep seen before es (deeds.Happens (happenings.Split key)) w) (h refl) m
  meets_out (deeds.Happens (happenings.Lead region to)) x y h m = subst (λ w. EventMeets asleep seen before es (deeds.Happens (happenings.Lead region to)) w) (h refl) m
  meets_out (deeds.Happens (happenings.Clock ms)) x y h m = subst (λ w. EventMeets asleep seen before es (deeds.Happens (happenings.Clock ms)) w) (h refl) m
  meets_out (deeds.Happens (happenings.Crash k)) x y h m = subst (λ w. EventMeets asleep seen before es (deeds.Happens (happenings.Crash k)) w) (h refl) m
  meets_out deeds.Connect x y h m = tt
  meets_out (deeds.Ask client act) x y h m = tt
  meets_out (deeds.Use w act) x y h m = tt

meets_same : (asleep sleeping : Ticket → Bool) (seen know : ℕ → Outcome) (before : List Line) (es fs : List Event) (z : Deed) (x y : Outcome) → asleep ≡ sleeping → seen ≡ know → es ≡ fs → (role_for z ≡ NoCall → x ≡ y) → EventMeets asleep seen before es z x → EventMeets sleeping know before fs z y
meets_same asleep sleeping seen know before es fs z x y a b c d m =
    subst (λ s. EventMeets s know before fs z y) a (subst (λ s. EventMeets asleep s before fs z y) b (subst (λ s. EventMeets asleep seen before s z y) c (meets_out asleep seen before es z x y d m)))

module _ (line : Line) (ls : List Line) (old : Lists) (told : newest old ≡ length ls) (ordered : IsOrdered old) (good : why_after ls line ≡ None) (was : Caused ls old) (folded : Folded ls old)
    (new : Lists) (c : Course (deed_of line) old new) (stepped : Stepped (length ls) (deed_of line) old (followed c.posted c.ended c.mid)) where
  abbrev pub all : Lists
  all = followed c.posted c.ended c.mid

  abbrev pub es : List Event
  es = history old.mail.sent old.outcomes ls

  pub keeps : Keeps (opened old) c.mid.mail
  keeps = mail_keeps (opened old) c.mid.mail (opened_is_mail old.mail ordered.sound.mail) (own_done c.own) (deed_of line) c.mails

  all_mail : all.mail ≡ all_posted (newest c.mid) c.posted c.mid.mail
  all_mail = ended_mail c.ended (with_mail (all_posted (newest c.mid) c.posted c.mid.mail) c.mid)

  count : newest c.mid ≡ suc (length ls)
  count = mid_count line ls old told ordered.even good was.rows new c

  pub posted_mail : all.mail ≡ all_posted (suc (length ls)) c.posted c.mid.mail
  posted_mail = all_mail ∙ ap (λ k. all_posted k c.posted c.mid.mail) count

  pub same_history : (zs : List Line) → length zs ≤ length ls → history old.mail.sent old.outcomes zs ≡ history all.mail.sent all.outcomes zs
  same_history zs low = sym (history_same all.mail.sent old.mail.sent all.outcomes old.outcomes zs (λ j h. stepped.flags j (omega arith)) (λ j h t. stepped.finds j t (omega arith)) (λ j h fs. stepped.sends j fs (omega arith)))

  pub same_began : (k : ℕ) → k ≤ suc (length ls) → ◌≡◌ {A = Ticket → Bool} (λ t. began old.mail.sleeps k t) (λ t. began all.mail.sleeps k t)
  same_began k low = λ i t. sym (ap (λ (x : Mail). began x.sleeps k t) posted_mail ∙ posted_began (suc (length ls)) c.posted c.mid.mail k t low ∙ ap (λ ss. began ss k t) keeps.sleeps) i

  pub same_known : (k : ℕ) → k ≤ suc (length ls) → known old.outcomes old.ended k ≡ known all.outcomes all.ended k
  same_known k low = λ i j. sym (known_same line ls old told ordered.even good was.rows new c k low j) i

  same_outcome : (k : ℕ) (l : Line) → line_at ls k ≡ Some l → role_of l ≡ NoCall → outcome_of old.outcomes k ≡ outcome_of all.outcomes k
  same_outcome k l there role = elim (changes line ls old told ordered.even good was.rows new c k) [
    | inl h ↦ sym (h.0 ∙ before.0)
    | inr h ↦ absurd (let a = sym (ap is_unfinished before.0) ∙ h.0 in let r = was.rows.rows k l there in let b = event_over r.row (r.is ∙ role) in let d = ap is_unfinished r.outcome in cc)
  ]
    where
      before : (outcome_of c.mid.outcomes k ≡ outcome_of old.outcomes k) × (ended_of c.mid.ended k ≡ ended_of old.ended k)
      before = apart line ls old told ordered.even good was.rows new c k (λ e. absurd (let z = (line_range ls k l there).1 in omega arith))

  events_still : (zs : List Line) → length zs ≤ length ls → ((j : ℕ) (l : Line) → line_at zs j ≡ Some l → line_at ls j ≡ Some l) → AllEventsMeet old.mail.sent old.mail.sleeps old.outcomes old.ended zs → AllEventsMeet all.mail.sent all.mail.sleeps all.outcomes all.ended zs
  events_still [] low part m = tt
  events_still (z ∷ zs) low part m = (
    meets_same (λ t. began old.mail.sleeps (suc (length zs)) t) (λ t. began all.mail.sleeps (suc (length zs)) t) (known old.outcomes old.ended (suc (length zs))) (known all.outcomes all.ended (suc (length zs))) zs (history old.mail.sent old.outcomes zs) (history all.mail.sent all.outcomes zs) (deed_of z) (outcome_of old.outcomes (suc (length zs))) (outcome_of all.outcomes (suc (length zs)))
        (same_began (suc (length zs)) (omega arith)) (same_known (suc (length zs)) (omega arith)) (same_history zs (omega arith)) (λ role. same_outcome (suc (length zs)) z (part (suc (length zs)) z (line_new z zs)) role) m.0,
    events_still zs (omega arith) (λ j l there. part j l (line_old z zs j (λ e. absurd (let r = (line_range zs j l there).1 in omega arith)) ∙ there)) m.1,
  )

  sure : role_of line ≡ NoCall → outcome_of all.outcomes (suc (length ls)) ≡ done_if (does_it (deed_of line) (opened old))
  sure role = elim (changes line ls old told ordered.even good was.rows new c (suc (length ls))) [
    | inl h ↦ h.0 ∙ own
    | inr h ↦ absurd (let a = sym (ap is_unfinished own) ∙ h.0 in let b = over_is (does_it (deed_of line) (opened old)) in cc)
  ]
    where
      own : outcome_of c.mid.outcomes (suc (length ls)) ≡ done_if (does_it (deed_of line) (opened old))
      own = (some_here line ls old told ordered.even good was.rows new c (done_if (does_it (deed_of line) (opened old))) (c.sure role)).0

  event_now : EventMeets (λ t. began all.mail.sleeps (suc (length ls)) t) (known all.outcomes all.ended (suc (length ls))) ls (history all.mail.sent all.outcomes ls) (deed_of line) (outcome_of all.outcomes (suc (length ls)))
  event_now = meets_same (λ t. began old.mail.sleeps (suc (length ls)) t) (λ t. began all.mail.sleeps (suc (length ls)) t) (λ k. outcome_of old.outcomes k) (known all.outcomes all.ended (suc (length ls))) ls (history old.mail.sent old.outcomes ls) (history all.mail.sent all.outcomes ls) (deed_of line) (outcome_of all.outcomes (suc (length ls))) (outcome_of all.outcomes (suc (length ls)))
      (same_began (suc (length ls)) (omega arith)) (sym (seen_now line ls old told ordered.even good was.rows new c)) (same_history ls (omega arith)) (λ role. refl)
      (event_meets ls old (λ k. ended_of old.ended k) was.rows was.owned (history old.mail.sent old.outcomes ls) (λ t. began old.mail.sleeps (suc (length ls)) t) was.fates.fates folded.folds.store
      (λ t. began_by old.mail (suc (length ls)) t ordered.sound.mail was.fates.slept) (deed_of line) (outcome_of all.outcomes (suc (length ls))) (good_named ls line good) sure)

  pub events_now : AllEventsMeet all.mail.sent all.mail.sleeps all.outcomes all.ended (line ∷ ls)
  events_now = (event_now, events_still ls (omega arith) (λ j l there. there) was.events)

  -- What became of requests.

  own_flag : (own : Option Outcome) → c.own ≡ own → own_done own ≡ is_done (outcome_of c.mid.outcomes (suc (length ls)))
  own_flag None e = sym (ap is_done (none_here line ls old told ordered.even good was.rows new c e).0)
  own_flag (Some x) e = sym (ap is_done (some_here line ls old told ordered.even good was.rows new c x e).0)

  flag : own_done c.own ≡ is_done (outcome_of all.outcomes (suc (length ls)))
  flag = own_flag c.own refl ∙ done_stays (suc (length ls)) (outcome_of c.mid.outcomes (suc (length ls))) (outcome_of all.outcomes (suc (length ls))) (ended_of c.mid.ended (suc (length ls))) (ended_of all.ended (suc (length ls))) (changes line ls old told ordered.even good was.rows new c (suc (length ls)))

  abbrev pub looks : Ticket → Option Request
  looks t = find all.mail.sent (suc (length ls)) t

  pub looked : (t : Ticket) → looks t ≡ looked_up old.mail t
  looked t = stepped.finds (suc (length ls)) t (omega arith) ∙ found_by old.mail (suc (length ls)) t ordered.sound.mail folded.before

  abbrev pub happened : List Event
  happened = if own_done c.own then does looks (deed_of line) es else es

  mid_fates : Fates (with_sends c.mid.mail.sent (suc (length ls)) happened) c.mid.mail
  mid_fates = subst (λ fs. Fates fs c.mid.mail) (sym (ap (λ ss. with_sends ss (suc (length ls)) happened) keeps.sent ∙ sends_none old.mail.sent (suc (length ls)) happened folded.before))
      (event_fates old es c.mid.mail ordered.sound.mail was.fates.fates folded.folds.store looks looked (own_done c.own) (deed_of line) c.mails)

  numbered : AreNumbered c.mid.mail.tickets c.from.nexts
  numbered = subst (λ ts. AreNumbered ts c.from.nexts) (sym keeps.tickets) (subst (λ ns. AreNumbered (opened old).mail.tickets ns) (sym (from_nexts (role_of line) (deed_of line) c.own c.ended (opened old).sight c.from c.begins)) (numbered_opened old.mail.tickets old.sight.nexts ordered.even.numbered))

  end_fates : Fates (with_sends all.mail.sent (suc (length ls)) happened) all.mail
  end_fates = subst (λ (x : Mail). Fates (with_sends x.sent (suc (length ls)) happened) x) (sym posted_mail) (fates_posted (suc (length ls)) c.posted c.mid.mail happened c.from.nexts c.mid.sight.nexts c.goes.numbers numbered keeps.is mid_fates)

  pub history_now : with_sends all.mail.sent (suc (length ls)) happened ≡ history all.mail.sent all.outcomes (line ∷ ls)
  history_now = λ i. with_sends all.mail.sent (suc (length ls)) (if flag i then does looks (deed_of line) (same_history ls (omega arith) i) else same_history ls (omega arith) i)

  pub fates_now : AreFates (history all.mail.sent all.outcomes (line ∷ ls)) (suc (suc (length ls))) all.mail
  fates_now = record {
    fates = subst (λ fs. Fates fs all.mail) history_now end_fates;
    slept = subst (λ (x : Mail). AllSleptBefore (suc (suc (length ls))) x.sleeps) (sym posted_mail)
        (posted_slept (suc (length ls)) c.posted c.mid.mail (suc (suc (length ls))) (omega arith) (subst (λ ss. AllSleptBefore (suc (suc (length ls))) ss) (sym keeps.sleeps) (slept_more (suc (length ls)) old.mail.sleeps was.fates.slept)));
  }
