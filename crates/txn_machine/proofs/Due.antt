-- After each line something is out for each call that is open.
use Rattle.std.proofs.Common.{◌≡◌, ℕ, suc, ◌≤◌, ◌⊎◌, inl, inr, Bool, true, false, not, List, [], ◌∷◌, Some, None, length, is_some, nat_eq, refl, sym, ap, ◌∙◌, subst, arith}
use Rattle.std.proofs.lemmas.Bool.Decides.{nat_tests}
use Rattle.txn_kv.specs.declared.ticket.Ticket.{Ticket}
use Rattle.txn_history.specs.Event.{Event, is_awaited}
use Rattle.txn_lines.specs.Lines.{line_at, why_after}
use Rattle.txn_lines.specs.Deeds.{deed_of}
use Rattle.txn_lines.specs.declared.line.Line.{Line}
use Rattle.txn_post.specs.Mail.{IsMail, as_sent, as_slept, place_of}
use Rattle.txn_report.specs.declared.outcome.Outcome.{Outcome}
use Rattle.txn_side.specs.Sight.{Stand, client_at, lives, stand_at}
use Rattle.txn_side.specs.Waiting.{Awaited, HasGroup, waiting_at}
use Rattle.txn_side.specs.Waiting as sides
use Rattle.txn_side.specs.Waiting.Awaited.{EndOf, ReplyTo}
use Rattle.txn_machine.specs.Causes.{began, client_of, ended_of, is_unfinished, known}
use Rattle.txn_machine.specs.Dues.{AreDue, AreOut, Dues, IsAwaitedIn, IsDue, IsReplyOut, OracleIsOut, RequestIsOut, SleepIsOut}
use Rattle.txn_machine.specs.Lists.{Lists, followed, newest, request_in}
use Rattle.txn_machine.specs.Rows.{Caused, Fate, Row, outcome_in, stand_in}
use Rattle.txn_machine.specs.Rows.Row.{Acted, AskFailed, AskSkipped, AskWaits, Begun, CallFailed, CallSkipped, CallWaits, Happened, Made, Over, Timed, Works}
use Rattle.txn_machine.specs.Running.{IsOrdered}
use Rattle.txn_machine.specs.Script.{Folded, history, outcome_of}
use Rattle.txn_machine.specs.Steps.{Steps}
use Rattle.txn_machine.specs.Times.{Timely}
use Rattle.txn_machine.proofs.Calms.{same_line}
use Rattle.txn_machine.proofs.Carried.{same_began, same_history, same_known}
use Rattle.txn_machine.proofs.Caused.{known_past, over_is}
use Rattle.txn_machine.proofs.Courses.{Course, course}
use Rattle.txn_machine.proofs.Fates.{began_by, fate_of}
use Rattle.txn_machine.proofs.Folds.{Stepped, stepped}
use Rattle.txn_machine.proofs.Idles.{live_of}
use Rattle.txn_machine.proofs.Numberings.{has_line, line_new, line_old}
use Rattle.txn_machine.proofs.Timing.{noted_there}

-- A call that is open stands as one that waits.
open_row : (r : Row) → is_unfinished (outcome_in r) ≡ true → (c : ℕ) × (waiting_at (stand_in r) ≡ Some c) × (client_at (stand_in r) ≡ Some c)
open_row (AskWaits b k c) h = (c, refl, refl)
open_row (CallWaits b x c) h = (c, refl, refl)
open_row (Happened d) h = absurd (let a = over_is d in cc)
open_row (Made c) h = absurd (cc)
open_row (Begun k v c m) h = absurd (cc)
open_row (Timed k v c) h = absurd (cc)
open_row (AskFailed b k c e) h = absurd (cc)
open_row (AskSkipped b k) h = absurd (cc)
open_row (Acted x c) h = absurd (cc)
open_row (Over x v c) h = absurd (cc)
open_row (Works x v c) h = absurd (cc)
open_row (CallFailed b x c e) h = absurd (cc)
open_row (CallSkipped b x) h = absurd (cc)

line_there : (ls : List Line) (n : ℕ) → 1 ≤ n → n ≤ length ls → (l : Line) × (line_at ls n ≡ Some l)
line_there [] n one most = absurd (omega arith)
line_there (l ∷ ls) n one most = elim (same_line (suc (length ls)) n) [
  | inl e ↦ (l, ap (λ k. line_at (l ∷ ls) k) e ∙ line_new l ls)
  | inr far ↦ let h = line_there ls n one (omega arith) in (h.0, line_old l ls n far ∙ h.1)
]

-- The newest line.

module _ (script : List Line) (l : Lists) (waits : ℕ → Awaited → Type 0) (m : IsMail l.mail) (caused : Caused script l) (timely : Timely script l) (out : AreOut waits l) (due : sides.IsDue waits l.sight) where
  abbrev es : List Event
  es = history l.mail.sent l.outcomes script

  abbrev o : ℕ → Outcome
  o n = outcome_of l.outcomes n

  abbrev e : ℕ → ℕ
  e n = ended_of l.ended n

  abbrev st : ℕ → Stand
  st n = stand_at l.sight.stands n

  abbrev asleep : Ticket → Bool
  asleep t = began l.mail.sleeps (suc (length script)) t

  ended_low : (j : ℕ) → e j ≤ length script
  ended_low j = elim (has_line script j) [ inl h ↦ (let a = (caused.rows.none j h).ended in omega arith) | inr h ↦ (caused.rows.ended j h.0 h.1).within ]

  unfinished_now : (j : ℕ) → is_unfinished (o j) ≡ nat_eq (e j) 0
  unfinished_now j = elim (has_line script j) [
    | inl h ↦ ap is_unfinished (caused.rows.none j h).outcome ∙ sym (let a = (caused.rows.none j h).ended in grind (arith, nat_tests))
    | inr h ↦ (caused.rows.ended j h.0 h.1).unfinished
  ]

  -- all that came is known after the newest line
  seen_all : known l.outcomes l.ended (suc (length script)) ≡ o
  seen_all = λ i j. known_past (e j) (length script) (o j) (ended_low j) (unfinished_now j) i

  reply_awaited : (t : Ticket) → IsReplyOut l.mail t → is_awaited es t ≡ true
  reply_awaited t r = (fate_of es l.mail m caused.fates.fates t r.place (ap as_sent r.sent)).awaited ∙ r.awaited

  own_out : (n : ℕ) (a : Awaited) → IsAwaitedIn l.mail n a → RequestIsOut es n ⊎ SleepIsOut asleep es n ⊎ OracleIsOut script es n
  own_out n (ReplyTo number) r = inl (record { ticket = record { line = n; beat = false; number = number }; own = refl; no_beat = refl; out = reply_awaited (record { line = n; beat = false; number = number }) r })
  own_out n (EndOf number) r = inr (inl (record {
    ticket = record { line = n; beat = false; number = number };
    own = refl;
    no_beat = refl;
    begun = began_by l.mail (suc (length script)) (record { line = n; beat = false; number = number }) m caused.fates.slept ∙ ap (λ p. is_some (as_slept p)) r.slept;
    lasts = (subst (λ p. Fate es l.mail (record { line = n; beat = false; number = number }) p) r.slept (caused.fates.fates (record { line = n; beat = false; number = number }))).1 ∙ ap not r.lasts;
  }))

  group_out : (n c : ℕ) → client_at (st n) ≡ Some c → HasGroup l.sight c → OracleIsOut script es n
  group_out n c client h =
      let r = (out.groups h.group (c, h.out)).1 in
      let w = timely.groups h.group (c, h.out) in
      let fate = fate_of es l.mail m caused.fates.fates h.group.ticket r.place (ap as_sent r.sent) in
      let there = noted_there l.mail w.note r.place m w.noted (ap (λ t. as_sent (place_of l.mail.tickets t)) w.ticket ∙ ap as_sent r.sent) in
      record {
        ticket = h.group.ticket;
        no_beat = (out.groups h.group (c, h.out)).0;
        same_client = caused.rows.woven.one (client_of script h.group.ticket.line) (client_of script n) c (caused.rows.woven.clients h.group.ticket.line c h.own) (caused.rows.woven.clients n c client);
        asks = w.request;
        is_tso = fate.sent ∙ ap (λ q. Some (request_in q)) there ∙ ap (λ q. Some q) w.asks;
        out = fate.awaited ∙ r.awaited;
      }

  due_seen : IsDue asleep o script es
  due_seen n one most waiting live =
      let there = line_there script n one most in
      let r = caused.rows.rows n there.0 there.1 in
      let w = open_row r.row (ap is_unfinished r.outcome ∙ waiting) in
      let client : client_at (st n) ≡ Some w.0 = ap client_at (sym r.at) ∙ w.2 in
      let alive : lives l.sight.crashed (Some w.0) ≡ true = ap (λ q. lives l.sight.crashed q) (sym client) ∙ live_of script o e st l.sight.crashed caused.rows n w.0 client ∙ ap not live in
      elim (due n w.0 (ap waiting_at (sym r.at) ∙ w.1) alive) [
        | inl d ↦ own_out n d.0 (out.lines n d.0 d.1)
        | inr h ↦ inr (inr (group_out n w.0 client h))
      ]

  pub due_now : IsDue asleep (known l.outcomes l.ended (suc (length script))) script es
  due_now = subst (λ (f : ℕ → Outcome). IsDue asleep f script es) (sym seen_all) due_seen

-- The lines before.

due_same : (asleep sleeping : Ticket → Bool) (seen know : ℕ → Outcome) (script : List Line) (es fs : List Event) → asleep ≡ sleeping → seen ≡ know → es ≡ fs → IsDue asleep seen script es → IsDue sleeping know script fs
due_same asleep sleeping seen know script es fs a b c h =
    subst (λ (s : Ticket → Bool). IsDue s know script fs) a (subst (λ (s : ℕ → Outcome). IsDue asleep s script fs) b (subst (λ (s : List Event). IsDue asleep seen script s) c h))

module _ (line : Line) (ls : List Line) (old : Lists) (told : newest old ≡ length ls) (ordered : IsOrdered old) (good : why_after ls line ≡ None) (was : Caused ls old) (folded : Folded ls old)
    (new : Lists) (c : Course (deed_of line) old new) (stepped : Stepped (length ls) (deed_of line) old (followed c.posted c.ended c.mid)) where
  abbrev all : Lists
  all = followed c.posted c.ended c.mid

  dues_still : (zs : List Line) → length zs ≤ length ls → Dues old.mail.sent old.mail.sleeps old.outcomes old.ended zs → Dues all.mail.sent all.mail.sleeps all.outcomes all.ended zs
  dues_still [] low h = tt
  dues_still (z ∷ zs) low h = (
    due_same (λ t. began old.mail.sleeps (suc (length (z ∷ zs))) t) (λ t. began all.mail.sleeps (suc (length (z ∷ zs))) t) (known old.outcomes old.ended (suc (length (z ∷ zs)))) (known all.outcomes all.ended (suc (length (z ∷ zs)))) (z ∷ zs) (history old.mail.sent old.outcomes (z ∷ zs)) (history all.mail.sent all.outcomes (z ∷ zs))
        (same_began line ls old told ordered good was folded new c stepped (suc (length (z ∷ zs))) (omega arith))
        (same_known line ls old told ordered good was folded new c stepped (suc (length (z ∷ zs))) (omega arith))
        (same_history line ls old told ordered good was folded new c stepped (z ∷ zs) low) h.0,
    dues_still zs (omega arith) h.1,
  )

  pub dues_before : Dues old.mail.sent old.mail.sleeps old.outcomes old.ended ls → Dues all.mail.sent all.mail.sleeps all.outcomes all.ended ls
  dues_before h = dues_still ls (omega arith) h

pub due_step : (line : Line) (ls : List Line) (old new : Lists) (waits : ℕ → Awaited → Type 0) → newest old ≡ length ls → IsOrdered old → why_after ls line ≡ None → Steps line old new → Folded ls old → Caused ls old
    → Dues old.mail.sent old.mail.sleeps old.outcomes old.ended ls → IsMail new.mail → Caused (line ∷ ls) new → Timely (line ∷ ls) new → AreOut waits new → sides.IsDue waits new.sight → AreDue waits (line ∷ ls) new
due_step line ls old new waits told ordered good steps folded was dues mail caused timely out due =
    let c = course old (deed_of line) new steps in
    let s = subst (λ x. Stepped (length ls) (deed_of line) old x) c.is (stepped (length ls) old told ordered.even.stands folded.calm ordered.sound.mail (deed_of line) new steps) in
    record {
      out = out;
      dues = (
        due_now (line ∷ ls) new waits mail caused timely out due,
        subst (λ (l : Lists). Dues l.mail.sent l.mail.sleeps l.outcomes l.ended ls) (sym c.is) (dues_before line ls old told ordered good was folded new c s dues),
      );
    }
