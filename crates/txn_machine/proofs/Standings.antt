-- A machine stands for its lines, and for one more after each step.
use Rattle.std.proofs.Common.{◌≡◌, ℕ, zero, suc, ◌+◌, ◌^◌, ◌<◌, ◌≤◌, inl, inr, Bool, true, false, if◌then◌else◌, List, [], ◌∷◌, Option, Some, None, length, nat_le, nat_lt, refl, sym, ap, ◌∙◌, subst, arith}
use Rattle.std.proofs.lemmas.Bool.Decides.{nat_tests}
use Rattle.txn_lines.specs.Kinds.{kinds_of}
use Rattle.txn_lines.specs.Lines.{clients_in, clock_in, max_clock, max_lines, named_by, or_else, why_after, why_alone, why_by, why_clock, why_named}
use Rattle.txn_lines.specs.Deeds.{deed_of}
use Rattle.txn_lines.specs.declared.deed.Deed.{Deed}
use Rattle.txn_lines.specs.declared.deed.Deed.TheVariants as deeds
use Rattle.txn_lines.specs.declared.happening.Happening.TheVariants as happenings
use Rattle.txn_lines.specs.declared.line.Line.{Line}
use Rattle.txn_lines.specs.declared.script.Why.{Why}
use Rattle.txn_lines.specs.declared.script.Why.TheVariants.{TooMany, ClockHigh, ClockFalls}
use Rattle.txn_model.specs.Store.{opening}
use Rattle.txn_kv.specs.declared.ticket.Ticket.{Ticket}
use Rattle.txn_post.specs.Mail.{lane, no_mail, no_tickets, place_in, place_of, places_of}
use Rattle.txn_post.proofs.Mails.{none_is_mail}
use Rattle.txn_report.specs.declared.report.Report.{Report}
use Rattle.txn_side.specs.Sight.{Sight, Stand, client_at, nobody, number_of, numbers_of, stand_at}
use Rattle.txn_side.specs.Sight.Stand.{Calling, HasBegun, Idle, IsClient}
use Rattle.txn_side.specs.Waiting.{Awaited, IsDue, NoneWaits}
use Rattle.txn_machine.specs.Causes.{AllCallsMeet, AllEnd, AllEventsMeet, AllLive, AreTold, CallsMeetLines, EndsLines, EventsMeetLines, LivesLines, TellsLines, answers, ended_of}
use Rattle.txn_machine.specs.Dues.{AreDue, AreOut, Dues, DuesLines, StayOut}
use Rattle.txn_machine.specs.Lists.{Lists, newest, nothing, opened}
use Rattle.txn_machine.specs.Rows.{Caused, Fate, IsNoRow, Row, outcome_in, role_in}
use Rattle.txn_machine.specs.Rows.Row.{Acted, AskFailed, AskSkipped, AskWaits, Begun, CallFailed, CallSkipped, CallWaits, Happened, Made, Over, Timed, Works}
use Rattle.txn_machine.specs.Running.{AreCounted, HasMemory, IsFine, IsOrdered, IsReportOf, Standing, StandsFor, closed, lists_of}
use Rattle.txn_machine.specs.Steps.{Does, Steps}
use Rattle.txn_machine.specs.Times.{AllTimed, AreApart, Timely, TimesLines}
use Rattle.txn_machine.specs.Told.{ArePast}
use Rattle.txn_machine.specs.declared.machine.Machine.{Machine}
use Rattle.txn_machine.specs.Script.{Folded, history, outcome_of, waits}
use Rattle.txn_machine.proofs.Keepings.{caused_step, timely_step}
use Rattle.txn_machine.proofs.Coming.{none_in_order}
use Rattle.txn_machine.proofs.Due.{due_step}
use Rattle.txn_machine.proofs.Folds.{folded_step}
use Rattle.txn_machine.proofs.Numberings.{has_line}
use Rattle.txn_machine.proofs.Orders.{Stays, opened_count, opened_keeps, steps_keep}
use Rattle.txn_machine.proofs.Staying.{nothing_out}
use Rattle.txn_machine.proofs.Timestamps.{times_apart}
use Rattle.txn_machine.specs.declared.done.Done.{Done as Course}

-- A line that is not bad.

pub good_few : (before : List Line) (line : Line) → why_after before line ≡ None → length before < max_lines
good_few before line e = by (nat_le max_lines (length before)) refl e
  where
    by : (b : Bool) → nat_le max_lines (length before) ≡ b → (if b then Some TooMany else or_else (why_named before (named_by line)) (why_alone (clients_in before) (clock_in before) line)) ≡ None → length before < max_lines
    by true e h = absurd (cc)
    by false e h = grind (arith, nat_tests)

good_alone : (before : List Line) (line : Line) → why_after before line ≡ None → why_alone (clients_in before) (clock_in before) line ≡ None
good_alone before line e = by (nat_le max_lines (length before)) e
  where
    last : (a b : Option Why) → or_else a b ≡ None → b ≡ None
    last None b h = h
    last (Some w) b h = absurd (cc)

    by : (b : Bool) → (if b then Some TooMany else or_else (why_named before (named_by line)) (why_alone (clients_in before) (clock_in before) line)) ≡ None → why_alone (clients_in before) (clock_in before) line ≡ None
    by true h = absurd (cc)
    by false h = last (why_named before (named_by line)) (why_alone (clients_in before) (clock_in before) line) h

fine_clock : (so_far ms : ℕ) → why_clock so_far ms ≡ None → ms < 2 ^ 44
fine_clock so_far ms e = by (nat_le max_clock ms) refl e
  where
    by : (b : Bool) → nat_le max_clock ms ≡ b → (if b then Some ClockHigh else if nat_lt ms so_far then Some ClockFalls else None) ≡ None → ms < 2 ^ 44
    by true e h = absurd (cc)
    by false e h = grind (arith, nat_tests)

fine_deed : (clients clock : ℕ) (deed : Deed) → why_by clients clock deed ≡ None → IsFine deed
fine_deed clients clock (deeds.Happens (happenings.Clock ms)) e = fine_clock clock ms e
fine_deed clients clock deed e = tt

pub good_fine : (before : List Line) (line : Line) → why_after before line ≡ None → IsFine (deed_of line)
good_fine before line e = fine_deed (clients_in before) (clock_in before) (deed_of line) (good_alone before line e)

-- No lines.

numbered_nothing : (b : Bool) → AreCounted (lane b no_tickets) (numbers_of b nobody.nexts)
numbered_nothing false = record { lines = refl; numbers = λ n one most. absurd (omega arith) }
numbered_nothing true = record { lines = refl; numbers = λ n one most. absurd (omega arith) }

ordered_nothing : IsOrdered nothing
ordered_nothing = record {
  even = record { ended = refl; calls = refl; beats = refl; stands = refl; numbered = record { lanes = numbered_nothing } };
  sound = record { mail = none_is_mail; order = none_in_order 0; askers = λ k d h. absurd (omega arith); last = omega arith; clock = omega arith; few = omega arith };
}

none_waits : (n : ℕ) → waits (stand_at [] n) ≡ false
none_waits zero = refl
none_waits (suc i) = refl

folded_nothing : Folded [] nothing
folded_nothing = record {
  before = tt;
  calm = λ n w. absurd (let e = none_waits n in cc);
  folds = record { store = refl; served = refl };
}

none_has_read : (n : ℕ) → IsNoRow (outcome_of [] n) (ended_of [] n) (stand_at [] n)
none_has_read zero = record { outcome = refl; ended = refl; at = refl }
none_has_read (suc i) = record { outcome = refl; ended = refl; at = refl }

none_stands : (n : ℕ) (s : Stand) → stand_at [] n ≡ s → s ≡ Idle
none_stands n s e = sym e ∙ (none_has_read n).at

nothing_named : (t : Ticket) → place_of no_tickets t ≡ None
nothing_named t = by t.beat
  where
    none_in : (n m : ℕ) → place_in (places_of [] n) m ≡ None
    none_in zero zero = refl
    none_in zero (suc m) = refl
    none_in (suc n) zero = refl
    none_in (suc n) (suc m) = refl

    by : (b : Bool) → place_in (places_of (lane b no_tickets) t.line) t.number ≡ None
    by true = none_in t.line t.number
    by false = none_in t.line t.number

caused_nothing : Caused [] nothing
caused_nothing = record {
  rows = record {
    rows = λ n line there. absurd (cc);
    none = λ n there. none_has_read n;
    ended = λ n line there. absurd (cc);
    woven = record {
      calling = λ n c x b h. absurd (let e = none_stands n (Calling c x b) h in cc);
      called = λ x c m one h. absurd (let e = none_stands x (HasBegun c m) h in cc);
      one = λ j k c a b. absurd (let e = none_stands j (IsClient c) a in cc);
      below = λ n c h. absurd (let e = none_stands n (IsClient c) h in cc);
      clients = λ n c h. absurd (let e = sym h ∙ ap client_at (none_has_read n).at in cc);
      flags = λ n c h. absurd (let e = none_stands n (IsClient c) h in cc);
      ahead = λ n h. refl;
    };
  };
  lives = λ n line there. absurd (cc);
  calls = tt;
  events = tt;
  fates = record { fates = λ t. subst (λ o. Fate [] no_mail t o) (sym (nothing_named t)) (record { sent = refl; kept = refl; taken = refl; refused = refl; lost = refl }, refl); slept = tt };
  owned = record { owner = λ t p h. absurd (let e = sym (nothing_named t) ∙ h in cc) };
}

timely_nothing : Timely [] nothing
timely_nothing = record {
  groups = λ g out. absurd (let e = out.1 in cc);
  times = λ n version e. absurd (let f = sym (ap number_of (none_has_read n).outcome) ∙ e in cc);
}

pub new_stands : {S : Type 0} (sight : S → Sight) (ready : S → Type 0) (waits : S → ℕ → Awaited → Type 0) (m : Machine S) → m.store ≡ opening → m.post ≡ no_mail → sight m.clients ≡ nobody → m.outcomes.items ≡ [] → m.ended.items ≡ [] → m.served.items ≡ [] → m.kinds ≡ kinds_of [] → ready m.clients → NoneWaits (waits m.clients) → StandsFor sight ready waits m []
new_stands sight ready waits m store post clients outcomes ended served kinds able none = record {
  stands = λ h. record {
    led = here;
    able = able;
    told = ap (λ (l : Lists). newest l) here;
    ordered = subst (λ l. IsOrdered l) (sym here) ordered_nothing;
    folded = subst (λ l. Folded [] l) (sym here) folded_nothing;
    caused = subst (λ l. Caused [] l) (sym here) caused_nothing;
    timely = subst (λ l. Timely [] l) (sym here) timely_nothing;
    due = subst (λ l. AreDue (waits m.clients) [] l) (sym here) (record { out = nothing_out (waits m.clients) none; dues = tt });
    kinds = kinds;
  };
  few = omega arith;
}
  where
    here : lists_of sight m ≡ nothing
    here = λ i. record { store = store i; mail = post i; sight = clients i; outcomes = outcomes i; ended = ended i; served = served i }

-- A line more.

pub few_lines : {S : Type 0} (sight : S → Sight) (ready : S → Type 0) (waits : S → ℕ → Awaited → Type 0) (m : Machine S) (before : List Line) (line : Line) → why_after before line ≡ None → Standing sight ready waits m before → newest (lists_of sight m) < max_lines
few_lines sight ready waits m before line good s = subst (λ n. n < max_lines) (sym s.told) (good_few before line good)

pub step_stands : {S : Type 0} (sight : S → Sight) (ready : S → Type 0) (waits : S → ℕ → Awaited → Type 0) (old new : Machine S) (line : Line) (before : List Line) → Steps line (lists_of sight old) (lists_of sight new) → ready new.clients → (old.kinds ≡ kinds_of before → new.kinds ≡ kinds_of (line ∷ before)) → why_after before line ≡ None
    → StayOut (waits old.clients) (waits new.clients) (lists_of sight old) (lists_of sight new) → IsDue (waits new.clients) (sight new.clients) → HasMemory old → StandsFor sight ready waits old before → StandsFor sight ready waits new (line ∷ before)
step_stands sight ready waits old new line before steps able kinds good stays due memory stood = record {
  stands = λ h. record {
    led = (lists_of sight old, was.led, steps);
    able = able;
    told = let a = next.count in let b = was.told in omega arith;
    ordered = next.ordered;
    caused = caused;
    timely = timely;
    due = due_step line before (lists_of sight old) (lists_of sight new) (waits new.clients) was.told was.ordered good steps was.folded was.caused was.due.dues next.ordered.sound.mail caused timely (stays was.due.out) due;
    folded = folded_step line before (lists_of sight old) (lists_of sight new) was.told was.ordered.even.stands was.ordered.sound.mail steps was.folded;
    kinds = kinds was.kinds;
  };
  few = let a = good_few before line good in omega arith;
}
  where
    was : Standing sight ready waits old before
    was = stood.stands memory

    next : Stays (newest (lists_of sight old) + 1) (lists_of sight new)
    next = steps_keep (lists_of sight old) (few_lines sight ready waits old before line good was) was.ordered (deed_of line) (lists_of sight new) (good_fine before line good) steps

    caused : Caused (line ∷ before) (lists_of sight new)
    caused = caused_step line before (lists_of sight old) (lists_of sight new) was.told was.ordered good steps was.folded was.caused

    timely : Timely (line ∷ before) (lists_of sight new)
    timely = timely_step line before (lists_of sight old) (lists_of sight new) was.told was.ordered good steps was.folded was.caused was.timely (let a = next.ordered.even.stands in let b = next.count in let d = was.told in omega arith)

-- where memory was wanting nothing is said
pub broken_stands : {S : Type 0} (sight : S → Sight) (ready : S → Type 0) (waits : S → ℕ → Awaited → Type 0) (m : Machine S) (line : Line) (before : List Line) → m.broken ≡ true → why_after before line ≡ None → StandsFor sight ready waits m (line ∷ before)
broken_stands sight ready waits m line before broken good = record {
  stands = λ h. absurd (let e = h.whole in cc);
  few = let a = good_few before line good in omega arith;
}

-- What the code of a step rests on.

pub caused_past : (l : Lists) (script : List Line) → Caused script l → newest l ≡ length script → ArePast l
caused_past l script caused told k = elim (has_line script k) [
  | inl h ↦ (let a = (caused.rows.none k h).ended in omega arith)
  | inr h ↦ (let a = (caused.rows.ended k h.0 h.1).within in omega arith)
]

pub opened_ordered : (l m : Lists) → m ≡ opened l → newest l < max_lines → IsOrdered l → IsOrdered m
opened_ordered l m e room h = subst (λ x. IsOrdered x) (sym e) (opened_keeps l room h).ordered

pub opened_some : (l m : Lists) → m ≡ opened l → 1 ≤ newest m
opened_some l m e = subst (λ x. 1 ≤ newest x) (sym e) (let a = opened_count l in omega arith)

pub step_lists : (line : Line) (deed : Deed) (old start over new : Lists) (done : Course) → deed ≡ deed_of line → start ≡ opened old → Does deed start (closed done over) → new ≡ closed done over → Steps line old new
step_lists line deed old start over new done is a b c = subst (λ d. Does d (opened old) new) is (subst (λ x. Does deed (opened old) x) (sym c) (subst (λ x. Does deed x (closed done over)) a b))

-- The report.

-- Each row answers what its call may.
pub row_answers : (r : Row) → answers (role_in r) (outcome_in r) ≡ true
row_answers (Made c) = refl
row_answers (AskWaits b k c) = refl
row_answers (Begun k v c m) = refl
row_answers (Timed k v c) = refl
row_answers (AskFailed b k c e) = refl
row_answers (AskSkipped b k) = refl
row_answers (CallWaits b x c) = refl
row_answers (Acted x c) = refl
row_answers (Over x v c) = refl
row_answers (Works x v c) = refl
row_answers (CallFailed b x c e) = refl
row_answers (CallSkipped b x) = refl
row_answers (Happened true) = refl
row_answers (Happened false) = refl

pub report_tells : (l : Lists) (report : Report) (script : List Line) → IsReportOf l report → IsOrdered l → newest l ≡ length script → Caused script l → TellsLines script report
report_tells l report script r ordered told caused = subst (λ outs. AreTold script outs report.ended) (sym r.outcomes) (subst (λ ends. AreTold script l.outcomes ends) (sym r.ended) (record {
  outcomes = told;
  ends = ordered.even.ended ∙ told;
  kinds = λ n line there. let w = caused.rows.rows n line there in (λ i. answers (sym w.is i) (sym w.outcome i)) ∙ row_answers w.row;
}))

pub report_ends : (l : Lists) (report : Report) (script : List Line) → IsReportOf l report → Caused script l → EndsLines script report
report_ends l report script r caused = subst (λ outs. AllEnd script (λ n. outcome_of outs n) (λ n. ended_of report.ended n)) (sym r.outcomes) (subst (λ ends. AllEnd script (λ n. outcome_of l.outcomes n) (λ n. ended_of ends n)) (sym r.ended) caused.rows.ended)

pub report_calls : (l : Lists) (report : Report) (script : List Line) → IsReportOf l report → Caused script l → CallsMeetLines script report
report_calls l report script r caused = subst (λ outs. AllCallsMeet outs report.ended script) (sym r.outcomes) (subst (λ ends. AllCallsMeet l.outcomes ends script) (sym r.ended) caused.calls)

pub report_lives : (l : Lists) (report : Report) (script : List Line) → IsReportOf l report → Caused script l → LivesLines script report
report_lives l report script r caused = subst (λ outs. AllLive script (λ n. outcome_of outs n) (λ n. ended_of report.ended n)) (sym r.outcomes) (subst (λ ends. AllLive script (λ n. outcome_of l.outcomes n) (λ n. ended_of ends n)) (sym r.ended) caused.lives)

pub report_events : (l : Lists) (report : Report) (script : List Line) → IsReportOf l report → Caused script l → EventsMeetLines script report
report_events l report script r caused =
    subst (λ sent. AllEventsMeet sent report.sleeps report.outcomes report.ended script) (sym r.sent)
    (subst (λ sleeps. AllEventsMeet l.mail.sent sleeps report.outcomes report.ended script) (sym r.sleeps)
    (subst (λ outs. AllEventsMeet l.mail.sent l.mail.sleeps outs report.ended script) (sym r.outcomes)
    (subst (λ ends. AllEventsMeet l.mail.sent l.mail.sleeps l.outcomes ends script) (sym r.ended) caused.events)))

pub report_times : (l : Lists) (report : Report) (script : List Line) → IsReportOf l report → IsOrdered l → Timely script l → TimesLines script report
report_times l report script r ordered timely = record {
  each = subst (λ outs. AllTimed report.sent (history report.sent outs script) outs) (sym r.outcomes) (subst (λ sent. AllTimed sent (history sent l.outcomes script) l.outcomes) (sym r.sent) timely.times);
  once = subst (λ outs. AreApart outs) (sym r.outcomes) (times_apart l.mail l.outcomes script ordered.sound.mail timely.times);
}

pub report_dues : (l : Lists) (report : Report) (script : List Line) → IsReportOf l report → Dues l.mail.sent l.mail.sleeps l.outcomes l.ended script → DuesLines script report
report_dues l report script r dues =
    subst (λ sent. Dues sent report.sleeps report.outcomes report.ended script) (sym r.sent)
    (subst (λ sleeps. Dues l.mail.sent sleeps report.outcomes report.ended script) (sym r.sleeps)
    (subst (λ outs. Dues l.mail.sent l.mail.sleeps outs report.ended script) (sym r.outcomes)
    (subst (λ ends. Dues l.mail.sent l.mail.sleeps l.outcomes ends script) (sym r.ended) dues)))

-- The parts of a step.

pub stays_through : (a b c d : ℕ → Awaited → Type 0) (first start over last : Lists) → StayOut a b first start → StayOut b c start over → last ≡ over → c ≡ d → StayOut a d first last
stays_through a b c d first start over last x y e f o = subst (λ w. AreOut w last) f (subst (λ l. AreOut c l) (sym e) (y (x o)))
