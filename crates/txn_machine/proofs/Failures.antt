-- Each line keeps what is said of the calls that fail: what they heard has happened.
use Rattle.std.proofs.Common.{◌≡◌, ℕ, suc, ◌+◌, ◌≤◌, ◌⊎◌, inl, inr, Bool, true, if◌then◌else◌, List, [], ◌∷◌, ◌++◌, Option, Some, None, length, nat_eq, refl, sym, ap, ◌∙◌, subst, arith}
use Rattle.std.proofs.lemmas.Bool.Decides.{nat_tests}
use Rattle.txn_kv.specs.declared.errors.Error.{Error}
use Rattle.txn_kv.specs.declared.request.Request.{Request}
use Rattle.txn_kv.specs.declared.ticket.Ticket.{Ticket}
use Rattle.txn_history.specs.Among.{IsAmong}
use Rattle.txn_history.specs.Event.{Event, Has}
use Rattle.txn_history.specs.Event.Event.{Sent}
use Rattle.txn_lines.specs.Lines.{why_after}
use Rattle.txn_lines.specs.declared.begin_options.BeginOptions.{BeginOptions}
use Rattle.txn_lines.specs.Deeds.{deed_of}
use Rattle.txn_lines.specs.declared.line.Line.{Line}
use Rattle.txn_report.specs.declared.outcome.Outcome.TheVariants as outcomes
use Rattle.txn_report.specs.declared.report.SentNote.{SentNote}
use Rattle.txn_side.specs.Account.{Account, refusal}
use Rattle.txn_side.specs.Sight.{Group, stand_at}
use Rattle.txn_side.specs.Trace.{BeginsAs, FailsIn, HowCallsFail, IsLonger, Refusal, RollsBack, Trace, fails_longer, with_posted}
use Rattle.txn_lines.specs.declared.act.Act.{Act}
use Rattle.txn_lines.specs.declared.act.Act.TheVariants.{Rollback}
use Rattle.txn_side.specs.declared.turn.Posting.{Posting}
use Rattle.txn_machine.specs.Accounts.{AreTakenIn, Ask, account_of, ask_of}
use Rattle.txn_machine.specs.Causes.{AllCallsMeet, Role, ended_of, is_skipped, is_unfinished, lines_before, role_of, tells}
use Rattle.txn_machine.specs.Causes.Role.{AsksTime, MakesClient, NoCall, UsesTransaction}
use Rattle.txn_machine.specs.Failing.{AllCausesMeet, CanAsk, CanCall, CanRest, CauseMeets, FailsBy, HaveHeard, Rested, RestsIn, WasPosted, begins_as, begun_by, begun_of, calls_by, calls_of, came_of, groups_of, rollbacks_of, rolled, rolled_by, trace_of}
use Rattle.txn_machine.specs.Lists.{Lists, all_posted, followed, newest, opened, with_mail}
use Rattle.txn_machine.specs.Rows.{Caused}
use Rattle.txn_machine.specs.Running.{IsOrdered}
use Rattle.txn_machine.specs.Script.{Folded, does, find, history, outcome_of, with_sends}
use Rattle.txn_machine.specs.Steps.{Steps, does_it}
use Rattle.txn_machine.specs.Times.{Timely}
use Rattle.txn_machine.proofs.Accounting.{QuietBy, calm_was, change, quiet_by}
use Rattle.txn_machine.proofs.Alive.{before_few, before_next, before_old}
use Rattle.txn_machine.proofs.Begun.{later_among}
use Rattle.txn_machine.proofs.Calms.{outcome_past}
use Rattle.txn_machine.proofs.Carried.{history_now, looked, same_history}
use Rattle.txn_machine.proofs.Caused.{done_is, mid_count, new_ended}
use Rattle.txn_machine.proofs.Closings.{RoleBy, asked_same, role_by}
use Rattle.txn_machine.proofs.Courses.{Course, course, own_done}
use Rattle.txn_machine.proofs.Credits.{all_count}
use Rattle.txn_machine.proofs.Folds.{Stepped, stepped}
use Rattle.txn_machine.proofs.Goings.{Change}
use Rattle.txn_machine.proofs.Hearing.{can_hear, sent_noted}
use Rattle.txn_machine.proofs.Orders.{opened_count}
use Rattle.txn_machine.proofs.Refusing.{AtLeastRefused, refused_done, refused_more, refused_sends}
use Rattle.txn_machine.proofs.Standings.{caused_past}
use Rattle.txn_machine.proofs.Timing.{happened_still, noted_still}
use Rattle.txn_machine.specs.Longer.{done_more, sends_more}

-- What is noted, and what was told to lines.

groups_more : (sent more : List SentNote) → ((s : SentNote) → IsAmong sent s → IsAmong more s) → (g : Group) → IsAmong (groups_of sent) g → IsAmong (groups_of more) g
groups_more [] more among g h = absurd h
groups_more (s ∷ ss) more among g (inl e) = subst (λ x. IsAmong (groups_of more) x) e (mapped more s (among s (inl refl)))
  where
    mapped : (ns : List SentNote) (s : SentNote) → IsAmong ns s → IsAmong (groups_of ns) (record { ticket = s.ticket; askers = s.askers })
    mapped [] s h = absurd h
    mapped (n ∷ ns) s (inl e) = inl (ap (λ (x : SentNote). record { ticket = x.ticket; askers = x.askers }) e)
    mapped (n ∷ ns) s (inr h) = inr (mapped ns s h)
groups_more (s ∷ ss) more among g (inr h) = groups_more ss more (λ n a. among n (inr a)) g h

sends_has : (ss : List SentNote) (n : ℕ) (es : List Event) (s : SentNote) → IsAmong ss s → s.at ≡ n → Has (with_sends ss n es) (Sent s.ticket s.request)
sends_has [] n es s h at = absurd h
sends_has (z ∷ ss) n es s (inl e) at =
    let here : nat_eq z.at n ≡ true = let a = ap (λ (x : SentNote). x.at) e in grind (arith, nat_tests) in
    sends_more ss n (if nat_eq z.at n then Sent z.ticket z.request ∷ es else es) (Sent s.ticket s.request)
    (subst (λ (b : Bool). Has (if b then Sent z.ticket z.request ∷ es else es) (Sent s.ticket s.request)) (sym here) (inl (ap (λ (x : SentNote). Sent x.ticket x.request) e)))
sends_has (z ∷ ss) n es s (inr h) at = sends_has ss n (if nat_eq z.at n then Sent z.ticket z.request ∷ es else es) s h at

-- What is refused at once.

abbrev refused_by : Option Error → ℕ → List Refusal
refused_by None n = []
refused_by (Some e) n = record { line = n; error = e } ∷ []

abbrev refused_of : Option Ask → (ℕ → Account) → ℕ → List Refusal
refused_of None accounts n = []
refused_of (Some ask) accounts n = refused_by (refusal ask.act (accounts ask.transaction)) n

is_refused : (why : Option Error) (n : ℕ) (e : Error) → why ≡ Some e → IsAmong (refused_by why n) (record { line = n; error = e })
is_refused why n e is = subst (λ w. IsAmong (refused_by w n) (record { line = n; error = e })) (sym is) (inl refl)

was_refused : (why : Option Error) (n k : ℕ) (e : Error) → IsAmong (refused_by why n) (record { line = k; error = e }) → (k ≡ n) × (why ≡ Some e)
was_refused None n k e h = absurd h
was_refused (Some w) n k e (inl is) = (ap (λ (x : Refusal). x.line) (sym is), ap (λ (x : Refusal). Some x.error) is)
was_refused (Some w) n k e (inr h) = absurd h

refused_here : (a : Option Ask) (accounts : ℕ → Account) (n k : ℕ) (e : Error) → IsAmong (refused_of a accounts n) (record { line = k; error = e }) → k ≡ n
refused_here None accounts n k e h = absurd h
refused_here (Some ask) accounts n k e h = (was_refused (refusal ask.act (accounts ask.transaction)) n k e h).0

-- a line that rolls back is among those that do
rolls_back : (act : Act) (n : ℕ) (before : List ℕ) → RollsBack (rolled n act ++ before) n act
rolls_back Rollback n before = inl refl
rolls_back _ n before = tt

-- The trace of what has happened by the step of the newest line, before the clients do anything.

module _ (line : Line) (ls : List Line) (old : Lists) (told : newest old ≡ length ls) (ordered : IsOrdered old) (good : why_after ls line ≡ None) (was : Caused ls old) (folded : Folded ls old)
    (new : Lists) (c : Course (deed_of line) old new) (stepped : Stepped (length ls) (deed_of line) old (followed c.posted c.ended c.mid)) (timely : Timely ls old) (accounts : ℕ → Account) where
  abbrev all : Lists
  all = followed c.posted c.ended c.mid

  abbrev es : List Event
  es = history old.mail.sent old.outcomes ls

  abbrev looks : Ticket → Option Request
  looks t = find all.mail.sent (suc (length ls)) t

  abbrev happened : List Event
  happened = if own_done c.own then does looks (deed_of line) es else es

  abbrev n : ℕ
  n = suc (length ls)

  abbrev now : Trace
  now = record { events = happened; came = came_of (line ∷ ls); calls = calls_of (line ∷ ls); begun = begun_of (line ∷ ls); rollbacks = rollbacks_of (line ∷ ls); groups = groups_of old.mail.sent; posted = []; refused = refused_of (ask_of line) accounts n; owed = [] }

  count : newest (opened old) ≡ n
  count = let a = opened_count old in let b = told in omega arith

  call_now : CanCall (role_of line) (newest (opened old)) now
  call_now = subst (λ k. CanCall (role_of line) k now) (sym count) (by (role_of line))
    where
      by : (r : Role) → CanCall r n (record now { calls = calls_by n r ++ calls_of ls })
      by MakesClient = tt
      by (AsksTime b k) = inl refl
      by (UsesTransaction b x) = inl refl
      by NoCall = tt

  begins_now : BeginsAs now (newest (opened old)) (begins_as (deed_of line))
  begins_now = subst (λ k. BeginsAs now k (begins_as (deed_of line))) (sym count) (by (begins_as (deed_of line)))
    where
      by : (o : Option BeginOptions) → BeginsAs (record now { begun = begun_by n o ++ begun_of ls }) n o
      by None = tt
      by (Some options) = inl refl

  ask_now : CanAsk (ask_of line) accounts (newest (opened old)) now
  ask_now = subst (λ k. CanAsk (ask_of line) accounts k now) (sym count) (by (ask_of line))
    where
      by : (a : Option Ask) → CanAsk a accounts n (record now { refused = refused_of a accounts n; rollbacks = rolled_by n a ++ rollbacks_of ls })
      by None = tt
      by (Some ask) = (λ e is. is_refused (refusal ask.act (accounts ask.transaction)) n e is, rolls_back ask.act n (rollbacks_of ls))

  was_longer : IsLonger (trace_of old.mail.sent old.outcomes ls) now
  was_longer = record {
    events = λ e h. done_more (own_done c.own) looks (deed_of line) es e h;
    calls = λ x h. later_among (calls_by n (role_of line)) (calls_of ls) x h;
    begun = λ x h. later_among (begun_by n (begins_as (deed_of line))) (begun_of ls) x h;
    rollbacks = λ x h. later_among (rolled_by n (ask_of line)) (rollbacks_of ls) x h;
    groups = λ g h. h;
    sent = λ u r h. elim h [ inl s ↦ inl (done_more (own_done c.own) looks (deed_of line) es (Sent u r) s) | inr p ↦ absurd (let low = p.2 in omega arith) ];
    refused = λ k m h. refused_done (groups_of old.mail.sent) k m (own_done c.own) looks (deed_of line) es h;
    beside = λ k m h. refused_done (groups_of old.mail.sent) k (m + 0) (own_done c.own) looks (deed_of line) es h;
  }

  can_rest : CanRest (deed_of line) (opened old) accounts (trace_of old.mail.sent old.outcomes ls) now
  can_rest = record {
    longer = was_longer;
    posted = refl;
    call = call_now;
    begins = begins_now;
    ask = ask_now;
    hear = can_hear old es ordered.sound.mail was.fates.fates folded.folds.store looks (looked line ls old told ordered good was folded new c stepped) timely.groups (λ u r h. sent_noted u r old.mail.sent old.outcomes ls h)
        (calls_of (line ∷ ls)) (begun_of (line ∷ ls)) (rollbacks_of (line ∷ ls)) (refused_of (ask_of line) accounts n) (trace_of old.mail.sent old.outcomes ls) (λ k m h. h) (own_done c.own) (deed_of line) (λ role. ap own_done (c.sure role) ∙ done_is (does_it (deed_of line) (opened old)));
  }

  among : (s : SentNote) → IsAmong old.mail.sent s → IsAmong all.mail.sent s
  among s h = noted_still line ls old told ordered good was folded new c stepped s h

  noted_more : (k m : ℕ) (fs : List Event) → AtLeastRefused (groups_of old.mail.sent) k m fs → AtLeastRefused (groups_of all.mail.sent) k m fs
  noted_more k m fs h = refused_more (groups_of old.mail.sent) (groups_of all.mail.sent) (λ g. groups_more old.mail.sent all.mail.sent among g) k m fs h

  now_refused : (k m : ℕ) → AtLeastRefused (groups_of old.mail.sent) k m happened → AtLeastRefused (groups_of all.mail.sent) k m (history all.mail.sent all.outcomes (line ∷ ls))
  now_refused k m h =
      subst (λ fs. AtLeastRefused (groups_of all.mail.sent) k m fs) (history_now line ls old told ordered good was folded new c stepped)
      (refused_sends (groups_of all.mail.sent) k m all.mail.sent n happened (noted_more k m happened h))

  still_refused : (zs : List Line) → length zs ≤ length ls → (k m : ℕ) → AtLeastRefused (groups_of old.mail.sent) k m (history old.mail.sent old.outcomes zs) → AtLeastRefused (groups_of all.mail.sent) k m (history all.mail.sent all.outcomes zs)
  still_refused zs low k m h = subst (λ fs. AtLeastRefused (groups_of all.mail.sent) k m fs) (same_history line ls old told ordered good was folded new c stepped zs low) (noted_more k m (history old.mail.sent old.outcomes zs) h)

  has : (e : Event) → Has happened e → Has (history all.mail.sent all.outcomes (line ∷ ls)) e
  has e h = happened_still line ls old told ordered good was folded new c stepped e h

  all_newest : newest all ≡ n
  all_newest = all_count c.ended (with_mail (all_posted (newest c.mid) c.posted c.mid.mail) c.mid) ∙ mid_count line ls old told ordered.even good was.rows new c

  -- what is posted was sent when the step is over
  now_longer : (posted : List Posting) → WasPosted posted all → IsLonger (with_posted posted now) (trace_of all.mail.sent all.outcomes (line ∷ ls))
  now_longer posted sent = record {
    events = has;
    calls = λ x h. h;
    begun = λ x h. h;
    rollbacks = λ x h. h;
    groups = λ g h. groups_more old.mail.sent all.mail.sent among g h;
    sent = λ u r h. elim h [ inl s ↦ inl (has (Sent u r) s) | inr p ↦ inl (posted_has u r (sent u r p)) ];
    refused = λ k m h. now_refused k m h;
    beside = λ k m h. now_refused k (m + 0) h;
  }
    where
      posted_has : (u : Ticket) (r : Request) → (s : SentNote) × IsAmong all.mail.sent s × (s.ticket ≡ u) × (s.request ≡ r) × (s.at ≡ newest all) → Has (history all.mail.sent all.outcomes (line ∷ ls)) (Sent u r)
      posted_has u r w = subst (λ fs. Has fs (Sent u r)) (history_now line ls old told ordered good was folded new c stepped)
          (subst (λ x. Has (with_sends all.mail.sent n happened) x) (λ i. Sent (w.2 i) (w.3 i)) (sends_has all.mail.sent n happened w.0 w.1 (w.4 ∙ all_newest)))

  still_longer : (zs : List Line) → length zs ≤ length ls → IsLonger (trace_of old.mail.sent old.outcomes zs) (trace_of all.mail.sent all.outcomes zs)
  still_longer zs low = record {
    events = same;
    calls = λ x h. h;
    begun = λ x h. h;
    rollbacks = λ x h. h;
    groups = λ g h. groups_more old.mail.sent all.mail.sent among g h;
    sent = λ u r h. elim h [ inl s ↦ inl (same (Sent u r) s) | inr p ↦ absurd (let low = p.2 in omega arith) ];
    refused = λ k m h. still_refused zs low k m h;
    beside = λ k m h. still_refused zs low k (m + 0) h;
  }
    where
      same : (e : Event) → Has (history old.mail.sent old.outcomes zs) e → Has (history all.mail.sent all.outcomes zs) e
      same e h = subst (λ fs. Has fs e) (same_history line ls old told ordered good was folded new c stepped zs low) h

  -- Why calls fail.

  module _ (steps : Steps line old all) (taken : AreTakenIn ls old.outcomes old.ended accounts) (fails : HowCallsFail) (is : Trace → Type 0) (r : RestsIn fails is now old all) where
    abbrev Was : ℕ → Error → Type 0
    Was k e = FailsBy fails old.mail.sent old.outcomes old.ended ls k e

    abbrev Is : ℕ → Error → Type 0
    Is k e = FailsBy fails all.mail.sent all.outcomes all.ended (line ∷ ls) k e

    changes : (j : ℕ) → j ≤ length ls → Change n (outcome_of old.outcomes j) (ended_of old.ended j) (outcome_of all.outcomes j) (ended_of all.ended j)
    changes j low = change line ls old all told all_newest ordered good steps was j low

    stays_so : (k : ℕ) (e : Error) → ended_of all.ended k ≡ ended_of old.ended k → Was k e → Is k e
    stays_so k e same w =
        let zs = lines_before ls (suc (ended_of old.ended k)) in
        let low : ended_of old.ended k ≤ length ls = let a = caused_past old ls was told k in let b = told in omega arith in
        subst (λ m. FailsIn fails (trace_of all.mail.sent all.outcomes (lines_before (line ∷ ls) (suc m))) k e) (sym same)
        (subst (λ zs. FailsIn fails (trace_of all.mail.sent all.outcomes zs) k e) (sym (before_old line ls (suc (ended_of old.ended k)) (omega (arith, low))))
        (fails_longer (trace_of old.mail.sent old.outcomes zs) (trace_of all.mail.sent all.outcomes zs) (still_longer zs (before_few ls (suc (ended_of old.ended k)))) refl refl fails k e w))

    comes_so : (k : ℕ) (e : Error) → ended_of all.ended k ≡ n → FailsIn fails (with_posted r.posted now) k e → Is k e
    comes_so k e last w =
        subst (λ m. FailsIn fails (trace_of all.mail.sent all.outcomes (lines_before (line ∷ ls) (suc m))) k e) (sym last)
        (subst (λ zs. FailsIn fails (trace_of all.mail.sent all.outcomes zs) k e) (sym (before_next (line ∷ ls)))
        (fails_longer (with_posted r.posted now) (trace_of all.mail.sent all.outcomes (line ∷ ls)) (now_longer r.posted r.sent) refl refl fails k e w))

    older : (k : ℕ) (e : Error) → k ≤ length ls → outcome_of all.outcomes k ≡ outcomes.Err e → ((outcome_of old.outcomes k ≡ outcomes.Err e) × (Was k e → Is k e)) ⊎ Is k e
    older k e low told_so = elim (changes k low) [
      | inl h ↦ inl (sym h.0 ∙ told_so, λ w. stays_so k e h.1 w)
      | inr h ↦ elim (r.causes k e told_so) [
        | inl before ↦ absurd (let a = sym h.0 ∙ ap is_unfinished before in cc)
        | inr cause ↦ elim cause [
          | inl w ↦ inr (comes_so k e h.1 w)
          | inr refused ↦ absurd (let a = refused_here (ask_of line) accounts n k e refused in omega (arith, a, low))
        ]
      ]
    ]

    causes_still : (zs : List Line) → length zs ≤ length ls → AllCallsMeet old.outcomes old.ended zs → AllCausesMeet (λ k e. Was k e) old.outcomes old.ended zs → AllCausesMeet (λ k e. Is k e) all.outcomes all.ended zs
    causes_still [] low calls h = tt
    causes_still (z ∷ zs) low calls h = (by (ask_of z) (role_by (deed_of z)) h.0, causes_still zs (omega arith) calls.1 h.1)
      where
        m : ℕ
        m = suc (length zs)

        by : (a : Option Ask) → RoleBy a (role_of z) → CauseMeets (λ k e. Was k e) (λ x. account_of (λ j. outcome_of old.outcomes j) (λ j. ended_of old.ended j) zs x) m a (outcome_of old.outcomes m)
            → CauseMeets (λ k e. Is k e) (λ x. account_of (λ j. outcome_of all.outcomes j) (λ j. ended_of all.ended j) zs x) m a (outcome_of all.outcomes m)
        by None role h = λ e told_so. elim (older m e low told_so) [ inl w ↦ w.1 (h e w.0) | inr i ↦ i ]
        by (Some ask) role h = λ free e told_so. elim (older m e low told_so) [
          | inl w ↦
              let same = asked_same ls old.outcomes all.outcomes old.ended all.ended (λ j. stand_at old.sight.stands j) old.sight.crashed was.rows changes z zs low ask role calls.0 (ap is_skipped w.0) in
              w.1 (h (ap (λ account. refusal ask.act account) (sym same) ∙ free) e w.0)
          | inr i ↦ i
        ]

    -- the newest line
    ended_here : (e : Error) → outcome_of all.outcomes n ≡ outcomes.Err e → ended_of all.ended n ≡ n
    ended_here e told_so = new_ended line ls old told ordered.even good was.rows new c (ap is_unfinished told_so)

    newest_so : (e : Error) → outcome_of all.outcomes n ≡ outcomes.Err e → Is n e ⊎ IsAmong (refused_of (ask_of line) accounts n) (record { line = n; error = e })
    newest_so e told_so = elim (r.causes n e told_so) [
      | inl before ↦ absurd (let a = sym (outcome_past old.outcomes (length ls) told) ∙ before in cc)
      | inr cause ↦ elim cause [ inl w ↦ inl (comes_so n e (ended_here e told_so) w) | inr refused ↦ inr refused ]
    ]

    line_now : CauseMeets (λ k e. Is k e) (λ x. account_of (λ j. outcome_of all.outcomes j) (λ j. ended_of all.ended j) ls x) n (ask_of line) (outcome_of all.outcomes n)
    line_now = by (ask_of line) (quiet_by (deed_of line)) newest_so
      where
        by : (a : Option Ask) → QuietBy a (tells (deed_of line)) → ((e : Error) → outcome_of all.outcomes n ≡ outcomes.Err e → Is n e ⊎ IsAmong (refused_of a accounts n) (record { line = n; error = e }))
            → CauseMeets (λ k e. Is k e) (λ x. account_of (λ j. outcome_of all.outcomes j) (λ j. ended_of all.ended j) ls x) n a (outcome_of all.outcomes n)
        by None quiet h = λ e told_so. elim (h e told_so) [ inl i ↦ i | inr x ↦ absurd x ]
        by (Some ask) quiet h = λ free e told_so. elim (h e told_so) [
          | inl i ↦ i
          | inr x ↦ absurd (
              let refused = (was_refused (refusal ask.act (accounts ask.transaction)) n n e x).1 in
              let same = calm_was line ls old all told all_newest ordered good steps was accounts accounts taken quiet ask.transaction in
              let a : Some e ≡ None = sym refused ∙ ap (λ account. refusal ask.act account) same ∙ free in
              cc)
        ]

    causes_now : AllCausesMeet (λ k e. Was k e) old.outcomes old.ended ls → AllCausesMeet (λ k e. Is k e) all.outcomes all.ended (line ∷ ls)
    causes_now h = (line_now, causes_still ls (omega arith) was.calls h)

pub heard_step : (fails : HowCallsFail) (was is : Trace → Type 0) (line : Line) (ls : List Line) (old new : Lists) (accounts : ℕ → Account) → newest old ≡ length ls → IsOrdered old → why_after ls line ≡ None → Steps line old new → Folded ls old → Caused ls old → Timely ls old
    → AreTakenIn ls old.outcomes old.ended accounts → Rested fails was is (deed_of line) old accounts new → ((t longer : Trace) → IsLonger t longer → was t → was longer) → ((t longer : Trace) → IsLonger t longer → is t → is longer)
    → HaveHeard was fails ls old.mail.sent old.outcomes old.ended → HaveHeard is fails (line ∷ ls) new.mail.sent new.outcomes new.ended
heard_step fails was is line ls old new accounts told ordered good steps folded caused timely taken rested was_more is_more heard =
    let c = course old (deed_of line) new steps in
    let s = subst (λ x. Stepped (length ls) (deed_of line) old x) c.is (stepped (length ls) old told ordered.even.stands folded.calm ordered.sound.mail (deed_of line) new steps) in
    let t = now line ls old told ordered good caused folded new c s timely accounts in
    let r = subst (λ l. Rested fails was is (deed_of line) old accounts l) c.is rested (trace_of old.mail.sent old.outcomes ls) t (can_rest line ls old told ordered good caused folded new c s timely accounts) heard.rest
    (was_more (trace_of old.mail.sent old.outcomes ls) t (was_longer line ls old told ordered good caused folded new c s timely accounts) heard.rest) in
    subst (λ l. HaveHeard is fails (line ∷ ls) l.mail.sent l.outcomes l.ended) (sym c.is) (record {
      rest = is_more (with_posted r.posted t) (trace_of (followed c.posted c.ended c.mid).mail.sent (followed c.posted c.ended c.mid).outcomes (line ∷ ls)) (now_longer line ls old told ordered good caused folded new c s timely accounts r.posted r.sent) r.rest;
      causes = causes_now line ls old told ordered good caused folded new c s timely accounts (subst (λ l. Steps line old l) c.is steps) taken fails is r heard.causes;
    })
