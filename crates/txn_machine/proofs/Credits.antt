-- What a step makes of the accounts, by the lists that it leaves.
use Rattle.std.proofs.Common.{◌≡◌, ◌≢◌, ℕ, suc, ◌+◌, ◌≤◌, ◌<◌, Bool, true, false, not, List, [], ◌∷◌, Option, Some, None, length, nat_eq, refl, sym, ap, ◌∙◌, subst, arith, length-append}
use Rattle.std.proofs.lemmas.Bool.Decides.{nat_tests}
use Rattle.txn_lines.specs.declared.line.Line.{Line}
use Rattle.txn_lines.specs.Deeds.{deed_of}
use Rattle.txn_kv.specs.declared.errors.Error.{Error}
use Rattle.txn_lines.specs.declared.deed.Deed.{Deed}
use Rattle.txn_report.specs.declared.outcome.Outcome.{Outcome}
use Rattle.txn_report.specs.declared.outcome.Outcome.TheVariants.{Done, Err, Ok, Skipped, Unfinished}
use Rattle.txn_report.specs.declared.outcome.Payload.TheVariants.{Unit as Nothing}
use Rattle.txn_side.specs.Account.{Account, AnswersAtOnce, AreKept, MayTakeIn, TakesIn, after_act, after_endings, awaited_line, come_to, refusal, unless_refused}
use Rattle.txn_side.specs.Account as sides
use Rattle.txn_side.specs.Sight.{Sight, Stand, outcomes_of, stand_at}
use Rattle.txn_side.specs.Sight.Stand.{Asking, Calling, HasBegun, Idle, IsClient, Past, Working}
use Rattle.txn_lines.specs.declared.act.Act.{Act}
use Rattle.txn_side.specs.declared.turn.Ending.{Ending}
use Rattle.txn_side.specs.declared.turn.Posting.{Posting}
use Rattle.txn_side.specs.declared.turn.Turn.{Turn}
use Rattle.txn_side.proofs.Making.{made_open}
use Rattle.txn_machine.specs.Accounts.{AnswersIn, Ask, ClosesIf, Credited, CreditedBy, Credits, CreditsBy, WasAskedIf, WereClosedIf, ask_for, closed_if, own_by}
use Rattle.txn_machine.specs.Causes.{ended_of, is_skipped, tells}
use Rattle.txn_machine.specs.Lists.{Lists, all_ended, all_posted, ended_at, followed, newest, opened, outright, with_mail}
use Rattle.txn_machine.specs.Running.{IsOrdered, closed, with_own}
use Rattle.txn_machine.specs.Script.{outcome_of}
use Rattle.txn_machine.specs.Steps.{ended_in}
use Rattle.txn_machine.specs.Told.{ArePast, CanTell, EndOnce, EndsOnce, is_answer}
use Rattle.txn_machine.specs.declared.done.Done.{Done as Course}
use Rattle.txn_machine.proofs.Calms.{or_past, outcome_opened, outcome_past, outcome_same, stand_opened}
use Rattle.txn_machine.proofs.Goings.{Written, written}
use Rattle.txn_machine.proofs.Numberings.{ended_opened, ended_other}
use Rattle.txn_machine.proofs.Orders.{line_length, opened_count}

-- Accounts that stay before something is asked, or calls end.

takes_after : (act : Act) (x n : ℕ) (a b c : ℕ → Account) (ended : List Ending) → AreKept a b → TakesIn act x n b c ended → TakesIn act x n a c ended
takes_after act x n a b c ended kept h = record {
  own = h.own ∙ ap (after_act act true (come_to (outcomes_of n ended))) (kept x);
  others = λ k far. h.others k far ∙ kept k;
  answer = subst (λ z. AnswersAtOnce act (refusal act z) (outcomes_of n ended)) (kept x) h.answer;
}

may_after : (act : Act) (x n : ℕ) (a b c : ℕ → Account) (turn : Option Turn) → AreKept a b → MayTakeIn act x n b c turn → MayTakeIn act x n a c turn
may_after act x n a b c None kept h = λ k. h k ∙ kept k
may_after act x n a b c (Some turn) kept h = takes_after act x n a b c turn.ended.items kept h

closes_after : (told : Bool) (s : Sight) (a b c : ℕ → Account) (done : Course) → AreKept a b → ClosesIf told s b c done → ClosesIf told s a c done
closes_after true s a b c done kept h = λ x. h x ∙ ap (after_endings s done.turn.ended.items x) (kept x)
closes_after false s a b c done kept h = λ x. h x ∙ kept x

credits_after : (ask : Option Ask) (told : Bool) (l : Lists) (a b c : ℕ → Account) (done : Course) → AreKept a b → CreditsBy ask told l b c done → CreditsBy ask told l a c done
credits_after None told l a b c done kept h = closes_after told l.sight a b c done kept h
credits_after (Some ask) told l a b c done kept h = record { turn = h.turn; takes = may_after ask.act ask.transaction (newest l) a b c h.turn kept h.takes; own = h.own; ended = h.ended }

-- What the step of the newest line leaves.

pub all_count : (es : List Ending) (l : Lists) → newest (all_ended es l) ≡ newest l
all_count [] l = refl
all_count (e ∷ es) l = all_count es (ended_at e.line e.outcome l) ∙ line_length l.outcomes e.line e.outcome

answer_unskipped : (o : Outcome) → is_answer o ≡ true → is_skipped o ≡ false
answer_unskipped (Ok p) h = refl
answer_unskipped (Err e) h = refl
answer_unskipped Unfinished h = refl
answer_unskipped Done h = refl
answer_unskipped Skipped h = absurd (cc)

-- what is open yet is as if it had begun in an earlier line
still_open : (act : Act) (account : Account) → after_act act true Unfinished account ≡ after_act act false Unfinished account
still_open act account = ap (λ new. unless_refused (refusal act account) account new) (made_open act account)

module _ (l : Lists) (some : 1 ≤ newest l) (even : length l.ended ≡ newest l) (unfinished : outcome_of l.outcomes (newest l) ≡ Unfinished) (none : ended_of l.ended (newest l) ≡ 0) (ask : Ask) (a b : ℕ → Account) (posted : List Posting) where
  skips : (o : Outcome) (ended : List Ending) → ◌≡◌ {A = Option Outcome} (Some o) (Some Skipped) → ended ≡ [] → AreKept a b → CreditedBy (Some ask) false l.sight a b (followed posted ended (with_own (Some o) l))
  skips o ended is empty kept =
      let same : o ≡ Skipped = cc in
      let long : newest (outright o l) ≡ newest l = line_length l.outcomes (newest l) o in
      let here : outcome_of (outright o l).outcomes (newest (outright o l)) ≡ o = ap (λ k. outcome_of (outright o l).outcomes k) long ∙ outcome_same l.outcomes (newest l) o some (omega arith) in
      subst (λ es. CreditedBy (Some ask) false l.sight a b (followed posted es (with_own (Some o) l))) (sym empty)
      (subst (λ z. WasAskedIf (not (is_skipped z)) ask a b (followed posted [] (outright o l))) (sym (here ∙ same)) kept)

  goes : (ended : List Ending) → EndsOnce (newest l) ended → TakesIn ask.act ask.transaction (newest l) a b ended → CreditedBy (Some ask) false l.sight a b (followed posted ended l)
  goes ended once h = subst (λ z. WasAskedIf (not z) ask a b over) (sym unskipped) (record {
    own = h.own ∙ subst (λ k. after_act ask.act true (come_to outs) account ≡ after_act ask.act (nat_eq (ended_of over.ended k) k) (outcome_of over.outcomes k) account) (sym long) (own_is outs (once (newest l)) came);
    others = h.others;
    answer = subst (λ k. AnswersIn k ask.act (refusal ask.act account) (outcome_of over.outcomes k) (ended_of over.ended k)) (sym long) (answer_is (refusal ask.act account) h.answer);
  })
    where
      mid : Lists
      mid = with_mail (all_posted (newest l) posted l.mail) l

      over : Lists
      over = followed posted ended l

      account : Account
      account = a ask.transaction

      outs : List Outcome
      outs = outcomes_of (newest l) ended

      long : newest over ≡ newest l
      long = all_count ended mid

      o2 : Outcome
      o2 = outcome_of over.outcomes (newest l)

      e2 : ℕ
      e2 = ended_of over.ended (newest l)

      Came : List Outcome → Type 0
      Came os = Written (newest l) (newest l) os (outcome_of l.outcomes (newest l)) (ended_of l.ended (newest l)) o2 e2

      came : Came outs
      came = written ended mid (newest l) even

      own_is : (os : List Outcome) → EndOnce (newest l) (newest l) os → Came os → after_act ask.act true (come_to os) account ≡ after_act ask.act (nat_eq e2 (newest l)) o2 account
      own_is [] once w =
          let open_yet : o2 ≡ Unfinished = w.0 ∙ unfinished in
          let nowhere : e2 ≡ 0 = w.1 ∙ none in
          let later : nat_eq e2 (newest l) ≡ false = grind (arith, nat_tests) in
          still_open ask.act account ∙ sym (λ i. after_act ask.act (later i) (open_yet i) account)
      own_is (o ∷ []) once w =
          let z = w once.0 once.1 in
          let here = z.1 in
          let now : nat_eq e2 (newest l) ≡ true = grind (arith, nat_tests) in
          sym (λ i. after_act ask.act (now i) (z.0 i) account)
      own_is (o ∷ p ∷ os) once w = absurd once

      only : (o : Outcome) → outs ≡ o ∷ [] → (o2 ≡ o) × (e2 ≡ newest l)
      only o is = let one : Came (o ∷ []) = subst Came is came in one some (omega arith)

      answer_is : (why : Option Error) → AnswersAtOnce ask.act why outs → AnswersIn (newest l) ask.act why o2 e2
      answer_is None answers = λ write. only (Ok Nothing) (answers write)
      answer_is (Some why) answers = only (Err why) answers

      at_newest : (os : List Outcome) → EndOnce (newest l) (newest l) os → Came os → is_skipped o2 ≡ false
      at_newest [] once w = ap is_skipped (w.0 ∙ unfinished)
      at_newest (o ∷ []) once w = ap is_skipped (w once.0 once.1).0 ∙ answer_unskipped o once.2
      at_newest (o ∷ p ∷ os) once w = absurd once

      unskipped : is_skipped (outcome_of over.outcomes (newest over)) ≡ false
      unskipped = ap (λ k. is_skipped (outcome_of over.outcomes k)) long ∙ at_newest outs (once (newest l)) came

  ask_credited : (own : Option Outcome) (ended : List Ending) (turn : Option Turn) → own ≡ own_by turn → ended ≡ ended_in turn → EndsOnce (newest l) ended → MayTakeIn ask.act ask.transaction (newest l) a b turn → CreditedBy (Some ask) false l.sight a b (followed posted ended (with_own own l))
  ask_credited None ended (Some turn) e f once h = goes ended once (subst (λ es. TakesIn ask.act ask.transaction (newest l) a b es) (sym f) h)
  ask_credited (Some o) ended None e f once h = skips o ended e f h
  ask_credited None ended None e f once h = absurd (cc)
  ask_credited (Some o) ended (Some turn) e f once h = absurd (cc)

module _ (older l : Lists) (done : Course) (ordered : IsOrdered older) (past : ArePast older) (can : CanTell (opened older) done l) where
  abbrev ended : List Ending
  ended = done.turn.ended.items

  abbrev own : Lists
  own = with_own done.outcome l

  abbrev mid : Lists
  mid = with_mail (all_posted (newest own) done.turn.posted.items own.mail) own

  abbrev over : Lists
  over = closed done l

  count : newest l ≡ newest older + 1
  count = ap (λ os. length os) can.outcomes ∙ opened_count older

  even : length l.ended ≡ newest l
  even = ap (λ es. length es) can.ended ∙ length-append older.ended (0 ∷ []) ∙ (let x = ordered.even.ended in let y = count in omega arith)

  unfinished : outcome_of l.outcomes (newest l) ≡ Unfinished
  unfinished =
      let long : newest l ≡ suc (newest older) = omega (arith, count) in
      ap (λ k. outcome_of l.outcomes k) long ∙ ap (λ os. outcome_of os (suc (newest older))) can.outcomes ∙ outcome_opened older.outcomes (suc (newest older)) ∙ outcome_past older.outcomes (newest older) refl

  ended_was : (k : ℕ) → ended_of l.ended k ≡ ended_of older.ended k
  ended_was k = ap (λ es. ended_of es k) can.ended ∙ ended_opened older.ended k

  nowhere : ended_of l.ended (newest l) ≡ 0
  nowhere =
      let long : newest l ≡ suc (newest older) = omega (arith, count) in
      ended_was (newest l) ∙ ap (λ k. ended_of older.ended k) long ∙ or_past older.ended 0 (newest older) (let x = ordered.even.ended in omega arith)

  own_count : (o : Option Outcome) → newest (with_own o l) ≡ newest l
  own_count None = refl
  own_count (Some o) = line_length l.outcomes (newest l) o

  own_even : (o : Option Outcome) → length (with_own o l).ended ≡ newest (with_own o l)
  own_even None = even
  own_even (Some o) = line_length l.ended (newest l) (newest l) ∙ even ∙ sym (line_length l.outcomes (newest l) o)

  own_was : (o : Option Outcome) (k : ℕ) → k ≢ newest l → ended_of (with_own o l).ended k ≡ ended_of older.ended k
  own_was None k far = ended_was k
  own_was (Some o) k far = ended_other l.ended (newest l) k (newest l) far ∙ ended_was k

  long : newest over ≡ newest l
  long = all_count ended mid ∙ own_count done.outcome

  -- nothing stood at the newest line
  stands_earlier : (k : ℕ) → stand_at older.sight.stands k ≢ Idle → k ≢ newest l
  stands_earlier k there here =
      let last : newest l ≡ suc (newest older) = omega (arith, count) in
      there (ap (λ j. stand_at older.sight.stands j) (here ∙ last) ∙ or_past older.sight.stands Idle (newest older) (let x = ordered.even.stands in omega arith))

  came : (k : ℕ) → Written k (newest own) (outcomes_of k ended) (outcome_of own.outcomes k) (ended_of own.ended k) (outcome_of over.outcomes k) (ended_of over.ended k)
  came k = written ended mid k (own_even done.outcome)

  by_lists : (k : ℕ) (stand : Stand) → stand_at older.sight.stands k ≡ stand → (account : Account) → sides.closed stand (outcomes_of k ended) account ≡ closed_if stand (nat_eq (ended_of over.ended k) (newest over)) (outcome_of over.outcomes k) account
  by_lists k Idle at account = refl
  by_lists k (IsClient c) at account = refl
  by_lists k (Asking c b) at account = refl
  by_lists k (HasBegun c m) at account = refl
  by_lists k (Past c) at account = refl
  by_lists k (Working c) at account = refl
  by_lists k (Calling c x b) at account = by (outcomes_of k ended) (can.once k) (came k)
    where
      far : k ≢ newest l
      far = stands_earlier k (λ idle. let e = sym at ∙ idle in cc)

      by : (os : List Outcome) → EndOnce (newest l) k os → Written k (newest own) os (outcome_of own.outcomes k) (ended_of own.ended k) (outcome_of over.outcomes k) (ended_of over.ended k) → sides.closed (Calling c x b) os account ≡ closed_if (Calling c x b) (nat_eq (ended_of over.ended k) (newest over)) (outcome_of over.outcomes k) account
      by [] once w =
          let was : ended_of over.ended k ≡ ended_of older.ended k = w.1 ∙ own_was done.outcome k far in
          let low : ended_of over.ended k < newest over = let x = past k in let y = count in let z = long in omega arith in
          let q : nat_eq (ended_of over.ended k) (newest over) ≡ false = grind (arith, nat_tests) in
          sym (ap (λ z. closed_if (Calling c x b) z (outcome_of over.outcomes k) account) q)
      by (o ∷ []) once w =
          let same = own_count done.outcome in
          let z = w once.0 (let h = once.1 in omega arith) in
          let here : ended_of over.ended k ≡ newest over = z.1 ∙ same ∙ sym long in
          let q : nat_eq (ended_of over.ended k) (newest over) ≡ true = grind (arith, nat_tests) in
          sym (λ i. closed_if (Calling c x b) (q i) (z.0 i) account)
      by (o ∷ p ∷ os) once w = absurd once

  closed_credited : (told : Bool) (a b : ℕ → Account) → ClosesIf told (opened older).sight a b done → WereClosedIf told older.sight a b over
  closed_credited false a b h = h
  closed_credited true a b h = λ x.
      let stand = λ (n : ℕ). stand_opened older.sight.stands n in
      let m = awaited_line (stand_at older.sight.stands x) in
      h x ∙ (λ i. sides.closed (stand (awaited_line (stand x i)) i) (outcomes_of (awaited_line (stand x i)) ended) (a x)) ∙ by_lists m (stand_at older.sight.stands m) refl (a x)

  credited_closed : (ask : Option Ask) (told : Bool) (a b : ℕ → Account) → CreditsBy ask told (opened older) a b done → CreditedBy ask told older.sight a b over
  credited_closed None told a b h = closed_credited told a b h
  credited_closed (Some ask) told a b h =
      ask_credited l (omega (arith, count)) even unfinished nowhere ask a b done.turn.posted.items done.outcome ended h.turn h.own h.ended can.once
      (subst (λ k. MayTakeIn ask.act ask.transaction k a b h.turn) (sym (ap (λ os. length os) can.outcomes)) h.takes)

-- the parts of a step together
pub credited_step : {S : Type 0} (account : S → ℕ → Account) (line : Line) (deed : Deed) (older start l new : Lists) (done : Course) (from mid last to : S) → deed ≡ deed_of line → start ≡ opened older → new ≡ closed done l → IsOrdered older → ArePast older → CanTell start done l
    → AreKept (account from) (account mid) → Credits deed start (account mid) (account last) done → to ≡ last → Credited (deed_of line) older.sight (account from) (account to) new
credited_step account line deed older start l new done from mid last to is a b ordered past can kept credits same =
    subst (λ d. Credited d older.sight (account from) (account to) new) is (subst (λ x. Credited deed older.sight (account from) (account to) x) (sym b) (subst (λ s. Credited deed older.sight (account from) (account s) (closed done l)) (sym same)
    (credited_closed older l done ordered past (subst (λ x. CanTell x done l) a can) (ask_for deed) (tells deed) (account from) (account last)
    (credits_after (ask_for deed) (tells deed) (opened older) (account from) (account mid) (account last) done kept (subst (λ x. Credits deed x (account mid) (account last) done) a credits)))))
