-- Each line keeps what its answer says of its transaction: that is right by the lines up to the one in whose step it ended.
use Rattle.std.proofs.Common.{◌≡◌, ◌≢◌, ℕ, suc, ◌≤◌, ◌⊎◌, inl, inr, Bool, true, false, not, ◌&&◌, ◌||◌, if◌then◌else◌, List, [], ◌∷◌, Option, Some, None, length, nat_lt, refl, sym, ap, ◌∙◌, subst, arith}
use Rattle.txn_history.specs.Event.{Event}
use Rattle.txn_lines.specs.Lines.{line_at, why_after}
use Rattle.txn_lines.specs.Deeds.{deed_of}
use Rattle.txn_lines.specs.declared.deed.Deed.{Deed}
use Rattle.txn_lines.specs.declared.deed.Deed.TheVariants as deeds
use Rattle.txn_lines.specs.declared.line.Line.{Line}
use Rattle.txn_report.specs.declared.outcome.Outcome.{Outcome}
use Rattle.txn_report.specs.declared.outcome.Outcome.TheVariants.{Ok, Err, Unfinished, Done, Skipped}
use Rattle.txn_report.specs.declared.outcome.Payload.TheVariants.{Number}
use Rattle.txn_side.specs.Arising.{answered_at}
use Rattle.txn_side.specs.Saying.{SaysRight, SpeaksOf}
use Rattle.txn_side.specs.Sight.{stand_at}
use Rattle.txn_machine.specs.Arising.{AllHold, AllSpeak, AnswersOf, HoldsBy, Speaks}
use Rattle.txn_machine.specs.Causes.{AllCallsMeet, CallMeets, Role, answers, client_of, ended_of, is_busy, is_crashed, is_ok, is_skipped, is_unfinished, known, known_of, lines_before, role_for, role_of, tells}
use Rattle.txn_machine.specs.Causes.Role.{AsksTime, MakesClient, NoCall, UsesTransaction}
use Rattle.txn_machine.specs.Lists.{Lists, all_posted, followed, newest, opened, with_mail}
use Rattle.txn_machine.specs.Rows.{Caused, IsRow}
use Rattle.txn_machine.specs.Running.{IsOrdered}
use Rattle.txn_machine.specs.Script.{Folded, history, outcome_of}
use Rattle.txn_machine.specs.Steps.{Steps}
use Rattle.txn_machine.specs.Told.{is_answer}
use Rattle.txn_machine.proofs.Accounting.{change, stays}
use Rattle.txn_machine.proofs.Alive.{before_few, before_next, before_old}
use Rattle.txn_machine.proofs.Calms.{outcome_past, same_line, stand_opened}
use Rattle.txn_machine.proofs.Carried.{same_history}
use Rattle.txn_machine.proofs.Caused.{mid_count, new_ended}
use Rattle.txn_machine.proofs.Closings.{unfinished_unskipped}
use Rattle.txn_machine.proofs.Courses.{Course}
use Rattle.txn_machine.proofs.Credits.{all_count}
use Rattle.txn_machine.proofs.Folds.{Stepped}
use Rattle.txn_machine.proofs.Idles.{IsBegin, Names, names, waiting_row}
use Rattle.txn_machine.proofs.Numberings.{has_line, line_new, line_old, line_range}
use Rattle.txn_machine.proofs.Standings.{caused_past, row_answers}

-- a line in whose step clients hear of something is no call
pub tells_none : (deed : Deed) → tells deed ≡ true → role_for deed ≡ NoCall
tells_none (deeds.Happens what) h = refl
tells_none _ h = absurd (cc)

-- What is known of the transaction that a line calls.

ok_over : (o : Outcome) → is_ok o ≡ true → is_unfinished o ≡ false
ok_over (Ok p) h = refl
ok_over (Err e) h = refl
ok_over Unfinished h = absurd (cc)
ok_over Done h = refl
ok_over Skipped h = refl

-- an answer ends a call
answer_over : (o : Outcome) → is_answer o ≡ true → is_unfinished o ≡ false
answer_over (Ok p) h = refl
answer_over (Err e) h = refl
answer_over Unfinished h = absurd (cc)
answer_over Done h = refl
answer_over Skipped h = refl

answer_unskipped : (o : Outcome) → is_answer o ≡ true → is_skipped o ≡ false
answer_unskipped (Ok p) h = refl
answer_unskipped (Err e) h = refl
answer_unskipped Unfinished h = refl
answer_unskipped Done h = refl
answer_unskipped Skipped h = absurd (cc)

known_ok : (e n : ℕ) (o : Outcome) → is_ok (known_of e n o) ≡ true → is_ok o ≡ true
known_ok e n o h = by (nat_lt 0 e && nat_lt e n) h
  where
    by : (b : Bool) → is_ok (if b then o else Unfinished) ≡ true → is_ok o ≡ true
    by true g = g
    by false g = absurd (cc)

middle_off : (a b c : Bool) → a || not b || c ≡ false → b ≡ true
middle_off a true c h = refl
middle_off true false true h = absurd (cc)
middle_off true false false h = absurd (cc)
middle_off false false true h = absurd (cc)
middle_off false false false h = absurd (cc)

-- it had begun, if the line is not skipped
called_began : (outs : List Outcome) (ended : List ℕ) (ls : List Line) (k x : ℕ) (b : Bool) (z : Line) → line_at ls k ≡ Some z → role_of z ≡ UsesTransaction b x → is_skipped (outcome_of outs k) ≡ false → AllCallsMeet outs ended ls → is_ok (outcome_of outs x) ≡ true
called_began outs ended [] k x b z there role unskipped calls = absurd (cc)
called_began outs ended (y ∷ ys) k x b z there role unskipped calls = elim (same_line (suc (length ys)) k) [
  | inl here ↦
      let is : ◌≡◌ {A = Option Line} (Some y) (Some z) = sym (line_new y ys) ∙ ap (λ j. line_at (y ∷ ys) j) (sym here) ∙ there in
      let same : y ≡ z = cc in
      let seen = known outs ended (suc (length ys)) in
      let meets : CallMeets seen ys (UsesTransaction b x) (outcome_of outs (suc (length ys))) = subst (λ r. CallMeets seen ys r (outcome_of outs (suc (length ys)))) (ap (λ l. role_of l) same ∙ role) calls.0 in
      known_ok (ended_of ended x) (suc (length ys)) (outcome_of outs x)
      (middle_off (is_crashed seen ys (client_of ys x)) (is_ok (seen x)) (is_busy seen ys x) (sym meets ∙ subst (λ j. is_skipped (outcome_of outs j) ≡ false) here unskipped))
  | inr far ↦ called_began outs ended ys k x b z (sym (line_old y ys k far) ∙ there) role unskipped calls.1
]

-- what each line answered is right
holds_there : (holds : ℕ → Outcome → Type 0) (outs : List Outcome) (ls : List Line) (x : ℕ) (z : Line) → line_at ls x ≡ Some z → AllHold holds outs ls → HoldsBy holds x (role_of z) (outcome_of outs x)
holds_there holds outs [] x z there h = absurd (cc)
holds_there holds outs (y ∷ ys) x z there h = elim (same_line (suc (length ys)) x) [
  | inl here ↦
      let is : ◌≡◌ {A = Option Line} (Some y) (Some z) = sym (line_new y ys) ∙ ap (λ j. line_at (y ∷ ys) j) (sym here) ∙ there in
      let same : y ≡ z = cc in
      subst (λ k. HoldsBy holds k (role_of z) (outcome_of outs k)) (sym here) (subst (λ l. HoldsBy holds (suc (length ys)) (role_of l) (outcome_of outs (suc (length ys)))) same h.0)
  | inr far ↦ holds_there holds outs ys x z (sym (line_old y ys x far) ∙ there) h.1
]

-- only what asks for a timestamp answers one
time_holds : (holds : ℕ → Outcome → Type 0) (x s : ℕ) (role : Role) → answers role (Ok (Number s)) ≡ true → HoldsBy holds x role (Ok (Number s)) → holds x (Ok (Number s))
time_holds holds x s (AsksTime b k) kind h = h
time_holds holds x s MakesClient kind h = absurd (cc)
time_holds holds x s (UsesTransaction true y) kind h = absurd (cc)
time_holds holds x s (UsesTransaction false y) kind h = absurd (cc)
time_holds holds x s NoCall kind h = absurd (cc)

-- The step.

module _ (line : Line) (ls : List Line) (old : Lists) (told : newest old ≡ length ls) (ordered : IsOrdered old) (good : why_after ls line ≡ None) (was : Caused ls old) (folded : Folded ls old)
    (new : Lists) (c : Course (deed_of line) old new) (stepped : Stepped (length ls) (deed_of line) old (followed c.posted c.ended c.mid)) where
  abbrev all : Lists
  all = followed c.posted c.ended c.mid

  abbrev now : List Event
  now = history all.mail.sent all.outcomes (line ∷ ls)

  abbrev n : ℕ
  n = suc (length ls)

  all_newest : newest all ≡ n
  all_newest = all_count c.ended (with_mail (all_posted (newest c.mid) c.posted c.mid.mail) c.mid) ∙ mid_count line ls old told ordered.even good was.rows new c

  -- what a line says is right by the lines up to the one in whose step it ended
  abbrev Says : ℕ → ℕ → Bool → Outcome → Type 0
  Says k s b o = SaysRight (history all.mail.sent all.outcomes (lines_before (line ∷ ls) (suc (ended_of all.ended k)))) s b o

  says_still : (k s : ℕ) (b : Bool) (o : Outcome) → ended_of all.ended k ≡ ended_of old.ended k → SaysRight (history old.mail.sent old.outcomes (lines_before ls (suc (ended_of old.ended k)))) s b o → Says k s b o
  says_still k s b o same says =
      let m = suc (ended_of old.ended k) in
      let low : m ≤ suc (length ls) = let a = caused_past old ls was told k in let d = told in omega arith in
      subst (λ j. SaysRight (history all.mail.sent all.outcomes (lines_before (line ∷ ls) (suc j))) s b o) (sym same)
      (subst (λ zs. SaysRight (history all.mail.sent all.outcomes zs) s b o) (sym (before_old line ls m low))
      (subst (λ fs. SaysRight fs s b o) (same_history line ls old told ordered good was folded new c stepped (lines_before ls m) (before_few ls m)) says))

  says_now : (k s : ℕ) (b : Bool) (o : Outcome) → ended_of all.ended k ≡ n → SaysRight now s b o → Says k s b o
  says_now k s b o last says =
      subst (λ j. SaysRight (history all.mail.sent all.outcomes (lines_before (line ∷ ls) (suc j))) s b o) (sym last)
      (subst (λ zs. SaysRight (history all.mail.sent all.outcomes zs) s b o) (sym (before_next (line ∷ ls))) says)

  module _ (steps : Steps line old all) (held : ℕ → Outcome → Type 0) (right : AllHold held old.outcomes ls)
      (told_now : (k : ℕ) (o : Outcome) → is_answer o ≡ true → outcome_of all.outcomes k ≡ o → (outcome_of old.outcomes k ≡ o) ⊎ Speaks (role_of line) (opened old).sight held now k o) (before : AllSpeak old.mail.sent old.outcomes old.ended ls) where
    -- a transaction that had begun before the step
    began_before : (x s : ℕ) → is_ok (outcome_of old.outcomes x) ≡ true → outcome_of all.outcomes x ≡ Ok (Number s) → outcome_of old.outcomes x ≡ Ok (Number s)
    began_before x s begun began = elim (has_line ls x) [
      | inl none ↦ absurd (let a = sym (ap is_ok (was.rows.none x none).outcome) ∙ begun in cc)
      | inr z ↦ elim (change line ls old all told all_newest ordered good steps was x (line_range ls x z.0 z.1).1) [
        | inl same ↦ sym same.0 ∙ began
        | inr changed ↦ absurd (let a = sym (ok_over (outcome_of old.outcomes x) begun) ∙ changed.0 in cc)
      ]
    ]

    began_held : (x s : ℕ) → outcome_of old.outcomes x ≡ Ok (Number s) → held x (Ok (Number s))
    began_held x s began = elim (has_line ls x) [
      | inl none ↦ absurd (let a = sym (was.rows.none x none).outcome ∙ began in cc)
      | inr z ↦
          let row : IsRow (role_of z.0) (outcome_of old.outcomes x) (stand_at old.sight.stands x) = was.rows.rows x z.0 z.1 in
          let kind : answers (role_of z.0) (outcome_of old.outcomes x) ≡ true = (λ i. answers (sym row.is i) (sym row.outcome i)) ∙ row_answers row.row in
          time_holds held x s (role_of z.0) (subst (λ o. answers (role_of z.0) o ≡ true) began kind) (subst (λ o. HoldsBy held x (role_of z.0) o) began (holds_there held old.outcomes ls x z.0 z.1 right))
    ]

    -- a call of an earlier line that ends in the step
    module _ (k x s : ℕ) (o : Outcome) (f : AnswersOf (line ∷ ls) all.outcomes k x s o) (there : line_at ls k ≡ Some f.line) where
      heard : is_unfinished (outcome_of old.outcomes k) ≡ true → (b : Bool) → tells (deed_of line) ≡ b → Speaks (role_of line) (opened old).sight held now k o → SaysRight now s f.commits o
      heard waits false quiet speaks = absurd (let a = sym waits ∙ ap is_unfinished (sym (stays line ls old all told all_newest ordered good steps was quiet k (line_range ls k f.line there).1).0 ∙ f.is) ∙ answer_over o f.answers in cc)
      heard waits true told_so speaks =
          let row : IsRow (role_of f.line) (outcome_of old.outcomes k) (stand_at old.sight.stands k) = was.rows.rows k f.line there in
          let call = waiting_row row.row f.commits x (row.is ∙ f.role) (ap is_unfinished row.outcome ∙ waits) in
          let begun = called_began old.outcomes old.ended ls k x f.commits f.line there f.role (unfinished_unskipped (outcome_of old.outcomes k) waits) was.calls in
          let apart : x ≢ k = λ same. absurd (let a = sym (ok_over (outcome_of old.outcomes x) begun) ∙ subst (λ j. is_unfinished (outcome_of old.outcomes j) ≡ true) (sym same) waits in cc) in
          let of_it : SpeaksOf held now (answered_at k (stand_at (opened old).sight.stands k)) k o = subst (λ role. Speaks role (opened old).sight held now k o) (tells_none (deed_of line) told_so) speaks in
          let of_call : SpeaksOf held now (record { at = x; commits = f.commits }) k o = subst (λ stand. SpeaksOf held now (answered_at k stand) k o) (stand_opened old.sight.stands k ∙ sym row.at ∙ call.1) of_it in
          of_call apart s (began_held x s (began_before x s begun f.began))

      older : Says k s f.commits o
      older = elim (change line ls old all told all_newest ordered good steps was k (line_range ls k f.line there).1) [
        | inl same ↦
            let was_so : outcome_of old.outcomes k ≡ o = sym same.0 ∙ f.is in
            let begun = called_began old.outcomes old.ended ls k x f.commits f.line there f.role (ap is_skipped was_so ∙ answer_unskipped o f.answers) was.calls in
            says_still k s f.commits o same.1 (before k x s o (record { commits = f.commits; line = f.line; there = there; role = f.role; began = began_before x s begun f.began; is = was_so; answers = f.answers }))
        | inr changed ↦ elim (told_now k o f.answers f.is) [
          | inl before ↦ absurd (let a = sym (answer_over o f.answers) ∙ sym (ap is_unfinished before) ∙ changed.0 in cc)
          | inr speaks ↦ says_now k s f.commits o changed.1 (heard changed.0 (tells (deed_of line)) refl speaks)
        ]
      ]

    -- the newest line
    module _ (k x s : ℕ) (o : Outcome) (f : AnswersOf (line ∷ ls) all.outcomes k x s o) (here : k ≡ n) where
      same_role : role_of line ≡ UsesTransaction f.commits x
      same_role =
          let is : ◌≡◌ {A = Option Line} (Some line) (Some f.line) = sym (line_new line ls) ∙ ap (λ j. line_at (line ∷ ls) j) (sym here) ∙ f.there in
          let same : line ≡ f.line = cc in
          ap (λ l. role_of l) same ∙ f.role

      answered_now : outcome_of all.outcomes n ≡ o
      answered_now = ap (λ j. outcome_of all.outcomes j) (sym here) ∙ f.is

      quiet : tells (deed_of line) ≡ false
      quiet = by (tells (deed_of line)) refl
        where
          by : (b : Bool) → tells (deed_of line) ≡ b → b ≡ false
          by true q = absurd (let a = sym (tells_none (deed_of line) q) ∙ same_role in cc)
          by false q = refl

      own_says : Speaks (role_of line) (opened old).sight held now n o → SaysRight now s f.commits o
      own_says speaks =
          let named : IsBegin (line_at ls x) = subst (λ r. Names ls r) same_role (names ls line good) in
          let low : x ≤ length ls = (line_range ls x named.line named.is).1 in
          let began : outcome_of old.outcomes x ≡ Ok (Number s) = sym (stays line ls old all told all_newest ordered good steps was quiet x low).0 ∙ f.began in
          let of_it : SpeaksOf held now (record { at = x; commits = f.commits }) n o = subst (λ r. Speaks r (opened old).sight held now n o) same_role speaks in
          let apart : x ≢ n = λ same. absurd (omega arith) in
          of_it apart s (began_held x s began)

      newest_says : Says n s f.commits o
      newest_says = elim (told_now n o f.answers answered_now) [
        | inl before ↦ absurd (let a = sym f.answers ∙ sym (ap is_answer before) ∙ ap is_answer (outcome_past old.outcomes (length ls) told) in cc)
        | inr speaks ↦ says_now n s f.commits o (new_ended line ls old told ordered.even good was.rows new c (ap is_unfinished answered_now ∙ answer_over o f.answers)) (own_says speaks)
      ]

    pub speak_now : AllSpeak all.mail.sent all.outcomes all.ended (line ∷ ls)
    speak_now k x s o f = elim (same_line n k) [
      | inl here ↦ subst (λ j. Says j s f.commits o) (sym here) (newest_says k x s o f here)
      | inr far ↦ older k x s o f (sym (line_old line ls k far) ∙ f.there)
    ]
