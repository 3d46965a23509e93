-- Each line keeps what is said of the accounts.
use Rattle.std.proofs.Common.{◌≡◌, ◌≢◌, ℕ, suc, ◌≤◌, ◌⊎◌, inl, inr, Bool, true, false, not, List, [], ◌∷◌, Option, Some, None, length, nat_eq, refl, sym, ap, ◌∙◌, subst, arith}
use Rattle.std.proofs.lemmas.Bool.Decides.{nat_tests}
use Rattle.txn_lines.specs.Lines.{why_after}
use Rattle.txn_lines.specs.Deeds.{deed_of}
use Rattle.txn_lines.specs.declared.deed.Deed.{Deed}
use Rattle.txn_lines.specs.declared.deed.Deed.TheVariants as deeds
use Rattle.txn_lines.specs.declared.line.Line.{Line}
use Rattle.txn_report.specs.declared.outcome.Outcome.{Outcome}
use Rattle.txn_side.specs.Account.{Account, AreNew, after_act, awaited_line, refusal}
use Rattle.txn_side.specs.Sight.{EndsAlone, line_count, stand_at}
use Rattle.txn_machine.specs.Accounts.{AccountMeets, AnswersIn, AreTakenIn, Ask, Credited, CreditedBy, WasAskedIf, account_of, after_line, after_step, ask_for, ask_of, closed_if}
use Rattle.txn_machine.specs.Causes.{Role, ended_of, is_skipped, role_of, tells}
use Rattle.txn_machine.specs.Causes.Role.{AsksTime, MakesClient, NoCall, UsesTransaction}
use Rattle.txn_machine.specs.Lists.{Lists, followed, newest, opened}
use Rattle.txn_machine.specs.Rows.{Caused}
use Rattle.txn_machine.specs.Running.{IsOrdered}
use Rattle.txn_machine.specs.Script.{outcome_of}
use Rattle.txn_machine.specs.Steps.{Steps}
use Rattle.txn_machine.proofs.Calms.{same_line}
use Rattle.txn_machine.proofs.Caused.{apart, changes, lined, writes}
use Rattle.txn_machine.proofs.Closings.{accounts_gone, accounts_still, all_same, gone, line_apart, line_asked, line_skipped}
use Rattle.txn_machine.proofs.Courses.{Begins, course}
use Rattle.txn_machine.proofs.Courses as courses
use Rattle.txn_machine.proofs.Goings.{Change, Written, alone_none}

-- The newest line.

-- what is said of a line that asks this, of which so much is known
module _ (n : ℕ) (l : Lists) (count : newest l ≡ n) (a b account : ℕ → Account) (was : (x : ℕ) → a x ≡ account x) (ask : Ask) where
  abbrev now : Outcome
  now = outcome_of l.outcomes n

  abbrev here : ℕ
  here = ended_of l.ended n

  asked_now : WasAskedIf (not (is_skipped (outcome_of l.outcomes (newest l)))) ask a b l → ((x : ℕ) → b x ≡ after_line (Some ask) n x now here (account x)) × AccountMeets account n (Some ask) now here
  asked_now h = by (is_skipped now) refl (subst (λ k. WasAskedIf (not (is_skipped (outcome_of l.outcomes k))) ask a b l) count h)
    where
      by : (z : Bool) → is_skipped now ≡ z → WasAskedIf (not z) ask a b l → ((x : ℕ) → b x ≡ after_line (Some ask) n x now here (account x)) × AccountMeets account n (Some ask) now here
      by true q kept = (λ x. kept x ∙ was x ∙ sym (line_skipped ask n x now here (account x) q), λ s. absurd (cc))
      by false q h = (λ x. at x (same_line ask.transaction x), λ s. answer)
        where
          answer : AnswersIn n ask.act (refusal ask.act (account ask.transaction)) now here
          answer = subst (λ z. AnswersIn n ask.act (refusal ask.act z) now here) (was ask.transaction) (subst (λ k. AnswersIn k ask.act (refusal ask.act (a ask.transaction)) (outcome_of l.outcomes k) (ended_of l.ended k)) count h.answer)

          own : b ask.transaction ≡ after_line (Some ask) n ask.transaction now here (account ask.transaction)
          own =
              let q2 : nat_eq ask.transaction ask.transaction ≡ true = grind (arith, nat_tests) in
              subst (λ k. b ask.transaction ≡ after_act ask.act (nat_eq (ended_of l.ended k) k) (outcome_of l.outcomes k) (a ask.transaction)) count h.own
              ∙ ap (after_act ask.act (nat_eq here n) now) (was ask.transaction) ∙ sym (line_asked ask n ask.transaction now here (account ask.transaction) q2 q)

          at : (x : ℕ) → (x ≡ ask.transaction) ⊎ (x ≢ ask.transaction) → b x ≡ after_line (Some ask) n x now here (account x)
          at x (inl e) = subst (λ y. b y ≡ after_line (Some ask) n y now here (account y)) (sym e) own
          at x (inr far) = let q2 : nat_eq ask.transaction x ≡ false = grind (arith, nat_tests) in h.others x far ∙ was x ∙ sym (line_apart ask n x now here (account x) q2)

-- a line that asks something tells the clients nothing
abbrev pub QuietBy : Option Ask → Bool → Type 0
QuietBy None told = Unit {0}
QuietBy (Some ask) told = told ≡ false

pub quiet_by : (deed : Deed) → QuietBy (ask_for deed) (tells deed)
quiet_by (deeds.Use x act) = refl
quiet_by deed = tt

-- A step.

pub taken_nothing : (accounts : ℕ → Account) → AreNew accounts → AreTakenIn [] [] [] accounts
taken_nothing accounts new = record { accounts_are = new; meets = tt }

module _ (line : Line) (ls : List Line) (old new : Lists) (told : newest old ≡ length ls) (count : newest new ≡ suc (length ls)) (ordered : IsOrdered old) (good : why_after ls line ≡ None) (steps : Steps line old new) (caused : Caused ls old) where
  c : courses.Course (deed_of line) old new
  c = course old (deed_of line) new steps

  abbrev all : Lists
  all = followed c.posted c.ended c.mid

  changed : (j : ℕ) → j ≢ suc (length ls) → Change (suc (length ls)) (outcome_of old.outcomes j) (ended_of old.ended j) (outcome_of all.outcomes j) (ended_of all.ended j)
  changed j far =
      let k = apart line ls old told ordered.even good caused.rows new c j far in
      subst (λ o. Change (suc (length ls)) o (ended_of old.ended j) (outcome_of all.outcomes j) (ended_of all.ended j)) k.0
      (subst (λ e. Change (suc (length ls)) (outcome_of c.mid.outcomes j) e (outcome_of all.outcomes j) (ended_of all.ended j)) k.1
      (changes line ls old told ordered.even good caused.rows new c j))

  pub change : (j : ℕ) → j ≤ length ls → Change (suc (length ls)) (outcome_of old.outcomes j) (ended_of old.ended j) (outcome_of new.outcomes j) (ended_of new.ended j)
  change j low = subst (λ (l : Lists). Change (suc (length ls)) (outcome_of old.outcomes j) (ended_of old.ended j) (outcome_of l.outcomes j) (ended_of l.ended j)) (sym c.is) (changed j (λ e. absurd (omega arith)))

  -- no call of an earlier line ends where the clients hear of nothing
  alone : tells (deed_of line) ≡ false → EndsAlone (suc (length ls)) c.ended
  alone quiet = by (role_of line) c.begins
    where
      none : c.ended ≡ [] → EndsAlone (suc (length ls)) c.ended
      none is = subst (λ es. EndsAlone (suc (length ls)) es) (sym is) (λ k d h. absurd (omega arith))

      own : EndsAlone (line_count (opened old).sight) c.ended → EndsAlone (suc (length ls)) c.ended
      own h = subst (λ n. EndsAlone n c.ended) (lined line ls old told ordered.even good caused.rows new c) h

      by : (r : Role) → Begins r (deed_of line) c.own c.ended (opened old).sight c.from → EndsAlone (suc (length ls)) c.ended
      by MakesClient h = none h.none
      by (AsksTime b k) h = elim h [ inl i ↦ none i.none | inr a ↦ own a.alone ]
      by (UsesTransaction b x) h = elim h [ inl i ↦ none i.none | inr a ↦ own a.alone ]
      by NoCall h = elim h.ends [ inl is ↦ none is | inr t ↦ absurd (let a = t.1 in cc) ]

  pub stays : tells (deed_of line) ≡ false → (j : ℕ) → j ≤ length ls → (outcome_of new.outcomes j ≡ outcome_of old.outcomes j) × (ended_of new.ended j ≡ ended_of old.ended j)
  stays quiet j low =
      let far : j ≢ suc (length ls) = λ here. absurd (omega arith) in
      let k = apart line ls old told ordered.even good caused.rows new c j far in
      let w : Written j (suc (length ls)) [] (outcome_of c.mid.outcomes j) (ended_of c.mid.ended j) (outcome_of all.outcomes j) (ended_of all.ended j)
      = subst (λ os. Written j (suc (length ls)) os (outcome_of c.mid.outcomes j) (ended_of c.mid.ended j) (outcome_of all.outcomes j) (ended_of all.ended j)) (alone_none c.ended (suc (length ls)) j (alone quiet) far) (writes line ls old told ordered.even good caused.rows new c j) in
      (ap (λ (l : Lists). outcome_of l.outcomes j) c.is ∙ w.0 ∙ k.0, ap (λ (l : Lists). ended_of l.ended j) c.is ∙ w.1 ∙ k.1)

  abbrev after : ℕ → Account
  after x = account_of (λ n. outcome_of new.outcomes n) (λ n. ended_of new.ended n) ls x

  abbrev Keeps : Option Ask → (ℕ → Account) → Type 0
  Keeps ask b = ((x : ℕ) → b x ≡ after_line ask (suc (length ls)) x (outcome_of new.outcomes (suc (length ls))) (ended_of new.ended (suc (length ls))) (after x)) × AccountMeets after (suc (length ls)) ask (outcome_of new.outcomes (suc (length ls))) (ended_of new.ended (suc (length ls)))

  module _ (a b : ℕ → Account) (was : AreTakenIn ls old.outcomes old.ended a) where
    -- where no call of an earlier line ends
    pub calm_was : tells (deed_of line) ≡ false → (x : ℕ) → a x ≡ after x
    calm_was quiet x = was.accounts_are x ∙ sym (all_same ls old.outcomes new.outcomes old.ended new.ended (λ n. stand_at old.sight.stands n) old.sight.crashed caused.rows change (stays quiet) ls (omega arith) x)

    gone_now : (x : ℕ) → after_step old.sight new x (a x) ≡ after x
    gone_now x =
        ap (λ k. let m = awaited_line (stand_at old.sight.stands x) in closed_if (stand_at old.sight.stands m) (nat_eq (ended_of new.ended m) k) (outcome_of new.outcomes m) (a x)) count
        ∙ ap (gone ls old.outcomes new.outcomes old.ended new.ended (λ n. stand_at old.sight.stands n) old.sight.crashed caused.rows change x) (was.accounts_are x)
        ∙ sym (accounts_gone ls old.outcomes new.outcomes old.ended new.ended (λ n. stand_at old.sight.stands n) old.sight.crashed caused.rows change caused.calls was.meets x)

    line_now : (ask : Option Ask) (heard : Bool) → tells (deed_of line) ≡ heard → QuietBy ask heard → CreditedBy ask heard old.sight a b new → Keeps ask b
    line_now None true q quiet h = (λ x. h x ∙ gone_now x, tt)
    line_now None false q quiet h = (λ x. h x ∙ calm_was q x, tt)
    line_now (Some ask) heard q quiet h = asked_now (suc (length ls)) new count a b (λ x. after x) (calm_was (q ∙ quiet)) ask h

    pub taken_step : Credited (deed_of line) old.sight a b new → AreTakenIn (line ∷ ls) new.outcomes new.ended b
    taken_step credited =
        let here = line_now (ask_of line) (tells (deed_of line)) refl (quiet_by (deed_of line)) credited in
        record {
          accounts_are = here.0;
          meets = (here.1, accounts_still ls old.outcomes new.outcomes old.ended new.ended (λ n. stand_at old.sight.stands n) old.sight.crashed caused.rows change ls (omega arith) caused.calls was.meets);
        }
