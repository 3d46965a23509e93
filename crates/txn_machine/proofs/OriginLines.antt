-- The clients of a machine can have arisen from the history of its lines, and of one more after each step.
use Rattle.std.proofs.Common.{◌≡◌, ℕ, true, List, [], ◌∷◌, ◌++◌, None, length, reverse, sym, ap, ◌∙◌, subst, append-nil}
use Rattle.std.proofs.lemmas.List.{reverse-reverse}
use Rattle.txn_history.specs.Event.{Event}
use Rattle.txn_lines.specs.Lines.{why_after}
use Rattle.txn_lines.specs.Deeds.{deed_of}
use Rattle.txn_lines.specs.declared.line.Line.{Line}
use Rattle.txn_report.specs.declared.outcome.Outcome.{Outcome}
use Rattle.txn_report.specs.declared.report.Report.{Report}
use Rattle.txn_side.specs.Account.{Account}
use Rattle.txn_side.specs.Sight.{Sight, stand_at}
use Rattle.txn_side.specs.Waiting.{Awaited}
use Rattle.txn_machine.specs.Accounts.{TakenIn, account_of}
use Rattle.txn_machine.specs.Arising.{Arisen, ArisenIn, ArisenLines, HaveArisen}
use Rattle.txn_machine.specs.Causes.{ended_of, role_of}
use Rattle.txn_machine.specs.Lawful.{AllGood}
use Rattle.txn_machine.specs.Rows.{IsRow}
use Rattle.txn_machine.specs.Running.{HasMemory, IsReportOf, Standing, StandsFor, lists_of}
use Rattle.txn_machine.specs.Script.{outcome_of}
use Rattle.txn_machine.specs.Steps.{Steps}
use Rattle.txn_machine.specs.declared.machine.Machine.{Machine}
use Rattle.txn_machine.proofs.LineByLine.{none_left, turned_over}
use Rattle.txn_machine.proofs.Origins.{arisen_on}

pub new_arisen : {S : Type 0} (arises : S → List Event → Type 0) (holds : S → List Event → ℕ → Outcome → Type 0) (m : Machine S) → arises m.clients [] → ArisenIn arises holds m []
new_arisen arises holds m none memory = record { now = none; answers = tt; says = λ n x s o f. absurd (let a = f.there in cc) }

pub broken_arisen : {S : Type 0} (arises : S → List Event → Type 0) (holds : S → List Event → ℕ → Outcome → Type 0) (m : Machine S) (lines : List Line) → m.broken ≡ true → ArisenIn arises holds m lines
broken_arisen arises holds m lines broken h = absurd (let e = h.whole in cc)

pub step_arisen : {S : Type 0} (sight : S → Sight) (ready : S → Type 0) (waits : S → ℕ → Awaited → Type 0) (arises : S → List Event → Type 0) (holds : S → List Event → ℕ → Outcome → Type 0) (old new : Machine S) (line : Line) (before : List Line) → Steps line (lists_of sight old) (lists_of sight new)
    → Arisen (arises old.clients) (arises new.clients) (holds old.clients) (holds new.clients) (deed_of line) (lists_of sight old) (lists_of sight new) → why_after before line ≡ None → HasMemory old → StandsFor sight ready waits old before → ArisenIn arises holds old before → ArisenIn arises holds new (line ∷ before)
step_arisen sight ready waits arises holds old new line before steps goes good memory stood arisen h =
    arisen_on (arises old.clients) (arises new.clients) (holds old.clients) (holds new.clients) line before (lists_of sight old) (lists_of sight new) was.told was.ordered good steps was.folded was.caused goes (arisen memory)
  where
    was : Standing sight ready waits old before
    was = stood.stands memory

module _ {S : Type 0} (sight : S → Sight) (ready : S → Type 0) (waits : S → ℕ → Awaited → Type 0) (arises : S → List Event → Type 0) (holds : S → List Event → ℕ → Outcome → Type 0) (account : S → ℕ → Account) where
  pub report_arisen : (m : Machine S) (report : Report) (lines : List Line) → IsReportOf (lists_of sight m) report → HasMemory m → StandsFor sight ready waits m lines → TakenIn account m lines → ArisenIn arises holds m lines → ArisenLines sight arises holds account lines report
  report_arisen m report lines r memory stood taken arisen = record {
    clients = m.clients;
    arisen = subst (λ sent. HaveArisen (arises m.clients) (holds m.clients) lines sent report.outcomes report.ended) (sym r.sent)
        (subst (λ outs. HaveArisen (arises m.clients) (holds m.clients) lines m.post.sent outs report.ended) (sym r.outcomes)
        (subst (λ ends. HaveArisen (arises m.clients) (holds m.clients) lines m.post.sent m.outcomes.items ends) (sym r.ended) (arisen memory)));
    taken = λ x. subst (λ outs. account m.clients x ≡ account_of (λ n. outcome_of outs n) (λ n. ended_of report.ended n) lines x) (sym r.outcomes)
        (subst (λ ends. account m.clients x ≡ account_of (λ n. outcome_of m.outcomes.items n) (λ n. ended_of ends n) lines x) (sym r.ended) ((taken memory).accounts_are x));
    rows = λ n line e. subst (λ outs. IsRow (role_of line) (outcome_of outs n) (stand_at (sight m.clients).stands n)) (sym r.outcomes) (was.caused.rows.rows n line e);
    none = λ n e. let idle = was.caused.rows.none n e in idle.at;
  }
    where
      was : Standing sight ready waits m lines
      was = stood.stands memory

  -- A run of lines.

  -- The clients of a machine can have arisen from the history of the first of these lines.
  pub record ArisesOn (m : Machine S) (all rest : List Line) : Type 0 where
    pub done : List Line
    pub stands : StandsFor sight ready waits m done
    pub taken : TakenIn account m done
    pub arisen : ArisenIn arises holds m done
    pub good : AllGood done rest
    pub together : reverse done ++ rest ≡ all

  pub arises_stepped : (m m' : Machine S) (all before rest : List Line) (line : Line) → ArisesOn m all before → before ≡ line ∷ rest
      → ((ls : List Line) → StandsFor sight ready waits m ls → why_after ls line ≡ None → StandsFor sight ready waits m' (line ∷ ls))
      → ((ls : List Line) → StandsFor sight ready waits m ls → why_after ls line ≡ None → TakenIn account m ls → TakenIn account m' (line ∷ ls))
      → ((ls : List Line) → StandsFor sight ready waits m ls → why_after ls line ≡ None → ArisenIn arises holds m ls → ArisenIn arises holds m' (line ∷ ls)) → ArisesOn m' all rest
  arises_stepped m m' all before rest line r e stands taken arisen =
      let good = subst (λ ls. AllGood r.done ls) e r.good in
      record {
        done = line ∷ r.done;
        stands = stands r.done r.stands good.0;
        taken = taken r.done r.stands good.0 r.taken;
        arisen = arisen r.done r.stands good.0 r.arisen;
        good = good.1;
        together = turned_over line r.done rest ∙ ap (λ ls. reverse r.done ++ ls) (sym e) ∙ r.together;
      }

  pub arises_over : (m : Machine S) (all rest : List Line) (report : Report) → ArisesOn m all rest → length rest ≡ 0
      → ((ls : List Line) → StandsFor sight ready waits m ls → TakenIn account m ls → ArisenIn arises holds m ls → ArisenLines sight arises holds account ls report) → ArisenLines sight arises holds account (reverse all) report
  arises_over m all rest report r e arisen =
      subst (λ ls. ArisenLines sight arises holds account ls report)
      (sym (reverse-reverse r.done) ∙ ap (λ ls. reverse ls) (sym (append-nil (reverse r.done)) ∙ ap (λ ls. reverse r.done ++ ls) (sym (none_left rest e)) ∙ r.together))
      (arisen r.done r.stands r.taken r.arisen)
