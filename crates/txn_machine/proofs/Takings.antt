-- What a machine has taken in stands for its lines, and for one more after each step.
use Rattle.std.proofs.Common.{◌≡◌, ℕ, ◌+◌, true, List, [], ◌∷◌, ◌++◌, None, length, reverse, sym, ap, ◌∙◌, subst, arith, append-nil}
use Rattle.std.proofs.lemmas.List.{reverse-reverse}
use Rattle.txn_lines.specs.Lines.{why_after}
use Rattle.txn_lines.specs.Deeds.{deed_of}
use Rattle.txn_lines.specs.declared.line.Line.{Line}
use Rattle.txn_report.specs.declared.outcome.Outcome.{Outcome}
use Rattle.txn_report.specs.declared.report.Report.{Report}
use Rattle.txn_side.specs.Account.{Account, AreNew}
use Rattle.txn_side.specs.Sight.{Sight}
use Rattle.txn_side.specs.Waiting.{Awaited}
use Rattle.txn_machine.specs.Accounts.{AccountsMeetLines, AllAccountsMeet, AreTakenIn, Credited, TakenIn}
use Rattle.txn_machine.specs.Lawful.{AllGood}
use Rattle.txn_machine.specs.Lists.{newest}
use Rattle.txn_machine.specs.Running.{HasMemory, Standing, StandsFor, lists_of}
use Rattle.txn_machine.specs.Steps.{Steps}
use Rattle.txn_machine.specs.declared.machine.Machine.{Machine}
use Rattle.txn_machine.proofs.Accounting.{taken_nothing, taken_step}
use Rattle.txn_machine.proofs.LineByLine.{none_left, turned_over}
use Rattle.txn_machine.proofs.Orders.{Stays, steps_keep}
use Rattle.txn_machine.proofs.Standings.{few_lines, good_fine}

pub new_taken : {S : Type 0} (account : S → ℕ → Account) (m : Machine S) → m.outcomes.items ≡ [] → m.ended.items ≡ [] → AreNew (account m.clients) → TakenIn account m []
new_taken account m outcomes ended new memory = subst (λ outs. AreTakenIn [] outs m.ended.items (account m.clients)) (sym outcomes) (subst (λ es. AreTakenIn [] [] es (account m.clients)) (sym ended) (taken_nothing (account m.clients) new))

pub broken_taken : {S : Type 0} (account : S → ℕ → Account) (m : Machine S) (lines : List Line) → m.broken ≡ true → TakenIn account m lines
broken_taken account m lines broken h = absurd (let e = h.whole in cc)

pub step_taken : {S : Type 0} (sight : S → Sight) (ready : S → Type 0) (waits : S → ℕ → Awaited → Type 0) (account : S → ℕ → Account) (old new : Machine S) (line : Line) (before : List Line) → Steps line (lists_of sight old) (lists_of sight new) → Credited (deed_of line) (sight old.clients) (account old.clients) (account new.clients) (lists_of sight new)
    → why_after before line ≡ None → HasMemory old → StandsFor sight ready waits old before → TakenIn account old before → TakenIn account new (line ∷ before)
step_taken sight ready waits account old new line before steps credited good memory stood taken h =
    taken_step line before (lists_of sight old) (lists_of sight new) was.told (let a = next.count in let b = was.told in omega arith) was.ordered good steps was.caused (account old.clients) (account new.clients) (taken memory) credited
  where
    was : Standing sight ready waits old before
    was = stood.stands memory

    next : Stays (newest (lists_of sight old) + 1) (lists_of sight new)
    next = steps_keep (lists_of sight old) (few_lines sight ready waits old before line good was) was.ordered (deed_of line) (lists_of sight new) (good_fine before line good) steps

pub report_accounts : {S : Type 0} (account : S → ℕ → Account) (m : Machine S) (outs : List Outcome) (ended : List ℕ) (lines : List Line) → outs ≡ m.outcomes.items → ended ≡ m.ended.items → HasMemory m → TakenIn account m lines → AllAccountsMeet outs ended lines
report_accounts account m outs ended lines outcomes ends memory taken =
    subst (λ os. AllAccountsMeet os ended lines) (sym outcomes) (subst (λ es. AllAccountsMeet m.outcomes.items es lines) (sym ends) (taken memory).meets)

-- A run of lines.

-- A machine has taken in the first of these lines.
pub record TakesOn {S : Type 0} (sight : S → Sight) (ready : S → Type 0) (waits : S → ℕ → Awaited → Type 0) (account : S → ℕ → Account) (m : Machine S) (all rest : List Line) : Type 0 where
  pub done : List Line
  pub stands : StandsFor sight ready waits m done
  pub taken : TakenIn account m done
  pub good : AllGood done rest
  pub together : reverse done ++ rest ≡ all

module _ {S : Type 0} (sight : S → Sight) (ready : S → Type 0) (waits : S → ℕ → Awaited → Type 0) (account : S → ℕ → Account) where
  pub takes_stepped : (m m' : Machine S) (all before rest : List Line) (line : Line) → TakesOn sight ready waits account m all before → before ≡ line ∷ rest
      → ((ls : List Line) → StandsFor sight ready waits m ls → why_after ls line ≡ None → StandsFor sight ready waits m' (line ∷ ls))
      → ((ls : List Line) → StandsFor sight ready waits m ls → why_after ls line ≡ None → TakenIn account m ls → TakenIn account m' (line ∷ ls)) → TakesOn sight ready waits account m' all rest
  takes_stepped m m' all before rest line r e stands taken =
      let good = subst (λ ls. AllGood r.done ls) e r.good in
      record {
        done = line ∷ r.done;
        stands = stands r.done r.stands good.0;
        taken = taken r.done r.stands good.0 r.taken;
        good = good.1;
        together = turned_over line r.done rest ∙ ap (λ ls. reverse r.done ++ ls) (sym e) ∙ r.together;
      }

  pub takes_over : (m : Machine S) (all rest : List Line) (report : Report) → TakesOn sight ready waits account m all rest → length rest ≡ 0
      → ((ls : List Line) → TakenIn account m ls → AccountsMeetLines ls report) → AccountsMeetLines (reverse all) report
  takes_over m all rest report r e accounts =
      subst (λ ls. AccountsMeetLines ls report)
      (sym (reverse-reverse r.done) ∙ ap (λ ls. reverse ls) (sym (append-nil (reverse r.done)) ∙ ap (λ ls. reverse r.done ++ ls) (sym (none_left rest e)) ∙ r.together))
      (accounts r.done r.taken)
