-- What the calls of a machine have heard has happened in its lines, and in one more after each step.
use Rattle.std.proofs.Common.{◌≡◌, ℕ, true, List, [], ◌∷◌, ◌++◌, None, length, reverse, refl, sym, ap, ◌∙◌, subst, append-nil}
use Rattle.std.proofs.lemmas.List.{reverse-reverse}
use Rattle.txn_lines.specs.Lines.{why_after}
use Rattle.txn_lines.specs.Deeds.{deed_of}
use Rattle.txn_lines.specs.declared.line.Line.{Line}
use Rattle.txn_report.specs.declared.report.Report.{Report}
use Rattle.txn_side.specs.Account.{Account}
use Rattle.txn_side.specs.Sight.{Sight}
use Rattle.txn_side.specs.Trace.{HowCallsFail, IsLonger, Trace}
use Rattle.txn_side.specs.Waiting.{Awaited}
use Rattle.txn_machine.specs.Accounts.{TakenIn}
use Rattle.txn_machine.specs.Failing.{AllCausesMeet, CausesMeetLines, FailsBy, HeardIn, Rested, trace_of}
use Rattle.txn_machine.specs.Lawful.{AllGood}
use Rattle.txn_machine.specs.Running.{HasMemory, IsReportOf, Standing, StandsFor, lists_of}
use Rattle.txn_machine.specs.Steps.{Steps}
use Rattle.txn_machine.specs.declared.machine.Machine.{Machine}
use Rattle.txn_machine.proofs.Failures.{heard_step}
use Rattle.txn_machine.proofs.LineByLine.{none_left, turned_over}

pub new_heard : {S : Type 0} (rests : S → Trace → Type 0) (fails : HowCallsFail) (m : Machine S) → ((t : Trace) → t.owed ≡ [] → rests m.clients t) → HeardIn rests fails m []
new_heard rests fails m none memory = record { rest = none (trace_of m.post.sent m.outcomes.items []) refl; causes = tt }

pub broken_heard : {S : Type 0} (rests : S → Trace → Type 0) (fails : HowCallsFail) (m : Machine S) (lines : List Line) → m.broken ≡ true → HeardIn rests fails m lines
broken_heard rests fails m lines broken h = absurd (let e = h.whole in cc)

pub step_heard : {S : Type 0} (sight : S → Sight) (ready : S → Type 0) (waits : S → ℕ → Awaited → Type 0) (account : S → ℕ → Account) (fails : HowCallsFail) (rests : S → Trace → Type 0) (old new : Machine S) (line : Line) (before : List Line) → Steps line (lists_of sight old) (lists_of sight new)
    → Rested fails (rests old.clients) (rests new.clients) (deed_of line) (lists_of sight old) (account old.clients) (lists_of sight new) → ((s : S) (t longer : Trace) → IsLonger t longer → rests s t → rests s longer)
    → why_after before line ≡ None → HasMemory old → StandsFor sight ready waits old before → TakenIn account old before → HeardIn rests fails old before → HeardIn rests fails new (line ∷ before)
step_heard sight ready waits account fails rests old new line before steps rested longer good memory stood taken heard h =
    heard_step fails (rests old.clients) (rests new.clients) line before (lists_of sight old) (lists_of sight new) (account old.clients) was.told was.ordered good steps was.folded was.caused was.timely (taken memory) rested (longer old.clients) (longer new.clients) (heard memory)
  where
    was : Standing sight ready waits old before
    was = stood.stands memory

pub report_causes : {S : Type 0} (sight : S → Sight) (rests : S → Trace → Type 0) (fails : HowCallsFail) (m : Machine S) (report : Report) (lines : List Line) → IsReportOf (lists_of sight m) report → HasMemory m → HeardIn rests fails m lines → CausesMeetLines fails lines report
report_causes sight rests fails m report lines r memory heard =
    subst (λ sent. AllCausesMeet (λ n e. FailsBy fails sent report.outcomes report.ended lines n e) report.outcomes report.ended lines) (sym r.sent)
    (subst (λ outs. AllCausesMeet (λ n e. FailsBy fails m.post.sent outs report.ended lines n e) outs report.ended lines) (sym r.outcomes)
    (subst (λ ends. AllCausesMeet (λ n e. FailsBy fails m.post.sent m.outcomes.items ends lines n e) m.outcomes.items ends lines) (sym r.ended) (heard memory).causes))

-- A run of lines.

-- The calls of a machine have heard what happened in the first of these lines.
pub record HearsOn {S : Type 0} (sight : S → Sight) (ready : S → Type 0) (waits : S → ℕ → Awaited → Type 0) (account : S → ℕ → Account) (fails : HowCallsFail) (rests : S → Trace → Type 0) (m : Machine S) (all rest : List Line) : Type 0 where
  pub done : List Line
  pub stands : StandsFor sight ready waits m done
  pub taken : TakenIn account m done
  pub heard : HeardIn rests fails m done
  pub good : AllGood done rest
  pub together : reverse done ++ rest ≡ all

module _ {S : Type 0} (sight : S → Sight) (ready : S → Type 0) (waits : S → ℕ → Awaited → Type 0) (account : S → ℕ → Account) (fails : HowCallsFail) (rests : S → Trace → Type 0) where
  pub hears_stepped : (m m' : Machine S) (all before rest : List Line) (line : Line) → HearsOn sight ready waits account fails rests m all before → before ≡ line ∷ rest
      → ((ls : List Line) → StandsFor sight ready waits m ls → why_after ls line ≡ None → StandsFor sight ready waits m' (line ∷ ls))
      → ((ls : List Line) → StandsFor sight ready waits m ls → why_after ls line ≡ None → TakenIn account m ls → TakenIn account m' (line ∷ ls))
      → ((ls : List Line) → StandsFor sight ready waits m ls → why_after ls line ≡ None → TakenIn account m ls → HeardIn rests fails m ls → HeardIn rests fails m' (line ∷ ls)) → HearsOn sight ready waits account fails rests m' all rest
  hears_stepped m m' all before rest line r e stands taken heard =
      let good = subst (λ ls. AllGood r.done ls) e r.good in
      record {
        done = line ∷ r.done;
        stands = stands r.done r.stands good.0;
        taken = taken r.done r.stands good.0 r.taken;
        heard = heard r.done r.stands good.0 r.taken r.heard;
        good = good.1;
        together = turned_over line r.done rest ∙ ap (λ ls. reverse r.done ++ ls) (sym e) ∙ r.together;
      }

  pub hears_over : (m : Machine S) (all rest : List Line) (report : Report) → HearsOn sight ready waits account fails rests m all rest → length rest ≡ 0
      → ((ls : List Line) → HeardIn rests fails m ls → CausesMeetLines fails ls report) → CausesMeetLines fails (reverse all) report
  hears_over m all rest report r e causes =
      subst (λ ls. CausesMeetLines fails ls report)
      (sym (reverse-reverse r.done) ∙ ap (λ ls. reverse ls) (sym (append-nil (reverse r.done)) ∙ ap (λ ls. reverse r.done ++ ls) (sym (none_left rest e)) ∙ r.together))
      (causes r.done r.heard)
