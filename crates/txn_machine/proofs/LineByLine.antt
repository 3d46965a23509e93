-- A run of lines.
use Rattle.std.proofs.Common.{◌≡◌, ℕ, List, [], ◌∷◌, ◌++◌, None, length, reverse, refl, sym, ap, ◌∙◌, subst, arith, append-nil}
use Rattle.std.proofs.lemmas.List.{append_assoc, length-reverse, reverse-append, reverse-reverse}
use Rattle.txn_lines.specs.Lines.{why_after}
use Rattle.txn_lines.specs.declared.line.Line.{Line}
use Rattle.txn_report.specs.declared.report.Report.{Report}
use Rattle.txn_side.specs.Sight.{Sight}
use Rattle.txn_side.specs.Waiting.{Awaited}
use Rattle.txn_machine.specs.Accounts.{AccountsMeetLines}
use Rattle.txn_machine.specs.Causes.{CallsMeetLines, EndsLines, EventsMeetLines, LivesLines, TellsLines}
use Rattle.txn_machine.specs.Dues.{DuesLines}
use Rattle.txn_machine.specs.Lawful.{AllGood, Lawful}
use Rattle.txn_machine.specs.Notes.{AreNoted}
use Rattle.txn_machine.specs.Running.{CanStep, HasMemory, StandsFor}
use Rattle.txn_machine.specs.Script.{FoldsLines}
use Rattle.txn_machine.specs.Times.{TimesLines}
use Rattle.txn_machine.specs.declared.machine.Machine.{Machine}

pub none_left : (ls : List Line) → length ls ≡ 0 → ls ≡ []
none_left [] e = refl
none_left (l ∷ ls) e = absurd (omega arith)

pub turned_over : (line : Line) (done rest : List Line) → reverse (line ∷ done) ++ rest ≡ reverse done ++ line ∷ rest
turned_over line done rest = ap (λ ls. ls ++ rest) (reverse-append (line ∷ []) done) ∙ append_assoc (reverse done) (line ∷ []) rest

-- A machine stands for the first of these lines, and the rest are good after them.
pub record RunsOn {S : Type 0} (sight : S → Sight) (ready : S → Type 0) (waits : S → ℕ → Awaited → Type 0) (m : Machine S) (all rest : List Line) : Type 0 where
  pub done : List Line
  pub memory : HasMemory m
  pub stands : StandsFor sight ready waits m done
  pub good : AllGood done rest
  pub together : reverse done ++ rest ≡ all

module _ {S : Type 0} (sight : S → Sight) (ready : S → Type 0) (waits : S → ℕ → Awaited → Type 0) where
  pub run_stepped : (m m' : Machine S) (all before rest : List Line) (line : Line) → RunsOn sight ready waits m all before → before ≡ line ∷ rest → HasMemory m' → ((ls : List Line) → StandsFor sight ready waits m ls → why_after ls line ≡ None → StandsFor sight ready waits m' (line ∷ ls)) → RunsOn sight ready waits m' all rest
  run_stepped m m' all before rest line r e memory stands =
      let good = subst (λ ls. AllGood r.done ls) e r.good in
      record {
        done = line ∷ r.done;
        memory = memory;
        stands = stands r.done r.stands good.0;
        good = good.1;
        together = turned_over line r.done rest ∙ ap (λ ls. reverse r.done ++ ls) (sym e) ∙ r.together;
      }

  pub can_step : (m : Machine S) (all before rest : List Line) (line : Line) → RunsOn sight ready waits m all before → before ≡ line ∷ rest → CanStep sight ready waits m line
  can_step m all before rest line r e = record { lines = r.done; stands = r.stands; good = (subst (λ ls. AllGood r.done ls) e r.good).0 }

  pub run_over : (m : Machine S) (all rest : List Line) (report : Report) → RunsOn sight ready waits m all rest → length rest ≡ 0
      → ((ls : List Line) → StandsFor sight ready waits m ls → FoldsLines ls report)
      → ((ls : List Line) → StandsFor sight ready waits m ls → AreNoted (length ls) report.sent report.sleeps)
      → ((ls : List Line) → StandsFor sight ready waits m ls → TellsLines ls report)
      → ((ls : List Line) → StandsFor sight ready waits m ls → EndsLines ls report)
      → ((ls : List Line) → StandsFor sight ready waits m ls → LivesLines ls report)
      → ((ls : List Line) → StandsFor sight ready waits m ls → CallsMeetLines ls report)
      → ((ls : List Line) → StandsFor sight ready waits m ls → EventsMeetLines ls report)
      → ((ls : List Line) → StandsFor sight ready waits m ls → TimesLines ls report)
      → ((ls : List Line) → StandsFor sight ready waits m ls → DuesLines ls report)
      → AccountsMeetLines (reverse all) report
      → Lawful all report
  run_over m all rest report r e folded noted told ends lives calls events times dues accounts =
      subst (λ ls. Lawful ls report) (sym (append-nil (reverse r.done)) ∙ ap (λ ls. reverse r.done ++ ls) (sym (none_left rest e)) ∙ r.together)
      (record {
        told = subst (λ ls. TellsLines ls report) (sym (reverse-reverse r.done)) (told r.done r.stands);
        folded = subst (λ ls. FoldsLines ls report) (sym (reverse-reverse r.done)) (folded r.done r.stands);
        noted = subst (λ n. AreNoted n report.sent report.sleeps) (sym (length-reverse r.done)) (noted r.done r.stands);
        ends = subst (λ ls. EndsLines ls report) (sym (reverse-reverse r.done)) (ends r.done r.stands);
        lives = subst (λ ls. LivesLines ls report) (sym (reverse-reverse r.done)) (lives r.done r.stands);
        calls = subst (λ ls. CallsMeetLines ls report) (sym (reverse-reverse r.done)) (calls r.done r.stands);
        events = subst (λ ls. EventsMeetLines ls report) (sym (reverse-reverse r.done)) (events r.done r.stands);
        times = subst (λ ls. TimesLines ls report) (sym (reverse-reverse r.done)) (times r.done r.stands);
        dues = subst (λ ls. DuesLines ls report) (sym (reverse-reverse r.done)) (dues r.done r.stands);
        accounts = subst (λ ls. AccountsMeetLines (reverse ls) report) (sym r.together ∙ ap (λ ls. reverse r.done ++ ls) (none_left rest e) ∙ append-nil (reverse r.done)) accounts;
      })
