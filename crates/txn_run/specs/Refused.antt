-- Which errors come only where a line is refused.
use Rattle.std.specs.Prelude.{◌≡◌, ℕ, List, [], ◌∷◌, length, Option, Some, None}
use Rattle.txn_kv.specs.declared.errors.Error.{Error}
use Rattle.txn_lines.specs.declared.line.Line.{Line}
use Rattle.txn_machine.specs.Accounts.{Ask, account_of, ask_of}
use Rattle.txn_machine.specs.Causes.{ended_of}
use Rattle.txn_machine.specs.Script.{outcome_of}
use Rattle.txn_report.specs.declared.outcome.Outcome.{Outcome}
use Rattle.txn_report.specs.declared.outcome.Outcome.TheVariants.{Err}
use Rattle.txn_report.specs.declared.report.Report.{Report}
use Rattle.txn_side.specs.Account.{Account, refusal}
use Rattle.txn_side.specs.Doubt.{IsRefusal}

-- what a line asks ends with a refusal only where it is refused so
abbrev pub RefusalMeets : (ℕ → Account) → Option Ask → Outcome → Type 0
RefusalMeets accounts None o = (e : Error) → IsRefusal e → o ≡ Err e → ⊥
RefusalMeets accounts (Some ask) o = (e : Error) → IsRefusal e → o ≡ Err e → refusal ask.act (accounts ask.transaction) ≡ Some e

abbrev pub AllRefusalsMeet : List Outcome → List ℕ → List Line → Type 0
AllRefusalsMeet outs ended [] = Unit {0}
AllRefusalsMeet outs ended (line ∷ before) = RefusalMeets (λ x. account_of (λ n. outcome_of outs n) (λ n. ended_of ended n) before x) (ask_of line) (outcome_of outs (length (line ∷ before))) × AllRefusalsMeet outs ended before

-- Each of them comes exactly where a line is refused so: with what Lawful says of accounts. Lines stand here with the newest first.
abbrev pub AreExact : List Line → Report → Type 0
AreExact script report = AllRefusalsMeet report.outcomes report.ended script
