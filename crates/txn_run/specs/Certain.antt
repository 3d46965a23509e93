-- Which lines are never in doubt. Lines stand here with the newest first.
use Rattle.std.specs.Prelude.{◌≡◌, ℕ, false, List, Some}
use Rattle.txn_kv.specs.declared.errors.Error.{Error}
use Rattle.txn_lines.specs.Deeds.{deed_of}
use Rattle.txn_lines.specs.Lines.{line_at}
use Rattle.txn_lines.specs.declared.client_act.ClientAct.{ClientAct}
use Rattle.txn_lines.specs.declared.deed.Deed.TheVariants.{Ask}
use Rattle.txn_lines.specs.declared.line.Line.{Line}
use Rattle.txn_machine.specs.Script.{outcome_of}
use Rattle.txn_report.specs.declared.outcome.Outcome.TheVariants.{Err}
use Rattle.txn_report.specs.declared.report.Report.{Report}
use Rattle.txn_side.specs.Account.{is_undetermined}

-- the line calls a client for a timestamp, at which a transaction begins or not, and fails with this error
pub record AskFails (script : List Line) (report : Report) (n : ℕ) (e : Error) : Type 0 where
  pub line : Line
  pub there : line_at script n ≡ Some line
  pub client : ℕ
  pub act : ClientAct
  pub asks : deed_of line ≡ Ask client act
  pub failed : outcome_of report.outcomes n ≡ Err e

-- A line that calls for a timestamp never answers UndeterminedError: no end of a transaction can be unknown by it.
pub record AreCertain (script : List Line) (report : Report) : Type 0 where
  pub asks : (n : ℕ) (e : Error) → AskFails script report n e → is_undetermined e ≡ false
