-- Clients of the library stand behind a report. Lines stand here with the newest first.
use Rattle.std.specs.Prelude.{List}
use Rattle.txn_clients.specs.Accounts.{account_at}
use Rattle.txn_clients.specs.Arising.{ArisenFrom, HoldsAt}
use Rattle.txn_clients.specs.Clients.{rows_of, sight_of}
use Rattle.txn_commit.specs.Ways.{Ways}
use Rattle.txn_lines.specs.declared.line.Line.{Line}
use Rattle.txn_machine.specs.Arising.{ArisenLines}
use Rattle.txn_report.specs.declared.report.Report.{Report}

-- some that can have arisen from the history of the lines, over the plans that their requests go by
abbrev pub AreBehind : {P : Type 0} → Ways P → List Line → Report → Type 0
AreBehind w script report = ArisenLines sight_of (ArisenFrom w) (λ s h x o. HoldsAt (rows_of s) h x o) (λ s. account_at (rows_of s)) script report
