-- The clients around which heartbeats are kept stand behind a report where these do.
use Rattle.std.specs.Prelude.{ℕ, List}
use Rattle.txn_history.specs.Event.{Event}
use Rattle.txn_heartbeats.specs.Hearts.{ArisesIn, sight_of}
use Rattle.txn_heartbeats.specs.declared.heartbeats.Heartbeats.{Heartbeats}
use Rattle.txn_lines.specs.declared.line.Line.{Line}
use Rattle.txn_machine.specs.Arising.{ArisenLines}
use Rattle.txn_report.specs.declared.outcome.Outcome.{Outcome}
use Rattle.txn_report.specs.declared.report.Report.{Report}
use Rattle.txn_side.specs.Account.{Account}
use Rattle.txn_side.specs.Sight.{Sight}

module _ {S H : Type 0} (sight : S → Sight) (arises : S → List Event → Type 0) (holds : S → List Event → ℕ → Outcome → Type 0) (account : S → ℕ → Account) where
  pub clients_behind : (script : List Line) (report : Report)
      → ArisenLines (λ (b : Heartbeats S H). sight_of sight b) (λ b h. ArisesIn arises b h) (λ b. holds b.side) (λ b. account b.side) script report → ArisenLines sight arises holds account script report
  clients_behind script report a = record {
    clients = a.clients.side;
    arisen = record { now = a.arisen.now.side; answers = a.arisen.answers; says = a.arisen.says };
    taken = a.taken;
    rows = a.rows;
    none = a.none;
  }
