use Rattle.std.proofs.Common.{sym, subst}
use Rattle.std.proofs.lemmas.Result.{IfOk-weaker}
use Rattle.std.specs.Prelude.{reverse}
use Rattle.txn_clients.specs.Accounts.{account_at}
use Rattle.txn_clients.specs.Arising.{ArisenFrom, HoldsAt}
use Rattle.txn_clients.specs.Clients.{rows_of, sight_of}
use Rattle.txn_side.specs.Account.{AreNew}
use Rattle.txn_run.proofs.Behind.{clients_behind}
use Rattle.txn_run.proofs.over.run_over.Goals as goal

pub run_lines-requires-clause-accounts : goal.run_lines-requires-clause-accounts
run_lines-requires-clause-accounts g c = subst (λ s. AreNew (account_at (rows_of s))) (sym c.new-hearts.ensures.side) c.new-clients.ensures.accounts

pub returns-clause-behind : goal.returns-clause-behind
returns-clause-behind g c = IfOk-weaker c.run_lines.result _ _
    (λ report behind. clients_behind sight_of (ArisenFrom g.P.Plans.ways) (λ s h x o. HoldsAt (rows_of s) h x o) (λ s. account_at (rows_of s)) (reverse c.args.lines.items) report behind)
    c.run_lines.ensures.arisen
