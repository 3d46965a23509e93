use Rattle.std.proofs.Common.{◌≡◌}
use Rattle.txn_blocking.specs.Blocking.{IsSame}
use Rattle.txn_core.specs.Going.{TransactionReady}
use Rattle.txn_kv.specs.Posted.{HasNumbers}
use Rattle.txn_blocking.proofs.client_over.ClientOver.finish.Given as goal

abbrev pub invariant-loop-at : goal.invariant-loop-at
invariant-loop-at g l = record {
  ready : TransactionReady g.P.Plans.ways l.transaction;
  numbers : HasNumbers l.out;
  same : IsSame l.fn.transaction l.transaction;
  status : l.transaction.status ≡ l.fn.transaction.status;
}
