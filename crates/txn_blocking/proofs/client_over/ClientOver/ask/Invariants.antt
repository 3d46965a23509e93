use Rattle.txn_blocking.specs.Blocking.{StillGives}
use Rattle.txn_client.specs.Calls.{CallReady}
use Rattle.txn_kv.specs.Posted.{HasNumbers}
use Rattle.txn_blocking.proofs.client_over.ClientOver.ask.Given as goal

abbrev pub invariant-loop-at : goal.invariant-loop-at
invariant-loop-at g l = record {
  ready : CallReady l.call.stage;
  numbers : HasNumbers l.out;
  gives : StillGives l.fn.call l.call;
}
