use Rattle.txn_commit.specs.Jobs.{JobReady}
use Rattle.txn_kv.specs.Posted.{HasNumbers}
use Rattle.txn_blocking.proofs.client_over.ClientOver.run_job.Given as goal

abbrev pub invariant-loop-at : goal.invariant-loop-at
invariant-loop-at g l = record {
  ready : JobReady g.P.Plans.ways.plan l.job;
  numbers : HasNumbers l.out;
}
