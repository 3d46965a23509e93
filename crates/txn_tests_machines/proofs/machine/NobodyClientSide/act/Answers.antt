use Rattle.std.proofs.Common.{[], refl}
use Rattle.txn_side.specs.Waiting.{NoneHeard}
use Rattle.txn_tests_machines.proofs.Waits.{acts_nobody, none_rests, none_waits_on}
use Rattle.txn_tests_machines.specs.Nobody.{none_arises}
use Rattle.txn_tests_machines.proofs.machine.NobodyClientSide.act.Goals as goal

pub returns : goal.returns
returns c = record {
  goes = acts_nobody c.args._act c.args.self.now.lines.items c.args._transaction;
  waits = none_waits_on NoneHeard [] _ _;
  ready = tt;
  accounts = λ n. refl;
  rests = λ t posted called refused rolls was. none_rests t;
  arises = λ h was. none_arises _ h;
}
