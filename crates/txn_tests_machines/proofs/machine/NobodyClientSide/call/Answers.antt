use Rattle.std.proofs.Common.{[], refl}
use Rattle.txn_lines.specs.Deeds.{begins}
use Rattle.txn_side.specs.Doubt.{itself}
use Rattle.txn_side.specs.Waiting.{NoneHeard}
use Rattle.txn_tests_machines.proofs.Waits.{asks_nobody, none_rests, none_waits_on}
use Rattle.txn_tests_machines.specs.Nobody.{none_arises}
use Rattle.txn_tests_machines.proofs.machine.NobodyClientSide.call.Goals as goal

pub returns : goal.returns
returns c = record {
  goes = asks_nobody (begins c.args._act) c.args.self.now.lines.items c.args._client;
  waits = none_waits_on NoneHeard [] _ _;
  ready = tt;
  accounts = λ n. refl;
  rests = λ t posted called begun was. none_rests t;
  arises = λ h was. none_arises itself h;
}
