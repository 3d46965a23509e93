use Rattle.std.proofs.Common.{[], refl}
use Rattle.txn_side.specs.Doubt.{itself}
use Rattle.txn_side.specs.Waiting.{NoneHeard}
use Rattle.txn_tests_machines.proofs.Waits.{crashed_nobody, none_waits_on}
use Rattle.txn_tests_machines.specs.Nobody.{none_arises}
use Rattle.txn_tests_machines.proofs.machine.NobodyClientSide.crash.Goals as goal

pub returns-clause-gone : goal.returns-clause-gone
returns-clause-gone c = record {
  seen = crashed_nobody c.args.self.now.lines.items c.args._line;
  waits = none_waits_on NoneHeard [] _ _;
  ready = tt;
  accounts = λ n. refl;
  rests = λ t r. r;
  arises = λ h was. none_arises itself h;
}
