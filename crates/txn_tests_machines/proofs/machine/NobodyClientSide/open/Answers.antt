use Rattle.std.proofs.Common.{[], refl}
use Rattle.txn_side.specs.Doubt.{itself}
use Rattle.txn_side.specs.Waiting.{NoneHeard}
use Rattle.txn_tests_machines.proofs.Waits.{none_waits_on, opened_nobody}
use Rattle.txn_tests_machines.specs.Nobody.{none_arises}
use Rattle.txn_tests_machines.proofs.machine.NobodyClientSide.open.Goals as goal

pub returns : goal.returns
returns c = record {
  seen = opened_nobody c.args.self.now.lines.items _ c.in_ok-push.ensures.items;
  waits = none_waits_on NoneHeard [] _ _;
  ready = tt;
  accounts = λ n. refl;
  rests = λ t r. r;
  arises = λ h was. none_arises itself h;
}
