use Rattle.std.proofs.Math.Nat.{min-le_right}
use Rattle.std.specs.Prelude.{max, length}
use Rattle.txn_commit_plans.proofs.laws.jobs_by_plans_are_bounded.Goals as goal

pub returns : goal.returns
returns c job plan n e = rw e (min-le_right (max 1 n) (length job.keys))
