use Rattle.std.proofs.Common.{◌-◌, ◌^◌, ℕ, ◌*◌, ◌<◌, ◌≤◌}
use Rattle.txn_core.proofs.ttl.integer_root.Given as goal

pub record Between (square root above : ℕ) : Type 0 where
  pub low : root * root ≤ square
  pub high : square < above * above
  pub order : root < above
  pub top : above ≤ 2 ^ 64

abbrev pub invariant-loop-above : goal.invariant-loop-above
invariant-loop-above l = Between l.square l.root l.above

abbrev pub decreases-loop-above : goal.decreases-loop-above
decreases-loop-above l = l.above - l.root
