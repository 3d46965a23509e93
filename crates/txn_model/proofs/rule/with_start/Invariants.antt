use Rattle.std.proofs.Common.{◌≡◌, ◌++◌, drop, if◌then◌else◌}
use Rattle.txn_model.specs.Settle.{with_start}
use Rattle.txn_model.proofs.rule.with_start.Given as goal

abbrev pub invariant-loop-other : goal.invariant-loop-other
invariant-loop-other l = l.starts ++ (if l.is_in then drop l.other-index l.rolled else with_start l.start (drop l.other-index l.rolled)) ≡ with_start l.start l.rolled
