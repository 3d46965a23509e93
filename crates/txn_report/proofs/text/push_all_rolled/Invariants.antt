use Rattle.std.proofs.Common.{◌≡◌, ◌++◌, take}
use Rattle.std.specs.List.{flat_map}
use Rattle.txn_report.specs.Text.{text_of_rolled}
use Rattle.txn_report.proofs.text.push_all_rolled.Given as goal

abbrev pub invariant-loop-start : goal.invariant-loop-start
invariant-loop-start l = l.out.items ≡ l.fn.out.items ++ flat_map (text_of_rolled l.key) (take l.start-index l.starts)
