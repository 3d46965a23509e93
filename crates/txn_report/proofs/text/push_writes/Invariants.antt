use Rattle.std.proofs.Common.{◌≡◌, ◌++◌, take}
use Rattle.std.specs.List.{flat_map}
use Rattle.txn_report.specs.Text.{text_of_write}
use Rattle.txn_report.proofs.text.push_writes.Given as goal

abbrev pub invariant-loop-write : goal.invariant-loop-write
invariant-loop-write l = l.out.items ≡ l.fn.out.items ++ flat_map (text_of_write l.key) (take l.write-index l.writes)
