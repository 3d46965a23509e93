use Rattle.std.proofs.Common.{◌≡◌, ◌++◌, take}
use Rattle.std.specs.List.{flat_map}
use Rattle.txn_report.specs.ErrorText.{text_of_lock_info}
use Rattle.txn_report.proofs.error_text.push_lock_infos.Given as goal

abbrev pub invariant-loop-lock : goal.invariant-loop-lock
invariant-loop-lock l = l.out.items ≡ l.fn.out.items ++ flat_map text_of_lock_info (take l.lock-index l.locks)
