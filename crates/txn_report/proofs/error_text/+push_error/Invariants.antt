use Rattle.std.proofs.Common.{◌≡◌, ◌++◌, map, take}
use Rattle.txn_report.specs.ErrorText.{joined, text_of_error}
use Rattle.txn_report.proofs.error_text.+push_error.Given as goal

abbrev pub invariant-push_errors-loop-i : goal.invariant-push_errors-loop-i
invariant-push_errors-loop-i l = l.out.items ≡ l.fn.out.items ++ l.name ++ joined (map text_of_error (take l.i l.errors))
