use Rattle.std.proofs.Common.{◌≡◌, ◌++◌, drop}
use Rattle.txn_model.specs.Prewrite.{prewrite_errors}
use Rattle.txn_model.proofs.prewrite.prewrite_errors.Given as goal

abbrev pub invariant-loop-i : goal.invariant-loop-i
invariant-loop-i l = l.errors ++ prewrite_errors l.cells l.request (drop l.i l.mutation-items) (drop l.i l.flags) ≡ prewrite_errors l.cells l.request l.mutation-items l.flags
