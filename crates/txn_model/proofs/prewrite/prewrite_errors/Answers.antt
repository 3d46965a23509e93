use Rattle.std.proofs.Common.{◌≡◌, ◌++◌, ◌∙◌, arith}
use Rattle.std.specs.Prelude.{option_to_list}
use Rattle.txn_model.proofs.Locking.{errors_step, pushed_one, pushed_none}
use Rattle.txn_model.proofs.prewrite.prewrite_errors.Goals as goal
use Rattle.txn_model.proofs.prewrite.prewrite_errors.Goals.{in-Some+in_ok-push, in_default}

pub loop-i-preserved : goal.loop-i-preserved
loop-i-preserved c =
    let o = c.in_ok-error.field-0 in
    let done = c.loop-i.errors in
    let next = c.match-branch-2.errors in
    let grows : next ≡ done ++ option_to_list o =
    elim c.match-branch-2.branch [
      | in-Some+in_ok-push w ↦ pushed_one done next o w.in-Some.error w.in-Some.is (w.errors-is ∙ w.in_ok-push.ensures.ok)
      | in_default w ↦ pushed_none done next o w.in_default.is w.errors-is
    ] in
    errors_step c.args.cells.now c.args.request.now c.as_slice-mutation-items.result.now c.as_slice-flags.result.now c.loop-i.i c.mutation-item.result c.flag_at.result o done next (omega arith) c.mutation-item.is c.flag_at.ensures c.in_ok-error.ensures grows c.loop-i.invariant
