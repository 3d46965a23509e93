use Rattle.std.proofs.Common.{◌≡◌, ◌<◌, ◌∙◌, sym, ◌++◌, ◌∷◌, [], length, take, arith}
use Rattle.txn_model.specs.declared.cell.Cell.{Cell}
use Rattle.txn_model.specs.Resolve.{lock_until, locks_until}
use Rattle.txn_model.proofs.Scanning.{next_some, next_none, stopped, map_same, length_more, length_same}
use Rattle.txn_model.proofs.scan.first_locks.Goals as goal
use Rattle.txn_model.proofs.scan.first_locks.Goals.{in-Some+in_ok-push, in_default}

pub returns-then-from-len : goal.returns-then-from-len
returns-then-from-len c =
    let h = λ (x : Cell). lock_until c.args.until x.key x.lock in
    let front = locks_until c.args.until (take c.loop-cell.cell-index c.args.cells.now) in
    stopped h (λ z. z) c.args.cells.now c.loop-cell.cell-index c.args.limit c.loop-cell.locks (c.loop-cell.invariant.so_far ∙ sym (map_same front)) c.loop-cell.invariant.few (omega arith) ∙ map_same _

pub loop-cell-preserved : goal.loop-cell-preserved
loop-cell-preserved c =
    let h = λ (x : Cell). lock_until c.args.until x.key x.lock in
    let cells = c.args.cells.now in
    let i = c.loop-cell.cell-index in
    let done = c.loop-cell.locks in
    let next = c.match-branch-2.locks in
    let o = c.in_ok-info.field-0 in
    let so_far = c.loop-cell.invariant.so_far ∙ sym (map_same (locks_until c.args.until (take i cells))) in
    let under : length done < c.args.limit = omega arith in
    elim c.match-branch-2.branch [
      | in-Some+in_ok-push w ↦
          let grows : next ≡ done ++ w.in-Some.info ∷ [] = w.locks-is ∙ w.in_ok-push.ensures.ok in
          record {
            so_far = next_some h (λ z. z) cells i c.cell-item.result o w.in-Some.info done next (omega arith) c.cell-item.is c.in_ok-info.ensures w.in-Some.is grows so_far ∙ map_same _;
            few = length_more done next _ c.args.limit grows under;
          }
      | in_default w ↦ record {
        so_far = next_none h (λ z. z) cells i c.cell-item.result o done next (omega arith) c.cell-item.is c.in_ok-info.ensures w.in_default.is w.locks-is so_far ∙ map_same _;
        few = length_same done next c.args.limit w.locks-is c.loop-cell.invariant.few;
      }
    ]
