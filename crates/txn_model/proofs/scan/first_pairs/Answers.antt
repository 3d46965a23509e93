use Rattle.std.proofs.Common.{◌≡◌, ◌<◌, length, arith}
use Rattle.txn_model.specs.Read.{read_pair}
use Rattle.txn_model.specs.Scans.{ordered, shown}
use Rattle.txn_model.proofs.Scanning.{next_some, next_none, stopped, length_more, length_same, ordered_length}
use Rattle.std.proofs.Common.{◌∙◌, ap, ◌++◌, ◌∷◌, []}
use Rattle.txn_model.proofs.scan.first_pairs.Goals as goal
use Rattle.txn_model.proofs.scan.first_pairs.Goals.{in-Some+in_ok-push, in_default}

pub returns-then-request-len : goal.returns-then-request-len
returns-then-request-len c =
    let r = c.args.request.now in
    stopped (read_pair r.version) (shown r.key_only) (ordered r.reverse c.args.cells.now) c.loop-i.i r.limit c.loop-i.pairs c.loop-i.invariant.so_far c.loop-i.invariant.few (omega arith)

pub loop-i-preserved : goal.loop-i-preserved
loop-i-preserved c =
    let r = c.args.request.now in
    let cells = ordered r.reverse c.args.cells.now in
    let done = c.loop-i.pairs in
    let next = c.match-branch-2.pairs in
    let o = c.in_ok-pair.field-0 in
    let same = ordered_length r.reverse c.args.cells.now in
    let l : c.loop-i.i < length cells = omega arith in
    let under : length done < r.limit = omega arith in
    elim c.match-branch-2.branch [
      | in-Some+in_ok-push w ↦
          let grows : next ≡ done ++ shown r.key_only w.in-Some.pair ∷ [] = w.pairs-is ∙ (w.in_ok-push.ensures.ok ∙ ap (λ p. done ++ p ∷ []) w.shown.ensures) in
          record {
            so_far = next_some (read_pair r.version) (shown r.key_only) cells c.loop-i.i c.nth-cell.result.now o w.in-Some.pair done next l c.nth-cell.ensures.value c.in_ok-pair.ensures w.in-Some.is grows c.loop-i.invariant.so_far;
            few = length_more done next _ r.limit grows under;
          }
      | in_default w ↦ record {
        so_far = next_none (read_pair r.version) (shown r.key_only) cells c.loop-i.i c.nth-cell.result.now o done next l c.nth-cell.ensures.value c.in_ok-pair.ensures w.in_default.is w.pairs-is c.loop-i.invariant.so_far;
        few = length_same done next r.limit w.pairs-is c.loop-i.invariant.few;
      }
    ]
