use Rattle.std.proofs.Common.{◌∙◌, ap, ap₂, ◌≡◌, if◌then◌else◌}
use Rattle.txn_model.specs.Cells.{cell_at, each_changed}
use Rattle.txn_model.specs.Changes.{all_made}
use Rattle.txn_model.specs.Settling.{all_committed, commitments, changes}
use Rattle.txn_model.proofs.Settled.{settled_is_changed}
use Rattle.txn_model.specs.Resolve.{infos, is_in_context, all_settled}
use Rattle.txn_model.proofs.OrderlyCells.{orderly_settled}
use Rattle.txn_model.proofs.settle.settle_all.Goals as goal

pub returns-clause-ok : goal.returns-clause-ok
returns-clause-ok c =
    let gs = c.args.regions.now in
    let r = c.args.request.now in
    let cs = c.args.cells.now.items in
    let found = c.in_ok-changes.ensures ∙ (c.cells_of_region-settled.ensures.changes ∙ ap (changes gs r) c.as_slice.ensures.value) in
    let ready = c.as_slice-2.ensures.value ∙ (c.in_ok-commitments.ensures ∙ (c.cells_of_region-settled.ensures.commitments ∙ ap (commitments gs r) c.as_slice.ensures.value)) in
    settled_is_changed gs r cs c.make_changes.new.cells.items c.requires.kept c.make_changes.ensures.kept
    (λ j. c.make_changes.ensures.cells j ∙ ap₂ all_made found (c.in_ok-commit_each.ensures.ok j ∙ ap₂ (λ xs ds. all_committed xs (cell_at ds j)) ready c.in_ok-reserve.ensures.items))

pub returns-clause-ordered : goal.returns-clause-ordered
returns-clause-ordered c =
    let gs = c.args.regions.now in
    let r = c.args.request.now in
    let same : c.make_changes.new.cells.items ≡ each_changed (λ x. if is_in_context gs r.context x.key then all_settled (infos r) x else x) c.args.cells.now.items = returns-clause-ok c in
    rw same (orderly_settled gs r c.args.cells.now.items c.requires.kept.in_order c.requires.ordered)
