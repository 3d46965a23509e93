use Rattle.std.proofs.Common.{◌≡◌, ◌∙◌, ap, ap₂, map}
use Rattle.txn_model.specs.Cells.{cell_at, changed_at}
use Rattle.txn_model.specs.Changes.{all_made}
use Rattle.txn_model.specs.Placings.{placings, all_locked, landing, back}
use Rattle.txn_model.specs.Prewrite.{mutation_keys, land_cell}
use Rattle.txn_model.specs.Settling.{all_committed}
use Rattle.txn_model.proofs.Landed.{landed_is_changed, undone_is}
use Rattle.txn_model.proofs.OrderlyCells.{orderly_lands}
use Rattle.txn_model.proofs.landing.land_all.Goals as goal

pub returns-in-Ok-clause-ok : goal.returns-in-Ok-clause-ok
returns-in-Ok-clause-ok c =
    let r = c.args.request.now in
    let n = c.args.bound in
    let cs = c.args.cells.now.items in
    let ready = c.in_ok-ready.ensures in
    let landings = c.as_slice-4.ensures.value ∙ (c.in_ok-landings.ensures ∙ ap (map (landing n)) (c.as_slice.ensures.value ∙ ready)) in
    landed_is_changed r n cs c.commit_each.new.cells.items c.requires.kept c.in-Ok.ensures.kept c.requires.at_once c.requires.free c.requires.uncommitted
    (λ j. c.in-Ok.ensures.ok j ∙ ap₂ (λ xs d. all_committed xs d) landings (c.set_locks.ensures.cells j ∙ ap₂ (λ ps ds. all_locked ps (cell_at ds j)) ready c.in_ok-reserve.ensures.items))

pub returns-in-Ok-clause-ordered : goal.returns-in-Ok-clause-ordered
returns-in-Ok-clause-ordered c =
    let r = c.args.request.now in
    let same : c.commit_each.new.cells.items ≡ changed_at (mutation_keys r.mutations) (land_cell r c.args.bound r.mutations) c.args.cells.now.items = returns-in-Ok-clause-ok c in
    rw same (orderly_lands r c.args.bound c.args.cells.now.items c.requires.kept.in_order c.requires.ordered c.requires.free c.requires.at_once)

pub returns-clause-err : goal.returns-clause-err
returns-clause-err c =
    let cs = c.args.cells.now.items in
    let ready = c.in_ok-ready.ensures in
    let ps = placings c.args.request.now c.args.bound c.args.request.now.mutations in
    let backs = c.in_ok-changes.ensures ∙ ap₂ (λ ds qs. map (λ p. back p.key (cell_at ds p.key)) qs) c.as_slice-2.ensures.value (c.as_slice-3.ensures.value ∙ ready) in
    undone_is cs c.set_locks.new.cells.items c.make_changes.new.cells.items ps c.requires.kept c.make_changes.ensures.kept
    (λ j. c.set_locks.ensures.cells j ∙ ap₂ (λ qs ds. all_locked qs (cell_at ds j)) ready c.in_ok-reserve.ensures.items)
    (λ j. c.make_changes.ensures.cells j ∙ ap₂ (λ xs ds. all_made xs (cell_at ds j)) backs c.in-Err.ensures.err)

pub returns-clause-ordered : goal.returns-clause-ordered
returns-clause-ordered c = rw (returns-clause-err c) c.requires.ordered
