use Rattle.std.proofs.Common.{◌∙◌, ap, ◌≡◌}
use Rattle.std.specs.Prelude.{if◌then◌else◌}
use Rattle.txn_model.specs.Cells.{has_key, cell_at, changed_at}
use Rattle.txn_model.specs.Commit.{committed}
use Rattle.txn_model.proofs.Unlocking.{committed_is_changed}
use Rattle.txn_model.proofs.OrderlyCells.{orderly_commits}
use Rattle.txn_model.proofs.commit.commit_all.Goals as goal

pub returns-clause-ok : goal.returns-clause-ok
returns-clause-ok c =
    let r = c.args.request.now in
    let cs = c.args.cells.now.items in
    committed_is_changed r.keys r.start_version r.commit_version cs c.commit_keys.new.cells.items c.requires.kept c.in_ok-commit_keys.ensures.kept
    (λ k. c.in_ok-commit_keys.ensures.ok k ∙ ap (λ ks. if has_key ks k then committed r.start_version r.commit_version (cell_at cs k) else cell_at cs k) c.as_slice.ensures)

pub returns-clause-ordered : goal.returns-clause-ordered
returns-clause-ordered c =
    let r = c.args.request.now in
    let same : c.commit_keys.new.cells.items ≡ changed_at r.keys (committed r.start_version r.commit_version) c.args.cells.now.items = returns-clause-ok c in
    rw same (orderly_commits r.start_version r.commit_version r.keys c.args.cells.now.items c.requires.kept.in_order c.requires.ordered)
