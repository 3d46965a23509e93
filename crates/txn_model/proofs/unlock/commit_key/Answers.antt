use Rattle.txn_model.proofs.Unlocking.{commit_absent, commit_there, kept_commit, undo_there}
use Rattle.txn_model.proofs.unlock.commit_key.Goals as goal

pub returns-in-Err-clause-ok : goal.returns-in-Err-clause-ok
returns-in-Err-clause-ok c = commit_absent c.args.cells.now.items c.args.key.now _ c.args.start c.args.commit (rw c.as_slice.ensures.value at c.in-Err.ensures.absent)

pub returns-in-Some-clause-ok : goal.returns-in-Some-clause-ok
returns-in-Some-clause-ok c =
    commit_there c.args.cells.now.items c.args.key.now c.in-Ok.at c.index_mut.result.now c.commit_cell.new.cell c.args.start c.args.commit c.requires (rw c.as_slice.ensures.value at c.in-Ok.ensures.found) c.index_mut.ensures.value c.in_ok-place.ensures.ok

pub returns-in-Some-clause-kept : goal.returns-in-Some-clause-kept
returns-in-Some-clause-kept c =
    kept_commit c.args.cells.now.items c.args.key.now c.in-Ok.at c.index_mut.result.now c.commit_cell.new.cell c.args.start c.args.commit c.requires (rw c.as_slice.ensures.value at c.in-Ok.ensures.found) c.index_mut.ensures.value c.in_ok-place.ensures.ok

pub returns-in-Some-clause-undo : goal.returns-in-Some-clause-undo
returns-in-Some-clause-undo c =
    let facts = rw c.in-Some.is at c.in_ok-place.ensures.undo in
    let found = rw c.as_slice.ensures.value at c.in-Ok.ensures.found in
    undo_there c.args.cells.now.items c.in-Ok.at c.in-Some.place c.in-Some.lock c.index_mut.result.now c.commit_cell.new.cell found.in_range c.index_mut.ensures.value facts.0 facts.1

pub returns-in-None-clause-ok : goal.returns-in-None-clause-ok
returns-in-None-clause-ok c =
    commit_there c.args.cells.now.items c.args.key.now c.in-Ok.at c.index_mut.result.now c.commit_cell.new.cell c.args.start c.args.commit c.requires (rw c.as_slice.ensures.value at c.in-Ok.ensures.found) c.index_mut.ensures.value c.in_ok-place.ensures.ok
