use Rattle.std.proofs.Common.{sym, ◌∙◌, ap}
use Rattle.std.specs.List.{insert}
use Rattle.txn_model.specs.declared.cell.Write.{Write}
use Rattle.txn_model.proofs.Unlocking.{relocked_back}
use Rattle.txn_model.proofs.unlock.commit_cell.Goals as goal

pub returns-in-Ok-clause-undo : goal.returns-in-Ok-clause-undo
returns-in-Ok-clause-undo c =
    let commits = c.as_slice.ensures.value ∙ (c.into_vec-commits.ensures ∙ c.replace.ensures.value) in
    let items = c.into_vec-commits.ensures ∙ c.replace.ensures.value in
    let write : Write = record { start = c.args.start; commit = c.args.commit; kind = c.in-Some.lock.kind; value = c.replace-value.result } in
    relocked_back c.args.cell.now c.in-Some.lock c.take.new.self c.replace-value.new.dest c.place_of-place.result
    write c.from_vec.result (sym c.in-Some.ensures.value) (rw (← commits) c.place_of-place.ensures.in_range) (c.from_vec.ensures ∙ (c.in-Ok.ensures.items ∙ ap (λ xs. insert xs c.place_of-place.result write) items)) c.replace-value.ensures.value
