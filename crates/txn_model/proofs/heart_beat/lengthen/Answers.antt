use Rattle.std.proofs.Common.{◌≡◌, set, refl, sym, ◌∙◌, ap}
use Rattle.txn_model.specs.Cells.{cell_at}
use Rattle.txn_model.specs.HeartBeats.{ttl_told, lengthened_at}
use Rattle.txn_model.specs.Settle.{lock_of_start}
use Rattle.txn_model.proofs.Lengthening.{lock_here, lengthened_there, lengthened_kept, lengthened_orderly, none_in_gap}
use Rattle.txn_model.proofs.heart_beat.lengthen.Goals as goal

pub returns-in-Ok-clause-cells : goal.returns-in-Ok-clause-cells
returns-in-Ok-clause-cells c =
    let is = rw c.as_slice.ensures.value at c.in-Ok.ensures.found in
    lengthened_there c.args.cells.now.items c.args.key.now c.in-Ok.at c.index_mut.result.now c.args.start c.args.ttl c.requires.kept is c.index_mut.ensures.value c.lengthen_lock.new.lock c.lengthen_lock.ensures.lock

pub returns-in-Ok-clause-told : goal.returns-in-Ok-clause-told
returns-in-Ok-clause-told c =
    let is = rw c.as_slice.ensures.value at c.in-Ok.ensures.found in
    c.lengthen_lock.ensures.told ∙ ap (ttl_told c.args.ttl) (lock_here c.args.cells.now.items c.args.key.now c.in-Ok.at c.index_mut.result.now c.args.start c.args.ttl c.requires.kept is c.index_mut.ensures.value)

pub returns-in-Ok-clause-kept : goal.returns-in-Ok-clause-kept
returns-in-Ok-clause-kept c =
    let cs = c.args.cells.now.items in
    let q = lock_of_start c.args.start (cell_at cs c.args.key.now).lock in
    let same : set cs c.in-Ok.at (record { key = c.index_mut.result.now.key; lock = c.lengthen_lock.new.lock; commits = c.index_mut.result.now.commits; rolled = c.index_mut.result.now.rolled }) ≡ lengthened_at c.args.key.now c.args.ttl q cs = returns-in-Ok-clause-cells c in
    rw same (lengthened_kept cs c.args.key.now c.args.ttl q c.requires.kept)

pub returns-in-Ok-clause-ordered : goal.returns-in-Ok-clause-ordered
returns-in-Ok-clause-ordered c =
    let cs = c.args.cells.now.items in
    let q = lock_of_start c.args.start (cell_at cs c.args.key.now).lock in
    let same : set cs c.in-Ok.at (record { key = c.index_mut.result.now.key; lock = c.lengthen_lock.new.lock; commits = c.index_mut.result.now.commits; rolled = c.index_mut.result.now.rolled }) ≡ lengthened_at c.args.key.now c.args.ttl q cs = returns-in-Ok-clause-cells c in
    rw same (lengthened_orderly cs c.args.key.now c.args.start c.args.ttl q c.requires.kept c.requires.ordered refl)

pub returns-in-Err-clause-cells : goal.returns-in-Err-clause-cells
returns-in-Err-clause-cells c =
    let gap = rw c.as_slice.ensures.value at c.in-Err.ensures.absent in
    sym (ap (λ q. lengthened_at c.args.key.now c.args.ttl q c.args.cells.now.items) (none_in_gap c.args.cells.now.items c.args.key.now c.in-Err.field-0 c.args.start gap))

pub returns-in-Err-clause-told : goal.returns-in-Err-clause-told
returns-in-Err-clause-told c =
    let gap = rw c.as_slice.ensures.value at c.in-Err.ensures.absent in
    sym (ap (ttl_told c.args.ttl) (none_in_gap c.args.cells.now.items c.args.key.now c.in-Err.field-0 c.args.start gap))
