use Rattle.std.proofs.Common.{rules}
use Rattle.std.proofs.lemmas.Fn.{always_returns_same}
use Rattle.txn_model.specs.Cells.{key_cmp}
use Rattle.txn_model.proofs.PlacesInOrder.{searched}
use Rattle.txn_model.proofs.cells.search.Goals as goal

-- the closure compares a cell's key with the one that is sought
pub returns : goal.returns
returns c =
    let facts = c.binary_search_by.ensures in
    let by_key = facts.position (λ cell. key_cmp cell.key c.args.key.now) (always_returns_same _ _ _ (λ a r g called. search rules)) in
    searched _ c.args.key.now c.requires _ facts.bound by_key
