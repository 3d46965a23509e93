use Rattle.std.proofs.Common.{◌≡◌, take, map}
use Rattle.txn_model.specs.Cells.{cell_at}
use Rattle.txn_model.specs.Placings.{back}
use Rattle.txn_model.proofs.landing.backs.Given as goal

abbrev pub invariant-loop-placing : goal.invariant-loop-placing
invariant-loop-placing l = l.changes.items ≡ map (λ p. back p.key (cell_at l.cells p.key)) (take l.placing-index l.placings)
