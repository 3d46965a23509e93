use Rattle.txn_history.proofs.Numbering.{Moves-numbers}
use Rattle.txn_history.proofs.Telling.{Tells-idle}
use Rattle.txn_multi.specs.Cutting.{cutting-lawful}
use Rattle.txn_multi.proofs.cutting.Cutting.start.Goals as goal

pub returns-then-is_fresh-clause-numbers : goal.returns-then-is_fresh-clause-numbers
returns-then-is_fresh-clause-numbers g c = let s = c.look.ensures.on in Moves-numbers s.moves c.requires.numbers

pub returns-else-is_fresh-clause-tells : goal.returns-else-is_fresh-clause-tells
returns-else-is_fresh-clause-tells g c = rw (← c.self.view_is) (Tells-idle (cutting-lawful g.P.Plan.meaning g.P.Shardable.IsPart g.P.Shardable.load g.P.Shardable.AreCut g.P.RegionPlan.most) (λ a heard w. heard) c.stay.ensures)

pub returns-else-is_fresh-clause-changed : goal.returns-else-is_fresh-clause-changed
returns-else-is_fresh-clause-changed g c = g.met.C.PdClient.looked_same _
