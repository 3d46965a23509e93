use Rattle.txn_model.proofs.PlacesInOrder.{below_found, rest_found, rest_gap}
use Rattle.txn_model.proofs.ranges.count_below.Goals as goal

pub returns-in-Ok-clause-below : goal.returns-in-Ok-clause-below
returns-in-Ok-clause-below c i d l = below_found c.args.cells.now c.args.key.now c.in-Ok.at i d c.requires c.in-Ok.ensures.found l

pub returns-in-Ok-clause-rest : goal.returns-in-Ok-clause-rest
returns-in-Ok-clause-rest c i d le l = rest_found c.args.cells.now c.args.key.now c.in-Ok.at i d c.requires c.in-Ok.ensures.found le l

pub returns-in-Err-clause-rest : goal.returns-in-Err-clause-rest
returns-in-Err-clause-rest c i d le l = rest_gap c.args.cells.now c.args.key.now _ i d c.in-Err.ensures.absent le l
