use Rattle.txn_model.proofs.TableFacts.{opening_in_order, served_in_order}
use Rattle.txn_model.proofs.facts.cells_stay_in_order.Goals as goal

pub returns-clause-begin : goal.returns-clause-begin
returns-clause-begin c = opening_in_order

pub returns-clause-stay : goal.returns-clause-stay
returns-clause-stay c = served_in_order
