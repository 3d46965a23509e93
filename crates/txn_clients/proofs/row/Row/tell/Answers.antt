use Rattle.txn_clients.proofs.MovingRows.{row_asks}
use Rattle.txn_clients.proofs.row.Row.tell.Goals as goal

pub returns-in-Asking-clause-moves : goal.returns-in-Asking-clause-moves
returns-in-Asking-clause-moves g c = row_asks g.P.Plans.ways c.tell_call.result c.args.told c.args.self.now c.in-Asking.client c.in-Asking.begins c.in-Asking.call c.tell_call.new.call c.args.out.now c.tell_call.new.out c.in-Asking.is c.tell_call.ensures.moves
