use Rattle.txn_blocking.proofs.Writing.{start_stays}
use Rattle.txn_blocking.proofs.client_over.ClientOver.delete.Goals as goal

pub invariant_of-transaction-2 : goal.invariant_of-transaction-2
invariant_of-transaction-2 g c = start_stays _ _ c.transaction.inside.inner c.delete.new.self _ c.transaction.invariant c.delete.ensures.ends
