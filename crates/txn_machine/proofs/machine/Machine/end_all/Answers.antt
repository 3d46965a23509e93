use Rattle.std.proofs.lemmas.List.Sorted.{IsNonDecreasingBy-from_sort}
use Rattle.txn_machine.proofs.machine.Machine.end_all.Goals as goal

pub returns-clause-rises : goal.returns-clause-rises
returns-clause-rises g c = IsNonDecreasingBy-from_sort (λ x. x) _ c.in_ok-sort.ensures.sorted
