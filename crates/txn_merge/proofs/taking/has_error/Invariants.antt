use Rattle.std.proofs.Common.{◌≡◌, drop}
use Rattle.txn_merge.specs.KeyErrors.{views_of_pairs}
use Rattle.txn_merge.proofs.taking.has_error.Given as goal

abbrev pub invariant-loop-pair : goal.invariant-loop-pair
invariant-loop-pair l = views_of_pairs (drop l.pair-index l.pairs) ≡ views_of_pairs l.pairs
