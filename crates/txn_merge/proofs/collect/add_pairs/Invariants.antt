use Rattle.std.proofs.Common.{◌≡◌, ◌++◌, map}
use Rattle.txn_merge.specs.Joined.{pair_of}
use Rattle.txn_merge.proofs.collect.add_pairs.Given as goal

abbrev pub invariant-loop-pair : goal.invariant-loop-pair
invariant-loop-pair l = l.pairs.items ++ map pair_of l.pair-iterator.rest.items ≡ l.initial.pairs.items ++ map pair_of l.initial.pair-iterator.rest.items
