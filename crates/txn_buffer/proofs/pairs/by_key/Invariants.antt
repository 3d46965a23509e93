use Rattle.std.proofs.Common.{◌≡◌}
use Rattle.txn_buffer.specs.Overlay.{in_key_order, with_pairs}
use Rattle.txn_buffer.specs.Reads.{pairs_of}
use Rattle.txn_buffer.proofs.pairs.by_key.Given as goal

abbrev pub invariant-loop-pair : goal.invariant-loop-pair
invariant-loop-pair l = with_pairs l.map.entries (pairs_of l.pair-iterator.rest.items) ≡ in_key_order (pairs_of l.initial.pair-iterator.rest.items)
