use Rattle.std.proofs.Common.{◌≡◌, take}
use Rattle.txn_model.specs.Read.{pairs_at}
use Rattle.txn_model.proofs.read.pairs_at.Given as goal

abbrev pub invariant-loop-key : goal.invariant-loop-key
invariant-loop-key l = l.pairs ≡ pairs_at l.at l.cells (take l.key-index l.keys)
