use Rattle.std.proofs.Common.{◌≡◌, ◌++◌, drop}
use Rattle.txn_commit.specs.Parts.{secondary_keys}
use Rattle.txn_commit.proofs.commit_parts.secondary_keys.Given as goal

abbrev pub invariant-loop-mutation : goal.invariant-loop-mutation
invariant-loop-mutation l = l.keys ++ secondary_keys l.primary (drop l.mutation-index l.mutations) ≡ secondary_keys l.primary l.mutations
