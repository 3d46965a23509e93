use Rattle.std.proofs.Common.{sym, ap, ◌∙◌}
use Rattle.txn_merge.specs.Locks.{locks_of_pairs, without_pair_locks-none}
use Rattle.txn_merge.proofs.taking.take_pair_locks.Goals as goal

pub returns-then-not-has_lock-clause-left : goal.returns-then-not-has_lock-clause-left
returns-then-not-has_lock-clause-left c =
    sym (without_pair_locks-none c.args.pairs.now (ap locks_of_pairs (sym c.as_slice.ensures) ∙ c.has_lock.ensures c.if-not-has_lock.true))
