use Rattle.std.proofs.Common.{arith, length}
use Rattle.txn_commit.proofs.laws.costs_are_bounded.Goals as goal

pub returns-clause-commit : goal.returns-clause-commit
returns-clause-commit c costs parts n one = let p = one.prewrites (length parts.mutations) n in let q = one.commits 1 n in omega arith

pub returns-clause-rollback : goal.returns-clause-rollback
returns-clause-rollback c costs parts n one = let p = one.rollbacks 1 n in let q = one.rollbacks (length parts.secondaries) n in omega arith
