use Rattle.std.proofs.Common.{sym}
use Rattle.txn_model.proofs.Written.{newest_is}
use Rattle.txn_model.proofs.commits.newest_commit.Goals as goal

pub returns-in-Some : goal.returns-in-Some
returns-in-Some c = sym (newest_is c.args.commits.now c.in-Some.write.now (sym c.in-Some.ensures.value))
