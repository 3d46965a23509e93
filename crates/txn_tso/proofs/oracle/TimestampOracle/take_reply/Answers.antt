use Rattle.std.proofs.Common.{length, arith}
use Rattle.txn_tso.proofs.Rising.{answers-in_range, answers-order, answers-rise}
use Rattle.txn_tso.specs.Oracle.{askers_out}
use Rattle.txn_tso.proofs.oracle.TimestampOracle.take_reply.Goals as goal

pub returns-clause-order : goal.returns-clause-order
returns-clause-order c = rw c.in_ok-given.ensures (answers-order c.args.reply.now (length (askers_out c.args.self.now)) (askers_out c.args.self.now))

pub returns-clause-rising : goal.returns-clause-rising
returns-clause-rising c = rw c.in_ok-given.ensures (answers-rise c.args.reply.now (length (askers_out c.args.self.now)) (askers_out c.args.self.now) (omega arith))

pub returns-clause-in_range : goal.returns-clause-in_range
returns-clause-in_range c = rw c.in_ok-given.ensures (answers-in_range c.args.reply.now (length (askers_out c.args.self.now)) (askers_out c.args.self.now) (omega arith))
