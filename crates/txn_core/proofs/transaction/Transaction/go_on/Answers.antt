use Rattle.std.proofs.Common.{refl}
use Rattle.txn_core.proofs.Counting.{keeps_open, lets_go}
use Rattle.txn_commit.proofs.Stages.{ends_is, waits_is}
use Rattle.txn_core.proofs.Waiting.{follows_ends, follows_waits, hands_nothing, rests_idle}
use Rattle.txn_core.proofs.transaction.Transaction.go_on.Goals as goal

pub returns-in-Done-Err-clause-takes_up : goal.returns-in-Done-Err-clause-takes_up
returns-in-Done-Err-clause-takes_up g c o = rw (c.in-Done-Err.is, c.in-Done-Err.field-0-is) (c.fail.ensures.takes_up o)

pub returns-in-Waiting-clause-keeps : goal.returns-in-Waiting-clause-keeps
returns-in-Waiting-clause-keeps g c = keeps_open _ c.args.call c.args.self.now c.set_work.new.self c.set_work.ensures

pub returns-in-Done-Ok-clause-keeps : goal.returns-in-Done-Ok-clause-keeps
returns-in-Done-Ok-clause-keeps g c = lets_go _ c.args.call c.args.self.now c.answer.new.self (rw c.answer.ensures.kept refl) c.answer.ensures.width

pub returns-in-Done-Err-clause-keeps : goal.returns-in-Done-Err-clause-keeps
returns-in-Done-Err-clause-keeps g c = lets_go _ c.args.call c.args.self.now c.fail.new.self c.fail.ensures.busy c.fail.ensures.width

pub returns-in-Waiting-clause-follows : goal.returns-in-Waiting-clause-follows
returns-in-Waiting-clause-follows g c = follows_waits _ c.args.call _ c.args.self.now c.set_work.new.self (waits_is c.in-Waiting.is) c.set_work.ensures

pub returns-in-Done-Ok-clause-follows : goal.returns-in-Done-Ok-clause-follows
returns-in-Done-Ok-clause-follows g c = follows_ends _ c.args.call _ _ c.args.self.now c.answer.new.self _ (ends_is c.in-Done-Ok.is c.in-Done-Ok.field-0-is) (rests_idle _ c.answer.new.self _ (rw c.answer.ensures.kept refl) c.answer.ensures.ended)

pub returns-in-Done-Err-clause-follows : goal.returns-in-Done-Err-clause-follows
returns-in-Done-Err-clause-follows g c = follows_ends _ c.args.call _ _ c.args.self.now c.fail.new.self _ (ends_is c.in-Done-Err.is c.in-Done-Err.field-0-is) c.fail.ensures.rests

pub returns-in-Done-Err-clause-job : goal.returns-in-Done-Err-clause-job
returns-in-Done-Err-clause-job g c = hands_nothing g.P.Plans.ways.plan _ c.fail.ensures.fails

pub returns-in-Waiting-clause-ready : goal.returns-in-Waiting-clause-ready
returns-in-Waiting-clause-ready g c = rw c.set_work.ensures (record { start = c.requires.start; work = (c.requires.call.0, c.requires.call.1, c.requires.runs (waits_is c.in-Waiting.is)) })
