use Rattle.txn_plan.proofs.Dispatching.{deaf, lose, not_ask, not_reply, not_sleep, take_reply}
use Rattle.txn_plan.proofs.dispatch.Dispatch.hear.Goals as goal

pub returns-then-not-is_out-clause-steps : goal.returns-then-not-is_out-clause-steps
returns-then-not-is_out-clause-steps g c = rw c.in-Reply.is (deaf g.R.KvRequest.request_of g.R.KvRequest.reply_of _ c.requires.callable.ready c.requires.callable.numbers (not_reply _ c.in-Reply.number c.if-not-is_out.ensures) c.stay.ensures)

pub returns-else-not-is_out-clause-steps : goal.returns-else-not-is_out-clause-steps
returns-else-not-is_out-clause-steps g c = rw c.in-Reply.is (take_reply g.R.KvRequest.request_of g.R.KvRequest.reply_of c.in-Reply.number c.in-Reply.reply c.response.result c.requires.callable.ready c.requires.callable.numbers c.if-not-is_out.ensures c.response.ensures)

pub returns-then-not-is_out-2-clause-steps : goal.returns-then-not-is_out-2-clause-steps
returns-then-not-is_out-2-clause-steps g c = rw c.in-Lost.is (deaf g.R.KvRequest.request_of g.R.KvRequest.reply_of _ c.requires.callable.ready c.requires.callable.numbers (not_reply _ c.in-Lost.number c.if-not-is_out-2.ensures) c.stay-then-not-is_out-2.ensures)

pub returns-else-not-is_out-2-clause-steps : goal.returns-else-not-is_out-2-clause-steps
returns-else-not-is_out-2-clause-steps g c = rw (c.in-Lost.is, c.ticket.ensures) (lose g.R.KvRequest.request_of g.R.KvRequest.reply_of c.in-Lost.number c.requires.callable.ready c.requires.callable.numbers c.if-not-is_out-2.ensures)

pub returns-in-Slept-clause-steps : goal.returns-in-Slept-clause-steps
returns-in-Slept-clause-steps g c = rw c.in-Slept.is (deaf g.R.KvRequest.request_of g.R.KvRequest.reply_of _ c.requires.callable.ready c.requires.callable.numbers (not_sleep _ c.in-Slept.number) c.stay-in-Slept.ensures)

pub returns-in-Time-clause-steps : goal.returns-in-Time-clause-steps
returns-in-Time-clause-steps g c = rw c.in-Time.is (deaf g.R.KvRequest.request_of g.R.KvRequest.reply_of _ c.requires.callable.ready c.requires.callable.numbers (not_ask _ c.in-Time.ask) c.stay-in-Time.ensures)
