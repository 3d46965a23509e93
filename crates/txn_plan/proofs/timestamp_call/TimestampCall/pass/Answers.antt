use Rattle.std.proofs.Common.{◌∙◌, ap}
use Rattle.txn_plan.proofs.LookingUp.{counts_reply}
use Rattle.txn_history.specs.Faults.{has_error, has_region_error}
use Rattle.txn_history.specs.Spends.{locked_of, weight_of}
use Rattle.txn_plan.proofs.Timing.{goes_lent, goes_reply, goes_time, goes_waking, tells_loss, tells_reply, tells_time, tells_waking, untold}
use Rattle.txn_plan.proofs.timestamp_call.TimestampCall.pass.Goals as goal

pub returns-in-Reply-clause-tells : goal.returns-in-Reply-clause-tells
returns-in-Reply-clause-tells g c r = rw c.in-Reply.is (tells_reply _ _ _ _ _ _ c.args.now _ c.take_reply.ensures.job c.in-Reply.number c.in-Reply.reply r c.take_reply.ensures.step (c.take_reply.ensures.moves r))

pub returns-in-Reply-clause-counts : goal.returns-in-Reply-clause-counts
returns-in-Reply-clause-counts g c = rw c.in-Reply.is (counts_reply (has_error c.in-Reply.reply) (has_region_error c.in-Reply.reply) (weight_of c.in-Reply.reply) (locked_of c.in-Reply.reply) _ _ _ _ _ c.take_reply.ensures.job c.take_reply.ensures.spends)

pub returns-in-Reply-clause-answer : goal.returns-in-Reply-clause-answer
returns-in-Reply-clause-answer g c = untold c.args.self.now c.args.arrival _ _ _ _ _ _ c.args.now c.in-Reply.number c.in-Reply.reply c.take_reply.ensures.step

pub returns-in-Lost-clause-tells : goal.returns-in-Lost-clause-tells
returns-in-Lost-clause-tells g c r = rw c.in-Lost.is (tells_loss _ _ _ _ _ _ c.args.now _ c.lost.ensures.job c.in-Lost.number r c.lost.ensures.step (c.lost.ensures.moves r))

pub returns-in-Slept-clause-tells : goal.returns-in-Slept-clause-tells
returns-in-Slept-clause-tells g c r = rw c.in-Slept.is (tells_waking _ _ _ _ _ _ c.args.now _ c.slept.ensures.job c.in-Slept.number c.slept.ensures.step c.slept.ensures.moves)

pub returns-in-Time-clause-tells : goal.returns-in-Time-clause-tells
returns-in-Time-clause-tells g c r = rw c.in-Time.is (tells_time _ _ _ _ _ _ c.args.now _ c.take_time.ensures.job c.in-Time.ask c.in-Time.answer c.take_time.ensures.step c.take_time.ensures.moves)

pub returns-in-Reply-clause-goes : goal.returns-in-Reply-clause-goes
returns-in-Reply-clause-goes g c kept = rw c.in-Reply.is (goes_lent (g.C.PdClient.with_connection c.args.pd.now) c.args.pd.now (ap (g.C.PdClient.with_connection c.args.pd.now) c.retry_client.ensures.value ∙ g.met.C.PdClient.connection_same c.args.pd.now) (goes_reply _ _ _ _ _ _ _ kept c.in-Reply.number c.take_reply.ensures.heeds))

pub returns-in-Lost-clause-goes : goal.returns-in-Lost-clause-goes
returns-in-Lost-clause-goes g c kept = rw c.in-Lost.is (goes_lent (g.C.PdClient.with_connection c.args.pd.now) c.args.pd.now (ap (g.C.PdClient.with_connection c.args.pd.now) c.retry_client-in-Lost.ensures.value ∙ g.met.C.PdClient.connection_same c.args.pd.now) (goes_reply _ _ _ _ _ _ _ kept c.in-Lost.number c.lost.ensures.heeds))

pub returns-in-Slept-clause-goes : goal.returns-in-Slept-clause-goes
returns-in-Slept-clause-goes g c kept = rw c.in-Slept.is (goes_lent (g.C.PdClient.with_connection c.args.pd.now) c.args.pd.now (ap (g.C.PdClient.with_connection c.args.pd.now) c.retry_client-in-Slept.ensures.value ∙ g.met.C.PdClient.connection_same c.args.pd.now) (goes_waking _ _ _ _ _ _ _ kept c.in-Slept.number c.slept.ensures.heeds))

pub returns-in-Time-clause-goes : goal.returns-in-Time-clause-goes
returns-in-Time-clause-goes g c kept = rw c.in-Time.is (goes_lent (g.C.PdClient.with_connection c.args.pd.now) c.args.pd.now (ap (g.C.PdClient.with_connection c.args.pd.now) c.retry_client-in-Time.ensures.value ∙ g.met.C.PdClient.connection_same c.args.pd.now) (goes_time _ _ _ _ _ _ _ kept c.in-Time.ask c.take_time.ensures.heeds))
