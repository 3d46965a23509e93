use Rattle.txn_history.proofs.Around.{Tells-around}
use Rattle.txn_plan.specs.LookUp.{looked_up}
use Rattle.txn_plan.specs.Timing.{AsksTime, ReadsTime, is_lost}
use Rattle.txn_plan.proofs.timestamp_call.TimestampCall.tell.Goals as goal

pub returns-clause-tells : goal.returns-clause-tells
returns-clause-tells g c r = Tells-around looked_up (λ t. t.call) (λ t. ReadsTime) AsksTime is_lost (λ a b x. x) (λ a b x. x) c.read.ensures (c.pass-turn.ensures.tells r)
