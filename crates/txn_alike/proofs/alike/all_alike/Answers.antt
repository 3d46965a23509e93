use Rattle.std.proofs.Common.{arith}
use Rattle.txn_alike.proofs.Lists.{same_lists}
use Rattle.txn_alike.proofs.alike.all_alike.Goals as goal

pub returns : goal.returns
returns g c = λ yes. same_lists c.args.some.now c.args.others.now c.if-some-others.false (λ j d b. c.loop-i.invariant j d (omega arith))
