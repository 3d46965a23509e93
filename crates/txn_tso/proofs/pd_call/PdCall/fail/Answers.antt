use Rattle.std.proofs.Common.{◌+◌, arith}
use Rattle.std.proofs.lemmas.Bool.{le-ltb}
use Rattle.txn_tso.proofs.pd_call.PdCall.fail.Goals as goal

pub returns-then-self : goal.returns-then-self
returns-then-self c =
    rw (le-ltb (c.args.self.now.failed + 1) 10 (omega (arith, c.if-self.true))) (c.end.ensures c.args.client.now c.args.out.now)
