use Rattle.txn_tso.proofs.pd_call.PdCall.take_timestamp.Goals as goal

pub returns-in-Ok : goal.returns-in-Ok
returns-in-Ok c = rw c.in-Ok.is (c.end.ensures c.args.client.now c.args.out.now)
