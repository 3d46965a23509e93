use Rattle.std.proofs.Common.{◌+◌, arith}
use Rattle.std.proofs.lemmas.Bool.{le-ltb, lt-ltb}
use Rattle.txn_tso.proofs.pd_call.PdCall.lose_members.Goals as goal

pub returns-then-failed : goal.returns-then-failed
returns-then-failed c = rw (le-ltb (c.args.failed + 1) 5 (omega (arith, c.if-failed.true)), ← c.give_up.ensures, ← c.ticket.ensures) (c.end.ensures c.give_up.new.self c.args.out.now)

pub returns : goal.returns
returns c = rw (lt-ltb (c.args.failed + 1) 5 (omega (arith, c.if-failed.false)), ← c.give_up.ensures) (c.rest.ensures c.give_up.new.self)
