use Rattle.std.proofs.lemmas.Result.{err_from_is_err_and}
use Rattle.txn_lines.proofs.Pairs.{goes_on, fails, is_done}
use Rattle.txn_lines.proofs.fields.pairs_in.Goals as goal

pub returns-in_err-byte : goal.returns-in_err-byte
returns-in_err-byte c =
    let p = err_from_is_err_and c.from_residual-in_err-byte.result c.from_residual-in_err-byte.ensures.1 in
    rw (p.1, p.2) (fails c.in_err-byte.field-0.0 c.loop-i.bytes.items c.args.hex.now c.loop-i.i c.loop-i-test.true c.in_err-byte.ensures c.loop-i.invariant)

pub loop-i-preserved : goal.loop-i-preserved
loop-i-preserved c = rw c.in_ok-push.ensures.items (goes_on c.loop-i.bytes.items c.args.hex.now c.loop-i.i c.in_ok-byte.byte c.loop-i-test.true c.in_ok-byte.ensures c.loop-i.invariant)

pub returns : goal.returns
returns c = is_done c.loop-i.bytes.items c.args.hex.now c.loop-i.i c.requires c.loop-i-test.false c.loop-i.invariant
