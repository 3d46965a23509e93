use Rattle.std.proofs.Common.{◌≡◌, length, ap, sym, arith}
use Rattle.txn_lines.specs.Kinds.{SoFar, kinds_of}
use Rattle.txn_lines.proofs.KindLaws.{length-kinds_of}
use Rattle.txn_lines.proofs.ScriptLaws.{bad_by_itself, bad_after}
use Rattle.txn_lines.proofs.script_parser.next_line.Goals as goal

pub returns-then-len-ge-MAX_LINES : goal.returns-then-len-ge-MAX_LINES
returns-then-len-ge-MAX_LINES c = λ before e.
    let n : length c.args.kinds.now.kinds ≡ length (kinds_of before).kinds = ap (λ (so_far : SoFar). length so_far.kinds) e in
    omega (arith, n, length-kinds_of before, c.len.ensures, c.if-len-ge-MAX_LINES.true)

pub returns-in-Err : goal.returns-in-Err
returns-in-Err c = λ before e.
    let n : length c.args.kinds.now.kinds ≡ length (kinds_of before).kinds = ap (λ (so_far : SoFar). length so_far.kinds) e in
    bad_by_itself before c.args.text.now c.in-Err.why (omega (arith, n, length-kinds_of before)) (rw c.in-Err.is at c.in_ok-why.ensures)

pub returns-in-Some : goal.returns-in-Some
returns-in-Some c = λ before e.
    let n : length c.args.kinds.now.kinds ≡ length (kinds_of before).kinds = ap (λ (so_far : SoFar). length so_far.kinds) e in
    bad_after before c.args.text.now c.in-Ok.line c.in-Some.why (omega (arith, n, length-kinds_of before)) (rw c.in-Ok.is at c.in_ok-why.ensures) (sym (c.in-Some.ensures before e))
