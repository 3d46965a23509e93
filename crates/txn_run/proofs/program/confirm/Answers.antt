use Rattle.std.proofs.Common.{[], sym, subst}
use Rattle.std.specs.Prelude.{OnOk}
use Rattle.txn_first.specs.Lawful.{AllGood}
use Rattle.txn_first.proofs.Scripts.{all_good}
use Rattle.txn_run.specs.Program.{IsConfirmed}
use Rattle.txn_run.proofs.Programs.{confirmed_other, confirmed_so}
use Rattle.txn_run.proofs.program.confirm.Goals as goal

pub confirm_lines-requires : goal.confirm_lines-requires
confirm_lines-requires c = subst (λ ls. AllGood [] ls) (sym c.into_vec.ensures) (all_good c.args.bytes.now c.in-Ok.script.lines (rw c.in-Ok.is at c.in_ok-script.ensures.read))

pub returns-in-Ok : goal.returns-in-Ok
returns-in-Ok c =
    confirmed_so c.args.bytes.now c.in-Ok.script.lines c.args.report.now c.confirm_lines.result (rw c.in-Ok.is at c.in_ok-script.ensures.read)
    (subst (λ ls. OnOk c.confirm_lines.result (IsConfirmed ls c.args.report.now)) c.into_vec.ensures c.confirm_lines.ensures)

pub returns-in-Err : goal.returns-in-Err
returns-in-Err c = confirmed_other c.args.bytes.now c.in-Err.field-0.line c.in-Err.field-0.why c.args.report.now (rw c.in-Err.is at c.in_ok-script.ensures.read)
