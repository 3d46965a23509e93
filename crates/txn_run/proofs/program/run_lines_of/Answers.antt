use Rattle.std.proofs.Common.{[], sym, subst}
use Rattle.txn_machine.specs.Lawful.{AllGood}
use Rattle.txn_machine.proofs.Scripts.{all_good}
use Rattle.txn_run.proofs.Causes.{ran_script}
use Rattle.txn_run.proofs.program.run_lines_of.Goals as goal

pub run_over-requires : goal.run_over-requires
run_over-requires c = subst (λ ls. AllGood [] ls) (sym c.into_vec-lines.ensures) (all_good c.args.bytes.now c.in-Ok.script.lines (rw c.in-Ok.is at c.in_ok-bad.ensures.read))

pub returns-in_ok-run_over-in-Ok : goal.returns-in_ok-run_over-in-Ok
returns-in_ok-run_over-in-Ok c =
    ran_script c.args.bytes.now c.in-Ok.script.lines c.into_vec-lines.result.items c.in_ok-run_over-in-Ok.field-0 c.into_vec-lines.ensures (rw c.in-Ok.is at c.in_ok-bad.ensures.read)
    c.in_ok-run_over-in-Ok.ensures.lawful c.in_ok-run_over-in-Ok.ensures.causes c.in_ok-run_over-in-Ok.ensures.behind
