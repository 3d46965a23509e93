use Rattle.std.proofs.Common.{subst}
use Rattle.txn_run.specs.Program.{Ran}
use Rattle.txn_run.proofs.Programs.{wrote_run}
use Rattle.txn_run.proofs.program.run_source.Goals as goal

pub returns-in-Ok-run_bytes-clause-run : goal.returns-in-Ok-run_bytes-clause-run
returns-in-Ok-run_bytes-clause-run g c =
    let ran = subst (λ bs. Ran bs c.in-Ok-run_bytes.report) c.as_slice.ensures.value c.in-Ok-run_bytes.ensures in
    wrote_run _ c.in-Ok-run_bytes.report c.in-Ok.bytes.items c.write_report.result c.in-Ok.ensures.unfailed c.in-Ok.ensures.read ran c.write_report.ensures
