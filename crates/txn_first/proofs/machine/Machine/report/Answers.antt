use Rattle.std.proofs.Common.{refl}
use Rattle.txn_first.proofs.Machines.{report_lawful}
use Rattle.txn_first.proofs.machine.Machine.report.Goals as goal

pub returns : goal.returns
returns c lines s = report_lawful c.args.self _ lines c.requires s c.from_vec.ensures c.from_vec-2.ensures c.from_vec-3.ensures c.new.ensures c.from_vec-4.ensures refl
