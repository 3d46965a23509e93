use Rattle.txn_lines.proofs.OneReading.{one_script, one_bad, apart}
use Rattle.txn_lines.proofs.laws.one_reading.Goals as goal

pub returns-clause-script : goal.returns-clause-script
returns-clause-script c = one_script

pub returns-clause-bad : goal.returns-clause-bad
returns-clause-bad c = one_bad

pub returns-clause-apart : goal.returns-clause-apart
returns-clause-apart c = apart
