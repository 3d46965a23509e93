use Rattle.txn_lines.proofs.LongText.{no_script, stays_bad}
use Rattle.txn_lines.proofs.laws.long_text.Goals as goal

pub returns-clause-none : goal.returns-clause-none
returns-clause-none c = no_script

pub returns-clause-same : goal.returns-clause-same
returns-clause-same c = stays_bad
