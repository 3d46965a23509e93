use Rattle.txn_law.proofs.Answered.{law_read}
use Rattle.txn_law.proofs.reads.reads_repeat.Goals as goal

pub returns : goal.returns
returns c = law_read
