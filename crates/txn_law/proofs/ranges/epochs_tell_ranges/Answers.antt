use Rattle.txn_law.proofs.Ranged.{law_ranges}
use Rattle.txn_law.proofs.ranges.epochs_tell_ranges.Goals as goal

pub returns : goal.returns
returns c = law_ranges
