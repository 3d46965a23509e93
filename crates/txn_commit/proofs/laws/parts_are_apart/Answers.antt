use Rattle.txn_commit.proofs.Planned.{parts_apart, parts_planned}
use Rattle.txn_commit.proofs.laws.parts_are_apart.Goals as goal

pub returns-clause-apart : goal.returns-clause-apart
returns-clause-apart c = parts_apart

pub returns-clause-planned : goal.returns-clause-planned
returns-clause-planned c = parts_planned
