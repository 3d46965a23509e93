use Rattle.txn_law.proofs.GivenOnce.{law_once, law_at_most, law_later}
use Rattle.txn_law.proofs.given.timestamps_are_given_once.Goals as goal

pub returns-clause-once : goal.returns-clause-once
returns-clause-once c = law_once

pub returns-clause-at_most : goal.returns-clause-at_most
returns-clause-at_most c = law_at_most

pub returns-clause-later : goal.returns-clause-later
returns-clause-later c = law_later
