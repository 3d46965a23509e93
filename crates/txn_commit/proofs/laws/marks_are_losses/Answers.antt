use Rattle.txn_commit.proofs.Losing.{marks_followed, marks_heard, marks_longer}
use Rattle.txn_commit.proofs.laws.marks_are_losses.Goals as goal

pub returns-clause-none : goal.returns-clause-none
returns-clause-none c plan s h t e = cc

pub returns-clause-longer : goal.returns-clause-longer
returns-clause-longer c = marks_longer

pub returns-clause-heard : goal.returns-clause-heard
returns-clause-heard c = marks_heard

pub returns-clause-followed : goal.returns-clause-followed
returns-clause-followed c = marks_followed
