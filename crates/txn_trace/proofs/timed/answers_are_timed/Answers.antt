use Rattle.txn_trace.proofs.Timing.{answer_next, answerable_after, answerable_longer, lost_answerable, taken_answerable, timed}
use Rattle.txn_trace.proofs.timed.answers_are_timed.Goals as goal

pub returns-clause-timed : goal.returns-clause-timed
returns-clause-timed c = timed

pub returns-clause-taken : goal.returns-clause-taken
returns-clause-taken c = taken_answerable

pub returns-clause-lost : goal.returns-clause-lost
returns-clause-lost c = lost_answerable

pub returns-clause-next : goal.returns-clause-next
returns-clause-next c = answer_next

pub returns-clause-grows : goal.returns-clause-grows
returns-clause-grows c = answerable_longer

pub returns-clause-posted : goal.returns-clause-posted
returns-clause-posted c = answerable_after
