use Rattle.txn_law.proofs.Unlocked.{law_no_lock, law_unlocked, law_recorded}
use Rattle.txn_law.proofs.Wholes.{law_by_primary, law_whole, one_whole, law_fits, law_committed, law_settled, law_one_phase, law_decided, law_rolled_back, law_rolled_stays, law_above, law_named, law_served, law_one}
use Rattle.txn_law.proofs.Origins.{law_no_lock_left}
use Rattle.txn_law.proofs.whole.whole_or_nothing.Goals as goal

pub returns-clause-whole : goal.returns-clause-whole
returns-clause-whole c = law_whole

pub returns-clause-committed : goal.returns-clause-committed
returns-clause-committed c = law_committed

pub returns-clause-rolled_back : goal.returns-clause-rolled_back
returns-clause-rolled_back c = law_rolled_back

pub returns-clause-rolled_stays : goal.returns-clause-rolled_stays
returns-clause-rolled_stays c = law_rolled_stays

pub returns-clause-named : goal.returns-clause-named
returns-clause-named c = law_named

pub returns-clause-served : goal.returns-clause-served
returns-clause-served c = law_served

pub returns-clause-one : goal.returns-clause-one
returns-clause-one c = law_one

pub returns-clause-unlocked : goal.returns-clause-unlocked
returns-clause-unlocked c = law_unlocked

pub returns-clause-recorded : goal.returns-clause-recorded
returns-clause-recorded c = law_recorded

pub returns-clause-no_lock : goal.returns-clause-no_lock
returns-clause-no_lock c = law_no_lock

pub returns-clause-above : goal.returns-clause-above
returns-clause-above c = law_above

pub returns-clause-fits : goal.returns-clause-fits
returns-clause-fits c = law_fits

pub returns-clause-decided : goal.returns-clause-decided
returns-clause-decided c = law_decided

pub returns-clause-no_lock_left : goal.returns-clause-no_lock_left
returns-clause-no_lock_left c = law_no_lock_left

pub returns-clause-one_time : goal.returns-clause-one_time
returns-clause-one_time c = one_whole

pub returns-clause-settled : goal.returns-clause-settled
returns-clause-settled c = law_settled

pub returns-clause-one_phase : goal.returns-clause-one_phase
returns-clause-one_phase c = law_one_phase

pub returns-clause-by_primary : goal.returns-clause-by_primary
returns-clause-by_primary c = law_by_primary
