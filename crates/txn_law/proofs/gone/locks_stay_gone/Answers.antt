use Rattle.txn_law.proofs.StaysGone.{law_gone, law_unshown, law_resolved, law_cleaned, law_none_left, law_since}
use Rattle.txn_law.proofs.gone.locks_stay_gone.Goals as goal

pub returns-clause-stood : goal.returns-clause-stood
returns-clause-stood c = law_gone

pub returns-clause-unshown : goal.returns-clause-unshown
returns-clause-unshown c = law_unshown

pub returns-clause-resolved : goal.returns-clause-resolved
returns-clause-resolved c = law_resolved

pub returns-clause-cleaned : goal.returns-clause-cleaned
returns-clause-cleaned c = law_cleaned

pub returns-clause-none_left : goal.returns-clause-none_left
returns-clause-none_left c = law_none_left

pub returns-clause-since : goal.returns-clause-since
returns-clause-since c = law_since
