use Rattle.txn_law.proofs.Clocks.{last_stays}
use Rattle.txn_law.proofs.OneRequest.{opening_sound, sound_next, commit_there, lock_there, rollback_there, prewrite_unrolled}
use Rattle.txn_law.proofs.Replies.{timestamps_rise}
use Rattle.txn_law.proofs.request.one_request.Goals as goal

pub returns-clause-begins : goal.returns-clause-begins
returns-clause-begins c = opening_sound

pub returns-clause-sound : goal.returns-clause-sound
returns-clause-sound c = sound_next

pub returns-clause-commit_stays : goal.returns-clause-commit_stays
returns-clause-commit_stays c = commit_there

pub returns-clause-lock_goes : goal.returns-clause-lock_goes
returns-clause-lock_goes c = lock_there

pub returns-clause-rollback_stays : goal.returns-clause-rollback_stays
returns-clause-rollback_stays c = rollback_there

pub returns-clause-prewrite_stops : goal.returns-clause-prewrite_stops
returns-clause-prewrite_stops c = prewrite_unrolled

pub returns-clause-timestamps_rise : goal.returns-clause-timestamps_rise
returns-clause-timestamps_rise c = timestamps_rise

pub returns-clause-last_stays : goal.returns-clause-last_stays
returns-clause-last_stays c = last_stays
