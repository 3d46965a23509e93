use Rattle.txn_trace.proofs.Fitting.{fits_after, fits_asked, fits_ended, fits_idle, fits_longer, fits_more, fits_queued, fits_sent, fits_waiting, out_asked}
use Rattle.txn_trace.proofs.oracles.oracles_fit.Goals as goal

pub returns-clause-begins : goal.returns-clause-begins
returns-clause-begins c = fits_idle

pub returns-clause-more : goal.returns-clause-more
returns-clause-more c = fits_more

pub returns-clause-grows : goal.returns-clause-grows
returns-clause-grows c = fits_longer

pub returns-clause-posted : goal.returns-clause-posted
returns-clause-posted c = fits_after

pub returns-clause-asked : goal.returns-clause-asked
returns-clause-asked c = fits_asked

pub returns-clause-queued : goal.returns-clause-queued
returns-clause-queued c = fits_queued

pub returns-clause-sent : goal.returns-clause-sent
returns-clause-sent c = fits_sent

pub returns-clause-waits : goal.returns-clause-waits
returns-clause-waits c = fits_waiting

pub returns-clause-ended : goal.returns-clause-ended
returns-clause-ended c = fits_ended

pub returns-clause-each : goal.returns-clause-each
returns-clause-each c = out_asked
