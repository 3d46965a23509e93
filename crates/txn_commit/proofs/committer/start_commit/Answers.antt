use Rattle.std.proofs.Common.{◌∙◌, refl}
use Rattle.txn_history.specs.Moves.{Moves-stops}
use Rattle.txn_history.specs.Turn.{IfKept-stopped}
use Rattle.txn_commit.proofs.Stages.{kept_all, sent_since, stopped_is}
use Rattle.txn_commit.proofs.Counting.{counts_stop}
use Rattle.txn_commit.proofs.Going.{relays_fails, relays_on, relays_stops}
use Rattle.txn_history.proofs.Arriving.{counts_begun, goes_begun, tells_begun}
use Rattle.txn_commit.proofs.committer.start_commit.Goals as goal

pub returns-in_err-progress-clause-sends : goal.returns-in_err-progress-clause-sends
returns-in_err-progress-clause-sends g c = record { moves = Moves-stops (tells_begun c.start.ensures).moves (stopped_is _ c.from_residual.ensures.0); job = (tells_begun c.start.ensures).job; expects = (tells_begun c.start.ensures).expects; follows = IfKept-stopped _ _ (stopped_is _ c.from_residual.ensures.0) }

pub returns-in_err-send-clause-sends : goal.returns-in_err-send-clause-sends
returns-in_err-send-clause-sends g c = record { moves = Moves-stops (tells_begun c.in_ok-progress.ensures).moves (stopped_is _ c.from_residual-in_err-send.ensures.0); job = (tells_begun c.in_ok-progress.ensures).job; expects = (tells_begun c.in_ok-progress.ensures).expects; follows = IfKept-stopped _ _ (stopped_is _ c.from_residual-in_err-send.ensures.0) }

pub returns-clause-sends : goal.returns-clause-sends
returns-clause-sends g c = record { moves = (tells_begun c.in_ok-progress.ensures).moves; job = (tells_begun c.in_ok-progress.ensures).job; expects = (tells_begun c.in_ok-progress.ensures).expects; follows = kept_all _ (c.in_ok-send.ensures.ok ∙ sent_since (tells_begun c.in_ok-progress.ensures).moves _ _ _ c.count_posted-had.ensures) }

pub returns-in_err-progress-clause-counts : goal.returns-in_err-progress-clause-counts
returns-in_err-progress-clause-counts g c = counts_stop (stopped_is _ c.from_residual.ensures.0) (counts_begun c.start.ensures)

pub returns-in_err-send-clause-counts : goal.returns-in_err-send-clause-counts
returns-in_err-send-clause-counts g c = counts_stop (stopped_is _ c.from_residual-in_err-send.ensures.0) (counts_begun c.in_ok-progress.ensures)

pub returns-clause-counts : goal.returns-clause-counts
returns-clause-counts g c = counts_begun c.in_ok-progress.ensures

pub returns-in_err-progress-clause-relays : goal.returns-in_err-progress-clause-relays
returns-in_err-progress-clause-relays g c = relays_stops refl (stopped_is _ c.from_residual.ensures.0) (goes_begun c.in_err-progress.ensures)

pub returns-in_err-send-clause-relays : goal.returns-in_err-send-clause-relays
returns-in_err-send-clause-relays g c = relays_fails c.count_posted-had.ensures c.in_err-send.ensures.err (stopped_is _ c.from_residual-in_err-send.ensures.0) (goes_begun c.in_ok-progress.ensures)

pub returns-clause-relays : goal.returns-clause-relays
returns-clause-relays g c = relays_on (goes_begun c.in_ok-progress.ensures)
