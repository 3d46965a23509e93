use Rattle.std.proofs.Common.{◌∙◌, ap, refl}
use Rattle.txn_history.specs.Moves.{Moves-stops}
use Rattle.txn_history.specs.Turn.{IfKept-stopped}
use Rattle.txn_commit.specs.Following.{sent}
use Rattle.txn_commit.proofs.Stages.{kept_all, sent_since, stopped_is}
use Rattle.txn_commit.proofs.Counting.{counts_stop}
use Rattle.txn_commit.proofs.Going.{never_gone, never_more, quiet_sent, relays_fails, relays_on, relays_stops}
use Rattle.txn_history.proofs.Arriving.{counts_of, goes_of, tells_of}
use Rattle.txn_commit.proofs.committer.tell_commit.Goals as goal

pub returns-in_err-progress-clause-sends : goal.returns-in_err-progress-clause-sends
returns-in_err-progress-clause-sends g c r = record { moves = Moves-stops (tells_of c.args.arrival c.tell.ensures r).moves (stopped_is _ c.from_residual.ensures.0); job = (tells_of c.args.arrival c.tell.ensures r).job; expects = (tells_of c.args.arrival c.tell.ensures r).expects; follows = IfKept-stopped _ _ (stopped_is _ c.from_residual.ensures.0) }

pub returns-in_err-send-clause-sends : goal.returns-in_err-send-clause-sends
returns-in_err-send-clause-sends g c r = record { moves = Moves-stops (tells_of c.args.arrival c.in_ok-progress.ensures r).moves (stopped_is _ c.from_residual-in_err-send.ensures.0); job = (tells_of c.args.arrival c.in_ok-progress.ensures r).job; expects = (tells_of c.args.arrival c.in_ok-progress.ensures r).expects; follows = IfKept-stopped _ _ (stopped_is _ c.from_residual-in_err-send.ensures.0) }

pub returns-clause-sends : goal.returns-clause-sends
returns-clause-sends g c r = record { moves = (tells_of c.args.arrival c.in_ok-progress.ensures r).moves; job = (tells_of c.args.arrival c.in_ok-progress.ensures r).job; expects = (tells_of c.args.arrival c.in_ok-progress.ensures r).expects; follows = kept_all _ (c.in_ok-send.ensures.ok ∙ sent_since (tells_of c.args.arrival c.in_ok-progress.ensures r).moves _ _ _ c.count_posted-had.ensures ∙ ap (λ x. sent c.args.out.now.line c.args.out.now.beat (tells_of c.args.arrival c.in_ok-progress.ensures r).moves.sends c.args.timestamp x) c.hear.ensures) }

pub returns-in_err-progress-clause-counts : goal.returns-in_err-progress-clause-counts
returns-in_err-progress-clause-counts g c = counts_stop (stopped_is _ c.from_residual.ensures.0) (counts_of c.args.arrival c.tell.ensures)

pub returns-in_err-send-clause-counts : goal.returns-in_err-send-clause-counts
returns-in_err-send-clause-counts g c = counts_stop (stopped_is _ c.from_residual-in_err-send.ensures.0) (counts_of c.args.arrival c.in_ok-progress.ensures)

pub returns-clause-counts : goal.returns-clause-counts
returns-clause-counts g c = counts_of c.args.arrival c.in_ok-progress.ensures

pub returns-in_err-progress-clause-relays : goal.returns-in_err-progress-clause-relays
returns-in_err-progress-clause-relays g c = relays_stops refl (stopped_is _ c.from_residual.ensures.0) (goes_of c.args.arrival c.in_err-progress.ensures)

pub returns-in_err-send-clause-relays : goal.returns-in_err-send-clause-relays
returns-in_err-send-clause-relays g c = relays_fails c.count_posted-had.ensures c.in_err-send.ensures.err (stopped_is _ c.from_residual-in_err-send.ensures.0) (goes_of c.args.arrival c.in_ok-progress.ensures)

pub returns-clause-relays : goal.returns-clause-relays
returns-clause-relays g c = relays_on (goes_of c.args.arrival c.in_ok-progress.ensures)

pub returns-in_err-progress-clause-commits : goal.returns-in_err-progress-clause-commits
returns-in_err-progress-clause-commits g c other kept = absurd (never_gone refl kept (goes_of c.args.arrival c.in_err-progress.ensures) other)

pub returns-in_err-send-clause-commits : goal.returns-in_err-send-clause-commits
returns-in_err-send-clause-commits g c other kept = absurd (never_more c.count_posted-had.ensures c.in_err-send.ensures.err (goes_of c.args.arrival c.in_ok-progress.ensures) other)

pub returns-clause-commits : goal.returns-clause-commits
returns-clause-commits g c other kept = c.in_ok-send.ensures.ok ∙ quiet_sent c.args.out.now _ _ c.args.timestamp _ c.count_posted-had.ensures ((goes_of c.args.arrival c.in_ok-progress.ensures).outbox other) ∙ c.hear.ensures
