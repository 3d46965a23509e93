use Rattle.txn_history.specs.Posted.{HasNumbers}
use Rattle.region_cases.proofs.playing.tell_all.Given as goal

abbrev pub invariant-loop-event : goal.invariant-loop-event
invariant-loop-event l = HasNumbers l.out
