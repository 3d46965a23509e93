use Rattle.std.proofs.Common.{◌≡◌, ◌++◌}
use Rattle.txn_heartbeats.specs.Beating.{AreTimeless, postings_of}
use Rattle.txn_heartbeats.proofs.heartbeats.beats.post_all.Given as goal

abbrev pub invariant-loop-errand : goal.invariant-loop-errand
invariant-loop-errand l = record {
  posted : l.turn.posted.items ++ postings_of l.line l.errand-iterator.rest.items ≡ l.initial.turn.posted.items ++ postings_of l.line l.fn.sends.items;
  timeless : AreTimeless l.errand-iterator.rest.items → AreTimeless l.fn.sends.items;
  ended : l.turn.ended ≡ l.initial.turn.ended;
}
