use Rattle.std.proofs.Common.{◌≡◌}
use Rattle.txn_side.specs.Sight.{next_at}
use Rattle.txn_clients.specs.Arising.{HandsAll}
use Rattle.txn_clients.specs.Clients.{crashed_of, nexts_of, rows_of, sight_of}
use Rattle.txn_clients.specs.Going.{Advances, AreNext}
use Rattle.txn_clients.specs.Waiting.{HandsOn}
use Rattle.txn_clients.proofs.clients.Clients.hand_out.Given as goal

abbrev pub invariant-loop-errand : goal.invariant-loop-errand
invariant-loop-errand g l = record {
  advances : Advances l.initial.turn l.turn (sight_of l.initial.self) (sight_of l.self);
  ended : l.turn.ended ≡ l.initial.turn.ended;
  rows : rows_of l.self ≡ rows_of l.initial.self;
  crashed : crashed_of l.self ≡ crashed_of l.initial.self;
  hands : HandsOn l.line l.client l.fn.sends.items l.errand-iterator.rest.items l.initial.turn.posted.items l.turn.posted.items l.initial.self l.self;
  exact : HandsAll l.line l.client l.fn.sends.items l.errand-iterator.rest.items l.initial.turn.posted.items l.turn.posted.items l.initial.self l.self;
  next : AreNext (next_at (nexts_of l.self) l.line) l.errand-iterator.rest.items;
}
