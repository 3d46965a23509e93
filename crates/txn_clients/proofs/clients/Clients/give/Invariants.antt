use Rattle.std.proofs.Common.{◌≡◌, []}
use Rattle.std.specs.List.{All}
use Rattle.txn_history.specs.Among.{IsAmong}
use Rattle.txn_tso.specs.Oracle.{Answer}
use Rattle.txn_side.specs.Account.{AreClosed}
use Rattle.txn_clients.specs.Accounts.{account_at}
use Rattle.txn_clients.specs.Clients.{AreReady, crashed_of, rows_of, sight_of}
use Rattle.txn_clients.specs.Going.{Advances, NamesIn}
use Rattle.txn_clients.specs.Groups.{IsTimeFor, IsTimed}
use Rattle.std.proofs.Common.{map}
use Rattle.txn_clients.specs.Waiting.{AreRunning, GoesOn, IsSound}
use Rattle.std.specs.Prelude.{Option}
use Rattle.txn_side.specs.Trace.{Trace}
use Rattle.txn_clients.specs.Failing.{AreGivenIn, owing_all, posting_in, refused_of}
use Rattle.txn_clients.proofs.Grouped.{LeadsGiving}
use Rattle.txn_clients.proofs.clients.Clients.give.Given as goal

abbrev pub invariant-loop-asker : goal.invariant-loop-asker
invariant-loop-asker g l = record {
  advances : Advances l.initial.turn l.turn (sight_of l.initial.self) (sight_of l.self);
  names : NamesIn (IsTimed l.fn.given.items) l.initial.turn l.turn;
  ready : AreReady g.P.Plans.ways (rows_of l.self);
  accounts : l.initial.turn.posted.items ≡ [] → l.initial.turn.ended.items ≡ [] → AreClosed (sight_of l.initial.self) l.turn.ended.items (account_at (rows_of l.initial.self)) (account_at (rows_of l.self));
  crashed : crashed_of l.self ≡ crashed_of l.initial.self;
  waits : (trace : Option Trace) → AreGivenIn trace l.fn.given.items → IsSound g.P.Plans.ways (posting_in l.initial.turn.posted.items (owing_all (refused_of l.fn.given.items) trace)) (map (λ (a : Answer). a.0) l.fn.given.items) l.initial.self
      → GoesOn g.P.Plans.ways (owing_all (refused_of l.asker-iterator.rest.items) trace) l.client (λ n a. ⊥) (map (λ (a : Answer). a.0) l.asker-iterator.rest.items) l.initial.turn.posted.items l.turn.posted.items l.initial.turn.ended.items l.turn.ended.items l.initial.self l.self;
  runs : AreRunning (rows_of l.initial.self) → AreRunning (rows_of l.self);
  leads : l.initial.turn.posted.items ≡ [] → l.initial.turn.ended.items ≡ [] → LeadsGiving g.P.Plans.ways l.fn.given.items l.asker-iterator.rest.items l.initial.turn.posted.items l.turn.posted.items l.initial.turn.ended.items l.turn.ended.items l.initial.self l.self;
  times : All IsTimeFor l.asker-iterator.rest.items;
  rest : (a : Answer) → IsAmong l.asker-iterator.rest.items a → IsAmong l.fn.given.items a;
}
