use Rattle.std.proofs.Common.{◌≡◌, ◌++◌, map}
use Rattle.txn_tso.specs.Oracle.{Answer}
use Rattle.std.specs.List.{All}
use Rattle.txn_kv.specs.declared.errors.Error.TheVariants.{InternalError}
use Rattle.txn_clients.specs.Failing.{IfFails}
use Rattle.txn_clients.specs.Groups.{IsRefused, IsTimeFor, why_none}
use Rattle.txn_clients.proofs.client_state.refusals.Given as goal

abbrev pub invariant-loop-asker : goal.invariant-loop-asker
invariant-loop-asker l = record {
  times : All IsTimeFor l.given.items;
  errors : All (λ a. IfFails (λ e. e ≡ InternalError (why_none l.fn.lost)) a.1) l.given.items;
  refused : All IsRefused l.given.items;
  askers : map (λ (a : Answer). a.0) l.given.items ++ l.asker-iterator.rest.items ≡ l.fn.askers.items;
}
