use Rattle.std.proofs.Common.{◌≡◌, ◌≤◌, map, take}
use Rattle.std.specs.List.{All}
use Rattle.txn_clients.proofs.client_state.lines_of.Given as goal

abbrev pub invariant-loop-asker : goal.invariant-loop-asker
invariant-loop-asker l = record {
  lines : l.lines ≡ map (λ a. a.line) (take l.asker-index l.askers);
  most : All (λ n. n ≤ l.newest) l.lines;
}
