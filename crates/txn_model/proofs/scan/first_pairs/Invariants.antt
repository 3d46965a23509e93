use Rattle.std.proofs.Common.{◌≡◌, ◌≤◌, take, map, length}
use Rattle.std.specs.List.{filter_map}
use Rattle.txn_model.specs.Read.{read_pair}
use Rattle.txn_model.specs.Scans.{ordered, shown}
use Rattle.txn_model.proofs.scan.first_pairs.Given as goal

abbrev pub invariant-loop-i : goal.invariant-loop-i
invariant-loop-i l = record {
  so_far : l.pairs ≡ map (shown l.request.key_only) (filter_map (read_pair l.request.version) (take l.i (ordered l.request.reverse l.cells)));
  few : length l.pairs ≤ l.request.limit;
}
