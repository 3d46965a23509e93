use Rattle.std.proofs.Common.{◌≡◌, drop}
use Rattle.txn_merge.specs.Firsts.{first_seen}
use Rattle.txn_merge.proofs.has_key_errors.first_errors.Given as goal

abbrev pub invariant-loop-item : goal.invariant-loop-item
invariant-loop-item g l = record {
  same : l.items ≡ l.initial.items;
  none : first_seen g.T.HasKeyErrors.key_errors_in (drop l.item-index l.initial.items) ≡ first_seen g.T.HasKeyErrors.key_errors_in l.initial.items;
}
