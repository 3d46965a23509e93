use Rattle.std.proofs.Common.{◌≡◌}
use Rattle.std.specs.List.{filter}
use Rattle.std.specs.Prelude.{not}
use Rattle.txn_settle.specs.Expiry.{is_expired}
use Rattle.txn_settle.proofs.expiry.part_locks.Given as goal

abbrev pub invariant-loop-lock : goal.invariant-loop-lock
invariant-loop-lock l = record {
  expired : l.parted.expired.items ≡ filter (is_expired l.now) l.yielded;
  live : l.parted.live.items ≡ filter (λ lock. not (is_expired l.now lock)) l.yielded;
}
