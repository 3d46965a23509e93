use Rattle.std.proofs.Common.{◌≡◌, drop}
use Rattle.std.specs.Prelude.{nat_eq}
use Rattle.std.specs.List.{list_any}
use Rattle.txn_region.proofs.region_cache.is_among.Given as goal

abbrev pub invariant-loop-waiting : goal.invariant-loop-waiting
invariant-loop-waiting l = list_any (λ p. nat_eq p l.id) (drop l.waiting-index l.pending) ≡ list_any (λ p. nat_eq p l.id) l.pending
