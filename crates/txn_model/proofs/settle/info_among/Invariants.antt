use Rattle.std.proofs.Common.{◌≡◌, drop}
use Rattle.std.specs.Prelude.{find, nat_eq}
use Rattle.txn_model.proofs.settle.info_among.Given as goal

abbrev pub invariant-loop-info : goal.invariant-loop-info
invariant-loop-info l = find (λ i. nat_eq l.lock.start i.txn) (drop l.info-index l.infos) ≡ find (λ i. nat_eq l.lock.start i.txn) l.infos
