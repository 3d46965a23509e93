use Rattle.std.proofs.Common.{◌≡◌, ◌-◌, true, drop, get_or, subst, arith}
use Rattle.txn_model.specs.Locks.{all_above}
use Rattle.txn_model.proofs.Unlocking.{placed_at, not_less}
use Rattle.txn_model.proofs.unlock.place_of.Goals as goal

pub returns-then-commits-place-clause-place : goal.returns-then-commits-place-clause-place
returns-then-commits-place-clause-place c w e =
    let d = c.index-commits-place.result in
    placed_at c.args.commits.now c.loop-place.place w d c.loop-place.invariant.in_range (rw e c.loop-place.invariant.above)
    (λ p. not_less c.args.commit w (get_or c.args.commits.now (c.loop-place.place - 1) d) e c.if-commits-place.true)

pub returns-clause-place : goal.returns-clause-place
returns-clause-place c w e =
    let first : c.loop-place.place ≡ 0 = omega arith in
    let above : all_above c.args.commit (drop 0 c.args.commits.now) ≡ true = subst (λ k. all_above c.args.commit (drop k c.args.commits.now) ≡ true) first c.loop-place.invariant.above in
    placed_at c.args.commits.now 0 w w (omega arith) (rw e above) (λ p. absurd (omega arith))
