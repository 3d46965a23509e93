use Rattle.std.proofs.Common.{◌≡◌, ◌-◌, ◌&&◌, true, false, sym, ◌∙◌, arith}
use Rattle.std.specs.Prelude.{nat_le}
use Rattle.txn_model.specs.Locks.{is_written}
use Rattle.txn_model.proofs.Written.{written_found, written_passed, later_passed}
use Rattle.txn_model.proofs.commits.last_written.Goals as goal

pub loop-left-init : goal.loop-left-init
loop-left-init c = record {
  in_range = c.count_until-left.ensures.bound;
  until = c.count_until-left.ensures.until;
  found = later_passed c.args.commits.now c.count_until-left.result c.args.at c.count_until-left.ensures.later;
}

pub returns-then-is_written : goal.returns-then-is_written
returns-then-is_written c =
    let w = c.index-commits-left.result in
    let until : nat_le w.commit c.args.at ≡ true = rw c.index-commits-left.is (c.loop-left.invariant.until (c.loop-left.left - 1) w (omega arith)) in
    let holds : (nat_le w.commit c.args.at && is_written w.kind) ≡ true = rw until (sym c.is_written.ensures ∙ c.if-is_written.true) in
    sym (c.loop-left.invariant.found ∙ written_found c.args.commits.now (c.loop-left.left - 1) c.loop-left.left w c.args.at (omega arith) (omega arith) c.index-commits-left.is holds)

pub loop-left-preserved : goal.loop-left-preserved
loop-left-preserved c =
    let w = c.index-commits-left.result in
    let until : nat_le w.commit c.args.at ≡ true = rw c.index-commits-left.is (c.loop-left.invariant.until (c.loop-left.left - 1) w (omega arith)) in
    let fails : (nat_le w.commit c.args.at && is_written w.kind) ≡ false = rw until (sym c.is_written.ensures ∙ c.if-is_written.false) in
    record {
      in_range = omega arith;
      until = λ i d l. c.loop-left.invariant.until i d (omega arith);
      found = c.loop-left.invariant.found ∙ written_passed c.args.commits.now (c.loop-left.left - 1) c.loop-left.left w c.args.at (omega arith) (omega arith) c.index-commits-left.is fails;
    }
