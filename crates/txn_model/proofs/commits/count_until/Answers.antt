use Rattle.std.proofs.Common.{rules, of_calls, ◌≡◌, true, false, get_or, arith}
use Rattle.std.specs.Prelude.{nat_le}
use Rattle.std.specs.List.Sorted.{IsPartitionPoint}
use Rattle.std.proofs.lemmas.Fn.{always_returns_same}
use Rattle.txn_model.specs.declared.cell.Write.{Write}
use Rattle.txn_model.proofs.Written.{commits_rise, le_trans}
use Rattle.txn_model.proofs.commits.count_until.Goals as goal

pub returns-clause-until : goal.returns-clause-until
returns-clause-until c = λ i d l.
    let point : IsPartitionPoint (λ (w : Write). nat_le w.commit c.args.at ≡ true) (λ w. nat_le w.commit c.args.at ≡ false) c.args.commits.now c.partition_point.result =
    c.partition_point.ensures.partitioned (λ w. nat_le w.commit c.args.at) (always_returns_same _ _ _ (λ a r f k. search (rules, of_calls)))
    (λ i j d l m up. le_trans (get_or c.args.commits.now i d).commit (get_or c.args.commits.now j d).commit c.args.at (commits_rise c.args.commits.now i j d c.requires l m) up) in
    point.0 i d (omega arith) l

pub returns-clause-later : goal.returns-clause-later
returns-clause-later c = λ i d l m.
    let point : IsPartitionPoint (λ (w : Write). nat_le w.commit c.args.at ≡ true) (λ w. nat_le w.commit c.args.at ≡ false) c.args.commits.now c.partition_point.result =
    c.partition_point.ensures.partitioned (λ w. nat_le w.commit c.args.at) (always_returns_same _ _ _ (λ a r f k. search (rules, of_calls)))
    (λ i j d l m up. le_trans (get_or c.args.commits.now i d).commit (get_or c.args.commits.now j d).commit c.args.at (commits_rise c.args.commits.now i j d c.requires l m) up) in
    point.1 i d l m
