use Rattle.std.proofs.Common.{rules, tests}
use Rattle.std.proofs.lemmas.List.Sorted.{answers_always}
use Rattle.std.specs.Cmp.Lexicographic.{slice_cmp}
use Rattle.std.specs.Ordering.{is_lt, nat_cmp}
use Rattle.txn_buffer.proofs.Ordered.{ascends_by_next}
use Rattle.txn_buffer.proofs.pairs.ascends.Goals as goal

pub returns : goal.returns
returns c = ascends_by_next c.args.pairs.now c.is_sorted_by.result (c.is_sorted_by.ensures.cases (λ x y. is_lt (slice_cmp nat_cmp x.0 y.0)) (answers_always _ _ _ (λ f a r g called. search (rules, tests))))
