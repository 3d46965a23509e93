use Rattle.std.proofs.Common.{rules, ◌∙◌, ap}
use Rattle.std.proofs.lemmas.List.Sorted.{answers_always}
use Rattle.txn_shard.specs.Order.{comes_before, in_order}
use Rattle.txn_shard.specs.Sorted.{order}
use Rattle.txn_shard.proofs.Sorting.{sorted_is}
use Rattle.txn_shard.proofs.sorted.sorted.Goals as goal

pub returns : goal.returns
returns g c =
    let key = g.K.AsKey.key in
    let up = c.in_ok-sort_by.ensures.sorted (comes_before key) (order key) (answers_always _ _ _ (λ f a r f' k. search rules)) in
    let stable = c.in_ok-sort_by.ensures.stable (comes_before key) (order key) (answers_always _ _ _ (λ f a r f' k. search rules)) in
    c.from_vec.ensures ∙ sorted_is key _ _ up stable ∙ ap (in_order key) c.in_ok-sorted.ensures
