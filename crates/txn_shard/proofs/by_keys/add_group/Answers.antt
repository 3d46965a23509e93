use Rattle.std.proofs.Common.{◌++◌, ◌∙◌, map, refl, ap}
use Rattle.txn_shard.proofs.Found.{group_put, pieces_of}
use Rattle.txn_shard.proofs.by_keys.add_group.Goals as goal

pub returns-clause-kept : goal.returns-clause-kept
returns-clause-kept g c =
    let shards = rw c.in_ok-group.ensures at c.in_ok-shards.ensures in
    group_put g.K.AsKey.key g.K.InBytes.count c.args.batch_size c.args.order.now c.args.found.now _ c.args.store c.args.end (map (λ shard. shard.items) c.in_ok-shards.shards.items)
    c.requires.found c.requires.usable c.requires.group shards
    (c.in_ok-append.ensures.items ∙ ap (λ l. c.args.found.now.shards.items ++ l) (c.in_ok-more.ensures ∙ pieces_of (λ shard. shard.items) c.args.store c.in_ok-shards.shards.items)) refl refl
