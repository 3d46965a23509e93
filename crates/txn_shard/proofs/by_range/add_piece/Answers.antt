use Rattle.std.proofs.Common.{[], ◌∙◌, append-nil, sym}
use Rattle.txn_shard.specs.Shards.{Range}
use Rattle.txn_shard.specs.declared.shard_list.ShardList.{ShardList}
use Rattle.txn_shard.proofs.Ranged.{range_next, range_put}
use Rattle.txn_shard.proofs.by_range.add_piece.Goals as goal

pub returns-in_err-put-clause-stays : goal.returns-in_err-put-clause-stays
returns-in_err-put-clause-stays c = ([], c.in_err-put.ensures.err ∙ sym (append-nil _))

pub returns-clause-kept : goal.returns-clause-kept
returns-clause-kept c =
    range_put c.args.range.now c.args.first.now _ c.args.behind.now c.args.found.now _ c.args.store c.requires.found c.requires.next c.requires.usable c.requires.piece c.in_ok-put.ensures.ok c.in_ok-at.ensures

pub returns-clause-next : goal.returns-clause-next
returns-clause-next c =
    let new : ShardList Range = record { shards = c.put.new.self.shards; next = c.put.new.self.next; at = c.in_ok-at.at; sorted = c.put.new.self.sorted } in
    range_next c.args.range.now c.args.behind.now c.args.found.now new ((c.args.piece.0, c.args.piece.1), c.args.store) c.in_ok-put.ensures.ok c.in_ok-at.ensures
