use Rattle.std.proofs.Common.{◌++◌, ◌∙◌, append_assoc, ap}
use Rattle.txn_shard.proofs.Ranged.{range_found, range_not_found}
use Rattle.txn_shard.proofs.by_range.find_pieces.Goals as goal

pub returns-in_err-add_piece-in-Found-clause-stays :
    goal.returns-in_err-add_piece-in-Found-clause-stays
returns-in_err-add_piece-in-Found-clause-stays g c =
    let before = c.loop-next.invariant.stays in
    let more = c.add_piece.ensures.stays in
    (before.0 ++ more.0, more.1 ∙ ap (λ l. l ++ more.0) before.1 ∙ append_assoc c.args.found.now.shards.items before.0 more.0)

pub returns-in-Query-clause-left : goal.returns-in-Query-clause-left
returns-in-Query-clause-left g c =
    let look = rw c.in-Query.is at c.in_ok-piece.ensures.look in
    (look.0, look.1, range_not_found c.args.range.now c.in-Some.first c.loop-next.found c.loop-next.invariant.kept (rw c.in-Some.is at c.loop-next.invariant.next))

pub loop-next-preserved : goal.loop-next-preserved
loop-next-preserved g c =
    let before = c.loop-next.invariant.stays in
    let more = c.add_piece.ensures.stays in
    record {
      kept = c.in_ok-add_piece-in-Found.ensures.kept;
      next = c.in_ok-add_piece-in-Found.ensures.next;
      stays = (before.0 ++ more.0, more.1 ∙ ap (λ l. l ++ more.0) before.1 ∙ append_assoc c.args.found.now.shards.items before.0 more.0);
      changed = g.met.C.PdClient.looked_on _ _ _ c.loop-next.invariant.changed c.store_stream_for_range.ensures.changed;
    }

pub returns-clause-all : goal.returns-clause-all
returns-clause-all g c = λ e. range_found c.args.range.now c.loop-next.found c.loop-next.invariant.kept (rw c.in_default.is at c.loop-next.invariant.next)
