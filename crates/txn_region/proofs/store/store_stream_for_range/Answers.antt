use Rattle.txn_region.proofs.RangePieces.{range_piece}
use Rattle.txn_region.proofs.store.store_stream_for_range.Goals as goal

pub returns-in_ok-next-in-Found-clause-look : goal.returns-in_ok-next-in-Found-clause-look
returns-in_ok-next-in-Found-clause-look g c =
    let found = rw c.in-Found.is at c.in_ok-store.ensures.look in
    let region = c.in-Found.store.region_with_leader.region in
    (found.0.1, found.1, range_piece region c.args.first.now c.args.range.now.1 _ _ c.in_ok-next-in-Found.next found.0.0 c.in_ok-piece-in-Found.ensures.start c.in_ok-piece-in-Found.ensures.stop c.in_ok-next-in-Found.ensures)
