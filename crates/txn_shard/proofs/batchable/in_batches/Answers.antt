use Rattle.std.proofs.Common.{◌≡◌, ◌+◌, ◌<◌, ◌≤◌, ◌-◌, ◌^◌, arith}
use Rattle.std.specs.Prelude.{min}
use Rattle.std.specs.List.{sum_by}
use Rattle.std.proofs.lemmas.List.{map-append}
use Rattle.std.proofs.lemmas.List.Sums.{sum_by_push}
use Rattle.txn_shard.proofs.Batching.{closed_with, grown}
use Rattle.txn_shard.proofs.batchable.in_batches.Goals as goal

pub loop-item-preserved-then-is_full : goal.loop-item-preserved-then-is_full
loop-item-preserved-then-is_full g c =
    let i = c.loop-item.invariant in
    let full = c.is_full.ensures.full c.if-is_full.true in
    let fits : c.args.batch_size < 2 ^ 64 = omega arith in
    let counted = i.counted in
    let added = c.bytes-added.ensures in
    let grown : c.saturating_add-grown.result ≡ min (c.loop-item.size + c.bytes-added.result) (2 ^ 64 - 1) = c.saturating_add-grown.ensures in
    let less : c.args.batch_size ≤ sum_by g.T.InBytes.count c.loop-item.batch.items + g.T.InBytes.count c.in-Some.item = omega (arith, full.1) in
    rw (c.in_ok-push.ensures.items, c.in_ok-batch.ensures, map-append) record {
      under_way = closed_with g.T.InBytes.count c.args.batch_size c.loop-item.yielded _ c.loop-item.batch.items c.in-Some.item i.under_way full.0 less;
      counted = omega arith;
    }

pub loop-item-preserved : goal.loop-item-preserved
loop-item-preserved g c =
    let i = c.loop-item.invariant in
    let counted = i.counted in
    let added = c.bytes-added.ensures in
    let fits : c.args.batch_size < 2 ^ 64 = omega arith in
    let sum : c.saturating_add-grown.result ≡ min (c.loop-item.size + c.bytes-added.result) (2 ^ 64 - 1) = c.saturating_add-grown.ensures in
    rw c.in_ok-push-2.ensures.items record {
      under_way = grown g.T.InBytes.count c.args.batch_size c.loop-item.yielded _ c.loop-item.batch.items c.in-Some.item i.under_way
          (λ some. let room = c.is_full.ensures.room c.if-is_full.false some in omega arith);
      counted = rw (sum_by_push g.T.InBytes.count c.loop-item.batch.items c.in-Some.item) (omega arith);
    }
