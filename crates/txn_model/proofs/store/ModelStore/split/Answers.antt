use Rattle.std.proofs.Common.{◌+◌, length, arith}
use Rattle.txn_model.specs.Splits.{AreCounted}
use Rattle.txn_model.proofs.Splitting.{counted_split, counted_fit}
use Rattle.txn_model.proofs.store.ModelStore.split.Goals as goal

pub split_region-requires-clause-fits : goal.split_region-requires-clause-fits
split_region-requires-clause-fits c =
    let gs = c.self.inside.regions.items in
    counted_fit (length gs) gs (omega (arith, c.self.inside.regions.ok.0)) c.self.invariant.counted

pub invariant_of-self-2 : goal.invariant_of-self-2
invariant_of-self-2 c =
    let gs = c.self.inside.regions.items in
    let counted : AreCounted c.split_region.new.regions.items = rw c.in_ok-split_region.ensures.ok (counted_split c.args.key.now (length gs + 1) gs c.self.invariant.counted) in
    record { kept = c.self.invariant.kept; ordered = c.self.invariant.ordered; counted = counted; clock_bits = c.self.invariant.clock_bits }
