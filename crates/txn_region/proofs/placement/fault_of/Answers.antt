use Rattle.std.proofs.Common.{inl, inr}
use Rattle.txn_region.proofs.placement.fault_of.Goals as goal

pub returns-in-Err-decode_region : goal.returns-in-Err-decode_region
returns-in-Err-decode_region c = inr (inl (rw c.in-Ok.ensures at c.in-Err-decode_region.ensures.err))
