-- Plans that post one request for each key.
use Rattle.std.specs.Prelude.{ℕ, ◌≤◌, max}
use Rattle.std.proofs.Math.Nat.{min-le_right}
use Rattle.txn_multi.specs.Few.{by_items}

-- lemmas

pub few_by_items : (keys n : ℕ) → by_items keys n ≤ keys
few_by_items keys n = min-le_right (max 1 n) keys
