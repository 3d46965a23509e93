-- Timestamps as numbers.
use Rattle.std.specs.Prelude.{ℕ, ◌+◌, ◌*◌, ◌/◌, ◌%◌, ◌^◌, ◌≤ℤ◌, ◌<ℤ◌, pos, unsigned_abs}
use Rattle.txn_kv.specs.declared.timestamp.Timestamp.{Timestamp}

-- the parts are in range: 46 bits of milliseconds, 18 bits of a count
pub record HasVersion (t : Timestamp) : Type 0 where
  pub physical : pos 0 ≤ℤ t.physical
  pub physical_bits : t.physical <ℤ pos (2 ^ 46)
  pub logical : pos 0 ≤ℤ t.logical
  pub logical_bits : t.logical <ℤ pos (2 ^ 18)

abbrev pub version_of : Timestamp → ℕ
version_of t = unsigned_abs t.physical * 2 ^ 18 + unsigned_abs t.logical

abbrev pub timestamp_of : ℕ → Timestamp
timestamp_of n = record { physical = pos (n / 2 ^ 18); logical = pos (n % 2 ^ 18); suffix_bits = 0 }
