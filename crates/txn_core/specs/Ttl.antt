-- How long the locks of a commit live.
use Rattle.std.specs.Prelude.{◌≡◌, ℕ, ◌+◌, ◌-◌, ◌*◌, ◌/◌, ◌^◌, ◌<◌, ◌≤◌, min, max, nat_lt}
use Rattle.std.specs.Bool.{MatchBool}

-- r is the integer root of n
pub record IsRoot (n r : ℕ) : Type 0 where
  pub low : r * r ≤ n
  pub high : n < (r + 1) * (r + 1)

-- Three seconds; above 16384 bytes of writes six times the root of the size in MiB, from three seconds to twenty.
abbrev pub IsBaseTtl : ℕ → ℕ → Type 0
IsBaseTtl size ttl = MatchBool (nat_lt 16384 size) ((root : ℕ) × IsRoot (36_000_000 * size / 2 ^ 20) root × (ttl ≡ min 20_000 (max 3000 root))) (ttl ≡ 3000)

-- and the time that the transaction has run: none where the clock stands before its start
abbrev pub IsTtl : ℕ → ℕ → ℕ → ℕ → Type 0
IsTtl size started now ttl = (base : ℕ) × IsBaseTtl size base × (ttl ≡ min (base + (now - started)) (2 ^ 64 - 1))
