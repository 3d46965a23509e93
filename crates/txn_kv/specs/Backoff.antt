-- How long each kind of backoff waits.
use Rattle.std.specs.Prelude.{ℕ, ◌+◌, ◌-◌, ◌*◌, ◌/◌, ◌%◌, ◌^◌, ◌==◌, Bool, true, false, if◌then◌else◌, nat_le, min}
use Rattle.txn_kv.specs.declared.backoff.BackoffKind.{BackoffKind}
use Rattle.txn_kv.specs.declared.backoff.BackoffKind.TheVariants as Kind
use Rattle.txn_kv.specs.declared.backoff.Backoff.{Backoff}

-- the largest number of 64 bits in place of a larger one
abbrev pub saturated : ℕ → ℕ
saturated n = min n (2 ^ 64 - 1)

-- the remainder of a division, 0 where the divisor is
abbrev pub remainder : ℕ → ℕ → ℕ
remainder word divisor = if divisor == 0 then 0 else word % divisor

abbrev pub is_spent : Backoff → Bool
is_spent b = nat_le b.max_attempts b.current_attempts

-- the delay that is doubled at each attempt, up to the maximum
abbrev pub capped_delay : Backoff → ℕ
capped_delay b = min b.max_delay_ms b.current_delay_ms

-- the milliseconds that an attempt waits for
abbrev pub delay_of : BackoffKind → Backoff → ℕ → ℕ
delay_of Kind.None b word = 0
delay_of Kind.NoJitter b word = capped_delay b
delay_of Kind.FullJitter b word = remainder word (capped_delay b)
delay_of Kind.EqualJitter b word = remainder word (capped_delay b / 2) + capped_delay b / 2
delay_of Kind.DecorrelatedJitter b word =
    min b.max_delay_ms (saturated (remainder word (saturated (3 * b.current_delay_ms) - b.base_delay_ms) + b.base_delay_ms))

-- the delay that the next attempt begins with
abbrev pub next_current : BackoffKind → Backoff → ℕ → ℕ
next_current Kind.None b word = b.current_delay_ms
next_current Kind.NoJitter b word = saturated (2 * b.current_delay_ms)
next_current Kind.FullJitter b word = saturated (2 * b.current_delay_ms)
next_current Kind.EqualJitter b word = saturated (2 * b.current_delay_ms)
next_current Kind.DecorrelatedJitter b word = delay_of Kind.DecorrelatedJitter b word

abbrev pub after_attempt : Backoff → ℕ → Backoff
after_attempt b word = record b {
  current_attempts = b.current_attempts + 1;
  current_delay_ms = next_current b.kind b word;
}

-- a backoff that has made no attempt
abbrev pub fresh : BackoffKind → ℕ → ℕ → ℕ → Backoff
fresh k base maximum attempts = record {
  kind = k;
  current_attempts = 0;
  max_attempts = attempts;
  base_delay_ms = base;
  current_delay_ms = base;
  max_delay_ms = maximum;
}

abbrev pub is_none_kind : BackoffKind → Bool
is_none_kind Kind.None = true
is_none_kind Kind.NoJitter = false
is_none_kind Kind.FullJitter = false
is_none_kind Kind.EqualJitter = false
is_none_kind Kind.DecorrelatedJitter = false
