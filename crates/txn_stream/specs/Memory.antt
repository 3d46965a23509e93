-- Sources and sinks over memory.
use Rattle.std.specs.Prelude.{ℕ, ◌+◌, ◌-◌, ◌^◌, Bool, List, min, ◌==◌}
use Rattle.std.specs.List.{list_any}

-- the bytes to come, the most that one call gives, the calls so far, those that fail, and the faults so far
pub record Reading : Type 0 where
  pub left : List ℕ
  pub piece : ℕ
  pub calls : ℕ
  pub failing : List ℕ
  pub faults : ℕ

-- the bytes that were taken, the most that one call takes, the calls so far, those that fail, and the faults so far
pub record Writing : Type 0 where
  pub written : List ℕ
  pub piece : ℕ
  pub calls : ℕ
  pub failing : List ℕ
  pub faults : ℕ

-- a number that stops at its last value
abbrev pub one_more : ℕ → ℕ
one_more n = min (n + 1) (2 ^ 64 - 1)

-- the next call is among those that fail
abbrev pub fails : ℕ → List ℕ → Bool
fails calls failing = list_any (λ call. call == one_more calls) failing
