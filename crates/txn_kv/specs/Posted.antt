-- What an outbox holds.
use Rattle.std.specs.Prelude.{ℕ, ◌+◌, ◌<◌, ◌^◌, Bool, List, [], length}
use Rattle.txn_kv.specs.declared.outbox.Errand.{Errand}

-- the line that posts, and whether it is its heartbeat that does; the next number of a request or a sleep, and of an ask;
-- what is posted, the oldest first
pub record Posted : Type 0 where
  pub line : ℕ
  pub beat : Bool
  pub next : ℕ
  pub next_ask : ℕ
  pub sends : List Errand

-- an outbox in which nothing is posted yet
abbrev pub opened : ℕ → Bool → Posted
opened line beat = record { line = line; beat = beat; next = 1; next_ask = 1; sends = [] }

-- There is a number left for one errand more. Where both are below 2^63 when a call begins, this holds before each errand
-- that it posts, since each raises the right side too.
pub record HasNumbers (o : Posted) : Type 0 where
  pub next : o.next < 2 ^ 63 + length o.sends
  pub next_ask : o.next_ask < 2 ^ 63 + length o.sends
