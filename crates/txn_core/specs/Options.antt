-- The options of a transaction, as they stand before its user changes them.
use Rattle.std.specs.Prelude.{◌≡◌, ℕ, ◌*◌, Bool, true, false}
use Rattle.std.specs.Duration.{as_nanos}
use Rattle.txn_kv.specs.Backoff.{fresh}
use Rattle.txn_kv.specs.declared.backoff.Backoff.{Backoff}
use Rattle.txn_kv.specs.declared.backoff.BackoffKind.TheVariants as delays
use Rattle.txn_core.specs.declared.options.CheckLevel.TheVariants as levels
use Rattle.txn_core.specs.declared.options.HeartbeatOption.{HeartbeatOption}
use Rattle.txn_core.specs.declared.options.HeartbeatOption.TheVariants.{NoHeartbeat, FixedTime}
use Rattle.txn_core.specs.declared.options.TransactionKind.{TransactionKind}
use Rattle.txn_core.specs.declared.options.TransactionKind.TheVariants.{Optimistic, Pessimistic}
use Rattle.txn_core.specs.declared.options.TransactionOptions.{TransactionOptions}
use Rattle.txn_merge.specs.declared.retry_options.RetryOptions.{RetryOptions}

-- nothing is tried again
abbrev pub no_backoff : Backoff
no_backoff = fresh delays.None 0 0 0

-- ten times, after 2 to 500 milliseconds
abbrev pub usual_backoff : Backoff
usual_backoff = fresh delays.NoJitter 2 500 10

abbrev pub usual_retries : RetryOptions
usual_retries = record { region_backoff = usual_backoff; lock_backoff = usual_backoff }

abbrev pub is_pessimistic : TransactionKind → Bool
is_pessimistic Optimistic = false
is_pessimistic (Pessimistic for_update) = true

abbrev pub is_auto : HeartbeatOption → Bool
is_auto NoHeartbeat = false
is_auto (FixedTime interval) = true

-- a heartbeat goes each time that so many milliseconds have passed
abbrev pub beats : ℕ → HeartbeatOption → Type 0
beats ms NoHeartbeat = ⊥
beats ms (FixedTime interval) = as_nanos interval ≡ ms * 1_000_000

-- options that the user has not changed
pub record AreDefault (kind : TransactionKind) (retries : RetryOptions) (options : TransactionOptions) : Type 0 where
  pub kind_is : options.kind ≡ kind
  pub retries_are : options.retry_options ≡ retries
  pub two_phase : (options.async_commit ≡ false) × (options.try_one_pc ≡ false)
  pub writes : options.read_only ≡ false
  pub level : options.check_level ≡ levels.Panic
  pub heartbeat : beats 10_000 options.heartbeat_option
