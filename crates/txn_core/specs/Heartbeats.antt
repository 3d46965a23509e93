-- What the heartbeat of a transaction needs, and when there is one.
use Rattle.std.specs.Prelude.{◌≡◌, ◌/◌, ℕ, Bool, true, false, ◌&&◌, Some, is_some}
use Rattle.std.specs.Duration.{as_nanos}
use Rattle.txn_kv.specs.Backoff.{saturated}
use Rattle.txn_buffer.specs.Contents.{commit_primary}
use Rattle.txn_core.specs.Options.{is_auto}
use Rattle.txn_core.specs.Transaction.{Standing, is_open}
use Rattle.txn_core.specs.declared.heartbeat.Heartbeat.{Heartbeat}
use Rattle.txn_core.specs.declared.options.HeartbeatOption.{HeartbeatOption}
use Rattle.txn_core.specs.declared.options.HeartbeatOption.TheVariants.{NoHeartbeat, FixedTime}
use Rattle.txn_core.specs.declared.status.Status.{Status}
use Rattle.txn_core.specs.declared.status.Status.TheVariants.{ReadOnly, Active, Committed, StartedCommit, Rolledback, StartedRollback, Dropped}

-- whole milliseconds of so many nanoseconds, at most the greatest number
abbrev pub in_millis : ℕ → ℕ
in_millis nanos = saturated (nanos / 1_000_000)

-- a commit was begun, and neither came to its end nor was followed by a rollback
abbrev pub commits : Status → Bool
commits ReadOnly = false
commits Active = false
commits Committed = false
commits StartedCommit = true
commits Rolledback = false
commits StartedRollback = false
commits Dropped = false

-- a commit of it is open, which locks some key, and heartbeats go by themselves
abbrev pub has_heartbeat : {P : Type 0} → Standing P → Bool
has_heartbeat t = is_open t.work && (commits t.status && (is_auto t.options.heartbeat_option && is_some (commit_primary t.contents)))

abbrev pub IsInterval : ℕ → HeartbeatOption → Type 0
IsInterval ms NoHeartbeat = ⊥
IsInterval ms (FixedTime interval) = ms ≡ in_millis (as_nanos interval)

-- it is of this transaction
pub record IsHeartbeatOf {P : Type 0} (t : Standing P) (beat : Heartbeat) : Type 0 where
  pub start : beat.start ≡ t.start
  pub primary : commit_primary t.contents ≡ Some beat.primary
  pub began : beat.began ≡ t.began
  pub interval : IsInterval beat.interval t.options.heartbeat_option
  pub backoff : beat.backoff ≡ t.options.retry_options.region_backoff
