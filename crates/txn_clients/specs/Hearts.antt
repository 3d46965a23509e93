-- What clients tell of the heartbeats of their transactions.
use Rattle.std.specs.Prelude.{◌≡◌, ℕ, List, Option, None, IfSome, is_some}
use Rattle.std.proofs.Common.{zero, suc}
use Rattle.txn_core.specs.Heartbeats.{IsHeartbeatOf, has_heartbeat}
use Rattle.txn_core.specs.declared.heartbeat.Heartbeat.{Heartbeat}
use Rattle.txn_core.specs.declared.status.Status.{Status}
use Rattle.txn_core.specs.declared.status.Status.TheVariants.{Dropped}
use Rattle.txn_clients.specs.Clients.{row_at}
use Rattle.txn_clients.specs.declared.row.Row.{Row}
use Rattle.txn_clients.specs.declared.row.Row.TheVariants as row

-- This is the heartbeat of the transaction of a row: there is one exactly where a commit of it is open that locks some key, and it was
-- begun with heartbeats. No other row has one.
abbrev pub HeartIn : {P : Type 0} → Row P → Option Heartbeat → Type 0
HeartIn (row.Begun c t m) beat = (is_some beat ≡ has_heartbeat t) × IfSome beat (IsHeartbeatOf t)
HeartIn _ beat = beat ≡ None

-- the same, of the transaction of a line
abbrev pub HeartOf : {P : Type 0} → List (Row P) → ℕ → Option Heartbeat → Type 0
HeartOf rows zero beat = beat ≡ None
HeartOf rows (suc i) beat = HeartIn (row_at rows i) beat

-- How far the transaction of a row has come. Of any other row it counts as let go.
abbrev pub status_in : {P : Type 0} → Row P → Status
status_in (row.Begun c t m) = t.status
status_in _ = Dropped

-- the same, of the transaction of a line
abbrev pub status_of : {P : Type 0} → List (Row P) → ℕ → Status
status_of rows zero = Dropped
status_of rows (suc i) = status_in (row_at rows i)
