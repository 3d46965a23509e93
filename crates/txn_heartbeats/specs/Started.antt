-- Which transactions have had their heartbeats, how one starts, and what becomes of one that is told of something.
use Rattle.std.specs.Prelude.{◌≡◌, ◌++◌, ◌-◌, ℕ, Bool, false, true, IfSome, List, length, map, Option, Some, None, Result, slice_index_or, slice_set}
use Rattle.std.proofs.Common.{zero, suc}
use Rattle.txn_core.specs.declared.heartbeat.Heartbeat.{Heartbeat}
use Rattle.txn_core.specs.declared.status.Status.{Status}
use Rattle.txn_heartbeat.specs.Beats.{HasHeard, Sleeps}
use Rattle.txn_heartbeat.specs.declared.heartbeat_job.HeartbeatJob.{HeartbeatJob}
use Rattle.txn_history.specs.Meaning.{Meaning}
use Rattle.txn_history.specs.Posted.{Posted}
use Rattle.txn_history.specs.Turn.{Turn as Ending}
use Rattle.txn_kv.specs.declared.errors.Error.{Error}
use Rattle.txn_kv.specs.declared.arrival.Arrival.{Arrival}
use Rattle.txn_kv.specs.declared.arrival.Arrival.TheVariants as arrivals
use Rattle.txn_side.specs.Sight.{Acts, Sight, next_at}
use Rattle.txn_lines.specs.declared.act.Act.{Act}
use Rattle.txn_lines.specs.declared.act.Act.TheVariants.{Commit}
use Rattle.txn_side.specs.declared.coming.Coming.{Coming}
use Rattle.txn_side.specs.declared.coming.Coming.TheVariants as coming
use Rattle.txn_side.specs.declared.turn.Turn.{Turn}
use Rattle.txn_heartbeats.specs.Beating.{postings_of}
use Rattle.txn_heartbeats.specs.Hearts.{beats_of, job_at, jobs_of, outbox_at}
use Rattle.txn_heartbeats.specs.declared.heartbeats.Heartbeats.{Heartbeats}

-- whether a heartbeat of the transaction of each line was started
abbrev pub starts_of : {S H : Type 0} → Heartbeats S H → List Bool
starts_of b = map (λ p. p.started) b.pulses.items

-- the line of the transaction that the heartbeat of each line keeps alive
abbrev pub transactions_of : {S H : Type 0} → Heartbeats S H → List ℕ
transactions_of b = map (λ p. p.transaction) b.pulses.items

-- A heartbeat of the transaction of a line was started. That of a line that is not there needs none.
abbrev pub was_started : List Bool → ℕ → Bool
was_started starts zero = true
was_started starts (suc i) = slice_index_or starts i true

-- the same, where one of the transaction of this line has started
abbrev pub with_started : ℕ → List Bool → List Bool
with_started zero starts = starts
with_started (suc i) starts = slice_set starts i true

abbrev pub transaction_at : List ℕ → ℕ → ℕ
transaction_at transactions zero = 0
transaction_at transactions (suc i) = slice_index_or transactions i 0

-- A heartbeat of a transaction starts at a line: its job sleeps for its interval, which is posted under the next ticket of the heartbeat
-- of that line, and nothing else is; and the transaction counts as one whose heartbeat was started.
pub record Starts {S H : Type 0} (line transaction : ℕ) (beat : Heartbeat) (old new : Heartbeats S H) (before after : Turn) : Type 0 where
  pub fresh : HeartbeatJob H
  pub job : HeartbeatJob H
  pub out : Posted
  pub ending : Ending (Result (Unit {0}) Error)
  pub heart : fresh.heartbeat ≡ beat
  pub kept : job.heartbeat ≡ beat
  pub sleeps : Sleeps fresh job (outbox_at line (next_at (beats_of old) line)) out ending
  pub posted : after.posted.items ≡ before.posted.items ++ postings_of line out.sends
  pub jobs : jobs_of new ≡ slice_set (jobs_of old) (line - 1) (Some job)
  pub transactions : transactions_of new ≡ slice_set (transactions_of old) (line - 1) transaction
  pub started : starts_of new ≡ with_started transaction (starts_of old)

-- nothing changes where the transaction needs no heartbeat, and else that starts
abbrev pub StartsAsNeeded : {S H : Type 0} → Option Heartbeat → ℕ → ℕ → Heartbeats S H → Heartbeats S H → Turn → Turn → Type 0
StartsAsNeeded None line transaction old new before after = (new ≡ old) × (after ≡ before)
StartsAsNeeded (Some beat) line transaction old new before after = Starts line transaction beat old new before after

-- what the heartbeat of the transaction needs, if it needs something, is as the clients say
pub record StartsAsLent {S H : Type 0} (heart : Option Heartbeat → Type 0) (line transaction : ℕ) (old new : Heartbeats S H) (before after : Turn) : Type 0 where
  pub needed : Option Heartbeat
  pub lent : heart needed
  pub done : StartsAsNeeded needed line transaction old new before after

abbrev pub is_commit : Act → Bool
is_commit Commit = true
is_commit _ = false

-- A commit of a transaction was begun in this line, and the clients have posted what it wants: behind that its heartbeat starts as they
-- say it needs one, unless one was started.
pub record BeginsBeat {S H : Type 0} (Posted : Turn → Type 0) (heart : Option Heartbeat → Type 0) (line transaction : ℕ) (old new : Heartbeats S H) (after : Turn) : Type 0 where
  pub before : Turn
  pub posted : Posted before
  pub ended : after.ended ≡ before.ended
  pub once : was_started (starts_of old) transaction ≡ true → (new ≡ old) × (after ≡ before)
  pub starts : was_started (starts_of old) transaction ≡ false → StartsAsLent heart line transaction old new before after

-- so it does where the newest line begins a commit of the transaction of line x
abbrev pub BeginsOnCommit : {S H : Type 0} → (S → Sight) → (S → ℕ → Option Heartbeat → Type 0) → Act → ℕ → Heartbeats S H → Heartbeats S H → Option Turn → Type 0
BeginsOnCommit sight heart act x old new turn =
    is_commit act ≡ true → IfSome turn (BeginsBeat (λ before. Acts act x (sight old.side) (sight new.side) (Some before)) (heart new.side x) (length (beats_of old)) x (record old { side = new.side }) new)

-- what comes under a number of a heartbeat, as its job is told of it
abbrev pub arrival_of : ℕ → Coming → Arrival
arrival_of n (coming.Reply o) = arrivals.Reply n o
arrival_of n coming.Lost = arrivals.Lost n
arrival_of n coming.Slept = arrivals.Slept n

-- The job of a line was told of something, while its transaction had come so far: what it is then stands there, and its errands are
-- posted under the tickets of the line's heartbeat.
pub record HasTold {S H A : Type 0} (m : Meaning H (Result A Error)) (line : ℕ) (arrival : Arrival) (status : Status) (now : ℕ) (job : HeartbeatJob H) (old new : Heartbeats S H) (turn : Turn) : Type 0 where
  pub after : HeartbeatJob H
  pub out : Posted
  pub ending : Ending (Result (Unit {0}) Error)
  pub heard : HasHeard m arrival status now job after (outbox_at line (next_at (beats_of old) line)) out ending
  pub jobs : jobs_of new ≡ slice_set (jobs_of old) (line - 1) (Some after)
  pub posted : turn.posted.items ≡ postings_of line out.sends

-- so it was, if it has one
abbrev pub TellsJob : {S H A : Type 0} → Meaning H (Result A Error) → (S → ℕ → Status) → ℕ → Arrival → ℕ → Heartbeats S H → Heartbeats S H → Turn → Type 0
TellsJob {S} {H} m status_at line arrival now old new turn =
    (job : HeartbeatJob H) → job_at (jobs_of old) line ≡ Some job → HasTold m line arrival (status_at old.side (transaction_at (transactions_of old) line)) now job old new turn
