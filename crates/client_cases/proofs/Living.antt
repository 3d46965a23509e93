-- A heartbeat's job may be told of something after any call.
use Rattle.std.proofs.Common.{◌≡◌, refl, subst, sym}
use Rattle.std.specs.Prelude.{OnOk, Result, Ok, Err}
use Rattle.txn_history.specs.Meaning.{Meaning}
use Rattle.txn_history.specs.Posted.{Posted}
use Rattle.txn_history.specs.Turn.{turn_of}
use Rattle.txn_kv.specs.Timestamp.{HasVersion, version_of}
use Rattle.txn_kv.specs.declared.errors.Error.{Error}
use Rattle.txn_kv.specs.declared.memory.NoMemory.{NoMemory}
use Rattle.txn_kv.specs.declared.progress.Progress.{Progress}
use Rattle.txn_heartbeat.specs.Beats.{GivesUp, IsAlive, StageLives}
use Rattle.txn_heartbeat.specs.declared.heartbeat_job.HeartbeatJob.{HeartbeatJob}

module _ {S A : Type 0} (m : Meaning S (Result A Error)) where
  -- one that gave up for want of memory waits for nothing
  pub stays_alive : (result : Result (Progress (Unit {0})) NoMemory) (old new : HeartbeatJob S) (from to : Posted)
      → IsAlive m old from → new.heartbeat ≡ old.heartbeat → GivesUp old new from to (turn_of result)
      → OnOk result (IsAlive m new to) → IsAlive m new to
  stays_alive (Ok progress) old new from to alive kept gives_up after = after
  stays_alive (Err e) old new from to alive kept gives_up after = record {
    start = subst (λ h. HasVersion h.start) (sym kept) alive.start;
    stage = subst (λ s. StageLives m new.heartbeat.primary (version_of new.heartbeat.start) s to) (sym (gives_up.stops refl)) tt;
  }
