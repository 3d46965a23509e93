-- Which locks have outlived their time.
use Rattle.std.specs.Prelude.{◌≡◌, ◌+◌, ◌/◌, ◌^◌, ◌++◌, ◌∷◌, [], not, Bool, true, false, List}
use Rattle.txn_kv.specs.declared.message.LockInfo.{LockInfo}
use Rattle.txn_kv.specs.declared.timestamp.Timestamp.{Timestamp}
use Rattle.txn_merge.specs.Status.{has_reached}
use Rattle.txn_settle.specs.declared.expiry.PartedLocks.{PartedLocks}

-- the time to live of the lock has passed since its start
abbrev pub is_expired : Timestamp → LockInfo → Bool
is_expired now lock = has_reached (lock.lock_version / 2 ^ 18 + lock.lock_ttl) now.physical

-- the lock, if the test holds of it
abbrev pub if_so : Bool → LockInfo → List LockInfo
if_so true lock = lock ∷ []
if_so false lock = []

-- the lock was put to those of its kind
pub record IsPut (now : Timestamp) (lock : LockInfo) (old new : PartedLocks) : Type 0 where
  pub expired : new.expired.items ≡ old.expired.items ++ if_so (is_expired now lock) lock
  pub live : new.live.items ≡ old.live.items ++ if_so (not (is_expired now lock)) lock
