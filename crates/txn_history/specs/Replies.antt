-- What a reply tells: that there was no error, a timestamp, the locks that it shows.
use Rattle.std.specs.Prelude.{◌≡◌, ◌⊎◌, ℕ, ◌+◌, ◌<◌, ◌≤◌, List, [], Option, Some, None}
use Rattle.txn_kv.specs.Timestamp.{version_of}
use Rattle.txn_kv.specs.declared.timestamp.Timestamp.{Timestamp}
use Rattle.txn_kv.specs.declared.message.KeyError.{KeyError}
use Rattle.txn_kv.specs.declared.message.KeyError.TheVariants as refused
use Rattle.txn_kv.specs.declared.message.LockInfo.{LockInfo}
use Rattle.txn_kv.specs.declared.message.PbPair.{PbPair}
use Rattle.txn_kv.specs.declared.reply.Reply.{Reply}
use Rattle.txn_kv.specs.declared.reply.Reply.TheVariants as reply
use Rattle.txn_kv.specs.declared.reply.cluster.TsoResponse.{TsoResponse}
use Rattle.txn_history.specs.Among.{IsAmong}

-- a reply without error
abbrev pub IsWithoutError : Reply → Type 0
IsWithoutError (reply.Get o) = (o.region_error ≡ None) × (o.error ≡ None)
IsWithoutError (reply.BatchGet o) = (o.region_error ≡ None) × (o.error ≡ None) × ((p : PbPair) → IsAmong o.pairs p → p.error ≡ None)
IsWithoutError (reply.Scan o) = (o.region_error ≡ None) × (o.error ≡ None) × ((p : PbPair) → IsAmong o.pairs p → p.error ≡ None)
IsWithoutError (reply.Prewrite o) = (o.region_error ≡ None) × (o.errors ≡ [])
IsWithoutError (reply.Commit o) = (o.region_error ≡ None) × (o.error ≡ None)
IsWithoutError (reply.Cleanup o) = (o.region_error ≡ None) × (o.error ≡ None)
IsWithoutError (reply.BatchRollback o) = (o.region_error ≡ None) × (o.error ≡ None)
IsWithoutError (reply.PessimisticRollback o) = (o.region_error ≡ None) × (o.errors ≡ [])
IsWithoutError (reply.PessimisticLock o) = (o.region_error ≡ None) × (o.errors ≡ [])
IsWithoutError (reply.ResolveLock o) = (o.region_error ≡ None) × (o.error ≡ None)
IsWithoutError (reply.ScanLock o) = (o.region_error ≡ None) × (o.error ≡ None)
IsWithoutError (reply.TxnHeartBeat o) = (o.region_error ≡ None) × (o.error ≡ None)
IsWithoutError (reply.CheckTxnStatus o) = (o.region_error ≡ None) × (o.error ≡ None)
IsWithoutError (reply.CheckSecondaryLocks o) = (o.region_error ≡ None) × (o.error ≡ None)
IsWithoutError (reply.UnsafeDestroyRange o) = (o.region_error ≡ None) × (o.error ≡ [])
IsWithoutError _ = Unit {0}

-- a timestamp is one of those that the oracle gave
abbrev pub GivesTimestamp : TsoResponse → ℕ → Type 0
GivesTimestamp o c = (t : Timestamp) × (o.timestamp ≡ Some t) × (c ≤ version_of t) × (version_of t < c + o.count)

-- a reply shows a lock: as the reason of a refusal, or as what was asked for
abbrev pub ErrorShows : Option KeyError → LockInfo → Type 0
ErrorShows (Some (refused.Locked x)) l = x ≡ l
ErrorShows (Some (refused.PrimaryMismatch x)) l = x ≡ l
ErrorShows _ l = ⊥

abbrev pub PairsShow : List PbPair → LockInfo → Type 0
PairsShow ps l = (p : PbPair) × IsAmong ps p × ErrorShows p.error l

abbrev pub ErrorsShow : List KeyError → LockInfo → Type 0
ErrorsShow es l = (e : KeyError) × IsAmong es e × ErrorShows (Some e) l

abbrev pub ShowsLock : Reply → LockInfo → Type 0
ShowsLock (reply.Get o) l = ErrorShows o.error l
ShowsLock (reply.BatchGet o) l = PairsShow o.pairs l
ShowsLock (reply.Scan o) l = PairsShow o.pairs l
ShowsLock (reply.Prewrite o) l = ErrorsShow o.errors l
ShowsLock (reply.Commit o) l = ErrorShows o.error l
ShowsLock (reply.Cleanup o) l = ErrorShows o.error l
ShowsLock (reply.BatchRollback o) l = ErrorShows o.error l
ShowsLock (reply.PessimisticRollback o) l = ErrorsShow o.errors l
ShowsLock (reply.PessimisticLock o) l = ErrorsShow o.errors l
ShowsLock (reply.ScanLock o) l = IsAmong o.locks l
ShowsLock (reply.TxnHeartBeat o) l = ErrorShows o.error l
ShowsLock (reply.CheckTxnStatus o) l = (o.lock_info ≡ Some l) ⊎ ErrorShows o.error l
ShowsLock (reply.CheckSecondaryLocks o) l = IsAmong o.locks l
ShowsLock _ l = ⊥
