-- The status of a transaction, as a reply tells it.
use Rattle.std.specs.Prelude.{◌==◌, ◌&&◌, ◌+◌, ◌/◌, ◌^◌, ℕ, ℤ, pos, negsuc, nat_le, Bool, true, false, Option, Some, None, Result, Ok, Err, if◌then◌else◌}
use Rattle.txn_kv.specs.Timestamp.{timestamp_of}
use Rattle.txn_kv.specs.declared.errors.Error.{Error}
use Rattle.txn_kv.specs.declared.errors.Error.TheVariants.{InternalError}
use Rattle.txn_kv.specs.declared.errors.Internal.TheVariants.{OddStatus}
use Rattle.txn_kv.specs.declared.message.Action.{Action}
use Rattle.txn_kv.specs.declared.message.Action.TheVariants.{NoAction, TtlExpireRollback, LockNotExistRollback, MinCommitTsPushed, TtlExpirePessimisticRollback, LockNotExistDoNothing}
use Rattle.txn_kv.specs.declared.message.LockInfo.{LockInfo}
use Rattle.txn_kv.specs.declared.reply.locks.CheckTxnStatusResponse.{CheckTxnStatusResponse}
use Rattle.txn_kv.specs.declared.timestamp.Timestamp.{Timestamp}
use Rattle.txn_merge.specs.declared.transaction_status.TransactionStatus.{TransactionStatus}
use Rattle.txn_merge.specs.declared.transaction_status.TransactionStatusKind.{TransactionStatusKind}
use Rattle.txn_merge.specs.declared.transaction_status.TransactionStatusKind.TheVariants.{Committed, RolledBack, Locked}

abbrev pub odd_status : Error
odd_status = InternalError OddStatus

-- from a commit version, a time to live, and a lock
abbrev pub kind_of : ℕ → ℕ → Option LockInfo → Result TransactionStatusKind Error
kind_of version ttl (Some lock) = if version == 0 then Ok (Locked ttl lock) else Err odd_status
kind_of version ttl None = if ttl == 0 then (if version == 0 then Ok RolledBack else Ok (Committed (timestamp_of version))) else Err odd_status

abbrev pub with_kind : Action → Result TransactionStatusKind Error → Result TransactionStatus Error
with_kind done (Ok kind) = Ok (record { kind = kind; action = done; is_expired = false })
with_kind done (Err error) = Err error

abbrev pub status_in : CheckTxnStatusResponse → Result TransactionStatus Error
status_in reply = with_kind reply.action (kind_of reply.commit_version reply.lock_ttl reply.lock_info)

-- the milliseconds of a timestamp are at least so many
abbrev pub has_reached : ℕ → ℤ → Bool
has_reached milliseconds (pos now) = nat_le milliseconds now
has_reached milliseconds (negsuc now) = false

-- the time to live of a lock has passed since its start
abbrev pub is_past : Timestamp → TransactionStatusKind → Bool
is_past now (Locked ttl lock) = has_reached (lock.lock_version / 2 ^ 18 + ttl) now.physical
is_past now (Committed at) = false
is_past now RolledBack = false

abbrev pub is_decided : Action → Bool
is_decided NoAction = true
is_decided LockNotExistRollback = true
is_decided TtlExpireRollback = true
is_decided MinCommitTsPushed = false
is_decided TtlExpirePessimisticRollback = false
is_decided LockNotExistDoNothing = false

abbrev pub is_certain : TransactionStatusKind → Action → Bool → Bool
is_certain RolledBack done expired = true
is_certain (Committed at) done expired = true
is_certain (Locked ttl lock) done expired = expired && is_decided done
