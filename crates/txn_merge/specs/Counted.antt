-- The locks that are taken out of a reply are among those that its plan is charged for.
use Rattle.std.specs.Prelude.{◌≡◌, ◌≤◌, List, [], ◌∷◌, length, Option, Some, None}
use Rattle.std.proofs.Common.{arith, refl, ap, length-append}
use Rattle.txn_kv.specs.declared.message.KeyError.{KeyError}
use Rattle.txn_kv.specs.declared.message.KeyError.TheVariants.{Locked, Abort, WriteConflict, AlreadyExist, PessimisticLockNotFound, TxnLockNotFound, CommitTsExpired, TxnNotFound, PrimaryMismatch}
use Rattle.txn_kv.specs.declared.message.LockInfo.{LockInfo}
use Rattle.txn_kv.specs.declared.message.PbPair.{PbPair}
use Rattle.txn_kv.specs.declared.reply.Reply.{Reply}
use Rattle.txn_kv.specs.declared.reply.Reply.TheVariants as reply
use Rattle.txn_history.specs.Spends as spends
use Rattle.txn_merge.specs.Locks.{locks_of_error, locks_of_errors, locks_of_pairs, locks_of_pairs_or}

-- what `take_locks` takes of a reply
abbrev pub locks_taken : Reply → List LockInfo
locks_taken (reply.Get o) = locks_of_error o.error
locks_taken (reply.BatchGet o) = locks_of_pairs_or o.pairs o.error
locks_taken (reply.Scan o) = locks_of_pairs_or o.pairs o.error
locks_taken (reply.Prewrite o) = locks_of_errors o.errors
locks_taken (reply.Commit o) = locks_of_error o.error
locks_taken (reply.BatchRollback o) = locks_of_error o.error
locks_taken (reply.PessimisticRollback o) = locks_of_errors o.errors
locks_taken (reply.PessimisticLock o) = locks_of_errors o.errors
locks_taken (reply.ResolveLock o) = locks_of_error o.error
locks_taken (reply.ScanLock o) = o.locks
locks_taken (reply.TxnHeartBeat o) = locks_of_error o.error
locks_taken (reply.CheckTxnStatus o) = locks_of_error o.error
locks_taken (reply.CheckSecondaryLocks o) = locks_of_error o.error
locks_taken _ = []

pub error_charged : (error : Option KeyError) → length (locks_of_error error) ≤ length (spends.lock_of error)
error_charged None = omega arith
error_charged (Some (Locked lock)) = omega arith
error_charged (Some (Abort key start commit)) = omega arith
error_charged (Some (WriteConflict key start commit)) = omega arith
error_charged (Some (AlreadyExist key)) = omega arith
error_charged (Some (PessimisticLockNotFound key)) = omega arith
error_charged (Some (TxnLockNotFound key)) = omega arith
error_charged (Some (CommitTsExpired key bound)) = omega arith
error_charged (Some (TxnNotFound key start)) = omega arith
error_charged (Some (PrimaryMismatch lock)) = omega arith

pub errors_charged : (errors : List KeyError) → length (locks_of_errors errors) ≤ length (spends.locks_of_errors errors)
errors_charged [] = omega arith
errors_charged (Locked lock ∷ errors) = omega (arith, errors_charged errors)
errors_charged (Abort key start commit ∷ errors) = errors_charged errors
errors_charged (WriteConflict key start commit ∷ errors) = errors_charged errors
errors_charged (AlreadyExist key ∷ errors) = errors_charged errors
errors_charged (PessimisticLockNotFound key ∷ errors) = errors_charged errors
errors_charged (TxnLockNotFound key ∷ errors) = errors_charged errors
errors_charged (CommitTsExpired key bound ∷ errors) = errors_charged errors
errors_charged (TxnNotFound key start ∷ errors) = errors_charged errors
errors_charged (PrimaryMismatch lock ∷ errors) = omega (arith, errors_charged errors)

pub pairs_charged : (pairs : List PbPair) → length (locks_of_pairs pairs) ≤ length (spends.locks_of_pairs pairs)
pairs_charged [] = omega arith
pairs_charged (pair ∷ pairs) =
    omega (arith, error_charged pair.error, pairs_charged pairs, length-append (locks_of_error pair.error) (locks_of_pairs pairs), length-append (spends.lock_of pair.error) (spends.locks_of_pairs pairs))

-- A reply of pairs is charged for its pairs alone; the error beside them is none where a store answers it by the table.
pub pairs_or_charged : (pairs : List PbPair) (error : Option KeyError) → (pairs ≡ [] → locks_of_error error ≡ []) → length (locks_of_pairs_or pairs error) ≤ length (spends.locks_of_pairs pairs)
pairs_or_charged [] error alone = omega (arith, ap length (alone refl))
pairs_or_charged (pair ∷ pairs) error alone = pairs_charged (pair ∷ pairs)

-- The replies whose locks are charged whatever they say, and of the others those of which no lock is taken.
abbrev pub IsCharged : Reply → Type 0
IsCharged (reply.Get o) = Unit {0}
IsCharged (reply.Prewrite o) = Unit {0}
IsCharged (reply.PessimisticLock o) = Unit {0}
IsCharged (reply.ScanLock o) = Unit {0}
IsCharged (reply.CheckTxnStatus o) = Unit {0}
IsCharged (reply.BatchGet o) = o.pairs ≡ [] → locks_of_error o.error ≡ []
IsCharged (reply.Scan o) = o.pairs ≡ [] → locks_of_error o.error ≡ []
IsCharged r = locks_taken r ≡ []

pub locks_charged : (r : Reply) → IsCharged r → length (locks_taken r) ≤ length (spends.locks_in r)
locks_charged (reply.Get o) is = error_charged o.error
locks_charged (reply.BatchGet o) is = pairs_or_charged o.pairs o.error is
locks_charged (reply.Scan o) is = pairs_or_charged o.pairs o.error is
locks_charged (reply.Prewrite o) is = errors_charged o.errors
locks_charged (reply.PessimisticLock o) is = errors_charged o.errors
locks_charged (reply.ScanLock o) is = omega arith
locks_charged (reply.CheckTxnStatus o) is = omega (arith, error_charged o.error, length-append (spends.listed o.lock_info) (spends.lock_of o.error))
locks_charged (reply.Commit o) is = omega (arith, ap length is)
locks_charged (reply.Cleanup o) is = omega arith
locks_charged (reply.BatchRollback o) is = omega (arith, ap length is)
locks_charged (reply.PessimisticRollback o) is = omega (arith, ap length is)
locks_charged (reply.ResolveLock o) is = omega (arith, ap length is)
locks_charged (reply.TxnHeartBeat o) is = omega (arith, ap length is)
locks_charged (reply.CheckSecondaryLocks o) is = omega (arith, ap length is)
locks_charged (reply.UnsafeDestroyRange o) is = omega arith
locks_charged (reply.GetRegion o) is = omega arith
locks_charged (reply.GetRegionById o) is = omega arith
locks_charged (reply.GetStore o) is = omega arith
locks_charged (reply.GetAllStores o) is = omega arith
locks_charged (reply.UpdateGcSafePoint o) is = omega arith
locks_charged (reply.Tso o) is = omega arith
locks_charged (reply.Members o) is = omega arith
