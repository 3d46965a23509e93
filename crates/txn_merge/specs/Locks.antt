-- The locks that stand in the way of a request, in its reply.
use Rattle.std.specs.Prelude.{◌≡◌, List, [], ◌∷◌, ◌++◌, Option, Some, None, map, filter, is_none}
use Rattle.std.specs.List.{filter_map, flat_map}
use Rattle.std.proofs.Common.{ap, refl, ◌∙◌}
use Rattle.txn_kv.specs.declared.message.KeyError.{KeyError}
use Rattle.txn_kv.specs.declared.message.KeyError.TheVariants.{Locked, Abort, WriteConflict, AlreadyExist, PessimisticLockNotFound, TxnLockNotFound, CommitTsExpired, TxnNotFound, PrimaryMismatch}
use Rattle.txn_kv.specs.declared.message.LockInfo.{LockInfo}
use Rattle.txn_kv.specs.declared.message.PbPair.{PbPair}

-- the lock that an error at a key is for
abbrev pub lock_in : KeyError → Option LockInfo
lock_in (Locked lock) = Some lock
lock_in (Abort key start commit) = None
lock_in (WriteConflict key start commit) = None
lock_in (AlreadyExist key) = None
lock_in (PessimisticLockNotFound key) = None
lock_in (TxnLockNotFound key) = None
lock_in (CommitTsExpired key bound) = None
lock_in (TxnNotFound key start) = None
lock_in (PrimaryMismatch lock) = None

abbrev pub listed : Option LockInfo → List LockInfo
listed None = []
listed (Some lock) = lock ∷ []

-- one error, if there is one

abbrev pub locks_of_error : Option KeyError → List LockInfo
locks_of_error None = []
locks_of_error (Some error) = listed (lock_in error)

abbrev pub unless_lock : Option LockInfo → KeyError → Option KeyError
unless_lock None error = Some error
unless_lock (Some lock) error = None

-- the error, but for that of a lock
abbrev pub without_lock : Option KeyError → Option KeyError
without_lock None = None
without_lock (Some error) = unless_lock (lock_in error) error

-- errors in a list

abbrev pub locks_of_errors : List KeyError → List LockInfo
locks_of_errors = filter_map lock_in

abbrev pub without_locks : List KeyError → List KeyError
without_locks = filter (λ error. is_none (lock_in error))

-- pairs, and the error of a reply that has no pair

abbrev pub locks_of_pairs : List PbPair → List LockInfo
locks_of_pairs = flat_map (λ pair. locks_of_error pair.error)

abbrev pub without_pair_lock : PbPair → PbPair
without_pair_lock pair = record pair { error = without_lock pair.error }

abbrev pub locks_of_pairs_or : List PbPair → Option KeyError → List LockInfo
locks_of_pairs_or [] error = locks_of_error error
locks_of_pairs_or (pair ∷ pairs) error = locks_of_pairs (pair ∷ pairs)

abbrev pub error_beside : List PbPair → Option KeyError → Option KeyError
error_beside [] error = without_lock error
error_beside (pair ∷ pairs) error = error

-- Where there is no lock, all is left.

pub unless_lock-none : (lock : Option LockInfo) (error : KeyError) → listed lock ≡ [] → unless_lock lock error ≡ Some error
unless_lock-none None error none = refl
unless_lock-none (Some lock) error none = cc

pub without_lock-none : (error : Option KeyError) → locks_of_error error ≡ [] → without_lock error ≡ error
without_lock-none None none = refl
without_lock-none (Some error) none = unless_lock-none (lock_in error) error none

pub both_empty : {A : Type 0} (xs ys : List A) → xs ++ ys ≡ [] → (xs ≡ []) × (ys ≡ [])
both_empty [] ys none = (refl, none)
both_empty (x ∷ xs) ys none = cc

pub without_locks-none : (errors : List KeyError) → locks_of_errors errors ≡ [] → without_locks errors ≡ errors
without_locks-none [] none = refl
without_locks-none (Locked lock ∷ errors) none = cc
without_locks-none (Abort key start commit ∷ errors) none = ap (λ es. Abort key start commit ∷ es) (without_locks-none errors none)
without_locks-none (WriteConflict key start commit ∷ errors) none = ap (λ es. WriteConflict key start commit ∷ es) (without_locks-none errors none)
without_locks-none (AlreadyExist key ∷ errors) none = ap (λ es. AlreadyExist key ∷ es) (without_locks-none errors none)
without_locks-none (PessimisticLockNotFound key ∷ errors) none = ap (λ es. PessimisticLockNotFound key ∷ es) (without_locks-none errors none)
without_locks-none (TxnLockNotFound key ∷ errors) none = ap (λ es. TxnLockNotFound key ∷ es) (without_locks-none errors none)
without_locks-none (CommitTsExpired key bound ∷ errors) none = ap (λ es. CommitTsExpired key bound ∷ es) (without_locks-none errors none)
without_locks-none (TxnNotFound key start ∷ errors) none = ap (λ es. TxnNotFound key start ∷ es) (without_locks-none errors none)
without_locks-none (PrimaryMismatch lock ∷ errors) none = ap (λ es. PrimaryMismatch lock ∷ es) (without_locks-none errors none)

pub without_pair_locks-none : (pairs : List PbPair) → locks_of_pairs pairs ≡ [] → map without_pair_lock pairs ≡ pairs
without_pair_locks-none [] none = refl
without_pair_locks-none (pair ∷ pairs) none =
    let both = both_empty (locks_of_error pair.error) (locks_of_pairs pairs) none in
    ap (λ error. record pair { error = error } ∷ map without_pair_lock pairs) (without_lock-none pair.error both.0)
    ∙ ap (λ rest. pair ∷ rest) (without_pair_locks-none pairs both.1)

pub beside-none : (pairs : List PbPair) (error : Option KeyError) → locks_of_pairs_or pairs error ≡ [] → error_beside pairs error ≡ error
beside-none [] error none = without_lock-none error none
beside-none (pair ∷ pairs) error none = refl

pub pairs_or-none : (pairs : List PbPair) (error : Option KeyError) → locks_of_pairs_or pairs error ≡ [] → map without_pair_lock pairs ≡ pairs
pairs_or-none [] error none = refl
pairs_or-none (pair ∷ pairs) error none = without_pair_locks-none (pair ∷ pairs) none
