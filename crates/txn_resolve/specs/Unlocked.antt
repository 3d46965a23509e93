-- A plan whose reply gives way to the locks that it carries.
use Rattle.std.specs.Prelude.{◌≡◌, ◌≢◌, ◌⊎◌, ⊤, Bool, false, List, [], Result, Ok, Err}
use Rattle.txn_history.specs.Around.{around, around-lawful}
use Rattle.txn_history.specs.Meaning.{IsLawful, Meaning}
use Rattle.txn_kv.specs.declared.errors.Error.{Error}
use Rattle.txn_kv.specs.declared.errors.Error.TheVariants.{OutOfMemory, ResolveLockError}
use Rattle.txn_kv.specs.declared.message.LockInfo.{LockInfo}
use Rattle.txn_resolve.specs.declared.resolve_lock.ResolveLock.{ResolveLock}

-- the error that names these locks
abbrev pub IsRefusedFor : List LockInfo → Error → Type 0
IsRefusedFor found (ResolveLockError named) = named.items ≡ found
IsRefusedFor found _ = ⊥

-- the reply, or all its locks where it carries some
abbrev pub LocksOr : {A : Type 0} → List LockInfo → A → Result A Error → Type 0
LocksOr found reply (Ok out) = (found ≡ []) × (out ≡ reply)
LocksOr found reply (Err error) = (found ≢ []) × IsRefusedFor found error

-- the same of what a plan answered, but for want of memory; an error stays as it is
abbrev pub IsUnlocked : {A : Type 0} → (A → List LockInfo) → Result A Error → Result A Error → Type 0
IsUnlocked locks_in (Ok reply) b = (b ≡ Err OutOfMemory) ⊎ LocksOr (locks_in reply) reply b
IsUnlocked locks_in (Err error) b = b ≡ Err error

abbrev pub error_fails : {A : Type 0} → (Result A Error → Bool) → Error → Bool
error_fails fails OutOfMemory = false
error_fails fails (ResolveLockError named) = false
error_fails fails error = fails (Err error)

-- its answer is tried again where the plan's would be, and is not for locks
abbrev pub unlocked_fails : {A : Type 0} → (Result A Error → Bool) → Result A Error → Bool
unlocked_fails fails (Ok reply) = fails (Ok reply)
unlocked_fails fails (Err error) = error_fails fails error

abbrev pub unlocked : {S A : Type 0} → Meaning S (Result A Error) → (A → List LockInfo) → Meaning (ResolveLock S A) (Result A Error)
unlocked m locks_in = around m (λ s. s.inner) (λ s. IsUnlocked locks_in) (λ s. ⊤) (unlocked_fails m.fails)

pub unlocked-lawful : {S A : Type 0} (m : Meaning S (Result A Error)) (locks_in : A → List LockInfo) → IsLawful m → IsLawful (unlocked m locks_in)
unlocked-lawful m locks_in = around-lawful m (λ s. s.inner) (λ s. IsUnlocked locks_in) (λ s. ⊤) (unlocked_fails m.fails)
