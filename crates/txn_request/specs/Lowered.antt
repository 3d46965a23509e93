-- What the constructors over ranges and keys to lock make of them.
use Rattle.std.specs.Prelude.{ℕ, List, []}
use Rattle.txn_kv.specs.Ranges.{end_of, or_empty, start_of}
use Rattle.txn_kv.specs.declared.bound_range.BoundRange.{BoundRange}
use Rattle.txn_kv.specs.declared.message.Assertion.{Assertion}
use Rattle.txn_kv.specs.declared.message.Mutation.{Mutation}
use Rattle.txn_kv.specs.declared.message.Op.TheVariants as op

-- the first key of a range
abbrev pub start_key_of : BoundRange → List ℕ
start_key_of range = start_of range.from

-- the first key beyond a range, empty where there is none
abbrev pub end_key_of : BoundRange → List ℕ
end_key_of range = or_empty (end_of range.to)

-- a key to lock as a mutation
abbrev pub lock_mutation : {L : Type 0} → (L → List ℕ) → (L → Assertion) → L → Mutation
lock_mutation key_of assertion_of lock = record { op = op.PessimisticLock; key = key_of lock; value = []; assertion = assertion_of lock }
