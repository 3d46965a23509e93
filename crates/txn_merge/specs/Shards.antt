-- The values that pessimistic locks give, beside the keys of their shards.
use Rattle.std.specs.Prelude.{◌≡◌, ◌==◌, ◌||◌, ℕ, nat_lt, Bool, true, false, not, List, [], ◌∷◌, length, map, filter, Option, Some, None, Result, Ok, Err, if◌then◌else◌}
use Rattle.std.specs.List.{filter_map, flat_map}
use Rattle.std.specs.Global.{Vec}
use Rattle.txn_kv.specs.declared.errors.Error.{Error}
use Rattle.txn_kv.specs.ErrorView.{pessimistic, view_of}
use Rattle.txn_kv.specs.declared.kvpair.KvPair.{KvPair}
use Rattle.txn_kv.specs.declared.message.Mutation.{Mutation}
use Rattle.txn_kv.specs.declared.reply.locks.PessimisticLockResponse.{PessimisticLockResponse}
use Rattle.txn_merge.specs.Gathered.{errors_of, first, shape, values_of}
use Rattle.txn_merge.specs.declared.response_with_shard.ResponseWithShard.{ResponseWithShard}

abbrev pub Locked : Type 0
Locked = ResponseWithShard PessimisticLockResponse (List Mutation)

abbrev pub keys_of : Locked → List (List ℕ)
keys_of shard = map (λ mutation. mutation.key) shard.1

-- the first keys, each beside its value
abbrev pub paired : List (List ℕ) → List (List ℕ) → List KvPair
paired keys [] = []
paired [] (value ∷ values) = []
paired (key ∷ keys) (value ∷ values) = (record { 0 = key; 1 = value }) ∷ paired keys values

-- the pairs whose flag is false
abbrev pub unflagged : List KvPair → List Bool → List KvPair
unflagged [] flags = []
unflagged (pair ∷ pairs) [] = []
unflagged (pair ∷ pairs) (true ∷ flags) = unflagged pairs flags
unflagged (pair ∷ pairs) (false ∷ flags) = pair ∷ unflagged pairs flags

-- Without flags, a value that is empty is none.
abbrev pub found_of : List (List ℕ) → List (List ℕ) → List Bool → List KvPair
found_of keys values [] = filter (λ pair. not (length pair.1 == 0)) (paired keys values)
found_of keys values (flag ∷ flags) = unflagged (paired keys values) (flag ∷ flags)

abbrev pub pairs_of : Locked → List KvPair
pairs_of shard = found_of (keys_of shard) shard.0.values shard.0.not_founds

-- more values than keys, or flags of another number than the values
abbrev pub misfit_of : ℕ → ℕ → ℕ → Option Error
misfit_of keys values flags =
    if nat_lt keys values then Some (shape keys values)
    else if (flags == 0) || (flags == values) then None
    else Some (shape values flags)

abbrev pub misfit : Locked → Option Error
misfit shard = misfit_of (length shard.1) (length shard.0.values) (length shard.0.not_founds)

abbrev pub last_or : {A : Type 0} → Option A → List A → Option A
last_or before [] = before
last_or before (x ∷ xs) = last_or (Some x) xs

-- a pessimistic lock that failed with `inner`, and succeeded at the keys
abbrev pub IsLockError : Error → List (List ℕ) → Error → Type 0
IsLockError inner keys error = view_of error ≡ pessimistic (view_of inner) keys

abbrev pub Collected : List Locked → Result (Vec KvPair) Error → Type 0
Collected shards (Ok pairs) = (filter_map misfit shards ≡ []) × (pairs.items ≡ flat_map pairs_of shards)
Collected shards (Err error) = first (filter_map misfit shards) ≡ Some error

abbrev pub LastErrorOr : Option Error → List Locked → Result (Vec KvPair) Error → Type 0
LastErrorOr None shards result = Collected shards result
LastErrorOr (Some inner) shards (Ok pairs) = ⊥
LastErrorOr (Some inner) shards (Err error) = IsLockError inner (flat_map keys_of shards) error

-- A shard that failed makes all fail, with the last error in their order.
abbrev pub IsCollected : List (Result Locked Error) → Result (Vec KvPair) Error → Type 0
IsCollected results result = LastErrorOr (last_or None (errors_of results)) (values_of results) result
