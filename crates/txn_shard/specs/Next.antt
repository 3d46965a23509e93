-- Where a scan of locks goes on.
use Rattle.std.specs.Prelude.{ℕ, ◌-◌, List, [], length, slice_get, Option}
use Rattle.std.specs.Option.{option_map}
use Rattle.txn_kv.specs.Ranges.{next_key}
use Rattle.txn_kv.specs.declared.message.LockInfo.{LockInfo}

abbrev pub Key : Type 0
Key = List ℕ

abbrev pub last_of : List LockInfo → Option LockInfo
last_of locks = slice_get locks (length locks - 1)

-- behind the last of these locks, without an end, if there is one
abbrev pub next_range : List LockInfo → Option (Key × Key)
next_range locks = option_map (λ lock. (next_key lock.key, [])) (last_of locks)
