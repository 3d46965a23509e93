-- What the stores say of the secondary locks of a transaction, taken together.
use Rattle.std.specs.Prelude.{◌≡◌, ◌==◌, ◌&&◌, ◌||◌, ℕ, max, Bool, false, not, List, [], ◌∷◌, map, Option, Some, None, Result, Ok, Err, if◌then◌else◌}
use Rattle.std.specs.List.{list_any}
use Rattle.txn_kv.specs.Timestamp.{timestamp_of}
use Rattle.txn_kv.specs.declared.errors.Error.{Error}
use Rattle.txn_kv.specs.declared.message.LockInfo.{LockInfo}
use Rattle.txn_kv.specs.declared.reply.locks.CheckSecondaryLocksResponse.{CheckSecondaryLocksResponse}
use Rattle.txn_kv.specs.declared.timestamp.Timestamp.{Timestamp}
use Rattle.txn_merge.specs.Gathered.{shape, values_of}
use Rattle.txn_merge.specs.declared.secondary_locks_status.SecondaryLocksStatus.{SecondaryLocksStatus}
use Rattle.txn_merge.specs.declared.secondary_locks_status.Seen.{Seen}

abbrev pub greatest : List ℕ → ℕ
greatest [] = 0
greatest (n ∷ ns) = max n (greatest ns)

abbrev pub bounds : List LockInfo → List ℕ
bounds = map (λ lock. lock.min_commit_ts)

abbrev pub any_plain : List LockInfo → Bool
any_plain = list_any (λ lock. not lock.use_async_commit)

-- 0 names no commit
abbrev pub first_named : List CheckSecondaryLocksResponse → ℕ
first_named [] = 0
first_named (reply ∷ replies) = if reply.commit_ts == 0 then first_named replies else reply.commit_ts

abbrev pub named_timestamp : ℕ → Option Timestamp
named_timestamp version = if version == 0 then None else Some (timestamp_of version)

abbrev pub status_of : List CheckSecondaryLocksResponse → SecondaryLocksStatus
status_of replies = record {
  commit_ts = named_timestamp (first_named replies);
  min_commit_ts = greatest (map (λ reply. greatest (bounds reply.locks)) replies);
  fallback_2pc = list_any (λ reply. any_plain reply.locks) replies;
  missing = list_any (λ reply. reply.missing) replies;
}

-- what one more reply adds to what was seen before

abbrev pub nothing_seen : Seen
nothing_seen = record { commit = 0; min_commit_ts = 0; fallback_2pc = false; missing = false }

abbrev pub after_reply : Seen → CheckSecondaryLocksResponse → Seen
after_reply seen reply = record {
  commit = if seen.commit == 0 then reply.commit_ts else seen.commit;
  min_commit_ts = max seen.min_commit_ts (greatest (bounds reply.locks));
  fallback_2pc = seen.fallback_2pc || any_plain reply.locks;
  missing = seen.missing || reply.missing;
}

abbrev pub finished : Seen → SecondaryLocksStatus
finished seen = record {
  commit_ts = named_timestamp seen.commit;
  min_commit_ts = seen.min_commit_ts;
  fallback_2pc = seen.fallback_2pc;
  missing = seen.missing;
}

-- a commit that is named, where another one was named before
abbrev pub is_unlike : ℕ → ℕ → Bool
is_unlike kept given = not (kept == 0) && not (given == 0) && not (kept == given)

-- the first that is wrong, in the order of the replies, where a commit was named before, or none
abbrev pub first_fault : ℕ → List (Result CheckSecondaryLocksResponse Error) → Option Error
first_fault kept [] = None
first_fault kept (Err error ∷ results) = Some error
first_fault kept (Ok reply ∷ results) =
    if is_unlike kept reply.commit_ts then Some (shape kept reply.commit_ts) else first_fault (if kept == 0 then reply.commit_ts else kept) results

abbrev pub IsJoined : List (Result CheckSecondaryLocksResponse Error) → Result SecondaryLocksStatus Error → Type 0
IsJoined results (Ok status) = (first_fault 0 results ≡ None) × (status ≡ status_of (values_of results))
IsJoined results (Err error) = first_fault 0 results ≡ Some error
