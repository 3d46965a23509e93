-- CheckTxnStatus, CheckSecondaryLocks and TxnHeartBeat: what became of a start at its keys.
use Rattle.std.specs.Prelude.{ℕ, ◌-◌, ◌/◌, ◌^◌, max, Bool, true, false, not, ◌&&◌, ◌||◌, if◌then◌else◌, List, [], ◌∷◌, Option, Some, None, is_some, nat_eq, nat_le}
use Rattle.std.specs.List.{filter_map, list_any}
use Rattle.txn_kv.specs.declared.message.Action.{Action}
use Rattle.txn_kv.specs.declared.message.Action.TheVariants.{NoAction, TtlExpireRollback, LockNotExistRollback, TtlExpirePessimisticRollback, LockNotExistDoNothing}
use Rattle.txn_kv.specs.declared.message.KeyError.TheVariants.{PrimaryMismatch, TxnNotFound}
use Rattle.txn_kv.specs.declared.message.LockInfo.{LockInfo}
use Rattle.txn_kv.specs.declared.message.RegionErr.{RegionErr}
use Rattle.txn_kv.specs.declared.request.locks.CheckTxnStatusRequest.{CheckTxnStatusRequest}
use Rattle.txn_kv.specs.declared.request.locks.CheckSecondaryLocksRequest.{CheckSecondaryLocksRequest}
use Rattle.txn_kv.specs.declared.request.commits.TxnHeartBeatRequest.{TxnHeartBeatRequest}
use Rattle.txn_kv.specs.declared.reply.locks.CheckTxnStatusResponse.{CheckTxnStatusResponse}
use Rattle.txn_kv.specs.declared.reply.Reply.TheVariants.{CheckTxnStatus, CheckSecondaryLocks, TxnHeartBeat}
use Rattle.txn_model.specs.declared.cell.Cell.{Cell}
use Rattle.txn_model.specs.declared.cell.Lock.{Lock}
use Rattle.txn_model.specs.declared.cell.Write.{Write}
use Rattle.txn_model.specs.Cells.{Key, key_eq, cell_at, changed_at}
use Rattle.txn_model.specs.Locks.{has_start, is_prewrite, owns, commit_of, or_earlier, lock_info, is_async_lock}
use Rattle.txn_model.specs.Settle.{rolled_back, released, lock_of_start, own_prewrite_lock}
use Rattle.txn_model.specs.Placement.{region_check}
use Rattle.txn_model.specs.Store.{Store}
use Rattle.txn_model.specs.Handled.{Handled}

-- CheckTxnStatus

-- the physical part of a timestamp
abbrev pub physical_of : ℕ → ℕ
physical_of t = t / 2 ^ 18

abbrev pub is_expired : ℕ → Lock → Bool
is_expired now l = nat_eq now (2 ^ 64 - 1) || nat_le l.ttl (physical_of now - physical_of l.start)

-- what a CheckTxnStatus finds at its key, first hit
pub data Finding : Type 0 where
  Mismatched : Lock → Finding
  Expired : Lock → Finding
  Live : Lock → Finding
  IsCommitted : Write → Finding
  IsRolledBack : Finding
  Nothing : Finding

abbrev pub unlocked_finding : Option Write → Bool → Finding
unlocked_finding (Some w) rolled = IsCommitted w
unlocked_finding None true = IsRolledBack
unlocked_finding None false = Nothing

-- an async lock is over only where the request is forced
abbrev pub is_over : CheckTxnStatusRequest → Lock → Bool
is_over r l = is_expired r.current_ts l && (r.force_sync_commit || not (is_async_lock l))

abbrev pub locked_finding : CheckTxnStatusRequest → Option Lock → Cell → Finding
locked_finding r None c = unlocked_finding (commit_of c.commits r.lock_ts) (has_start c.rolled r.lock_ts)
locked_finding r (Some l) c = if key_eq l.primary r.primary_key then (if is_over r l then Expired l else Live l) else Mismatched l

abbrev pub finding : CheckTxnStatusRequest → Cell → Finding
finding r c = locked_finding r (lock_of_start r.lock_ts c.lock) c

-- an expired pessimistic lock that is being resolved goes unrecorded
abbrev pub goes_unrecorded : CheckTxnStatusRequest → Lock → Bool
goes_unrecorded r l = r.resolving_pessimistic_lock && not (is_prewrite l.kind)

-- what becomes of the cell
abbrev pub status_cell : CheckTxnStatusRequest → Finding → Cell → Cell
status_cell r (Mismatched l) c = c
status_cell r (Expired l) c = if goes_unrecorded r l then released r.lock_ts c else rolled_back r.lock_ts c
status_cell r (Live l) c = c
status_cell r (IsCommitted w) c = c
status_cell r IsRolledBack c = c
status_cell r Nothing c = if r.rollback_if_not_exist && not r.resolving_pessimistic_lock then rolled_back r.lock_ts c else c

-- a status of these numbers and what was done
abbrev pub status_told : ℕ → ℕ → Action → Option LockInfo → CheckTxnStatusResponse
status_told ttl commit action lock = record { region_error = None; error = None; lock_ttl = ttl; commit_version = commit; action = action; lock_info = lock }

abbrev pub no_status : CheckTxnStatusResponse
no_status = status_told 0 0 NoAction None

abbrev pub status_reply : CheckTxnStatusRequest → Finding → CheckTxnStatusResponse
status_reply r (Mismatched l) = record no_status { error = Some (PrimaryMismatch (lock_info r.primary_key l)) }
status_reply r (Expired l) = status_told 0 0 (if goes_unrecorded r l then TtlExpirePessimisticRollback else TtlExpireRollback) None
status_reply r (Live l) = status_told l.ttl 0 NoAction (Some (lock_info r.primary_key l))
status_reply r (IsCommitted w) = status_told 0 w.commit NoAction None
status_reply r IsRolledBack = no_status
status_reply r Nothing = if r.resolving_pessimistic_lock then status_told 0 0 LockNotExistDoNothing None else (if r.rollback_if_not_exist then status_told 0 0 LockNotExistRollback None else record no_status { error = Some (TxnNotFound r.primary_key r.lock_ts) })

abbrev pub check_txn_status_by : Option RegionErr → Finding → Store → CheckTxnStatusRequest → Handled
check_txn_status_by (Some e) f st r = record { store = st; reply = CheckTxnStatus (record no_status { region_error = Some e }) }
check_txn_status_by None f st r = record {
  store = record st { cells = changed_at (r.primary_key ∷ []) (status_cell r f) st.cells };
  reply = CheckTxnStatus (status_reply r f);
}

abbrev pub check_txn_status_row : Store → CheckTxnStatusRequest → Handled
check_txn_status_row st r = check_txn_status_by (region_check st.regions r.context) (finding r (cell_at st.cells r.primary_key)) st r

-- CheckSecondaryLocks

-- the start has neither a prewrite lock nor a commit at the cell
abbrev pub is_missing : ℕ → Cell → Bool
is_missing s c = not (owns c.lock s) && not (is_some (commit_of c.commits s))

abbrev pub missing_rolled_back : ℕ → Cell → Cell
missing_rolled_back s c = if is_missing s c then rolled_back s c else c

abbrev pub shown_lock : Key → Option Lock → Option LockInfo
shown_lock k None = None
shown_lock k (Some l) = Some (lock_info k l)

-- the prewrite locks of the start on the keys
abbrev pub own_locks : List Cell → ℕ → List Key → List LockInfo
own_locks cs s ks = filter_map (λ k. shown_lock k (own_prewrite_lock s (cell_at cs k).lock)) ks

-- the commit of the start on the first key that has one
abbrev pub first_commit : List Cell → ℕ → List Key → Option Write
first_commit cs s [] = None
first_commit cs s (k ∷ ks) = or_earlier (commit_of (cell_at cs k).commits s) (first_commit cs s ks)

abbrev pub timestamp_or_0 : Option Write → ℕ
timestamp_or_0 None = 0
timestamp_or_0 (Some w) = w.commit

abbrev pub any_missing : List Cell → ℕ → List Key → Bool
any_missing cs s ks = list_any (λ k. is_missing s (cell_at cs k)) ks

abbrev pub check_secondary_locks_by : Option RegionErr → Store → CheckSecondaryLocksRequest → Handled
check_secondary_locks_by (Some e) st r = record { store = st; reply = CheckSecondaryLocks (record { region_error = Some e; error = None; locks = []; commit_ts = 0; missing = false }) }
check_secondary_locks_by None st r = record {
  store = record st { cells = changed_at r.keys (missing_rolled_back r.start_version) st.cells };
  reply = CheckSecondaryLocks (record {
    region_error = None;
    error = None;
    locks = own_locks st.cells r.start_version r.keys;
    commit_ts = timestamp_or_0 (first_commit st.cells r.start_version r.keys);
    missing = any_missing st.cells r.start_version r.keys;
  });
}

abbrev pub check_secondary_locks_row : Store → CheckSecondaryLocksRequest → Handled
check_secondary_locks_row st r = check_secondary_locks_by (region_check st.regions r.context) st r

-- TxnHeartBeat

abbrev pub longer_lived : ℕ → Lock → Lock
longer_lived ttl l = record l { ttl = max l.ttl ttl }

abbrev pub with_lock : Lock → Cell → Cell
with_lock l c = record { key = c.key; lock = Some l; commits = c.commits; rolled = c.rolled }

abbrev pub txn_heart_beat_by : Option RegionErr → Option Lock → Store → TxnHeartBeatRequest → Handled
txn_heart_beat_by (Some e) l st r = record { store = st; reply = TxnHeartBeat (record { region_error = Some e; error = None; lock_ttl = 0 }) }
txn_heart_beat_by None None st r = record { store = st; reply = TxnHeartBeat (record { region_error = None; error = Some (TxnNotFound r.primary_lock r.start_version); lock_ttl = 0 }) }
txn_heart_beat_by None (Some l) st r = record {
  store = record st { cells = changed_at (r.primary_lock ∷ []) (with_lock (longer_lived r.advise_lock_ttl l)) st.cells };
  reply = TxnHeartBeat (record { region_error = None; error = None; lock_ttl = max l.ttl r.advise_lock_ttl });
}

abbrev pub txn_heart_beat_row : Store → TxnHeartBeatRequest → Handled
txn_heart_beat_row st r = txn_heart_beat_by (region_check st.regions r.context) (lock_of_start r.start_version (cell_at st.cells r.primary_lock).lock) st r
