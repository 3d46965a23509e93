-- ResolveLock and ScanLock: the locks of a region or a range are settled or shown.
use Rattle.std.specs.Prelude.{ℕ, Bool, false, if◌then◌else◌, List, [], ◌∷◌, take, Option, Some, None, nat_le, nat_lt}
use Rattle.std.specs.List.{filter_map}
use Rattle.txn_kv.specs.declared.message.Context.{Context}
use Rattle.txn_kv.specs.declared.message.LockInfo.{LockInfo}
use Rattle.txn_kv.specs.declared.message.RegionErr.{RegionErr}
use Rattle.txn_kv.specs.declared.message.TxnInfo.{TxnInfo}
use Rattle.txn_kv.specs.declared.request.locks.ResolveLockRequest.{ResolveLockRequest}
use Rattle.txn_kv.specs.declared.request.locks.ScanLockRequest.{ScanLockRequest}
use Rattle.txn_kv.specs.declared.reply.Reply.TheVariants.{ResolveLock, ScanLock}
use Rattle.txn_model.specs.declared.cell.Cell.{Cell}
use Rattle.txn_model.specs.declared.cell.Lock.{Lock}
use Rattle.txn_model.specs.declared.region.StoredRegion.{StoredRegion}
use Rattle.txn_model.specs.Cells.{Key, each_changed}
use Rattle.txn_model.specs.Commit.{committed}
use Rattle.txn_model.specs.Locks.{owns, lock_info}
use Rattle.txn_model.specs.Ranges.{in_range, cells_in}
use Rattle.txn_model.specs.Settle.{rolled_back, released}
use Rattle.txn_model.specs.Placement.{region_check, region_with_id}
use Rattle.txn_model.specs.Store.{Store}
use Rattle.txn_model.specs.Handled.{Handled}

-- ResolveLock

-- the starts to settle, each with its commit timestamp or 0
abbrev pub infos_of : ResolveLockRequest → List TxnInfo → List TxnInfo
infos_of r [] = record { txn = r.start_version; status = r.commit_version } ∷ []
infos_of r (i ∷ is) = i ∷ is

abbrev pub infos : ResolveLockRequest → List TxnInfo
infos r = infos_of r r.txn_infos

-- a pessimistic lock of the start goes; a prewrite lock becomes a commit, or where the status is 0 is rolled back
abbrev pub settled : TxnInfo → Cell → Cell
settled i c = if owns c.lock i.txn then (if nat_lt 0 i.status then committed i.txn i.status c else rolled_back i.txn c) else released i.txn c

abbrev pub all_settled : List TxnInfo → Cell → Cell
all_settled [] c = c
all_settled (i ∷ is) c = all_settled is (settled i c)

-- a key is in the region of the context
abbrev pub is_in_region : Option StoredRegion → Key → Bool
is_in_region None k = false
is_in_region (Some g) k = in_range g.start_key g.end_key k

abbrev pub is_in_context : List StoredRegion → Option Context → Key → Bool
is_in_context gs None k = false
is_in_context gs (Some x) k = is_in_region (region_with_id gs x.region_id) k

abbrev pub resolve_lock_by : Option RegionErr → Store → ResolveLockRequest → Handled
resolve_lock_by (Some e) st r = record { store = st; reply = ResolveLock (record { region_error = Some e; error = None }) }
resolve_lock_by None st r = record {
  store = record st { cells = each_changed (λ c. if is_in_context st.regions r.context c.key then all_settled (infos r) c else c) st.cells };
  reply = ResolveLock (record { region_error = None; error = None });
}

abbrev pub resolve_lock_row : Store → ResolveLockRequest → Handled
resolve_lock_row st r = resolve_lock_by (region_check st.regions r.context) st r

-- ScanLock

abbrev pub lock_until : ℕ → Key → Option Lock → Option LockInfo
lock_until t k None = None
lock_until t k (Some l) = if nat_le l.start t then Some (lock_info k l) else None

-- the locks with a start of at most t, in the order of their keys
abbrev pub locks_until : ℕ → List Cell → List LockInfo
locks_until t cs = filter_map (λ c. lock_until t c.key c.lock) cs

abbrev pub scan_lock_by : Option RegionErr → Store → ScanLockRequest → Handled
scan_lock_by (Some e) st r = record { store = st; reply = ScanLock (record { region_error = Some e; error = None; locks = [] }) }
scan_lock_by None st r = record { store = st; reply = ScanLock (record { region_error = None; error = None; locks = take r.limit (locks_until r.max_version (cells_in r.start_key r.end_key st.cells)) }) }

abbrev pub scan_lock_row : Store → ScanLockRequest → Handled
scan_lock_row st r = scan_lock_by (region_check st.regions r.context) st r
