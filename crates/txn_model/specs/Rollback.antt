-- BatchRollback, Cleanup and PessimisticRollback.
use Rattle.std.specs.Prelude.{ℕ, Bool, false, if◌then◌else◌, List, [], ◌∷◌, Option, Some, None, nat_eq, nat_le}
use Rattle.txn_kv.specs.declared.message.KeyError.{KeyError}
use Rattle.txn_kv.specs.declared.message.KeyError.TheVariants.{Abort, Locked, PrimaryMismatch}
use Rattle.txn_kv.specs.declared.message.RegionErr.{RegionErr}
use Rattle.txn_kv.specs.declared.request.commits.BatchRollbackRequest.{BatchRollbackRequest}
use Rattle.txn_kv.specs.declared.request.locks.CleanupRequest.{CleanupRequest}
use Rattle.txn_kv.specs.declared.request.locks.PessimisticRollbackRequest.{PessimisticRollbackRequest}
use Rattle.txn_kv.specs.declared.reply.Reply.TheVariants.{BatchRollback, Cleanup, PessimisticRollback}
use Rattle.txn_model.specs.declared.cell.Cell.{Cell}
use Rattle.txn_model.specs.declared.cell.Lock.{Lock}
use Rattle.txn_model.specs.declared.cell.Write.{Write}
use Rattle.txn_model.specs.Cells.{Key, key_eq, cell_at, changed_at}
use Rattle.txn_model.specs.Locks.{commit_of, or_earlier, lock_info, is_async_lock}
use Rattle.txn_model.specs.Settle.{rolled_back, released}
use Rattle.txn_model.specs.Placement.{region_check}
use Rattle.txn_model.specs.Store.{Store}
use Rattle.txn_model.specs.Handled.{Handled}

-- BatchRollback

abbrev pub committed_error : Key → Option Write → Option KeyError
committed_error k None = None
committed_error k (Some w) = Some (Abort k w.start w.commit)

-- a key where the start is committed can't be rolled back
abbrev pub rollback_error : ℕ → Key → Cell → Option KeyError
rollback_error s k c = committed_error k (commit_of c.commits s)

-- the first error of the keys
abbrev pub first_rollback_error : List Cell → ℕ → List Key → Option KeyError
first_rollback_error cs s [] = None
first_rollback_error cs s (k ∷ ks) = or_earlier (rollback_error s k (cell_at cs k)) (first_rollback_error cs s ks)

abbrev pub batch_rollback_by : Option RegionErr → Option KeyError → Store → BatchRollbackRequest → Handled
batch_rollback_by (Some e) error st r = record { store = st; reply = BatchRollback (record { region_error = Some e; error = None }) }
batch_rollback_by None (Some e) st r = record { store = st; reply = BatchRollback (record { region_error = None; error = Some e }) }
batch_rollback_by None None st r = record {
  store = record st { cells = changed_at r.keys (rolled_back r.start_version) st.cells };
  reply = BatchRollback (record { region_error = None; error = None });
}

abbrev pub batch_rollback_row : Store → BatchRollbackRequest → Handled
batch_rollback_row st r = batch_rollback_by (region_check st.regions r.context) (first_rollback_error st.cells r.start_version r.keys) st r

-- Cleanup

-- a lock of the start under another primary, or an async one, which its primary alone cannot settle
abbrev pub cleanup_refusal : Key → ℕ → Option Lock → Option KeyError
cleanup_refusal p s None = None
cleanup_refusal p s (Some l) = if nat_eq l.start s then (if key_eq l.primary p then (if is_async_lock l then Some (Locked (lock_info p l)) else None) else Some (PrimaryMismatch (lock_info p l))) else None

-- first hit: such a lock, a commit of the start; else it is rolled back
abbrev pub cleanup_by : Option RegionErr → Option KeyError → Option Write → Store → CleanupRequest → Handled
cleanup_by (Some e) x w st r = record { store = st; reply = Cleanup (record { region_error = Some e; error = None; commit_version = 0 }) }
cleanup_by None (Some x) w st r = record { store = st; reply = Cleanup (record { region_error = None; error = Some x; commit_version = 0 }) }
cleanup_by None None (Some w) st r = record { store = st; reply = Cleanup (record { region_error = None; error = None; commit_version = w.commit }) }
cleanup_by None None None st r = record {
  store = record st { cells = changed_at (r.key ∷ []) (rolled_back r.start_version) st.cells };
  reply = Cleanup (record { region_error = None; error = None; commit_version = 0 });
}

abbrev pub cleanup_at : Cell → Store → CleanupRequest → Handled
cleanup_at c st r = cleanup_by (region_check st.regions r.context) (cleanup_refusal r.key r.start_version c.lock) (commit_of c.commits r.start_version) st r

abbrev pub cleanup_row : Store → CleanupRequest → Handled
cleanup_row st r = cleanup_at (cell_at st.cells r.key) st r

-- PessimisticRollback

abbrev pub is_for_update_by : ℕ → Option Lock → Bool
is_for_update_by f None = false
is_for_update_by f (Some l) = nat_le l.for_update f

-- a pessimistic lock of the start goes, where its for-update timestamp is at most f
abbrev pub released_by : ℕ → ℕ → Cell → Cell
released_by s f c = if is_for_update_by f c.lock then released s c else c

abbrev pub pessimistic_rollback_by : Option RegionErr → Store → PessimisticRollbackRequest → Handled
pessimistic_rollback_by (Some e) st r = record { store = st; reply = PessimisticRollback (record { region_error = Some e; errors = [] }) }
pessimistic_rollback_by None st r = record {
  store = record st { cells = changed_at r.keys (released_by r.start_version r.for_update_ts) st.cells };
  reply = PessimisticRollback (record { region_error = None; errors = [] });
}

abbrev pub pessimistic_rollback_row : Store → PessimisticRollbackRequest → Handled
pessimistic_rollback_row st r = pessimistic_rollback_by (region_check st.regions r.context) st r
