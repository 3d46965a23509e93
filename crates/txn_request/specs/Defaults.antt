-- Requests whose fields are all default, and what is told of a reply of another kind.
use Rattle.std.specs.Prelude.{[], None, false, pos}
use Rattle.txn_kv.specs.declared.errors.Error.{Error}
use Rattle.txn_kv.specs.declared.errors.Error.TheVariants.{InternalError}
use Rattle.txn_kv.specs.declared.errors.Internal.TheVariants.{WrongReply}
use Rattle.txn_kv.specs.declared.request.reads.GetRequest.{GetRequest}
use Rattle.txn_kv.specs.declared.request.reads.BatchGetRequest.{BatchGetRequest}
use Rattle.txn_kv.specs.declared.request.reads.ScanRequest.{ScanRequest}
use Rattle.txn_kv.specs.declared.request.commits.PrewriteRequest.{PrewriteRequest}
use Rattle.txn_kv.specs.declared.request.commits.CommitRequest.{CommitRequest}
use Rattle.txn_kv.specs.declared.request.locks.CleanupRequest.{CleanupRequest}
use Rattle.txn_kv.specs.declared.request.commits.BatchRollbackRequest.{BatchRollbackRequest}
use Rattle.txn_kv.specs.declared.request.locks.PessimisticRollbackRequest.{PessimisticRollbackRequest}
use Rattle.txn_kv.specs.declared.request.locks.PessimisticLockRequest.{PessimisticLockRequest}
use Rattle.txn_kv.specs.declared.request.locks.ResolveLockRequest.{ResolveLockRequest}
use Rattle.txn_kv.specs.declared.request.locks.ScanLockRequest.{ScanLockRequest}
use Rattle.txn_kv.specs.declared.request.commits.TxnHeartBeatRequest.{TxnHeartBeatRequest}
use Rattle.txn_kv.specs.declared.request.locks.CheckTxnStatusRequest.{CheckTxnStatusRequest}
use Rattle.txn_kv.specs.declared.request.locks.CheckSecondaryLocksRequest.{CheckSecondaryLocksRequest}
use Rattle.txn_kv.specs.declared.request.cluster.UnsafeDestroyRangeRequest.{UnsafeDestroyRangeRequest}

abbrev pub default_get : GetRequest
default_get = record { context = None; key = []; version = 0 }

abbrev pub default_batch_get : BatchGetRequest
default_batch_get = record { context = None; keys = []; version = 0 }

abbrev pub default_scan : ScanRequest
default_scan = record { context = None; start_key = []; end_key = []; limit = 0; key_only = false; version = 0; reverse = false }

abbrev pub default_prewrite : PrewriteRequest
default_prewrite = record { context = None; mutations = []; primary_lock = []; start_version = 0; lock_ttl = 0; txn_size = 0; for_update_ts = 0; is_pessimistic_lock = []; use_async_commit = false; try_one_pc = false; secondaries = [] }

abbrev pub default_commit : CommitRequest
default_commit = record { context = None; keys = []; start_version = 0; commit_version = 0 }

abbrev pub default_cleanup : CleanupRequest
default_cleanup = record { context = None; key = []; start_version = 0 }

abbrev pub default_batch_rollback : BatchRollbackRequest
default_batch_rollback = record { context = None; keys = []; start_version = 0 }

abbrev pub default_pessimistic_rollback : PessimisticRollbackRequest
default_pessimistic_rollback = record { context = None; keys = []; start_version = 0; for_update_ts = 0 }

abbrev pub default_pessimistic_lock : PessimisticLockRequest
default_pessimistic_lock = record { context = None; mutations = []; primary_lock = []; start_version = 0; lock_ttl = 0; for_update_ts = 0; is_first_lock = false; wait_timeout = pos 0; return_values = false; min_commit_ts = 0 }

abbrev pub default_resolve_lock : ResolveLockRequest
default_resolve_lock = record { context = None; start_version = 0; commit_version = 0; txn_infos = [] }

abbrev pub default_scan_lock : ScanLockRequest
default_scan_lock = record { context = None; start_key = []; end_key = []; max_version = 0; limit = 0 }

abbrev pub default_txn_heart_beat : TxnHeartBeatRequest
default_txn_heart_beat = record { context = None; primary_lock = []; start_version = 0; advise_lock_ttl = 0 }

abbrev pub default_check_txn_status : CheckTxnStatusRequest
default_check_txn_status = record { context = None; primary_key = []; lock_ts = 0; caller_start_ts = 0; current_ts = 0; rollback_if_not_exist = false; force_sync_commit = false; resolving_pessimistic_lock = false }

abbrev pub default_check_secondary_locks : CheckSecondaryLocksRequest
default_check_secondary_locks = record { context = None; keys = []; start_version = 0 }

abbrev pub default_unsafe_destroy_range : UnsafeDestroyRangeRequest
default_unsafe_destroy_range = record { context = None; start_key = []; end_key = [] }

abbrev pub wrong_reply : Error
wrong_reply = InternalError WrongReply
