-- The reply of a store that is too busy to look at a request.
use Rattle.std.specs.Prelude.{false, [], Option, Some, None}
use Rattle.txn_kv.specs.declared.message.Action.TheVariants as actions
use Rattle.txn_kv.specs.declared.message.RegionErr.{RegionErr}
use Rattle.txn_kv.specs.declared.message.RegionErr.TheVariants.{ServerIsBusy}
use Rattle.txn_kv.specs.declared.request.Request.{Request}
use Rattle.txn_kv.specs.declared.request.Request.TheVariants.{Get, BatchGet, Scan, Prewrite, Commit, Cleanup, BatchRollback, PessimisticRollback, PessimisticLock, ResolveLock, ScanLock, TxnHeartBeat, CheckTxnStatus, CheckSecondaryLocks, UnsafeDestroyRange, GetRegion, GetRegionById, GetStore, GetAllStores, UpdateGcSafePoint, Tso, Members}
use Rattle.txn_kv.specs.declared.reply.Reply.{Reply}
use Rattle.txn_kv.specs.declared.reply.Reply.TheVariants as reply

abbrev pub busy : Option RegionErr
busy = Some ServerIsBusy

-- a region error and nothing else; the placement driver is never too busy
abbrev pub busy_reply : Request → Option Reply
busy_reply (Get r) = Some (reply.Get (record { region_error = busy; error = None; value = []; not_found = false }))
busy_reply (BatchGet r) = Some (reply.BatchGet (record { region_error = busy; error = None; pairs = [] }))
busy_reply (Scan r) = Some (reply.Scan (record { region_error = busy; error = None; pairs = [] }))
busy_reply (Prewrite r) = Some (reply.Prewrite (record { region_error = busy; errors = []; min_commit_ts = 0; one_pc_commit_ts = 0 }))
busy_reply (Commit r) = Some (reply.Commit (record { region_error = busy; error = None; commit_version = 0 }))
busy_reply (Cleanup r) = Some (reply.Cleanup (record { region_error = busy; error = None; commit_version = 0 }))
busy_reply (BatchRollback r) = Some (reply.BatchRollback (record { region_error = busy; error = None }))
busy_reply (PessimisticRollback r) = Some (reply.PessimisticRollback (record { region_error = busy; errors = [] }))
busy_reply (PessimisticLock r) = Some (reply.PessimisticLock (record { region_error = busy; errors = []; values = []; not_founds = [] }))
busy_reply (ResolveLock r) = Some (reply.ResolveLock (record { region_error = busy; error = None }))
busy_reply (ScanLock r) = Some (reply.ScanLock (record { region_error = busy; error = None; locks = [] }))
busy_reply (TxnHeartBeat r) = Some (reply.TxnHeartBeat (record { region_error = busy; error = None; lock_ttl = 0 }))
busy_reply (CheckTxnStatus r) = Some (reply.CheckTxnStatus (record { region_error = busy; error = None; lock_ttl = 0; commit_version = 0; action = actions.NoAction; lock_info = None }))
busy_reply (CheckSecondaryLocks r) = Some (reply.CheckSecondaryLocks (record { region_error = busy; error = None; locks = []; commit_ts = 0; missing = false }))
busy_reply (UnsafeDestroyRange r) = Some (reply.UnsafeDestroyRange (record { region_error = busy; error = [] }))
busy_reply (GetRegion r) = None
busy_reply (GetRegionById r) = None
busy_reply (GetStore r) = None
busy_reply (GetAllStores r) = None
busy_reply (UpdateGcSafePoint r) = None
busy_reply (Tso r) = None
busy_reply (Members r) = None
