-- The requests that settle a lock.
use Rattle.std.specs.Prelude.{ℕ, List, [], ◌∷◌, Option}
use Rattle.txn_history.specs.Event.{Event, Has}
use Rattle.txn_history.specs.Event.Event.{Took}
use Rattle.txn_history.specs.Replies.{ShowsLock}
use Rattle.txn_kv.specs.declared.message.Context.{Context}
use Rattle.txn_kv.specs.declared.message.LockInfo.{LockInfo}
use Rattle.txn_kv.specs.declared.reply.Reply.{Reply}
use Rattle.txn_kv.specs.declared.request.Request.{Request}
use Rattle.txn_kv.specs.declared.request.locks.CleanupRequest.{CleanupRequest}
use Rattle.txn_kv.specs.declared.request.locks.PessimisticRollbackRequest.{PessimisticRollbackRequest}
use Rattle.txn_kv.specs.declared.request.locks.ResolveLockRequest.{ResolveLockRequest}
use Rattle.txn_kv.specs.declared.ticket.Ticket.{Ticket}

-- a taken reply showed the lock
abbrev pub WasSeen : List Event → LockInfo → Type 0
WasSeen h lock = (t : Ticket) × (r : Request) × (o : Reply) × Has h (Took t r o) × ShowsLock o lock

-- its primary is asked what became of its start
abbrev pub cleanup_of : LockInfo → Option Context → CleanupRequest
cleanup_of lock at = record { context = at; key = lock.primary_lock; start_version = lock.lock_version }

-- its start is committed at c in a region, or rolled back for 0
abbrev pub resolve_of : LockInfo → ℕ → Option Context → ResolveLockRequest
resolve_of lock c at = record { context = at; start_version = lock.lock_version; commit_version = c; txn_infos = [] }

-- it is taken away
abbrev pub rollback_of : LockInfo → Option Context → PessimisticRollbackRequest
rollback_of lock at = record { context = at; keys = lock.key ∷ []; start_version = lock.lock_version; for_update_ts = lock.lock_for_update_ts }
