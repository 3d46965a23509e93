-- What a client may send for others it may send later too, and it has its licence, whatever its own transactions mean to write.
use Rattle.std.proofs.Common.{inl, inr, ℕ, List}
use Rattle.txn_kv.specs.declared.message.TxnInfo.{TxnInfo}
use Rattle.txn_kv.specs.declared.message.LockInfo.{LockInfo}
use Rattle.txn_kv.specs.declared.request.locks.CheckTxnStatusRequest.{CheckTxnStatusRequest}
use Rattle.txn_kv.specs.declared.request.Request.{Request}
use Rattle.txn_kv.specs.declared.request.Request.TheVariants.{Get, BatchGet, Scan, Prewrite, Commit, Cleanup, BatchRollback, PessimisticRollback, PessimisticLock, ResolveLock, ScanLock, TxnHeartBeat, CheckTxnStatus, CheckSecondaryLocks, UnsafeDestroyRange, GetRegion, GetRegionById, GetStore, GetAllStores, UpdateGcSafePoint, Tso, Members}
use Rattle.txn_history.specs.Event.{Event}
use Rattle.txn_history.specs.Foreign.{IsForeign}
use Rattle.txn_history.specs.Licence.{BoundWasShown, IsLicensed, LockWasShown, StatusLicence, TriedToLock, WasChecked, WasDecided, WasGiven, WasMet, WasMissed, WasSeenCommitted, WasShown, WasShownAt, WasTold}
use Rattle.txn_history.specs.Plan.{Key, Plan}
use Rattle.txn_history.specs.Posted.{Within}

-- What has happened stays so.

module _ (h k : List Event) (w : Within h k) where
  pub given_longer : (s : ℕ) → WasGiven h s → WasGiven k s
  given_longer s g = (g.0, g.1, g.2, g.3, w _ g.4, g.5, g.6)

  pub met_longer : (s : ℕ) (p : Key) → WasMet h s p → WasMet k s p
  met_longer s p m = (m.0, m.1, m.2, m.3, w _ m.4, m.5, m.6, m.7)

  pub shown_at_longer : (s : ℕ) (x : Key) → WasShownAt h s x → WasShownAt k s x
  shown_at_longer s x m = (m.0, m.1, m.2, m.3, w _ m.4, m.5, m.6, m.7)

  pub tried_longer : (s : ℕ) (x : Key) → TriedToLock h s x → TriedToLock k s x
  tried_longer s x m = (m.0, m.1, w _ m.2, m.3, m.4)

  pub shown_longer : (s : ℕ) (p : Key) → WasShown h s p → WasShown k s p
  shown_longer s p m = record { ticket = m.ticket; request = m.request; answer = m.answer; lock = m.lock; taken = w _ m.taken; shows = m.shows; prewrite = m.prewrite; start = m.start; primary = m.primary }

  pub lock_longer : (s : ℕ) (l : LockInfo) → LockWasShown h s l → LockWasShown k s l
  lock_longer s l m = record { ticket = m.ticket; request = m.request; answer = m.answer; taken = w _ m.taken; shows = m.shows; prewrite = m.prewrite; start = m.start }

  bound_longer : (s : ℕ) (x : Key) (b : ℕ) → BoundWasShown h s x b → BoundWasShown k s x b
  bound_longer s x b m = (m.0, lock_longer s m.0 m.1, m.2, m.3, m.4)

  told_longer : (s c : ℕ) → WasTold h s c → WasTold k s c
  told_longer s c m = record { primary = m.primary; shown = shown_longer s m.primary m.shown; ticket = m.ticket; request = m.request; answer = m.answer; taken = w _ m.taken; decides = m.decides }

  checked_longer : (s c : ℕ) → WasChecked h s c → WasChecked k s c
  checked_longer s c m = record {
    lock = m.lock;
    shown = (lock_longer s m.lock m.shown.0, m.shown.1, m.shown.2);
    own = m.own;
    each = λ x i. let b = m.each x i in (b.0, bound_longer s x b.0 b.1, b.2);
    greatest = elim m.greatest [ inl e ↦ inl e | inr g ↦ inr (g.0, g.1, bound_longer s g.0 c g.2) ];
  }

  missed_longer : (s : ℕ) → WasMissed h s → WasMissed k s
  missed_longer s m = record {
    lock = m.lock;
    shown = (lock_longer s m.lock m.shown.0, m.shown.1, m.shown.2);
    ticket = m.ticket;
    request = m.request;
    response = m.response;
    taken = w _ m.taken;
    start = m.start;
    secondaries = m.secondaries;
    missing = m.missing;
  }

  committed_longer : (s c : ℕ) → WasSeenCommitted h s c → WasSeenCommitted k s c
  committed_longer s c m = (m.0, m.1, m.2, w _ m.3, m.4, m.5, m.6)

  pub decided_longer : (s c : ℕ) → WasDecided h s c → WasDecided k s c
  decided_longer s c (inl told) = inl (told_longer s c told)
  decided_longer s c (inr (inl checked)) = inr (inl (checked.0, checked_longer s c checked.1))
  decided_longer s c (inr (inr (inl seen))) = inr (inr (inl (committed_longer s c seen)))
  decided_longer s c (inr (inr (inr missed))) = inr (inr (inr (missed.0, missed_longer s missed.1)))

  status_longer : (r : CheckTxnStatusRequest) → StatusLicence h r → StatusLicence k r
  status_longer r l e = let m = l e in (m.0, lock_longer r.lock_ts m.0 m.1, m.2)

  pub foreign_longer : (r : Request) → IsForeign h r → IsForeign k r
  foreign_longer (Get r) f = given_longer r.version f
  foreign_longer (BatchGet r) f = given_longer r.version f
  foreign_longer (Scan r) f = given_longer r.version f
  foreign_longer (Prewrite r) f = absurd f
  foreign_longer (Commit r) f = absurd f
  foreign_longer (Cleanup r) f = met_longer r.start_version r.key f
  foreign_longer (BatchRollback r) f = absurd f
  foreign_longer (PessimisticRollback r) f = λ x i. elim (f x i) [ inl m ↦ inl (shown_at_longer r.start_version x m) | inr m ↦ inr (tried_longer r.start_version x m) ]
  foreign_longer (PessimisticLock r) f = absurd f
  foreign_longer (ResolveLock r) f = λ (x : TxnInfo) i. decided_longer x.txn x.status (f x i)
  foreign_longer (ScanLock r) f = tt
  foreign_longer (TxnHeartBeat r) f = tt
  foreign_longer (CheckTxnStatus r) f = (met_longer r.lock_ts r.primary_key f.0, status_longer r f.1)
  foreign_longer (CheckSecondaryLocks r) f = tt
  foreign_longer (UnsafeDestroyRange r) f = absurd f
  foreign_longer (GetRegion r) f = tt
  foreign_longer (GetRegionById r) f = tt
  foreign_longer (GetStore r) f = tt
  foreign_longer (GetAllStores r) f = tt
  foreign_longer (UpdateGcSafePoint r) f = absurd f
  foreign_longer (Tso r) f = tt
  foreign_longer (Members r) f = tt

pub foreign_licensed : (h : List Event) (r : Request) → IsForeign h r → (plans : ℕ → Plan) → IsLicensed plans h r
foreign_licensed h (Get r) f plans = f
foreign_licensed h (BatchGet r) f plans = f
foreign_licensed h (Scan r) f plans = f
foreign_licensed h (Prewrite r) f plans = absurd f
foreign_licensed h (Commit r) f plans = absurd f
foreign_licensed h (Cleanup r) f plans = tt
foreign_licensed h (BatchRollback r) f plans = absurd f
foreign_licensed h (PessimisticRollback r) f plans = f
foreign_licensed h (PessimisticLock r) f plans = absurd f
foreign_licensed h (ResolveLock r) f plans = f
foreign_licensed h (ScanLock r) f plans = tt
foreign_licensed h (TxnHeartBeat r) f plans = tt
foreign_licensed h (CheckTxnStatus r) f plans = f.1
foreign_licensed h (CheckSecondaryLocks r) f plans = tt
foreign_licensed h (UnsafeDestroyRange r) f plans = absurd f
foreign_licensed h (GetRegion r) f plans = tt
foreign_licensed h (GetRegionById r) f plans = tt
foreign_licensed h (GetStore r) f plans = tt
foreign_licensed h (GetAllStores r) f plans = tt
foreign_licensed h (UpdateGcSafePoint r) f plans = absurd f
foreign_licensed h (Tso r) f plans = tt
foreign_licensed h (Members r) f plans = tt
