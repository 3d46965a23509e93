-- In a run each reply is of its request's kind, and so is each that a script shows.
use Rattle.std.proofs.Common.{◌≡◌, inl, inr, ℕ, Bool, true, false, List, [], ◌∷◌, Option, Some, None, refl, sym, subst}
use Rattle.std.specs.Prelude.{if◌then◌else◌, length, nat_lt}
use Rattle.txn_kv.specs.declared.message.KeyError.{KeyError}
use Rattle.txn_kv.specs.declared.message.RegionErr.{RegionErr}
use Rattle.txn_kv.specs.declared.reply.Reply.{Reply}
use Rattle.txn_kv.specs.declared.request.reads.BatchGetRequest.{BatchGetRequest}
use Rattle.txn_kv.specs.declared.request.commits.BatchRollbackRequest.{BatchRollbackRequest}
use Rattle.txn_kv.specs.declared.request.locks.CheckSecondaryLocksRequest.{CheckSecondaryLocksRequest}
use Rattle.txn_kv.specs.declared.request.locks.CheckTxnStatusRequest.{CheckTxnStatusRequest}
use Rattle.txn_kv.specs.declared.request.locks.CleanupRequest.{CleanupRequest}
use Rattle.txn_kv.specs.declared.request.commits.CommitRequest.{CommitRequest}
use Rattle.txn_kv.specs.declared.request.reads.GetRequest.{GetRequest}
use Rattle.txn_kv.specs.declared.request.locks.PessimisticLockRequest.{PessimisticLockRequest}
use Rattle.txn_kv.specs.declared.request.locks.PessimisticRollbackRequest.{PessimisticRollbackRequest}
use Rattle.txn_kv.specs.declared.request.commits.PrewriteRequest.{PrewriteRequest}
use Rattle.txn_kv.specs.declared.request.locks.ResolveLockRequest.{ResolveLockRequest}
use Rattle.txn_kv.specs.declared.request.reads.ScanRequest.{ScanRequest}
use Rattle.txn_kv.specs.declared.request.locks.ScanLockRequest.{ScanLockRequest}
use Rattle.txn_kv.specs.declared.request.commits.TxnHeartBeatRequest.{TxnHeartBeatRequest}
use Rattle.txn_kv.specs.declared.request.Request.{Request}
use Rattle.txn_kv.specs.declared.request.Request.TheVariants as request
use Rattle.txn_kv.specs.declared.ticket.Ticket.{Ticket}
use Rattle.txn_history.specs.Busy.{busy_reply}
use Rattle.txn_history.specs.Event.{Event, Has}
use Rattle.txn_history.specs.Event.Event.{Refused, Served, Took}
use Rattle.txn_history.specs.Plan.{Plan}
use Rattle.txn_causes.specs.Kinds.{IsOfKind}
use Rattle.txn_commit.specs.Ways.{Ways}
use Rattle.txn_law.specs.Run.{IsPossible, IsRun, store_after}
use Rattle.txn_lines.specs.declared.line.Line.{Line}
use Rattle.txn_lines.specs.Deeds.{deed_of}
use Rattle.txn_machine.specs.Causes.{lines_before}
use Rattle.txn_machine.specs.Script.{find, history, is_done, outcome_of}
use Rattle.txn_machine.specs.Longer.{done_more, sends_more}
use Rattle.txn_model.specs.Commit.{commit_by}
use Rattle.txn_model.specs.PessimisticLock.{pessimistic_lock_by}
use Rattle.txn_model.specs.Prewrite.{locking_by, one_phase_by, prewrite_by}
use Rattle.txn_model.specs.Read.{batch_get_by, get_by, scan_by}
use Rattle.txn_model.specs.Resolve.{resolve_lock_by, scan_lock_by}
use Rattle.txn_model.specs.Rollback.{batch_rollback_by, cleanup_by, pessimistic_rollback_by}
use Rattle.txn_model.specs.Status.{Finding, check_secondary_locks_by, check_txn_status_by, txn_heart_beat_by}
use Rattle.txn_model.specs.Store.{Store}
use Rattle.txn_model.specs.Table.{table}
use Rattle.txn_model.specs.declared.cell.Lock.{Lock}
use Rattle.txn_model.specs.declared.cell.Write.{Write}
use Rattle.txn_report.specs.declared.outcome.Outcome.{Outcome}
use Rattle.txn_report.specs.declared.report.Report.{Report}
use Rattle.txn_report.specs.declared.report.SentNote.{SentNote}
use Rattle.txn_trace.proofs.Seen.{seen_runs}
use Rattle.txn_clients.specs.Clients.{rows_of}
use Rattle.txn_clients.specs.Growing.{plans_found, plans_in}
use Rattle.txn_run.specs.Behind.{AreBehind}

-- What the table replies

get_kind : (refused : Option RegionErr) (st : Store) (r : GetRequest) → IsOfKind (request.Get r) (get_by refused st r).reply
get_kind (Some e) st r = (_, refl)
get_kind None st r = (_, refl)

batch_get_kind : (refused : Option RegionErr) (st : Store) (r : BatchGetRequest) → IsOfKind (request.BatchGet r) (batch_get_by refused st r).reply
batch_get_kind (Some e) st r = (_, refl)
batch_get_kind None st r = (_, refl)

scan_kind : (refused : Option RegionErr) (st : Store) (r : ScanRequest) → IsOfKind (request.Scan r) (scan_by refused st r).reply
scan_kind (Some e) st r = (_, refl)
scan_kind None st r = (_, refl)

pessimistic_rollback_kind : (refused : Option RegionErr) (st : Store) (r : PessimisticRollbackRequest) → IsOfKind (request.PessimisticRollback r) (pessimistic_rollback_by refused st r).reply
pessimistic_rollback_kind (Some e) st r = (_, refl)
pessimistic_rollback_kind None st r = (_, refl)

resolve_lock_kind : (refused : Option RegionErr) (st : Store) (r : ResolveLockRequest) → IsOfKind (request.ResolveLock r) (resolve_lock_by refused st r).reply
resolve_lock_kind (Some e) st r = (_, refl)
resolve_lock_kind None st r = (_, refl)

scan_lock_kind : (refused : Option RegionErr) (st : Store) (r : ScanLockRequest) → IsOfKind (request.ScanLock r) (scan_lock_by refused st r).reply
scan_lock_kind (Some e) st r = (_, refl)
scan_lock_kind None st r = (_, refl)

check_secondary_locks_kind : (refused : Option RegionErr) (st : Store) (r : CheckSecondaryLocksRequest) → IsOfKind (request.CheckSecondaryLocks r) (check_secondary_locks_by refused st r).reply
check_secondary_locks_kind (Some e) st r = (_, refl)
check_secondary_locks_kind None st r = (_, refl)

prewrite_kind : (refused : Option RegionErr) (errors : List KeyError) (passed : Option Write) (st : Store) (r : PrewriteRequest) → IsOfKind (request.Prewrite r) (prewrite_by refused errors passed st r).reply
prewrite_kind (Some x) errors passed st r = (_, refl)
prewrite_kind None (e ∷ es) passed st r = (_, refl)
prewrite_kind None [] passed st r = by r.try_one_pc passed
  where
    by : (b : Bool) (o : Option Write) → IsOfKind (request.Prewrite r) (if b then one_phase_by o st r else locking_by st r).reply
    by true None = (_, refl)
    by true (Some w) = (_, refl)
    by false o = (_, refl)

commit_kind : (refused : Option RegionErr) (error : Option KeyError) (st : Store) (r : CommitRequest) → IsOfKind (request.Commit r) (commit_by refused error st r).reply
commit_kind (Some x) error st r = (_, refl)
commit_kind None None st r = (_, refl)
commit_kind None (Some e) st r = (_, refl)

batch_rollback_kind : (refused : Option RegionErr) (error : Option KeyError) (st : Store) (r : BatchRollbackRequest) → IsOfKind (request.BatchRollback r) (batch_rollback_by refused error st r).reply
batch_rollback_kind (Some x) error st r = (_, refl)
batch_rollback_kind None None st r = (_, refl)
batch_rollback_kind None (Some e) st r = (_, refl)

pessimistic_lock_kind : (refused : Option RegionErr) (errors : List KeyError) (st : Store) (r : PessimisticLockRequest) → IsOfKind (request.PessimisticLock r) (pessimistic_lock_by refused errors st r).reply
pessimistic_lock_kind (Some x) errors st r = (_, refl)
pessimistic_lock_kind None [] st r = (_, refl)
pessimistic_lock_kind None (e ∷ es) st r = (_, refl)

txn_heart_beat_kind : (refused : Option RegionErr) (lock : Option Lock) (st : Store) (r : TxnHeartBeatRequest) → IsOfKind (request.TxnHeartBeat r) (txn_heart_beat_by refused lock st r).reply
txn_heart_beat_kind (Some x) lock st r = (_, refl)
txn_heart_beat_kind None None st r = (_, refl)
txn_heart_beat_kind None (Some e) st r = (_, refl)

cleanup_kind : (refused : Option RegionErr) (error : Option KeyError) (write : Option Write) (st : Store) (r : CleanupRequest) → IsOfKind (request.Cleanup r) (cleanup_by refused error write st r).reply
cleanup_kind (Some e) error write st r = (_, refl)
cleanup_kind None (Some x) write st r = (_, refl)
cleanup_kind None None (Some x) st r = (_, refl)
cleanup_kind None None None st r = (_, refl)

check_txn_status_kind : (refused : Option RegionErr) (found : Finding) (st : Store) (r : CheckTxnStatusRequest) → IsOfKind (request.CheckTxnStatus r) (check_txn_status_by refused found st r).reply
check_txn_status_kind (Some e) found st r = (_, refl)
check_txn_status_kind None found st r = (_, refl)

served_kind : (st : Store) (r : Request) → IsOfKind r (table st r).reply
served_kind st (request.Get r) = get_kind _ st r
served_kind st (request.BatchGet r) = batch_get_kind _ st r
served_kind st (request.Scan r) = scan_kind _ st r
served_kind st (request.Prewrite r) = prewrite_kind _ _ _ st r
served_kind st (request.Commit r) = commit_kind _ _ st r
served_kind st (request.Cleanup r) = cleanup_kind _ _ _ st r
served_kind st (request.BatchRollback r) = batch_rollback_kind _ _ st r
served_kind st (request.PessimisticRollback r) = pessimistic_rollback_kind _ st r
served_kind st (request.PessimisticLock r) = pessimistic_lock_kind _ _ st r
served_kind st (request.ResolveLock r) = resolve_lock_kind _ st r
served_kind st (request.ScanLock r) = scan_lock_kind _ st r
served_kind st (request.TxnHeartBeat r) = txn_heart_beat_kind _ _ st r
served_kind st (request.CheckTxnStatus r) = check_txn_status_kind _ _ st r
served_kind st (request.CheckSecondaryLocks r) = check_secondary_locks_kind _ st r
served_kind st (request.UnsafeDestroyRange r) = (_, refl)
served_kind st (request.GetRegion r) = (_, refl)
served_kind st (request.GetRegionById r) = (_, refl)
served_kind st (request.GetStore r) = (_, refl)
served_kind st (request.GetAllStores r) = (_, refl)
served_kind st (request.UpdateGcSafePoint r) = (_, refl)
served_kind st (request.Tso r) = (_, refl)
served_kind st (request.Members r) = (_, refl)

-- and a store that is too busy

some_is : (x y : Reply) → Some x ≡ Some y → y ≡ x
some_is x y e = cc

none_is : {G : Type 0} (y : Reply) → None ≡ Some y → G
none_is y e = absurd (cc)

busy_kind : (r : Request) (o : Reply) → busy_reply r ≡ Some o → IsOfKind r o
busy_kind (request.Get r) o e = (_, some_is _ o e)
busy_kind (request.BatchGet r) o e = (_, some_is _ o e)
busy_kind (request.Scan r) o e = (_, some_is _ o e)
busy_kind (request.Prewrite r) o e = (_, some_is _ o e)
busy_kind (request.Commit r) o e = (_, some_is _ o e)
busy_kind (request.Cleanup r) o e = (_, some_is _ o e)
busy_kind (request.BatchRollback r) o e = (_, some_is _ o e)
busy_kind (request.PessimisticRollback r) o e = (_, some_is _ o e)
busy_kind (request.PessimisticLock r) o e = (_, some_is _ o e)
busy_kind (request.ResolveLock r) o e = (_, some_is _ o e)
busy_kind (request.ScanLock r) o e = (_, some_is _ o e)
busy_kind (request.TxnHeartBeat r) o e = (_, some_is _ o e)
busy_kind (request.CheckTxnStatus r) o e = (_, some_is _ o e)
busy_kind (request.CheckSecondaryLocks r) o e = (_, some_is _ o e)
busy_kind (request.UnsafeDestroyRange r) o e = (_, some_is _ o e)
busy_kind (request.GetRegion r) o e = none_is o e
busy_kind (request.GetRegionById r) o e = none_is o e
busy_kind (request.GetStore r) o e = none_is o e
busy_kind (request.GetAllStores r) o e = none_is o e
busy_kind (request.UpdateGcSafePoint r) o e = none_is o e
busy_kind (request.Tso r) o e = none_is o e
busy_kind (request.Members r) o e = none_is o e

-- In a run

module _ (plans : ℕ → Plan) where
  served_so : (h : List Event) → IsRun plans h → (u : Ticket) (r : Request) (o : Reply) → Has h (Served u r o) → IsOfKind r o
  served_so [] run u r o i = absurd i
  served_so (e ∷ es) run u r o (inl same) = let p = subst (IsPossible es) same run.0 in subst (IsOfKind r) (sym p.1) (served_kind (store_after es) r)
  served_so (e ∷ es) run u r o (inr i) = served_so es run.2 u r o i

  refused_so : (h : List Event) → IsRun plans h → (u : Ticket) (r : Request) (o : Reply) → Has h (Refused u r o) → IsOfKind r o
  refused_so [] run u r o i = absurd i
  refused_so (e ∷ es) run u r o (inl same) = let p = subst (IsPossible es) same run.0 in busy_kind r o p.1
  refused_so (e ∷ es) run u r o (inr i) = refused_so es run.2 u r o i

  took_so : (h : List Event) → IsRun plans h → (u : Ticket) (r : Request) (o : Reply) → Has h (Took u r o) → IsOfKind r o
  took_so [] run u r o i = absurd i
  took_so (e ∷ es) run u r o (inl same) = elim (subst (IsPossible es) same run.0) [ inl s ↦ served_so es run.2 u r o s | inr b ↦ refused_so es run.2 u r o b ]
  took_so (e ∷ es) run u r o (inr i) = took_so es run.2 u r o i

-- In a script

-- what had happened by a line has happened in the end
before_more : (sent : List SentNote) (outs : List Outcome) (script : List Line) (k : ℕ) (e : Event) → Has (history sent outs (lines_before script k)) e → Has (history sent outs script) e
before_more sent outs [] k e h = h
before_more sent outs (line ∷ before) k e h = by (nat_lt (length (line ∷ before)) k) h (before_more sent outs before k e)
  where
    n : ℕ
    n = length (line ∷ before)

    by : (b : Bool) → Has (history sent outs (if b then line ∷ before else lines_before before k)) e → (Has (history sent outs (lines_before before k)) e → Has (history sent outs before) e) → Has (history sent outs (line ∷ before)) e
    by true i more = i
    by false i more = sends_more sent n _ e (done_more (is_done (outcome_of outs n)) (λ t. find sent n t) (deed_of line) (history sent outs before) e (more i))

-- each reply that was taken by a line is of its request's kind
pub lines_kind : {P : Type 0} (w : Ways P) (script : List Line) (report : Report) → AreBehind w script report
    → (k : ℕ) (u : Ticket) (r : Request) (o : Reply) → Has (history report.sent report.outcomes (lines_before script k)) (Took u r o) → IsOfKind r o
lines_kind w script report a k u r o h =
    let now = a.arisen.now in
    let plans = plans_in (rows_of a.clients) in
    let run = subst (IsRun plans) now.3 (seen_runs plans now.2 (now.4.run plans (plans_found (rows_of a.clients) now.4.apart))) in
    took_so plans (history report.sent report.outcomes script) run u r o (before_more report.sent report.outcomes script k (Took u r o) h)
