-- What a transaction may send has its licence.
use Rattle.std.proofs.Common.{◌≡◌, inl, inr, ℕ, true, List, sym, subst}
use Rattle.std.specs.Prelude.{Ok}
use Rattle.txn_kv.specs.Timestamp.{version_of}
use Rattle.txn_kv.specs.declared.request.Request.{Request}
use Rattle.txn_kv.specs.declared.request.Request.TheVariants.{Get, BatchGet, Scan, Prewrite, Commit, Cleanup, BatchRollback, PessimisticRollback, PessimisticLock, ResolveLock, ScanLock, TxnHeartBeat, CheckTxnStatus, CheckSecondaryLocks, UnsafeDestroyRange, GetRegion, GetRegionById, GetStore, GetAllStores, UpdateGcSafePoint, Tso, Members}
use Rattle.txn_kv.specs.declared.ticket.Ticket.{Ticket}
use Rattle.txn_kv.specs.declared.timestamp.Timestamp.{Timestamp}
use Rattle.txn_history.specs.Event.{Event, Has}
use Rattle.txn_history.specs.Event.Event.{Answered}
use Rattle.txn_history.proofs.Foreign.{foreign_licensed}
use Rattle.txn_history.specs.Licence.{BatchRollbackLicence, CommitLicence, IsLicensed, KeyCommitLicence, PrewriteLicence, PrimaryCommitLicence, WantedAfter, WasAskedFor}
use Rattle.txn_history.specs.Plan.{Key, has_key, Plan}
use Rattle.txn_commit.specs.Sending.{MaySend, PrimaryMayGo}

-- a timestamp that an ask was answered with was asked for
abbrev pub AnswersAreAsked : Plan → ℕ → List Event → Type 0
AnswersAreAsked plan s h = (a : Ticket) (time : Timestamp) → WantedAfter plan h s a → Has h (Answered a (Ok time)) → WasAskedFor plan h s (version_of time)

primary_licensed : (plan : Plan) (s c : ℕ) (h : List Event) → AnswersAreAsked plan s h → PrimaryMayGo plan h s c → PrimaryCommitLicence plan h s c
primary_licensed plan s c h asked g = record {
  ready = g.ready;
  asked = subst (λ x. WasAskedFor plan h s x) g.at (asked g.ask g.time g.wanted g.answered);
  same = g.same;
}

pub sending_licensed : (plans : ℕ → Plan) (s : ℕ) (h : List Event) (r : Request) → AnswersAreAsked (plans s) s h → MaySend (plans s) s h r → IsLicensed plans h r
sending_licensed plans s h (Prewrite r) asked m = subst (λ x. PrewriteLicence (plans x) h r) (sym m.0) m.1
sending_licensed plans s h (Commit r) asked m = subst (λ x. CommitLicence (plans x) h r) (sym m.0) (inl (inl m.1, here))
  where
    here : (k : Key) → has_key r.keys k ≡ true → KeyCommitLicence (plans s) h r k
    here k g = elim (m.2 k g) [
      | inl w ↦ inl (w.0, subst (λ x. PrimaryCommitLicence (plans s) h x r.commit_version) (sym m.0) (primary_licensed (plans s) s r.commit_version h asked (subst (λ x. PrimaryMayGo (plans s) h x r.commit_version) m.0 w.1)))
      | inr w ↦ inr w
    ]
sending_licensed plans s h (BatchRollback r) asked m = subst (λ x. BatchRollbackLicence (plans x) h r) (sym m.0) m.1
sending_licensed plans s h (Get r) asked m = foreign_licensed h (Get r) m plans
sending_licensed plans s h (BatchGet r) asked m = foreign_licensed h (BatchGet r) m plans
sending_licensed plans s h (Scan r) asked m = foreign_licensed h (Scan r) m plans
sending_licensed plans s h (Cleanup r) asked m = foreign_licensed h (Cleanup r) m plans
sending_licensed plans s h (PessimisticRollback r) asked m = foreign_licensed h (PessimisticRollback r) m plans
sending_licensed plans s h (PessimisticLock r) asked m = foreign_licensed h (PessimisticLock r) m plans
sending_licensed plans s h (ResolveLock r) asked m = foreign_licensed h (ResolveLock r) m plans
sending_licensed plans s h (ScanLock r) asked m = foreign_licensed h (ScanLock r) m plans
sending_licensed plans s h (TxnHeartBeat r) asked m = foreign_licensed h (TxnHeartBeat r) m plans
sending_licensed plans s h (CheckTxnStatus r) asked m = foreign_licensed h (CheckTxnStatus r) m plans
sending_licensed plans s h (CheckSecondaryLocks r) asked m = foreign_licensed h (CheckSecondaryLocks r) m plans
sending_licensed plans s h (UnsafeDestroyRange r) asked m = foreign_licensed h (UnsafeDestroyRange r) m plans
sending_licensed plans s h (GetRegion r) asked m = foreign_licensed h (GetRegion r) m plans
sending_licensed plans s h (GetRegionById r) asked m = foreign_licensed h (GetRegionById r) m plans
sending_licensed plans s h (GetStore r) asked m = foreign_licensed h (GetStore r) m plans
sending_licensed plans s h (GetAllStores r) asked m = foreign_licensed h (GetAllStores r) m plans
sending_licensed plans s h (UpdateGcSafePoint r) asked m = foreign_licensed h (UpdateGcSafePoint r) m plans
sending_licensed plans s h (Tso r) asked m = foreign_licensed h (Tso r) m plans
sending_licensed plans s h (Members r) asked m = foreign_licensed h (Members r) m plans
