-- What a Commit or a rollback that was answered leaves of locks.
use Rattle.std.proofs.Common.{◌≡◌, ◌≢◌, ℕ, inl, inr, true, List, Option, Some, None, refl, subst, arith, sym, ◌∙◌}
use Rattle.std.proofs.lemmas.Bool.Decides.{nat_tests}
use Rattle.txn_kv.specs.declared.ticket.Ticket.{Ticket}
use Rattle.txn_kv.specs.declared.request.Request.TheVariants.{Prewrite, Commit, BatchRollback}
use Rattle.txn_kv.specs.declared.request.commits.CommitRequest.{CommitRequest}
use Rattle.txn_kv.specs.declared.request.commits.BatchRollbackRequest.{BatchRollbackRequest}
use Rattle.txn_kv.specs.declared.reply.Reply.TheVariants as reply
use Rattle.txn_kv.specs.declared.reply.commits.CommitResponse.{CommitResponse}
use Rattle.txn_kv.specs.declared.reply.commits.BatchRollbackResponse.{BatchRollbackResponse}
use Rattle.txn_history.specs.Event.{Event, Has}
use Rattle.txn_history.specs.Event.Event.{Took}
use Rattle.txn_history.specs.Licence.{IsWithoutError}
use Rattle.txn_history.specs.Plan.{Key, Content, Plan, has_key}
use Rattle.txn_model.specs.declared.cell.Cell.{Cell}
use Rattle.txn_model.specs.declared.cell.Lock.{Lock}
use Rattle.txn_model.specs.Cells.{cell_at}
use Rattle.txn_model.specs.Locks.{has_start, is_prewrite}
use Rattle.txn_law.specs.Run.{store_after, IsRun}
use Rattle.txn_law.specs.Whole.{content, KeyCommitted}
use Rattle.txn_law.proofs.Phases.{phase, IsSound}
use Rattle.txn_law.proofs.Phases.Phase.{Locked, RolledBack}
use Rattle.txn_law.proofs.Replies.{phases, IsCommitted, lock_is_phase}
use Rattle.txn_law.proofs.Taken.{hang, means_taken}
use Rattle.txn_law.proofs.Kept.{kept}

committed_unlocked : (c : Cell) (s : ℕ) (l : Lock) → IsSound c → IsCommitted (phase c s) → c.lock ≡ Some l → l.start ≢ s
committed_unlocked c s l i h e d = grind (arith, nat_tests, i.lock s)

rolled_unlocked : (c : Cell) (s : ℕ) (l : Lock) → IsSound c → phase c s ≡ RolledBack → c.lock ≡ Some l → l.start ≢ s
rolled_unlocked c s l i h e d = grind (arith, nat_tests, i.lock s)

rolled_recorded : (c : Cell) (s : ℕ) → phase c s ≡ RolledBack → has_start c.rolled s ≡ true
rolled_recorded c s h = by_lock c.lock refl
  where
    by_lock : (o : Option Lock) → c.lock ≡ o → has_start c.rolled s ≡ true
    by_lock None e = grind (arith, nat_tests)
    by_lock (Some l) e = grind (arith, nat_tests)

-- who was told that a key is committed finds no lock of s there
pub law_unlocked : (plans : ℕ → Plan) (es : List Event) → IsRun plans es → (t : Ticket) (r : CommitRequest) (o : CommitResponse) → Has es (Took t (Commit r) (reply.Commit o)) → IsWithoutError (reply.Commit o) → (k : Key) → has_key r.keys k ≡ true → (l : Lock) → (cell_at (store_after es).cells k).lock ≡ Some l → l.start ≢ r.start_version
law_unlocked plans es run t r o h f k g l e =
    let i = kept plans es run in
    committed_unlocked (cell_at (store_after es).cells k) r.start_version l (i.sound k) (means_taken plans es i t (Commit r) (reply.Commit o) h f k g) e

-- who was told that a key is rolled back finds it recorded, and no lock of s there
pub law_recorded : (plans : ℕ → Plan) (es : List Event) → IsRun plans es → (t : Ticket) (r : BatchRollbackRequest) (o : BatchRollbackResponse) → Has es (Took t (BatchRollback r) (reply.BatchRollback o)) → IsWithoutError (reply.BatchRollback o) → (k : Key) → has_key r.keys k ≡ true → (has_start (cell_at (store_after es).cells k).rolled r.start_version ≡ true) × ((l : Lock) → (cell_at (store_after es).cells k).lock ≡ Some l → l.start ≢ r.start_version)
law_recorded plans es run t r o h f k g =
    let i = kept plans es run in
    let m = means_taken plans es i t (BatchRollback r) (reply.BatchRollback o) h f k g in
    (rolled_recorded (cell_at (store_after es).cells k) r.start_version m, λ l e. rolled_unlocked (cell_at (store_after es).cells k) r.start_version l (i.sound k) m e)

-- nor who was told that a key is committed at once
pub key_unlocked : (plans : ℕ → Plan) (es : List Event) → IsRun plans es → (s : ℕ) (k : Key) → KeyCommitted es s k → (l : Lock) → (cell_at (store_after es).cells k).lock ≡ Some l → l.start ≢ s
key_unlocked plans es run s k (inl w) l e d = law_unlocked plans es run w.0 w.1 w.2 w.3 w.4 k w.6 l e (d ∙ sym w.5)
key_unlocked plans es run s k (inr w) l e d =
    let i = kept plans es run in
    committed_unlocked (cell_at (store_after es).cells k) w.1.start_version l (i.sound k) (((means_taken plans es i w.0 (Prewrite w.1) (reply.Prewrite w.2) w.3 w.4).0 w.6).1 k w.7) e (d ∙ sym w.5)

-- where each key that s writes was committed with an answer, no prewrite lock of s stands
pub law_no_lock : (plans : ℕ → Plan) (es : List Event) → IsRun plans es → (s : ℕ) → ((k : Key) (x : Content) → (plans s).writes k ≡ Some x → KeyCommitted es s k) → (k : Key) (l : Lock) → (cell_at (store_after es).cells k).lock ≡ Some l → is_prewrite l.kind ≡ true → l.start ≢ s
law_no_lock plans es run s all k l e p d =
    let i = kept plans es run in
    let here : phases (store_after es) s k ≡ Locked l.primary (content l.kind l.value) = subst (λ u. phases (store_after es) u k ≡ Locked l.primary (content l.kind l.value)) d (lock_is_phase (cell_at (store_after es).cells k) l (i.sound k) e p) in
    let w = all k (content l.kind l.value) ((hang plans es i s).locked k l.primary (content l.kind l.value) here).1 in
    key_unlocked plans es run s k w l e d
