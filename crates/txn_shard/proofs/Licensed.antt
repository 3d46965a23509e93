-- What may be sent may be sent in parts.
use Rattle.std.proofs.Common.{◌≡◌, ℕ, Bool, true, false, List, [], ◌∷◌, refl, sym, ap, ◌∙◌, subst, inl, inr}
use Rattle.std.specs.Prelude.{◌||◌, ◌⊎◌}
use Rattle.std.specs.Ordering.{is_eq}
use Rattle.std.specs.declared.cmp.Ordering.{Ordering}
use Rattle.std.specs.declared.cmp.Ordering.TheVariants.{Less, Equal, Greater}
use Rattle.std.specs.Cmp.Lexicographic.{texts_ties}
use Rattle.std.proofs.lemmas.Cmp.{nat_list_eq_equiv}
use Rattle.txn_history.specs.Among.{IsAmong}
use Rattle.txn_history.specs.Event.{Event}
use Rattle.txn_history.specs.Licence.{CommitLicence, IsLicensed, IsStuck, PrimaryRolledBack}
use Rattle.txn_history.specs.Plan.{Key, key_eq, has_key, LocksKey, Plan, is_spread}
use Rattle.txn_history.specs.Plan.Way.{TwoPhases}
use Rattle.txn_kv.specs.declared.message.Mutation.{Mutation}
use Rattle.txn_kv.specs.declared.request.reads.BatchGetRequest.{BatchGetRequest}
use Rattle.txn_kv.specs.declared.request.commits.BatchRollbackRequest.{BatchRollbackRequest}
use Rattle.txn_kv.specs.declared.request.commits.CommitRequest.{CommitRequest}
use Rattle.txn_kv.specs.declared.request.reads.GetRequest.{GetRequest}
use Rattle.txn_kv.specs.declared.request.locks.PessimisticLockRequest.{PessimisticLockRequest}
use Rattle.txn_kv.specs.declared.request.locks.PessimisticRollbackRequest.{PessimisticRollbackRequest}
use Rattle.txn_kv.specs.declared.request.commits.PrewriteRequest.{PrewriteRequest}
use Rattle.txn_kv.specs.declared.request.reads.ScanRequest.{ScanRequest}
use Rattle.txn_kv.specs.declared.request.Request.TheVariants.{Get, BatchGet, Scan, Prewrite, Commit, BatchRollback, PessimisticRollback, PessimisticLock}
use Rattle.txn_region.specs.Regions.{key_cmp}
use Rattle.txn_region.proofs.Order.{same_if_equal}
use Rattle.txn_shard.specs.Parts.{AreAmong, BatchGetPart, BatchRollbackPart, CommitPart, GetPart, PessimisticLockPart, PessimisticRollbackPart, PrewritePart, ScanPart}

same_key : (a b : Key) → key_eq a b ≡ true → a ≡ b
same_key a b h = same_if_equal a b (equal (key_cmp a b) (sym (texts_ties a b) ∙ h))
  where
    equal : (o : Ordering) → is_eq o ≡ true → o ≡ Equal
    equal Less e = absurd (cc)
    equal Equal e = refl
    equal Greater e = absurd (cc)

key_among : (ks : List Key) (k : Key) → has_key ks k ≡ true → IsAmong ks k
key_among [] k h = absurd (cc)
key_among (q ∷ ks) k h = by (λ g. key_among ks k g) (key_eq q k) refl h
  where
    by : (has_key ks k ≡ true → IsAmong ks k) → (b : Bool) → key_eq q k ≡ b → (b || has_key ks k) ≡ true → IsAmong (q ∷ ks) k
    by rest true e g = inl (same_key q k e)
    by rest false e g = inr (rest g)

among_key : (ks : List Key) (k : Key) → IsAmong ks k → has_key ks k ≡ true
among_key [] k i = absurd i
among_key (q ∷ ks) k (inl e) = ap (λ b. b || has_key ks k) (subst (λ x. key_eq x k ≡ true) (sym e) (nat_list_eq_equiv.refl k))
among_key (q ∷ ks) k (inr i) = by (key_eq q k) (among_key ks k i)
  where
    by : (b : Bool) → has_key ks k ≡ true → (b || has_key ks k) ≡ true
    by true e = refl
    by false e = e

-- a key that some of them lock is locked by all
locked : (ms ns : List Mutation) → AreAmong ms ns → (k : Key) → LocksKey ms k → LocksKey ns k
locked ms ns a k l = (l.0, l.1, a l.0 l.2, l.3, l.4)

has_key_among : (ks qs : List Key) → AreAmong ks qs → (k : Key) → has_key ks k ≡ true → has_key qs k ≡ true
has_key_among ks qs a k h = among_key qs k (a k (key_among ks k h))

pub get_part : (plans : ℕ → Plan) (es : List Event) (p w : GetRequest) → GetPart p w → IsLicensed plans es (Get w) → IsLicensed plans es (Get p)
get_part plans es p w e l = subst (λ r. IsLicensed plans es (Get r)) (sym e) l

pub batch_get_part : (plans : ℕ → Plan) (es : List Event) (p w : BatchGetRequest) → BatchGetPart p w → IsLicensed plans es (BatchGet w) → IsLicensed plans es (BatchGet p)
batch_get_part plans es p w e l = subst (λ r. IsLicensed plans es (BatchGet r)) (sym e.0) l

pub scan_part : (plans : ℕ → Plan) (es : List Event) (p w : ScanRequest) → ScanPart p w → IsLicensed plans es (Scan w) → IsLicensed plans es (Scan p)
scan_part plans es p w e l = subst (λ r. IsLicensed plans es (Scan r)) (sym e.0) l

pub prewrite_part : (plans : ℕ → Plan) (es : List Event) (p w : PrewriteRequest) → PrewritePart p w → w.try_one_pc ≡ false → IsLicensed plans es (Prewrite w) → IsLicensed plans es (Prewrite p)
prewrite_part plans es p w e n l = subst (λ r. IsLicensed plans es (Prewrite r)) (sym e.0) record {
  primary = l.primary;
  planned = λ m i. l.planned m (e.1 m i);
  once = e.2 l.once;
  way = l.way;
  named = λ ks way. ((l.named ks way).0, λ locks. (l.named ks way).1 (locked p.mutations w.mutations e.1 (plans w.start_version).primary locks));
  at_once = λ o. absurd (differ (sym o ∙ n));
  given = l.given;
  above = l.above;
  unrolled = l.unrolled;
}
  where
    differ : true ≡ false → ⊥
    differ e = cc

pub commit_part : (plans : ℕ → Plan) (es : List Event) (p w : CommitRequest) → CommitPart p w → IsLicensed plans es (Commit w) → IsLicensed plans es (Commit p)
commit_part plans es p w e l = subst (λ r. IsLicensed plans es (Commit r)) (sym e.0) (by l)
  where
    by : CommitLicence (plans w.start_version) es w → CommitLicence (plans w.start_version) es (record w { context = p.context; keys = p.keys })
    by (inl two) = inl (two.0, λ k h. two.1 k (has_key_among p.keys w.keys e.1 k h))
    by (inr spread) = inr spread

pub batch_rollback_part : (plans : ℕ → Plan) (es : List Event) (p w : BatchRollbackRequest) → BatchRollbackPart p w → IsLicensed plans es (BatchRollback w) → IsLicensed plans es (BatchRollback p)
batch_rollback_part plans es p w e l = subst (λ r. IsLicensed plans es (BatchRollback r)) (sym e.0) (record { answered = l.answered; undone = by l.undone })
  where
    -- it is undone in the way of its plan
    Undone : List Key → Type 0
    Undone ks = (((plans w.start_version).way ≡ TwoPhases) × ((k : Key) → has_key ks k ≡ true → (k ≡ (plans w.start_version).primary) ⊎ PrimaryRolledBack (plans w.start_version) es w.start_version)) ⊎ ((is_spread (plans w.start_version).way ≡ true) × IsStuck (plans w.start_version) es w.start_version)

    by : Undone w.keys → Undone p.keys
    by (inl two) = inl (two.0, λ k h. two.1 k (has_key_among p.keys w.keys e.1 k h))
    by (inr spread) = inr spread

pub pessimistic_rollback_part : (plans : ℕ → Plan) (es : List Event) (p w : PessimisticRollbackRequest) → PessimisticRollbackPart p w → IsLicensed plans es (PessimisticRollback w) → IsLicensed plans es (PessimisticRollback p)
pessimistic_rollback_part plans es p w e l = subst (λ r. IsLicensed plans es (PessimisticRollback r)) (sym e.0) (λ k h. l k (has_key_among p.keys w.keys e.1 k h))

pub pessimistic_lock_part : (plans : ℕ → Plan) (es : List Event) (p w : PessimisticLockRequest) → PessimisticLockPart p w → IsLicensed plans es (PessimisticLock w) → IsLicensed plans es (PessimisticLock p)
pessimistic_lock_part plans es p w e l = subst (λ r. IsLicensed plans es (PessimisticLock r)) (sym e.0) (record { given = l.given; unwritten = l.unwritten })
