-- The bound that the lock of a start had at a key, from then on.
use Rattle.std.proofs.Common.{◌≡◌, ℕ, ◌⊎◌, inl, inr, Bool, true, false, ◌&&◌, List, [], ◌∷◌, Option, Some, None, nat_eq, refl, sym, ap, subst, arith, ◌≤◌, ◌<◌}
use Rattle.std.specs.Prelude.{if◌then◌else◌}
use Rattle.std.proofs.lemmas.Bool.Decides.{nat_tests}
use Rattle.txn_kv.specs.declared.request.Request.{Request}
use Rattle.txn_history.specs.Event.{Event}
use Rattle.txn_history.specs.Event.Event.{Served}
use Rattle.txn_history.specs.Plan.{Key, Content}
use Rattle.txn_model.specs.declared.cell.Cell.{Cell}
use Rattle.txn_model.specs.declared.cell.Lock.{Lock}
use Rattle.txn_model.specs.declared.cell.Write.{Write}
use Rattle.txn_model.specs.Cells.{cell_at}
use Rattle.txn_model.specs.Commit.{committed, commit_lock}
use Rattle.txn_model.specs.Locks.{has_start, is_prewrite, owns, holds, commit_of, with_commit, or_earlier}
use Rattle.txn_model.specs.Settle.{own_prewrite_lock, unlocked}
use Rattle.txn_model.specs.Status.{longer_lived}
use Rattle.txn_model.specs.Table.{table}
use Rattle.txn_law.specs.Run.{store_after, IsRoomy}
use Rattle.txn_law.specs.Whole.{content}
use Rattle.txn_law.proofs.Phases.{phase, IsSound, placed, held}
use Rattle.txn_law.proofs.Phases.Phase.{Free, Locked, Committed, RolledBack}
use Rattle.txn_law.proofs.Phases.Move.{Locks}
use Rattle.txn_law.proofs.Moves.{May, CellStep, SetBy}
use Rattle.txn_law.proofs.Moves.CellStep.{Same, Places, Landed, Recorded, Made, Released, Held, Renewed}
use Rattle.txn_model.specs.Prewrite.{least_bound}
use Rattle.txn_kv.specs.declared.request.commits.PrewriteRequest.{PrewriteRequest}
use Rattle.txn_model.specs.Store.{Store}

abbrev pub lock_bound : Option Lock → Option ℕ
lock_bound None = None
lock_bound (Some l) = Some l.min_commit

abbrev pub commit_bound : Option Write → Option ℕ
commit_bound None = None
commit_bound (Some w) = Some w.commit

-- the bound of the lock, else the one that it had, else the commit
abbrev pub bound_now : Cell → ℕ → Option ℕ → Option ℕ
bound_now c s old = or_earlier (lock_bound (own_prewrite_lock s c.lock)) (or_earlier old (commit_bound (commit_of c.commits s)))

abbrev pub bounds : List Event → ℕ → Key → Option ℕ
bounds [] s k = None
bounds (Served t r o ∷ es) s k = bound_now (cell_at (table (store_after es) r).store.cells k) s (bounds es s k)
bounds (_ ∷ es) s k = bounds es s k

pub owned : (m : Lock) (t : ℕ) → m.start ≡ t → is_prewrite m.kind ≡ true → owns (Some m) t ≡ true
owned m t a b = grind (arith, nat_tests)

pub owner : (l : Lock) (s : ℕ) → owns (Some l) s ≡ true → (l.start ≡ s) × (is_prewrite l.kind ≡ true)
owner l s h = grind (arith, nat_tests)

pub same_lock : (l m : Lock) → Some l ≡ Some m → l ≡ m
same_lock l m e = cc

pub same_number : (m n : ℕ) → Some m ≡ Some n → m ≡ n
same_number m n e = cc

-- what has no commit is not committed
pub no_commit : (c : Cell) (s n : ℕ) (x : Content) → commit_of c.commits s ≡ None → phase c s ≡ Committed n x → ⊥
no_commit c s n x e h = by c.lock refl
  where
    by : (o : Option Lock) → c.lock ≡ o → ⊥
    by None d = grind (arith, nat_tests)
    by (Some l) d = grind (arith, nat_tests)

-- the prewrite lock of a start
pub record OwnLock (c : Cell) (s : ℕ) (p : Key) (x : Content) : Type 0 where
  pub lock : Lock
  pub here : c.lock ≡ Some lock
  pub start : lock.start ≡ s
  pub prewrite : is_prewrite lock.kind ≡ true
  pub primary : lock.primary ≡ p
  pub writes : content lock.kind lock.value ≡ x

pub own_lock : (c : Cell) (s : ℕ) (p : Key) (x : Content) → phase c s ≡ Locked p x → OwnLock c s p x
own_lock c s p x h = by_lock c.lock refl
  where
    by_lock : (o : Option Lock) → c.lock ≡ o → OwnLock c s p x
    by_lock None e = absurd (grind (arith, nat_tests))
    by_lock (Some l) e = record { lock = l; here = e; start = grind (arith, nat_tests); prewrite = grind (arith, nat_tests); primary = grind (arith, nat_tests); writes = grind (arith, nat_tests) }

or_none : (o : Option ℕ) → or_earlier o None ≡ o
or_none None = refl
or_none (Some m) = refl

pub now_locked : (c : Cell) (s : ℕ) (l : Lock) (old : Option ℕ) → c.lock ≡ Some l → l.start ≡ s → is_prewrite l.kind ≡ true → bound_now c s old ≡ Some l.min_commit
now_locked c s l old e h p = grind (arith, nat_tests)

no_own : (c : Cell) (s : ℕ) → owns c.lock s ≡ false → own_prewrite_lock s c.lock ≡ None
no_own c s h = by c.lock h
  where
    by : (o : Option Lock) → owns o s ≡ false → own_prewrite_lock s o ≡ None
    by None e = refl
    by (Some l) e = rw e refl

free_unowned : (c : Cell) (s : ℕ) → phase c s ≡ Free → (owns c.lock s ≡ false) × (commit_of c.commits s ≡ None)
free_unowned c s h = by_lock c.lock refl
  where
    by_lock : (o : Option Lock) → c.lock ≡ o → (owns c.lock s ≡ false) × (commit_of c.commits s ≡ None)
    by_lock None e = grind (arith, nat_tests)
    by_lock (Some l) e = grind (arith, nat_tests)

rolled_unowned : (c : Cell) (s : ℕ) → IsSound c → phase c s ≡ RolledBack → (owns c.lock s ≡ false) × (commit_of c.commits s ≡ None)
rolled_unowned c s i h = (by_lock c.lock refl, i.rolled s rolled)
  where
    rolled : has_start c.rolled s ≡ true
    rolled = by_lock c.lock refl
      where
        by_lock : (o : Option Lock) → c.lock ≡ o → has_start c.rolled s ≡ true
        by_lock None e = grind (arith, nat_tests)
        by_lock (Some l) e = grind (arith, nat_tests)

    by_lock : (o : Option Lock) → c.lock ≡ o → owns c.lock s ≡ false
    by_lock None e = rw e refl
    by_lock (Some l) e = grind (arith, nat_tests, i.lock s)

pub now_free : (c : Cell) (s : ℕ) (old : Option ℕ) → phase c s ≡ Free → bound_now c s old ≡ old
now_free c s old h = let w = free_unowned c s h in let a = no_own c s w.0 in let b = w.1 in rw (a, b) (or_none old)

pub now_rolled : (c : Cell) (s : ℕ) (old : Option ℕ) → IsSound c → phase c s ≡ RolledBack → bound_now c s old ≡ old
now_rolled c s old i h = let w = rolled_unowned c s i h in let a = no_own c s w.0 in let b = w.1 in rw (a, b) (or_none old)

pub committed_unowned : (c : Cell) (s n : ℕ) (x : Content) → IsSound c → phase c s ≡ Committed n x → (owns c.lock s ≡ false) × ((w : Write) × (commit_of c.commits s ≡ Some w) × (w.commit ≡ n))
committed_unowned c s n x i h = (by_lock c.lock refl, by_commit (commit_of c.commits s) refl)
  where
    by_lock : (o : Option Lock) → c.lock ≡ o → owns c.lock s ≡ false
    by_lock None e = rw e refl
    by_lock (Some l) e = grind (arith, nat_tests, i.lock s)

    by_commit : (o : Option Write) → commit_of c.commits s ≡ o → (w : Write) × (commit_of c.commits s ≡ Some w) × (w.commit ≡ n)
    by_commit None e = absurd (no_commit c s n x e h)
    by_commit (Some w) e = (w, e, grind (arith, nat_tests))

pub now_committed : (c : Cell) (s n : ℕ) (x : Content) (old : Option ℕ) → IsSound c → phase c s ≡ Committed n x → bound_now c s old ≡ or_earlier old (Some n)
now_committed c s n x old i h =
    let w = committed_unowned c s n x i h in
    let a = no_own c s w.0 in
    let e = w.1.1 in
    let same : commit_bound (commit_of c.commits s) ≡ Some n = rw e (ap Some w.1.2) in
    rw a (ap (or_earlier old) same)

-- a prewrite lock that is there was there, as far as its bound goes, or is set now
abbrev pub WasThere : Cell → Lock → Type 0
WasThere c l = (m : Lock) × (c.lock ≡ Some m) × (m.start ≡ l.start) × (is_prewrite m.kind ≡ true) × (m.min_commit ≡ l.min_commit) × (m.use_async ≡ l.use_async) × (m.secondaries ≡ l.secondaries)

was_there : (c : Cell) (l : Lock) → c.lock ≡ Some l → is_prewrite l.kind ≡ true → WasThere c l
was_there c l e p = (l, e, refl, p, refl, refl, refl)

-- a lock that stands once another is taken away was there
pub taken_away : (b : Bool) (c : Cell) (l : Lock) → (if b then None else c.lock) ≡ Some l → c.lock ≡ Some l
taken_away true c l e = absurd (cc)
taken_away false c l e = e

pub commit_lock_from : (s n : ℕ) (o : Option Lock) (c : Cell) (l : Lock) → c.lock ≡ o → (commit_lock s n o c).lock ≡ Some l → c.lock ≡ Some l
commit_lock_from s n None c l e h = h
commit_lock_from s n (Some m) c l e h = by (nat_eq m.start s && is_prewrite m.kind) h
  where
    by : (b : Bool) → (if b then record { key = c.key; lock = None; commits = with_commit (record { start = s; commit = n; kind = m.kind; value = m.value }) c.commits; rolled = c.rolled } else c).lock ≡ Some l → c.lock ≡ Some l
    by true g = absurd (cc)
    by false g = g

pub commit_takes : (s n : ℕ) (c : Cell) (l m : Lock) → c.lock ≡ Some m → m.start ≡ s → is_prewrite m.kind ≡ true → (committed s n c).lock ≡ Some l → ⊥
commit_takes s n c l m e d p h = by (nat_eq m.start s && is_prewrite m.kind) (grind (arith, nat_tests)) (subst (λ o. (commit_lock s n o c).lock ≡ Some l) e h)
  where
    by : (b : Bool) → b ≡ true → (if b then record { key = c.key; lock = None; commits = with_commit (record { start = s; commit = n; kind = m.kind; value = m.value }) c.commits; rolled = c.rolled } else c).lock ≡ Some l → ⊥
    by true g f = cc
    by false g f = cc

pub lock_after : (n : ℕ) (r : Request) (k : Key) (c d : Cell) → CellStep n r k c d → (l : Lock) → d.lock ≡ Some l → is_prewrite l.kind ≡ true → WasThere c l ⊎ (SetBy r n false l × (owns c.lock l.start ≡ false) × May r k l.start c (Locks l.primary (content l.kind l.value)))
lock_after n r k c d Same l e p = inl (was_there c l e p)
lock_after n r k c d (Places m q a w v f) l e p = inr (by (owns c.lock m.start) f e)
  where
    by : (b : Bool) → b ≡ false → (if b then c else held m c).lock ≡ Some l → SetBy r n false l × (owns c.lock l.start ≡ false) × May r k l.start c (Locks l.primary (content l.kind l.value))
    by true g h = absurd (cc)
    by false g h = let same : m ≡ l = cc in (subst (SetBy r n false) same v, subst (λ z. owns c.lock z.start ≡ false) same f, subst (λ z. May r k z.start c (Locks z.primary (content z.kind z.value))) same w)
lock_after n r k c d (Landed m q a w v f) l e p = absurd (commit_takes m.start n (placed m c) l m (by (owns c.lock m.start) f) refl q e)
  where
    by : (b : Bool) → b ≡ false → (if b then c else held m c).lock ≡ Some m
    by true g = absurd (cc)
    by false g = refl
lock_after n r k c d (Recorded s a w) l e p = inl (was_there c l (taken_away (holds c.lock s) c l e) p)
lock_after n r k c d (Made s at w) l e p = inl (was_there c l (commit_lock_from s at c.lock c l refl e) p)
lock_after n r k c d (Released s) l e p = inl (was_there c l (by (owns c.lock s) e) p)
  where
    by : (b : Bool) → (if b then c else unlocked s c).lock ≡ Some l → c.lock ≡ Some l
    by true g = g
    by false g = taken_away (holds c.lock s) c l g
lock_after n r k c d (Held m q a b) l e p = absurd (let same : m ≡ l = cc in let z = subst (λ o. is_prewrite o.kind ≡ false) same q in cc)
lock_after n r k c d (Renewed m ttl h) l e p = inl (m, h, same_fields.0, subst (λ o. is_prewrite o ≡ true) (sym same_fields.1) p, same_fields.2, same_fields.3, same_fields.4)
  where
    same_fields : (m.start ≡ l.start) × (m.kind ≡ l.kind) × (m.min_commit ≡ l.min_commit) × (m.use_async ≡ l.use_async) × (m.secondaries ≡ l.secondaries)
    same_fields = let same : Some (longer_lived ttl m) ≡ Some l = e in grind (arith)

-- The bound of a Prewrite's locks is above its start, above each read, and above each earlier time that it names.

pub above_start : (st : Store) (q : PrewriteRequest) → IsRoomy st → q.start_version ≤ st.last → q.start_version < least_bound st q
above_start st q room a = omega (arith, room, a)

pub above_reads : (st : Store) (q : PrewriteRequest) → IsRoomy st → st.max_read ≤ st.last → st.max_read < least_bound st q
above_reads st q room a = omega (arith, room, a)

pub above_update : (st : Store) (q : PrewriteRequest) (f : ℕ) → IsRoomy st → f ≤ st.last → f ≤ q.for_update_ts → f < least_bound st q
above_update st q f room a b = omega (arith, room, a, b)
