-- What a ResolveLock does to the cells.
use Rattle.std.proofs.Common.{◌≡◌, ℕ, inl, inr, Bool, true, false, ◌&&◌, List, [], ◌∷◌, Option, Some, None, nat_eq, nat_lt, refl, sym, ap, ◌∙◌, subst, arith}
use Rattle.std.specs.Prelude.{if◌then◌else◌}
use Rattle.std.proofs.lemmas.Bool.Decides.{nat_tests}
use Rattle.txn_kv.specs.declared.message.RegionErr.{RegionErr}
use Rattle.txn_kv.specs.declared.message.TxnInfo.{TxnInfo}
use Rattle.txn_kv.specs.declared.request.Request.TheVariants.{ResolveLock}
use Rattle.txn_kv.specs.declared.request.locks.ResolveLockRequest.{ResolveLockRequest}
use Rattle.txn_history.specs.Among.{IsAmong}
use Rattle.txn_history.specs.Plan.{Key}
use Rattle.txn_model.specs.declared.cell.Cell.{Cell}
use Rattle.txn_model.specs.declared.cell.Lock.{Lock}
use Rattle.txn_model.specs.Cells.{no_cell, cell_at, AreInOrder}
use Rattle.txn_model.specs.Commit.{committed, commit_lock}
use Rattle.txn_model.specs.Locks.{is_prewrite, owns, holds, commit_of, with_commit}
use Rattle.txn_model.specs.Resolve.{infos, settled, all_settled, is_in_context, resolve_lock_by}
use Rattle.txn_model.specs.Settle.{rolled_back, released, unlocked}
use Rattle.txn_model.specs.Store.{Store}
use Rattle.txn_model.proofs.CellLists.{KeepsKeys, order_each, cell_each}
use Rattle.txn_law.proofs.Phases.{IsSound}
use Rattle.txn_law.proofs.Moves.{CellStep, RowStep, row_same, if_cell}
use Rattle.txn_law.proofs.Moves.CellStep.{Same, Recorded, Made, Released}

-- the keys stay

pub commit_keeps : (s n : ℕ) → KeepsKeys (committed s n)
commit_keeps s n c = by_lock c.lock
  where
    by_lock : (o : Option Lock) → (commit_lock s n o c).key ≡ c.key
    by_lock None = refl
    by_lock (Some l) = by (nat_eq l.start s && is_prewrite l.kind)
      where
        by : (b : Bool) → (if b then record { key = c.key; lock = None; commits = with_commit (record { start = s; commit = n; kind = l.kind; value = l.value }) c.commits; rolled = c.rolled } else c).key ≡ c.key
        by true = refl
        by false = refl

pub release_keeps : (s : ℕ) → KeepsKeys (released s)
release_keeps s c = by (owns c.lock s)
  where
    by : (b : Bool) → (if b then c else unlocked s c).key ≡ c.key
    by true = refl
    by false = refl

settle_keeps : (i : TxnInfo) → KeepsKeys (settled i)
settle_keeps i c = by (owns c.lock i.txn) (nat_lt 0 i.status)
  where
    by : (a b : Bool) → (if a then (if b then committed i.txn i.status c else rolled_back i.txn c) else released i.txn c).key ≡ c.key
    by true true = commit_keeps i.txn i.status c
    by true false = refl
    by false b = release_keeps i.txn c

settles_keep : (is : List TxnInfo) → KeepsKeys (all_settled is)
settles_keep [] c = refl
settles_keep (i ∷ is) c = settles_keep is (settled i c) ∙ settle_keeps i c

-- only a lock is settled

owner_holds : (o : Option Lock) (s : ℕ) → owns o s ≡ true → holds o s ≡ true
owner_holds None s h = absurd (cc)
owner_holds (Some l) s h = grind (arith, nat_tests)

pub not_held : (i : TxnInfo) (c : Cell) → holds c.lock i.txn ≡ false → settled i c ≡ c
not_held i c h = by (owns c.lock i.txn) refl
  where
    by : (a : Bool) → owns c.lock i.txn ≡ a → (if a then (if nat_lt 0 i.status then committed i.txn i.status c else rolled_back i.txn c) else (if a then c else unlocked i.txn c)) ≡ c
    by true e = absurd (let f = owner_holds c.lock i.txn e in cc)
    by false e = rw h refl

pub none_settled : (is : List TxnInfo) (c : Cell) → c.lock ≡ None → all_settled is c ≡ c
none_settled [] c h = refl
none_settled (i ∷ is) c h =
    let same : settled i c ≡ c = not_held i c (rw h refl) in
    ap (all_settled is) same ∙ none_settled is c h

commit_unlocks : (s n : ℕ) (c : Cell) → owns c.lock s ≡ true → (committed s n c).lock ≡ None
commit_unlocks s n c h = by c.lock h
  where
    by : (o : Option Lock) → owns o s ≡ true → (commit_lock s n o c).lock ≡ None
    by None e = absurd (cc)
    by (Some l) e = rw e refl

pub held_unlocks : (i : TxnInfo) (c : Cell) → holds c.lock i.txn ≡ true → (settled i c).lock ≡ None
held_unlocks i c h = by (owns c.lock i.txn) (nat_lt 0 i.status) refl
  where
    by : (a b : Bool) → owns c.lock i.txn ≡ a → (if a then (if b then committed i.txn i.status c else rolled_back i.txn c) else (if a then c else unlocked i.txn c)).lock ≡ None
    by true true e = commit_unlocks i.txn i.status c e
    by true false e = rw h refl
    by false b e = rw h refl

-- a start that has a lock has no commit
held_uncommitted : (c : Cell) (s : ℕ) → IsSound c → holds c.lock s ≡ true → commit_of c.commits s ≡ None
held_uncommitted c s i h = (i.lock s h).1

one_settled : (r : ResolveLockRequest) (k : Key) (i : TxnInfo) (c : Cell) → IsAmong (infos r) i → IsSound c → CellStep 0 (ResolveLock r) k c (settled i c)
one_settled r k i c a sound = by (owns c.lock i.txn) (nat_lt 0 i.status) refl refl
  where
    by : (x y : Bool) → owns c.lock i.txn ≡ x → nat_lt 0 i.status ≡ y → CellStep 0 (ResolveLock r) k c (if x then (if y then committed i.txn i.status c else rolled_back i.txn c) else released i.txn c)
    by true true e f = Made i.txn i.status (i, a, refl, refl, grind (arith, nat_tests))
    by true false e f = Recorded i.txn (held_uncommitted c i.txn sound (owner_holds c.lock i.txn e)) (i, a, refl, grind (arith, nat_tests))
    by false y e f = Released i.txn

-- the first that names the lock's start settles it, and the others leave the cell
settle_step : (r : ResolveLockRequest) (k : Key) (is : List TxnInfo) (c : Cell) → ((i : TxnInfo) → IsAmong is i → IsAmong (infos r) i) → IsSound c → CellStep 0 (ResolveLock r) k c (all_settled is c)
settle_step r k [] c a sound = Same
settle_step r k (i ∷ is) c a sound = by (settle_step r k is c (λ j w. a j (inr w)) sound) (holds c.lock i.txn) refl
  where
    by : CellStep 0 (ResolveLock r) k c (all_settled is c) → (b : Bool) → holds c.lock i.txn ≡ b → CellStep 0 (ResolveLock r) k c (all_settled is (settled i c))
    by rest true e = subst (CellStep 0 (ResolveLock r) k c) (sym (none_settled is (settled i c) (held_unlocks i c e))) (one_settled r k i c (a i (inl refl)) sound)
    by rest false e = subst (λ d. CellStep 0 (ResolveLock r) k c (all_settled is d)) (sym (not_held i c e)) rest

abbrev pub in_region : Store → ResolveLockRequest → Cell → Cell
in_region st r c = if is_in_context st.regions r.context c.key then all_settled (infos r) c else c

pub region_keeps : (st : Store) (r : ResolveLockRequest) → KeepsKeys (in_region st r)
region_keeps st r c = by (is_in_context st.regions r.context c.key)
  where
    by : (b : Bool) → (if b then all_settled (infos r) c else c).key ≡ c.key
    by true = settles_keep (infos r) c
    by false = refl

pub region_none : (st : Store) (r : ResolveLockRequest) (k : Key) → in_region st r (no_cell k) ≡ no_cell k
region_none st r k = by (is_in_context st.regions r.context k)
  where
    by : (b : Bool) → (if b then all_settled (infos r) (no_cell k) else no_cell k) ≡ no_cell k
    by true = none_settled (infos r) (no_cell k) refl
    by false = refl

pub row_resolve : (st : Store) (r : ResolveLockRequest) → AreInOrder st.cells → (e : Option RegionErr) → RowStep st (ResolveLock r) (resolve_lock_by e st r).store.cells
row_resolve st r o (Some e) = row_same st (ResolveLock r) o
row_resolve st r o None = record {
  in_order = order_each (in_region st r) (region_keeps st r) st.cells o;
  step = λ k i. subst (CellStep 0 (ResolveLock r) k (cell_at st.cells k)) (sym (cell_each (in_region st r) (region_keeps st r) st.cells k o (λ h. region_none st r k))) (if_cell (CellStep 0 (ResolveLock r) k (cell_at st.cells k)) (is_in_context st.regions r.context (cell_at st.cells k).key) (cell_at st.cells k) (all_settled (infos r) (cell_at st.cells k)) Same (λ e. settle_step r k (infos r) (cell_at st.cells k) (λ j w. w) i));
}
