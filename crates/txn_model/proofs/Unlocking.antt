-- Commits of several keys, one after another.
use Rattle.std.proofs.Common.{◌≡◌, ℕ, suc, zero, ◌+◌, ◌-◌, ◌<◌, ◌≤◌, Bool, true, false, ◌&&◌, if◌then◌else◌, List, [], ◌∷◌, ◌++◌, take, drop, reverse, length, get_or, set, Option, Some, None, refl, sym, ap, ◌∙◌, subst, arith, append-nil}
use Rattle.std.specs.Prelude.{◌||◌, nat_eq, nat_lt, slice_get, option_to_list}
use Rattle.std.specs.List.{insert, remove}
use Rattle.std.proofs.lemmas.List.{drop_more, take_more, reverse-append}
use Rattle.std.proofs.lemmas.Bool.Decides.{nat_tests}
use Rattle.std.proofs.lemmas.List.Folds.{list_any-append}
use Rattle.txn_model.specs.declared.cell.Cell.{Cell}
use Rattle.txn_model.specs.declared.cell.Lock.{Lock}
use Rattle.txn_model.specs.declared.cell.Write.{Write}
use Rattle.txn_model.specs.declared.unlock.Unlocked.{Unlocked}
use Rattle.txn_model.specs.Cells.{Key, key_eq, has_key, no_cell, is_empty_cell, has_none, cell_at, changed_at, AreKept}
use Rattle.txn_model.specs.Commit.{committed, commit_lock}
use Rattle.txn_model.specs.Locks.{all_above, with_commit, is_prewrite}
use Rattle.txn_model.specs.Places.{IsAt, IsGapFor}
use Rattle.txn_model.specs.Unlocks.{value_in, lock_back, relocked, cell_in, all_undone, CanUndoAll, Undoes}
use Rattle.txn_model.proofs.CellLists.{same_cells, kept_changed, cell_changed, KeepsKeys}
use Rattle.txn_model.proofs.PlacesInOrder.{changed_set, cell_in_gap, kept_set, full_read}
use Rattle.txn_model.proofs.Keys.{same_key}

not_all_above : (n : ℕ) (ws : List Write) (i : ℕ) (d : Write) → i < length ws → nat_lt n (get_or ws i d).commit ≡ false → all_above n ws ≡ false
not_all_above n [] i d l h = absurd (omega arith)
not_all_above n (w ∷ ws) zero d l h = rw h refl
not_all_above n (w ∷ ws) (suc i) d l h = by (nat_lt n w.commit) (not_all_above n ws i d (omega arith) h)
  where
    by : (b : Bool) → all_above n ws ≡ false → (b && all_above n ws) ≡ false
    by true rest = rest
    by false rest = refl

-- the place before those at the end that are above the commit
pub placed_at : (ws : List Write) (i : ℕ) (w d : Write) → i ≤ length ws → all_above w.commit (drop i ws) ≡ true → (0 < i → nat_lt w.commit (get_or ws (i - 1) d).commit ≡ false) → insert ws i w ≡ with_commit w ws
placed_at [] zero w d l above below = refl
placed_at [] (suc i) w d l above below = absurd (omega arith)
placed_at (v ∷ ws) zero w d l above below = sym (rw above refl)
placed_at (v ∷ ws) (suc i) w d l above below =
    let there : nat_lt w.commit (get_or (v ∷ ws) i d).commit ≡ false = subst (λ k. nat_lt w.commit (get_or (v ∷ ws) k d).commit ≡ false) {x = suc i - 1} (omega arith) (below (omega arith)) in
    let rest = placed_at ws i w d (omega arith) above (later i there) in
    sym (rw (not_all_above w.commit (v ∷ ws) i d (omega arith) there) (ap (λ x. v ∷ x) (sym rest)))
  where
    later : (i : ℕ) → nat_lt w.commit (get_or (v ∷ ws) i d).commit ≡ false → 0 < i → nat_lt w.commit (get_or ws (i - 1) d).commit ≡ false
    later zero h p = absurd (omega arith)
    later (suc i) h p = subst (λ k. nat_lt w.commit (get_or ws k d).commit ≡ false) {x = i} (omega arith) h

-- one more from the end is above
pub above_more : (ws : List Write) (i : ℕ) (n : ℕ) (v : Write) → 0 < i → i ≤ length ws → v ≡ get_or ws (i - 1) v → n < v.commit → all_above n (drop i ws) ≡ true → all_above n (drop (i - 1) ws) ≡ true
above_more ws i n v p l is less above =
    let test : nat_lt n v.commit ≡ true = grind (arith, nat_tests) in
    ap (all_above n) (drop_more ws (i - 1) v (omega arith)) ∙ rw (← is, test) (subst (λ k. all_above n (drop k ws) ≡ true) {x = i} (omega arith) above)

-- What a commit makes of a cell.

pub commit_key_same : (s n : ℕ) → KeepsKeys (committed s n)
commit_key_same s n c = by c.lock
  where
    by : (l : Option Lock) → (commit_lock s n l c).key ≡ c.key
    by None = refl
    by (Some l) = on (nat_eq l.start s && is_prewrite l.kind)
      where
        on : (b : Bool) → (if b then record { key = c.key; lock = None; commits = with_commit (record { start = s; commit = n; kind = l.kind; value = l.value }) c.commits; rolled = c.rolled } else c).key ≡ c.key
        on true = refl
        on false = refl

some_commit : (w : Write) (ws : List Write) → has_none (with_commit w ws) ≡ false
some_commit w [] = refl
some_commit w (v ∷ ws) = by (all_above w.commit (v ∷ ws))
  where
    by : (b : Bool) → has_none (if b then w ∷ v ∷ ws else v ∷ with_commit w ws) ≡ false
    by true = refl
    by false = refl

pub committed_full : (s n : ℕ) (c : Cell) → is_empty_cell c ≡ false → is_empty_cell (committed s n c) ≡ false
committed_full s n c full = by c.lock
  where
    by : (l : Option Lock) → is_empty_cell (commit_lock s n l c) ≡ false
    by None = full
    by (Some l) = on (nat_eq l.start s && is_prewrite l.kind)
      where
        on : (b : Bool) → is_empty_cell (if b then record { key = c.key; lock = None; commits = with_commit (record { start = s; commit = n; kind = l.kind; value = l.value }) c.commits; rolled = c.rolled } else c) ≡ false
        on true = rw (some_commit (record { start = s; commit = n; kind = l.kind; value = l.value }) c.commits) refl
        on false = full

-- once committed, a cell stays
pub committed_twice : (s n : ℕ) (c : Cell) → committed s n (committed s n c) ≡ committed s n c
committed_twice s n c = by c.lock refl
  where
    by : (l : Option Lock) → c.lock ≡ l → committed s n (commit_lock s n l c) ≡ commit_lock s n l c
    by None e = rw e refl
    by (Some l) e = on (nat_eq l.start s && is_prewrite l.kind) refl
      where
        on : (b : Bool) → (nat_eq l.start s && is_prewrite l.kind) ≡ b → committed s n (if b then record { key = c.key; lock = None; commits = with_commit (record { start = s; commit = n; kind = l.kind; value = l.value }) c.commits; rolled = c.rolled } else c) ≡ (if b then record { key = c.key; lock = None; commits = with_commit (record { start = s; commit = n; kind = l.kind; value = l.value }) c.commits; rolled = c.rolled } else c)
        on true f = refl
        on false f = rw (e, f) refl

-- a key that has a gap has nothing to commit
pub commit_absent : (cs : List Cell) (key : Key) (at : ℕ) (s n : ℕ) → IsGapFor cs key at → (k : Key) → cell_at cs k ≡ (if key_eq key k then committed s n (cell_at cs k) else cell_at cs k)
commit_absent cs key at s n gap k = by (key_eq key k) refl
  where
    by : (b : Bool) → key_eq key k ≡ b → cell_at cs k ≡ (if b then committed s n (cell_at cs k) else cell_at cs k)
    by true e = let none : cell_at cs k ≡ no_cell key = subst (λ q. cell_at cs q ≡ no_cell key) (same_key key k e) (cell_in_gap cs key at gap) in rw none refl
    by false e = refl

-- the commit at a place
pub commit_there : (cs : List Cell) (key : Key) (at : ℕ) (c m : Cell) (s n : ℕ) → AreKept cs → IsAt cs key at → c ≡ get_or cs at c → m ≡ committed s n c → (k : Key) → cell_at (set cs at m) k ≡ (if key_eq key k then committed s n (cell_at cs k) else cell_at cs k)
commit_there cs key at c m s n kept is read makes = changed_set cs key at c m (committed s n) kept.in_order is read makes (ap (λ x. x.key) makes ∙ (commit_key_same s n c ∙ (ap (λ x. x.key) read ∙ is.has_key c)))

pub kept_commit : (cs : List Cell) (key : Key) (at : ℕ) (c m : Cell) (s n : ℕ) → AreKept cs → IsAt cs key at → c ≡ get_or cs at c → m ≡ committed s n c → AreKept (set cs at m)
kept_commit cs key at c m s n kept is read makes =
    kept_set cs key at m kept is (ap (λ x. x.key) makes ∙ (commit_key_same s n c ∙ (ap (λ x. x.key) read ∙ is.has_key c)))
    (ap is_empty_cell makes ∙ committed_full s n c (full_read cs key at c kept is read))

-- one key more
pub committed_more : (keys : List Key) (i : ℕ) (key : Key) (s n : ℕ) (c d e : Cell) (k : Key) → i < length keys → key ≡ get_or keys i key → d ≡ (if has_key (take i keys) k then committed s n c else c) → e ≡ (if key_eq key k then committed s n d else d) → e ≡ (if has_key (take (i + 1) keys) k then committed s n c else c)
committed_more keys i key s n c d e k l read so_far step =
    let more : has_key (take (i + 1) keys) k ≡ (has_key (take i keys) k || (key_eq key k || false)) = ap (λ x. has_key x k) (take_more keys i key l ∙ ap (λ x. take i keys ++ x ∷ []) (sym read)) ∙ list_any-append (λ x. key_eq x k) (take i keys) (key ∷ []) in
    step ∙ (ap (λ x. if key_eq key k then committed s n x else x) so_far ∙ (by (has_key (take i keys) k) (key_eq key k) ∙ ap (λ b. if b then committed s n c else c) (sym more)))
  where
    by : (a b : Bool) → (if b then committed s n (if a then committed s n c else c) else (if a then committed s n c else c)) ≡ (if a || (b || false) then committed s n c else c)
    by true true = committed_twice s n c
    by true false = refl
    by false true = refl
    by false false = refl

-- cells that show at each key what the commit makes of it are those of the table
pub committed_is_changed : (keys : List Key) (s n : ℕ) (cs ds : List Cell) → AreKept cs → AreKept ds → ((k : Key) → cell_at ds k ≡ (if has_key keys k then committed s n (cell_at cs k) else cell_at cs k)) → ds ≡ changed_at keys (committed s n) cs
committed_is_changed keys s n cs ds old new commits =
    let f = committed s n in
    let keeps = commit_key_same s n in
    let after = kept_changed keys f keeps cs old.in_order in
    same_cells ds (changed_at keys f cs) new.in_order new.none_empty after.in_order after.none_empty
    (λ k. commits k ∙ sym (cell_changed keys f keeps cs old.in_order k))

-- Undoing.

-- the last of those that may be undone
pub last_first : (P : List Unlocked → Type 0) (before rest : List Unlocked) (u : Unlocked) → before ≡ rest ++ u ∷ [] → P (reverse before) → P (u ∷ reverse rest)
last_first P before rest u e p = subst P (ap reverse e ∙ reverse-append rest (u ∷ [])) p

pub first_last : (P : List Unlocked → Type 0) (done next : List Unlocked) (u : Unlocked) → next ≡ done ++ u ∷ [] → P (u ∷ reverse done) → P (reverse next)
first_last P done next u e p = subst P (sym (ap reverse e ∙ reverse-append done (u ∷ []))) p

-- one more that may be undone
pub can_more : (done next : List Unlocked) (o : Option Unlocked) (old new : List Cell) → next ≡ done ++ option_to_list o → Undoes o old new → CanUndoAll (reverse done) old → CanUndoAll (reverse next) new
can_more done next None old new e h can = subst (λ us. CanUndoAll (reverse us) new) (sym (e ∙ append-nil done)) (subst (CanUndoAll (reverse done)) (sym h) can)
can_more done next (Some u) old new e h can = first_last (λ us. CanUndoAll us new) done next u e (h.0, subst (CanUndoAll (reverse done)) (sym h.1) can)

pub back_more : (done next : List Unlocked) (o : Option Unlocked) (old new start : List Cell) → next ≡ done ++ option_to_list o → Undoes o old new → all_undone (reverse done) old ≡ start → all_undone (reverse next) new ≡ start
back_more done next None old new start e h back = ap (λ us. all_undone (reverse us) new) (e ∙ append-nil done) ∙ (ap (all_undone (reverse done)) h ∙ back)
back_more done next (Some u) old new start e h back = first_last (λ us. all_undone us new ≡ start) done next u e (ap (all_undone (reverse done)) h.1 ∙ back)

-- A lock that became a commit, put back.

taken_at : (ws : List Write) (i : ℕ) (w : Write) → i ≤ length ws → (i < length (insert ws i w)) × (slice_get (insert ws i w) i ≡ Some w) × (remove (insert ws i w) i ≡ ws)
taken_at [] zero w l = (omega arith, refl, refl)
taken_at [] (suc i) w l = absurd (omega arith)
taken_at (v ∷ ws) zero w l = (omega arith, refl, refl)
taken_at (v ∷ ws) (suc i) w l =
    let rest = taken_at ws i w (omega arith) in
    (let h = rest.0 in omega arith, rest.1, ap (λ x. v ∷ x) rest.2)

pub relocked_back : (c : Cell) (l : Lock) (o : Option Lock) (v : List ℕ) (place : ℕ) (w : Write) (ws : List Write) → c.lock ≡ Some l → place ≤ length c.commits → ws ≡ insert c.commits place w → w.value ≡ l.value → (place < length ws) × (relocked place (lock_back l v) (record { key = c.key; lock = o; commits = ws; rolled = c.rolled }) ≡ c)
relocked_back c l o v place w ws held within grows same =
    let there = taken_at c.commits place w within in
    let in_range : place < length ws = rw grows there.0 in
    let value : value_in (slice_get ws place) ≡ l.value = ap (λ x. value_in (slice_get x place)) grows ∙ (ap value_in there.1 ∙ same) in
    let lock : Option Lock = Some (lock_back l (value_in (slice_get ws place))) in
    let locks : lock ≡ c.lock = ap (λ x. Some (lock_back l x)) value ∙ sym held in
    let commits : remove ws place ≡ c.commits = ap (λ x. remove x place) grows ∙ there.2 in
    (in_range, λ i. record { key = c.key; lock = locks i; commits = commits i; rolled = c.rolled })

cell_put : (cs : List Cell) (at : ℕ) (m : Cell) → at < length cs → (at < length (set cs at m)) × (slice_get (set cs at m) at ≡ Some m)
cell_put [] at m l = absurd (omega arith)
cell_put (c ∷ cs) zero m l = (omega arith, refl)
cell_put (c ∷ cs) (suc at) m l = let rest = cell_put cs at m (omega arith) in (let h = rest.0 in omega arith, rest.1)

put_back : (cs : List Cell) (at : ℕ) (m c : Cell) → at < length cs → c ≡ get_or cs at c → set (set cs at m) at c ≡ cs
put_back [] at m c l e = absurd (omega arith)
put_back (x ∷ cs) zero m c l e = ap (λ y. y ∷ cs) e
put_back (x ∷ cs) (suc at) m c l e = ap (λ y. x ∷ y) (put_back cs at m c (omega arith) e)

pub undo_there : (cs : List Cell) (at place : ℕ) (lock : Lock) (c m : Cell) → at < length cs → c ≡ get_or cs at c → place < length m.commits → relocked place lock m ≡ c → Undoes (Some (record { at = at; place = place; lock = lock })) cs (set cs at m)
undo_there cs at place lock c m l read in_range back =
    let there = cell_put cs at m l in
    let found : cell_in (slice_get (set cs at m) at) ≡ m = ap cell_in there.1 in
    let can : place < length (cell_in (slice_get (set cs at m) at)).commits = rw found in_range in
    (record { cell = there.0; commit = can }, ap (λ x. set (set cs at m) at (relocked place lock x)) found ∙ (ap (set (set cs at m) at) back ∙ put_back cs at m c l read))

pub not_less : (n : ℕ) (w x : Write) → w.commit ≡ n → x.commit ≤ n → nat_lt w.commit x.commit ≡ false
not_less n w x e le = rw e (grind (arith, nat_tests))
