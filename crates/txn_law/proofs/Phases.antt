-- The phase of a start at a cell, and how the cell's changes move it.
use Rattle.std.proofs.Common.{◌≡◌, ℕ, ◌<◌, ◌≤◌, ◌⊎◌, inl, inr, Bool, true, false, ◌&&◌, ◌||◌, cond, List, [], ◌∷◌, Option, Some, None, nat_eq, nat_lt, refl, sym, subst, arith}
use Rattle.std.specs.Prelude.{if◌then◌else◌}
use Rattle.std.proofs.lemmas.Bool.Decides.{nat_tests}
use Rattle.txn_history.specs.Among.{IsAmong}
use Rattle.txn_history.specs.Plan.{Key, Content}
use Rattle.txn_model.specs.declared.cell.Cell.{Cell}
use Rattle.txn_model.specs.declared.cell.Lock.{Lock}
use Rattle.txn_model.specs.declared.cell.Write.{Write}
use Rattle.txn_model.specs.Locks.{has_start, is_prewrite, owns, holds, commit_of, with_commit, all_above, newest_after, newest_commit}
use Rattle.txn_model.specs.Commit.{committed, commit_lock}
use Rattle.txn_model.specs.Settle.{with_start, unlocked, rolled_back, released}
use Rattle.txn_model.specs.Status.{longer_lived, with_lock}
pub use Rattle.txn_law.specs.Sound.{IsSound}
use Rattle.txn_law.specs.Whole.{content}

pub data Phase : Type 0 where
  Free : Phase
  Locked : (primary : Key) (content : Content) → Phase
  Committed : (commit : ℕ) (content : Content) → Phase
  RolledBack : Phase

abbrev pub lock_phase : Option Lock → ℕ → Phase
lock_phase None s = Free
lock_phase (Some l) s = if nat_eq l.start s && is_prewrite l.kind then Locked l.primary (content l.kind l.value) else Free

abbrev pub commit_phase : Option Write → Phase → Phase
commit_phase (Some w) rest = Committed w.commit (content w.kind w.value)
commit_phase None rest = rest

-- where a start stands at a cell
abbrev pub phase : Cell → ℕ → Phase
phase c s = if has_start c.rolled s then RolledBack else commit_phase (commit_of c.commits s) (lock_phase c.lock s)

-- the three moves
pub data Move : Type 0 where
  Locks : (primary : Key) (content : Content) → Move
  Commits : (commit : ℕ) → Move
  Rolls : Move

abbrev pub Goes : Phase → Move → Phase → Type 0
Goes Free (Locks p x) after = after ≡ Locked p x
Goes Free (Commits n) after = ⊥
Goes Free Rolls after = after ≡ RolledBack
Goes (Locked p x) (Locks q y) after = ⊥
Goes (Locked p x) (Commits n) after = after ≡ Committed n x
Goes (Locked p x) Rolls after = after ≡ RolledBack
Goes (Committed n x) m after = ⊥
Goes RolledBack m after = ⊥

-- the changes of a cell

-- a lock is set, unless its start holds a prewrite lock
abbrev pub placed : Lock → Cell → Cell
placed l c = if owns c.lock l.start then c else record { key = c.key; lock = Some l; commits = c.commits; rolled = c.rolled }

-- a lock of the start that is no prewrite lock becomes another such, or nothing becomes one
abbrev pub held : Lock → Cell → Cell
held l c = record { key = c.key; lock = Some l; commits = c.commits; rolled = c.rolled }

pub commit_of_with : (w : Write) (vs : List Write) (s : ℕ) → commit_of vs w.start ≡ None → commit_of (with_commit w vs) s ≡ cond (nat_eq w.start s) (Some w) (commit_of vs s)
commit_of_with w [] s h = refl
commit_of_with w (v ∷ vs) s h = grind (arith, nat_tests, commit_of_with w vs s)

-- no lock or rollback of the start, and no commit: a prewrite may lock here
pub record IsOpen (c : Cell) (s : ℕ) : Type 0 where
  pub unrolled : has_start c.rolled s ≡ false
  pub uncommitted : owns c.lock s ≡ false → commit_of c.commits s ≡ None
  pub unlocked : (l : Lock) → c.lock ≡ Some l → l.start ≡ s
  pub newest : owns c.lock s ≡ false → (newest_commit c.commits ≤ s) ⊎ (holds c.lock s ≡ true)

pub phase_placed : (l : Lock) (c : Cell) (t : ℕ) → is_prewrite l.kind ≡ true → IsOpen c l.start → (phase (placed l c) t ≡ phase c t) ⊎ ((t ≡ l.start) × Goes (phase c t) (Locks l.primary (content l.kind l.value)) (phase (placed l c) t))
phase_placed l c t k h = by_owner (owns c.lock l.start) refl
  where
    by_lock : (o : Option Lock) → c.lock ≡ o → owns c.lock l.start ≡ false → (u : Bool) → nat_eq l.start t ≡ u → (phase (held l c) t ≡ phase c t) ⊎ ((t ≡ l.start) × Goes (phase c t) (Locks l.primary (content l.kind l.value)) (phase (held l c) t))
    by_lock None e f true g = let a = h.unrolled in let b = h.uncommitted f in grind (arith, nat_tests)
    by_lock None e f false g = inl (grind (arith, nat_tests))
    by_lock (Some o) e f true g = let a = h.unrolled in let b = h.uncommitted f in grind (arith, nat_tests)
    by_lock (Some o) e f false g = let a = h.unlocked o e in inl (grind (arith, nat_tests))

    by_owner : (b : Bool) → owns c.lock l.start ≡ b → (phase (if b then c else held l c) t ≡ phase c t) ⊎ ((t ≡ l.start) × Goes (phase c t) (Locks l.primary (content l.kind l.value)) (phase (if b then c else held l c) t))
    by_owner true e = inl refl
    by_owner false e = by_lock c.lock refl e (nat_eq l.start t) refl

pub sound_placed : (l : Lock) (c : Cell) → IsOpen c l.start → IsSound c → IsSound (placed l c)
sound_placed l c h i = by_owner (owns c.lock l.start) refl
  where
    lock_now : owns c.lock l.start ≡ false → (s : ℕ) → nat_eq l.start s ≡ true → (has_start c.rolled s ≡ false) × (commit_of c.commits s ≡ None)
    lock_now f s e = let a = h.unrolled in let b = h.uncommitted f in grind (arith, nat_tests)

    by_owner : (b : Bool) → owns c.lock l.start ≡ b → IsSound (if b then c else held l c)
    by_owner true e = i
    by_owner false e = record { lock = lock_now e; rolled = i.rolled; once = i.once; newest = i.newest }

pub has_with_start : (s : ℕ) (xs : List ℕ) (t : ℕ) → has_start (with_start s xs) t ≡ (nat_eq s t || has_start xs t)
has_with_start s [] t = refl
has_with_start s (x ∷ xs) t = grind (arith, nat_tests, has_with_start s xs t)

pub phase_rolled : (s : ℕ) (c : Cell) (t : ℕ) → commit_of c.commits s ≡ None → (phase (rolled_back s c) t ≡ phase c t) ⊎ ((t ≡ s) × Goes (phase c t) Rolls (phase (rolled_back s c) t))
phase_rolled s c t h = let e = has_with_start s c.rolled t in grind (arith, nat_tests)

pub sound_rolled : (s : ℕ) (c : Cell) → commit_of c.commits s ≡ None → IsSound c → IsSound (rolled_back s c)
sound_rolled s c h i = record {
  lock = λ t e. let f = has_with_start s c.rolled t in grind (arith, nat_tests);
  rolled = λ t e. let f = has_with_start s c.rolled t in grind (arith, nat_tests);
  once = i.once;
  newest = i.newest;
}

pub phase_committed : (s n : ℕ) (c : Cell) (t : ℕ) → IsSound c → (phase (committed s n c) t ≡ phase c t) ⊎ ((t ≡ s) × Goes (phase c t) (Commits n) (phase (committed s n c) t))
phase_committed s n c t i = grind (arith, nat_tests, commit_of_with)

pub has_with : (w : Write) (vs : List Write) (v : Write) → IsAmong (with_commit w vs) v → (w ≡ v) ⊎ IsAmong vs v
has_with w [] v h = h
has_with w (u ∷ vs) v h = grind (arith, has_with w vs v)

once_committed : (s n : ℕ) (c : Cell) → IsSound c → (w : Write) → IsAmong (committed s n c).commits w → commit_of (committed s n c).commits w.start ≡ Some w
once_committed s n c i w h = grind (arith, nat_tests, commit_of_with, has_with)

-- the last commit is the newest

above_newest : (m : ℕ) (vs : List Write) (n : ℕ) → m < n → all_above m vs ≡ true → m < newest_after n vs
above_newest m [] n h a = h
above_newest m (v ∷ vs) n h a = above_newest m vs v.commit (grind (arith, nat_tests)) (grind (arith, nat_tests))

newest_with : (w : Write) (vs : List Write) (n : ℕ) → w.commit ≤ newest_after n (with_commit w vs)
newest_with w [] n = omega arith
newest_with w (v ∷ vs) n = by (newest_with w vs v.commit) (all_above w.commit (v ∷ vs)) refl
  where
    by : w.commit ≤ newest_after v.commit (with_commit w vs) → (b : Bool) → all_above w.commit (v ∷ vs) ≡ b → w.commit ≤ newest_after n (if b then w ∷ v ∷ vs else v ∷ with_commit w vs)
    by rest true a =
        let here : w.commit < v.commit = grind (arith, nat_tests) in
        let others : all_above w.commit vs ≡ true = grind (arith, nat_tests) in
        let above = above_newest w.commit vs v.commit here others in
        omega (arith, above)
    by rest false a = rest

newest_grows : (w v : Write) (vs : List Write) (n : ℕ) → newest_after n (v ∷ vs) ≤ newest_after n (with_commit w (v ∷ vs))
newest_grows w v [] n = by (nat_lt w.commit v.commit) refl
  where
    by : (b : Bool) → nat_lt w.commit v.commit ≡ b → v.commit ≤ newest_after n (if b && true then w ∷ v ∷ [] else v ∷ w ∷ [])
    by true e = omega arith
    by false e = grind (arith, nat_tests)
newest_grows w v (u ∷ us) n = by (newest_grows w u us v.commit) (all_above w.commit (v ∷ u ∷ us))
  where
    by : newest_after v.commit (u ∷ us) ≤ newest_after v.commit (with_commit w (u ∷ us)) → (b : Bool) → newest_after v.commit (u ∷ us) ≤ newest_after n (if b then w ∷ v ∷ u ∷ us else v ∷ with_commit w (u ∷ us))
    by rest true = omega arith
    by rest false = rest

newest_among : (w : Write) (vs : List Write) (u : Write) → ((v : Write) → IsAmong vs v → v.commit ≤ newest_commit vs) → IsAmong (with_commit w vs) u → u.commit ≤ newest_commit (with_commit w vs)
newest_among w vs u i h = elim (has_with w vs u h) [ inl e ↦ subst (λ (v : Write). v.commit ≤ newest_commit (with_commit w vs)) e (newest_with w vs 0) | inr a ↦ grown vs i a ]
  where
    grown : (ws : List Write) → ((v : Write) → IsAmong ws v → v.commit ≤ newest_commit ws) → IsAmong ws u → u.commit ≤ newest_commit (with_commit w ws)
    grown [] j a = absurd a
    grown (v ∷ ws) j a = let b = j u a in let c = newest_grows w v ws 0 in omega (arith, b, c)

newest_committed : (s n : ℕ) (c : Cell) → IsSound c → (u : Write) → IsAmong (committed s n c).commits u → u.commit ≤ newest_commit (committed s n c).commits
newest_committed s n c i u h = by_lock c.lock h
  where
    by_own : (l : Lock) (b : Bool) → IsAmong (if b then record { key = c.key; lock = None; commits = with_commit (record { start = s; commit = n; kind = l.kind; value = l.value }) c.commits; rolled = c.rolled } else c).commits u → u.commit ≤ newest_commit (if b then record { key = c.key; lock = None; commits = with_commit (record { start = s; commit = n; kind = l.kind; value = l.value }) c.commits; rolled = c.rolled } else c).commits
    by_own l true g = newest_among (record { start = s; commit = n; kind = l.kind; value = l.value }) c.commits u i.newest g
    by_own l false g = i.newest u g

    by_lock : (o : Option Lock) → IsAmong (commit_lock s n o c).commits u → u.commit ≤ newest_commit (commit_lock s n o c).commits
    by_lock None g = i.newest u g
    by_lock (Some l) g = by_own l (nat_eq l.start s && is_prewrite l.kind) g

pub sound_committed : (s n : ℕ) (c : Cell) → IsSound c → IsSound (committed s n c)
sound_committed s n c i = record {
  lock = λ t h. grind (arith, nat_tests, commit_of_with);
  rolled = λ t h. grind (arith, nat_tests, commit_of_with);
  once = once_committed s n c i;
  newest = newest_committed s n c i;
}

-- What touches no prewrite lock moves no phase.
pub phase_released : (s : ℕ) (c : Cell) (t : ℕ) → phase (released s c) t ≡ phase c t
phase_released s c t = grind (arith, nat_tests)

pub sound_released : (s : ℕ) (c : Cell) → IsSound c → IsSound (released s c)
sound_released s c i = by (owns c.lock s)
  where
    free : (t : ℕ) → holds (if holds c.lock s then None else c.lock) t ≡ true → (has_start c.rolled t ≡ false) × (commit_of c.commits t ≡ None)
    free t h = i.lock t (grind (arith, nat_tests))

    by : (b : Bool) → IsSound (if b then c else unlocked s c)
    by true = i
    by false = record { lock = free; rolled = i.rolled; once = i.once; newest = i.newest }

-- no rollback and no commit of the start, and no lock but its own pessimistic one: a pessimistic lock may stand here
pub record IsClear (c : Cell) (s : ℕ) : Type 0 where
  pub unrolled : has_start c.rolled s ≡ false
  pub uncommitted : commit_of c.commits s ≡ None
  pub unlocked : (l : Lock) → c.lock ≡ Some l → (l.start ≡ s) × (is_prewrite l.kind ≡ false)

pub phase_held : (l : Lock) (c : Cell) (t : ℕ) → is_prewrite l.kind ≡ false → IsClear c l.start → phase (held l c) t ≡ phase c t
phase_held l c t k h = by_lock c.lock refl
  where
    by_lock : (o : Option Lock) → c.lock ≡ o → phase (held l c) t ≡ phase c t
    by_lock None e = grind (arith, nat_tests)
    by_lock (Some m) e = let a = h.unlocked m e in grind (arith, nat_tests)

pub sound_held : (l : Lock) (c : Cell) → IsClear c l.start → IsSound c → IsSound (held l c)
sound_held l c h i = record { lock = lock_now; rolled = i.rolled; once = i.once; newest = i.newest }
  where
    lock_now : (s : ℕ) → nat_eq l.start s ≡ true → (has_start c.rolled s ≡ false) × (commit_of c.commits s ≡ None)
    lock_now s e = let a = h.unrolled in let b = h.uncommitted in grind (arith, nat_tests)

-- a lock lives on
pub phase_renewed : (l : Lock) (n : ℕ) (c : Cell) (t : ℕ) → c.lock ≡ Some l → phase (with_lock (longer_lived n l) c) t ≡ phase c t
phase_renewed l n c t e = rw e refl

pub sound_renewed : (l : Lock) (n : ℕ) (c : Cell) → c.lock ≡ Some l → IsSound c → IsSound (with_lock (longer_lived n l) c)
sound_renewed l n c e i = record { lock = λ s h. i.lock s (subst (λ o. holds o s ≡ true) (sym e) h); rolled = i.rolled; once = i.once; newest = i.newest }
