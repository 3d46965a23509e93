-- What one request leaves of commits, rollbacks and locks, and the timestamps that one Tso gives.
use Rattle.std.proofs.Common.{◌≡◌, ℕ, inl, inr, Bool, true, false, ◌&&◌, ◌||◌, List, [], ◌∷◌, Option, Some, None, nat_eq, refl, sym, ap, ◌∙◌, subst, arith}
use Rattle.std.specs.Prelude.{if◌then◌else◌}
use Rattle.std.proofs.lemmas.Bool.Decides.{nat_tests}
use Rattle.txn_kv.specs.declared.message.KeyError.{KeyError}
use Rattle.txn_kv.specs.declared.message.KeyError.TheVariants as errors
use Rattle.txn_kv.specs.declared.message.Mutation.{Mutation}
use Rattle.txn_kv.specs.declared.message.RegionErr.{RegionErr}
use Rattle.txn_kv.specs.declared.request.Request.{Request}
use Rattle.txn_kv.specs.declared.request.Request.TheVariants.{Prewrite}
use Rattle.txn_kv.specs.declared.request.commits.PrewriteRequest.{PrewriteRequest}
use Rattle.txn_history.specs.Among.{IsAmong}
use Rattle.txn_history.specs.Licence.{IsWithoutError}
use Rattle.txn_history.specs.Plan.{Key}
use Rattle.txn_model.specs.declared.cell.Cell.{Cell}
use Rattle.txn_model.specs.declared.cell.Lock.{Lock}
use Rattle.txn_model.specs.declared.cell.Write.{Write}
use Rattle.txn_model.specs.Cells.{cell_at}
use Rattle.txn_model.specs.Commit.{commit_lock}
use Rattle.txn_model.specs.Locks.{has_start, is_prewrite, owns, with_commit, all_above}
use Rattle.txn_model.specs.Placement.{region_check}
use Rattle.txn_model.specs.Prewrite.{lock_conflict, passed_commit, prewrite_errors, prewrite_by}
use Rattle.txn_model.specs.Settle.{rolled_back, released, unlocked}
use Rattle.txn_model.specs.Status.{longer_lived}
use Rattle.txn_model.specs.Store.{Store, opening}
use Rattle.txn_model.specs.Table.{table}
use Rattle.txn_law.specs.Run.{IsCovered}
use Rattle.txn_law.specs.Sound.{IsSoundStore, Became, IsTimely}
use Rattle.txn_law.proofs.Phases.{placed, held, has_with_start}
use Rattle.txn_law.proofs.Moves.{CellStep, bound_in, sound_after}
use Rattle.txn_law.proofs.Moves.CellStep.{Same, Places, Landed, Recorded, Made, Released, Held, Renewed}
use Rattle.txn_law.proofs.Prewriting.{passes_mutation}
use Rattle.txn_law.proofs.Rows.{row}

kept_with : (w : Write) (vs : List Write) (v : Write) → IsAmong vs v → IsAmong (with_commit w vs) v
kept_with w [] v h = absurd h
kept_with w (u ∷ vs) v h = by (λ a. kept_with w vs v a) (all_above w.commit (u ∷ vs)) h
  where
    by : (IsAmong vs v → IsAmong (with_commit w vs) v) → (b : Bool) → IsAmong (u ∷ vs) v → IsAmong (if b then w ∷ u ∷ vs else u ∷ with_commit w vs) v
    by rest true a = inr a
    by rest false (inl a) = inl a
    by rest false (inr a) = inr (rest a)

new_with : (w : Write) (vs : List Write) → IsAmong (with_commit w vs) w
new_with w [] = inl refl
new_with w (u ∷ vs) = by (new_with w vs) (all_above w.commit (u ∷ vs))
  where
    by : IsAmong (with_commit w vs) w → (b : Bool) → IsAmong (if b then w ∷ u ∷ vs else u ∷ with_commit w vs) w
    by rest true = inl refl
    by rest false = inr rest

-- A commit that is there stays.

committed_keeps : (s n : ℕ) (o : Option Lock) (c : Cell) (w : Write) → IsAmong c.commits w → IsAmong (commit_lock s n o c).commits w
committed_keeps s n None c w h = h
committed_keeps s n (Some l) c w h = by (nat_eq l.start s && is_prewrite l.kind)
  where
    by : (b : Bool) → IsAmong (if b then record { key = c.key; lock = None; commits = with_commit (record { start = s; commit = n; kind = l.kind; value = l.value }) c.commits; rolled = c.rolled } else c).commits w
    by true = kept_with (record { start = s; commit = n; kind = l.kind; value = l.value }) c.commits w h
    by false = h

commits_stay : (at : ℕ) (r : Request) (k : Key) (c d : Cell) → CellStep at r k c d → (w : Write) → IsAmong c.commits w → IsAmong d.commits w
commits_stay at r k c d Same w h = h
commits_stay at r k c d (Places l e a m v f) w h = by (owns c.lock l.start)
  where
    by : (b : Bool) → IsAmong (if b then c else held l c).commits w
    by true = h
    by false = h
commits_stay at r k c d (Landed l e a m v f) w h = committed_keeps l.start at (placed l c).lock (placed l c) w (by (owns c.lock l.start))
  where
    by : (x : Bool) → IsAmong (if x then c else held l c).commits w
    by true = h
    by false = h
commits_stay at r k c d (Recorded s a m) w h = h
commits_stay at r k c d (Made s n m) w h = committed_keeps s n c.lock c w h
commits_stay at r k c d (Released s) w h = by (owns c.lock s)
  where
    by : (b : Bool) → IsAmong (if b then c else unlocked s c).commits w
    by true = h
    by false = h
commits_stay at r k c d (Held l e a b) w h = h
commits_stay at r k c d (Renewed l n e) w h = h

-- A rolled start stays.

committed_rolled : (s n : ℕ) (o : Option Lock) (c : Cell) → (commit_lock s n o c).rolled ≡ c.rolled
committed_rolled s n None c = refl
committed_rolled s n (Some l) c = by (nat_eq l.start s && is_prewrite l.kind)
  where
    by : (b : Bool) → (if b then record { key = c.key; lock = None; commits = with_commit (record { start = s; commit = n; kind = l.kind; value = l.value }) c.commits; rolled = c.rolled } else c).rolled ≡ c.rolled
    by true = refl
    by false = refl

rolled_stays : (at : ℕ) (r : Request) (k : Key) (c d : Cell) → CellStep at r k c d → (s : ℕ) → has_start c.rolled s ≡ true → has_start d.rolled s ≡ true
rolled_stays at r k c d Same s h = h
rolled_stays at r k c d (Places l e a m v f) s h = by (owns c.lock l.start)
  where
    by : (b : Bool) → has_start (if b then c else held l c).rolled s ≡ true
    by true = h
    by false = h
rolled_stays at r k c d (Landed l e a m v f) s h = subst (λ xs. has_start xs s ≡ true) (sym (committed_rolled l.start at (placed l c).lock (placed l c))) (by (owns c.lock l.start))
  where
    by : (x : Bool) → has_start (if x then c else held l c).rolled s ≡ true
    by true = h
    by false = h
rolled_stays at r k c d (Recorded t a m) s h = has_with_start t c.rolled s ∙ by (nat_eq t s)
  where
    by : (b : Bool) → (b || has_start c.rolled s) ≡ true
    by true = refl
    by false = h
rolled_stays at r k c d (Made t n m) s h = subst (λ xs. has_start xs s ≡ true) (sym (committed_rolled t n c.lock c)) h
rolled_stays at r k c d (Released t) s h = by (owns c.lock t)
  where
    by : (b : Bool) → has_start (if b then c else unlocked t c).rolled s ≡ true
    by true = h
    by false = h
rolled_stays at r k c d (Held l e a b) s h = h
rolled_stays at r k c d (Renewed l n e) s h = h

-- A prewrite lock stands, or becomes the commit of its start, or its start is rolled back.

stands_same : (l : Lock) (c : Cell) → c.lock ≡ Some l → Became l c
stands_same l c e = inl (record { lock = l; here = e; start = refl; primary = refl; kind = refl; value = refl })

lock_became : (at : ℕ) (r : Request) (k : Key) (c d : Cell) → CellStep at r k c d → (l : Lock) → c.lock ≡ Some l → is_prewrite l.kind ≡ true → Became l d
lock_became at r k c d Same l e p = stands_same l c e
lock_became at r k c d (Places n q a m v f) l e p =
    let own : owns c.lock n.start ≡ true = rw e (let u = a.unlocked l e in grind (arith, nat_tests)) in
    subst (Became l) (sym (rw own refl)) (stands_same l c e)
lock_became at r k c d (Landed n q a m v f) l e p = absurd (let own : owns c.lock n.start ≡ true = rw e (let u = a.unlocked l e in grind (arith, nat_tests)) in cc)
lock_became at r k c d (Recorded s a m) l e p = by (nat_eq l.start s) refl
  where
    by : (b : Bool) → nat_eq l.start s ≡ b → Became l (rolled_back s c)
    by true f = inr (inr (has_with_start s c.rolled l.start ∙ grind (arith, nat_tests)))
    by false f = inl (record { lock = l; here = rw (e, f) refl; start = refl; primary = refl; kind = refl; value = refl })
lock_became at r k c d (Made s n m) l e p = subst (λ o. Became l (commit_lock s n o c)) (sym e) (by (nat_eq l.start s) refl)
  where
    by : (b : Bool) → nat_eq l.start s ≡ b → Became l (commit_lock s n (Some l) c)
    by true f =
        let w : Write = record { start = s; commit = n; kind = l.kind; value = l.value } in
        rw (f, p) (inr (inl (n, record { write = w; among = new_with w c.commits; start = grind (arith, nat_tests); commit = refl; writes = refl })))
    by false f = rw f (stands_same l c e)
lock_became at r k c d (Released s) l e p = by (nat_eq l.start s) refl
  where
    by : (b : Bool) → nat_eq l.start s ≡ b → Became l (released s c)
    by true f = let own : owns c.lock s ≡ true = rw (e, f) p in subst (Became l) (sym (rw own refl)) (stands_same l c e)
    by false f =
        let own : owns c.lock s ≡ false = rw (e, f) refl in
        let now : (unlocked s c).lock ≡ Some l = rw (e, f) refl in
        subst (Became l) (sym (rw own refl)) (stands_same l (unlocked s c) now)
lock_became at r k c d (Held n q a b) l e p = absurd (let u = (a.unlocked l e).1 in cc)
lock_became at r k c d (Renewed n ttl f) l e p =
    let same : n ≡ l = cc in
    inl (record { lock = longer_lived ttl n; here = refl; start = ap (λ (x : Lock). x.start) same; primary = ap (λ (x : Lock). x.primary) same; kind = ap (λ (x : Lock). x.kind) same; value = ap (λ (x : Lock). x.value) same })

-- in the words of the store

module _ (st : Store) (r : Request) (covered : IsCovered r) (timely : IsTimely st r) (i : IsSoundStore st) where
  step_at : (k : Key) → CellStep (bound_in st r) r k (cell_at st.cells k) (cell_at (table st r).store.cells k)
  step_at k = (row st r covered timely i.in_order).step k (i.cells k)

  pub sound_next : IsSoundStore (table st r).store
  sound_next = record { in_order = (row st r covered timely i.in_order).in_order; cells = λ k. sound_after (bound_in st r) r k (cell_at st.cells k) (cell_at (table st r).store.cells k) (i.cells k) (step_at k) }

  pub commit_there : (k : Key) (w : Write) → IsAmong (cell_at st.cells k).commits w → IsAmong (cell_at (table st r).store.cells k).commits w
  commit_there k w = commits_stay (bound_in st r) r k (cell_at st.cells k) (cell_at (table st r).store.cells k) (step_at k) w

  pub rollback_there : (k : Key) (s : ℕ) → has_start (cell_at st.cells k).rolled s ≡ true → has_start (cell_at (table st r).store.cells k).rolled s ≡ true
  rollback_there k s = rolled_stays (bound_in st r) r k (cell_at st.cells k) (cell_at (table st r).store.cells k) (step_at k) s

  pub lock_there : (k : Key) (l : Lock) → (cell_at st.cells k).lock ≡ Some l → is_prewrite l.kind ≡ true → Became l (cell_at (table st r).store.cells k)
  lock_there k l = lock_became (bound_in st r) r k (cell_at st.cells k) (cell_at (table st r).store.cells k) (step_at k) l

-- a Prewrite never passes over a rolled start
passes_unrolled : (st : Store) (r : PrewriteRequest) (e : Option RegionErr) (es : List KeyError) (w : Option Write) → prewrite_errors st.cells r r.mutations r.is_pessimistic_lock ≡ es → IsWithoutError (prewrite_by e es w st r).reply → (m : Mutation) → IsAmong r.mutations m → has_start (cell_at st.cells m.key).rolled r.start_version ≡ false
passes_unrolled st r (Some e) es w d h m a = absurd (cc h.0)
passes_unrolled st r None (x ∷ xs) w d h m a = absurd (cc h.1)
passes_unrolled st r None [] w d h m a = let f = passes_mutation st.cells r r.mutations r.is_pessimistic_lock m d a in by (has_start (cell_at st.cells m.key).rolled r.start_version) f.0 f.1
  where
    by : (b : Bool) (flag : Bool) → (if b then Some (errors.Abort m.key r.start_version 0) else lock_conflict r m flag (cell_at st.cells m.key).commits (cell_at st.cells m.key).lock) ≡ None → b ≡ false
    by true flag g = absurd (cc)
    by false flag g = refl

pub prewrite_unrolled : (st : Store) (r : PrewriteRequest) → IsWithoutError (table st (Prewrite r)).reply → (m : Mutation) → IsAmong r.mutations m → has_start (cell_at st.cells m.key).rolled r.start_version ≡ false
prewrite_unrolled st r = passes_unrolled st r (region_check st.regions r.context) (prewrite_errors st.cells r r.mutations r.is_pessimistic_lock) (passed_commit st.cells r.start_version r.mutations) refl

pub opening_sound : IsSoundStore opening
opening_sound = record { in_order = tt; cells = λ k. record { lock = λ s h. absurd (cc); rolled = λ s h. absurd (cc); once = λ w h. absurd h; newest = λ w h. absurd h } }
