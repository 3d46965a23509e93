-- What a Prewrite does to the cells.
use Rattle.std.proofs.Common.{◌≡◌, ℕ, ◌⊎◌, inl, inr, Bool, true, false, List, [], ◌∷◌, ◌++◌, Option, Some, None, nat_eq, refl, sym, ap, ◌∙◌, subst, arith, ◌-◌, ◌^◌, ◌≤◌, ◌&&◌, ◌||◌, nat_lt}
use Rattle.std.specs.Prelude.{if◌then◌else◌, option_to_list, drop, is_some}
use Rattle.std.proofs.lemmas.Bool.Decides.{nat_tests}
use Rattle.txn_kv.specs.declared.message.KeyError.{KeyError}
use Rattle.txn_kv.specs.declared.message.Op.{Op}
use Rattle.txn_kv.specs.declared.message.Mutation.{Mutation}
use Rattle.txn_kv.specs.declared.message.RegionErr.{RegionErr}
use Rattle.txn_kv.specs.declared.request.Request.TheVariants.{Prewrite}
use Rattle.txn_kv.specs.declared.request.commits.PrewriteRequest.{PrewriteRequest}
use Rattle.txn_history.specs.Among.{IsAmong}
use Rattle.txn_history.specs.Plan.{Key, Content, content_by, content_of}
use Rattle.txn_model.specs.declared.cell.Cell.{Cell}
use Rattle.txn_model.specs.declared.cell.Kind.{Kind}
use Rattle.txn_model.specs.declared.cell.Lock.{Lock}
use Rattle.txn_model.specs.declared.cell.Write.{Write}
use Rattle.txn_model.specs.Cells.{key_eq, cell_at, AreInOrder}
use Rattle.txn_model.specs.Commit.{committed}
use Rattle.txn_model.specs.Locks.{has_start, is_prewrite, owns, commit_of, lock_info, newest_commit, value_at}
use Rattle.txn_model.specs.Prewrite.{first_flag, kind_of, mutation_keys, wants_absent, least_bound, prewrite_error, lock_conflict, conflict, prewrite_errors, lock_of, fold_cell, placed, place, prewrite_cell, landed, land, land_cell, prewritten_cells, landed_cells, one_phase_by, locking_by, prewrite_by}
use Rattle.txn_model.specs.Store.{Store}
use Rattle.txn_model.proofs.CellLists.{KeepsKeys, key_of_cell}
use Rattle.txn_model.proofs.Keys.{same_key, key_itself}
use Rattle.txn_law.proofs.Phases.{IsOpen, commit_of_with}
use Rattle.txn_law.specs.Whole.{content}
use Rattle.txn_law.proofs.Settling.{commit_keeps}
use Rattle.txn_law.proofs.Moves.{CellStep, RowStep, row_same, row_changed}
use Rattle.txn_law.proofs.Moves.CellStep.{Same, Places, Landed}
use Rattle.txn_kv.specs.declared.message.Op.TheVariants as op
use Rattle.txn_model.specs.declared.cell.Kind.TheVariants as kinds
use Rattle.txn_law.proofs.Phases as phases

-- a mutation locks with the content of its kind
pub kind_content : (o : Op) (v : List ℕ) (kind : Kind) → kind_of o ≡ Some kind → (content_by o v ≡ Some (content kind v)) × (is_prewrite kind ≡ true)
kind_content o v kind h = grind arith

-- without a lock and without a commit of the start no commit is newer than the start
no_newer : (r : PrewriteRequest) (m : Mutation) (flag : Bool) (ws : List Write) → commit_of ws r.start_version ≡ None → conflict r m flag false ws ≡ None → newest_commit ws ≤ r.start_version
no_newer r m flag ws u h = by_flag flag (rw u at h)
  where
    by_newest : (x : Bool) → nat_lt r.start_version (newest_commit ws) ≡ x → (if x then Some (KeyError.WriteConflict m.key r.start_version (newest_commit ws)) else (if wants_absent m.op && is_some (value_at ws (2 ^ 64 - 1)) then Some (KeyError.AlreadyExist m.key) else None)) ≡ None → newest_commit ws ≤ r.start_version
    by_newest true e g = absurd (cc)
    by_newest false e g = grind (arith, nat_tests)

    by_flag : (f : Bool) → (if f then (if false then None else Some (KeyError.PessimisticLockNotFound m.key)) else (if nat_lt r.start_version (newest_commit ws) then Some (KeyError.WriteConflict m.key r.start_version (newest_commit ws)) else (if wants_absent m.op && is_some (value_at ws (2 ^ 64 - 1)) then Some (KeyError.AlreadyExist m.key) else None))) ≡ None → newest_commit ws ≤ r.start_version
    by_flag true g = absurd (cc)
    by_flag false g = by_newest (nat_lt r.start_version (newest_commit ws)) refl g

-- a mutation without error finds its cell open, where no commit of the start was passed over
pub open_cell : (r : PrewriteRequest) (m : Mutation) (flag : Bool) (c : Cell) → commit_of c.commits r.start_version ≡ None → prewrite_error r m flag c ≡ None → IsOpen c r.start_version
open_cell r m flag c n h = by_rolled (has_start c.rolled r.start_version) refl h
  where
    by_lock : has_start c.rolled r.start_version ≡ false → (o : Option Lock) → c.lock ≡ o → lock_conflict r m flag c.commits o ≡ None → IsOpen c r.start_version
    by_lock a None e g = record { unrolled = a; uncommitted = λ f. n; unlocked = λ l f. absurd (cc); newest = λ f. inl (no_newer r m flag c.commits n g) }
    by_lock a (Some l) e g = by_own (nat_eq l.start r.start_version) (is_prewrite l.kind) refl refl g
      where
        by_own : (x y : Bool) → nat_eq l.start r.start_version ≡ x → is_prewrite l.kind ≡ y → (if x then (if y then (if r.try_one_pc then Some (KeyError.Abort m.key r.start_version 0) else None) else conflict r m flag true c.commits) else Some (KeyError.Locked (lock_info m.key l))) ≡ None → IsOpen c r.start_version
        by_own true true u v g = record { unrolled = a; uncommitted = λ f. n; unlocked = λ o f. grind (arith, nat_tests); newest = λ f. inr (rw (e, u) refl) }
        by_own true false u v g = record { unrolled = a; uncommitted = λ f. n; unlocked = λ o f. grind (arith, nat_tests); newest = λ f. inr (rw (e, u) refl) }
        by_own false y u v g = absurd (cc)

    by_rolled : (x : Bool) → has_start c.rolled r.start_version ≡ x → (if x then Some (KeyError.Abort m.key r.start_version 0) else lock_conflict r m flag c.commits c.lock) ≡ None → IsOpen c r.start_version
    by_rolled true e g = absurd (cc)
    by_rolled false e g = by_lock e c.lock refl g

-- one that commits at once passes no own prewrite lock
pub unowned_once : (r : PrewriteRequest) (m : Mutation) (flag : Bool) (c : Cell) → r.try_one_pc ≡ true → prewrite_error r m flag c ≡ None → owns c.lock r.start_version ≡ false
unowned_once r m flag c once h = by_rolled (has_start c.rolled r.start_version) h
  where
    by_own : (l : Lock) (x y : Bool) → nat_eq l.start r.start_version ≡ x → is_prewrite l.kind ≡ y → (if x then (if y then (if r.try_one_pc then Some (KeyError.Abort m.key r.start_version 0) else None) else conflict r m flag true c.commits) else Some (KeyError.Locked (lock_info m.key l))) ≡ None → owns (Some l) r.start_version ≡ false
    by_own l true true u v g = absurd (let z = rw once at g in cc)
    by_own l true false u v g = rw (u, v) refl
    by_own l false y u v g = rw u refl

    by_lock : (o : Option Lock) → lock_conflict r m flag c.commits o ≡ None → owns o r.start_version ≡ false
    by_lock None g = refl
    by_lock (Some l) g = by_own l (nat_eq l.start r.start_version) (is_prewrite l.kind) refl refl g

    by_rolled : (x : Bool) → (if x then Some (KeyError.Abort m.key r.start_version 0) else lock_conflict r m flag c.commits c.lock) ≡ None → owns c.lock r.start_version ≡ false
    by_rolled true g = absurd (cc)
    by_rolled false g = by_lock c.lock g

-- where no mutation has an error, each has none
pub passes_mutation : (cs : List Cell) (r : PrewriteRequest) (ms : List Mutation) (fs : List Bool) (m : Mutation) → prewrite_errors cs r ms fs ≡ [] → IsAmong ms m → (flag : Bool) × (prewrite_error r m flag (cell_at cs m.key) ≡ None)
passes_mutation cs r [] fs m h a = absurd a
passes_mutation cs r (n ∷ ms) fs m h a = by_error (λ g b. passes_mutation cs r ms (drop 1 fs) m g b) (prewrite_error r n (first_flag fs) (cell_at cs n.key)) refl h
  where
    by_error : (prewrite_errors cs r ms (drop 1 fs) ≡ [] → IsAmong ms m → (flag : Bool) × (prewrite_error r m flag (cell_at cs m.key) ≡ None)) → (o : Option KeyError) → prewrite_error r n (first_flag fs) (cell_at cs n.key) ≡ o → option_to_list o ++ prewrite_errors cs r ms (drop 1 fs) ≡ [] → (flag : Bool) × (prewrite_error r m flag (cell_at cs m.key) ≡ None)
    by_error rest (Some x) e g = absurd (cc)
    by_error rest None e g = elim a [ inl d ↦ subst (λ q. (flag : Bool) × (prewrite_error r q flag (cell_at cs q.key) ≡ None)) d (first_flag fs, e) | inr b ↦ rest g b ]

-- Either kind of Prewrite folds its mutations over the cell: each leaves it, or changes it once, from where it stands fast.

-- a prewrite lock or a commit of the start stands
abbrev pub stands : Cell → ℕ → Bool
stands c s = owns c.lock s || is_some (commit_of c.commits s)

abbrev pub has_commit : Cell → ℕ → Bool
has_commit c s = is_some (commit_of c.commits s)

-- a mutation of the list of the cell's key changed it so
pub record ChangedBy (f : Mutation → Cell → Cell) (ms : List Mutation) (c d : Cell) : Type 0 where
  pub mutation : Mutation
  pub kind : Kind
  pub among : IsAmong ms mutation
  pub here : mutation.key ≡ c.key
  pub locks : kind_of mutation.op ≡ Some kind
  pub so : d ≡ f mutation c

module _ (f : Mutation → Cell → Cell) (fast : Cell → Bool)
    (rests : (m : Mutation) (c : Cell) → fast c ≡ true → f m c ≡ c)
    (skips : (m : Mutation) (c : Cell) → kind_of m.op ≡ None → f m c ≡ c)
    (fastens : (m : Mutation) (kind : Kind) (c : Cell) → kind_of m.op ≡ Some kind → fast (f m c) ≡ true)
    (keeps : (m : Mutation) (c : Cell) → (f m c).key ≡ c.key) where
  pub fold_rests : (ms : List Mutation) (c : Cell) → fast c ≡ true → fold_cell f ms c ≡ c
  fold_rests [] c h = refl
  fold_rests (m ∷ ms) c h = ap (fold_cell f ms) (by (key_eq m.key c.key)) ∙ fold_rests ms c h
    where
      by : (b : Bool) → (if b then f m c else c) ≡ c
      by true = rests m c h
      by false = refl

  pub fold_is : (ms : List Mutation) (c : Cell) → (fold_cell f ms c ≡ c) ⊎ (ChangedBy f ms c (fold_cell f ms c) × (fast c ≡ false))
  fold_is [] c = inl refl
  fold_is (m ∷ ms) c = by_key (fold_is ms c) (key_eq m.key c.key) refl
    where
      later : (fold_cell f ms c ≡ c) ⊎ (ChangedBy f ms c (fold_cell f ms c) × (fast c ≡ false)) → (fold_cell f ms c ≡ c) ⊎ (ChangedBy f (m ∷ ms) c (fold_cell f ms c) × (fast c ≡ false))
      later (inl e) = inl e
      later (inr p) = let w = p.0 in inr (record { mutation = w.mutation; kind = w.kind; among = inr w.among; here = w.here; locks = w.locks; so = w.so }, p.1)

      by_fast : (kind : Kind) → m.key ≡ c.key → kind_of m.op ≡ Some kind → (b : Bool) → fast c ≡ b → (fold_cell f ms (f m c) ≡ c) ⊎ (ChangedBy f (m ∷ ms) c (fold_cell f ms (f m c)) × (fast c ≡ false))
      by_fast kind e l true g = inl (ap (fold_cell f ms) (rests m c g) ∙ fold_rests ms c g)
      by_fast kind e l false g = inr (record { mutation = m; kind = kind; among = inl refl; here = e; locks = l; so = fold_rests ms (f m c) (fastens m kind c l) }, g)

      by_kind : (fold_cell f ms c ≡ c) ⊎ (ChangedBy f ms c (fold_cell f ms c) × (fast c ≡ false)) → m.key ≡ c.key → (o : Option Kind) → kind_of m.op ≡ o → (fold_cell f ms (f m c) ≡ c) ⊎ (ChangedBy f (m ∷ ms) c (fold_cell f ms (f m c)) × (fast c ≡ false))
      by_kind rest e None l = subst (λ d. (fold_cell f ms d ≡ c) ⊎ (ChangedBy f (m ∷ ms) c (fold_cell f ms d) × (fast c ≡ false))) (sym (skips m c l)) (later rest)
      by_kind rest e (Some kind) l = by_fast kind e l (fast c) refl

      by_key : (fold_cell f ms c ≡ c) ⊎ (ChangedBy f ms c (fold_cell f ms c) × (fast c ≡ false)) → (b : Bool) → key_eq m.key c.key ≡ b → (fold_cell f ms (if b then f m c else c) ≡ c) ⊎ (ChangedBy f (m ∷ ms) c (fold_cell f ms (if b then f m c else c)) × (fast c ≡ false))
      by_key rest true e = by_kind rest (same_key m.key c.key e) (kind_of m.op) refl
      by_key rest false e = later rest

  pub fold_keeps : (ms : List Mutation) → KeepsKeys (fold_cell f ms)
  fold_keeps [] c = refl
  fold_keeps (m ∷ ms) c = fold_keeps ms (if key_eq m.key c.key then f m c else c) ∙ by (key_eq m.key c.key)
    where
      by : (b : Bool) → (if b then f m c else c).key ≡ c.key
      by true = keeps m c
      by false = refl

  -- a key that is locked by a mutation stands fast afterwards
  pub fold_fastens : (ms : List Mutation) (m : Mutation) (kind : Kind) (c : Cell) → IsAmong ms m → m.key ≡ c.key → kind_of m.op ≡ Some kind → fast (fold_cell f ms c) ≡ true
  fold_fastens [] m kind c a e l = absurd a
  fold_fastens (n ∷ ms) m kind c (inl a) e l =
      let at : n.key ≡ c.key = subst (λ q. q.key ≡ c.key) (sym a) e in
      let here : key_eq n.key c.key ≡ true = subst (λ q. key_eq n.key q ≡ true) at (key_itself n.key) in
      let now : (if key_eq n.key c.key then f n c else c) ≡ f n c = rw here refl in
      let done = fastens n kind c (subst (λ q. kind_of q.op ≡ Some kind) (sym a) l) in
      subst (λ d. fast (fold_cell f ms d) ≡ true) (sym now) (subst (λ d. fast d ≡ true) (sym (fold_rests ms (f n c) done)) done)
  fold_fastens (n ∷ ms) m kind c (inr a) e l = fold_fastens ms m kind (if key_eq n.key c.key then f n c else c) a (e ∙ sym (by (key_eq n.key c.key))) l
    where
      by : (b : Bool) → (if b then f n c else c).key ≡ c.key
      by true = keeps n c
      by false = refl

-- a key that a mutation locks
pub content_kind : (o : Op) (v : List ℕ) (x : Content) → content_by o v ≡ Some x → (kind : Kind) × (kind_of o ≡ Some kind)
content_kind op.Put v x h = (kinds.Put, refl)
content_kind op.Del v x h = (kinds.Del, refl)
content_kind op.Lock v x h = (kinds.Lock, refl)
content_kind op.Rollback v x h = (kinds.Lock, refl)
content_kind op.Insert v x h = (kinds.Put, refl)
content_kind op.PessimisticLock v x h = (kinds.Lock, refl)
content_kind op.CheckNotExists v x h = absurd (cc)

module _ (r : PrewriteRequest) (n : ℕ) where
  abbrev fast : Cell → Bool
  fast c = stands c r.start_version

  abbrev once : Cell → Bool
  once c = has_commit c r.start_version

  place_rests : (m : Mutation) (c : Cell) → fast c ≡ true → place r n m c ≡ c
  place_rests m c h = by (kind_of m.op)
    where
      by : (o : Option Kind) → placed r n m.value o c ≡ c
      by None = refl
      by (Some kind) = rw h refl

  place_skips : (m : Mutation) (c : Cell) → kind_of m.op ≡ None → place r n m c ≡ c
  place_skips m c h = rw h refl

  place_open : (m : Mutation) (kind : Kind) (c : Cell) → kind_of m.op ≡ Some kind → fast c ≡ false → place r n m c ≡ phases.held (lock_of r n m.value kind) c
  place_open m kind c l h = rw (l, h) refl

  place_fastens : (m : Mutation) (kind : Kind) (c : Cell) → kind_of m.op ≡ Some kind → fast (place r n m c) ≡ true
  place_fastens m kind c l = by (fast c) refl
    where
      by : (b : Bool) → fast c ≡ b → fast (place r n m c) ≡ true
      by true e = subst (λ d. fast d ≡ true) (sym (place_rests m c e)) e
      by false e = subst (λ d. fast d ≡ true) (sym (place_open m kind c l e)) (let p = (kind_content m.op m.value kind l).1 in grind (arith, nat_tests))

  place_keeps : (m : Mutation) (c : Cell) → (place r n m c).key ≡ c.key
  place_keeps m c = by (kind_of m.op)
    where
      by : (o : Option Kind) → (placed r n m.value o c).key ≡ c.key
      by None = refl
      by (Some kind) = by_fast (fast c)
        where
          by_fast : (b : Bool) → (if b then c else phases.held (lock_of r n m.value kind) c).key ≡ c.key
          by_fast true = refl
          by_fast false = refl

  land_rests : (m : Mutation) (c : Cell) → once c ≡ true → land r n m c ≡ c
  land_rests m c h = by (kind_of m.op)
    where
      by : (o : Option Kind) → landed r n m.value o c ≡ c
      by None = refl
      by (Some kind) = rw h refl

  land_skips : (m : Mutation) (c : Cell) → kind_of m.op ≡ None → land r n m c ≡ c
  land_skips m c h = rw h refl

  land_open : (m : Mutation) (kind : Kind) (c : Cell) → kind_of m.op ≡ Some kind → once c ≡ false → land r n m c ≡ committed r.start_version n (phases.held (lock_of r n m.value kind) c)
  land_open m kind c l h = rw (l, h) refl

  uncommitted : (c : Cell) → once c ≡ false → commit_of c.commits r.start_version ≡ None
  uncommitted c h = by (commit_of c.commits r.start_version) h
    where
      by : (o : Option Write) → is_some o ≡ false → o ≡ None
      by None e = refl
      by (Some w) e = absurd (cc)

  land_fastens : (m : Mutation) (kind : Kind) (c : Cell) → kind_of m.op ≡ Some kind → once (land r n m c) ≡ true
  land_fastens m kind c l = by (once c) refl
    where
      by : (b : Bool) → once c ≡ b → once (land r n m c) ≡ true
      by true e = subst (λ d. once d ≡ true) (sym (land_rests m c e)) e
      by false e = subst (λ d. once d ≡ true) (sym (land_open m kind c l e)) (let p = (kind_content m.op m.value kind l).1 in let u = uncommitted c e in grind (arith, nat_tests, commit_of_with))

  land_keeps : (m : Mutation) (c : Cell) → (land r n m c).key ≡ c.key
  land_keeps m c = by (kind_of m.op)
    where
      by : (o : Option Kind) → (landed r n m.value o c).key ≡ c.key
      by None = refl
      by (Some kind) = by_once (once c)
        where
          by_once : (b : Bool) → (if b then c else committed r.start_version n (phases.held (lock_of r n m.value kind) c)).key ≡ c.key
          by_once true = refl
          by_once false = commit_keeps r.start_version n (phases.held (lock_of r n m.value kind) c)

  pub prewrite_keeps : (ms : List Mutation) → KeepsKeys (prewrite_cell r n ms)
  prewrite_keeps ms = fold_keeps (place r n) fast place_rests place_skips place_fastens place_keeps ms

  pub land_cell_keeps : (ms : List Mutation) → KeepsKeys (land_cell r n ms)
  land_cell_keeps ms = fold_keeps (land r n) once land_rests land_skips land_fastens land_keeps ms

  -- a key that a mutation locks is locked or committed afterwards
  pub prewrite_stands : (ms : List Mutation) (m : Mutation) (x : Content) (c : Cell) → IsAmong ms m → m.key ≡ c.key → content_of m ≡ Some x → stands (prewrite_cell r n ms c) r.start_version ≡ true
  prewrite_stands ms m x c a e h = let k = content_kind m.op m.value x h in fold_fastens (place r n) fast place_rests place_skips place_fastens place_keeps ms m k.0 c a e k.1

  pub land_commits : (ms : List Mutation) (m : Mutation) (x : Content) (c : Cell) → IsAmong ms m → m.key ≡ c.key → content_of m ≡ Some x → has_commit (land_cell r n ms c) r.start_version ≡ true
  land_commits ms m x c a e h = let k = content_kind m.op m.value x h in fold_fastens (land r n) once land_rests land_skips land_fastens land_keeps ms m k.0 c a e k.1

  place_is : (ms : List Mutation) (c : Cell) → (prewrite_cell r n ms c ≡ c) ⊎ (ChangedBy (place r n) ms c (prewrite_cell r n ms c) × (fast c ≡ false))
  place_is = fold_is (place r n) fast place_rests place_skips place_fastens place_keeps

  land_is : (ms : List Mutation) (c : Cell) → (land_cell r n ms c ≡ c) ⊎ (ChangedBy (land r n) ms c (land_cell r n ms c) × (once c ≡ false))
  land_is = fold_is (land r n) once land_rests land_skips land_fastens land_keeps

held_placed : (l : Lock) (c : Cell) → owns c.lock l.start ≡ false → phases.placed l c ≡ phases.held l c
held_placed l c h = rw h refl

neither : (a b : Bool) → (a || b) ≡ false → (a ≡ false) × (b ≡ false)
neither true b h = absurd (cc)
neither false true h = absurd (cc)
neither false false h = (refl, refl)

module _ (st : Store) (r : PrewriteRequest) (o : AreInOrder st.cells) (passed : prewrite_errors st.cells r r.mutations r.is_pessimistic_lock ≡ []) where
  row_locks : r.try_one_pc ≡ false → RowStep st (Prewrite r) (prewritten_cells st r)
  row_locks later = row_changed st (Prewrite r) (mutation_keys r.mutations) (prewrite_cell r (least_bound st r) r.mutations) (prewrite_keeps r (least_bound st r) r.mutations) o (λ k a i. by_change k (place_is r (least_bound st r) r.mutations (cell_at st.cells k)))
    where
      by_change : (k : Key) → (prewrite_cell r (least_bound st r) r.mutations (cell_at st.cells k) ≡ cell_at st.cells k) ⊎ (ChangedBy (place r (least_bound st r)) r.mutations (cell_at st.cells k) (prewrite_cell r (least_bound st r) r.mutations (cell_at st.cells k)) × (stands (cell_at st.cells k) r.start_version ≡ false)) → CellStep (least_bound st r) (Prewrite r) k (cell_at st.cells k) (prewrite_cell r (least_bound st r) r.mutations (cell_at st.cells k))
      by_change k (inl e) = subst (CellStep (least_bound st r) (Prewrite r) k (cell_at st.cells k)) (sym e) Same
      by_change k (inr q) =
          let p = q.0 in
          let c = cell_at st.cells k in
          let lock = lock_of r (least_bound st r) p.mutation.value p.kind in
          let two = neither (owns c.lock r.start_version) (is_some (commit_of c.commits r.start_version)) q.1 in
          let none = uncommitted r (least_bound st r) c two.1 in
          let at : p.mutation.key ≡ k = p.here ∙ key_of_cell st.cells k in
          let free = passes_mutation st.cells r r.mutations r.is_pessimistic_lock p.mutation passed p.among in
          let free_here = subst (λ z. prewrite_error r p.mutation free.0 (cell_at st.cells z) ≡ None) at free.1 in
          let open_here = open_cell r p.mutation free.0 c none free_here in
          let w = kind_content p.mutation.op p.mutation.value p.kind p.locks in
          let unowned : owns c.lock lock.start ≡ false = two.0 in
          let so = p.so ∙ (place_open r (least_bound st r) p.mutation p.kind c p.locks q.1 ∙ sym (held_placed lock c unowned)) in
          subst (CellStep (least_bound st r) (Prewrite r) k c) (sym so) (Places lock w.1 open_here (refl, refl, p.mutation, p.among, at, w.0) (r, refl, later, refl, refl, refl, refl) unowned)

  row_lands : r.try_one_pc ≡ true → RowStep st (Prewrite r) (landed_cells st r)
  row_lands once = row_changed st (Prewrite r) (mutation_keys r.mutations) (land_cell r (least_bound st r) r.mutations) (land_cell_keeps r (least_bound st r) r.mutations) o (λ k a i. by_change k (land_is r (least_bound st r) r.mutations (cell_at st.cells k)))
    where
      by_change : (k : Key) → (land_cell r (least_bound st r) r.mutations (cell_at st.cells k) ≡ cell_at st.cells k) ⊎ (ChangedBy (land r (least_bound st r)) r.mutations (cell_at st.cells k) (land_cell r (least_bound st r) r.mutations (cell_at st.cells k)) × (has_commit (cell_at st.cells k) r.start_version ≡ false)) → CellStep (least_bound st r) (Prewrite r) k (cell_at st.cells k) (land_cell r (least_bound st r) r.mutations (cell_at st.cells k))
      by_change k (inl e) = subst (CellStep (least_bound st r) (Prewrite r) k (cell_at st.cells k)) (sym e) Same
      by_change k (inr q) =
          let p = q.0 in
          let c = cell_at st.cells k in
          let lock = lock_of r (least_bound st r) p.mutation.value p.kind in
          let none = uncommitted r (least_bound st r) c q.1 in
          let at : p.mutation.key ≡ k = p.here ∙ key_of_cell st.cells k in
          let free = passes_mutation st.cells r r.mutations r.is_pessimistic_lock p.mutation passed p.among in
          let free_here = subst (λ z. prewrite_error r p.mutation free.0 (cell_at st.cells z) ≡ None) at free.1 in
          let open_here = open_cell r p.mutation free.0 c none free_here in
          let w = kind_content p.mutation.op p.mutation.value p.kind p.locks in
          let unowned : owns c.lock lock.start ≡ false = unowned_once r p.mutation free.0 c once free_here in
          let so = p.so ∙ (land_open r (least_bound st r) p.mutation p.kind c p.locks q.1 ∙ ap (committed r.start_version (least_bound st r)) (sym (held_placed lock c unowned))) in
          subst (CellStep (least_bound st r) (Prewrite r) k c) (sym so) (Landed lock w.1 open_here (refl, refl, p.mutation, p.among, at, w.0) (r, refl, once, refl, refl, refl, refl) unowned)

pub row_prewrite : (st : Store) (r : PrewriteRequest) → AreInOrder st.cells → (e : Option RegionErr) (errors : List KeyError) (w : Option Write) → prewrite_errors st.cells r r.mutations r.is_pessimistic_lock ≡ errors → RowStep st (Prewrite r) (prewrite_by e errors w st r).store.cells
row_prewrite st r o (Some e) errors w h = row_same st (Prewrite r) o
row_prewrite st r o None (x ∷ xs) w h = row_same st (Prewrite r) o
row_prewrite st r o None [] w h = by r.try_one_pc refl w
  where
    by : (b : Bool) → r.try_one_pc ≡ b → (v : Option Write) → RowStep st (Prewrite r) (if b then one_phase_by v st r else locking_by st r).store.cells
    by true e (Some v) = row_same st (Prewrite r) o
    by true e None = row_lands st r o h e
    by false e v = row_locks st r o h e
