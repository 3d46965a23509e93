-- Commits that are made at once: every key is locked, and then its lock becomes a commit, or all locks are put back.
use Rattle.std.proofs.Common.{◌≡◌, ℕ, Bool, true, false, ◌||◌, List, [], ◌∷◌, ◌++◌, map, Option, Some, None, refl, sym, ap, ◌∙◌, subst, arith}
use Rattle.std.specs.Prelude.{if◌then◌else◌}
use Rattle.std.proofs.lemmas.Bool.Decides.{nat_tests}
use Rattle.std.specs.List.{list_any}
use Rattle.txn_kv.specs.declared.message.Mutation.{Mutation}
use Rattle.txn_kv.specs.declared.request.commits.PrewriteRequest.{PrewriteRequest}
use Rattle.txn_model.specs.declared.cell.Cell.{Cell}
use Rattle.txn_model.specs.declared.cell.Kind.{Kind}
use Rattle.txn_model.specs.declared.cell.Lock.{Lock}
use Rattle.txn_model.specs.declared.prewrite.Placing.{Placing}
use Rattle.txn_model.specs.Cells.{Key, key_eq, has_key, cell_at, changed_at, AreKept}
use Rattle.txn_model.specs.Changes.{lock_after, made_by, all_made}
use Rattle.txn_model.specs.Commit.{committed, commit_lock}
use Rattle.txn_model.specs.Locks.{owns}
use Rattle.txn_model.specs.Placings.{placing_of, placings, locked, all_locked, landing, back_to, back}
use Rattle.txn_model.specs.Prewrite.{kind_of, lock_of, placed, place, prewrite_cell, landed, land, land_cell, mutation_keys, prewrite_errors, passed_commit}
use Rattle.txn_model.specs.Settling.{all_committed}
use Rattle.txn_model.proofs.CellLists.{key_of_cell, same_cells}
use Rattle.txn_model.proofs.Changing.{changes_are}
use Rattle.txn_model.proofs.Folding.{stands, has_commit, held, kind_prewrites, prewrite_key, land_key, place_stays, land_stays, land_open, land_fastens, fold_other, held_commits, neither}
use Rattle.txn_model.proofs.Keys.{same_key}
use Rattle.txn_model.proofs.Locking.{all_locked_is}
use Rattle.txn_model.proofs.Opening.{clear_once}

-- a cell without an own prewrite lock has nothing to commit
commit_idle : (s n : ℕ) (c : Cell) → owns c.lock s ≡ false → committed s n c ≡ c
commit_idle s n c h = by c.lock h
  where
    by : (o : Option Lock) → owns o s ≡ false → commit_lock s n o c ≡ c
    by None e = refl
    by (Some l) e = rw e refl

-- nor another key
off : (s n : ℕ) (c : Cell) (b : Bool) → b ≡ false → (if b then committed s n c else c) ≡ c
off s n c true h = absurd (cc)
off s n c false h = refl

module _ (r : PrewriteRequest) (n : ℕ) where
  -- the commitments do nothing where no own prewrite lock stands
  idle : (ms : List Mutation) (d : Cell) → owns d.lock r.start_version ≡ false → all_committed (map (landing n) (placings r n ms)) d ≡ d
  idle [] d h = refl
  idle (m ∷ ms) d h = by (idle ms d h) (kind_of m.op)
    where
      one : (b : Bool) → (if b then committed r.start_version n d else d) ≡ d
      one true = commit_idle r.start_version n d h
      one false = refl

      by : all_committed (map (landing n) (placings r n ms)) d ≡ d → (o : Option Kind) → all_committed (map (landing n) (placing_of r n m o ++ placings r n ms)) d ≡ d
      by rest None = rest
      by rest (Some kind) = ap (all_committed (map (landing n) (placings r n ms))) (one (key_eq m.key d.key)) ∙ rest

  -- and nothing at other keys
  elsewhere : (ms : List Mutation) (d : Cell) → has_key (mutation_keys ms) d.key ≡ false → all_committed (map (landing n) (placings r n ms)) d ≡ d
  elsewhere [] d h = refl
  elsewhere (m ∷ ms) d h = by_key (λ g. elsewhere ms d g) (key_eq m.key d.key) refl h
    where
      by_kind : key_eq m.key d.key ≡ false → all_committed (map (landing n) (placings r n ms)) d ≡ d → (o : Option Kind) → all_committed (map (landing n) (placing_of r n m o ++ placings r n ms)) d ≡ d
      by_kind e rest None = rest
      by_kind e rest (Some kind) = ap (all_committed (map (landing n) (placings r n ms))) (off r.start_version n d (key_eq m.key d.key) e) ∙ rest

      by_key : (has_key (mutation_keys ms) d.key ≡ false → all_committed (map (landing n) (placings r n ms)) d ≡ d) → (b : Bool) → key_eq m.key d.key ≡ b → (b || has_key (mutation_keys ms) d.key) ≡ false → all_committed (map (landing n) (placing_of r n m (kind_of m.op) ++ placings r n ms)) d ≡ d
      by_key rest true e g = absurd (cc)
      by_key rest false e g = by_kind e (rest g) (kind_of m.op)

  -- where neither a prewrite lock nor a commit stands, locks that become commits do what the mutations do
  lands : (ms : List Mutation) (c : Cell) → stands c r.start_version ≡ false → all_committed (map (landing n) (placings r n ms)) (prewrite_cell r n ms c) ≡ land_cell r n ms c
  lands [] c h = refl
  lands (m ∷ ms) c h = by_key (lands ms c h) (key_eq m.key c.key) refl
    where
      skip : (d : Cell) → key_eq m.key d.key ≡ false → (o : Option Kind) → all_committed (map (landing n) (placing_of r n m o ++ placings r n ms)) d ≡ all_committed (map (landing n) (placings r n ms)) d
      skip d e None = refl
      skip d e (Some kind) = ap (all_committed (map (landing n) (placings r n ms))) (off r.start_version n d (key_eq m.key d.key) e)

      by_kind : key_eq m.key c.key ≡ true → all_committed (map (landing n) (placings r n ms)) (prewrite_cell r n ms c) ≡ land_cell r n ms c → (o : Option Kind) → kind_of m.op ≡ o → all_committed (map (landing n) (placing_of r n m o ++ placings r n ms)) (prewrite_cell r n ms (placed r n m.value o c)) ≡ land_cell r n ms (landed r n m.value o c)
      by_kind e rest None l = rest
      by_kind e rest (Some kind) l =
          let x = lock_of r n m.value kind in
          let p = kind_prewrites m.op kind l in
          let both = neither (owns c.lock r.start_version) (has_commit c r.start_version) h in
          let d = committed r.start_version n (held x c) in
          let ready : Placing = record { key = m.key; lock = x } in
          let placed_so : placed r n m.value (Some kind) c ≡ held x c = rw h refl in
          let landed_so : landed r n m.value (Some kind) c ≡ d = rw both.1 refl in
          let own : stands (held x c) r.start_version ≡ true = grind (arith, nat_tests) in
          let has : has_commit d r.start_version ≡ true = subst (λ y. has_commit y r.start_version ≡ true) (land_open r n m kind c l both.1) (land_fastens r n m kind c l) in
          let free : owns d.lock r.start_version ≡ false = rw (held_commits x n c p) refl in
          let first : (if key_eq m.key c.key then d else held x c) ≡ d = rw e refl in
          ap (all_committed (map (landing n) (ready ∷ placings r n ms))) (ap (prewrite_cell r n ms) placed_so ∙ place_stays r n ms (held x c) own)
          ∙ (ap (all_committed (map (landing n) (placings r n ms))) first
          ∙ (idle ms d free ∙ (sym (land_stays r n ms d has) ∙ ap (land_cell r n ms) (sym landed_so))))

      by_key : all_committed (map (landing n) (placings r n ms)) (prewrite_cell r n ms c) ≡ land_cell r n ms c → (b : Bool) → key_eq m.key c.key ≡ b → all_committed (map (landing n) (placing_of r n m (kind_of m.op) ++ placings r n ms)) (prewrite_cell r n ms (if b then place r n m c else c)) ≡ land_cell r n ms (if b then land r n m c else c)
      by_key rest true e = by_kind e rest (kind_of m.op) refl
      by_key rest false e = skip (prewrite_cell r n ms c) (ap (key_eq m.key) (prewrite_key r n ms c) ∙ e) (kind_of m.op) ∙ rest

  -- at each key of the cells
  lands_at : (cs : List Cell) → r.try_one_pc ≡ true → prewrite_errors cs r r.mutations r.is_pessimistic_lock ≡ [] → passed_commit cs r.start_version r.mutations ≡ None → (j : Key) → all_committed (map (landing n) (placings r n r.mutations)) (prewrite_cell r n r.mutations (cell_at cs j)) ≡ (if has_key (mutation_keys r.mutations) j then land_cell r n r.mutations (cell_at cs j) else cell_at cs j)
  lands_at cs once free none j = by (has_key (mutation_keys r.mutations) j) refl
    where
      by : (b : Bool) → has_key (mutation_keys r.mutations) j ≡ b → all_committed (map (landing n) (placings r n r.mutations)) (prewrite_cell r n r.mutations (cell_at cs j)) ≡ (if b then land_cell r n r.mutations (cell_at cs j) else cell_at cs j)
      by true e = lands r.mutations (cell_at cs j) (clear_once cs r j once free none e)
      by false e =
          let here : has_key (mutation_keys r.mutations) (cell_at cs j).key ≡ false = ap (has_key (mutation_keys r.mutations)) (key_of_cell cs j) ∙ e in
          ap (all_committed (map (landing n) (placings r n r.mutations))) (fold_other (place r n) r.mutations (cell_at cs j) here) ∙ elsewhere r.mutations (cell_at cs j) here

  -- cells that show at each key the commits that the locks became are those of the table
  pub landed_is_changed : (cs ds : List Cell) → AreKept cs → AreKept ds → r.try_one_pc ≡ true → prewrite_errors cs r r.mutations r.is_pessimistic_lock ≡ [] → passed_commit cs r.start_version r.mutations ≡ None → ((j : Key) → cell_at ds j ≡ all_committed (map (landing n) (placings r n r.mutations)) (all_locked (placings r n r.mutations) (cell_at cs j))) → ds ≡ changed_at (mutation_keys r.mutations) (land_cell r n r.mutations) cs
  landed_is_changed cs ds old new once free none lands_so =
      changes_are (mutation_keys r.mutations) (land_cell r n r.mutations) (land_key r n r.mutations) cs ds old new
      (λ j. lands_so j ∙ (ap (all_committed (map (landing n) (placings r n r.mutations))) (all_locked_is r n r.mutations (cell_at cs j)) ∙ lands_at cs once free none j))

-- Where memory is wanting, the locks are put back.

abbrev with_lock : Option Lock → Cell → Cell
with_lock o c = record { key = c.key; lock = o; commits = c.commits; rolled = c.rolled }

abbrev is_of : Key → Placing → Bool
is_of j p = key_eq p.key j

-- locks change nothing but the lock
locks_alone : (ps : List Placing) (c : Cell) → (o : Option Lock) × (all_locked ps c ≡ with_lock o c)
locks_alone [] c = (c.lock, refl)
locks_alone (p ∷ ps) c = by_key (λ o. locks_alone ps (with_lock o c)) (key_eq p.key c.key)
  where
    by_key : ((o : Option Lock) → (x : Option Lock) × (all_locked ps (with_lock o c) ≡ with_lock x c)) → (b : Bool) → (x : Option Lock) × (all_locked ps (if b then locked p c else c) ≡ with_lock x c)
    by_key rest false = rest c.lock
    by_key rest true = by_stands (stands c p.lock.start)
      where
        by_stands : (b : Bool) → (x : Option Lock) × (all_locked ps (if b then c else with_lock (Some p.lock) c) ≡ with_lock x c)
        by_stands true = rest c.lock
        by_stands false = rest (Some p.lock)

locks_none : (ps : List Placing) (c : Cell) → list_any (is_of c.key) ps ≡ false → all_locked ps c ≡ c
locks_none [] c h = refl
locks_none (p ∷ ps) c h = by (λ g. locks_none ps c g) (key_eq p.key c.key) h
  where
    by : (list_any (is_of c.key) ps ≡ false → all_locked ps c ≡ c) → (b : Bool) → (b || list_any (is_of c.key) ps) ≡ false → all_locked ps (if b then locked p c else c) ≡ c
    by rest true g = absurd (cc)
    by rest false g = rest g

back_lock : (l o : Option Lock) → lock_after (back_to l) o ≡ l
back_lock None o = refl
back_lock (Some l) o = refl

-- what is put back is the lock that stood
puts_back : (cs : List Cell) (ps : List Placing) (j : Key) (o : Option Lock) → all_made (map (λ p. back p.key (cell_at cs p.key)) ps) (with_lock o (cell_at cs j)) ≡ (if list_any (is_of j) ps then cell_at cs j else with_lock o (cell_at cs j))
puts_back cs [] j o = refl
puts_back cs (p ∷ ps) j o = by_key (λ x. puts_back cs ps j x) (key_eq p.key (cell_at cs j).key) (key_eq p.key j) refl (ap (key_eq p.key) (key_of_cell cs j))
  where
    same : (b : Bool) → (if b then cell_at cs j else with_lock (cell_at cs j).lock (cell_at cs j)) ≡ cell_at cs j
    same true = refl
    same false = refl

    by_key : ((x : Option Lock) → all_made (map (λ p. back p.key (cell_at cs p.key)) ps) (with_lock x (cell_at cs j)) ≡ (if list_any (is_of j) ps then cell_at cs j else with_lock x (cell_at cs j))) → (a b : Bool) → key_eq p.key (cell_at cs j).key ≡ a → key_eq p.key (cell_at cs j).key ≡ b → all_made (map (λ p. back p.key (cell_at cs p.key)) ps) (if a then made_by (back p.key (cell_at cs p.key)) (with_lock o (cell_at cs j)) else with_lock o (cell_at cs j)) ≡ (if b || list_any (is_of j) ps then cell_at cs j else with_lock o (cell_at cs j))
    by_key rest true true e f =
        let here : p.key ≡ j = same_key p.key (cell_at cs j).key e ∙ key_of_cell cs j in
        let made_so : made_by (back p.key (cell_at cs p.key)) (with_lock o (cell_at cs j)) ≡ with_lock (cell_at cs j).lock (cell_at cs j) = ap (λ q. with_lock (lock_after (back_to (cell_at cs q).lock) o) (cell_at cs j)) here ∙ ap (λ x. with_lock x (cell_at cs j)) (back_lock (cell_at cs j).lock o) in
        ap (all_made (map (λ p. back p.key (cell_at cs p.key)) ps)) made_so ∙ (rest (cell_at cs j).lock ∙ same (list_any (is_of j) ps))
    by_key rest false false e f = rest o
    by_key rest true false e f = absurd (cc)
    by_key rest false true e f = absurd (cc)

-- so all is as it was
pub undone_is : (cs ds es : List Cell) (ps : List Placing) → AreKept cs → AreKept es → ((j : Key) → cell_at ds j ≡ all_locked ps (cell_at cs j)) → ((j : Key) → cell_at es j ≡ all_made (map (λ p. back p.key (cell_at cs p.key)) ps) (cell_at ds j)) → es ≡ cs
undone_is cs ds es ps old new locks backs = same_cells es cs new.in_order new.none_empty old.in_order old.none_empty (λ j. backs j ∙ by j (list_any (is_of j) ps) refl)
  where
    by : (j : Key) (b : Bool) → list_any (is_of j) ps ≡ b → all_made (map (λ p. back p.key (cell_at cs p.key)) ps) (cell_at ds j) ≡ cell_at cs j
    by j true e =
        let so = locks_alone ps (cell_at cs j) in
        ap (all_made (map (λ p. back p.key (cell_at cs p.key)) ps)) (locks j ∙ so.1) ∙ (puts_back cs ps j so.0 ∙ rw e refl)
    by j false e =
        let none : list_any (is_of (cell_at cs j).key) ps ≡ false = ap (λ q. list_any (is_of q) ps) (key_of_cell cs j) ∙ e in
        ap (all_made (map (λ p. back p.key (cell_at cs p.key)) ps)) (locks j ∙ locks_none ps (cell_at cs j) none) ∙ (puts_back cs ps j (cell_at cs j).lock ∙ rw e refl)
