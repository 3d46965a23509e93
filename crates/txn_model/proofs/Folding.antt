-- Mutations that change the cell of their key one after another: each leaves it, or changes it once, from where it stands fast.
use Rattle.std.proofs.Common.{◌≡◌, ℕ, ◌⊎◌, inl, inr, Bool, true, false, ◌&&◌, ◌||◌, List, [], ◌∷◌, Option, Some, None, nat_eq, refl, sym, ap, ◌∙◌, subst, arith}
use Rattle.std.specs.Prelude.{if◌then◌else◌, is_some}
use Rattle.std.proofs.lemmas.Bool.Decides.{nat_tests}
use Rattle.txn_kv.specs.declared.message.Mutation.{Mutation}
use Rattle.txn_kv.specs.declared.message.Op.{Op}
use Rattle.txn_kv.specs.declared.request.commits.PrewriteRequest.{PrewriteRequest}
use Rattle.txn_model.specs.declared.cell.Cell.{Cell}
use Rattle.txn_model.specs.declared.cell.Kind.{Kind}
use Rattle.txn_model.specs.declared.cell.Lock.{Lock}
use Rattle.txn_model.specs.declared.cell.Write.{Write}
use Rattle.txn_model.specs.Cells.{Key, key_eq, has_key, cell_at}
use Rattle.txn_model.specs.Commit.{committed}
use Rattle.txn_model.specs.Locks.{is_prewrite, owns, commit_of, with_commit}
use Rattle.txn_model.specs.Prewrite.{kind_of, lock_of, fold_cell, placed, place, prewrite_cell, landed, land, land_cell, mutation_keys}
use Rattle.txn_model.proofs.CellLists.{key_of_cell, KeepsKeys}
use Rattle.txn_model.proofs.Orders.{commit_of_with}
use Rattle.txn_model.proofs.Unlocking.{commit_key_same}

-- a prewrite lock or a commit of the start stands
abbrev pub stands : Cell → ℕ → Bool
stands c s = owns c.lock s || is_some (commit_of c.commits s)

abbrev pub has_commit : Cell → ℕ → Bool
has_commit c s = is_some (commit_of c.commits s)

-- a mutation that locks changed the cell so
pub record ChangedBy (f : Mutation → Cell → Cell) (c d : Cell) : Type 0 where
  pub mutation : Mutation
  pub kind : Kind
  pub locks : kind_of mutation.op ≡ Some kind
  pub so : d ≡ f mutation c

module _ (f : Mutation → Cell → Cell) (fast : Cell → Bool)
    (rests : (m : Mutation) (c : Cell) → fast c ≡ true → f m c ≡ c)
    (skips : (m : Mutation) (c : Cell) → kind_of m.op ≡ None → f m c ≡ c)
    (fastens : (m : Mutation) (kind : Kind) (c : Cell) → kind_of m.op ≡ Some kind → fast (f m c) ≡ true)
    (keeps : (m : Mutation) (c : Cell) → (f m c).key ≡ c.key) where
  pub fold_rests : (ms : List Mutation) (c : Cell) → fast c ≡ true → fold_cell f ms c ≡ c
  fold_rests [] c h = refl
  fold_rests (m ∷ ms) c h = ap (fold_cell f ms) (by (key_eq m.key c.key)) ∙ fold_rests ms c h
    where
      by : (b : Bool) → (if b then f m c else c) ≡ c
      by true = rests m c h
      by false = refl

  pub fold_is : (ms : List Mutation) (c : Cell) → (fold_cell f ms c ≡ c) ⊎ (ChangedBy f c (fold_cell f ms c) × (fast c ≡ false))
  fold_is [] c = inl refl
  fold_is (m ∷ ms) c = by_key (fold_is ms c) (key_eq m.key c.key)
    where
      by_fast : (kind : Kind) → kind_of m.op ≡ Some kind → (b : Bool) → fast c ≡ b → (fold_cell f ms (f m c) ≡ c) ⊎ (ChangedBy f c (fold_cell f ms (f m c)) × (fast c ≡ false))
      by_fast kind l true g = inl (ap (fold_cell f ms) (rests m c g) ∙ fold_rests ms c g)
      by_fast kind l false g = inr (record { mutation = m; kind = kind; locks = l; so = fold_rests ms (f m c) (fastens m kind c l) }, g)

      by_kind : (fold_cell f ms c ≡ c) ⊎ (ChangedBy f c (fold_cell f ms c) × (fast c ≡ false)) → (o : Option Kind) → kind_of m.op ≡ o → (fold_cell f ms (f m c) ≡ c) ⊎ (ChangedBy f c (fold_cell f ms (f m c)) × (fast c ≡ false))
      by_kind rest None l = subst (λ d. (fold_cell f ms d ≡ c) ⊎ (ChangedBy f c (fold_cell f ms d) × (fast c ≡ false))) (sym (skips m c l)) rest
      by_kind rest (Some kind) l = by_fast kind l (fast c) refl

      by_key : (fold_cell f ms c ≡ c) ⊎ (ChangedBy f c (fold_cell f ms c) × (fast c ≡ false)) → (b : Bool) → (fold_cell f ms (if b then f m c else c) ≡ c) ⊎ (ChangedBy f c (fold_cell f ms (if b then f m c else c)) × (fast c ≡ false))
      by_key rest true = by_kind rest (kind_of m.op) refl
      by_key rest false = rest

  pub fold_keeps : (ms : List Mutation) → KeepsKeys (fold_cell f ms)
  fold_keeps [] c = refl
  fold_keeps (m ∷ ms) c = fold_keeps ms (if key_eq m.key c.key then f m c else c) ∙ by (key_eq m.key c.key)
    where
      by : (b : Bool) → (if b then f m c else c).key ≡ c.key
      by true = keeps m c
      by false = refl

-- the cell of another key stays
pub fold_other : (f : Mutation → Cell → Cell) (ms : List Mutation) (c : Cell) → has_key (mutation_keys ms) c.key ≡ false → fold_cell f ms c ≡ c
fold_other f [] c h = refl
fold_other f (m ∷ ms) c h = by (key_eq m.key c.key) h (fold_other f ms c)
  where
    by : (b : Bool) → (b || has_key (mutation_keys ms) c.key) ≡ false → (has_key (mutation_keys ms) c.key ≡ false → fold_cell f ms c ≡ c) → fold_cell f ms (if b then f m c else c) ≡ c
    by true h later = absurd (cc)
    by false h later = later h

pub folded : (f : Mutation → Cell → Cell) (ms : List Mutation) (cs : List Cell) (j : Key) → (if has_key (mutation_keys ms) j then fold_cell f ms (cell_at cs j) else cell_at cs j) ≡ fold_cell f ms (cell_at cs j)
folded f ms cs j = by (has_key (mutation_keys ms) j) refl
  where
    by : (b : Bool) → has_key (mutation_keys ms) j ≡ b → (if b then fold_cell f ms (cell_at cs j) else cell_at cs j) ≡ fold_cell f ms (cell_at cs j)
    by true e = refl
    by false e = sym (fold_other f ms (cell_at cs j) (ap (has_key (mutation_keys ms)) (key_of_cell cs j) ∙ e))

pub kind_prewrites : (o : Op) (kind : Kind) → kind_of o ≡ Some kind → is_prewrite kind ≡ true
kind_prewrites o kind h = grind arith

-- a lock is set
abbrev pub held : Lock → Cell → Cell
held l c = record { key = c.key; lock = Some l; commits = c.commits; rolled = c.rolled }

pub no_commit_of : (c : Cell) (s : ℕ) → has_commit c s ≡ false → commit_of c.commits s ≡ None
no_commit_of c s h = by (commit_of c.commits s) h
  where
    by : (o : Option Write) → is_some o ≡ false → o ≡ None
    by None e = refl
    by (Some w) e = absurd (cc)

module _ (r : PrewriteRequest) (n : ℕ) where
  abbrev fast : Cell → Bool
  fast c = stands c r.start_version

  abbrev once : Cell → Bool
  once c = has_commit c r.start_version

  place_rests : (m : Mutation) (c : Cell) → fast c ≡ true → place r n m c ≡ c
  place_rests m c h = by (kind_of m.op)
    where
      by : (o : Option Kind) → placed r n m.value o c ≡ c
      by None = refl
      by (Some kind) = rw h refl

  place_skips : (m : Mutation) (c : Cell) → kind_of m.op ≡ None → place r n m c ≡ c
  place_skips m c h = rw h refl

  pub place_open : (m : Mutation) (kind : Kind) (c : Cell) → kind_of m.op ≡ Some kind → fast c ≡ false → place r n m c ≡ held (lock_of r n m.value kind) c
  place_open m kind c l h = rw (l, h) refl

  place_fastens : (m : Mutation) (kind : Kind) (c : Cell) → kind_of m.op ≡ Some kind → fast (place r n m c) ≡ true
  place_fastens m kind c l = by (fast c) refl
    where
      by : (b : Bool) → fast c ≡ b → fast (place r n m c) ≡ true
      by true e = subst (λ d. fast d ≡ true) (sym (place_rests m c e)) e
      by false e = subst (λ d. fast d ≡ true) (sym (place_open m kind c l e)) (let p = kind_prewrites m.op kind l in grind (arith, nat_tests))

  place_keeps : (m : Mutation) (c : Cell) → (place r n m c).key ≡ c.key
  place_keeps m c = by (kind_of m.op)
    where
      by : (o : Option Kind) → (placed r n m.value o c).key ≡ c.key
      by None = refl
      by (Some kind) = by_fast (fast c)
        where
          by_fast : (b : Bool) → (if b then c else held (lock_of r n m.value kind) c).key ≡ c.key
          by_fast true = refl
          by_fast false = refl

  land_rests : (m : Mutation) (c : Cell) → once c ≡ true → land r n m c ≡ c
  land_rests m c h = by (kind_of m.op)
    where
      by : (o : Option Kind) → landed r n m.value o c ≡ c
      by None = refl
      by (Some kind) = rw h refl

  land_skips : (m : Mutation) (c : Cell) → kind_of m.op ≡ None → land r n m c ≡ c
  land_skips m c h = rw h refl

  pub land_open : (m : Mutation) (kind : Kind) (c : Cell) → kind_of m.op ≡ Some kind → once c ≡ false → land r n m c ≡ committed r.start_version n (held (lock_of r n m.value kind) c)
  land_open m kind c l h = rw (l, h) refl

  pub land_fastens : (m : Mutation) (kind : Kind) (c : Cell) → kind_of m.op ≡ Some kind → once (land r n m c) ≡ true
  land_fastens m kind c l = by (once c) refl
    where
      by : (b : Bool) → once c ≡ b → once (land r n m c) ≡ true
      by true e = subst (λ d. once d ≡ true) (sym (land_rests m c e)) e
      by false e = subst (λ d. once d ≡ true) (sym (land_open m kind c l e)) (let p = kind_prewrites m.op kind l in let u = no_commit_of c r.start_version e in grind (arith, nat_tests, commit_of_with))

  land_keeps : (m : Mutation) (c : Cell) → (land r n m c).key ≡ c.key
  land_keeps m c = by (kind_of m.op)
    where
      by : (o : Option Kind) → (landed r n m.value o c).key ≡ c.key
      by None = refl
      by (Some kind) = by_once (once c)
        where
          by_once : (b : Bool) → (if b then c else committed r.start_version n (held (lock_of r n m.value kind) c)).key ≡ c.key
          by_once true = refl
          by_once false = commit_key_same r.start_version n (held (lock_of r n m.value kind) c)

  pub prewrite_key : (ms : List Mutation) → KeepsKeys (prewrite_cell r n ms)
  prewrite_key ms = fold_keeps (place r n) fast place_rests place_skips place_fastens place_keeps ms

  pub land_key : (ms : List Mutation) → KeepsKeys (land_cell r n ms)
  land_key ms = fold_keeps (land r n) once land_rests land_skips land_fastens land_keeps ms

  pub place_stays : (ms : List Mutation) (c : Cell) → fast c ≡ true → prewrite_cell r n ms c ≡ c
  place_stays = fold_rests (place r n) fast place_rests place_skips place_fastens place_keeps

  pub land_stays : (ms : List Mutation) (c : Cell) → once c ≡ true → land_cell r n ms c ≡ c
  land_stays = fold_rests (land r n) once land_rests land_skips land_fastens land_keeps

  pub place_is : (ms : List Mutation) (c : Cell) → (prewrite_cell r n ms c ≡ c) ⊎ (ChangedBy (place r n) c (prewrite_cell r n ms c) × (fast c ≡ false))
  place_is = fold_is (place r n) fast place_rests place_skips place_fastens place_keeps

  pub land_is : (ms : List Mutation) (c : Cell) → (land_cell r n ms c ≡ c) ⊎ (ChangedBy (land r n) c (land_cell r n ms c) × (once c ≡ false))
  land_is = fold_is (land r n) once land_rests land_skips land_fastens land_keeps

pub neither : (a b : Bool) → (a || b) ≡ false → (a ≡ false) × (b ≡ false)
neither true b h = absurd (cc)
neither false true h = absurd (cc)
neither false false h = (refl, refl)

-- a held lock of the start that becomes a commit
pub held_commits : (l : Lock) (n : ℕ) (c : Cell) → is_prewrite l.kind ≡ true → committed l.start n (held l c) ≡ (let x : Cell = record { key = c.key; lock = None; commits = with_commit (record { start = l.start; commit = n; kind = l.kind; value = l.value }) c.commits; rolled = c.rolled } in x)
held_commits l n c p = by (nat_eq l.start l.start) (is_prewrite l.kind) (grind (arith, nat_tests)) p
  where
    by : (a b : Bool) → a ≡ true → b ≡ true → (let x : Cell = record { key = c.key; lock = None; commits = with_commit (record { start = l.start; commit = n; kind = l.kind; value = l.value }) c.commits; rolled = c.rolled } in if a && b then x else held l c) ≡ (let x : Cell = record { key = c.key; lock = None; commits = with_commit (record { start = l.start; commit = n; kind = l.kind; value = l.value }) c.commits; rolled = c.rolled } in x)
    by true true e f = refl
    by true false e f = absurd (cc)
    by false b e f = absurd (cc)
