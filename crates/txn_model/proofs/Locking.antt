-- A prewrite, mutation by mutation.
use Rattle.std.proofs.Common.{◌≡◌, ℕ, ◌+◌, ◌<◌, Bool, true, false, if◌then◌else◌, List, [], ◌∷◌, ◌++◌, drop, reverse, length, get_or, set, Option, Some, None, refl, sym, ap, ◌∙◌, append_assoc, append-nil}
use Rattle.std.specs.Prelude.{option_to_list, is_some, not, ◌&&◌, ◌||◌}
use Rattle.std.specs.List.{insert}
use Rattle.std.proofs.lemmas.List.{drop_more, drop-drop, reverse-append}
use Rattle.txn_kv.specs.declared.message.KeyError.{KeyError}
use Rattle.txn_kv.specs.declared.message.Mutation.{Mutation}
use Rattle.txn_kv.specs.declared.request.commits.PrewriteRequest.{PrewriteRequest}
use Rattle.txn_model.specs.declared.cell.Cell.{Cell}
use Rattle.txn_model.specs.declared.cell.Kind.{Kind}
use Rattle.txn_model.specs.declared.prewrite.Placing.{Placing}
use Rattle.txn_model.specs.Cells.{Key, key_eq, cell_at, changed_at, AreKept}
use Rattle.txn_model.specs.Prewrite.{kind_of, placed, place, prewrite_cell, mutation_keys, first_flag, prewrite_error, prewrite_errors}
use Rattle.txn_model.specs.Placings.{placing_of, placings, locked, all_locked}
use Rattle.txn_model.specs.Locks.{owns, commit_of}
use Rattle.txn_model.specs.Places.{IsAt, IsGapFor}
use Rattle.txn_model.specs.Status.{is_missing}
use Rattle.txn_model.proofs.CellLists.{key_of_cell}
use Rattle.txn_model.proofs.Changing.{changes_are}
use Rattle.txn_model.proofs.Folding.{stands, prewrite_key, folded}
use Rattle.txn_model.proofs.PlacesInOrder.{changed_set, changed_insert, kept_set, kept_insert, full_read}

-- the lock set at a place
pub locked_set : (cs : List Cell) (p : Placing) (at : ℕ) (c : Cell) → AreKept cs → IsAt cs p.key at → c ≡ get_or cs at c → stands c p.lock.start ≡ false → (j : Key) → cell_at (set cs at (record { key = c.key; lock = Some p.lock; commits = c.commits; rolled = c.rolled })) j ≡ (if key_eq p.key j then locked p (cell_at cs j) else cell_at cs j)
locked_set cs p at c kept is read free = changed_set cs p.key at c _ (locked p) kept.in_order is read (rw free refl) (ap (λ x. x.key) read ∙ is.has_key c)

pub kept_locked_set : (cs : List Cell) (p : Placing) (at : ℕ) (c : Cell) → AreKept cs → IsAt cs p.key at → c ≡ get_or cs at c → AreKept (set cs at (record { key = c.key; lock = Some p.lock; commits = c.commits; rolled = c.rolled }))
kept_locked_set cs p at c kept is read = kept_set cs p.key at _ kept is (ap (λ x. x.key) read ∙ is.has_key c) refl

-- the lock left alone
pub locked_same : (cs : List Cell) (p : Placing) (at : ℕ) (c : Cell) → AreKept cs → IsAt cs p.key at → c ≡ get_or cs at c → stands c p.lock.start ≡ true → (j : Key) → cell_at (set cs at c) j ≡ (if key_eq p.key j then locked p (cell_at cs j) else cell_at cs j)
locked_same cs p at c kept is read held = changed_set cs p.key at c c (locked p) kept.in_order is read (rw held refl) (ap (λ x. x.key) read ∙ is.has_key c)

pub kept_same : (cs : List Cell) (k : Key) (at : ℕ) (c : Cell) → AreKept cs → IsAt cs k at → c ≡ get_or cs at c → AreKept (set cs at c)
kept_same cs k at c kept is read = kept_set cs k at c kept is (ap (λ x. x.key) read ∙ is.has_key c) (full_read cs k at c kept is read)

-- a new cell with the lock
pub locked_insert : (cs : List Cell) (p : Placing) (at : ℕ) → IsGapFor cs p.key at → (j : Key) → cell_at (insert cs at (record { key = p.key; lock = Some p.lock; commits = []; rolled = [] })) j ≡ (if key_eq p.key j then locked p (cell_at cs j) else cell_at cs j)
locked_insert cs p at gap = changed_insert cs p.key at _ (locked p) gap refl refl

pub kept_locked_insert : (cs : List Cell) (p : Placing) (at : ℕ) → AreKept cs → IsGapFor cs p.key at → AreKept (insert cs at (record { key = p.key; lock = Some p.lock; commits = []; rolled = [] }))
kept_locked_insert cs p at kept gap = kept_insert cs p.key at _ kept gap refl refl

-- where the start is missing, neither its prewrite lock nor its commit stands
pub missing_stands : (c : Cell) (s : ℕ) → stands c s ≡ not (is_missing s c)
missing_stands c s = by (owns c.lock s) (is_some (commit_of c.commits s))
  where
    by : (a b : Bool) → (a || b) ≡ not (not a && not b)
    by true b = refl
    by false true = refl
    by false false = refl

-- one lock more in a row of them
pub locked_next : (before rest : List Placing) (p : Placing) → before ≡ rest ++ p ∷ [] → (cs ds : List Cell) → ((j : Key) → cell_at ds j ≡ (if key_eq p.key j then locked p (cell_at cs j) else cell_at cs j)) → (j : Key) → all_locked (reverse rest) (cell_at ds j) ≡ all_locked (reverse before) (cell_at cs j)
locked_next before rest p e cs ds step j =
    ap (all_locked (reverse rest)) (step j ∙ ap (λ q. if key_eq p.key q then locked p (cell_at cs j) else cell_at cs j) (sym (key_of_cell cs j)))
    ∙ sym (ap (λ x. all_locked x (cell_at cs j)) (ap reverse e ∙ reverse-append rest (p ∷ [])))

-- the errors

-- a part more of a list that is made from the front
one_more : {X : Type 0} (done next part left left' all : List X) → next ≡ done ++ part → left ≡ part ++ left' → done ++ left ≡ all → next ++ left' ≡ all
one_more done next part left left' all grows splits so_far = rw (grows, append_assoc) (ap (λ x. done ++ x) (sym splits) ∙ so_far)

errors_more : (cs : List Cell) (r : PrewriteRequest) (ms : List Mutation) (fs : List Bool) (i : ℕ) (m : Mutation) → i < length ms → m ≡ get_or ms i m → prewrite_errors cs r (drop i ms) (drop i fs) ≡ option_to_list (prewrite_error r m (first_flag (drop i fs)) (cell_at cs m.key)) ++ prewrite_errors cs r (drop (i + 1) ms) (drop (i + 1) fs)
errors_more cs r ms fs i m l e =
    ap (λ x. prewrite_errors cs r x (drop i fs)) (drop_more ms i m l ∙ ap (λ x. x ∷ drop (i + 1) ms) (sym e))
    ∙ ap (λ x. option_to_list (prewrite_error r m (first_flag (drop i fs)) (cell_at cs m.key)) ++ prewrite_errors cs r (drop (i + 1) ms) x) (drop-drop 1 i fs)

-- the errors so far, after one more mutation
pub errors_step : (cs : List Cell) (r : PrewriteRequest) (ms : List Mutation) (fs : List Bool) (i : ℕ) (m : Mutation) (f : Bool) (o : Option KeyError) (done next : List KeyError) → i < length ms → m ≡ get_or ms i m → f ≡ first_flag (drop i fs) → o ≡ prewrite_error r m f (cell_at cs m.key) → next ≡ done ++ option_to_list o → done ++ prewrite_errors cs r (drop i ms) (drop i fs) ≡ prewrite_errors cs r ms fs → next ++ prewrite_errors cs r (drop (i + 1) ms) (drop (i + 1) fs) ≡ prewrite_errors cs r ms fs
errors_step cs r ms fs i m f o done next l e flag error grows so_far =
    one_more done next (option_to_list o) (prewrite_errors cs r (drop i ms) (drop i fs)) (prewrite_errors cs r (drop (i + 1) ms) (drop (i + 1) fs)) (prewrite_errors cs r ms fs) grows
    (errors_more cs r ms fs i m l e ∙ ap (λ x. option_to_list x ++ prewrite_errors cs r (drop (i + 1) ms) (drop (i + 1) fs)) (ap (λ x. prewrite_error r m x (cell_at cs m.key)) (sym flag) ∙ sym error))
    so_far

pub pushed_one : (done next : List KeyError) (o : Option KeyError) (e : KeyError) → o ≡ Some e → next ≡ done ++ e ∷ [] → next ≡ done ++ option_to_list o
pushed_one done next o e some grows = grows ∙ ap (λ x. done ++ option_to_list x) (sym some)

pub pushed_none : (done next : List KeyError) (o : Option KeyError) → o ≡ None → next ≡ done → next ≡ done ++ option_to_list o
pushed_none done next o none same = same ∙ (sym (append-nil done) ∙ ap (λ x. done ++ option_to_list x) (sym none))

-- the mutations of a cell

all_locked-append : (ps qs : List Placing) (c : Cell) → all_locked (ps ++ qs) c ≡ all_locked qs (all_locked ps c)
all_locked-append [] qs c = refl
all_locked-append (p ∷ ps) qs c = all_locked-append ps qs (if key_eq p.key c.key then locked p c else c)

one_placed : (r : PrewriteRequest) (n : ℕ) (m : Mutation) (o : Option Kind) (c : Cell) → all_locked (placing_of r n m o) c ≡ (if key_eq m.key c.key then placed r n m.value o c else c)
one_placed r n m None c = by (key_eq m.key c.key)
  where
    by : (b : Bool) → c ≡ (if b then c else c)
    by true = refl
    by false = refl
one_placed r n m (Some kind) c = refl

-- the locks that are made ready do what the mutations do
pub all_locked_is : (r : PrewriteRequest) (n : ℕ) (ms : List Mutation) (c : Cell) → all_locked (placings r n ms) c ≡ prewrite_cell r n ms c
all_locked_is r n [] c = refl
all_locked_is r n (m ∷ ms) c =
    all_locked-append (placing_of r n m (kind_of m.op)) (placings r n ms) c
    ∙ (ap (all_locked (placings r n ms)) (one_placed r n m (kind_of m.op) c)
    ∙ all_locked_is r n ms (if key_eq m.key c.key then placed r n m.value (kind_of m.op) c else c))

-- cells that show at each key what the locks make of it are those of the table
pub locked_is_changed : (r : PrewriteRequest) (n : ℕ) (cs ds : List Cell) → AreKept cs → AreKept ds → ((j : Key) → cell_at ds j ≡ all_locked (placings r n r.mutations) (cell_at cs j)) → ds ≡ changed_at (mutation_keys r.mutations) (prewrite_cell r n r.mutations) cs
locked_is_changed r n cs ds old new locks =
    changes_are (mutation_keys r.mutations) (prewrite_cell r n r.mutations) (prewrite_key r n r.mutations) cs ds old new
    (λ j. locks j ∙ (all_locked_is r n r.mutations (cell_at cs j) ∙ sym (folded (place r n) r.mutations cs j)))
