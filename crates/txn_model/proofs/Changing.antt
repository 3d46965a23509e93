-- Changes of cells beside their commits.
use Rattle.std.proofs.Common.{◌≡◌, ℕ, Bool, true, false, if◌then◌else◌, List, [], ◌∷◌, ◌++◌, map, reverse, Option, Some, None, refl, sym, ap, ◌∙◌}
use Rattle.std.specs.Prelude.{◌||◌}
use Rattle.std.proofs.lemmas.List.{reverse-append}
use Rattle.txn_model.specs.declared.cell.Cell.{Cell}
use Rattle.txn_model.specs.declared.change.Change.{Change}
use Rattle.txn_model.specs.declared.change.LockChange.{LockChange}
use Rattle.txn_model.specs.declared.change.LockChange.TheVariants.{Stays, Goes, Becomes}
use Rattle.txn_model.specs.Cells.{Key, key_eq, has_key, cell_at, changed_at, AreKept}
use Rattle.txn_model.specs.Changes.{made, made_by, all_made}
use Rattle.txn_model.proofs.CellLists.{key_of_cell, same_cells, kept_changed, cell_changed, KeepsKeys}
use Rattle.txn_model.proofs.Keys.{same_key}

-- one change more in a row of them
pub made_next : (before rest : List Change) (x : Change) → before ≡ rest ++ x ∷ [] → (cs ds : List Cell) → ((j : Key) → cell_at ds j ≡ (if key_eq x.key j then made_by x (cell_at cs j) else cell_at cs j)) → (j : Key) → all_made (reverse rest) (cell_at ds j) ≡ all_made (reverse before) (cell_at cs j)
made_next before rest x e cs ds step j =
    ap (all_made (reverse rest)) (step j ∙ ap (λ q. if key_eq x.key q then made_by x (cell_at cs j) else cell_at cs j) (sym (key_of_cell cs j)))
    ∙ sym (ap (λ xs. all_made xs (cell_at cs j)) (ap reverse e ∙ reverse-append rest (x ∷ [])))

-- a change that is made twice is made
made_twice : (x : Change) (c : Cell) → made_by x (made_by x c) ≡ made_by x c
made_twice x c = by x.lock x.rolled
  where
    by : (l : LockChange) (r : Option (List ℕ)) → made l r (made l r c) ≡ made l r c
    by Stays None = refl
    by Stays (Some r) = refl
    by Goes None = refl
    by Goes (Some r) = refl
    by (Becomes m) None = refl
    by (Becomes m) (Some r) = refl

-- cells that show at each key what a change makes of it are those of the table
pub changes_are : (keys : List Key) (f : Cell → Cell) → KeepsKeys f → (cs ds : List Cell) → AreKept cs → AreKept ds → ((j : Key) → cell_at ds j ≡ (if has_key keys j then f (cell_at cs j) else cell_at cs j)) → ds ≡ changed_at keys f cs
changes_are keys f keeps cs ds old new changes =
    let after = kept_changed keys f keeps cs old.in_order in
    same_cells ds (changed_at keys f cs) new.in_order new.none_empty after.in_order after.none_empty
    (λ j. changes j ∙ sym (cell_changed keys f keeps cs old.in_order j))

-- changes that are made ready at the cells of keys
module _ (g : Key → Cell → Change) (f : Cell → Cell) (keyed : (k : Key) (c : Cell) → (g k c).key ≡ k) (makes : (c : Cell) → made_by (g c.key c) c ≡ f c) where
  pub keeps_made : KeepsKeys f
  keeps_made c = sym (ap (λ x. x.key) (makes c))

  one_made : (k : Key) (cs : List Cell) (c : Cell) (b : Bool) → c ≡ cell_at cs c.key → (let x = g k (cell_at cs k) in if key_eq x.key (if b then f c else c).key then made_by x (if b then f c else c) else (if b then f c else c)) ≡ (if b || key_eq k c.key then f c else c)
  one_made k cs c b here =
      let x = g k (cell_at cs k) in
      ap (λ q. if key_eq q (if b then f c else c).key then made_by x (if b then f c else c) else (if b then f c else c)) (keyed k (cell_at cs k))
      ∙ (ap (λ q. if key_eq k q then made_by x (if b then f c else c) else (if b then f c else c)) key
      ∙ by b (key_eq k c.key) refl)
    where
      key : (if b then f c else c).key ≡ c.key
      key = on b
        where
          on : (t : Bool) → (if t then f c else c).key ≡ c.key
          on true = keeps_made c
          on false = refl

      there : key_eq k c.key ≡ true → g k (cell_at cs k) ≡ g c.key c
      there e = let same = same_key k c.key e in ap (λ q. g q (cell_at cs q)) same ∙ ap (g c.key) (sym here)

      by : (s t : Bool) → key_eq k c.key ≡ t → (if t then made_by (g k (cell_at cs k)) (if s then f c else c) else (if s then f c else c)) ≡ (if s || t then f c else c)
      by true true e = ap (λ x. made_by x (f c)) (there e) ∙ (ap (made_by (g c.key c)) (sym (makes c)) ∙ (made_twice (g c.key c) c ∙ makes c))
      by true false e = refl
      by false true e = ap (λ x. made_by x c) (there e) ∙ makes c
      by false false e = refl

  all_made_from : (ks : List Key) (cs : List Cell) (c : Cell) (b : Bool) → c ≡ cell_at cs c.key → all_made (map (λ k. g k (cell_at cs k)) ks) (if b then f c else c) ≡ (if b || has_key ks c.key then f c else c)
  all_made_from [] cs c b here = by b
    where
      by : (t : Bool) → (if t then f c else c) ≡ (if t || false then f c else c)
      by true = refl
      by false = refl
  all_made_from (k ∷ ks) cs c b here =
      ap (all_made (map (λ q. g q (cell_at cs q)) ks)) (one_made k cs c b here)
      ∙ (all_made_from ks cs c (b || key_eq k c.key) here ∙ by b (key_eq k c.key) (has_key ks c.key))
    where
      by : (r s t : Bool) → (if (r || s) || t then f c else c) ≡ (if r || (s || t) then f c else c)
      by true s t = refl
      by false s t = refl

  -- what they make of the cell of each key
  pub made_ready : (ks : List Key) (cs : List Cell) (j : Key) → all_made (map (λ k. g k (cell_at cs k)) ks) (cell_at cs j) ≡ (if has_key ks j then f (cell_at cs j) else cell_at cs j)
  made_ready ks cs j =
      all_made_from ks cs (cell_at cs j) false (sym (ap (cell_at cs) (key_of_cell cs j)))
      ∙ ap (λ q. if has_key ks q then f (cell_at cs j) else cell_at cs j) (key_of_cell cs j)

  pub ready_is_changed : (ks : List Key) (cs ds : List Cell) → AreKept cs → AreKept ds → ((j : Key) → cell_at ds j ≡ all_made (map (λ k. g k (cell_at cs k)) ks) (cell_at cs j)) → ds ≡ changed_at ks f cs
  ready_is_changed ks cs ds old new made_so = changes_are ks f keeps_made cs ds old new (λ j. made_so j ∙ made_ready ks cs j)

  pub one_is_changed : (k : Key) (x : Change) (cs ds : List Cell) → AreKept cs → AreKept ds → x ≡ g k (cell_at cs k) → ((j : Key) → cell_at ds j ≡ (if key_eq x.key j then made_by x (cell_at cs j) else cell_at cs j)) → ds ≡ changed_at (k ∷ []) f cs
  one_is_changed k x cs ds old new is step =
      ready_is_changed (k ∷ []) cs ds old new
      (λ j. step j ∙ (ap (λ q. if key_eq x.key q then made_by x (cell_at cs j) else cell_at cs j) (sym (key_of_cell cs j)) ∙ ap (λ y. all_made (y ∷ []) (cell_at cs j)) is))
