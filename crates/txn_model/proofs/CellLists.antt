-- Lists of cells in the order of their keys, as functions from keys to cells.
use Rattle.std.proofs.Common.{◌≡◌, Bool, true, false, not, if◌then◌else◌, List, [], ◌∷◌, Option, Some, None, refl, sym, ap, ◌∙◌, subst}
use Rattle.std.specs.Prelude.{cond, ◌||◌}
use Rattle.std.specs.List.{list_any}
use Rattle.std.specs.Ordering.{match_ordering}
use Rattle.std.specs.declared.cmp.Ordering.{Ordering}
use Rattle.std.specs.declared.cmp.Ordering.TheVariants.{Less, Equal, Greater}
use Rattle.txn_model.specs.declared.cell.Cell.{Cell}
use Rattle.txn_model.specs.Cells.{Key, key_eq, key_cmp, has_key, no_cell, is_empty_cell, cell_at, with_room, with_rooms, each_changed, changed_at, AllAbove, AreInOrder, NoneEmpty, AreKept}
use Rattle.txn_model.proofs.Keys.{same_key, key_itself, less_trans, differs_if_greater, same_if_equal, less_if_greater, order_cases}

-- a cell that is empty is the one of which nothing is known
pub empty_is_none : (c : Cell) → is_empty_cell c ≡ true → c ≡ no_cell c.key
empty_is_none c h = by c.lock c.commits c.rolled h
  where
    by : (l : Option _) (ws : List _) (rs : List _) → is_empty_cell (record { key = c.key; lock = l; commits = ws; rolled = rs }) ≡ true → (let x : Cell = record { key = c.key; lock = l; commits = ws; rolled = rs } in x) ≡ no_cell c.key
    by None [] [] h = refl
    by None [] (r ∷ rs) h = cc
    by None (w ∷ ws) rs h = cc
    by (Some l) ws rs h = cc

pub no_cell_is_empty : (c : Cell) (k : Key) → c ≡ no_cell k → is_empty_cell c ≡ true
no_cell_is_empty c k h = ap is_empty_cell h

pub above_below : (j k : Key) (cs : List Cell) → key_cmp j k ≡ Less → AllAbove k cs → AllAbove j cs
above_below j k [] h a = tt
above_below j k (c ∷ cs) h a = (less_trans j k c.key h a.0, above_below j k cs h a.1)

-- no cell is kept of a key below all
pub none_below : (k : Key) (cs : List Cell) → AllAbove k cs → cell_at cs k ≡ no_cell k
none_below k [] a = refl
none_below k (c ∷ cs) a = rw (differs_if_greater k c.key a.0) (none_below k cs a.1)

pub key_of_cell : (cs : List Cell) (k : Key) → (cell_at cs k).key ≡ k
key_of_cell [] k = refl
key_of_cell (c ∷ cs) k = by (key_eq c.key k) refl (key_of_cell cs k)
  where
    by : (b : Bool) → key_eq c.key k ≡ b → (cell_at cs k).key ≡ k → (if b then c else cell_at cs k).key ≡ k
    by true e rest = same_key c.key k e
    by false e rest = rest

cell_first : (c : Cell) (cs : List Cell) → cell_at (c ∷ cs) c.key ≡ c
cell_first c cs = rw (key_itself c.key) refl

true_is_not_false : {G : Type 0} (b : Bool) → b ≡ true → b ≡ false → G
true_is_not_false b h i = absurd (cc)

-- two lists of kept cells that have the same cell at every key are one
pub same_cells : (xs ys : List Cell) → AreInOrder xs → NoneEmpty xs → AreInOrder ys → NoneEmpty ys → ((k : Key) → cell_at xs k ≡ cell_at ys k) → xs ≡ ys
same_cells [] [] oa na ob nb h = refl
same_cells [] (y ∷ ys) oa na ob nb h = true_is_not_false _ (no_cell_is_empty y y.key (sym (cell_first y ys) ∙ sym (h y.key))) nb.0
same_cells (x ∷ xs) [] oa na ob nb h = true_is_not_false _ (no_cell_is_empty x x.key (sym (cell_first x xs) ∙ h x.key)) na.0
same_cells (x ∷ xs) (y ∷ ys) oa na ob nb h =
    order_cases x.key y.key
    (λ less. true_is_not_false _ (no_cell_is_empty x x.key (sym (cell_first x xs) ∙ (h x.key ∙ none_below x.key (y ∷ ys) (less, above_below x.key y.key ys less ob.0)))) na.0)
    (λ same. let one : x ≡ y = sym (cell_first x xs) ∙ (h x.key ∙ (rw same (cell_first y ys))) in let rest = same_cells xs ys oa.1 na.1 ob.1 nb.1 (tails same) in cc)
    (λ more. true_is_not_false _ (no_cell_is_empty y y.key (sym (cell_first y ys) ∙ (sym (h y.key) ∙ none_below y.key (x ∷ xs) (more, above_below y.key x.key xs more oa.0)))) nb.0)
  where
    tails : x.key ≡ y.key → (k : Key) → cell_at xs k ≡ cell_at ys k
    tails same k = by (key_eq x.key k) refl
      where
        by : (t : Bool) → key_eq x.key k ≡ t → cell_at xs k ≡ cell_at ys k
        by true e =
            let here = same_key x.key k e in
            subst (λ q. cell_at xs q ≡ cell_at ys q) here (none_below x.key xs oa.0 ∙ rw same (sym (none_below y.key ys ob.0)))
        by false e = sym (rw e refl) ∙ (h k ∙ rw (← same, e) refl)

-- Room for a key.

above_room_at : (o : Ordering) (j k : Key) (c : Cell) (cs more : List Cell) → key_cmp j k ≡ Less → AllAbove j (c ∷ cs) → AllAbove j more → AllAbove j (match_ordering o (no_cell k ∷ c ∷ cs) (c ∷ cs) (c ∷ more))
above_room_at Less j k c cs more h a m = (h, a)
above_room_at Equal j k c cs more h a m = a
above_room_at Greater j k c cs more h a m = (a.0, m)

above_room : (j k : Key) (cs : List Cell) → key_cmp j k ≡ Less → AllAbove j cs → AllAbove j (with_room k cs)
above_room j k [] h a = (h, tt)
above_room j k (c ∷ cs) h a = above_room_at (key_cmp k c.key) j k c cs (with_room k cs) h a (above_room j k cs h a.1)

order_room_at : (o : Ordering) (k : Key) (c : Cell) (cs more : List Cell) → key_cmp k c.key ≡ o → AreInOrder (c ∷ cs) → (key_cmp c.key k ≡ Less → AllAbove c.key more) → AreInOrder more → AreInOrder (match_ordering o (no_cell k ∷ c ∷ cs) (c ∷ cs) (c ∷ more))
order_room_at Less k c cs more e a m n = ((e, above_below k c.key cs e a.0), a)
order_room_at Equal k c cs more e a m n = a
order_room_at Greater k c cs more e a m n = (m (less_if_greater k c.key e), n)

order_room : (k : Key) (cs : List Cell) → AreInOrder cs → AreInOrder (with_room k cs)
order_room k [] a = (tt, tt)
order_room k (c ∷ cs) a = order_room_at (key_cmp k c.key) k c cs (with_room k cs) refl a (λ h. above_room c.key k cs h a.0) (order_room k cs a.1)

-- an empty cell shows what no cell shows
empty_shows : (k j : Key) (rest : Cell) → (k ≡ j → rest ≡ no_cell j) → (if key_eq k j then no_cell k else rest) ≡ rest
empty_shows k j rest h = by (key_eq k j) refl
  where
    by : (b : Bool) → key_eq k j ≡ b → (if b then no_cell k else rest) ≡ rest
    by true e = let same = same_key k j e in ap no_cell same ∙ sym (h same)
    by false e = refl

cell_room_at : (o : Ordering) (k j : Key) (c : Cell) (cs more : List Cell) → key_cmp k c.key ≡ o → AreInOrder (c ∷ cs) → cell_at more j ≡ cell_at cs j → cell_at (match_ordering o (no_cell k ∷ c ∷ cs) (c ∷ cs) (c ∷ more)) j ≡ cell_at (c ∷ cs) j
cell_room_at Less k j c cs more e a m = empty_shows k j (cell_at (c ∷ cs) j) (λ same. subst (λ q. cell_at (c ∷ cs) q ≡ no_cell q) same (none_below k (c ∷ cs) (e, above_below k c.key cs e a.0)))
cell_room_at Equal k j c cs more e a m = refl
cell_room_at Greater k j c cs more e a m = ap (λ x. if key_eq c.key j then c else x) m

cell_room : (k j : Key) (cs : List Cell) → AreInOrder cs → cell_at (with_room k cs) j ≡ cell_at cs j
cell_room k j [] a = empty_shows k j (no_cell j) (λ same. refl)
cell_room k j (c ∷ cs) a = cell_room_at (key_cmp k c.key) k j c cs (with_room k cs) refl a (cell_room k j cs a.1)

-- a cell is kept of the key
abbrev pub has_cell : List Cell → Key → Bool
has_cell cs k = list_any (λ c. key_eq c.key k) cs

or_false : {G : Type 0} (a b : Bool) → (a || b) ≡ false → (a ≡ false → b ≡ false → G) → G
or_false true b h f = absurd (cc)
or_false false b h f = f refl h

no_room_at : (o : Ordering) (k j : Key) (c : Cell) (cs more : List Cell) → key_cmp k c.key ≡ o → (has_cell more j ≡ false → (key_eq k j ≡ false) × (has_cell cs j ≡ false)) → has_cell (match_ordering o (no_cell k ∷ c ∷ cs) (c ∷ cs) (c ∷ more)) j ≡ false → (key_eq k j ≡ false) × (has_cell (c ∷ cs) j ≡ false)
no_room_at Less k j c cs more e m h = or_false (key_eq k j) (has_cell (c ∷ cs) j) h (λ a b. (a, b))
no_room_at Equal k j c cs more e m h = or_false (key_eq c.key j) (has_cell cs j) h (λ a b. (rw (same_if_equal k c.key e) a, h))
no_room_at Greater k j c cs more e m h = or_false (key_eq c.key j) (has_cell more j) h (λ a b. ((m b).0, rw (a, (m b).1) refl))

no_room : (k j : Key) (cs : List Cell) → has_cell (with_room k cs) j ≡ false → (key_eq k j ≡ false) × (has_cell cs j ≡ false)
no_room k j [] h = or_false (key_eq k j) false h (λ a b. (a, refl))
no_room k j (c ∷ cs) h = no_room_at (key_cmp k c.key) k j c cs (with_room k cs) refl (no_room k j cs) h

order_rooms : (ks : List Key) (cs : List Cell) → AreInOrder cs → AreInOrder (with_rooms ks cs)
order_rooms [] cs a = a
order_rooms (k ∷ ks) cs a = order_rooms ks (with_room k cs) (order_room k cs a)

cell_rooms : (ks : List Key) (cs : List Cell) (j : Key) → AreInOrder cs → cell_at (with_rooms ks cs) j ≡ cell_at cs j
cell_rooms [] cs j a = refl
cell_rooms (k ∷ ks) cs j a = cell_rooms ks (with_room k cs) j (order_room k cs a) ∙ cell_room k j cs a

no_rooms : (ks : List Key) (cs : List Cell) (j : Key) → has_cell (with_rooms ks cs) j ≡ false → (has_key ks j ≡ false) × (has_cell cs j ≡ false)
no_rooms [] cs j h = (refl, h)
no_rooms (k ∷ ks) cs j h =
    let later = no_rooms ks (with_room k cs) j h in
    let here = no_room k j cs later.1 in
    (rw (here.0, later.0) refl, here.1)

-- Each cell changed.

-- a change keeps the key of a cell
abbrev pub KeepsKeys : (Cell → Cell) → Type 0
KeepsKeys f = (c : Cell) → (f c).key ≡ c.key

module _ (g : Cell → Cell) (keeps : KeepsKeys g) where
  above_each : (k : Key) (cs : List Cell) → AllAbove k cs → AllAbove k (each_changed g cs)
  above_each k [] a = tt
  above_each k (c ∷ cs) a = by (is_empty_cell (g c)) (above_each k cs a.1)
    where
      by : (b : Bool) → AllAbove k (each_changed g cs) → AllAbove k (cond (not b) (g c ∷ each_changed g cs) (each_changed g cs))
      by true rest = rest
      by false rest = (rw (keeps c) a.0, rest)

  pub order_each : (cs : List Cell) → AreInOrder cs → AreInOrder (each_changed g cs)
  order_each [] a = tt
  order_each (c ∷ cs) a = by (is_empty_cell (g c)) (order_each cs a.1) (above_each c.key cs a.0)
    where
      by : (b : Bool) → AreInOrder (each_changed g cs) → AllAbove c.key (each_changed g cs) → AreInOrder (cond (not b) (g c ∷ each_changed g cs) (each_changed g cs))
      by true rest above = rest
      by false rest above = (rw (keeps c) above, rest)

  pub none_empty_each : (cs : List Cell) → NoneEmpty (each_changed g cs)
  none_empty_each [] = tt
  none_empty_each (c ∷ cs) = by (is_empty_cell (g c)) refl (none_empty_each cs)
    where
      by : (b : Bool) → is_empty_cell (g c) ≡ b → NoneEmpty (each_changed g cs) → NoneEmpty (cond (not b) (g c ∷ each_changed g cs) (each_changed g cs))
      by true e rest = rest
      by false e rest = (e, rest)

  cell_each_here : (c : Cell) (cs : List Cell) → AllAbove c.key cs → cell_at (each_changed g (c ∷ cs)) c.key ≡ g c
  cell_each_here c cs a = by (is_empty_cell (g c)) refl
    where
      by : (b : Bool) → is_empty_cell (g c) ≡ b → cell_at (cond (not b) (g c ∷ each_changed g cs) (each_changed g cs)) c.key ≡ g c
      by true e = none_below c.key (each_changed g cs) (above_each c.key cs a) ∙ sym (empty_is_none (g c) e ∙ ap no_cell (keeps c))
      by false e = subst (λ q. cell_at (g c ∷ each_changed g cs) q ≡ g c) (keeps c) (cell_first (g c) (each_changed g cs))

  cell_each_later : (c : Cell) (cs : List Cell) (j : Key) → key_eq c.key j ≡ false → cell_at (each_changed g (c ∷ cs)) j ≡ cell_at (each_changed g cs) j
  cell_each_later c cs j h = by (is_empty_cell (g c))
    where
      by : (b : Bool) → cell_at (cond (not b) (g c ∷ each_changed g cs) (each_changed g cs)) j ≡ cell_at (each_changed g cs) j
      by true = refl
      by false = rw (keeps c, h) refl

  pub cell_each : (cs : List Cell) (j : Key) → AreInOrder cs → (has_cell cs j ≡ false → g (no_cell j) ≡ no_cell j) → cell_at (each_changed g cs) j ≡ g (cell_at cs j)
  cell_each [] j a h = sym (h refl)
  cell_each (c ∷ cs) j a h = by (key_eq c.key j) refl (λ e. cell_each cs j a.1 (λ f. h (rw (e, f) refl)))
    where
      by : (b : Bool) → key_eq c.key j ≡ b → (key_eq c.key j ≡ false → cell_at (each_changed g cs) j ≡ g (cell_at cs j)) → cell_at (each_changed g (c ∷ cs)) j ≡ g (if b then c else cell_at cs j)
      by true e rest = subst (λ q. cell_at (each_changed g (c ∷ cs)) q ≡ g c) (same_key c.key j e) (cell_each_here c cs a.0)
      by false e rest = cell_each_later c cs j e ∙ rest e

keeps_if : (ks : List Key) (f : Cell → Cell) → KeepsKeys f → KeepsKeys (λ c. if has_key ks c.key then f c else c)
keeps_if ks f keeps c = by (has_key ks c.key)
  where
    by : (b : Bool) → (if b then f c else c).key ≡ c.key
    by true = keeps c
    by false = refl

pub kept_changed : (ks : List Key) (f : Cell → Cell) → KeepsKeys f → (cs : List Cell) → AreInOrder cs → AreKept (changed_at ks f cs)
kept_changed ks f keeps cs a =
    let g = λ (c : Cell). if has_key ks c.key then f c else c in
    record {
      in_order = order_each g (keeps_if ks f keeps) (with_rooms ks cs) (order_rooms ks cs a);
      none_empty = none_empty_each g (keeps_if ks f keeps) (with_rooms ks cs);
    }

-- the cell of a key after the cells of some keys changed
pub cell_changed : (ks : List Key) (f : Cell → Cell) → KeepsKeys f → (cs : List Cell) → AreInOrder cs → (j : Key) → cell_at (changed_at ks f cs) j ≡ (if has_key ks j then f (cell_at cs j) else cell_at cs j)
cell_changed ks f keeps cs a j =
    let g = λ (c : Cell). if has_key ks c.key then f c else c in
    let rooms = with_rooms ks cs in
    let step : cell_at (each_changed g rooms) j ≡ g (cell_at rooms j) = cell_each g (keeps_if ks f keeps) rooms j (order_rooms ks cs a) (λ h. rw ((no_rooms ks cs j h).0) refl) in
    step ∙ (ap g (cell_rooms ks cs j a) ∙ ap (λ k. if has_key ks k then f (cell_at cs j) else cell_at cs j) (key_of_cell cs j))
