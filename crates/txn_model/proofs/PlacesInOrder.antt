-- What a search finds among cells in the order of their keys, and what an edit at that place does.
use Rattle.std.proofs.Common.{inl, inr, ◌≡◌, ℕ, suc, zero, ◌<◌, ◌≤◌, Bool, true, false, if◌then◌else◌, List, [], ◌∷◌, ◌+◌, take, drop, length, get_or, set, Result, Ok, Err, IfOk, IfErr, refl, sym, ap, ◌∙◌, subst, arith}
use Rattle.std.specs.List.{insert, remove, filter}
use Rattle.std.specs.List.Sorted.{IsSearchInRange, IsBinarySearchResult, IsNonDecreasingBy}
use Rattle.std.specs.Ordering.{ordering_index, is_lt}
use Rattle.std.specs.declared.cmp.Ordering.TheVariants.{Less}
use Rattle.std.proofs.lemmas.Bool.{cases_order}
use Rattle.txn_model.specs.declared.cell.Cell.{Cell}
use Rattle.txn_model.specs.Cells.{Key, key_eq, key_cmp, no_cell, is_empty_cell, cell_at, AllAbove, AreInOrder, NoneEmpty, AreKept}
use Rattle.txn_model.specs.Places.{IsAt, IsGapFor}
use Rattle.txn_model.proofs.Keys.{same_key, key_itself, differs_if_less, differs_if_greater, same_if_equal, less_if_greater, greater_if_less, key_cmp_itself, rises}
use Rattle.txn_model.proofs.CellLists.{none_below, empty_is_none}

above_at : (k : Key) (cs : List Cell) (i : ℕ) (d : Cell) → AllAbove k cs → i < length cs → key_cmp k (get_or cs i d).key ≡ Less
above_at k [] i d a h = absurd (omega arith)
above_at k (c ∷ cs) zero d a h = a.0
above_at k (c ∷ cs) (suc i) d a h = above_at k cs i d a.1 (omega arith)

-- an earlier key is below a later one
earlier_below : (cs : List Cell) (i j : ℕ) (d : Cell) → AreInOrder cs → i < j → j < length cs → key_cmp (get_or cs i d).key (get_or cs j d).key ≡ Less
earlier_below [] i j d a h l = absurd (omega arith)
earlier_below (c ∷ cs) i zero d a h l = absurd (omega arith)
earlier_below (c ∷ cs) zero (suc j) d a h l = above_at c.key cs j d a.0 (omega arith)
earlier_below (c ∷ cs) (suc i) (suc j) d a h l = earlier_below cs i j d a.1 (omega arith) (omega arith)

comparisons_rise : (cs : List Cell) (k : Key) → AreInOrder cs → IsNonDecreasingBy (λ c. ordering_index (key_cmp c.key k)) cs
comparisons_rise cs k a i j d le l =
    elim (cases_order i j) [
      | inl same ↦ rw same (omega arith)
      | inr (inl less) ↦ rises (get_or cs i d).key (get_or cs j d).key k (earlier_below cs i j d a less l)
      | inr (inr more) ↦ absurd (omega arith)
    ]

-- a search by key ends at the key, or at the gap for it
pub searched : (cs : List Cell) (k : Key) → AreInOrder cs → (r : Result ℕ ℕ) → IsSearchInRange r (length cs) → IsBinarySearchResult (λ c. key_cmp c.key k) cs r → record { found : IfOk r (IsAt cs k); absent : IfErr r (IsGapFor cs k) }
searched cs k a (Ok at) in_range equal = record { found = record { in_range = in_range; has_key = λ d. same_if_equal (get_or cs at d).key k (equal d) }; absent = tt }
searched cs k a (Err at) in_range parted =
    let parts = parted (comparisons_rise cs k a) in
    record {
      found = tt;
      absent = record {
        in_range = in_range;
        below = λ i d less. parts.0 i d (omega arith) less;
        above = λ i d le l. less_if_greater (get_or cs i d).key k (parts.1 i d le l);
      };
    }

all_above_gap : (cs : List Cell) (k : Key) → ((i : ℕ) (d : Cell) → i < length cs → key_cmp k (get_or cs i d).key ≡ Less) → AllAbove k cs
all_above_gap [] k h = tt
all_above_gap (c ∷ cs) k h = (h 0 c (omega arith), all_above_gap cs k (λ i d l. h (suc i) d (omega arith)))

-- the cell at its place
pub cell_found : (cs : List Cell) (k : Key) (at : ℕ) (d : Cell) → AreInOrder cs → IsAt cs k at → cell_at cs k ≡ get_or cs at d
cell_found cs k at d a is = by cs at a is.in_range (is.has_key d)
  where
    by : (cs : List Cell) (at : ℕ) → AreInOrder cs → at < length cs → (get_or cs at d).key ≡ k → cell_at cs k ≡ get_or cs at d
    by [] at a l e = absurd (omega arith)
    by (c ∷ cs) zero a l e = rw (← e, key_itself c.key) refl
    by (c ∷ cs) (suc at) a l e = rw (differs_if_less c.key k (subst (λ q. key_cmp c.key q ≡ Less) e (above_at c.key cs at d a.0 (omega arith)))) (by cs at a.1 (omega arith) e)

-- no cell is kept of a key that has a gap
pub cell_in_gap : (cs : List Cell) (k : Key) (at : ℕ) → IsGapFor cs k at → cell_at cs k ≡ no_cell k
cell_in_gap cs k at gap = by cs at gap.below gap.above
  where
    by : (cs : List Cell) (at : ℕ) → ((i : ℕ) (d : Cell) → i < at → key_cmp (get_or cs i d).key k ≡ Less) → ((i : ℕ) (d : Cell) → at ≤ i → i < length cs → key_cmp k (get_or cs i d).key ≡ Less) → cell_at cs k ≡ no_cell k
    by [] at below above = refl
    by (c ∷ cs) zero below above = none_below k (c ∷ cs) (all_above_gap (c ∷ cs) k (λ i d l. above i d (omega arith) l))
    by (c ∷ cs) (suc at) below above = rw (differs_if_less c.key k (below 0 c (omega arith))) (by cs at (λ i d l. below (suc i) d (omega arith)) (λ i d le l. above (suc i) d (omega arith) (omega arith)))

-- Another cell of the same key.

above_set : (j : Key) (cs : List Cell) (at : ℕ) (c d : Cell) → (at < length cs → (get_or cs at d).key ≡ c.key) → AllAbove j cs → AllAbove j (set cs at c)
above_set j [] at c d h a = tt
above_set j (x ∷ cs) zero c d h a = (rw (← h (omega arith)) a.0, a.1)
above_set j (x ∷ cs) (suc at) c d h a = (a.0, above_set j cs at c d (λ l. h (omega arith)) a.1)

pub order_set : (cs : List Cell) (at : ℕ) (c d : Cell) → (at < length cs → (get_or cs at d).key ≡ c.key) → AreInOrder cs → AreInOrder (set cs at c)
order_set [] at c d h a = tt
order_set (x ∷ cs) zero c d h a = (rw (← h (omega arith)) a.0, a.1)
order_set (x ∷ cs) (suc at) c d h a = (above_set x.key cs at c d (λ l. h (omega arith)) a.0, order_set cs at c d (λ l. h (omega arith)) a.1)

pub none_empty_set : (cs : List Cell) (at : ℕ) (c : Cell) → is_empty_cell c ≡ false → NoneEmpty cs → NoneEmpty (set cs at c)
none_empty_set [] at c h a = tt
none_empty_set (x ∷ cs) zero c h a = (h, a.1)
none_empty_set (x ∷ cs) (suc at) c h a = (a.0, none_empty_set cs at c h a.1)

both_keys : (a b j : Key) (x y z : Cell) → a ≡ b → (if key_eq a j then x else z) ≡ (if key_eq b j then x else (if key_eq a j then y else z))
both_keys a b j x y z same = subst (λ q. (if key_eq a j then x else z) ≡ (if key_eq q j then x else (if key_eq a j then y else z))) same (by (key_eq a j))
  where
    by : (t : Bool) → (if t then x else z) ≡ (if t then x else (if t then y else z))
    by true = refl
    by false = refl

apart : (a b j : Key) (x y z : Cell) → key_cmp a b ≡ Less → (if key_eq a j then x else (if key_eq b j then y else z)) ≡ (if key_eq b j then y else (if key_eq a j then x else z))
apart a b j x y z less = by (key_eq a j) refl
  where
    by : (t : Bool) → key_eq a j ≡ t → (if t then x else (if key_eq b j then y else z)) ≡ (if key_eq b j then y else (if t then x else z))
    by true e = rw (subst (λ q. key_eq b q ≡ false) (same_key a j e) (differs_if_greater a b less)) refl
    by false e = refl

-- what is kept of each key once the cell at a place is another
pub cell_set : (cs : List Cell) (at : ℕ) (c d : Cell) (j : Key) → AreInOrder cs → at < length cs → (get_or cs at d).key ≡ c.key → cell_at (set cs at c) j ≡ (if key_eq c.key j then c else cell_at cs j)
cell_set [] at c d j a l e = absurd (omega arith)
cell_set (x ∷ cs) zero c d j a l e = subst (λ q. (if key_eq q j then c else cell_at cs j) ≡ (if key_eq c.key j then c else (if key_eq x.key j then x else cell_at cs j))) e (both_keys x.key c.key j c x (cell_at cs j) e)
cell_set (x ∷ cs) (suc at) c d j a l e =
    let less : key_cmp x.key c.key ≡ Less = subst (λ q. key_cmp x.key q ≡ Less) e (above_at x.key cs at d a.0 (omega arith)) in
    ap (λ z. if key_eq x.key j then x else z) (cell_set cs at c d j a.1 (omega arith) e) ∙ apart x.key c.key j x c (cell_at cs j) less

-- A new cell in a gap.

gap_later : (x : Cell) (cs : List Cell) (k : Key) (at : ℕ) → IsGapFor (x ∷ cs) k (suc at) → IsGapFor cs k at
gap_later x cs k at gap = record {
  in_range = let l = gap.in_range in omega arith;
  below = λ i d l. gap.below (suc i) d (omega arith);
  above = λ i d le l. gap.above (suc i) d (omega arith) (omega arith);
}

above_insert : (j : Key) (cs : List Cell) (at : ℕ) (c : Cell) → key_cmp j c.key ≡ Less → AllAbove j cs → AllAbove j (insert cs at c)
above_insert j cs zero c h a = (h, a)
above_insert j [] (suc at) c h a = (h, tt)
above_insert j (x ∷ cs) (suc at) c h a = (a.0, above_insert j cs at c h a.1)

pub order_insert : (cs : List Cell) (at : ℕ) (c : Cell) → IsGapFor cs c.key at → AreInOrder cs → AreInOrder (insert cs at c)
order_insert cs zero c gap a = (all_above_gap cs c.key (λ i d l. gap.above i d (omega arith) l), a)
order_insert [] (suc at) c gap a = (tt, tt)
order_insert (x ∷ cs) (suc at) c gap a = (above_insert x.key cs at c (gap.below 0 x (omega arith)) a.0, order_insert cs at c (gap_later x cs c.key at gap) a.1)

pub none_empty_insert : (cs : List Cell) (at : ℕ) (c : Cell) → is_empty_cell c ≡ false → NoneEmpty cs → NoneEmpty (insert cs at c)
none_empty_insert cs zero c h a = (h, a)
none_empty_insert [] (suc at) c h a = (h, tt)
none_empty_insert (x ∷ cs) (suc at) c h a = (a.0, none_empty_insert cs at c h a.1)

-- what is kept of each key once a new cell is there
pub cell_insert : (cs : List Cell) (at : ℕ) (c : Cell) (j : Key) → IsGapFor cs c.key at → cell_at (insert cs at c) j ≡ (if key_eq c.key j then c else cell_at cs j)
cell_insert cs zero c j gap = refl
cell_insert [] (suc at) c j gap = refl
cell_insert (x ∷ cs) (suc at) c j gap =
    ap (λ z. if key_eq x.key j then x else z) (cell_insert cs at c j (gap_later x cs c.key at gap)) ∙ apart x.key c.key j x c (cell_at cs j) (gap.below 0 x (omega arith))

-- A change of the cell of a key.

pub kept_set : (cs : List Cell) (k : Key) (at : ℕ) (c : Cell) → AreKept cs → IsAt cs k at → c.key ≡ k → is_empty_cell c ≡ false → AreKept (set cs at c)
kept_set cs k at c kept is same full = record {
  in_order = order_set cs at c c (λ l. is.has_key c ∙ sym same) kept.in_order;
  none_empty = none_empty_set cs at c full kept.none_empty;
}

pub kept_insert : (cs : List Cell) (k : Key) (at : ℕ) (c : Cell) → AreKept cs → IsGapFor cs k at → c.key ≡ k → is_empty_cell c ≡ false → AreKept (insert cs at c)
kept_insert cs k at c kept gap same full = record {
  in_order = order_insert cs at c (subst (λ q. IsGapFor cs q at) (sym same) gap) kept.in_order;
  none_empty = none_empty_insert cs at c full kept.none_empty;
}

changed_here : (k j : Key) (f : Cell → Cell) (x : Cell) (y : Cell) → (k ≡ j → x ≡ f y) → (if key_eq k j then x else y) ≡ (if key_eq k j then f y else y)
changed_here k j f x y h = by (key_eq k j) refl
  where
    by : (b : Bool) → key_eq k j ≡ b → (if b then x else y) ≡ (if b then f y else y)
    by true e = h (same_key k j e)
    by false e = refl

pub changed_set : (cs : List Cell) (k : Key) (at : ℕ) (c n : Cell) (f : Cell → Cell) → AreInOrder cs → IsAt cs k at → c ≡ get_or cs at c → n ≡ f c → n.key ≡ k → (j : Key) → cell_at (set cs at n) j ≡ (if key_eq k j then f (cell_at cs j) else cell_at cs j)
changed_set cs k at c n f a is read makes same j =
    cell_set cs at n c j a is.in_range (is.has_key c ∙ sym same)
    ∙ (ap (λ q. if key_eq q j then n else cell_at cs j) same
    ∙ changed_here k j f n (cell_at cs j) (λ here. makes ∙ ap f (read ∙ sym (subst (λ q. cell_at cs q ≡ get_or cs at c) here (cell_found cs k at c a is)))))

pub changed_insert : (cs : List Cell) (k : Key) (at : ℕ) (n : Cell) (f : Cell → Cell) → IsGapFor cs k at → n ≡ f (no_cell k) → n.key ≡ k → (j : Key) → cell_at (insert cs at n) j ≡ (if key_eq k j then f (cell_at cs j) else cell_at cs j)
changed_insert cs k at n f gap makes same j =
    cell_insert cs at n j (subst (λ q. IsGapFor cs q at) (sym same) gap)
    ∙ (ap (λ q. if key_eq q j then n else cell_at cs j) same
    ∙ changed_here k j f n (cell_at cs j) (λ here. makes ∙ ap f (sym (subst (λ q. cell_at cs q ≡ no_cell k) here (cell_in_gap cs k at gap)))))

full_at : (cs : List Cell) (at : ℕ) (d : Cell) → NoneEmpty cs → at < length cs → is_empty_cell (get_or cs at d) ≡ false
full_at [] at d a l = absurd (omega arith)
full_at (c ∷ cs) zero d a l = a.0
full_at (c ∷ cs) (suc at) d a l = full_at cs at d a.1 (omega arith)

-- a cell that is read is not empty
pub full_read : (cs : List Cell) (k : Key) (at : ℕ) (c : Cell) → AreKept cs → IsAt cs k at → c ≡ get_or cs at c → is_empty_cell c ≡ false
full_read cs k at c kept is read = ap is_empty_cell read ∙ full_at cs at c kept.none_empty is.in_range

-- A cell taken away.

above_remove : (j : Key) (cs : List Cell) (at : ℕ) → AllAbove j cs → AllAbove j (remove cs at)
above_remove j [] zero a = tt
above_remove j [] (suc at) a = tt
above_remove j (x ∷ cs) zero a = a.1
above_remove j (x ∷ cs) (suc at) a = (a.0, above_remove j cs at a.1)

order_remove : (cs : List Cell) (at : ℕ) → AreInOrder cs → AreInOrder (remove cs at)
order_remove [] zero a = tt
order_remove [] (suc at) a = tt
order_remove (x ∷ cs) zero a = a.1
order_remove (x ∷ cs) (suc at) a = (above_remove x.key cs at a.0, order_remove cs at a.1)

none_empty_remove : (cs : List Cell) (at : ℕ) → NoneEmpty cs → NoneEmpty (remove cs at)
none_empty_remove [] zero a = tt
none_empty_remove [] (suc at) a = tt
none_empty_remove (x ∷ cs) zero a = a.1
none_empty_remove (x ∷ cs) (suc at) a = (a.0, none_empty_remove cs at a.1)

-- what is kept of each key once the cell at a place is gone
cell_remove : (cs : List Cell) (at : ℕ) (d : Cell) (j : Key) → AreInOrder cs → at < length cs → cell_at (remove cs at) j ≡ (if key_eq (get_or cs at d).key j then no_cell j else cell_at cs j)
cell_remove [] at d j a l = absurd (omega arith)
cell_remove (x ∷ cs) zero d j a l = by (key_eq x.key j) refl
  where
    by : (b : Bool) → key_eq x.key j ≡ b → cell_at cs j ≡ (if b then no_cell j else (if b then x else cell_at cs j))
    by true e = none_below j cs (subst (λ q. AllAbove q cs) (same_key x.key j e) a.0)
    by false e = refl
cell_remove (x ∷ cs) (suc at) d j a l =
    ap (λ z. if key_eq x.key j then x else z) (cell_remove cs at d j a.1 (omega arith)) ∙ apart x.key (get_or cs at d).key j x (no_cell j) (cell_at cs j) (above_at x.key cs at d a.0 (omega arith))

set_removed : (cs : List Cell) (at : ℕ) (c : Cell) → remove (set cs at c) at ≡ remove cs at
set_removed [] zero c = refl
set_removed [] (suc at) c = refl
set_removed (x ∷ cs) zero c = refl
set_removed (x ∷ cs) (suc at) c = ap (λ z. x ∷ z) (set_removed cs at c)

-- a cell that becomes empty is taken away
pub changed_remove : (cs : List Cell) (k : Key) (at : ℕ) (c n : Cell) (f : Cell → Cell) → AreInOrder cs → IsAt cs k at → c ≡ get_or cs at c → n ≡ f c → n.key ≡ k → is_empty_cell n ≡ true → (j : Key) → cell_at (remove (set cs at n) at) j ≡ (if key_eq k j then f (cell_at cs j) else cell_at cs j)
changed_remove cs k at c n f a is read makes same empty j =
    ap (λ xs. cell_at xs j) (set_removed cs at n)
    ∙ (cell_remove cs at c j a is.in_range
    ∙ (ap (λ q. if key_eq q j then no_cell j else cell_at cs j) (is.has_key c)
    ∙ changed_here k j f (no_cell j) (cell_at cs j) (λ here. ap no_cell (sym (same ∙ here)) ∙ (sym (empty_is_none n empty) ∙ (makes ∙ ap f (read ∙ sym (subst (λ q. cell_at cs q ≡ get_or cs at c) here (cell_found cs k at c a is))))))))

pub kept_remove : (cs : List Cell) (at : ℕ) (n : Cell) → AreKept cs → AreKept (remove (set cs at n) at)
kept_remove cs at n kept = subst AreKept (sym (set_removed cs at n)) (record { in_order = order_remove cs at kept.in_order; none_empty = none_empty_remove cs at kept.none_empty })

-- a new cell that would be empty is not kept
pub changed_gap : (cs : List Cell) (k : Key) (at : ℕ) (n : Cell) (f : Cell → Cell) → IsGapFor cs k at → n ≡ f (no_cell k) → n.key ≡ k → is_empty_cell n ≡ true → (j : Key) → cell_at cs j ≡ (if key_eq k j then f (cell_at cs j) else cell_at cs j)
changed_gap cs k at n f gap makes same empty j = by (key_eq k j) refl
  where
    by : (b : Bool) → key_eq k j ≡ b → cell_at cs j ≡ (if b then f (cell_at cs j) else cell_at cs j)
    by true e =
        let here = same_key k j e in
        let none : cell_at cs j ≡ no_cell k = subst (λ q. cell_at cs q ≡ no_cell k) here (cell_in_gap cs k at gap) in
        none ∙ (ap no_cell (sym same) ∙ (sym (empty_is_none n empty) ∙ (makes ∙ ap f (sym none))))
    by false e = refl

-- What is below a key, and what is not.

pub below_found : (cs : List Cell) (k : Key) (at i : ℕ) (d : Cell) → AreInOrder cs → IsAt cs k at → i < at → is_lt (key_cmp (get_or cs i d).key k) ≡ true
below_found cs k at i d a is l = ap is_lt (subst (λ q. key_cmp (get_or cs i d).key q ≡ Less) (is.has_key d) (earlier_below cs i at d a l is.in_range))

pub rest_found : (cs : List Cell) (k : Key) (at i : ℕ) (d : Cell) → AreInOrder cs → IsAt cs k at → at ≤ i → i < length cs → is_lt (key_cmp (get_or cs i d).key k) ≡ false
rest_found cs k at i d a is le l =
    elim (cases_order at i) [
      | inl same ↦ ap is_lt (ap (λ q. key_cmp (get_or cs q d).key k) (sym same) ∙ (ap (λ q. key_cmp q k) (is.has_key d) ∙ key_cmp_itself k))
      | inr (inl less) ↦ ap is_lt (greater_if_less k (get_or cs i d).key (subst (λ q. key_cmp q (get_or cs i d).key ≡ Less) (is.has_key d) (earlier_below cs at i d a less l)))
      | inr (inr more) ↦ absurd (omega arith)
    ]

pub rest_gap : (cs : List Cell) (k : Key) (at i : ℕ) (d : Cell) → IsGapFor cs k at → at ≤ i → i < length cs → is_lt (key_cmp (get_or cs i d).key k) ≡ false
rest_gap cs k at i d gap le l = ap is_lt (greater_if_less k (get_or cs i d).key (gap.above i d le l))

-- a part of a list that has all that pass a test
none_pass : (p : Cell → Bool) (cs : List Cell) → ((i : ℕ) (d : Cell) → i < length cs → p (get_or cs i d) ≡ false) → [] ≡ filter p cs
none_pass p [] h = refl
none_pass p (c ∷ cs) h = rw (h 0 c (omega arith)) (none_pass p cs (λ i d l. h (suc i) d (omega arith)))

some_pass : (p : Cell → Bool) (cs : List Cell) (n : ℕ) → ((i : ℕ) (d : Cell) → i < n → i < length cs → p (get_or cs i d) ≡ true) → ((i : ℕ) (d : Cell) → n ≤ i → i < length cs → p (get_or cs i d) ≡ false) → take n cs ≡ filter p cs
some_pass p cs zero passes fails = none_pass p cs (λ i d l. fails i d (omega arith) l)
some_pass p [] (suc n) passes fails = refl
some_pass p (c ∷ cs) (suc n) passes fails = rw (passes 0 c (omega arith) (omega arith)) (ap (λ z. c ∷ z) (some_pass p cs n (λ i d l k. passes (suc i) d (omega arith) (omega arith)) (λ i d l k. fails (suc i) d (omega arith) (omega arith))))

pub part_passes : (p : Cell → Bool) (cs : List Cell) (m n : ℕ) → ((i : ℕ) (d : Cell) → i < m → i < length cs → p (get_or cs i d) ≡ false) → ((i : ℕ) (d : Cell) → m ≤ i → i < m + n → i < length cs → p (get_or cs i d) ≡ true) → ((i : ℕ) (d : Cell) → m + n ≤ i → i < length cs → p (get_or cs i d) ≡ false) → take n (drop m cs) ≡ filter p cs
part_passes p cs zero n low passes high = some_pass p cs n (λ i d l k. passes i d (omega arith) (omega arith) k) (λ i d l k. high i d (omega arith) k)
part_passes p [] (suc m) zero low passes high = refl
part_passes p [] (suc m) (suc n) low passes high = refl
part_passes p (c ∷ cs) (suc m) n low passes high = rw (low 0 c (omega arith) (omega arith)) (part_passes p cs m n (λ i d l k. low (suc i) d (omega arith) (omega arith)) (λ i d l k o. passes (suc i) d (omega arith) (omega arith) (omega arith)) (λ i d l k. high (suc i) d (omega arith) (omega arith)))
