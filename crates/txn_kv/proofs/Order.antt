-- How encodings compare: as their keys do, and where the keys are equal, as what follows them.
use Rattle.std.proofs.Common.{◌≡◌, ℕ, zero, suc, ◌+◌, ◌-◌, ◌<◌, ◌≤◌, List, [], ◌∷◌, ◌++◌, length, take, drop, Bool, true, false, Ordering, Less, Equal, Greater, refl, sym, ap, ◌∙◌, ⊎_elim, le_refl, append_assoc, length-append, length-drop, arith}
use Rattle.std.specs.Prelude.{replicate}
use Rattle.std.specs.Ordering.{nat_cmp, ordering_reverse, ordering_then}
use Rattle.std.specs.Cmp.{nat_cmp_is}
use Rattle.std.specs.Cmp.Lexicographic.{slice_cmp, nat_list_cmp_total}
use Rattle.std.proofs.lemmas.Bool.{cases_lt}
use Rattle.std.proofs.lemmas.List.{append-nil, length-replicate, take-append-drop, length-take-le}
use Rattle.std.proofs.lemmas.List.Elements.{All-append, All-cons, All-drop, All-head, All-nil, All-replicate, All-same, All-tail, All-take}
use Rattle.std.proofs.lemmas.Map.Lookups.{exact_bytes}
use Rattle.txn_kv.specs.Codec.{AreBytes, complemented, encoded, encoding}
use Rattle.txn_kv.proofs.Encoding.{encoded-full, encoded-last}

-- ---- orderings

then_assoc : (a b c : Ordering) → ordering_then (ordering_then a b) c ≡ ordering_then a (ordering_then b c)
then_assoc Less b c = refl
then_assoc Equal b c = refl
then_assoc Greater b c = refl

then_Equal : (a : Ordering) → ordering_then a Equal ≡ a
then_Equal Less = refl
then_Equal Equal = refl
then_Equal Greater = refl

both_Equal : (a b : Ordering) → Equal ≡ ordering_then a b → (a ≡ Equal) × (b ≡ Equal)
both_Equal Less b is = absurd (cc is)
both_Equal Equal b is = (refl, sym is)
both_Equal Greater b is = absurd (cc is)

nat_cmp-self : (x : ℕ) → nat_cmp x x ≡ Equal
nat_cmp-self x = sym (nat_cmp_is x x Equal refl)

slice_cmp-self : (xs : List ℕ) → slice_cmp nat_cmp xs xs ≡ Equal
slice_cmp-self [] = refl
slice_cmp-self (x ∷ xs) = ap (λ o. ordering_then o (slice_cmp nat_cmp xs xs)) (nat_cmp-self x) ∙ slice_cmp-self xs

-- ---- lists whose beginnings are as long

slice_cmp-append
    : (xs ys rest other : List ℕ)
    → length xs ≡ length ys
    → slice_cmp nat_cmp (xs ++ rest) (ys ++ other) ≡ ordering_then (slice_cmp nat_cmp xs ys) (slice_cmp nat_cmp rest other)
slice_cmp-append [] [] rest other same = refl
slice_cmp-append [] (y ∷ ys) rest other same = absurd (omega (arith, same))
slice_cmp-append (x ∷ xs) [] rest other same = absurd (omega (arith, same))
slice_cmp-append (x ∷ xs) (y ∷ ys) rest other same =
    ap (ordering_then (nat_cmp x y)) (slice_cmp-append xs ys rest other (omega (arith, same)))
    ∙ sym (then_assoc (nat_cmp x y) (slice_cmp nat_cmp xs ys) (slice_cmp nat_cmp rest other))

-- what is beyond the length of the other list has no part in it
slice_cmp-longer
    : (xs more ys : List ℕ) → length ys < length xs → slice_cmp nat_cmp (xs ++ more) ys ≡ slice_cmp nat_cmp xs ys
slice_cmp-longer [] more ys lt = absurd (omega (arith, lt))
slice_cmp-longer (x ∷ xs) more [] lt = refl
slice_cmp-longer (x ∷ xs) more (y ∷ ys) lt = ap (ordering_then (nat_cmp x y)) (slice_cmp-longer xs more ys (omega (arith, lt)))

slice_cmp-shorter
    : (xs ys more : List ℕ) → length xs < length ys → slice_cmp nat_cmp xs (ys ++ more) ≡ slice_cmp nat_cmp xs ys
slice_cmp-shorter xs [] more lt = absurd (omega (arith, lt))
slice_cmp-shorter [] (y ∷ ys) more lt = refl
slice_cmp-shorter (x ∷ xs) (y ∷ ys) more lt = ap (ordering_then (nat_cmp x y)) (slice_cmp-shorter xs ys more (omega (arith, lt)))

-- ---- padding is no more than any other bytes

padding_lowest
    : (n : ℕ) (ys : List ℕ) → length ys ≡ n → ordering_then (slice_cmp nat_cmp (replicate n 0) ys) Less ≡ Less
padding_lowest zero [] same = refl
padding_lowest zero (y ∷ ys) same = absurd (omega (arith, same))
padding_lowest (suc n) [] same = absurd (omega (arith, same))
padding_lowest (suc n) (zero ∷ ys) same = padding_lowest n ys (omega (arith, same))
padding_lowest (suc n) (suc y ∷ ys) same =
    let lower : nat_cmp 0 (suc y) ≡ Less = sym (nat_cmp_is 0 (suc y) Less (omega arith)) in
    ap (λ o. ordering_then (ordering_then o (slice_cmp nat_cmp (replicate n 0) ys)) Less) lower

padding_lowest_after
    : (n : ℕ) (xs : List ℕ) → length xs ≡ n → ordering_then (slice_cmp nat_cmp xs (replicate n 0)) Greater ≡ Greater
padding_lowest_after zero [] same = refl
padding_lowest_after zero (x ∷ xs) same = absurd (omega (arith, same))
padding_lowest_after (suc n) [] same = absurd (omega (arith, same))
padding_lowest_after (suc n) (zero ∷ xs) same = padding_lowest_after n xs (omega (arith, same))
padding_lowest_after (suc n) (suc x ∷ xs) same =
    let higher : nat_cmp (suc x) 0 ≡ Greater = sym (nat_cmp_is (suc x) 0 Greater (omega arith)) in
    ap (λ o. ordering_then (ordering_then o (slice_cmp nat_cmp xs (replicate n 0))) Greater) higher

-- a full group against a padded one: the padded one has the lower marker
full_padded
    : (xs ys : List ℕ) (n : ℕ) (next : Ordering)
    → length xs ≡ length ys + n
    → 0 < n
    → ordering_then (slice_cmp nat_cmp xs (ys ++ replicate n 0)) Greater ≡ ordering_then (slice_cmp nat_cmp xs ys) next
full_padded [] ys n next same some = absurd (omega (arith, same, some))
full_padded (x ∷ xs) [] n next same some = padding_lowest_after n (x ∷ xs) (omega (arith, same))
full_padded (x ∷ xs) (y ∷ ys) n next same some =
    then_assoc (nat_cmp x y) (slice_cmp nat_cmp xs (ys ++ replicate n 0)) Greater
    ∙ ap (ordering_then (nat_cmp x y)) (full_padded xs ys n next (omega (arith, same)) some)
    ∙ sym (then_assoc (nat_cmp x y) (slice_cmp nat_cmp xs ys) next)

padded_full
    : (xs ys : List ℕ) (n : ℕ) (next : Ordering)
    → length xs + n ≡ length ys
    → 0 < n
    → ordering_then (slice_cmp nat_cmp (xs ++ replicate n 0) ys) Less ≡ ordering_then (slice_cmp nat_cmp xs ys) next
padded_full xs [] n next same some = absurd (omega (arith, same, some))
padded_full [] (y ∷ ys) n next same some = padding_lowest n (y ∷ ys) (omega (arith, same))
padded_full (x ∷ xs) (y ∷ ys) n next same some =
    then_assoc (nat_cmp x y) (slice_cmp nat_cmp (xs ++ replicate n 0) ys) Less
    ∙ ap (ordering_then (nat_cmp x y)) (padded_full xs ys n next (omega (arith, same)) some)
    ∙ sym (then_assoc (nat_cmp x y) (slice_cmp nat_cmp xs ys) next)

-- two padded groups: the markers tell which has more padding
both_padded
    : (xs ys : List ℕ) (n m k : ℕ) (next : Ordering)
    → length xs + n ≡ length ys + m
    → ordering_then (slice_cmp nat_cmp (xs ++ replicate n 0) (ys ++ replicate m 0)) (ordering_then (nat_cmp (k + length xs) (k + length ys)) next)
    ≡ ordering_then (slice_cmp nat_cmp xs ys) next
both_padded [] [] n m k next same =
    let padded : slice_cmp nat_cmp (replicate n 0) (replicate m 0) ≡ Equal
    = ap (λ j. slice_cmp nat_cmp (replicate n 0) (replicate j 0)) (omega (arith, same)) ∙ slice_cmp-self (replicate n 0) in
    rw (padded, nat_cmp-self (k + 0)) refl
both_padded [] (y ∷ ys) n m k next same =
    let lower : nat_cmp (k + 0) (k + suc (length ys)) ≡ Less = sym (nat_cmp_is (k + 0) (k + suc (length ys)) Less (omega arith)) in
    ap (λ o. ordering_then (slice_cmp nat_cmp (replicate n 0) (y ∷ ys ++ replicate m 0)) (ordering_then o next)) lower
    ∙ padding_lowest n (y ∷ ys ++ replicate m 0) (omega (arith, same, length-append (y ∷ ys) (replicate m 0), length-replicate {A = ℕ} m 0))
both_padded (x ∷ xs) [] n m k next same =
    let higher : nat_cmp (k + suc (length xs)) (k + 0) ≡ Greater = sym (nat_cmp_is (k + suc (length xs)) (k + 0) Greater (omega arith)) in
    ap (λ o. ordering_then (slice_cmp nat_cmp (x ∷ xs ++ replicate n 0) (replicate m 0)) (ordering_then o next)) higher
    ∙ padding_lowest_after m (x ∷ xs ++ replicate n 0) (omega (arith, same, length-append (x ∷ xs) (replicate n 0), length-replicate {A = ℕ} n 0))
both_padded (x ∷ xs) (y ∷ ys) n m k next same =
    let left : k + suc (length xs) ≡ suc k + length xs = omega arith in
    let right : k + suc (length ys) ≡ suc k + length ys = omega arith in
    let groups = slice_cmp nat_cmp (xs ++ replicate n 0) (ys ++ replicate m 0) in
    then_assoc (nat_cmp x y) groups (ordering_then (nat_cmp (k + suc (length xs)) (k + suc (length ys))) next)
    ∙ ap (λ j. ordering_then (nat_cmp x y) (ordering_then groups (ordering_then (nat_cmp j (k + suc (length ys))) next))) left
    ∙ ap (λ j. ordering_then (nat_cmp x y) (ordering_then groups (ordering_then (nat_cmp (suc k + length xs) j) next))) right
    ∙ ap (ordering_then (nat_cmp x y)) (both_padded xs ys n m (suc k) next (omega (arith, same)))
    ∙ sym (then_assoc (nat_cmp x y) (slice_cmp nat_cmp xs ys) next)

-- ---- groups and what follows them

full_group : (key rest : List ℕ) → 8 ≤ length key → encoded key ++ rest ≡ take 8 key ++ (255 ∷ (encoded (drop 8 key) ++ rest))
full_group key rest long = rw (encoded-full key long, append_assoc) refl

padded_group
    : (key rest : List ℕ)
    → length key < 8
    → encoded key ++ rest ≡ (key ++ replicate (8 - length key) 0) ++ ((247 + length key) ∷ rest)
padded_group key rest short = rw (encoded-last key short, append_assoc) refl

length-padded : (key : List ℕ) → length key < 8 → length (key ++ replicate (8 - length key) 0) ≡ 8
length-padded key short = omega (arith, length-append key (replicate (8 - length key) 0), length-replicate {A = ℕ} (8 - length key) 0)

two_padded
    : (a b rest other : List ℕ)
    → length a < 8
    → length b < 8
    → slice_cmp nat_cmp (encoded a ++ rest) (encoded b ++ other) ≡ ordering_then (slice_cmp nat_cmp a b) (slice_cmp nat_cmp rest other)
two_padded a b rest other short_a short_b =
    rw (padded_group a rest short_a, padded_group b other short_b)
    (slice_cmp-append _ _ ((247 + length a) ∷ rest) ((247 + length b) ∷ other) (length-padded a short_a ∙ sym (length-padded b short_b))
    ∙ both_padded a b (8 - length a) (8 - length b) 247 (slice_cmp nat_cmp rest other) (omega arith))

full_then_padded
    : (a b rest other : List ℕ)
    → 8 ≤ length a
    → length b < 8
    → slice_cmp nat_cmp (encoded a ++ rest) (encoded b ++ other) ≡ ordering_then (slice_cmp nat_cmp a b) (slice_cmp nat_cmp rest other)
full_then_padded a b rest other long short =
    let next = slice_cmp nat_cmp rest other in
    let group : length (take 8 a) ≡ 8 = length-take-le 8 a long in
    let higher : nat_cmp 255 (247 + length b) ≡ Greater = sym (nat_cmp_is 255 (247 + length b) Greater (omega arith)) in
    let first : slice_cmp nat_cmp a b ≡ slice_cmp nat_cmp (take 8 a) b
    = ap (λ xs. slice_cmp nat_cmp xs b) (sym (take-append-drop 8 a)) ∙ slice_cmp-longer (take 8 a) (drop 8 a) b (omega (arith, group)) in
    let padded = b ++ replicate (8 - length b) 0 in
    rw (full_group a rest long, padded_group b other short)
    (slice_cmp-append (take 8 a) padded (255 ∷ (encoded (drop 8 a) ++ rest)) ((247 + length b) ∷ other) (group ∙ sym (length-padded b short))
    ∙ ap (λ o. ordering_then (slice_cmp nat_cmp (take 8 a) padded) (ordering_then o (slice_cmp nat_cmp (encoded (drop 8 a) ++ rest) other))) higher
    ∙ full_padded (take 8 a) b (8 - length b) next (omega (arith, group)) (omega arith)
    ∙ ap (λ o. ordering_then o next) (sym first))

padded_then_full
    : (a b rest other : List ℕ)
    → length a < 8
    → 8 ≤ length b
    → slice_cmp nat_cmp (encoded a ++ rest) (encoded b ++ other) ≡ ordering_then (slice_cmp nat_cmp a b) (slice_cmp nat_cmp rest other)
padded_then_full a b rest other short long =
    let next = slice_cmp nat_cmp rest other in
    let group : length (take 8 b) ≡ 8 = length-take-le 8 b long in
    let lower : nat_cmp (247 + length a) 255 ≡ Less = sym (nat_cmp_is (247 + length a) 255 Less (omega arith)) in
    let first : slice_cmp nat_cmp a b ≡ slice_cmp nat_cmp a (take 8 b)
    = ap (slice_cmp nat_cmp a) (sym (take-append-drop 8 b)) ∙ slice_cmp-shorter a (take 8 b) (drop 8 b) (omega (arith, group)) in
    let padded = a ++ replicate (8 - length a) 0 in
    rw (padded_group a rest short, full_group b other long)
    (slice_cmp-append padded (take 8 b) ((247 + length a) ∷ rest) (255 ∷ (encoded (drop 8 b) ++ other)) (length-padded a short ∙ sym group)
    ∙ ap (λ o. ordering_then (slice_cmp nat_cmp padded (take 8 b)) (ordering_then o (slice_cmp nat_cmp rest (encoded (drop 8 b) ++ other)))) lower
    ∙ padded_full a (take 8 b) (8 - length a) next (omega (arith, group)) (omega arith)
    ∙ ap (λ o. ordering_then o next) (sym first))

two_full
    : (a b rest other : List ℕ)
    → 8 ≤ length a
    → 8 ≤ length b
    → slice_cmp nat_cmp (encoded (drop 8 a) ++ rest) (encoded (drop 8 b) ++ other) ≡ ordering_then (slice_cmp nat_cmp (drop 8 a) (drop 8 b)) (slice_cmp nat_cmp rest other)
    → slice_cmp nat_cmp (encoded a ++ rest) (encoded b ++ other) ≡ ordering_then (slice_cmp nat_cmp a b) (slice_cmp nat_cmp rest other)
two_full a b rest other long_a long_b later =
    let next = slice_cmp nat_cmp rest other in
    let same : length (take 8 a) ≡ length (take 8 b) = length-take-le 8 a long_a ∙ sym (length-take-le 8 b long_b) in
    let groups = slice_cmp nat_cmp (take 8 a) (take 8 b) in
    let whole : slice_cmp nat_cmp a b ≡ ordering_then groups (slice_cmp nat_cmp (drop 8 a) (drop 8 b))
    = ap (λ xs. slice_cmp nat_cmp xs b) (sym (take-append-drop 8 a))
    ∙ ap (slice_cmp nat_cmp (take 8 a ++ drop 8 a)) (sym (take-append-drop 8 b))
    ∙ slice_cmp-append (take 8 a) (take 8 b) (drop 8 a) (drop 8 b) same in
    rw (full_group a rest long_a, full_group b other long_b)
    (slice_cmp-append (take 8 a) (take 8 b) (255 ∷ (encoded (drop 8 a) ++ rest)) (255 ∷ (encoded (drop 8 b) ++ other)) same
    ∙ ap (ordering_then groups) later
    ∙ sym (then_assoc groups (slice_cmp nat_cmp (drop 8 a) (drop 8 b)) next)
    ∙ ap (λ o. ordering_then o next) (sym whole))

ordered_within
    : (fuel : ℕ) (a b rest other : List ℕ)
    → length a ≤ fuel
    → slice_cmp nat_cmp (encoded a ++ rest) (encoded b ++ other) ≡ ordering_then (slice_cmp nat_cmp a b) (slice_cmp nat_cmp rest other)
ordered_within zero a b rest other le =
    ⊎_elim (λ short. two_padded a b rest other (omega arith) short) (λ long. padded_then_full a b rest other (omega arith) long) (cases_lt (length b) 8)
ordered_within (suc fuel) a b rest other le =
    ⊎_elim
    (λ (short_a : length a < 8).
    ⊎_elim (λ short. two_padded a b rest other short_a short) (λ long. padded_then_full a b rest other short_a long) (cases_lt (length b) 8))
    (λ (long_a : 8 ≤ length a).
    let beyond : length (drop 8 a) ≡ length a - 8 = length-drop 8 a in
    ⊎_elim (λ short. full_then_padded a b rest other long_a short)
    (λ long. two_full a b rest other long_a long (ordered_within fuel (drop 8 a) (drop 8 b) rest other (omega (arith, beyond))))
    (cases_lt (length b) 8))
    (cases_lt (length a) 8)

-- encodings, whatever follows them
pub ordered
    : (a b rest other : List ℕ)
    → slice_cmp nat_cmp (encoded a ++ rest) (encoded b ++ other) ≡ ordering_then (slice_cmp nat_cmp a b) (slice_cmp nat_cmp rest other)
ordered a b rest other = ordered_within (length a) a b rest other (le_refl (length a))

pub ordered_alone : (a b : List ℕ) → slice_cmp nat_cmp (encoded a) (encoded b) ≡ slice_cmp nat_cmp a b
ordered_alone a b =
    ap (λ xs. slice_cmp nat_cmp xs (encoded b)) (sym (append-nil (encoded a)))
    ∙ ap (slice_cmp nat_cmp (encoded a ++ [])) (sym (append-nil (encoded b)))
    ∙ ordered a b [] []
    ∙ then_Equal (slice_cmp nat_cmp a b)

-- ---- complemented, the other way

complement-nat_cmp : (x y : ℕ) → x < 256 → y < 256 → nat_cmp (255 - x) (255 - y) ≡ nat_cmp y x
complement-nat_cmp x y small_x small_y =
    ⊎_elim (λ (lower : x < y). sym (nat_cmp_is (255 - x) (255 - y) Greater (omega arith)) ∙ nat_cmp_is y x Greater lower)
    (λ (least : y ≤ x).
    ⊎_elim (λ (higher : y < x). sym (nat_cmp_is (255 - x) (255 - y) Less (omega arith)) ∙ nat_cmp_is y x Less higher)
    (λ (most : x ≤ y).
    let same : x ≡ y = omega arith in
    sym (nat_cmp_is (255 - x) (255 - y) Equal (ap (λ n. 255 - n) same)) ∙ nat_cmp_is y x Equal (sym same))
    (cases_lt y x))
    (cases_lt x y)

-- two lists compare, before anything that follows them, as o says
abbrev Compares : List ℕ → List ℕ → Ordering → Type 0
Compares xs ys o = (rest other : List ℕ) → slice_cmp nat_cmp (xs ++ rest) (ys ++ other) ≡ ordering_then o (slice_cmp nat_cmp rest other)

complement-Compares
    : (xs ys : List ℕ) (o : Ordering)
    → AreBytes xs
    → AreBytes ys
    → Compares xs ys o
    → (rest other : List ℕ)
    → slice_cmp nat_cmp (complemented xs ++ rest) (complemented ys ++ other)
    ≡ ordering_then (ordering_reverse o) (slice_cmp nat_cmp rest other)
complement-Compares [] [] o small_x small_y has rest other =
    let level : o ≡ Equal = sym (then_Equal o) ∙ sym (has [] []) in
    ap (λ p. ordering_then (ordering_reverse p) (slice_cmp nat_cmp rest other)) (sym level)
complement-Compares [] (y ∷ ys) o small_x small_y has rest other =
    let lower : o ≡ Less = sym (then_Equal o) ∙ sym (has [] []) in
    let higher : nat_cmp (suc y) y ≡ Greater = sym (nat_cmp_is (suc y) y Greater (omega arith)) in
    let both : Greater ≡ Less
    = sym (ap (λ p. ordering_then p (slice_cmp nat_cmp [] (ys ++ []))) higher)
    ∙ has (suc y ∷ []) []
    ∙ ap (λ p. ordering_then p Greater) lower in
    absurd (cc both)
complement-Compares (x ∷ xs) [] o small_x small_y has rest other =
    let higher : o ≡ Greater = sym (then_Equal o) ∙ sym (has [] []) in
    let lower : nat_cmp x (suc x) ≡ Less = sym (nat_cmp_is x (suc x) Less (omega arith)) in
    let both : Less ≡ Greater
    = sym (ap (λ p. ordering_then p (slice_cmp nat_cmp (xs ++ []) [])) lower)
    ∙ has [] (suc x ∷ [])
    ∙ ap (λ p. ordering_then p Less) higher in
    absurd (cc both)
complement-Compares (x ∷ xs) (y ∷ ys) o small_x small_y has rest other =
    let kept = slice_cmp nat_cmp (complemented xs ++ rest) (complemented ys ++ other) in
    let next = slice_cmp nat_cmp rest other in
    let first = complement-nat_cmp x y (All-head (λ byte. byte < 256) x xs small_x) (All-head (λ byte. byte < 256) y ys small_y) in
    let none : ordering_then (nat_cmp x y) (slice_cmp nat_cmp (xs ++ []) (ys ++ [])) ≡ o = has [] [] ∙ then_Equal o in
    ap (λ p. ordering_then p kept) first
    ∙ ⊎_elim
    (λ (lower : x < y).
    let is : o ≡ Less = sym none ∙ ap (λ p. ordering_then p (slice_cmp nat_cmp (xs ++ []) (ys ++ []))) (sym (nat_cmp_is x y Less lower)) in
    ap (λ p. ordering_then p kept) (sym (nat_cmp_is y x Greater lower)) ∙ ap (λ p. ordering_then (ordering_reverse p) next) (sym is))
    (λ (least : y ≤ x).
    ⊎_elim
    (λ (higher : y < x).
    let is : o ≡ Greater = sym none ∙ ap (λ p. ordering_then p (slice_cmp nat_cmp (xs ++ []) (ys ++ []))) (sym (nat_cmp_is x y Greater higher)) in
    ap (λ p. ordering_then p kept) (sym (nat_cmp_is y x Less higher)) ∙ ap (λ p. ordering_then (ordering_reverse p) next) (sym is))
    (λ (most : x ≤ y).
    let same : x ≡ y = omega (arith, least, most) in
    ap (λ p. ordering_then p kept) (sym (nat_cmp_is y x Equal (sym same)))
    ∙ complement-Compares xs ys o (All-tail (λ byte. byte < 256) x xs small_x) (All-tail (λ byte. byte < 256) y ys small_y)
    (λ more beyond. ap (λ p. ordering_then p (slice_cmp nat_cmp (xs ++ more) (ys ++ beyond))) (nat_cmp_is x y Equal same) ∙ has more beyond)
    rest other)
    (cases_lt y x))
    (cases_lt x y)

-- ---- the bytes of an encoding

AreBytes-last : (key : List ℕ) → AreBytes key → length key < 8 → AreBytes (encoded key)
AreBytes-last key small short =
    let padding : AreBytes (replicate (8 - length key) 0) = All-replicate (λ byte. byte < 256) (8 - length key) 0 (omega arith) in
    let marker : AreBytes ((247 + length key) ∷ []) = All-cons (λ byte. byte < 256) (247 + length key) [] (omega arith) (All-nil (λ byte. byte < 256)) in
    let padded : AreBytes (key ++ replicate (8 - length key) 0) = All-append (λ byte. byte < 256) key (replicate (8 - length key) 0) small padding in
    All-same (λ byte. byte < 256) (encoded key) _ (encoded-last key short)
    (All-append (λ byte. byte < 256) (key ++ replicate (8 - length key) 0) ((247 + length key) ∷ []) padded marker)

AreBytes-encoded : (fuel : ℕ) (key : List ℕ) → AreBytes key → length key ≤ fuel → AreBytes (encoded key)
AreBytes-encoded zero key small le = AreBytes-last key small (omega arith)
AreBytes-encoded (suc fuel) key small le =
    ⊎_elim (AreBytes-last key small)
    (λ (long : 8 ≤ length key).
    let beyond : length (drop 8 key) ≡ length key - 8 = length-drop 8 key in
    let later : AreBytes (encoded (drop 8 key)) = AreBytes-encoded fuel (drop 8 key) (All-drop (λ byte. byte < 256) 8 key small) (omega (arith, beyond)) in
    All-same (λ byte. byte < 256) (encoded key) _ (encoded-full key long)
    (All-append (λ byte. byte < 256) (take 8 key) (255 ∷ encoded (drop 8 key)) (All-take (λ byte. byte < 256) 8 key small)
    (All-cons (λ byte. byte < 256) 255 (encoded (drop 8 key)) (omega arith) later)))
    (cases_lt (length key) 8)

-- descending encodings, whatever follows them
pub reversed
    : (a b rest other : List ℕ)
    → AreBytes a
    → AreBytes b
    → slice_cmp nat_cmp (complemented (encoded a) ++ rest) (complemented (encoded b) ++ other)
    ≡ ordering_then (slice_cmp nat_cmp b a) (slice_cmp nat_cmp rest other)
reversed a b rest other small_a small_b =
    complement-Compares (encoded a) (encoded b) (slice_cmp nat_cmp a b) (AreBytes-encoded (length a) a small_a (le_refl (length a)))
    (AreBytes-encoded (length b) b small_b (le_refl (length b))) (ordered a b) rest other
    ∙ ap (λ o. ordering_then o (slice_cmp nat_cmp rest other)) (sym (nat_list_cmp_total.antisymm b a))

pub reversed_alone
    : (a b : List ℕ)
    → AreBytes a
    → AreBytes b
    → slice_cmp nat_cmp (complemented (encoded a)) (complemented (encoded b)) ≡ slice_cmp nat_cmp b a
reversed_alone a b small_a small_b =
    ap (λ xs. slice_cmp nat_cmp xs (complemented (encoded b))) (sym (append-nil (complemented (encoded a))))
    ∙ ap (slice_cmp nat_cmp (complemented (encoded a) ++ [])) (sym (append-nil (complemented (encoded b))))
    ∙ reversed a b [] [] small_a small_b
    ∙ then_Equal (slice_cmp nat_cmp b a)

-- ---- one encoding, one key

alike
    : (xs ys a b rest other : List ℕ)
    → xs ≡ ys
    → slice_cmp nat_cmp xs ys ≡ ordering_then (slice_cmp nat_cmp a b) (slice_cmp nat_cmp rest other)
    → (a ≡ b) × (rest ≡ other)
alike xs ys a b rest other same compares =
    let level : slice_cmp nat_cmp xs ys ≡ Equal = ap (λ zs. slice_cmp nat_cmp zs ys) same ∙ slice_cmp-self ys in
    let parts = both_Equal (slice_cmp nat_cmp a b) (slice_cmp nat_cmp rest other) (sym level ∙ compares) in
    (exact_bytes a b parts.0, exact_bytes rest other parts.1)

pub injective
    : (descending : Bool) (a b rest other : List ℕ)
    → AreBytes a
    → AreBytes b
    → encoding descending a ++ rest ≡ encoding descending b ++ other
    → (a ≡ b) × (rest ≡ other)
injective false a b rest other small_a small_b same = alike _ _ a b rest other same (ordered a b rest other)
injective true a b rest other small_a small_b same =
    let turned = alike _ _ b a rest other same (reversed a b rest other small_a small_b) in
    (sym turned.0, turned.1)
