-- Groups of ranges, at the back of a reversed list.
use Rattle.std.proofs.Common.{◌≡◌, ℕ, zero, suc, ◌+◌, ◌-◌, ◌<◌, ◌≤◌, Bool, true, false, List, [], ◌∷◌, ◌++◌, length, length-append, length-drop, length-take, get_or, drop, take, reverse, min, refl, sym, ap, ◌∙◌, subst, arith}
use Rattle.std.specs.Prelude.{cond, ◌&&◌, ◌||◌}
use Rattle.std.specs.List.{All}
use Rattle.std.proofs.lemmas.List.{drop-append-le, drop_all, drop_more, get_or-take, length-reverse, reverse-append, take-append-drop, take-append-le, take_all}
use Rattle.std.proofs.lemmas.List.Elements.{All-append, All-cons, All-nil}
use Rattle.std.proofs.lemmas.List.Folds.{list_any-append}
use Rattle.std.proofs.lemmas.List.Sums.{prefix_len_passes, prefix_len_stops}
use Rattle.txn_kv.specs.Region.{contains_key}
use Rattle.txn_kv.specs.declared.message.KeyRange.{KeyRange}
use Rattle.txn_kv.specs.declared.message.Region.{Region}
use Rattle.txn_region.specs.Groups.{back_of, behind_group, behind_whole, count_whole, cut_back, cut_front, ends_by, front_of, group_of, in_range, in_ranges, is_whole, whole_ranges, IsRangeGroup, LiesIn}
use Rattle.txn_region.specs.Regions.{Key}
use Rattle.txn_region.proofs.RangePieces.{by_cases, cut_in_two, ends_by_itself, first_of, lies_inside, second_of}

-- a list reversed is its back reversed and then its front
in_two : {X : Type 0} (at : ℕ) (xs : List X) → reverse xs ≡ reverse (drop at xs) ++ reverse (take at xs)
in_two at xs = ap reverse (sym (take-append-drop at xs)) ∙ reverse-append (take at xs) (drop at xs)

long : {X : Type 0} (n : ℕ) (xs : List X) → n ≤ length xs → length (reverse (drop (length xs - n) xs)) ≡ n
long n xs l = length-reverse (drop (length xs - n) xs) ∙ (length-drop (length xs - n) xs ∙ omega arith)

-- the last of a list, the last first
pub last_reversed : {X : Type 0} (n : ℕ) (xs : List X) → n ≤ length xs → reverse (drop (length xs - n) xs) ≡ take n (reverse xs)
last_reversed n xs l =
    let back = reverse (drop (length xs - n) xs) in
    let front = reverse (take (length xs - n) xs) in
    let much : length back ≡ n = long n xs l in
    let all : n ≤ length back = omega arith in
    let over : length back ≤ n = omega arith in
    sym (ap (take n) (in_two (length xs - n) xs) ∙ (take-append-le n back front all ∙ take_all n back over))

-- and what is before them
pub first_reversed : {X : Type 0} (n : ℕ) (xs : List X) → n ≤ length xs → reverse (take (length xs - n) xs) ≡ drop n (reverse xs)
first_reversed n xs l =
    let back = reverse (drop (length xs - n) xs) in
    let front = reverse (take (length xs - n) xs) in
    let much : length back ≡ n = long n xs l in
    let all : n ≤ length back = omega arith in
    let over : length back ≤ n = omega arith in
    sym (ap (drop n) (in_two (length xs - n) xs) ∙ (drop-append-le n back front all ∙ ap (λ ys. ys ++ front) (drop_all n back over)))

pub last_at : {X : Type 0} (at n : ℕ) (xs ys zs : List X) → n ≤ length xs → at + n ≡ length xs → ys ≡ drop at xs → zs ≡ reverse ys → zs ≡ take n (reverse xs)
last_at at n xs ys zs l is cut turned =
    let place : at ≡ length xs - n = omega arith in
    turned ∙ (ap reverse (cut ∙ ap (λ k. drop k xs) place) ∙ last_reversed n xs l)

pub first_at : {X : Type 0} (at n : ℕ) (xs ys : List X) → n ≤ length xs → at + n ≡ length xs → ys ≡ take at xs → reverse ys ≡ drop n (reverse xs)
first_at at n xs ys l is cut =
    let place : at ≡ length xs - n = omega arith in
    ap reverse (cut ∙ ap (λ k. take k xs) place) ∙ first_reversed n xs l

-- What a group takes, and what it leaves

whole_lies : (g : Region) (r : KeyRange) → is_whole g r ≡ true → LiesIn g r
whole_lies g r w key between =
    lies_inside g r.start_key r.end_key key
    (first_of (contains_key g r.start_key) (ends_by r.end_key g.end_key) w)
    (second_of (contains_key g r.start_key) (ends_by r.end_key g.end_key) w)
    between

front_lies : (g : Region) (r : KeyRange) → contains_key g r.start_key ≡ true → LiesIn g (front_of g r)
front_lies g r has key between = lies_inside g r.start_key g.end_key key has (ends_by_itself g.end_key) between

wholes_lie : (g : Region) (rs : List KeyRange) → All (LiesIn g) (whole_ranges g rs)
wholes_lie g rs k d less =
    let n = count_whole g rs in
    let short : length (take n rs) ≤ n = rw length-take (omega arith) in
    let below : k < n = omega arith in
    subst (LiesIn g) (sym (get_or-take n rs k d below)) (whole_lies g (get_or rs k d) (prefix_len_passes (is_whole g) rs k d below))

fronts_lie : (g : Region) (rs : List KeyRange) → All (LiesIn g) (cut_front g rs)
fronts_lie g [] = All-nil (LiesIn g)
fronts_lie g (r ∷ rs) =
    by_cases (contains_key g r.start_key)
    (λ has. subst (All (LiesIn g)) (sym (ap (λ b. cond b (front_of g r ∷ []) []) has)) (All-cons (LiesIn g) (front_of g r) [] (front_lies g r has) (All-nil (LiesIn g))))
    (λ not_in. subst (All (LiesIn g)) (sym (ap (λ b. cond b (front_of g r ∷ []) []) not_in)) (All-nil (LiesIn g)))

group_lies : (g : Region) (rs : List KeyRange) → All (LiesIn g) (group_of g rs)
group_lies g rs = All-append (LiesIn g) (whole_ranges g rs) (cut_front g (behind_whole g rs)) (wholes_lie g rs) (fronts_lie g (behind_whole g rs))

-- the first of these ranges, if there is one, is not whole
abbrev FirstNotWhole : Region → List KeyRange → Type 0
FirstNotWhole g [] = Unit {0}
FirstNotWhole g (r ∷ rs) = is_whole g r ≡ false

goes_on : (g : Region) (r : KeyRange) → is_whole g r ≡ false → contains_key g r.start_key ≡ true → ends_by r.end_key g.end_key ≡ false
goes_on g r not_whole has = by (contains_key g r.start_key) (ends_by r.end_key g.end_key) not_whole has
  where
    by : (a b : Bool) → (a && b) ≡ false → a ≡ true → b ≡ false
    by true b h k = h
    by false b h k = absurd (cc)

or_assoc : (a b c : Bool) → (a || (b || c)) ≡ ((a || b) || c)
or_assoc true b c = refl
or_assoc false b c = refl

or_false : (a : Bool) → (a || false) ≡ a
or_false true = refl
or_false false = refl

cut_joins : (g : Region) (rs : List KeyRange) (key : Key) → FirstNotWhole g rs → in_ranges rs key ≡ (in_ranges (cut_front g rs) key || in_ranges (cut_back g rs) key)
cut_joins g [] key not_whole = refl
cut_joins g (r ∷ rs) key not_whole =
    by_cases (contains_key g r.start_key)
    (λ has.
    let fronts : in_ranges (cut_front g (r ∷ rs)) key ≡ in_range (front_of g r) key =
    ap (λ b. in_ranges (cond b (front_of g r ∷ []) []) key) has ∙ or_false (in_range (front_of g r) key) in
    let backs : in_ranges (cut_back g (r ∷ rs)) key ≡ (in_range (back_of g r) key || in_ranges rs key) =
    ap (λ b. in_ranges (cond b (back_of g r ∷ rs) (r ∷ rs)) key) has in
    let two : in_range r key ≡ (in_range (front_of g r) key || in_range (back_of g r) key) =
    cut_in_two g r.start_key r.end_key key has (goes_on g r not_whole has) in
    (ap (λ b. b || in_ranges rs key) two ∙ sym (or_assoc (in_range (front_of g r) key) (in_range (back_of g r) key) (in_ranges rs key)))
    ∙ sym (ap (λ a. a || in_ranges (cut_back g (r ∷ rs)) key) fronts ∙ ap (λ b. in_range (front_of g r) key || b) backs))
    (λ not_in.
    sym (ap (λ b. in_ranges (cond b (front_of g r ∷ []) []) key || in_ranges (cut_back g (r ∷ rs)) key) not_in
    ∙ ap (λ b. in_ranges (cond b (back_of g r ∷ rs) (r ∷ rs)) key) not_in))

first_fails : (g : Region) (rs : List KeyRange) (at : ℕ) → (at < length rs → (d : KeyRange) → is_whole g (get_or rs at d) ≡ false) → FirstNotWhole g (drop at rs)
first_fails g [] zero fails = tt
first_fails g (r ∷ rs) zero fails = fails (omega arith) r
first_fails g [] (suc at) fails = tt
first_fails g (r ∷ rs) (suc at) fails = first_fails g rs at (λ less d. fails (omega arith) d)

rest_not_whole : (g : Region) (rs : List KeyRange) → FirstNotWhole g (behind_whole g rs)
rest_not_whole g rs = first_fails g rs (count_whole g rs) (λ less d. prefix_len_stops (is_whole g) rs d less)

group_joins : (g : Region) (rs : List KeyRange) (key : Key) → in_ranges rs key ≡ (in_ranges (group_of g rs) key || in_ranges (behind_group g rs) key)
group_joins g rs key =
    let p = λ (r : KeyRange). in_range r key in
    let wholes = whole_ranges g rs in
    let rest = behind_whole g rs in
    let parts : in_ranges rs key ≡ (in_ranges wholes key || in_ranges rest key) =
    ap (λ xs. in_ranges xs key) (sym (take-append-drop (count_whole g rs) rs)) ∙ list_any-append p wholes rest in
    let cut : in_ranges rest key ≡ (in_ranges (cut_front g rest) key || in_ranges (cut_back g rest) key) = cut_joins g rest key (rest_not_whole g rs) in
    let group : in_ranges (group_of g rs) key ≡ (in_ranges wholes key || in_ranges (cut_front g rest) key) = list_any-append p wholes (cut_front g rest) in
    parts
    ∙ (ap (λ b. in_ranges wholes key || b) cut
    ∙ (or_assoc (in_ranges wholes key) (in_ranges (cut_front g rest) key) (in_ranges (cut_back g rest) key)
    ∙ sym (ap (λ b. b || in_ranges (behind_group g rs) key) group)))

takes_first : (g : Region) (r : KeyRange) (rs : List KeyRange) → contains_key g r.start_key ≡ true → 0 < length (group_of g (r ∷ rs))
takes_first g r rs has =
    let n = count_whole g (r ∷ rs) in
    let all : length (group_of g (r ∷ rs)) ≡ length (take n (r ∷ rs)) + length (cut_front g (drop n (r ∷ rs))) = length-append (take n (r ∷ rs)) (cut_front g (drop n (r ∷ rs))) in
    by_cases (is_whole g r)
    (λ whole.
    let one_more : n ≡ 1 + count_whole g rs = ap (λ b. cond b (1 + count_whole g rs) 0) whole in
    let some : length (take n (r ∷ rs)) ≡ min n (length (r ∷ rs)) = length-take n (r ∷ rs) in
    omega arith)
    (λ not_whole.
    let none : n ≡ 0 = ap (λ b. cond b (1 + count_whole g rs) 0) not_whole in
    let fronts : length (cut_front g (drop n (r ∷ rs))) ≡ 1 = ap (λ k. length (cut_front g (drop k (r ∷ rs)))) none ∙ ap (λ b. length (cond b (front_of g r ∷ []) [])) has in
    omega arith)

range_group : (g : Region) (before group after : List KeyRange) (r : KeyRange) (rs : List KeyRange) → before ≡ r ∷ rs → contains_key g r.start_key ≡ true → group ≡ group_of g before → after ≡ behind_group g before → IsRangeGroup g before group after
range_group g before group after r rs begins has taken left = record {
  taken = taken;
  left = left;
  some = subst (λ xs. 0 < length xs) (sym (taken ∙ ap (group_of g) begins)) (takes_first g r rs has);
  inside = subst (All (LiesIn g)) (sym taken) (group_lies g before);
  joined = λ key. group_joins g before key ∙ (ap (λ xs. in_ranges xs key || in_ranges (behind_group g before) key) (sym taken) ∙ ap (λ xs. in_ranges group key || in_ranges xs key) (sym left));
}

-- the last of a list comes first when it is reversed
last_first : {X : Type 0} (xs : List X) (x : X) → 0 < length xs → x ≡ get_or xs (length xs - 1) x → reverse xs ≡ x ∷ reverse (take (length xs - 1) xs)
last_first xs x some is =
    let at = length xs - 1 in
    let there : at < length xs = omega arith in
    let over : length xs ≤ at + 1 = omega arith in
    let last : drop at xs ≡ x ∷ [] = drop_more xs at x there ∙ (ap (λ y. y ∷ drop (at + 1) xs) (sym is) ∙ ap (λ ys. x ∷ ys) (drop_all (at + 1) xs over)) in
    in_two at xs ∙ ap (λ ys. reverse ys ++ reverse (take at xs)) last

pub group_off
    : (g : Region) (xs group after : List KeyRange) (r : KeyRange)
    → 0 < length xs
    → r ≡ get_or xs (length xs - 1) r
    → contains_key g r.start_key ≡ true
    → group ≡ group_of g (reverse xs)
    → after ≡ behind_group g (reverse xs)
    → IsRangeGroup g (reverse xs) group after
group_off g xs group after r some is has taken left = range_group g (reverse xs) group after r (reverse (take (length xs - 1) xs)) (last_first xs r some is) has taken left
