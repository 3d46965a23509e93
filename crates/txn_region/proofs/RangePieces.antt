-- Ranges and regions: a piece that lies in a region, and what is behind it.
use Rattle.std.proofs.Common.{◌≡◌, Bool, true, false, refl, sym, ap, ◌∙◌, subst}
use Rattle.std.specs.Prelude.{not, ◌&&◌, ◌||◌, ◌==◌, if◌then◌else◌, length, Option, Some, None, IfSome}
use Rattle.std.specs.Ordering.{is_le, is_lt}
use Rattle.std.specs.declared.cmp.Ordering.{Ordering}
use Rattle.std.specs.declared.cmp.Ordering.TheVariants.{Less, Equal, Greater}
use Rattle.txn_kv.specs.Region.{contains_key}
use Rattle.txn_kv.specs.declared.message.Region.{Region}
use Rattle.txn_region.specs.Groups.{ends_by, is_between, is_beyond, least_end, next_start, IsRangePiece}
use Rattle.txn_region.specs.Regions.{Key, key_cmp, is_below}
use Rattle.txn_region.proofs.Order.{below_before, greater_if_less, less_if_greater, less_itself, less_trans, same_if_equal}

pub by_cases : (b : Bool) {G : Type 0} → (b ≡ true → G) → (b ≡ false → G) → G
by_cases true f g = f refl
by_cases false f g = g refl

clash : (b : Bool) {G : Type 0} → b ≡ true → b ≡ false → G
clash b yes_it no_not = absurd (let h : true ≡ false = sym yes_it ∙ no_not in cc)

pub first_of : (a b : Bool) → (a && b) ≡ true → a ≡ true
first_of true b h = refl
first_of false b h = absurd (cc)

pub second_of : (a b : Bool) → (a && b) ≡ true → b ≡ true
second_of true b h = h
second_of false b h = absurd (cc)

pub both_of : (a b : Bool) → a ≡ true → b ≡ true → (a && b) ≡ true
both_of true b h k = k
both_of false b h k = absurd (cc)

-- keys in order

less_or_same : (a b : Key) {G : Type 0} → is_le (key_cmp a b) ≡ true → (key_cmp a b ≡ Less → G) → (a ≡ b → G) → G
less_or_same a b {G} h f g = by (key_cmp a b) refl h
  where
    by : (o : Ordering) → key_cmp a b ≡ o → is_le o ≡ true → G
    by Less e h = f e
    by Equal e h = g (same_if_equal a b e)
    by Greater e h = absurd (cc)

at_most_if_less : (a b : Key) → key_cmp a b ≡ Less → is_le (key_cmp a b) ≡ true
at_most_if_less a b e = ap is_le e

pub at_most_trans : (a b c : Key) → is_le (key_cmp a b) ≡ true → is_le (key_cmp b c) ≡ true → is_le (key_cmp a c) ≡ true
at_most_trans a b c h k =
    less_or_same a b h
    (λ first. less_or_same b c k
    (λ second. at_most_if_less a c (less_trans a b c first second))
    (λ same. subst (λ x. is_le (key_cmp a x) ≡ true) same h))
    (λ same. subst (λ x. is_le (key_cmp x c) ≡ true) (sym same) k)

-- a key is below another, or that is at most the key
less_or_at_most : (a b : Key) {G : Type 0} → (key_cmp a b ≡ Less → G) → (is_le (key_cmp b a) ≡ true → is_lt (key_cmp a b) ≡ false → G) → G
less_or_at_most a b {G} f g = by (key_cmp a b) refl
  where
    by : (o : Ordering) → key_cmp a b ≡ o → G
    by Less e = f e
    by Equal e = let same : a ≡ b = same_if_equal a b e in g (subst (λ x. is_le (key_cmp x a) ≡ true) same (subst (λ x. is_le (key_cmp a x) ≡ true) (sym same) (ap is_le e))) (ap is_lt e)
    by Greater e = g (at_most_if_less b a (less_if_greater a b e)) (ap is_lt e)

not_at_most : (a b : Key) → key_cmp a b ≡ Less → is_le (key_cmp b a) ≡ false
not_at_most a b e = ap is_le (greater_if_less a b e)

-- ends

-- what is below an end is below each end that is not under it
pub below_by : (key end limit : Key) → is_below key end ≡ true → ends_by end limit ≡ true → is_below key limit ≡ true
below_by key end limit below by_it =
    by (length limit == 0) (length end == 0) (is_lt (key_cmp key end)) refl refl refl below by_it
  where
    by : (none wide less : Bool) → (length limit == 0) ≡ none → (length end == 0) ≡ wide → is_lt (key_cmp key end) ≡ less
        → (less || wide) ≡ true → (none || (not wide && is_le (key_cmp end limit))) ≡ true → (is_lt (key_cmp key limit) || none) ≡ true
    by true wide less e f g h k = or_true (is_lt (key_cmp key limit))
      where
        or_true : (b : Bool) → (b || true) ≡ true
        or_true true = refl
        or_true false = refl
    by false true less e f g h k = absurd (cc)
    by false false true e f g h k =
        let first : key_cmp key end ≡ Less = less_itself key end g in
        let through : key_cmp key limit ≡ Less =
        less_or_same end limit k (λ second. less_trans key end limit first second) (λ same. subst (λ x. key_cmp key x ≡ Less) same first) in
        ap (λ o. is_lt o || false) through
    by false false false e f g h k = absurd (cc)

-- an end that goes on behind a limit: the limit is bounded and below it
pub bounded : (end limit : Key) → ends_by end limit ≡ false → (length limit == 0) ≡ false
bounded end limit not_by = by (length limit == 0) (not (length end == 0) && is_le (key_cmp end limit)) not_by
  where
    by : (a b : Bool) → (a || b) ≡ false → a ≡ false
    by true b h = absurd (cc)
    by false b h = refl

pub limit_below : (end limit : Key) → ends_by end limit ≡ false → is_below limit end ≡ true
limit_below end limit not_by = by (length limit == 0) (length end == 0) (key_cmp end limit) refl not_by
  where
    by : (none wide : Bool) (o : Ordering) → key_cmp end limit ≡ o → (none || (not wide && is_le o)) ≡ false → (is_lt (key_cmp limit end) || wide) ≡ true
    by true wide o e h = absurd (cc)
    by false true o e h = or_true (is_lt (key_cmp limit end))
      where
        or_true : (b : Bool) → (b || true) ≡ true
        or_true true = refl
        or_true false = refl
    by false false Less e h = absurd (cc)
    by false false Equal e h = absurd (cc)
    by false false Greater e h = ap (λ q. is_lt q || false) (less_if_greater end limit e)

-- pieces

-- a piece that begins in a region and does not go on behind it lies in it
pub lies_inside : (g : Region) (start end key : Key) → contains_key g start ≡ true → ends_by end g.end_key ≡ true → is_between start end key ≡ true → contains_key g key ≡ true
lies_inside g start end key has by_it between =
    both_of (is_le (key_cmp g.start_key key)) (is_below key g.end_key)
    (at_most_trans g.start_key start key (first_of (is_le (key_cmp g.start_key start)) (is_below start g.end_key) has) (first_of (is_le (key_cmp start key)) (is_below key end) between))
    (below_by key end g.end_key (second_of (is_le (key_cmp start key)) (is_below key end) between) by_it)

at_most_itself : (k : Key) → is_le (key_cmp k k) ≡ true
at_most_itself k = less_or_at_most k k (λ e. at_most_if_less k k e) (λ h e. h)

pub ends_by_itself : (limit : Key) → ends_by limit limit ≡ true
ends_by_itself limit = by (length limit == 0) (is_le (key_cmp limit limit)) (at_most_itself limit)
  where
    by : (none le : Bool) → le ≡ true → (none || (not none && le)) ≡ true
    by true le h = refl
    by false le h = h

-- a range that begins in a region and goes on behind it is cut in two
pub cut_in_two
    : (g : Region) (start end key : Key)
    → contains_key g start ≡ true
    → ends_by end g.end_key ≡ false
    → is_between start end key ≡ (is_between start g.end_key key || is_between g.end_key end key)
cut_in_two g start end key has beyond =
    less_or_at_most key g.end_key
    (λ less.
    let below_end : is_below key end ≡ true = below_before key g.end_key end less (limit_below end g.end_key beyond) in
    let below_limit : is_below key g.end_key ≡ true = ap (λ o. is_lt o || (length g.end_key == 0)) less in
    front (is_le (key_cmp start key)) (is_below key end) (is_below key g.end_key) (is_le (key_cmp g.end_key key)) below_end below_limit (not_at_most key g.end_key less))
    (λ at_most not_less.
    let not_below : is_below key g.end_key ≡ false = ap (λ b. b || (length g.end_key == 0)) not_less ∙ bounded end g.end_key beyond in
    let below_limit : is_below start g.end_key ≡ true = second_of (is_le (key_cmp g.start_key start)) (is_below start g.end_key) has in
    let narrow : (length g.end_key == 0) ≡ false = bounded end g.end_key beyond in
    let start_less : key_cmp start g.end_key ≡ Less = less_itself start g.end_key (bare (is_lt (key_cmp start g.end_key)) (length g.end_key == 0) below_limit narrow) in
    let behind_start : is_le (key_cmp start key) ≡ true = at_most_trans start g.end_key key (at_most_if_less start g.end_key start_less) at_most in
    back (is_le (key_cmp start key)) (is_below key end) (is_below key g.end_key) (is_le (key_cmp g.end_key key)) behind_start not_below at_most)
  where
    bare : (a b : Bool) → (a || b) ≡ true → b ≡ false → a ≡ true
    bare true b h k = refl
    bare false b h k = absurd (cc)

    front : (after below short behind : Bool) → below ≡ true → short ≡ true → behind ≡ false → (after && below) ≡ ((after && short) || (behind && below))
    front true true true false h k l = refl
    front true true true true h k l = absurd (cc)
    front true true false b h k l = absurd (cc)
    front true false s b h k l = absurd (cc)
    front false true s false h k l = refl
    front false true s true h k l = absurd (cc)
    front false false s b h k l = absurd (cc)

    back : (after below short behind : Bool) → after ≡ true → short ≡ false → behind ≡ true → (after && below) ≡ ((after && short) || (behind && below))
    back true b false true h k l = refl
    back true b false false h k l = absurd (cc)
    back true b true c h k l = absurd (cc)
    back false b s c h k l = absurd (cc)

absorbed : (a b : Bool) → (a ≡ true → b ≡ true) → a ≡ (a && b)
absorbed true b h = sym (h refl)
absorbed false b h = refl

same_if : (a b : Bool) → (a ≡ true → b ≡ true) → (b ≡ true → a ≡ true) → a ≡ b
same_if true b f g = sym (f refl)
same_if false true f g = g refl
same_if false false f g = refl

or_false : (a : Bool) → a ≡ (a || false)
or_false true = refl
or_false false = refl

left_or : (a b : Bool) → a ≡ true → (a || b) ≡ true
left_or true b h = refl
left_or false b h = absurd (cc)

-- the keys of a range up to the region's end are those of the range that lie in the region
cut_is_intersection
    : (g : Region) (first end key : Key)
    → contains_key g first ≡ true
    → ends_by end g.end_key ≡ false
    → is_between first g.end_key key ≡ (is_between first end key && contains_key g key)
cut_is_intersection g first end key has beyond =
    same_if (is_between first g.end_key key) (is_between first end key && contains_key g key)
    (λ between.
    both_of (is_between first end key) (contains_key g key)
    (cut_in_two g first end key has beyond ∙ left_or (is_between first g.end_key key) (is_between g.end_key end key) between)
    (lies_inside g first g.end_key key has (ends_by_itself g.end_key) between))
    (λ both.
    let inside = second_of (is_between first end key) (contains_key g key) both in
    let between = first_of (is_between first end key) (contains_key g key) both in
    both_of (is_le (key_cmp first key)) (is_below key g.end_key)
    (first_of (is_le (key_cmp first key)) (is_below key end) between)
    (second_of (is_le (key_cmp g.start_key key)) (is_below key g.end_key) inside))

pub range_piece
    : (g : Region) (first end start stop : Key) (next : Option Key)
    → contains_key g first ≡ true
    → start ≡ first
    → stop ≡ least_end end g.end_key
    → next ≡ next_start g end
    → IsRangePiece g first end (start, stop) next
range_piece g first end start stop next has begins ends left =
    by_cases (ends_by end g.end_key)
    (λ whole.
    let whole_stop : stop ≡ end = ends ∙ ap (λ b. if b then end else g.end_key) whole in
    let nothing : next ≡ None = left ∙ ap (λ b. if b then None else Some g.end_key) whole in
    let same : (key : Key) → is_between start stop key ≡ is_between first end key =
    λ key. ap (λ a. is_between a stop key) begins ∙ ap (λ b. is_between first b key) whole_stop in
    record {
      start = begins;
      stop = ends;
      left = left;
      intersection = λ key. same key ∙ absorbed (is_between first end key) (contains_key g key) (λ between. lies_inside g first end key has whole between);
      joined = λ key. sym (same key) ∙ (or_false (is_between start stop key) ∙ ap (λ n. is_between start stop key || is_beyond n end key) (sym nothing));
      some = subst (λ n. IfSome n (λ k. is_below k end ≡ true)) (sym nothing) tt;
    })
    (λ beyond.
    let cut_stop : stop ≡ g.end_key = ends ∙ ap (λ b. if b then end else g.end_key) beyond in
    let rest : next ≡ Some g.end_key = left ∙ ap (λ b. if b then None else Some g.end_key) beyond in
    let same : (key : Key) → is_between start stop key ≡ is_between first g.end_key key =
    λ key. ap (λ a. is_between a stop key) begins ∙ ap (λ b. is_between first b key) cut_stop in
    record {
      start = begins;
      stop = ends;
      left = left;
      intersection = λ key. same key ∙ cut_is_intersection g first end key has beyond;
      joined = λ key.
          cut_in_two g first end key has beyond
          ∙ (ap (λ b. b || is_between g.end_key end key) (sym (same key)) ∙ ap (λ n. is_between start stop key || is_beyond n end key) (sym rest));
      some = subst (λ n. IfSome n (λ k. is_below k end ≡ true)) (sym rest) (limit_below end g.end_key beyond);
    })
