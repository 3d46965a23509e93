-- The order of keys and of ends. No other proof looks into it.
use Rattle.std.proofs.Common.{◌≡◌, Bool, true, false, refl, sym, ap, ◌∙◌, subst}
use Rattle.std.specs.Prelude.{not, ◌&&◌, ◌||◌, ◌==◌, length}
use Rattle.std.specs.Ordering.{is_eq, is_le, is_lt, ordering_reverse}
use Rattle.std.specs.declared.cmp.Ordering.{Ordering}
use Rattle.std.specs.declared.cmp.Ordering.TheVariants.{Less, Equal, Greater}
use Rattle.std.specs.Cmp.Lexicographic.{pointwise, texts_ties}
use Rattle.std.specs.Prelude.{nat_eq, [], ◌∷◌}
use Rattle.std.proofs.Common.{arith}
use Rattle.std.proofs.lemmas.Bool.Decides.{nat_tests}
use Rattle.std.proofs.lemmas.Cmp.{nat_list_cmp_total, tied_itself}
use Rattle.txn_kv.specs.declared.message.Region.{Region}
use Rattle.txn_kv.specs.Region.{contains_key}
use Rattle.txn_region.specs.Regions.{Key, key_cmp, is_below, is_reversed}

same_key : (a b : Key) → pointwise nat_eq a b ≡ true → a ≡ b
same_key [] [] h = refl
same_key [] (y ∷ ys) h = grind arith
same_key (x ∷ xs) [] h = grind arith
same_key (x ∷ xs) (y ∷ ys) h = grind (arith, nat_tests, same_key xs ys)

pub same_if_equal : (a b : Key) → key_cmp a b ≡ Equal → a ≡ b
same_if_equal a b h = same_key a b (texts_ties a b ∙ ap is_eq h)

pub less_trans : (a b c : Key) → key_cmp a b ≡ Less → key_cmp b c ≡ Less → key_cmp a c ≡ Less
less_trans a b c = nat_list_cmp_total.trans a b c

pub less_if_greater : (a b : Key) → key_cmp a b ≡ Greater → key_cmp b a ≡ Less
less_if_greater a b h = nat_list_cmp_total.antisymm b a ∙ ap ordering_reverse h

pub greater_if_less : (a b : Key) → key_cmp a b ≡ Less → key_cmp b a ≡ Greater
greater_if_less a b h = nat_list_cmp_total.antisymm b a ∙ ap ordering_reverse h

-- a key below an end is below each key that is not
pub before_end : (j k e : Key) → is_below k e ≡ false → is_below j e ≡ true → key_cmp j k ≡ Less
before_end j k e fails holds = by (length e == 0) (key_cmp k e) (key_cmp j e) refl refl fails holds
  where
    by : (b : Bool) (o p : Ordering) → key_cmp k e ≡ o → key_cmp j e ≡ p → (is_lt o || b) ≡ false → (is_lt p || b) ≡ true → key_cmp j k ≡ Less
    by true Less p f g fails holds = absurd (cc)
    by true Equal p f g fails holds = absurd (cc)
    by true Greater p f g fails holds = absurd (cc)
    by false Less p f g fails holds = absurd (cc)
    by false Equal Less f g fails holds = subst (λ q. key_cmp j q ≡ Less) (same_if_equal e k (nat_list_cmp_total.antisymm e k ∙ ap ordering_reverse f)) g
    by false Equal Equal f g fails holds = absurd (cc)
    by false Equal Greater f g fails holds = absurd (cc)
    by false Greater Less f g fails holds = less_trans j e k g (less_if_greater k e f)
    by false Greater Equal f g fails holds = absurd (cc)
    by false Greater Greater f g fails holds = absurd (cc)

-- what comes before a key that is below an end is below it too
pub below_before : (j k e : Key) → key_cmp j k ≡ Less → is_below k e ≡ true → is_below j e ≡ true
below_before j k e less holds = by (length e == 0) (key_cmp k e) (key_cmp j e) refl refl holds
  where
    by : (b : Bool) (o p : Ordering) → key_cmp k e ≡ o → key_cmp j e ≡ p → (is_lt o || b) ≡ true → (is_lt p || b) ≡ true
    by true o Less f g holds = refl
    by true o Equal f g holds = refl
    by true o Greater f g holds = refl
    by false Less p f g holds = ap (λ q. is_lt q || false) (sym g ∙ less_trans j k e less f)
    by false Equal p f g holds = absurd (cc)
    by false Greater p f g holds = absurd (cc)

-- and so is what does not come after it
pub below_unless : (j k e : Key) → is_lt (key_cmp k j) ≡ false → is_below k e ≡ true → is_below j e ≡ true
below_unless j k e fails holds = by (key_cmp k j) refl fails
  where
    by : (o : Ordering) → key_cmp k j ≡ o → is_lt o ≡ false → is_below j e ≡ true
    by Less f fails = absurd (cc)
    by Equal f fails = subst (λ q. is_below q e ≡ true) (same_if_equal k j f) holds
    by Greater f fails = below_before j k e (less_if_greater k j f) holds

pub not_after : (j k : Key) → key_cmp j k ≡ Less → is_lt (key_cmp k j) ≡ false
not_after j k less = ap is_lt (greater_if_less j k less)

pub less_itself : (j k : Key) → is_lt (key_cmp j k) ≡ true → key_cmp j k ≡ Less
less_itself j k h = by (key_cmp j k) refl h
  where
    by : (o : Ordering) → key_cmp j k ≡ o → is_lt o ≡ true → key_cmp j k ≡ Less
    by Less f h = f
    by Equal f h = absurd (cc)
    by Greater f h = absurd (cc)

pub upright : (g : Region) → is_reversed g ≡ false → is_below g.start_key g.end_key ≡ true
upright g h = by (is_below g.start_key g.end_key) h
  where
    by : (b : Bool) → not b ≡ false → b ≡ true
    by true h = refl
    by false h = absurd (cc)

-- Keys in regions

-- a region that begins after a key does not contain it
pub begins_after : (g : Region) (k : Key) → key_cmp k g.start_key ≡ Less → contains_key g k ≡ false
begins_after g k less = by (key_cmp g.start_key k) (is_below k g.end_key) (greater_if_less k g.start_key less)
  where
    by : (o : Ordering) (b : Bool) → o ≡ Greater → (is_le o && b) ≡ false
    by Less b e = absurd (cc)
    by Equal b e = absurd (cc)
    by Greater b e = refl

-- nor does one that has ended at the key
pub ended_before : (g : Region) (k : Key) → is_below k g.end_key ≡ false → contains_key g k ≡ false
ended_before g k fails = by (is_le (key_cmp g.start_key k)) (is_below k g.end_key) fails
  where
    by : (a b : Bool) → b ≡ false → (a && b) ≡ false
    by true b e = e
    by false b e = refl

-- a key below the end of a region is in it, unless the region begins after the key
pub after_key : (g : Region) (k : Key) → is_below k g.end_key ≡ true → contains_key g k ≡ false → key_cmp k g.start_key ≡ Less
after_key g k holds fails = by (key_cmp g.start_key k) (is_below k g.end_key) refl holds fails
  where
    by : (o : Ordering) (b : Bool) → key_cmp g.start_key k ≡ o → b ≡ true → (is_le o && b) ≡ false → key_cmp k g.start_key ≡ Less
    by Less true f holds fails = absurd (cc)
    by Less false f holds fails = absurd (cc)
    by Equal true f holds fails = absurd (cc)
    by Equal false f holds fails = absurd (cc)
    by Greater b f holds fails = less_if_greater g.start_key k f

pub contained_below : (g : Region) (k : Key) → contains_key g k ≡ true → is_below k g.end_key ≡ true
contained_below g k holds = by (is_le (key_cmp g.start_key k)) (is_below k g.end_key) holds
  where
    by : (a b : Bool) → (a && b) ≡ true → b ≡ true
    by true b e = e
    by false b e = absurd (cc)

pub not_itself : (k : Key) → is_lt (key_cmp k k) ≡ false
not_itself k = ap is_lt (tied_itself nat_list_cmp_total k)

pub contained_if : (g : Region) (k : Key) → is_lt (key_cmp k g.start_key) ≡ false → is_below k g.end_key ≡ true → contains_key g k ≡ true
contained_if g k fails holds = by (key_cmp g.start_key k) (is_below k g.end_key) refl holds
  where
    by : (o : Ordering) (b : Bool) → key_cmp g.start_key k ≡ o → b ≡ true → (is_le o && b) ≡ true
    by Less b f e = e
    by Equal b f e = e
    by Greater b f e = absurd (let h : true ≡ false = ap is_lt (sym (less_if_greater g.start_key k f)) ∙ fails in cc)
