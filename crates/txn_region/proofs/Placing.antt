-- A region among others that are apart.
use Rattle.std.proofs.Common.{◌≡◌, ℕ, suc, ◌≤◌, ◌++◌, Bool, true, false, List, [], ◌∷◌, length, take, drop, refl, sym, ap, ◌∙◌, subst, arith}
use Rattle.std.specs.Prelude.{cond, if◌then◌else◌, not, ◌&&◌, is_none, Some, None}
use Rattle.std.specs.List.{filter, insert, remove_range}
use Rattle.std.specs.Ordering.{is_lt}
use Rattle.std.specs.declared.cmp.Ordering.TheVariants.{Less}
use Rattle.std.proofs.lemmas.List.{take_at, drop_at, length-take-le}
use Rattle.txn_kv.specs.declared.errors.Error.TheVariants.{InternalError}
use Rattle.txn_kv.specs.declared.errors.Internal.TheVariants.{NoEpoch, ReversedRegion}
use Rattle.txn_kv.specs.declared.message.Region.{Region}
use Rattle.txn_kv.specs.declared.region.RegionWithLeader.{RegionWithLeader}
use Rattle.txn_region.specs.Regions.{key_cmp, added, has_id, is_below, is_reversed, meets, region_refusal, stays, placed, in_order, leading, ended_at, begun_below, AllAfter, AreApart, HaveEpochs, HaveOwnIds, AreKept}
use Rattle.txn_region.proofs.Ids as ids
use Rattle.txn_region.proofs.Ids.{own_placed}
use Rattle.txn_region.proofs.Order.{before_end, below_before, below_unless, less_itself, not_after, upright}
use Rattle.txn_region.proofs.Apart.{apart_filter, kept_filter}

by_cases : (b : Bool) {G : Type 0} → (b ≡ true → G) → (b ≡ false → G) → G
by_cases true f g = f refl
by_cases false f g = g refl

pub leading_le : (p : RegionWithLeader → Bool) (rs : List RegionWithLeader) → leading p rs ≤ length rs
leading_le p [] = omega arith
leading_le p (r ∷ rs) = by (p r) (leading_le p rs)
  where
    by : (b : Bool) → leading p rs ≤ length rs → cond b (suc (leading p rs)) 0 ≤ suc (length rs)
    by true le = omega arith
    by false le = omega arith

-- a region before all others
pub placed_first : (x : RegionWithLeader) (ys : List RegionWithLeader) → is_below x.region.start_key x.region.end_key ≡ true → AllAfter x.region ys → placed x ys ≡ x ∷ ys
placed_first x [] up a = refl
placed_first x (y ∷ ys) up a = rw (before_end x.region.start_key y.region.start_key x.region.end_key a.0 up) refl

-- regions that are apart are in order
pub in_order_already : (rs : List RegionWithLeader) → AreApart rs → in_order rs ≡ rs
in_order_already [] a = refl
in_order_already (r ∷ rs) a = ap (placed r) (in_order_already rs a.2) ∙ placed_first r rs (upright r.region a.0) a.1

-- no other meets this one
abbrev pub NoneMeets : Region → List RegionWithLeader → Type 0
NoneMeets g [] = Unit {0}
NoneMeets g (r ∷ rs) = (meets g r.region ≡ false) × NoneMeets g rs

and_false : (a b : Bool) → a ≡ true → (a && b) ≡ false → b ≡ false
and_false true b e h = h
and_false false b e h = absurd (cc)

and_false_left : (a b : Bool) → b ≡ true → (a && b) ≡ false → a ≡ false
and_false_left true b e h = absurd (cc)
and_false_left false b e h = refl

-- what comes after a region that ends later comes after this one
after_earlier : (g h : Region) (rs : List RegionWithLeader) → is_below h.start_key h.end_key ≡ true → is_below h.start_key g.end_key ≡ false → AllAfter h rs → AllAfter g rs
after_earlier g h [] up fails a = tt
after_earlier g h (r ∷ rs) up fails a = (by (is_below r.region.start_key g.end_key) refl, after_earlier g h rs up fails a.1)
  where
    by : (b : Bool) → is_below r.region.start_key g.end_key ≡ b → b ≡ false
    by true e = sym (below_before h.start_key r.region.start_key g.end_key (before_end h.start_key r.region.start_key h.end_key a.0 up) e) ∙ fails
    by false e = refl

after_placed : (g : Region) (new : RegionWithLeader) (rs : List RegionWithLeader) → is_below new.region.start_key g.end_key ≡ false → AllAfter g rs → AllAfter g (placed new rs)
after_placed g new [] fails a = (fails, tt)
after_placed g new (r ∷ rs) fails a = by (is_lt (key_cmp new.region.start_key r.region.start_key)) (after_placed g new rs fails a.1)
  where
    by : (b : Bool) → AllAfter g (placed new rs) → AllAfter g (cond b (new ∷ r ∷ rs) (r ∷ placed new rs))
    by true rest = (fails, a)
    by false rest = (a.0, rest)

pub apart_placed : (new : RegionWithLeader) (rs : List RegionWithLeader) → is_reversed new.region ≡ false → NoneMeets new.region rs → AreApart rs → AreApart (placed new rs)
apart_placed new [] up none a = (up, tt, tt)
apart_placed new (r ∷ rs) up none a = by_cases (is_lt (key_cmp new.region.start_key r.region.start_key)) first (later (apart_placed new rs up none.1 a.2))
  where
    first : is_lt (key_cmp new.region.start_key r.region.start_key) ≡ true → AreApart (placed new (r ∷ rs))
    first less =
        let begun : is_below new.region.start_key r.region.end_key ≡ true = below_before new.region.start_key r.region.start_key r.region.end_key (less_itself new.region.start_key r.region.start_key less) (upright r.region a.0) in
        let ended : is_below r.region.start_key new.region.end_key ≡ false = and_false (is_below new.region.start_key r.region.end_key) (is_below r.region.start_key new.region.end_key) begun none.0 in
        rw less (up, (ended, after_earlier new.region r.region rs (upright r.region a.0) ended a.1), a)

    later : AreApart (placed new rs) → is_lt (key_cmp new.region.start_key r.region.start_key) ≡ false → AreApart (placed new (r ∷ rs))
    later rest fails =
        let begun : is_below r.region.start_key new.region.end_key ≡ true = below_unless r.region.start_key new.region.start_key new.region.end_key fails (upright new.region up) in
        let ended : is_below new.region.start_key r.region.end_key ≡ false = and_false_left (is_below new.region.start_key r.region.end_key) (is_below r.region.start_key new.region.end_key) begun none.0 in
        rw fails (a.0, after_placed r.region new rs ended a.1, rest)

epochs_placed : (new : RegionWithLeader) (rs : List RegionWithLeader) → is_none new.region.region_epoch ≡ false → HaveEpochs rs → HaveEpochs (placed new rs)
epochs_placed new [] e h = (e, tt)
epochs_placed new (r ∷ rs) e h = by (is_lt (key_cmp new.region.start_key r.region.start_key)) (epochs_placed new rs e h.1)
  where
    by : (b : Bool) → HaveEpochs (placed new rs) → HaveEpochs (cond b (new ∷ r ∷ rs) (r ∷ placed new rs))
    by true rest = (e, h)
    by false rest = (h.0, rest)

none_staying : (new : Region) (rs : List RegionWithLeader) → NoneMeets new (filter (stays new) rs)
none_staying new [] = tt
none_staying new (r ∷ rs) = by (has_id new.id r) (meets new r.region) refl (none_staying new rs)
  where
    by : (a b : Bool) → meets new r.region ≡ b → NoneMeets new (filter (stays new) rs) → NoneMeets new (cond (not a && not b) (r ∷ filter (stays new) rs) (filter (stays new) rs))
    by true b e rest = rest
    by false true e rest = rest
    by false false e rest = (e, rest)

-- what an addition leaves is kept
pub apart_added : (new : RegionWithLeader) (rs : List RegionWithLeader) → is_reversed new.region ≡ false → AreApart rs → AreApart (in_order (added new rs))
apart_added new rs up a =
    let others = filter (stays new.region) rs in
    let apart : AreApart others = apart_filter (stays new.region) rs a in
    subst (λ zs. AreApart (placed new zs)) (sym (in_order_already others apart)) (apart_placed new others up (none_staying new.region rs) apart)

pub kept_added : (new : RegionWithLeader) (rs : List RegionWithLeader) → is_reversed new.region ≡ false → is_none new.region.region_epoch ≡ false → AreKept rs → AreKept (in_order (added new rs))
kept_added new rs up e k =
    let others = filter (stays new.region) rs in
    let kept : AreKept others = kept_filter (stays new.region) rs k in
    record {
      apart = apart_added new rs up k.apart;
      epochs = subst (λ zs. HaveEpochs (placed new zs)) (sym (in_order_already others kept.apart)) (epochs_placed new others e kept.epochs);
      own_ids = subst (λ zs. HaveOwnIds (placed new zs)) (sym (in_order_already others kept.apart)) (own_placed new others (ids.none_staying new.region rs) kept.own_ids);
    }

-- The run that a new region meets.

abbrev unmet : Region → RegionWithLeader → Bool
unmet g r = not (meets g r.region)

all_unmet : (g h : Region) (rs : List RegionWithLeader) → is_below h.start_key h.end_key ≡ true → is_below h.start_key g.end_key ≡ false → AllAfter h rs → filter (unmet g) rs ≡ rs
all_unmet g h [] up fails a = refl
all_unmet g h (r ∷ rs) up fails a =
    let ended : is_below r.region.start_key g.end_key ≡ false = (after_earlier g h (r ∷ rs) up fails a).0 in
    rw (unmet_if_ended g r.region ended) (ap (λ zs. r ∷ zs) (all_unmet g h rs up fails a.1))
  where
    unmet_if_ended : (g h : Region) → is_below h.start_key g.end_key ≡ false → meets g h ≡ false
    unmet_if_ended g h e = by (is_below g.start_key h.end_key) (is_below h.start_key g.end_key) e
      where
        by : (a b : Bool) → b ≡ false → (a && b) ≡ false
        by true b e = e
        by false b e = refl

pub none_ended : (g h : Region) (rs : List RegionWithLeader) → AreApart rs → is_below g.start_key h.end_key ≡ true → AllAfter h rs → ended_at g.start_key rs ≡ 0
none_ended g h [] a holds after = refl
none_ended g h (r ∷ rs) a holds after =
    let before : key_cmp g.start_key r.region.start_key ≡ Less = before_end g.start_key r.region.start_key h.end_key after.0 holds in
    rw (below_before g.start_key r.region.start_key r.region.end_key before (upright r.region a.0)) refl

-- the regions that have ended, the new one, and those that begin where it has ended
abbrev run_replaced : RegionWithLeader → List RegionWithLeader → List RegionWithLeader
run_replaced new rs = take (ended_at new.region.start_key rs) rs ++ new ∷ drop (begun_below new.region.end_key rs) rs

-- a region that has ended where the new one begins, begins below its end
pub begun_if_ended : (new r : RegionWithLeader) → is_reversed new.region ≡ false → is_reversed r.region ≡ false → is_below new.region.start_key r.region.end_key ≡ false → key_cmp r.region.start_key new.region.start_key ≡ Less
begun_if_ended new r up upr fails = before_end r.region.start_key new.region.start_key r.region.end_key fails (upright r.region upr)

pub ended_le_begun : (new : RegionWithLeader) (rs : List RegionWithLeader) → is_reversed new.region ≡ false → AreApart rs → ended_at new.region.start_key rs ≤ begun_below new.region.end_key rs
ended_le_begun new [] up a = omega arith
ended_le_begun new (r ∷ rs) up a = by_cases (is_below new.region.start_key r.region.end_key)
    (λ holds. rw holds (omega arith))
    (λ fails.
    let begun : is_below r.region.start_key new.region.end_key ≡ true = below_before r.region.start_key new.region.start_key new.region.end_key (begun_if_ended new r up a.0 fails) (upright new.region up) in
    let ih = ended_le_begun new rs up a.2 in
    rw (fails, begun) (omega arith))

placed_is_run : (new : RegionWithLeader) (rs : List RegionWithLeader) → is_reversed new.region ≡ false → AreApart rs → placed new (filter (unmet new.region) rs) ≡ run_replaced new rs
placed_is_run new [] up a = refl
placed_is_run new (r ∷ rs) up a = by_cases (is_below new.region.start_key r.region.end_key)
    (λ holds. by_cases (is_below r.region.start_key new.region.end_key) (met (placed_is_run new rs up a.2) holds) (beyond holds))
    (ended (placed_is_run new rs up a.2))
  where
    ended : placed new (filter (unmet new.region) rs) ≡ run_replaced new rs → is_below new.region.start_key r.region.end_key ≡ false → placed new (filter (unmet new.region) (r ∷ rs)) ≡ run_replaced new (r ∷ rs)
    ended rest fails =
        let before : key_cmp r.region.start_key new.region.start_key ≡ Less = begun_if_ended new r up a.0 fails in
        let begun : is_below r.region.start_key new.region.end_key ≡ true = below_before r.region.start_key new.region.start_key new.region.end_key before (upright new.region up) in
        rw (fails, begun, not_after r.region.start_key new.region.start_key before) (ap (λ zs. r ∷ zs) rest)

    met : placed new (filter (unmet new.region) rs) ≡ run_replaced new rs → is_below new.region.start_key r.region.end_key ≡ true → is_below r.region.start_key new.region.end_key ≡ true → placed new (filter (unmet new.region) (r ∷ rs)) ≡ run_replaced new (r ∷ rs)
    met rest holds begun =
        let none : ended_at new.region.start_key rs ≡ 0 = none_ended new.region r.region rs a.2 holds a.1 in
        rw (holds, begun) (rest ∙ ap (λ n. take n rs ++ new ∷ drop (begun_below new.region.end_key rs) rs) none)

    beyond : is_below new.region.start_key r.region.end_key ≡ true → is_below r.region.start_key new.region.end_key ≡ false → placed new (filter (unmet new.region) (r ∷ rs)) ≡ run_replaced new (r ∷ rs)
    beyond holds fails =
        let before : key_cmp new.region.start_key r.region.start_key ≡ Less = before_end new.region.start_key r.region.start_key new.region.end_key fails (upright new.region up) in
        rw (holds, fails, before) (ap (λ zs. new ∷ r ∷ zs) (all_unmet new.region r.region rs (upright r.region a.0) fails a.1))

filter_both : (p q : RegionWithLeader → Bool) (rs : List RegionWithLeader) → filter (λ x. p x && q x) rs ≡ filter q (filter p rs)
filter_both p q [] = refl
filter_both p q (r ∷ rs) = by (p r) (filter_both p q rs)
  where
    by : (a : Bool) → filter (λ x. p x && q x) rs ≡ filter q (filter p rs) → cond (a && q r) (r ∷ filter (λ x. p x && q x) rs) (filter (λ x. p x && q x) rs) ≡ filter q (cond a (r ∷ filter p rs) (filter p rs))
    by true rest = ap (λ zs. cond (q r) (r ∷ zs) zs) rest
    by false rest = rest

-- the region of its id goes first, and then the run that it meets is replaced
pub added_by_run : (new : RegionWithLeader) (old rs : List RegionWithLeader) → is_reversed new.region ≡ false → AreApart old → rs ≡ filter (λ r. not (has_id new.region.id r)) old → in_order (added new old) ≡ run_replaced new rs
added_by_run new old rs up a is =
    let others = filter (λ r. not (has_id new.region.id r)) old in
    ap (placed new) (in_order_already (filter (stays new.region) old) (apart_filter (stays new.region) old a))
    ∙ (ap (placed new) (filter_both (λ r. not (has_id new.region.id r)) (unmet new.region) old)
    ∙ (placed_is_run new others up (apart_filter (λ r. not (has_id new.region.id r)) old a)
    ∙ ap (run_replaced new) (sym is)))

pub inserted_in_range : (rs : List RegionWithLeader) (from to : ℕ) (new : RegionWithLeader) → from ≤ length rs → insert (remove_range rs from to) from new ≡ take from rs ++ new ∷ drop to rs
inserted_in_range rs from to new le =
    let long : length (take from rs) ≡ from = length-take-le from rs le in
    ap (λ zs. zs ++ new ∷ drop from (take from rs ++ drop to rs)) (take_at (take from rs) (drop to rs) from long)
    ∙ ap (λ zs. take from rs ++ new ∷ zs) (drop_at (take from rs) (drop to rs) from long)

-- A region that is not refused.

pub upright_if_taken : (g : Region) → region_refusal g ≡ None → is_reversed g ≡ false
upright_if_taken g h = by (is_reversed g) (is_none g.region_epoch) h
  where
    by : (a b : Bool) → (if a then Some (InternalError (ReversedRegion g.id)) else (if b then Some (InternalError (NoEpoch g.id)) else None)) ≡ None → a ≡ false
    by true b e = absurd (cc)
    by false b e = refl

epoch_if_taken : (g : Region) → region_refusal g ≡ None → is_none g.region_epoch ≡ false
epoch_if_taken g h = by (is_reversed g) (is_none g.region_epoch) h
  where
    by : (a b : Bool) → (if a then Some (InternalError (ReversedRegion g.id)) else (if b then Some (InternalError (NoEpoch g.id)) else None)) ≡ None → b ≡ false
    by true b e = absurd (cc)
    by false true e = absurd (cc)
    by false false e = refl

pub kept_if_taken : (new : RegionWithLeader) (rs : List RegionWithLeader) → region_refusal new.region ≡ None → AreKept rs → AreKept (in_order (added new rs))
kept_if_taken new rs h k = kept_added new rs (upright_if_taken new.region h) (epoch_if_taken new.region h) k

-- the regions of other ids that the new one does not meet, in order already
pub added_is_placed : (new : RegionWithLeader) (old : List RegionWithLeader) → AreApart old → in_order (added new old) ≡ placed new (filter (λ r. not (meets new.region r.region)) (filter (λ r. not (has_id new.region.id r)) old))
added_is_placed new old a =
    ap (placed new) (in_order_already (filter (stays new.region) old) (apart_filter (stays new.region) old a)
    ∙ filter_both (λ r. not (has_id new.region.id r)) (unmet new.region) old)
