-- Where a key is among regions that are apart.
use Rattle.std.proofs.Common.{inl, inr, ◌≡◌, ℕ, suc, zero, ◌<◌, ◌≤◌, Bool, true, false, List, [], ◌∷◌, length, get_or, drop, ◌+◌, refl, sym, ap, ◌∙◌, arith}
use Rattle.std.specs.Prelude.{cond, not, Option, Some, None}
use Rattle.std.specs.List.Sorted.{IsPartitionedBy, IsPartitionPoint}
use Rattle.std.specs.declared.cmp.Ordering.TheVariants.{Less}
use Rattle.std.proofs.lemmas.Bool.{cases_order}
use Rattle.std.proofs.lemmas.List.{drop_more, drop_all}
use Rattle.txn_kv.specs.Region.{contains_key}
use Rattle.txn_kv.specs.declared.message.Region.{Region}
use Rattle.txn_kv.specs.declared.region.RegionWithLeader.{RegionWithLeader}
use Rattle.txn_region.specs.Regions.{Key, key_cmp, is_below, AllAfter, AreApart, leading, ended_at, region_of_key}
use Rattle.txn_region.proofs.Order.{after_key, before_end, begins_after, below_before, ended_before, less_trans, upright}
use Rattle.txn_region.proofs.Apart.{later_after, upright_at}

-- a partition point is how many pass from the first on
pub point_is_leading : (p : RegionWithLeader → Bool) (rs : List RegionWithLeader) (n : ℕ) → n ≤ length rs → IsPartitionPoint (λ r. p r ≡ true) (λ r. p r ≡ false) rs n → n ≡ leading p rs
point_is_leading p [] n l parts = omega arith
point_is_leading p (r ∷ rs) zero l parts = rw (parts.1 0 r (omega arith) (omega arith)) refl
point_is_leading p (r ∷ rs) (suc n) l parts =
    rw (parts.0 0 r (omega arith) (omega arith)) (ap suc (point_is_leading p rs n (omega arith) ((λ k d low high. parts.0 (suc k) d (omega arith) (omega arith)), (λ k d low high. parts.1 (suc k) d (omega arith) (omega arith)))))

not_true : (b : Bool) → b ≡ true → not b ≡ true → (false ≡ true)
not_true true h g = g
not_true false h g = h

not_false : (b : Bool) → not b ≡ true → b ≡ false
not_false true h = sym h
not_false false h = refl

false_not : (b : Bool) → b ≡ false → not b ≡ true
false_not true h = sym h
false_not false h = refl

by_cases : (b : Bool) {G : Type 0} → (b ≡ true → G) → (b ≡ false → G) → G
by_cases true f g = f refl
by_cases false f g = g refl

-- no region that has ended at a key comes after one that has not
pub ended_in_turn : (key : Key) (rs : List RegionWithLeader) → AreApart rs → IsPartitionedBy (λ r. not (is_below key r.region.end_key)) rs
ended_in_turn key rs a i j d le l ended =
    elim (cases_order i j) [
      | inl same ↦ rw same ended
      | inr (inl less) ↦
          let early = get_or rs i d in
          let late = get_or rs j d in
          let before : key_cmp late.region.start_key key ≡ Less = before_end late.region.start_key key late.region.end_key (not_false _ ended) (upright_at rs j d a l) in
          by_cases (is_below key early.region.end_key)
          (λ holds. absurd (let h : false ≡ true = sym (later_after rs i j d a less l) ∙ below_before late.region.start_key key early.region.end_key before holds in cc))
          (λ fails. false_not _ fails)
      | inr (inr more) ↦ absurd (omega arith)
    ]

-- one that has ended is among those that have, and one that has not comes after them
pub among_ended : (key : Key) (rs : List RegionWithLeader) (i : ℕ) (d : RegionWithLeader) → AreApart rs → i < length rs → is_below key (get_or rs i d).region.end_key ≡ false → i < ended_at key rs
among_ended key [] i d a l fails = absurd (omega arith)
among_ended key (r ∷ rs) zero d a l fails = rw fails (omega arith)
among_ended key (r ∷ rs) (suc i) d a l fails =
    let first : is_below key r.region.end_key ≡ false = not_false _ (ended_in_turn key (r ∷ rs) a 0 (suc i) d (omega arith) l (false_not _ fails)) in
    let later : i < ended_at key rs = among_ended key rs i d a.2 (omega arith) fails in
    rw first (omega arith)

pub after_ended : (key : Key) (rs : List RegionWithLeader) (i : ℕ) (d : RegionWithLeader) → i < length rs → is_below key (get_or rs i d).region.end_key ≡ true → ended_at key rs ≤ i
after_ended key [] i d l holds = absurd (omega arith)
after_ended key (r ∷ rs) zero d l holds = rw holds (omega arith)
after_ended key (r ∷ rs) (suc i) d l holds = by (is_below key r.region.end_key) (after_ended key rs i d (omega arith) holds)
  where
    by : (b : Bool) → ended_at key rs ≤ i → cond (not b) (suc (ended_at key rs)) 0 ≤ suc i
    by true le = omega arith
    by false le = omega arith

-- no region that begins below an end comes after one that does not
pub begun_in_turn : (end : Key) (rs : List RegionWithLeader) → AreApart rs → IsPartitionedBy (λ r. is_below r.region.start_key end) rs
begun_in_turn end rs a i j d le l begun =
    elim (cases_order i j) [
      | inl same ↦ rw same begun
      | inr (inl less) ↦
          let early = get_or rs i d in
          let late = get_or rs j d in
          below_before early.region.start_key late.region.start_key end (before_end early.region.start_key late.region.start_key early.region.end_key (later_after rs i j d a less l) (upright_at rs i d a (omega arith))) begun
      | inr (inr more) ↦ absurd (omega arith)
    ]

-- the first region, where it contains the key
abbrev head_if : Key → List RegionWithLeader → Option RegionWithLeader
head_if key [] = None
head_if key (r ∷ rs) = cond (contains_key r.region key) (Some r) None

none_after : (g : Region) (rs : List RegionWithLeader) (key : Key) → is_below g.start_key g.end_key ≡ true → AllAfter g rs → key_cmp key g.start_key ≡ Less → region_of_key key rs ≡ None
none_after g [] key up a less = refl
none_after g (r ∷ rs) key up a less =
    let later : key_cmp g.start_key r.region.start_key ≡ Less = before_end g.start_key r.region.start_key g.end_key a.0 up in
    rw (begins_after r.region key (less_trans key g.start_key r.region.start_key less later)) (none_after g rs key up a.1 less)

-- only the first region that has not ended at the key can contain it
found_there : (key : Key) (rs : List RegionWithLeader) → AreApart rs → region_of_key key rs ≡ head_if key (drop (ended_at key rs) rs)
found_there key [] a = refl
found_there key (r ∷ rs) a = by_cases (is_below key r.region.end_key) here (later (found_there key rs a.2))
  where
    here : is_below key r.region.end_key ≡ true → region_of_key key (r ∷ rs) ≡ head_if key (drop (ended_at key (r ∷ rs)) (r ∷ rs))
    here holds =
        let none : ended_at key (r ∷ rs) ≡ 0 = rw holds refl in
        let first : region_of_key key (r ∷ rs) ≡ head_if key (r ∷ rs) = by_cases (contains_key r.region key)
        (λ has. ap (λ b. cond b (Some r) (region_of_key key rs)) has ∙ sym (ap (λ b. cond b (Some r) None) has))
        (λ not_there. ap (λ b. cond b (Some r) (region_of_key key rs)) not_there ∙ (none_after r.region rs key (upright r.region a.0) a.1 (after_key r.region key holds not_there) ∙ sym (ap (λ b. cond b (Some r) None) not_there))) in
        first ∙ sym (ap (λ n. head_if key (drop n (r ∷ rs))) none)

    later : region_of_key key rs ≡ head_if key (drop (ended_at key rs) rs) → is_below key r.region.end_key ≡ false → region_of_key key (r ∷ rs) ≡ head_if key (drop (ended_at key (r ∷ rs)) (r ∷ rs))
    later rest fails =
        let more : ended_at key (r ∷ rs) ≡ suc (ended_at key rs) = rw fails refl in
        ap (λ b. cond b (Some r) (region_of_key key rs)) (ended_before r.region key fails) ∙ (rest ∙ sym (ap (λ n. head_if key (drop n (r ∷ rs))) more))

pub found_none : (key : Key) (rs : List RegionWithLeader) → AreApart rs → length rs ≤ ended_at key rs → region_of_key key rs ≡ None
found_none key rs a le = found_there key rs a ∙ ap (head_if key) (drop_all (ended_at key rs) rs le)

found_head : (key : Key) (rs : List RegionWithLeader) (at : ℕ) (r : RegionWithLeader) → AreApart rs → at ≡ ended_at key rs → at < length rs → r ≡ get_or rs at r → region_of_key key rs ≡ cond (contains_key r.region key) (Some r) None
found_head key rs at r a is l read =
    let rest : drop at rs ≡ r ∷ drop (at + 1) rs = drop_more rs at r l ∙ ap (λ x. x ∷ drop (at + 1) rs) (sym read) in
    found_there key rs a ∙ (ap (λ n. head_if key (drop n rs)) (sym is) ∙ ap (head_if key) rest)

pub found_some : (key : Key) (rs : List RegionWithLeader) (at : ℕ) (r : RegionWithLeader) → AreApart rs → at ≡ ended_at key rs → at < length rs → r ≡ get_or rs at r → contains_key r.region key ≡ true → region_of_key key rs ≡ Some r
found_some key rs at r a is l read has = found_head key rs at r a is l read ∙ ap (λ b. cond b (Some r) None) has

pub found_not : (key : Key) (rs : List RegionWithLeader) (at : ℕ) (r : RegionWithLeader) → AreApart rs → at ≡ ended_at key rs → at < length rs → r ≡ get_or rs at r → contains_key r.region key ≡ false → region_of_key key rs ≡ None
found_not key rs at r a is l read has = found_head key rs at r a is l read ∙ ap (λ b. cond b (Some r) None) has
