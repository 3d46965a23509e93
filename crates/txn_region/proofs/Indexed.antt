-- Where the region of an id is, by its start.
use Rattle.std.proofs.Common.{◌≡◌, ℕ, suc, ◌-◌, ◌<◌, Bool, true, false, List, [], ◌∷◌, length, get_or, take, drop, refl, sym, ap, ◌∙◌, subst, arith}
use Rattle.std.specs.Prelude.{cond, not, ◌&&◌, Option, Some, None, IfSome, IfNone, slice_range}
use Rattle.std.specs.List.{filter, find, remove}
use Rattle.std.specs.Option.{option_map}
use Rattle.txn_kv.specs.declared.message.Region.{Region}
use Rattle.txn_kv.specs.declared.region.RegionWithLeader.{RegionWithLeader}
use Rattle.txn_region.specs.Regions.{Key, has_id, is_below, is_reversed, meets, begun_below, ended_at, region_of_id, AllAfter, AreApart, HaveOwnIds, IsPlaceOf, without_place}
use Rattle.txn_region.specs.Starts.{start_of}
use Rattle.txn_region.proofs.Order.{before_end, below_before, upright}
use Rattle.txn_region.proofs.Ids.{all_other, none_if_not_found, removed_place}
use Rattle.txn_region.proofs.Placing.{begun_if_ended, none_ended}

by_cases : (b : Bool) {G : Type 0} → (b ≡ true → G) → (b ≡ false → G) → G
by_cases true f g = f refl
by_cases false f g = g refl

found_after : (p : RegionWithLeader → Bool) (g : Region) (rs : List RegionWithLeader) (x : RegionWithLeader) → AllAfter g rs → find p rs ≡ Some x → is_below x.region.start_key g.end_key ≡ false
found_after p g [] x a h = absurd (cc)
found_after p g (r ∷ rs) x a h = by (p r) h (found_after p g rs x a.1)
  where
    by : (b : Bool) → cond b (Some r) (find p rs) ≡ Some x → (find p rs ≡ Some x → is_below x.region.start_key g.end_key ≡ false) → is_below x.region.start_key g.end_key ≡ false
    by true h later = let same : r ≡ x = grind arith in subst (λ (q : RegionWithLeader). is_below q.region.start_key g.end_key ≡ false) same a.0
    by false h later = later h

place_found : (id : ℕ) (rs : List RegionWithLeader) (x : RegionWithLeader) → AreApart rs → find (has_id id) rs ≡ Some x → IsPlaceOf id rs (ended_at x.region.start_key rs)
place_found id [] x a h = absurd (cc)
place_found id (r ∷ rs) x a h = by_cases (has_id id r) here (later (place_found id rs x a.2))
  where
    here : has_id id r ≡ true → IsPlaceOf id (r ∷ rs) (ended_at x.region.start_key (r ∷ rs))
    here e =
        let found : Some r ≡ Some x = sym (ap (λ b. cond b (Some r) (find (has_id id) rs)) e) ∙ h in
        let same : r ≡ x = grind arith in
        let none : ended_at r.region.start_key (r ∷ rs) ≡ 0 = rw (upright r.region a.0) refl in
        subst (λ (q : RegionWithLeader). IsPlaceOf id (r ∷ rs) (ended_at q.region.start_key (r ∷ rs))) same
        (subst (IsPlaceOf id (r ∷ rs)) (sym none) (record { in_range = omega arith; has = λ d. e }))

    later : (find (has_id id) rs ≡ Some x → IsPlaceOf id rs (ended_at x.region.start_key rs)) → has_id id r ≡ false → IsPlaceOf id (r ∷ rs) (ended_at x.region.start_key (r ∷ rs))
    later rest e =
        let found : find (has_id id) rs ≡ Some x = sym (ap (λ b. cond b (Some r) (find (has_id id) rs)) e) ∙ h in
        let more : ended_at x.region.start_key (r ∷ rs) ≡ suc (ended_at x.region.start_key rs) = rw (found_after (has_id id) r.region rs x a.1 found) refl in
        let place = rest found in
        let l = place.in_range in
        subst (IsPlaceOf id (r ∷ rs)) (sym more) (record { in_range = omega arith; has = λ d. place.has d })

-- the place of the region of an id whose start is known
pub place_of_start : (id : ℕ) (start : Key) (rs : List RegionWithLeader) → AreApart rs → Some start ≡ option_map start_of (region_of_id id rs) → IsPlaceOf id rs (ended_at start rs)
place_of_start id start rs a h = by (region_of_id id rs) refl h
  where
    by : (found : Option RegionWithLeader) → region_of_id id rs ≡ found → Some start ≡ option_map start_of found → IsPlaceOf id rs (ended_at start rs)
    by None e h = absurd (cc)
    by (Some x) e h = let same : x.region.start_key ≡ start = grind arith in subst (λ s. IsPlaceOf id rs (ended_at s rs)) same (place_found id rs x a e)

pub none_without_start : (id : ℕ) (rs : List RegionWithLeader) → None ≡ option_map start_of (region_of_id id rs) → region_of_id id rs ≡ None
none_without_start id rs h = by (region_of_id id rs) h
  where
    by : (found : Option RegionWithLeader) → None ≡ option_map start_of found → found ≡ None
    by None h = refl
    by (Some x) h = absurd (cc)

-- The run that a new region meets.

none_met : (g h : Region) (rs : List RegionWithLeader) → is_below h.start_key h.end_key ≡ true → is_below h.start_key g.end_key ≡ false → AllAfter h rs → filter (λ r. meets g r.region) rs ≡ []
none_met g h [] up fails a = refl
none_met g h (r ∷ rs) up fails a = by_cases (is_below r.region.start_key g.end_key)
    (λ e. absurd (let clash : true ≡ false = sym (below_before h.start_key r.region.start_key g.end_key (before_end h.start_key r.region.start_key h.end_key a.0 up) e) ∙ fails in cc))
    (λ e. ap (λ b. cond b (r ∷ filter (λ x. meets g x.region) rs) (filter (λ x. meets g x.region) rs)) (and_right (is_below g.start_key r.region.end_key) (is_below r.region.start_key g.end_key) e) ∙ none_met g h rs up fails a.1)
  where
    and_right : (a b : Bool) → b ≡ false → (a && b) ≡ false
    and_right true b e = e
    and_right false b e = refl

pub run_is_met : (new : RegionWithLeader) (rs : List RegionWithLeader) → is_reversed new.region ≡ false → AreApart rs → slice_range rs (ended_at new.region.start_key rs) (begun_below new.region.end_key rs) ≡ filter (λ r. meets new.region r.region) rs
run_is_met new [] up a = refl
run_is_met new (r ∷ rs) up a = by_cases (is_below new.region.start_key r.region.end_key)
    (λ holds. by_cases (is_below r.region.start_key new.region.end_key) (inside (run_is_met new rs up a.2) holds) (beyond holds))
    (ended (run_is_met new rs up a.2))
  where
    ended : slice_range rs (ended_at new.region.start_key rs) (begun_below new.region.end_key rs) ≡ filter (λ x. meets new.region x.region) rs → is_below new.region.start_key r.region.end_key ≡ false → slice_range (r ∷ rs) (ended_at new.region.start_key (r ∷ rs)) (begun_below new.region.end_key (r ∷ rs)) ≡ filter (λ x. meets new.region x.region) (r ∷ rs)
    ended rest fails =
        let begun : is_below r.region.start_key new.region.end_key ≡ true = below_before r.region.start_key new.region.start_key new.region.end_key (begun_if_ended new r up a.0 fails) (upright new.region up) in
        let less : (suc (begun_below new.region.end_key rs)) - (suc (ended_at new.region.start_key rs)) ≡ begun_below new.region.end_key rs - ended_at new.region.start_key rs = omega arith in
        rw (fails, begun) (ap (λ n. take n (drop (ended_at new.region.start_key rs) rs)) less ∙ rest)

    inside : slice_range rs (ended_at new.region.start_key rs) (begun_below new.region.end_key rs) ≡ filter (λ x. meets new.region x.region) rs → is_below new.region.start_key r.region.end_key ≡ true → is_below r.region.start_key new.region.end_key ≡ true → slice_range (r ∷ rs) (ended_at new.region.start_key (r ∷ rs)) (begun_below new.region.end_key (r ∷ rs)) ≡ filter (λ x. meets new.region x.region) (r ∷ rs)
    inside rest holds begun =
        let none : ended_at new.region.start_key rs ≡ 0 = none_ended new.region r.region rs a.2 holds a.1 in
        let all : suc (begun_below new.region.end_key rs) - 0 ≡ suc (begun_below new.region.end_key rs) = omega arith in
        let fewer : begun_below new.region.end_key rs ≡ begun_below new.region.end_key rs - 0 = omega arith in
        rw (holds, begun) (ap (λ n. take n (r ∷ rs)) all ∙ ap (λ zs. r ∷ zs) (ap (λ n. take n rs) fewer ∙ (sym (ap (λ n. take (begun_below new.region.end_key rs - n) (drop n rs)) none) ∙ rest)))

    beyond : is_below new.region.start_key r.region.end_key ≡ true → is_below r.region.start_key new.region.end_key ≡ false → slice_range (r ∷ rs) (ended_at new.region.start_key (r ∷ rs)) (begun_below new.region.end_key (r ∷ rs)) ≡ filter (λ x. meets new.region x.region) (r ∷ rs)
    beyond holds fails = rw (holds, fails) (sym (none_met new.region r.region rs (upright r.region a.0) fails a.1))

-- the region at the place of an id taken out
pub without_its_place : (place : Option ℕ) (id : ℕ) (rs : List RegionWithLeader) → HaveOwnIds rs → IfSome place (IsPlaceOf id rs) → IfNone place (region_of_id id rs ≡ None) → without_place place rs ≡ filter (λ r. not (has_id id r)) rs
without_its_place None id rs o found none = sym (all_other id rs (none_if_not_found id rs none))
without_its_place (Some at) id rs o found none = by rs o found.in_range found.has
  where
    by : (rs : List RegionWithLeader) → HaveOwnIds rs → at < length rs → ((d : RegionWithLeader) → has_id id (get_or rs at d) ≡ true) → remove rs at ≡ filter (λ r. not (has_id id r)) rs
    by [] o l h = absurd (omega arith)
    by (r ∷ rs) o l h = removed_place id (r ∷ rs) at r o l (h r)
