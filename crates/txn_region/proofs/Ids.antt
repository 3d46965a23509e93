-- Regions of which no two have the same id.
use Rattle.std.proofs.Common.{◌≡◌, ℕ, suc, zero, ◌<◌, Bool, true, false, List, [], ◌∷◌, length, get_or, set, refl, sym, ap, ◌∙◌, subst, arith}
use Rattle.std.specs.Prelude.{cond, if◌then◌else◌, not, ◌&&◌, map, nat_eq, Some, None}
use Rattle.std.specs.List.{filter, find, list_any, remove}
use Rattle.std.specs.Option.{option_map}
use Rattle.std.specs.Ordering.{is_lt}
use Rattle.std.proofs.lemmas.Bool.Decides.{nat_tests}
use Rattle.txn_kv.specs.declared.message.Peer.{Peer}
use Rattle.txn_kv.specs.declared.message.Region.{Region}
use Rattle.txn_kv.specs.declared.region.RegionVerId.{RegionVerId}
use Rattle.txn_kv.specs.declared.region.RegionWithLeader.{RegionWithLeader}
use Rattle.txn_region.specs.Regions.{key_cmp, has_id, has_ver_id, led_if, placed, same_epoch, stays, meets, NoneHasId, HaveOwnIds}
use Rattle.txn_region.specs.Starts.{start_of}

by_cases : (b : Bool) {G : Type 0} → (b ≡ true → G) → (b ≡ false → G) → G
by_cases true f g = f refl
by_cases false f g = g refl

clash : (b : Bool) {G : Type 0} → b ≡ true → b ≡ false → G
clash b yes_it not_it = absurd (let h : true ≡ false = sym yes_it ∙ not_it in cc)

pub same_number : (a b : ℕ) → nat_eq a b ≡ true → a ≡ b
same_number a b h = grind (arith, nat_tests)

number_itself : (a : ℕ) → nat_eq a a ≡ true
number_itself a = grind (arith, nat_tests)

differ_back : (a b : ℕ) → nat_eq a b ≡ false → nat_eq b a ≡ false
differ_back a b h = by_cases (nat_eq b a) (λ e. clash (nat_eq a b) (subst (λ c. nat_eq a c ≡ true) (sym (same_number b a e)) (number_itself a)) h) (λ e. e)

-- two of one id
of_one : (q : ℕ) (x y : RegionWithLeader) → has_id q x ≡ true → has_id q y ≡ true → has_id y.region.id x ≡ true
of_one q x y h g = subst (λ n. has_id n x ≡ true) (sym (same_number y.region.id q g)) h

none_filter : (p : RegionWithLeader → Bool) (id : ℕ) (rs : List RegionWithLeader) → NoneHasId id rs → NoneHasId id (filter p rs)
none_filter p id [] n = tt
none_filter p id (r ∷ rs) n = by (p r) (none_filter p id rs n.1)
  where
    by : (b : Bool) → NoneHasId id (filter p rs) → NoneHasId id (cond b (r ∷ filter p rs) (filter p rs))
    by true rest = (n.0, rest)
    by false rest = rest

pub own_filter : (p : RegionWithLeader → Bool) (rs : List RegionWithLeader) → HaveOwnIds rs → HaveOwnIds (filter p rs)
own_filter p [] o = tt
own_filter p (r ∷ rs) o = by (p r) (own_filter p rs o.1) (none_filter p r.region.id rs o.0)
  where
    by : (b : Bool) → HaveOwnIds (filter p rs) → NoneHasId r.region.id (filter p rs) → HaveOwnIds (cond b (r ∷ filter p rs) (filter p rs))
    by true rest none = (none, rest)
    by false rest none = rest

none_placed : (id : ℕ) (new : RegionWithLeader) (rs : List RegionWithLeader) → has_id id new ≡ false → NoneHasId id rs → NoneHasId id (placed new rs)
none_placed id new [] h n = (h, tt)
none_placed id new (r ∷ rs) h n = by (is_lt (key_cmp new.region.start_key r.region.start_key)) (none_placed id new rs h n.1)
  where
    by : (b : Bool) → NoneHasId id (placed new rs) → NoneHasId id (cond b (new ∷ r ∷ rs) (r ∷ placed new rs))
    by true rest = (h, n)
    by false rest = (n.0, rest)

pub own_placed : (new : RegionWithLeader) (rs : List RegionWithLeader) → NoneHasId new.region.id rs → HaveOwnIds rs → HaveOwnIds (placed new rs)
own_placed new [] n o = (tt, tt)
own_placed new (r ∷ rs) n o = by (is_lt (key_cmp new.region.start_key r.region.start_key)) (own_placed new rs n.1 o.1)
  where
    by : (b : Bool) → HaveOwnIds (placed new rs) → HaveOwnIds (cond b (new ∷ r ∷ rs) (r ∷ placed new rs))
    by true rest = (n, o)
    by false rest = (none_placed r.region.id new rs (differ_back r.region.id new.region.id n.0) o.0, rest)

pub none_staying : (new : Region) (rs : List RegionWithLeader) → NoneHasId new.id (filter (stays new) rs)
none_staying new [] = tt
none_staying new (r ∷ rs) = by (has_id new.id r) (meets new r.region) refl (none_staying new rs)
  where
    by : (a b : Bool) → has_id new.id r ≡ a → NoneHasId new.id (filter (stays new) rs) → NoneHasId new.id (cond (not a && not b) (r ∷ filter (stays new) rs) (filter (stays new) rs))
    by true b e rest = rest
    by false true e rest = rest
    by false false e rest = (e, rest)

pub none_other : (id : ℕ) (rs : List RegionWithLeader) → NoneHasId id (filter (λ r. not (has_id id r)) rs)
none_other id [] = tt
none_other id (r ∷ rs) = by (has_id id r) refl (none_other id rs)
  where
    by : (a : Bool) → has_id id r ≡ a → NoneHasId id (filter (λ x. not (has_id id x)) rs) → NoneHasId id (cond (not a) (r ∷ filter (λ x. not (has_id id x)) rs) (filter (λ x. not (has_id id x)) rs))
    by true e rest = rest
    by false e rest = (e, rest)

module _ (v : RegionVerId) (leader : Peer) where
  led_id : (q : ℕ) (r : RegionWithLeader) → has_id q (led_if v leader r) ≡ has_id q r
  led_id q r = by (has_ver_id v r)
    where
      by : (b : Bool) → has_id q (if b then record r { leader = Some leader } else r) ≡ has_id q r
      by true = refl
      by false = refl

  led_own_id : (r : RegionWithLeader) → (led_if v leader r).region ≡ r.region
  led_own_id r = by (has_ver_id v r)
    where
      by : (b : Bool) → (if b then record r { leader = Some leader } else r).region ≡ r.region
      by true = refl
      by false = refl

  none_led : (id : ℕ) (rs : List RegionWithLeader) → NoneHasId id rs → NoneHasId id (map (led_if v leader) rs)
  none_led id [] n = tt
  none_led id (r ∷ rs) n = (led_id id r ∙ n.0, none_led id rs n.1)

  pub own_led : (rs : List RegionWithLeader) → HaveOwnIds rs → HaveOwnIds (map (led_if v leader) rs)
  own_led [] o = tt
  own_led (r ∷ rs) o = (subst (λ (g : Region). NoneHasId g.id (map (led_if v leader) rs)) (sym (led_own_id r)) (none_led r.region.id rs o.0), own_led rs o.1)

  pub led_start : (q : ℕ) (rs : List RegionWithLeader) → option_map start_of (find (has_id q) (map (led_if v leader) rs)) ≡ option_map start_of (find (has_id q) rs)
  led_start q [] = refl
  led_start q (r ∷ rs) =
      ap (λ b. option_map start_of (cond b (Some (led_if v leader r)) (find (has_id q) (map (led_if v leader) rs)))) (led_id q r)
      ∙ by (has_id q r) (led_start q rs)
    where
      by : (b : Bool) → option_map start_of (find (has_id q) (map (led_if v leader) rs)) ≡ option_map start_of (find (has_id q) rs) → option_map start_of (cond b (Some (led_if v leader r)) (find (has_id q) (map (led_if v leader) rs))) ≡ option_map start_of (cond b (Some r) (find (has_id q) rs))
      by true rest = ap (λ (g : Region). Some g.start_key) (led_own_id r)
      by false rest = rest

-- Where none has an id.

find_none : (id : ℕ) (rs : List RegionWithLeader) → NoneHasId id rs → find (has_id id) rs ≡ None
find_none id [] n = refl
find_none id (r ∷ rs) n = ap (λ b. cond b (Some r) (find (has_id id) rs)) n.0 ∙ find_none id rs n.1

pub none_if_not_found : (id : ℕ) (rs : List RegionWithLeader) → find (has_id id) rs ≡ None → NoneHasId id rs
none_if_not_found id [] h = tt
none_if_not_found id (r ∷ rs) h = by (has_id id r) refl h (none_if_not_found id rs)
  where
    by : (b : Bool) → has_id id r ≡ b → cond b (Some r) (find (has_id id) rs) ≡ None → (find (has_id id) rs ≡ None → NoneHasId id rs) → NoneHasId id (r ∷ rs)
    by true e h rest = absurd (cc)
    by false e h rest = (e, rest h)

any_none : (id : ℕ) (rs : List RegionWithLeader) → NoneHasId id rs → list_any (has_id id) rs ≡ false
any_none id [] n = refl
any_none id (r ∷ rs) n = rw (n.0, any_none id rs n.1) refl

pub all_other : (id : ℕ) (rs : List RegionWithLeader) → NoneHasId id rs → filter (λ r. not (has_id id r)) rs ≡ rs
all_other id [] n = refl
all_other id (r ∷ rs) n = ap (λ b. cond (not b) (r ∷ filter (λ x. not (has_id id x)) rs) (filter (λ x. not (has_id id x)) rs)) n.0 ∙ ap (λ zs. r ∷ zs) (all_other id rs n.1)

not_that : (v : RegionVerId) (r : RegionWithLeader) → has_id v.id r ≡ false → has_ver_id v r ≡ false
not_that v r h = ap (λ b. b && same_epoch v.conf_ver v.ver r.region.region_epoch) h

pub all_other_versions : (v : RegionVerId) (rs : List RegionWithLeader) → NoneHasId v.id rs → filter (λ r. not (has_ver_id v r)) rs ≡ rs
all_other_versions v [] n = refl
all_other_versions v (r ∷ rs) n = ap (λ b. cond (not b) (r ∷ filter (λ x. not (has_ver_id v x)) rs) (filter (λ x. not (has_ver_id v x)) rs)) (not_that v r n.0) ∙ ap (λ zs. r ∷ zs) (all_other_versions v rs n.1)

unled : (v : RegionVerId) (leader : Peer) (r : RegionWithLeader) → has_id v.id r ≡ false → led_if v leader r ≡ r
unled v leader r h = ap (λ b. if b then record r { leader = Some leader } else r) (not_that v r h)

pub none_led_here : (v : RegionVerId) (leader : Peer) (rs : List RegionWithLeader) → NoneHasId v.id rs → map (led_if v leader) rs ≡ rs
none_led_here v leader [] n = refl
none_led_here v leader (r ∷ rs) n = ap (λ x. x ∷ map (led_if v leader) rs) (unled v leader r n.0) ∙ ap (λ zs. r ∷ zs) (none_led_here v leader rs n.1)

-- The region of an id at a place.

none_at : (id : ℕ) (rs : List RegionWithLeader) (at : ℕ) (d : RegionWithLeader) → NoneHasId id rs → at < length rs → has_id id (get_or rs at d) ≡ false
none_at id [] at d n l = absurd (omega arith)
none_at id (r ∷ rs) zero d n l = n.0
none_at id (r ∷ rs) (suc at) d n l = none_at id rs at d n.1 (omega arith)

-- none before it has its id
other_before : (id : ℕ) (r : RegionWithLeader) (rs : List RegionWithLeader) (at : ℕ) (d : RegionWithLeader) → NoneHasId r.region.id rs → at < length rs → has_id id (get_or rs at d) ≡ true → has_id id r ≡ false
other_before id r rs at d n l h = by_cases (has_id id r)
    (λ e. clash (has_id r.region.id (get_or rs at d)) (of_one id (get_or rs at d) r h e) (none_at r.region.id rs at d n l))
    (λ e. e)

none_rest : (id : ℕ) (r : RegionWithLeader) (rs : List RegionWithLeader) → NoneHasId r.region.id rs → has_id id r ≡ true → NoneHasId id rs
none_rest id r rs n h = subst (λ i. NoneHasId i rs) (same_number r.region.id id h) n

pub found_at_place : (id : ℕ) (rs : List RegionWithLeader) (at : ℕ) (d : RegionWithLeader) → HaveOwnIds rs → at < length rs → has_id id (get_or rs at d) ≡ true → find (has_id id) rs ≡ Some (get_or rs at d)
found_at_place id [] at d o l h = absurd (omega arith)
found_at_place id (r ∷ rs) zero d o l h = ap (λ b. cond b (Some r) (find (has_id id) rs)) h
found_at_place id (r ∷ rs) (suc at) d o l h =
    ap (λ b. cond b (Some r) (find (has_id id) rs)) (other_before id r rs at d o.0 (omega arith) h) ∙ found_at_place id rs at d o.1 (omega arith) h

pub removed_place : (id : ℕ) (rs : List RegionWithLeader) (at : ℕ) (d : RegionWithLeader) → HaveOwnIds rs → at < length rs → has_id id (get_or rs at d) ≡ true → remove rs at ≡ filter (λ r. not (has_id id r)) rs
removed_place id [] at d o l h = absurd (omega arith)
removed_place id (r ∷ rs) zero d o l h =
    sym (ap (λ b. cond (not b) (r ∷ filter (λ x. not (has_id id x)) rs) (filter (λ x. not (has_id id x)) rs)) h ∙ all_other id rs (none_rest id r rs o.0 h))
removed_place id (r ∷ rs) (suc at) d o l h =
    ap (λ zs. r ∷ zs) (removed_place id rs at d o.1 (omega arith) h)
    ∙ sym (ap (λ b. cond (not b) (r ∷ filter (λ x. not (has_id id x)) rs) (filter (λ x. not (has_id id x)) rs)) (other_before id r rs at d o.0 (omega arith) h))

is_version : (v : RegionVerId) (r : RegionWithLeader) → has_id v.id r ≡ true → same_epoch v.conf_ver v.ver r.region.region_epoch ≡ true → has_ver_id v r ≡ true
is_version v r h e = rw (h, e) refl

not_version : (v : RegionVerId) (r : RegionWithLeader) → has_id v.id r ≡ true → same_epoch v.conf_ver v.ver r.region.region_epoch ≡ false → has_ver_id v r ≡ false
not_version v r h e = rw (h, e) refl

pub removed_version : (v : RegionVerId) (rs : List RegionWithLeader) (at : ℕ) (d : RegionWithLeader) → HaveOwnIds rs → at < length rs → has_id v.id (get_or rs at d) ≡ true → same_epoch v.conf_ver v.ver (get_or rs at d).region.region_epoch ≡ true → remove rs at ≡ filter (λ r. not (has_ver_id v r)) rs
removed_version v [] at d o l h e = absurd (omega arith)
removed_version v (r ∷ rs) zero d o l h e =
    sym (ap (λ b. cond (not b) (r ∷ filter (λ x. not (has_ver_id v x)) rs) (filter (λ x. not (has_ver_id v x)) rs)) (is_version v r h e) ∙ all_other_versions v rs (none_rest v.id r rs o.0 h))
removed_version v (r ∷ rs) (suc at) d o l h e =
    ap (λ zs. r ∷ zs) (removed_version v rs at d o.1 (omega arith) h e)
    ∙ sym (ap (λ b. cond (not b) (r ∷ filter (λ x. not (has_ver_id v x)) rs) (filter (λ x. not (has_ver_id v x)) rs)) (not_that v r (other_before v.id r rs at d o.0 (omega arith) h)))

pub other_version : (v : RegionVerId) (rs : List RegionWithLeader) (at : ℕ) (d : RegionWithLeader) → HaveOwnIds rs → at < length rs → has_id v.id (get_or rs at d) ≡ true → same_epoch v.conf_ver v.ver (get_or rs at d).region.region_epoch ≡ false → filter (λ r. not (has_ver_id v r)) rs ≡ rs
other_version v [] at d o l h e = absurd (omega arith)
other_version v (r ∷ rs) zero d o l h e =
    ap (λ b. cond (not b) (r ∷ filter (λ x. not (has_ver_id v x)) rs) (filter (λ x. not (has_ver_id v x)) rs)) (not_version v r h e) ∙ ap (λ zs. r ∷ zs) (all_other_versions v rs (none_rest v.id r rs o.0 h))
other_version v (r ∷ rs) (suc at) d o l h e =
    ap (λ b. cond (not b) (r ∷ filter (λ x. not (has_ver_id v x)) rs) (filter (λ x. not (has_ver_id v x)) rs)) (not_that v r (other_before v.id r rs at d o.0 (omega arith) h))
    ∙ ap (λ zs. r ∷ zs) (other_version v rs at d o.1 (omega arith) h e)

pub led_at : (v : RegionVerId) (leader : Peer) (rs : List RegionWithLeader) (at : ℕ) (d : RegionWithLeader) → HaveOwnIds rs → at < length rs → has_id v.id (get_or rs at d) ≡ true → set rs at (led_if v leader (get_or rs at d)) ≡ map (led_if v leader) rs
led_at v leader [] at d o l h = absurd (omega arith)
led_at v leader (r ∷ rs) zero d o l h = ap (λ zs. led_if v leader r ∷ zs) (sym (none_led_here v leader rs (none_rest v.id r rs o.0 h)))
led_at v leader (r ∷ rs) (suc at) d o l h =
    ap (λ zs. r ∷ zs) (led_at v leader rs at d o.1 (omega arith) h)
    ∙ sym (ap (λ x. x ∷ map (led_if v leader) rs) (unled v leader r (other_before v.id r rs at d o.0 (omega arith) h)))

-- Starts of some of the regions.

start_kept : (m : RegionWithLeader → Bool) (q : ℕ) (rs : List RegionWithLeader) → HaveOwnIds rs → cond (list_any (has_id q) (filter m rs)) None (option_map start_of (find (has_id q) rs)) ≡ option_map start_of (find (has_id q) (filter (λ x. not (m x)) rs))
start_kept m q [] o = refl
start_kept m q (r ∷ rs) o = by_cases (has_id q r)
    (λ h.
    let none = none_rest q r rs o.0 h in
    mine h (any_none q (filter m rs) (none_filter m q rs none)) (find_none q (filter (λ x. not (m x)) rs) (none_filter (λ x. not (m x)) q rs none)))
    (λ h. another h (start_kept m q rs o.1))
  where
    mine : has_id q r ≡ true → list_any (has_id q) (filter m rs) ≡ false → find (has_id q) (filter (λ x. not (m x)) rs) ≡ None → cond (list_any (has_id q) (filter m (r ∷ rs))) None (option_map start_of (find (has_id q) (r ∷ rs))) ≡ option_map start_of (find (has_id q) (filter (λ x. not (m x)) (r ∷ rs)))
    mine h any found = by (m r)
      where
        by : (b : Bool) → cond (list_any (has_id q) (cond b (r ∷ filter m rs) (filter m rs))) None (option_map start_of (find (has_id q) (r ∷ rs))) ≡ option_map start_of (find (has_id q) (cond (not b) (r ∷ filter (λ x. not (m x)) rs) (filter (λ x. not (m x)) rs)))
        by true = rw (h, found) refl
        by false = rw (h, any) refl

    another : has_id q r ≡ false → cond (list_any (has_id q) (filter m rs)) None (option_map start_of (find (has_id q) rs)) ≡ option_map start_of (find (has_id q) (filter (λ x. not (m x)) rs)) → cond (list_any (has_id q) (filter m (r ∷ rs))) None (option_map start_of (find (has_id q) (r ∷ rs))) ≡ option_map start_of (find (has_id q) (filter (λ x. not (m x)) (r ∷ rs)))
    another h rest = by (m r)
      where
        by : (b : Bool) → cond (list_any (has_id q) (cond b (r ∷ filter m rs) (filter m rs))) None (option_map start_of (find (has_id q) (r ∷ rs))) ≡ option_map start_of (find (has_id q) (cond (not b) (r ∷ filter (λ x. not (m x)) rs) (filter (λ x. not (m x)) rs)))
        by true = rw h rest
        by false = rw h rest

find_other : (id q : ℕ) (rs : List RegionWithLeader) → nat_eq id q ≡ false → find (has_id q) (filter (λ r. not (has_id id r)) rs) ≡ find (has_id q) rs
find_other id q [] h = refl
find_other id q (r ∷ rs) h = by (has_id id r) refl (find_other id q rs h)
  where
    by : (b : Bool) → has_id id r ≡ b → find (has_id q) (filter (λ x. not (has_id id x)) rs) ≡ find (has_id q) rs → find (has_id q) (cond (not b) (r ∷ filter (λ x. not (has_id id x)) rs) (filter (λ x. not (has_id id x)) rs)) ≡ cond (has_id q r) (Some r) (find (has_id q) rs)
    by true e rest = rest ∙ sym (ap (λ b. cond b (Some r) (find (has_id q) rs)) (subst (λ n. nat_eq n q ≡ false) (sym (same_number r.region.id id e)) h))
    by false e rest = ap (λ z. cond (has_id q r) (Some r) z) rest

-- a region taken out
pub start_without : (id q : ℕ) (rs : List RegionWithLeader) → cond (nat_eq id q) None (option_map start_of (find (has_id q) rs)) ≡ option_map start_of (find (has_id q) (filter (λ r. not (has_id id r)) rs))
start_without id q rs = by_cases (nat_eq id q)
    (λ h. ap (λ b. cond b None (option_map start_of (find (has_id q) rs))) h ∙ sym (ap (option_map start_of) (find_none q (filter (λ r. not (has_id id r)) rs) (subst (λ n. NoneHasId n (filter (λ r. not (has_id id r)) rs)) (same_number id q h) (none_other id rs)))))
    (λ h. ap (λ b. cond b None (option_map start_of (find (has_id q) rs))) h ∙ sym (ap (option_map start_of) (find_other id q rs h)))

find_placed_id : (q : ℕ) (new : RegionWithLeader) (rs : List RegionWithLeader) → NoneHasId new.region.id rs → find (has_id q) (placed new rs) ≡ cond (has_id q new) (Some new) (find (has_id q) rs)
find_placed_id q new [] n = refl
find_placed_id q new (r ∷ rs) n = by (is_lt (key_cmp new.region.start_key r.region.start_key)) (find_placed_id q new rs n.1)
  where
    swap : (b c : Bool) → (c ≡ true → b ≡ true → has_id new.region.id r ≡ true) → cond c (Some r) (cond b (Some new) (find (has_id q) rs)) ≡ cond b (Some new) (cond c (Some r) (find (has_id q) rs))
    swap true true h = clash (has_id new.region.id r) (h refl refl) n.0
    swap true false h = refl
    swap false true h = refl
    swap false false h = refl

    by : (b : Bool) → find (has_id q) (placed new rs) ≡ cond (has_id q new) (Some new) (find (has_id q) rs) → find (has_id q) (cond b (new ∷ r ∷ rs) (r ∷ placed new rs)) ≡ cond (has_id q new) (Some new) (find (has_id q) (r ∷ rs))
    by true rest = refl
    by false rest = ap (λ z. cond (has_id q r) (Some r) z) rest ∙ swap (has_id q new) (has_id q r) (λ h g. of_one q r new h g)

-- a region put in place of the others of its id and of some more
pub start_with : (q : ℕ) (new : RegionWithLeader) (old others kept : List RegionWithLeader) (m : RegionWithLeader → Bool) → HaveOwnIds old → others ≡ filter (λ r. not (has_id new.region.id r)) old → kept ≡ filter (λ r. not (m r)) others → cond (list_any (has_id q) (filter m others)) None (cond (nat_eq new.region.id q) (Some new.region.start_key) (option_map start_of (find (has_id q) old))) ≡ option_map start_of (find (has_id q) (placed new kept))
start_with q new old others kept m o is_others is_kept =
    let own : HaveOwnIds others = subst HaveOwnIds (sym is_others) (own_filter (λ r. not (has_id new.region.id r)) old o) in
    let none : NoneHasId new.region.id others = subst (NoneHasId new.region.id) (sym is_others) (none_other new.region.id old) in
    let none_kept : NoneHasId new.region.id kept = subst (NoneHasId new.region.id) (sym is_kept) (none_filter (λ r. not (m r)) new.region.id others none) in
    by_cases (nat_eq new.region.id q)
    (λ h.
    let any : list_any (has_id q) (filter m others) ≡ false = any_none q (filter m others) (subst (λ n. NoneHasId n (filter m others)) (same_number new.region.id q h) (none_filter m new.region.id others none)) in
    ap (λ b. cond b None (cond (nat_eq new.region.id q) (Some new.region.start_key) (option_map start_of (find (has_id q) old)))) any
    ∙ (ap (λ b. cond b (Some new.region.start_key) (option_map start_of (find (has_id q) old))) h
    ∙ sym (ap (option_map start_of) (find_placed_id q new kept none_kept ∙ ap (λ b. cond b (Some new) (find (has_id q) kept)) h))))
    (λ h.
    ap (λ b. cond (list_any (has_id q) (filter m others)) None (cond b (Some new.region.start_key) (option_map start_of (find (has_id q) old)))) h
    ∙ (ap (λ z. cond (list_any (has_id q) (filter m others)) None (option_map start_of z)) (sym (find_other new.region.id q old h) ∙ ap (find (has_id q)) (sym is_others))
    ∙ (start_kept m q others own
    ∙ (ap (λ zs. option_map start_of (find (has_id q) zs)) (sym is_kept)
    ∙ sym (ap (option_map start_of) (find_placed_id q new kept none_kept ∙ ap (λ b. cond b (Some new) (find (has_id q) kept)) h))))))
