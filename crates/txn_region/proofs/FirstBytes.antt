-- What the first bytes of keys tell of their order.
use Rattle.std.proofs.Common.{◌≡◌, ℕ, suc, zero, ◌<◌, Bool, true, false, List, [], ◌∷◌, length, get_or, take, drop, refl, sym, ap, ◌∙◌, arith}
use Rattle.std.specs.Prelude.{cond, map, ◌++◌, ◌==◌, ◌||◌, Option, Some, None}
use Rattle.std.specs.List.{insert, remove, remove_range}
use Rattle.std.specs.Cmp.{nat_cmp_is}
use Rattle.std.specs.Ordering.{is_lt, nat_cmp, ordering_then}
use Rattle.std.specs.declared.cmp.Ordering.{Ordering}
use Rattle.std.specs.declared.cmp.Ordering.TheVariants.{Less, Equal, Greater}
use Rattle.std.proofs.lemmas.List.{drop-map, map-append, take-map}
use Rattle.txn_kv.specs.declared.message.Peer.{Peer}
use Rattle.txn_kv.specs.declared.region.RegionVerId.{RegionVerId}
use Rattle.txn_kv.specs.declared.region.RegionWithLeader.{RegionWithLeader}
use Rattle.txn_region.specs.Heads.{end_head, first_bytes, key_head, AreHeadsOf}
use Rattle.txn_region.specs.Regions.{Key, has_ver_id, is_below, key_cmp, led_if, without_place}
use Rattle.txn_region.proofs.Order.{greater_if_less, less_if_greater}

-- the code reads eight bytes
pub head_is : (key : Key) → (get_or key 0 0 ∷ get_or key 1 0 ∷ get_or key 2 0 ∷ get_or key 3 0 ∷ get_or key 4 0 ∷ get_or key 5 0 ∷ get_or key 6 0 ∷ get_or key 7 0 ∷ []) ≡ key_head key
head_is [] = refl
head_is (a ∷ []) = refl
head_is (a ∷ b ∷ []) = refl
head_is (a ∷ b ∷ c ∷ []) = refl
head_is (a ∷ b ∷ c ∷ d ∷ []) = refl
head_is (a ∷ b ∷ c ∷ d ∷ e ∷ []) = refl
head_is (a ∷ b ∷ c ∷ d ∷ e ∷ f ∷ []) = refl
head_is (a ∷ b ∷ c ∷ d ∷ e ∷ f ∷ g ∷ []) = refl
head_is (a ∷ b ∷ c ∷ d ∷ e ∷ f ∷ g ∷ h ∷ rest) = refl

nothing_less : (key : Key) {G : Type 0} → key_cmp key [] ≡ Less → G
nothing_less [] h = absurd (cc)
nothing_less (x ∷ xs) h = absurd (cc)

not_below_zero : (x : ℕ) {G : Type 0} → nat_cmp x 0 ≡ Less → G
not_below_zero zero h = absurd (cc)
not_below_zero (suc x) h =
    let more : 0 < suc x = omega arith in
    absurd (let clash : Greater ≡ Less = nat_cmp_is (suc x) 0 Greater more ∙ h in cc)

-- of two keys the one with the smaller head is smaller
less_by_bytes : (n : ℕ) (a b : Key) → key_cmp (first_bytes n a) (first_bytes n b) ≡ Less → key_cmp a b ≡ Less
less_by_bytes zero a b h = absurd (cc)
less_by_bytes (suc n) [] [] h = less_by_bytes n [] [] h
less_by_bytes (suc n) [] (y ∷ ys) h = refl
less_by_bytes (suc n) (x ∷ xs) [] h = by (nat_cmp x 0) refl (less_by_bytes n xs []) h
  where
    by : (o : Ordering) → nat_cmp x 0 ≡ o → (key_cmp (first_bytes n xs) (first_bytes n []) ≡ Less → key_cmp xs [] ≡ Less) → ordering_then o (key_cmp (first_bytes n xs) (first_bytes n [])) ≡ Less → key_cmp (x ∷ xs) [] ≡ Less
    by Less e later h = not_below_zero x e
    by Equal e later h = nothing_less xs (later h)
    by Greater e later h = absurd (cc)
less_by_bytes (suc n) (x ∷ xs) (y ∷ ys) h = by (nat_cmp x y) (less_by_bytes n xs ys) h
  where
    by : (o : Ordering) → (key_cmp (first_bytes n xs) (first_bytes n ys) ≡ Less → key_cmp xs ys ≡ Less) → ordering_then o (key_cmp (first_bytes n xs) (first_bytes n ys)) ≡ Less → ordering_then o (key_cmp xs ys) ≡ Less
    by Less later h = refl
    by Equal later h = later h
    by Greater later h = absurd (cc)

pub less_by_head : (a b : Key) → key_cmp (key_head a) (key_head b) ≡ Less → key_cmp a b ≡ Less
less_by_head a b h = less_by_bytes 8 a b h

pub greater_by_head : (a b : Key) → key_cmp (key_head a) (key_head b) ≡ Greater → key_cmp a b ≡ Greater
greater_by_head a b h = greater_if_less b a (less_by_head b a (less_if_greater (key_head a) (key_head b) h))

-- what the head of a region's end tells of the end
with_end : (r : RegionWithLeader) (end : Key) → Some end ≡ end_head r → ((length r.region.end_key == 0) ≡ false) × (end ≡ key_head r.region.end_key)
with_end r end h = by (length r.region.end_key == 0) refl h
  where
    by : (b : Bool) → (length r.region.end_key == 0) ≡ b → Some end ≡ cond b None (Some (key_head r.region.end_key)) → ((length r.region.end_key == 0) ≡ false) × (end ≡ key_head r.region.end_key)
    by true e h = absurd (cc)
    by false e h = let same : end ≡ key_head r.region.end_key = grind arith in (e, same)

pub below_by_head : (key head end : Key) (r : RegionWithLeader) → head ≡ key_head key → Some end ≡ end_head r → key_cmp head end ≡ Less → is_below key r.region.end_key ≡ true
below_by_head key head end r is h less =
    let known = with_end r end h in
    let at_heads : key_cmp (key_head key) (key_head r.region.end_key) ≡ Less = ap (λ k. key_cmp k (key_head r.region.end_key)) (sym is) ∙ (ap (key_cmp head) (sym known.1) ∙ less) in
    ap (λ o. is_lt o || (length r.region.end_key == 0)) (less_by_head key r.region.end_key at_heads)

pub ended_by_head : (key head end : Key) (r : RegionWithLeader) → head ≡ key_head key → Some end ≡ end_head r → key_cmp head end ≡ Greater → is_below key r.region.end_key ≡ false
ended_by_head key head end r is h greater =
    let known = with_end r end h in
    let at_heads : key_cmp (key_head key) (key_head r.region.end_key) ≡ Greater = ap (λ k. key_cmp k (key_head r.region.end_key)) (sym is) ∙ (ap (key_cmp head) (sym known.1) ∙ greater) in
    ap (λ o. is_lt o || (length r.region.end_key == 0)) (greater_by_head key r.region.end_key at_heads) ∙ known.0

-- The heads of regions that change

heads_removed : (rs : List RegionWithLeader) (at : ℕ) → remove (map end_head rs) at ≡ map end_head (remove rs at)
heads_removed rs at =
    ap (λ hs. hs ++ drop (suc at) (map end_head rs)) (take-map end_head at rs)
    ∙ (ap (λ hs. map end_head (take at rs) ++ hs) (drop-map end_head (suc at) rs)
    ∙ sym (map-append end_head (take at rs) (drop (suc at) rs)))

pub are_removed : (heads : List (Option Key)) (rs : List RegionWithLeader) (at : ℕ) → AreHeadsOf heads rs → AreHeadsOf (remove heads at) (remove rs at)
are_removed heads rs at are = ap (λ hs. remove hs at) are ∙ heads_removed rs at

pub are_without : (heads : List (Option Key)) (rs : List RegionWithLeader) (place : Option ℕ) → AreHeadsOf heads rs → AreHeadsOf (without_place place heads) (without_place place rs)
are_without heads rs None are = are
are_without heads rs (Some at) are = are_removed heads rs at are

heads_inserted : (rs : List RegionWithLeader) (at : ℕ) (r : RegionWithLeader) → insert (map end_head rs) at (end_head r) ≡ map end_head (insert rs at r)
heads_inserted rs at r =
    ap (λ hs. hs ++ end_head r ∷ drop at (map end_head rs)) (take-map end_head at rs)
    ∙ (ap (λ hs. map end_head (take at rs) ++ end_head r ∷ hs) (drop-map end_head at rs)
    ∙ sym (map-append end_head (take at rs) (r ∷ drop at rs)))

heads_cut : (rs : List RegionWithLeader) (from to : ℕ) → remove_range (map end_head rs) from to ≡ map end_head (remove_range rs from to)
heads_cut rs from to =
    ap (λ hs. hs ++ drop to (map end_head rs)) (take-map end_head from rs)
    ∙ (ap (λ hs. map end_head (take from rs) ++ hs) (drop-map end_head to rs)
    ∙ sym (map-append end_head (take from rs) (drop to rs)))

pub are_replaced : (heads : List (Option Key)) (rs : List RegionWithLeader) (from to : ℕ) (head : Option Key) (r : RegionWithLeader) → AreHeadsOf heads rs → head ≡ end_head r → AreHeadsOf (insert (remove_range heads from to) from head) (insert (remove_range rs from to) from r)
are_replaced heads rs from to head r are is =
    ap (λ hs. insert (remove_range hs from to) from head) are
    ∙ (ap (λ hs. insert hs from head) (heads_cut rs from to)
    ∙ (ap (insert (map end_head (remove_range rs from to)) from) is
    ∙ heads_inserted (remove_range rs from to) from r))

led_head : (v : RegionVerId) (leader : Peer) (r : RegionWithLeader) → end_head (led_if v leader r) ≡ end_head r
led_head v leader r = by (has_ver_id v r)
  where
    by : (b : Bool) → end_head (cond b (record r { leader = Some leader }) r) ≡ end_head r
    by true = refl
    by false = refl

heads_led : (v : RegionVerId) (leader : Peer) (rs : List RegionWithLeader) → map end_head rs ≡ map end_head (map (led_if v leader) rs)
heads_led v leader [] = refl
heads_led v leader (r ∷ rs) = ap (λ h. h ∷ map end_head rs) (sym (led_head v leader r)) ∙ ap (λ hs. end_head (led_if v leader r) ∷ hs) (heads_led v leader rs)

pub are_led : (v : RegionVerId) (leader : Peer) (heads : List (Option Key)) (rs : List RegionWithLeader) → AreHeadsOf heads rs → AreHeadsOf heads (map (led_if v leader) rs)
are_led v leader heads rs are = are ∙ heads_led v leader rs
