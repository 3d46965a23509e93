-- What is found, once one more group is found.
use Rattle.std.proofs.Common.{◌≡◌, ℕ, zero, suc, ◌+◌, ◌-◌, ◌≤◌, Bool, true, false, List, [], ◌∷◌, ◌++◌, length, refl, sym, ap, ◌∙◌, subst, inl, inr, arith}
use Rattle.std.specs.Prelude.{cond, map, take, drop, slice_range, Option, Some, None, IfSome}
use Rattle.std.specs.List.{All, prefix_len}
use Rattle.std.proofs.Math.Seq.{take-add}
use Rattle.std.proofs.lemmas.List.{map-append, length-map, length-take-le, length-drop, drop-drop, drop-map, take_all}
use Rattle.std.proofs.lemmas.List.Concat.{flat_map-append}
use Rattle.std.proofs.lemmas.List.Elements.{All-append, All-push, All-head, All-tail, All-nil, All-cons}
use Rattle.txn_history.specs.Among.{IsAmong}
use Rattle.txn_kv.specs.Region.{contains_key}
use Rattle.txn_kv.specs.declared.message.Region.{Region}
use Rattle.txn_region.specs.Clients.{IsUsable}
use Rattle.txn_region.specs.Groups.{IsKeyGroup}
use Rattle.txn_region.specs.Regions.{Key}
use Rattle.txn_region.specs.declared.store.RegionStore.{RegionStore}
use Rattle.txn_shard.specs.Batches.{joined}
use Rattle.txn_shard.specs.Shards.{AreEnded, AreJoined, AreShards, BeginsOutside, IsAt, IsShard, KeyIsFound, KeyLiesIn, KeysAreFound, KeysLieIn, shards_of, AreFullShards}
use Rattle.txn_shard.specs.declared.shard_list.ShardList.{ShardList}

-- One key

pub key_put : (key : Key) (old new : ShardList Key) (store : RegionStore) → KeyIsFound key old → old.next ≤ 0 → new.shards.items ≡ old.shards.items ++ (key, store) ∷ [] → new.next ≡ 1
    → IsUsable store.region_with_leader → contains_key store.region_with_leader.region key ≡ true → KeyIsFound key new
key_put key old new store f none put one usable here = record {
  front = ap (map (λ s. s.0)) put ∙ map-append (λ (s : Key × RegionStore). s.0) old.shards.items ((key, store) ∷ []) ∙ ap (λ l. l ++ key ∷ []) (f.front ∙ ap (λ n. take n (key ∷ [])) zero) ∙ sym (ap (λ n. take n (key ∷ [])) one);
  within = rw one (omega arith);
  inside = subst (All (λ s. IsAt KeyLiesIn s.0 s.1)) (sym put) (All-push (λ s. IsAt KeyLiesIn s.0 s.1) old.shards.items (key, store) f.inside (usable, here));
}
  where
    zero : old.next ≡ 0
    zero = omega arith

-- Items

joined_append : {X : Type 0} (xs ys : List (List X)) → joined (xs ++ ys) ≡ joined xs ++ joined ys
joined_append xs ys = flat_map-append (λ l. l) xs ys

among_left : {X : Type 0} (xs ys : List X) (x : X) → IsAmong xs x → IsAmong (xs ++ ys) x
among_left [] ys x i = absurd i
among_left (y ∷ xs) ys x (inl e) = inl e
among_left (y ∷ xs) ys x (inr i) = inr (among_left xs ys x i)

among_right : {X : Type 0} (xs ys : List X) (x : X) → IsAmong ys x → IsAmong (xs ++ ys) x
among_right [] ys x i = i
among_right (y ∷ xs) ys x i = inr (among_right xs ys x i)

-- the pieces with their store

abbrev with_store : {X : Type 0} → RegionStore → List (List X) → List (List X × RegionStore)
with_store store pieces = map (λ piece. (piece, store)) pieces

pieces_with : {X : Type 0} (store : RegionStore) (pieces : List (List X)) → map (λ s. s.0) (with_store store pieces) ≡ pieces
pieces_with store [] = refl
pieces_with store (p ∷ ps) = ap (λ l. p ∷ l) (pieces_with store ps)

pub pieces_of : {V X : Type 0} (f : V → List X) (store : RegionStore) (vs : List V) → map {B = List X × RegionStore} (λ v. (f v, store)) vs ≡ map {B = List X × RegionStore} (λ piece. (piece, store)) (map f vs)
pieces_of f store [] = refl
pieces_of f store (v ∷ vs) = ap (λ l. (f v, store) ∷ l) (pieces_of f store vs)

outside_taken : {X : Type 0} (key : X → Key) (region : Region) (n : ℕ) (xs : List X) → BeginsOutside key region xs → BeginsOutside key region (take n xs)
outside_taken key region zero xs o = tt
outside_taken key region (suc n) [] o = tt
outside_taken key region (suc n) (x ∷ xs) o = o

outside_first : {X : Type 0} (key : X → Key) (region : Region) (p : List X) (ps : List (List X)) → BeginsOutside key region (joined (p ∷ ps)) → BeginsOutside key region p
outside_first key region [] ps o = tt
outside_first key region (x ∷ xs) ps o = o

-- what follows those of the keys that the region holds is outside
outside_left : {X : Type 0} (key : X → Key) (region : Region) (xs : List X) → BeginsOutside key region (drop (prefix_len (contains_key region) (map key xs)) xs)
outside_left key region [] = tt
outside_left {X} key region (x ∷ xs) = by (contains_key region (key x)) refl (outside_left key region xs)
  where
    by : (b : Bool) → contains_key region (key x) ≡ b → BeginsOutside key region (drop (prefix_len (contains_key region) (map key xs)) xs)
        → BeginsOutside key region (drop (cond b (1 + prefix_len (contains_key region) (map key xs)) 0) (x ∷ xs))
    by true e more = rw (one_more (prefix_len (contains_key region) (map key xs))) more
      where
        one_more : (n : ℕ) → 1 + n ≡ suc n
        one_more n = omega arith
    by false e more = e

ended_append : {X : Type 0} (key : X → Key) (size : X → ℕ) (limit : Option ℕ) (fs : List (List X × RegionStore)) (g : List X × RegionStore) (gs : List (List X × RegionStore)) (left after : List X)
    → AreEnded key size limit fs left → ((region : Region) → BeginsOutside key region left → BeginsOutside key region g.0) → AreEnded key size limit (g ∷ gs) after → AreEnded key size limit (fs ++ g ∷ gs) after
ended_append key size limit [] g gs left after e begins f = f
ended_append key size limit (h ∷ []) g gs left after e begins f = (inl (begins h.1.region_with_leader.region e), f)
ended_append key size limit (h ∷ i ∷ fs) g gs left after e begins f = (e.0, ended_append key size limit (i ∷ fs) g gs left after e.1 begins f)

ended_group : {X : Type 0} (key : X → Key) (size : X → ℕ) (limit : Option ℕ) (store : RegionStore) (p : List X) (ps : List (List X)) (after : List X)
    → AreFullShards size limit (p ∷ ps) → BeginsOutside key store.region_with_leader.region after → AreEnded key size limit (with_store store (p ∷ ps)) after
ended_group key size None store p [] after f o = o
ended_group key size None store p (q ∷ qs) after f o = absurd f
ended_group key size (Some limit) store p [] after f o = o
ended_group key size (Some limit) store p (q ∷ qs) after f o = (inr f.0, ended_group key size (Some limit) store q qs after f.1 o)

inside_taken : {X : Type 0} (key : X → Key) (region : Region) (xs : List X) → All (λ k. contains_key region k ≡ true) (map key xs) → KeysLieIn key region xs
inside_taken key region [] a x i = absurd i
inside_taken key region (y ∷ ys) a x (inl e) = subst (λ z. contains_key region (key z) ≡ true) e (All-head (λ k. contains_key region k ≡ true) (key y) (map key ys) a)
inside_taken key region (y ∷ ys) a x (inr i) = inside_taken key region ys (All-tail (λ k. contains_key region k ≡ true) (key y) (map key ys) a) x i

inside_pieces : {X : Type 0} (key : X → Key) (store : RegionStore) (pieces : List (List X)) → IsUsable store.region_with_leader → KeysLieIn key store.region_with_leader.region (joined pieces) → All (λ s. IsAt (KeysLieIn key) s.0 s.1) (with_store store pieces)
inside_pieces key store [] u i = All-nil (λ s. IsAt (KeysLieIn key) s.0 s.1)
inside_pieces key store (p ∷ ps) u i = All-cons (λ s. IsAt (KeysLieIn key) s.0 s.1) (p, store) (with_store store ps)
    (u, λ x a. i x (among_left p (joined ps) x a)) (inside_pieces key store ps u (λ x a. i x (among_right p (joined ps) x a)))

take_map : {X Y : Type 0} (f : X → Y) (n : ℕ) (xs : List X) → take n (map f xs) ≡ map f (take n xs)
take_map f zero xs = refl
take_map f (suc n) [] = refl
take_map f (suc n) (x ∷ xs) = ap (λ l. f x ∷ l) (take_map f n xs)

-- one more group is found
pub group_put : {X : Type 0} (key : X → Key) (size : X → ℕ) (limit : Option ℕ) (whole : List X) (old new : ShardList (List X)) (store : RegionStore) (end : ℕ) (pieces : List (List X))
    → KeysAreFound key size limit whole old → IsUsable store.region_with_leader → IsKeyGroup (map key whole) old.next store.region_with_leader.region end
    → AreShards size limit (slice_range whole old.next end) pieces
    → new.shards.items ≡ old.shards.items ++ with_store store pieces → new.next ≡ end → new.sorted ≡ old.sorted → KeysAreFound key size limit whole new
group_put {X} key size limit whole old new store end [] f u g s put next order =
    let some = g.some in
    let within : end ≤ length whole = subst (λ n. end ≤ n) (length-map whole key) g.within in
    let fits : end - old.next ≤ length (drop old.next whole) = rw (length-drop old.next whole) (omega arith) in
    let none : 0 ≡ end - old.next = ap length s.in_order ∙ length-take-le (end - old.next) (drop old.next whole) fits in
    absurd (omega arith)
group_put {X} key size limit whole old new store end (p ∷ ps) f u g s put next order = record {
  front = ap (λ l. joined (map (λ t. t.0) l)) put ∙ ap joined (map-append (λ (t : List X × RegionStore). t.0) old.shards.items (with_store store (p ∷ ps)))
      ∙ joined_append (shards_of old) (map (λ t. t.0) (with_store store (p ∷ ps))) ∙ ap (λ l. joined (shards_of old) ++ joined l) (pieces_with store (p ∷ ps))
      ∙ ap (λ l. l ++ joined (p ∷ ps)) f.front ∙ ap (λ l. take old.next whole ++ l) s.in_order ∙ sym (take-add old.next (end - old.next) whole) ∙ ap (λ n. take n whole) (sums ∙ sym next);
  within = rw next within;
  each = subst (All (IsShard size limit)) (sym (ap (map (λ t. t.0)) put ∙ map-append (λ (t : List X × RegionStore). t.0) old.shards.items (with_store store (p ∷ ps)) ∙ ap (λ l. shards_of old ++ l) (pieces_with store (p ∷ ps))))
      (All-append (IsShard size limit) (shards_of old) (p ∷ ps) f.each s.each);
  inside = subst (All (λ t. IsAt (KeysLieIn key) t.0 t.1)) (sym put) (All-append (λ t. IsAt (KeysLieIn key) t.0 t.1) old.shards.items (with_store store (p ∷ ps)) f.inside
      (inside_pieces key store (p ∷ ps) u (λ x a. held x (subst (λ l. IsAmong l x) s.in_order a))));
  ended = subst (λ l. AreEnded key size limit l (drop new.next whole)) (sym put)
      (ended_append key size limit old.shards.items (p, store) (with_store store ps) (drop old.next whole) (drop new.next whole) f.ended
      (λ region o. outside_first key region p ps (subst (BeginsOutside key region) (sym s.in_order) (outside_taken key region (end - old.next) (drop old.next whole) o)))
      (ended_group key size limit store p ps (drop new.next whole) s.full outside));
  order = subst (λ o. IfSome o (λ items. items ≡ whole)) (sym order) f.order;
}
  where
    sums : old.next + (end - old.next) ≡ end
    sums = let some = g.some in omega arith

    within : end ≤ length whole
    within = subst (λ n. end ≤ n) (length-map whole key) g.within

    outside : BeginsOutside key store.region_with_leader.region (drop new.next whole)
    outside = subst (λ n. BeginsOutside key store.region_with_leader.region (drop n whole)) (sym g.longest ∙ sym next)
        (subst (BeginsOutside key store.region_with_leader.region) (drop-drop (prefix_len (contains_key store.region_with_leader.region) (drop old.next (map key whole))) old.next whole)
        (subst (λ l. BeginsOutside key store.region_with_leader.region (drop (prefix_len (contains_key store.region_with_leader.region) l) (drop old.next whole))) (sym (drop-map key old.next whole))
        (outside_left key store.region_with_leader.region (drop old.next whole))))

    held : KeysLieIn key store.region_with_leader.region (slice_range whole old.next end)
    held = inside_taken key store.region_with_leader.region (slice_range whole old.next end)
        (subst (All (λ k. contains_key store.region_with_leader.region k ≡ true)) (ap (take (end - old.next)) (drop-map key old.next whole) ∙ take_map key (end - old.next) (drop old.next whole)) g.inside)

-- all is found, or something is left
pub all_found : {X : Type 0} (key : X → Key) (size : X → ℕ) (limit : Option ℕ) (whole : List X) (found : ShardList (List X)) → KeysAreFound key size limit whole found → length whole ≤ found.next → AreJoined whole (shards_of found)
all_found key size limit whole found f le = f.front ∙ take_all found.next whole le
