-- What of a range is found, once one more piece is found.
use Rattle.std.proofs.Common.{◌≡◌, ◌≢◌, Bool, true, false, List, [], ◌∷◌, ◌++◌, length, refl, sym, ap, ◌∙◌, subst, inl, inr, append-nil, true≢false, arith}
use Rattle.std.specs.Prelude.{cond, not, ◌&&◌, ◌||◌, ◌==◌, ◌⊎◌, map, Option, Some, None}
use Rattle.std.specs.List.{All, filter}
use Rattle.std.specs.Ordering.{is_le, is_lt}
use Rattle.std.specs.declared.cmp.Ordering.{Ordering}
use Rattle.std.specs.declared.cmp.Ordering.TheVariants.{Less, Equal, Greater}
use Rattle.std.proofs.lemmas.Cmp.{nat_list_cmp_total, tied_itself}
use Rattle.std.proofs.lemmas.Bool.Decides.{nat_tests}
use Rattle.std.proofs.lemmas.List.{map-append}
use Rattle.std.proofs.lemmas.List.Elements.{All-push, filter-append}
use Rattle.txn_kv.specs.Region.{contains_key}
use Rattle.txn_kv.specs.declared.message.Region.{Region}
use Rattle.txn_region.specs.Clients.{IsUsable}
use Rattle.txn_region.specs.Groups.{ends_by, is_between, IsRangePiece}
use Rattle.txn_region.specs.Regions.{Key, is_below, key_cmp}
use Rattle.txn_region.specs.declared.store.RegionStore.{RegionStore}
use Rattle.txn_region.proofs.Order.{below_before, greater_if_less, less_if_greater, same_if_equal}
use Rattle.txn_region.proofs.RangePieces.{at_most_trans, below_by, bounded}
use Rattle.txn_shard.specs.Cutting.{partition_inside, AreInside, IsPartition-whole}
use Rattle.txn_shard.specs.Shards.{holds, shards_of, AreAscending, IsAt, IsBelow, IsBelowAll, IsOnce, IsPartition, NextOf, PartIsFound, Range, RangeIsFound, RangeLiesIn}
use Rattle.txn_shard.specs.declared.shard_list.ShardList.{ShardList}

left_of : (a b : Bool) → (a && b) ≡ true → a ≡ true
left_of true b e = refl
left_of false b e = absurd (true≢false (sym e))

right_of : (a b : Bool) → (a && b) ≡ true → b ≡ true
right_of true b e = e
right_of false b e = absurd (true≢false (sym e))

given_length : (end : Key) → end ≢ [] → (length end == 0) ≡ false
given_length [] given = absurd (given refl)
given_length (x ∷ xs) given = grind (arith, nat_tests)

-- an end that is given: a key is below it where it comes before it
below_given : (key end : Key) → end ≢ [] → is_below key end ≡ is_lt (key_cmp key end)
below_given key end given = ap (λ b. is_lt (key_cmp key end) || b) (given_length end given) ∙ by (is_lt (key_cmp key end))
  where
    by : (b : Bool) → (b || false) ≡ b
    by true = refl
    by false = refl

-- The two parts of a range: below a key in it, and from that key on.

parts : (lower at stop key : Key) → at ≢ [] → is_le (key_cmp lower at) ≡ true → ends_by at stop ≡ true
    → ((is_between at stop key ≡ false) × (is_between lower stop key ≡ is_between lower at key)) ⊎ ((is_between lower at key ≡ false) × (is_between lower stop key ≡ is_between at stop key))
parts lower at stop key given up ends = by (key_cmp at key) refl
  where
    above : is_le (key_cmp at key) ≡ true → is_lt (key_cmp key at) ≡ false → ((is_between at stop key ≡ false) × (is_between lower stop key ≡ is_between lower at key)) ⊎ ((is_between lower at key ≡ false) × (is_between lower stop key ≡ is_between at stop key))
    above le not_below = inr (
      and_no (is_le (key_cmp lower key)) (is_below key at) (below_given key at given ∙ not_below),
      ap (λ b. b && is_below key stop) (at_most_trans lower at key up le ∙ sym le),
    )
      where
        and_no : (a b : Bool) → b ≡ false → (a && b) ≡ false
        and_no true b e = e
        and_no false b e = refl

    by : (o : Ordering) → key_cmp at key ≡ o → ((is_between at stop key ≡ false) × (is_between lower stop key ≡ is_between lower at key)) ⊎ ((is_between lower at key ≡ false) × (is_between lower stop key ≡ is_between at stop key))
    by Less e = above (ap is_le e) (ap is_lt (greater_if_less at key e))
    by Equal e = above (ap is_le e) (ap is_lt (subst (λ k. key_cmp key k ≡ Equal) (sym (same_if_equal at key e)) (tied_itself nat_list_cmp_total key)))
    by Greater e =
        let below : is_below key at ≡ true = below_given key at given ∙ ap is_lt (less_if_greater at key e) in
        inl (ap (λ b. b && is_below key stop) (ap is_le e), ap (λ b. is_le (key_cmp lower key) && b) (below_by key at stop below ends ∙ sym below))

-- one more piece, which begins where the others end

once_more : (b c d : Bool) (piece : Range) (held : List Range) → IsOnce b held → ((c ≡ false) × (d ≡ b)) ⊎ ((b ≡ false) × (d ≡ c)) → IsOnce d (held ++ cond c (piece ∷ []) [])
once_more b true d piece held o (inl e) = absurd (true≢false e.0)
once_more b false d piece held o (inl e) = subst (λ p. IsOnce p (held ++ [])) (sym e.1) (subst (IsOnce b) (sym (append-nil held)) o)
once_more true c d piece held o (inr e) = absurd (true≢false e.0)
once_more false c d piece [] o (inr e) = subst (λ p. IsOnce p (cond c (piece ∷ []) [])) (sym e.1) (by c)
  where
    by : (c : Bool) → IsOnce c (cond c (piece ∷ []) [])
    by true = tt
    by false = tt
once_more false c d piece (x ∷ xs) o (inr e) = absurd o

ascending_more : (lower at stop : Key) (pieces : List Range) → at ≢ [] → AreAscending pieces → AreInside (lower, at) pieces → AreAscending (pieces ++ (at, stop) ∷ [])
ascending_more lower at stop [] given a i = (tt, tt)
ascending_more lower at stop (p ∷ ps) given a i = (more ps a.0, ascending_more lower at stop ps given a.1 i.1)
  where
    below_at : (j : Key) → holds p j ≡ true → key_cmp j at ≡ Less
    below_at j h = less (key_cmp j at) refl (sym (below_given j at given) ∙ right_of (is_le (key_cmp lower j)) (is_below j at) (i.0 j h))
      where
        less : (o : Ordering) → key_cmp j at ≡ o → is_lt (key_cmp j at) ≡ true → key_cmp j at ≡ Less
        less Less e h = e
        less Equal e h = absurd (true≢false (sym h ∙ ap is_lt e))
        less Greater e h = absurd (true≢false (sym h ∙ ap is_lt e))

    last : IsBelow p (at, stop)
    last j k f g = by (key_cmp at k) refl (left_of (is_le (key_cmp at k)) (is_below k stop) g)
      where
        by : (o : Ordering) → key_cmp at k ≡ o → is_le (key_cmp at k) ≡ true → key_cmp j k ≡ Less
        by Less e h = nat_list_cmp_total.trans j at k (below_at j f) e
        by Equal e h = subst (λ q. key_cmp j q ≡ Less) (same_if_equal at k e) (below_at j f)
        by Greater e h = absurd (true≢false (sym h ∙ ap is_le e))

    more : (qs : List Range) → IsBelowAll p qs → IsBelowAll p (qs ++ (at, stop) ∷ [])
    more [] b = (last, tt)
    more (q ∷ qs) b = (b.0, more qs b.1)

partition_more : (lower at stop : Key) (pieces : List Range) → at ≢ [] → is_le (key_cmp lower at) ≡ true → ends_by at stop ≡ true → IsPartition (lower, at) pieces → IsPartition (lower, stop) (pieces ++ (at, stop) ∷ [])
partition_more lower at stop pieces given up ends p = record {
  once = λ key. subst (IsOnce (is_between lower stop key)) (sym (filter-append (λ q. holds q key) pieces ((at, stop) ∷ [])))
      (once_more (is_between lower at key) (is_between at stop key) (is_between lower stop key) (at, stop) (filter (λ q. holds q key) pieces) (p.once key) (parts lower at stop key given up ends));
  ascending = ascending_more lower at stop pieces given p.ascending (partition_inside (lower, at) pieces p);
}

-- Where a piece ends

-- the rest does not begin before the piece
starts_after : (region : Region) (first end : Key) (piece : Range) (n : Key) → IsRangePiece region first end piece (Some n) → is_le (key_cmp first n) ≡ true
starts_after region first end piece n p = by (key_cmp first n) refl
  where
    by : (o : Ordering) → key_cmp first n ≡ o → is_le (key_cmp first n) ≡ true
    by Less e = ap is_le e
    by Equal e = ap is_le e
    by Greater e = absurd (true≢false (sym beyond ∙ sym (p.joined n) ∙ ap (λ b. is_le b && is_below n end) e))
      where
        itself : is_between n end n ≡ true
        itself = ap (λ o. is_le o && is_below n end) (tied_itself nat_list_cmp_total n) ∙ p.some

        beyond : (is_between piece.0 piece.1 n || is_between n end n) ≡ true
        beyond = or_yes (is_between piece.0 piece.1 n) (is_between n end n) itself
          where
            or_yes : (a b : Bool) → b ≡ true → (a || b) ≡ true
            or_yes true b e = refl
            or_yes false b e = e

-- where the rest begins, the region ends, and so does the piece
stop_at : (end limit : Key) (n : Key) → Some n ≡ (cond (ends_by end limit) None (Some limit)) → (ends_by end limit ≡ false) × (limit ≡ n)
stop_at end limit n e = by (ends_by end limit) refl e
  where
    by : (b : Bool) → ends_by end limit ≡ b → Some n ≡ cond b None (Some limit) → (ends_by end limit ≡ false) × (limit ≡ n)
    by true f e = absurd (cc)
    by false f e = (f, cc)

stop_whole : (end limit : Key) → None ≡ (cond (ends_by end limit) None (Some limit)) → ends_by end limit ≡ true
stop_whole end limit e = by (ends_by end limit) refl e
  where
    by : (b : Bool) → ends_by end limit ≡ b → None ≡ cond b None (Some limit) → ends_by end limit ≡ true
    by true f e = f
    by false f e = absurd (cc)

given_end : (limit : Key) → (length limit == 0) ≡ false → limit ≢ []
given_end [] e = absurd (true≢false e)
given_end (x ∷ xs) e = λ h. absurd (cc)

-- a key that is given, and not above an end, ends by it
ends_given : (at stop : Key) → at ≢ [] → is_le (key_cmp at stop) ≡ true → ends_by at stop ≡ true
ends_given at stop given le = ap (λ b. (length stop == 0) || (not b && is_le (key_cmp at stop))) (given_length at given) ∙ by (length stop == 0) (is_le (key_cmp at stop)) le
  where
    by : (b c : Bool) → c ≡ true → (b || (not false && c)) ≡ true
    by true c e = refl
    by false c e = e

ends_below : (at stop : Key) → at ≢ [] → is_below at stop ≡ true → ends_by at stop ≡ true
ends_below at stop given below = ap (λ b. (length stop == 0) || (not b && is_le (key_cmp at stop))) (given_length at given) ∙ by (length stop == 0) (key_cmp at stop) below
  where
    by : (b : Bool) (o : Ordering) → (is_lt o || b) ≡ true → (b || (not false && is_le o)) ≡ true
    by true o h = refl
    by false Less h = refl
    by false Equal h = refl
    by false Greater h = absurd (true≢false (sym h))

-- One more piece

abbrev Extends : Range → Option Key → List Range → Type 0
Extends range next pieces = PartIsFound range next pieces

not_empty : (range : Range) (xs : List Range) (y : Range) → IsPartition range (xs ++ y ∷ []) → PartIsFound range None (xs ++ y ∷ [])
not_empty range [] y p = p
not_empty range (x ∷ xs) y p = p

-- the piece of a range that begins at a key, put behind the part before that key
piece_put : (range : Range) (region : Region) (first : Key) (piece : Range) (next : Option Key) (pieces : List Range)
    → is_le (key_cmp range.0 first) ≡ true → is_below first range.1 ≡ true → IsRangePiece region first range.1 piece next
    → ((stop : Key) → (first ≢ [] → ends_by first stop ≡ true) → IsPartition (range.0, stop) (pieces ++ (first, stop) ∷ []))
    → PartIsFound range next (pieces ++ piece ∷ [])
piece_put range region first piece None pieces up below p grow =
    let whole = stop_whole range.1 region.end_key p.left in
    let stop : piece.1 ≡ range.1 = p.stop ∙ ap (λ b. cond b range.1 region.end_key) whole in
    let same : (first, range.1) ≡ piece = sym (ap (λ k. (k, range.1)) p.start) ∙ sym (ap (λ k. (piece.0, k)) stop) in
    not_empty range pieces piece (subst (λ q. IsPartition range (pieces ++ q ∷ [])) same (grow range.1 (λ given. ends_below first range.1 given below)))
piece_put range region first piece (Some n) pieces up below p grow =
    let cut = stop_at range.1 region.end_key n p.left in
    let stop : piece.1 ≡ n = p.stop ∙ ap (λ b. cond b range.1 region.end_key) cut.0 ∙ cut.1 in
    let after = starts_after region first range.1 piece n p in
    let same : (first, n) ≡ piece = sym (ap (λ k. (k, n)) p.start) ∙ sym (ap (λ k. (piece.0, k)) stop) in (
      and_yes (is_le (key_cmp range.0 n)) (is_below n range.1) (at_most_trans range.0 first n up after) p.some,
      subst (λ k. k ≢ []) cut.1 (given_end region.end_key (bounded range.1 region.end_key cut.0)),
      subst (λ q. IsPartition (range.0, n) (pieces ++ q ∷ [])) same (grow n (λ given. ends_given first n given after)),
    )
  where
    and_yes : (a b : Bool) → a ≡ true → b ≡ true → (a && b) ≡ true
    and_yes true b e f = f
    and_yes false b e f = absurd (true≢false (sym e))

at_itself : (key : Key) → is_le (key_cmp key key) ≡ true
at_itself key = ap is_le (tied_itself nat_list_cmp_total key)

part_put : (range : Range) (region : Region) (first : Key) (piece : Range) (next : Option Key) (at : Option Key) (pieces : List Range)
    → PartIsFound range at pieces → (at ≡ Some first) ⊎ ((at ≡ None) × (pieces ≡ []) × (first ≡ range.0) × (is_below range.0 range.1 ≡ true))
    → IsRangePiece region first range.1 piece next → PartIsFound range next (pieces ++ piece ∷ [])
part_put range region first piece next at pieces f (inl e) p =
    let going : PartIsFound range (Some first) pieces = subst (λ o. PartIsFound range o pieces) e f in
    let up = left_of (is_le (key_cmp range.0 first)) (is_below first range.1) going.0 in
    piece_put range region first piece next pieces up (right_of (is_le (key_cmp range.0 first)) (is_below first range.1) going.0) p
    (λ stop ends. partition_more range.0 first stop pieces going.1 up (ends going.1) going.2)
part_put range region first piece next at pieces f (inr e) p =
    piece_put range region first piece next pieces (subst (λ k. is_le (key_cmp range.0 k) ≡ true) (sym e.2) (at_itself range.0)) (subst (λ k. is_below k range.1 ≡ true) (sym e.2) e.3) p
    (λ stop ends. subst (λ ps. IsPartition (range.0, stop) (ps ++ (first, stop) ∷ [])) (sym e.1) (subst (λ k. IsPartition (range.0, stop) ((k, stop) ∷ [])) (sym e.2) (IsPartition-whole (range.0, stop))))

map_none : (xs : List (Range × RegionStore)) → xs ≡ [] → map (λ f. f.0) xs ≡ []
map_none xs e = ap (map (λ f. f.0)) e

start_of : (range : Range) (first : Key) (found : ShardList Range) → NextOf range found (Some first) → (found.at ≡ Some first) ⊎ ((found.at ≡ None) × (shards_of found ≡ []) × (first ≡ range.0) × (is_below range.0 range.1 ≡ true))
start_of range first found (inl e) = inl e
start_of range first found (inr e) = inr (e.0, map_none found.shards.items e.1, e.2, e.3)

-- one more piece is found
pub range_put : (range : Range) (first : Key) (piece : Range) (next : Option Key) (old new : ShardList Range) (store : RegionStore)
    → RangeIsFound range old → NextOf range old (Some first) → IsUsable store.region_with_leader → IsRangePiece store.region_with_leader.region first range.1 piece next
    → new.shards.items ≡ old.shards.items ++ (piece, store) ∷ [] → new.at ≡ next → RangeIsFound range new
range_put range first piece next old new store f n u p put at = record {
  part = subst (λ o. PartIsFound range o (shards_of new)) (sym at) (subst (PartIsFound range next) (sym (ap (map (λ t. t.0)) put ∙ map-append (λ (t : Range × RegionStore). t.0) old.shards.items ((piece, store) ∷ [])))
      (part_put range store.region_with_leader.region first piece next old.at (shards_of old) f.part (start_of range first old n) p));
  inside = subst (All (λ t. IsAt RangeLiesIn t.0 t.1)) (sym put) (All-push (λ t. IsAt RangeLiesIn t.0 t.1) old.shards.items (piece, store) f.inside
      (u, λ key held. right_of (is_between first range.1 key) (contains_key store.region_with_leader.region key) (sym (p.intersection key) ∙ held)));
}

-- and it goes on where the piece ends
pub range_next : (range : Range) (next : Option Key) (old new : ShardList Range) (x : Range × RegionStore) → new.shards.items ≡ old.shards.items ++ x ∷ [] → new.at ≡ next → NextOf range new next
range_next range (Some n) old new x put at = inl at
range_next range None old new x put at = (at, λ e. absurd (some old.shards.items (sym put ∙ e)))
  where
    some : (xs : List (Range × RegionStore)) → xs ++ x ∷ [] ≡ [] → ⊥
    some [] e = cc
    some (y ∷ ys) e = cc

-- All is found, or something is left

pub range_found : (range : Range) (found : ShardList Range) → RangeIsFound range found → NextOf range found None → IsPartition range (shards_of found)
range_found range found f n = by found.shards.items refl (subst (λ o. PartIsFound range o (shards_of found)) n.0 f.part)
  where
    empty : is_below range.0 range.1 ≡ false → IsPartition range []
    empty above = record { once = λ key. subst (λ b. IsOnce {X = Range} b []) (sym (none key)) tt; ascending = tt }
      where
        none : (key : Key) → holds range key ≡ false
        none key = nothing (key_cmp range.0 key) refl
          where
            never : is_below key range.1 ≡ true → key_cmp range.0 key ≡ Less → ⊥
            never h e = absurd (true≢false (sym (below_before range.0 key range.1 e h) ∙ above))

            and_never : (b : Bool) → (b ≡ true → ⊥) → b ≡ false
            and_never true h = absurd (h refl)
            and_never false h = refl

            nothing : (o : Ordering) → key_cmp range.0 key ≡ o → (is_le (key_cmp range.0 key) && is_below key range.1) ≡ false
            nothing Less e = ap (λ o. is_le o && is_below key range.1) e ∙ and_never (is_below key range.1) (λ h. never h e)
            nothing Equal e = ap (λ o. is_le o && is_below key range.1) e ∙ subst (λ k. is_below k range.1 ≡ false) (same_if_equal range.0 key e) above
            nothing Greater e = ap (λ o. is_le o && is_below key range.1) e

    by : (xs : List (Range × RegionStore)) → found.shards.items ≡ xs → PartIsFound range None (shards_of found) → IsPartition range (shards_of found)
    by [] e p = subst (λ l. IsPartition range (map (λ t. t.0) l)) (sym e) (empty (n.1 e))
    by (x ∷ xs) e p = subst (λ l. IsPartition range (map (λ t. t.0) l)) (sym e) (subst (λ l. PartIsFound range None (map (λ t. t.0) l)) e p)

pub range_not_found : (range : Range) (first : Key) (found : ShardList Range) → RangeIsFound range found → NextOf range found (Some first) → IsPartition range (shards_of found) → ⊥
range_not_found range first found f n p = by (start_of range first found n)
  where
    by : (found.at ≡ Some first) ⊎ ((found.at ≡ None) × (shards_of found ≡ []) × (first ≡ range.0) × (is_below range.0 range.1 ≡ true)) → ⊥
    by (inl e) = never (holds (range.0, first) first) (filter (λ q. holds q first) (shards_of found)) outside (going.2.once first) (subst (λ b. IsOnce b (filter (λ q. holds q first) (shards_of found))) going.0 (p.once first))
      where
        going : PartIsFound range (Some first) (shards_of found)
        going = subst (λ o. PartIsFound range o (shards_of found)) e f.part

        outside : holds (range.0, first) first ≡ false
        outside = ap (λ b. is_le (key_cmp range.0 first) && b) (below_given first first going.1 ∙ ap is_lt (tied_itself nat_list_cmp_total first)) ∙ no_more (is_le (key_cmp range.0 first))
          where
            no_more : (b : Bool) → (b && false) ≡ false
            no_more true = refl
            no_more false = refl

        never : (b : Bool) (held : List Range) → b ≡ false → IsOnce b held → IsOnce true held → ⊥
        never true held e o q = true≢false e
        never false [] e o q = q
        never false (x ∷ xs) e o q = o
    by (inr e) = subst (λ b. IsOnce {X = Range} b []) (ap (λ b. is_le b && is_below range.0 range.1) (tied_itself nat_list_cmp_total range.0) ∙ e.3) (subst (λ l. IsOnce (holds range range.0) (filter (λ q. holds q range.0) l)) e.1 (p.once range.0))
