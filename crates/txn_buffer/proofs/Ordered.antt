-- Pairs that ascend, and what is in key order of pairs that come in the direction of a scan.
use Rattle.std.proofs.Common.{◌≡◌, ◌∙◌, sym, refl, ap, subst, ℕ, List, [], ◌∷◌, ◌++◌, map, reverse, length, get_or, Bool, true, false, cond, Ordering, arith, ◌+◌, ◌<◌}
use Rattle.std.specs.declared.cmp.Ordering.TheVariants.{Less, Equal, Greater}
use Rattle.std.specs.BTreeMap.{insert_entry}
use Rattle.std.specs.BTreeMap.Range.{entries_between, range_contains}
use Rattle.std.specs.Bool.{Decides}
use Rattle.std.specs.Cmp.Lexicographic.{slice_cmp}
use Rattle.std.specs.List.{AllByRecursion, IsAllAdjacentAnswer, filter}
use Rattle.std.specs.List.Sorted.{IsStrictlySortedBy}
use Rattle.std.specs.Map.{keys_of}
use Rattle.std.specs.declared.ops.Bound.{Bound}
use Rattle.std.specs.Ordering.{is_lt, match_ordering, nat_cmp}
use Rattle.std.proofs.lemmas.Bool.{false≢true}
use Rattle.std.proofs.lemmas.Cmp.{nat_list_cmp_total}
use Rattle.std.proofs.lemmas.List.{append_assoc, append-nil, get_or-map, length-map, reverse-append, reverse-reverse}
use Rattle.std.proofs.lemmas.List.Kept.{IsStrictlySortedBy-filter}
use Rattle.std.proofs.lemmas.Map.Keys.{Less-from_sorted, sorted_from_all_adjacent}
use Rattle.txn_buffer.specs.declared.entry.Entry.{Entry}
use Rattle.txn_buffer.specs.declared.entry.Entry.TheVariants as entry
use Rattle.txn_buffer.specs.Contents.{keys_of_mutations, mutations, mutations_of}
use Rattle.txn_buffer.specs.Overlay.{Pairs, directed, in_key_order, with_pairs}
use Rattle.txn_buffer.specs.Passing.{IsAscending, IsBelow}
use Rattle.txn_buffer.specs.Reads.{pair_of, pairs_of}
use Rattle.txn_kv.specs.declared.kvpair.KvPair.{KvPair}
use Rattle.txn_kv.specs.declared.message.Mutation.{Mutation}
use Rattle.txn_buffer.proofs.Passing.{turned}
use Rattle.txn_buffer.proofs.Scans.{map-reverse}
use Rattle.txn_buffer.proofs.Steps.{first_below, front, rest_sorted}

abbrev cmp : List ℕ → List ℕ → Ordering
cmp = slice_cmp nat_cmp

module _ {X : Type 0} where
  keys_of_filter : (test : List ℕ → Bool) (entries : List (List ℕ × X)) → keys_of (filter (λ e. test e.0) entries) ≡ filter test (keys_of entries)
  keys_of_filter test [] = refl
  keys_of_filter test (e ∷ entries) = by (test e.0) (keys_of_filter test entries)
    where
      by : (b : Bool) → keys_of (filter (λ e. test e.0) entries) ≡ filter test (keys_of entries) → keys_of (cond b (e ∷ filter (λ e. test e.0) entries) (filter (λ e. test e.0) entries)) ≡ cond b (e.0 ∷ filter test (keys_of entries)) (filter test (keys_of entries))
      by true later = ap (λ ks. e.0 ∷ ks) later
      by false later = later

  -- what lies between two bounds ascends as the whole does
  pub between_ascends : (low high : Bound (List ℕ)) (all part : List (List ℕ × X)) → IsAscending all → part ≡ entries_between cmp low high all → IsAscending part
  between_ascends low high all part ascending is = subst IsAscending (sym is) (subst (IsStrictlySortedBy cmp) (sym (keys_of_filter (range_contains cmp low high) all)) (IsStrictlySortedBy-filter cmp (range_contains cmp low high) (keys_of all) ascending))

end_ascends : (some more : Pairs) → IsAscending (some ++ more) → IsAscending more
end_ascends [] more ascending = ascending
end_ascends (p ∷ some) more ascending = end_ascends some more (rest_sorted p (some ++ more) ascending)

below_middle : (key : List ℕ) (some : Pairs) (p : List ℕ × List ℕ) (more : Pairs) → IsBelow key (some ++ p ∷ more) → cmp key p.0 ≡ Less
below_middle key [] p more below = below.0
below_middle key (q ∷ some) p more below = below_middle key some p more below.1

insert_last : (some : Pairs) (p : List ℕ × List ℕ) (more : Pairs) → IsAscending (some ++ p ∷ more) → insert_entry cmp some p.0 p.1 ≡ some ++ p ∷ []
insert_last [] p more ascending = refl
insert_last (q ∷ some) p more ascending = ap (λ o. match_ordering o ((p.0, p.1) ∷ q ∷ some) ((q.0, p.1) ∷ some) (q ∷ insert_entry cmp some p.0 p.1)) (turned q.0 p.0 (below_middle q.0 some p more (first_below q (some ++ p ∷ more) ascending))) ∙ ap (λ ps. q ∷ ps) (insert_last some p more (rest_sorted q (some ++ p ∷ more) ascending))

added_last : (some more : Pairs) → IsAscending (some ++ more) → with_pairs some more ≡ some ++ more
added_last some [] ascending = sym (append-nil some)
added_last some (p ∷ more) ascending = ap (λ ps. with_pairs ps more) (insert_last some p more ascending) ∙ added_last (some ++ p ∷ []) more (subst IsAscending (sym (append_assoc some (p ∷ []) more)) ascending) ∙ append_assoc some (p ∷ []) more

turned_round : (p : List ℕ × List ℕ) (more some : Pairs) → reverse (p ∷ more) ++ some ≡ reverse more ++ p ∷ some
turned_round p more some = ap (λ ps. ps ++ some) (reverse-append (p ∷ []) more) ∙ append_assoc (reverse more) (p ∷ []) some

added_first : (some more : Pairs) → IsAscending (reverse more ++ some) → with_pairs some more ≡ reverse more ++ some
added_first some [] ascending = refl
added_first some (p ∷ more) ascending = let later = subst IsAscending (turned_round p more some) ascending in ap (λ ps. with_pairs ps more) (front p.0 p.1 some (first_below p some (end_ascends (reverse more) (p ∷ some) later))) ∙ added_first (p ∷ some) more later ∙ sym (turned_round p more some)

in_order : (is_reversed : Bool) (pairs : Pairs) → IsAscending (directed is_reversed pairs) → directed is_reversed pairs ≡ in_key_order pairs
in_order false pairs ascending = sym (added_last [] pairs ascending)
in_order true pairs ascending = sym (added_first [] pairs (subst IsAscending (sym (append-nil (reverse pairs))) ascending) ∙ append-nil (reverse pairs))

directed_pairs : (is_reversed : Bool) (pairs : List KvPair) → pairs_of (directed is_reversed pairs) ≡ directed is_reversed (pairs_of pairs)
directed_pairs false pairs = refl
directed_pairs true pairs = map-reverse pair_of pairs

-- pairs that ascend once they are turned round stand in key order then
pub in_order_of : (is_reversed : Bool) (fetched pairs : List KvPair) → pairs ≡ directed is_reversed fetched → IsAscending (pairs_of pairs) → pairs_of pairs ≡ in_key_order (pairs_of fetched)
in_order_of is_reversed fetched pairs is ascending = let turn = ap pairs_of is ∙ directed_pairs is_reversed fetched in turn ∙ in_order is_reversed (pairs_of fetched) (subst IsAscending turn ascending)

-- turned round twice
pub directed_back : {X : Type 0} (is_reversed : Bool) (xs ys zs : List X) → ys ≡ directed is_reversed xs → zs ≡ directed is_reversed ys → zs ≡ xs
directed_back false xs ys zs is back = back ∙ is
directed_back true xs ys zs is back = back ∙ ap reverse is ∙ reverse-reverse xs

below_mutations : (key : List ℕ) (entries : List (List ℕ × Entry)) → IsBelow key entries → AllByRecursion (λ k. cmp key k ≡ Less) (keys_of_mutations (mutations entries))
below_mutations key [] below = tt
below_mutations key (e ∷ entries) below = by e.1 (below_mutations key entries below.1)
  where
    by : (entry : Entry) → AllByRecursion (λ k. cmp key k ≡ Less) (keys_of_mutations (mutations entries)) → AllByRecursion (λ k. cmp key k ≡ Less) (keys_of_mutations (mutations_of e.0 entry ++ mutations entries))
    by (entry.Cached value) later = later
    by (entry.Locked value) later = (below.0, later)
    by (entry.Put value) later = (below.0, later)
    by entry.Del later = (below.0, later)
    by (entry.Insert value) later = (below.0, later)
    by entry.CheckNotExist later = (below.0, later)

pub mutations_ascend : (entries : List (List ℕ × Entry)) → IsAscending entries → IsStrictlySortedBy cmp (keys_of_mutations (mutations entries))
unfolding IsStrictlySortedBy
mutations_ascend [] ascending = tt
mutations_ascend (e ∷ entries) ascending = by e.1 (below_mutations e.0 entries ascending.0) (mutations_ascend entries ascending.1)
  where
    by : (entry : Entry) → AllByRecursion (λ k. cmp e.0 k ≡ Less) (keys_of_mutations (mutations entries)) → IsStrictlySortedBy cmp (keys_of_mutations (mutations entries)) → IsStrictlySortedBy cmp (keys_of_mutations (mutations_of e.0 entry ++ mutations entries))
    by (entry.Cached value) below later = later
    by (entry.Locked value) below later = (below, later)
    by (entry.Put value) below later = (below, later)
    by entry.Del below later = (below, later)
    by (entry.Insert value) below later = (below, later)
    by entry.CheckNotExist below later = (below, later)

abbrev first_of : KvPair → List ℕ
first_of pair = pair.0

firsts_are_keys : (pairs : List KvPair) → map first_of pairs ≡ keys_of (pairs_of pairs)
firsts_are_keys [] = refl
firsts_are_keys (p ∷ pairs) = ap (λ ks. p.0 ∷ ks) (firsts_are_keys pairs)

less : (o : Ordering) → true ≡ is_lt o → o ≡ Less
less Less h = refl
less Equal h = absurd (false≢true (sym h))
less Greater h = absurd (false≢true (sym h))

-- the keys of two neighbours
key_at : (p : KvPair) (pairs : List KvPair) (k : ℕ) → k < length pairs → get_or (map first_of pairs) k p.0 ≡ (get_or pairs k p).0
key_at p pairs k within = get_or-map first_of pairs k p p.0 within

ascend_by_next : (p : KvPair) (pairs : List KvPair) → ((k : ℕ) (d : KvPair) → k + 1 < length pairs → true ≡ is_lt (cmp (get_or pairs k d).0 (get_or pairs (k + 1) d).0)) → IsAscending (pairs_of pairs)
ascend_by_next p pairs all = subst (IsStrictlySortedBy cmp) (firsts_are_keys pairs) (sorted_from_all_adjacent nat_list_cmp_total (map first_of pairs) p.0 at)
  where
    at : (k : ℕ) → k + 1 < length (map first_of pairs) → cmp (get_or (map first_of pairs) k p.0) (get_or (map first_of pairs) (k + 1) p.0) ≡ Less
    at k below = let within : k + 1 < length pairs = subst (λ n. k + 1 < n) (length-map pairs first_of) below in ap (λ a. cmp a (get_or (map first_of pairs) (k + 1) p.0)) (key_at p pairs k (omega arith)) ∙ ap (λ b. cmp (get_or pairs k p).0 b) (key_at p pairs (k + 1) within) ∙ less (cmp (get_or pairs k p).0 (get_or pairs (k + 1) p).0) (all k p within)

less_next : (p : KvPair) (pairs : List KvPair) → IsAscending (pairs_of pairs) → (k : ℕ) → k + 1 < length pairs → cmp (get_or pairs k p).0 (get_or pairs (k + 1) p).0 ≡ Less
less_next p pairs ascending k within = sym (ap (λ a. cmp a (get_or (map first_of pairs) (k + 1) p.0)) (key_at p pairs k (omega arith)) ∙ ap (λ b. cmp (get_or pairs k p).0 b) (key_at p pairs (k + 1) within)) ∙ Less-from_sorted cmp (map first_of pairs) k (k + 1) p.0 (subst (IsStrictlySortedBy cmp) (sym (firsts_are_keys pairs)) ascending) (omega arith) (subst (λ n. k + 1 < n) (sym (length-map pairs first_of)) within)

no_pairs_ascend : IsAscending (pairs_of [])
unfolding IsStrictlySortedBy
no_pairs_ascend = tt

-- an answer for each pair and the next answers for the whole list
pub ascends_by_next : (pairs : List KvPair) (r : Bool) → IsAllAdjacentAnswer (λ (x y : KvPair) (b : Bool). b ≡ is_lt (cmp x.0 y.0)) pairs r → Decides r (IsAscending (pairs_of pairs))
ascends_by_next [] true all = (λ _. no_pairs_ascend, λ _. refl)
ascends_by_next (p ∷ pairs) true all = (λ _. ascend_by_next p (p ∷ pairs) all, λ _. refl)
ascends_by_next [] false (k, within, at) = (λ no. absurd (false≢true no), λ ascending. absurd (omega (arith, within)))
ascends_by_next (p ∷ pairs) false (k, within, at) = (λ no. absurd (false≢true no), λ ascending. absurd (false≢true (at p ∙ ap is_lt (less_next p (p ∷ pairs) ascending k within))))

-- the same of the mutations that were made
pub mutations_ascend_of : (made : List Mutation) (entries : List (List ℕ × Entry)) → IsAscending entries → made ≡ mutations entries → IsStrictlySortedBy cmp (keys_of_mutations made)
mutations_ascend_of made entries ascending is = subst (λ ms. IsStrictlySortedBy cmp (keys_of_mutations ms)) (sym is) (mutations_ascend entries ascending)
