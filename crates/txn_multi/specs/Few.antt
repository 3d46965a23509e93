-- How many parts a request is cut into.
use Rattle.std.specs.Prelude.{◌≡◌, ◌≤◌, ◌+◌, ℕ, max, min, List, [], ◌∷◌, ◌++◌, length, map, Bool, true, false, cond, suc, Option, Some, None}
use Rattle.std.proofs.Common.{arith, refl, ap, ◌∙◌}
use Rattle.std.proofs.Math.Nat.{le_refl, min-le_right}
use Rattle.std.proofs.lemmas.List.{length-append, length-map, length-take}
use Rattle.std.proofs.lemmas.List.Elements.{All-cons, All-head, All-nil, All-tail}
use Rattle.std.specs.List.{All}
use Rattle.txn_region.specs.Regions.{Key}
use Rattle.txn_region.specs.declared.store.RegionStore.{RegionStore}
use Rattle.txn_shard.specs.Batches.{joined}
use Rattle.txn_shard.specs.Order.{comes_before, in_order, placed}
use Rattle.txn_shard.specs.Shards.{shards_of, IsShard, KeyIsFound, KeysAreFound}
use Rattle.txn_shard.specs.declared.shard_list.ShardList.{ShardList}

-- `most` is how many parts a request or a plan may have, where nothing is cut into more than n. No more shards of it are found than
-- that, and with one of them it may have no more parts, one at least.
pub record AreFew {S H : Type 0} (most : S → ℕ → ℕ) (applies : S → H → RegionStore → S → Type 0) (whole : S) (found : List (H × RegionStore)) : Type 0 where
  pub few : (n : ℕ) → length found ≤ n → length found ≤ most whole n
  pub each : All (λ f. (part : S) → applies whole f.0 f.1 part → (n : ℕ) → max 1 (most part n) ≤ most whole n) found

-- as many as it is cut into
abbrev pub as_cut : ℕ → ℕ
as_cut n = max 1 n

-- no more than it has items
abbrev pub by_items : ℕ → ℕ → ℕ
by_items items n = min (max 1 n) items

-- lemmas

same_bound : {X : Type 0} (P : X → Type 0) → ((x : X) → P x) → (xs : List X) → All P xs
same_bound P p [] = All-nil P
same_bound P p (x ∷ xs) = All-cons P x xs (p x) (same_bound P p xs)

pub few_as_cut : {S H : Type 0} (applies : S → H → RegionStore → S → Type 0) (whole : S) (found : List (H × RegionStore)) → AreFew (λ s. as_cut) applies whole found
few_as_cut {S} applies whole found = record {
  few = λ n l. omega arith;
  each = same_bound (λ f. (part : S) → applies whole f.0 f.1 part → (n : ℕ) → max 1 (max 1 n) ≤ max 1 n) (λ f part a n. omega arith) found;
}

-- one key lies in one region
pub few_alone : {S : Type 0} (applies : S → Key → RegionStore → S → Type 0) (whole : S) (key : Key) (found : ShardList Key) → KeyIsFound key found → AreFew (λ s n. 1) applies whole found.shards.items
few_alone {S} applies whole key found is =
    let same : length (shards_of found) ≡ length found.shards.items = length-map found.shards.items (λ (f : Key × RegionStore). f.0) in
    let one : length (shards_of found) ≤ 1 = rw (is.front, length-take found.next (key ∷ [])) (min-le_right found.next 1) in
    record {
      few = λ n l. omega arith;
      each = same_bound (λ (f : Key × RegionStore). (part : S) → applies whole f.0 f.1 part → (n : ℕ) → max 1 1 ≤ 1) (λ f part a n. omega arith) found.shards.items;
    }

-- each shard holds an item

some_item : {X : Type 0} (size : X → ℕ) (limit : Option ℕ) (shard : List X) → IsShard size limit shard → 1 ≤ length shard
some_item size None shard is = is
some_item size (Some limit) shard is = is.0

some_items : {X : Type 0} (size : X → ℕ) (limit : Option ℕ) (shards : List (List X)) → All (IsShard size limit) shards → length shards ≤ length (joined shards)
some_items size limit [] a = le_refl 0
some_items size limit (shard ∷ shards) a =
    let one = some_item size limit shard (All-head (IsShard size limit) shard shards a) in
    let rest = some_items size limit shards (All-tail (IsShard size limit) shard shards a) in
    let sum : length (shard ++ joined shards) ≡ length shard + length (joined shards) = length-append shard (joined shards) in
    omega arith

placed_longer : {X : Type 0} (key : X → Key) (x : X) (ys : List X) → length (placed key x ys) ≡ suc (length ys)
placed_longer key x [] = refl
placed_longer {X} key x (y ∷ ys) = by (comes_before key y x) (placed_longer key x ys)
  where
    by : (b : Bool) → length (placed key x ys) ≡ suc (length ys) → length (cond b (y ∷ placed key x ys) (x ∷ y ∷ ys)) ≡ suc (suc (length ys))
    by true e = ap (λ n. suc n) e
    by false e = refl

ordered_length : {X : Type 0} (key : X → Key) (xs : List X) → length (in_order key xs) ≡ length xs
ordered_length key [] = refl
ordered_length key (x ∷ xs) = placed_longer key x (in_order key xs) ∙ ap (λ n. suc n) (ordered_length key xs)

module _ {S X : Type 0} (count : S → ℕ) (applies : S → List X → RegionStore → S → Type 0) (counted : (whole part : S) (shard : List X) (store : RegionStore) → applies whole shard store part → count part ≡ length shard) where
  within : (size : X → ℕ) (limit : Option ℕ) (whole : S) (found : List (List X × RegionStore)) → length (joined (map (λ f. f.0) found)) ≤ count whole → All (IsShard size limit) (map (λ f. f.0) found)
      → All (λ f. (part : S) → applies whole f.0 f.1 part → (n : ℕ) → max 1 (by_items (count part) n) ≤ by_items (count whole) n) found
  within size limit whole [] l a = All-nil (λ (f : List X × RegionStore). (part : S) → applies whole f.0 f.1 part → (n : ℕ) → max 1 (by_items (count part) n) ≤ by_items (count whole) n)
  within size limit whole (f ∷ found) l a =
      let rest : List (List X) = map (λ (g : List X × RegionStore). g.0) found in
      let one = some_item size limit f.0 (All-head (IsShard size limit) f.0 rest a) in
      let sum : length (f.0 ++ joined rest) ≡ length f.0 + length (joined rest) = length-append f.0 (joined rest) in
      All-cons (λ (g : List X × RegionStore). (part : S) → applies whole g.0 g.1 part → (n : ℕ) → max 1 (by_items (count part) n) ≤ by_items (count whole) n) f found
      (λ part applied n. let same : count part ≡ length f.0 = counted whole part f.0 f.1 applied in omega arith)
      (within size limit whole found (omega arith) (All-tail (IsShard size limit) f.0 rest a))

  pub few_by_items : (key : X → Key) (size : X → ℕ) (limit : Option ℕ) (whole : S) (items : List X) → length items ≡ count whole → (found : ShardList (List X)) → KeysAreFound key size limit (in_order key items) found
      → AreFew (λ s. by_items (count s)) applies whole found.shards.items
  few_by_items key size limit whole items all found is =
      let inside : length (joined (shards_of found)) ≤ length (in_order key items) = rw (is.front, length-take found.next (in_order key items)) (min-le_right found.next (length (in_order key items))) in
      let ordered : length (in_order key items) ≡ length items = ordered_length key items in
      let same : length (shards_of found) ≡ length found.shards.items = length-map found.shards.items (λ (f : List X × RegionStore). f.0) in
      let many = some_items size limit (shards_of found) is.each in
      record {
        few = λ n l. omega arith;
        each = within size limit whole found.shards.items (omega arith) is.each;
      }

-- of a state around one
module _ {S T H : Type 0} (most : S → ℕ → ℕ) (applies : S → H → RegionStore → S → Type 0) (inner : T → S) (around : T → H → RegionStore → T → Type 0) (inside : (whole part : T) (shard : H) (store : RegionStore) → around whole shard store part → applies (inner whole) shard store (inner part)) where
  each_inside : (whole : T) (found : List (H × RegionStore)) → All (λ f. (part : S) → applies (inner whole) f.0 f.1 part → (n : ℕ) → max 1 (most part n) ≤ most (inner whole) n) found
      → All (λ f. (part : T) → around whole f.0 f.1 part → (n : ℕ) → max 1 (most (inner part) n) ≤ most (inner whole) n) found
  each_inside whole [] a = All-nil (λ (f : H × RegionStore). (part : T) → around whole f.0 f.1 part → (n : ℕ) → max 1 (most (inner part) n) ≤ most (inner whole) n)
  each_inside whole (f ∷ found) a =
      All-cons (λ (g : H × RegionStore). (part : T) → around whole g.0 g.1 part → (n : ℕ) → max 1 (most (inner part) n) ≤ most (inner whole) n) f found
      (λ part applied n. All-head (λ (g : H × RegionStore). (p : S) → applies (inner whole) g.0 g.1 p → (n : ℕ) → max 1 (most p n) ≤ most (inner whole) n) f found a (inner part) (inside whole part f.0 f.1 applied) n)
      (each_inside whole found (All-tail (λ (g : H × RegionStore). (p : S) → applies (inner whole) g.0 g.1 p → (n : ℕ) → max 1 (most p n) ≤ most (inner whole) n) f found a))

  pub few_inside : (whole : T) (found : List (H × RegionStore)) → AreFew most applies (inner whole) found → AreFew (λ t. most (inner t)) around whole found
  few_inside whole found few = record { few = few.few; each = each_inside whole found few.each }
