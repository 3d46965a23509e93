-- What a request is cut into, and what of it is found.
use Rattle.std.specs.Prelude.{◌≡◌, ◌≢◌, ◌⊎◌, ⊤, ℕ, ◌<◌, ◌≤◌, List, [], ◌∷◌, Bool, true, false, length, map, take, drop, Option, Some, None, IfSome}
use Rattle.std.specs.List.{All, filter}
use Rattle.std.specs.declared.cmp.Ordering.TheVariants.{Less}
use Rattle.txn_history.specs.Among.{IsAmong}
use Rattle.txn_kv.specs.Region.{contains_key}
use Rattle.txn_kv.specs.declared.message.Region.{Region}
use Rattle.txn_region.specs.Clients.{IsUsable}
use Rattle.txn_region.specs.Groups.{is_between}
use Rattle.txn_region.specs.Regions.{Key, is_below, key_cmp}
use Rattle.txn_region.specs.declared.store.RegionStore.{RegionStore}
use Rattle.txn_shard.specs.Batches.{joined, IsBatch, IsFullBefore, AreFull}
use Rattle.txn_shard.specs.declared.shard_list.ShardList.{ShardList}

-- nothing is found yet
abbrev pub IsFresh : {S : Type 0} → ShardList S → Type 0
IsFresh found = (found.shards.items ≡ []) × (found.next ≡ 0) × (found.at ≡ None) × (found.sorted ≡ None)

-- it goes to the store of a region that it lies in, and requests can be made for that region
abbrev pub IsAt : {L : Type 0} → (Region → L → Type 0) → L → RegionStore → Type 0
IsAt lies load store = IsUsable store.region_with_leader × lies store.region_with_leader.region load

abbrev pub shards_of : {S : Type 0} → ShardList S → List S
shards_of found = map (λ f. f.0) found.shards.items

-- By keys

-- the items one after another, with none left out
abbrev pub AreJoined : {X : Type 0} → List X → List (List X) → Type 0
AreJoined items pieces = joined pieces ≡ items

-- no piece is empty, where there are items
pub record ArePieces {X : Type 0} (items : List X) (pieces : List (List X)) : Type 0 where
  pub joined : AreJoined items pieces
  pub some : items ≢ [] → All (λ piece. piece ≢ []) pieces

-- each of the items' keys lies in the region
abbrev pub KeysLieIn : {X : Type 0} → (X → Key) → Region → List X → Type 0
KeysLieIn {X} key region items = (x : X) → IsAmong items x → contains_key region (key x) ≡ true

-- a group of items that lies in one region, or a batch of it where it is cut at a limit
abbrev pub IsShard : {X : Type 0} → (X → ℕ) → Option ℕ → List X → Type 0
IsShard size None items = 0 < length items
IsShard size (Some limit) items = IsBatch size limit items

abbrev pub AreFullShards : {X : Type 0} → (X → ℕ) → Option ℕ → List (List X) → Type 0
AreFullShards size None [] = ⊤
AreFullShards size None (shard ∷ []) = ⊤
AreFullShards size None (shard ∷ next ∷ rest) = ⊥
AreFullShards size (Some limit) shards = AreFull size limit shards

-- a group of items that lies in one region, cut into shards
pub record AreShards {X : Type 0} (size : X → ℕ) (limit : Option ℕ) (group : List X) (shards : List (List X)) : Type 0 where
  pub in_order : joined shards ≡ group
  pub each : All (IsShard size limit) shards
  pub full : AreFullShards size limit shards

-- the first of the items lies elsewhere
abbrev pub BeginsOutside : {X : Type 0} → (X → Key) → Region → List X → Type 0
BeginsOutside key region [] = ⊤
BeginsOutside key region (x ∷ xs) = contains_key region (key x) ≡ false

abbrev pub IsFullShard : {X : Type 0} → (X → ℕ) → Option ℕ → List X → List X → Type 0
IsFullShard size None items next = ⊥
IsFullShard size (Some limit) items next = IsFullBefore size limit items next

-- Why each shard ends where it does: what follows lies in another region, or the batch was full. `left` follows the last.
abbrev pub AreEnded : {X : Type 0} → (X → Key) → (X → ℕ) → Option ℕ → List (List X × RegionStore) → List X → Type 0
AreEnded key size limit [] left = ⊤
AreEnded key size limit (f ∷ []) left = BeginsOutside key f.1.region_with_leader.region left
AreEnded key size limit (f ∷ g ∷ rest) left =
    (BeginsOutside key f.1.region_with_leader.region g.0 ⊎ IsFullShard size limit f.0 g.0) × AreEnded key size limit (g ∷ rest) left

-- The shards that are found are the first `next` of the items in order. The order is kept, once it was made.
pub record KeysAreFound {X : Type 0} (key : X → Key) (size : X → ℕ) (limit : Option ℕ) (whole : List X) (found : ShardList (List X)) : Type 0 where
  pub front : joined (shards_of found) ≡ take found.next whole
  pub within : found.next ≤ length whole
  pub each : All (IsShard size limit) (shards_of found)
  pub inside : All (λ f. IsAt (KeysLieIn key) f.0 f.1) found.shards.items
  pub ended : AreEnded key size limit found.shards.items (drop found.next whole)
  pub order : IfSome found.sorted (λ items. items ≡ whole)

-- the one shard of a key
abbrev pub IsAlone : Key → List Key → Type 0
IsAlone key pieces = pieces ≡ key ∷ []

abbrev pub KeyLiesIn : Region → Key → Type 0
KeyLiesIn region key = contains_key region key ≡ true

-- the one key is found, or it is not
pub record KeyIsFound (key : Key) (found : ShardList Key) : Type 0 where
  pub front : shards_of found ≡ take found.next (key ∷ [])
  pub within : found.next ≤ 1
  pub inside : All (λ f. IsAt KeyLiesIn f.0 f.1) found.shards.items

-- By range. An empty end is unbounded.

abbrev pub Range : Type 0
Range = Key × Key

abbrev pub holds : Range → Key → Bool
holds range key = is_between range.0 range.1 key

abbrev pub RangeLiesIn : Region → Range → Type 0
RangeLiesIn region range = (key : Key) → holds range key ≡ true → contains_key region key ≡ true

-- each key of the first is below each key of the second
abbrev pub IsBelow : Range → Range → Type 0
IsBelow a b = (j k : Key) → holds a j ≡ true → holds b k ≡ true → key_cmp j k ≡ Less

abbrev pub IsBelowAll : Range → List Range → Type 0
IsBelowAll a [] = ⊤
IsBelowAll a (b ∷ rest) = IsBelow a b × IsBelowAll a rest

abbrev pub AreAscending : List Range → Type 0
AreAscending [] = ⊤
AreAscending (a ∷ rest) = IsBelowAll a rest × AreAscending rest

-- just one, or none
abbrev pub IsOnce : {X : Type 0} → Bool → List X → Type 0
IsOnce true [] = ⊥
IsOnce true (x ∷ []) = ⊤
IsOnce true (x ∷ y ∷ rest) = ⊥
IsOnce false [] = ⊤
IsOnce false (x ∷ rest) = ⊥

-- each key of the range lies in just one of the pieces, and no other key in any; they ascend
pub record IsPartition (range : Range) (pieces : List Range) : Type 0 where
  pub once : (key : Key) → IsOnce (holds range key) (filter (λ piece. holds piece key) pieces)
  pub ascending : AreAscending pieces

-- the pieces are the part of the range before `at`, or the whole range
abbrev pub PartIsFound : Range → Option Key → List Range → Type 0
PartIsFound range (Some at) pieces = (holds range at ≡ true) × (at ≢ []) × IsPartition (range.0, at) pieces
PartIsFound range None [] = ⊤
PartIsFound range None (piece ∷ rest) = IsPartition range (piece ∷ rest)

pub record RangeIsFound (range : Range) (found : ShardList Range) : Type 0 where
  pub part : PartIsFound range found.at (shards_of found)
  pub inside : All (λ f. IsAt RangeLiesIn f.0 f.1) found.shards.items

-- where the next piece starts, if one is left
abbrev pub NextOf : Range → ShardList Range → Option Key → Type 0
NextOf range found (Some first) = (found.at ≡ Some first) ⊎ ((found.at ≡ None) × (found.shards.items ≡ []) × (first ≡ range.0) × (is_below range.0 range.1 ≡ true))
NextOf range found None = (found.at ≡ None) × ((found.shards.items ≡ []) → is_below range.0 range.1 ≡ false)
