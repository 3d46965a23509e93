-- Keys and ranges of keys in groups, each of which lies in one region. An empty end is unbounded.
use Rattle.std.specs.Prelude.{◌≡◌, ℕ, ◌+◌, ◌<◌, ◌≤◌, List, [], ◌∷◌, ◌++◌, Bool, true, false, not, ◌&&◌, ◌||◌, ◌==◌, if◌then◌else◌, length, drop, take, Option, Some, None, IfSome, slice_range}
use Rattle.std.specs.List.{All, list_any, prefix_len}
use Rattle.std.specs.Ordering.{is_le}
use Rattle.txn_kv.specs.Region.{contains_key}
use Rattle.txn_kv.specs.declared.message.KeyRange.{KeyRange}
use Rattle.txn_kv.specs.declared.message.Region.{Region}
use Rattle.txn_region.specs.Regions.{Key, is_below, key_cmp}

-- Keys

-- how many keys from the front on lie in the region
abbrev pub count_inside : Region → List Key → ℕ
count_inside region keys = prefix_len (contains_key region) keys

-- The group of keys that begins at a place: the longest that lies in the region. The next begins behind it.
pub record IsKeyGroup (keys : List Key) (first : ℕ) (region : Region) (next : ℕ) : Type 0 where
  pub longest : next ≡ first + count_inside region (drop first keys)
  pub some : first < next
  pub within : next ≤ length keys
  pub inside : All (λ key. contains_key region key ≡ true) (slice_range keys first next)

-- Ranges

abbrev pub is_between : Key → Key → Key → Bool
is_between start end key = is_le (key_cmp start key) && is_below key end

abbrev pub in_range : KeyRange → Key → Bool
in_range range key = is_between range.start_key range.end_key key

-- a key lies in one of the ranges
abbrev pub in_ranges : List KeyRange → Key → Bool
in_ranges ranges key = list_any (λ range. in_range range key) ranges

-- one end is not above another
abbrev pub ends_by : Key → Key → Bool
ends_by end limit = (length limit == 0) || (not (length end == 0) && is_le (key_cmp end limit))

-- the least of two ends
abbrev pub least_end : Key → Key → Key
least_end a b = if ends_by a b then a else b

-- an end, or none
abbrev pub or_unbounded : Option Key → Key
or_unbounded None = []
or_unbounded (Some end) = end

-- where the part of a range begins that is beyond the region, if there is one
abbrev pub next_start : Region → Key → Option Key
next_start region end = if ends_by end region.end_key then None else Some region.end_key

-- a key is in the part of the range from there on, if there is one
abbrev pub is_beyond : Option Key → Key → Key → Bool
is_beyond None end key = false
is_beyond (Some start) end key = is_between start end key

-- The piece of a range, from a key in the region on, that lies in the region, and where the rest of the range begins: the piece
-- is the intersection, and piece and rest together are the range.
pub record IsRangePiece (region : Region) (first end : Key) (piece : Key × Key) (next : Option Key) : Type 0 where
  pub start : piece.0 ≡ first
  pub stop : piece.1 ≡ least_end end region.end_key
  pub left : next ≡ next_start region end
  pub intersection : (key : Key) → is_between piece.0 piece.1 key ≡ (is_between first end key && contains_key region key)
  pub joined : (key : Key) → is_between first end key ≡ (is_between piece.0 piece.1 key || is_beyond next end key)
  pub some : IfSome next (λ start. is_below start end ≡ true)

-- a range that begins and ends in the region
abbrev pub is_whole : Region → KeyRange → Bool
is_whole region range = contains_key region range.start_key && ends_by range.end_key region.end_key

-- a range cut where the region ends
abbrev pub front_of : Region → KeyRange → KeyRange
front_of region range = record { start_key = range.start_key; end_key = region.end_key }

abbrev pub back_of : Region → KeyRange → KeyRange
back_of region range = record { start_key = region.end_key; end_key = range.end_key }

-- how many ranges from the front on begin and end in the region
abbrev pub count_whole : Region → List KeyRange → ℕ
count_whole region ranges = prefix_len (is_whole region) ranges

abbrev pub whole_ranges : Region → List KeyRange → List KeyRange
whole_ranges region ranges = take (count_whole region ranges) ranges

abbrev pub behind_whole : Region → List KeyRange → List KeyRange
behind_whole region ranges = drop (count_whole region ranges) ranges

-- what a group takes of ranges of which the first does not end in the region, and what it leaves
abbrev pub cut_front : Region → List KeyRange → List KeyRange
cut_front region [] = []
cut_front region (range ∷ ranges) = if contains_key region range.start_key then front_of region range ∷ [] else []

abbrev pub cut_back : Region → List KeyRange → List KeyRange
cut_back region [] = []
cut_back region (range ∷ ranges) = if contains_key region range.start_key then back_of region range ∷ ranges else range ∷ ranges

-- The group of ranges in a region, in order, and the ranges behind it: as many as begin and end in the region, and the front of
-- the next where that begins there.
abbrev pub group_of : Region → List KeyRange → List KeyRange
group_of region ranges = whole_ranges region ranges ++ cut_front region (behind_whole region ranges)

abbrev pub behind_group : Region → List KeyRange → List KeyRange
behind_group region ranges = cut_back region (behind_whole region ranges)

-- each key of the range lies in the region
abbrev pub LiesIn : Region → KeyRange → Type 0
LiesIn region range = (key : Key) → in_range range key ≡ true → contains_key region key ≡ true

-- A group of ranges from the front of a list, and what is left of the list: each of the group lies in the region, and together
-- they have the keys of the list.
pub record IsRangeGroup (region : Region) (before group after : List KeyRange) : Type 0 where
  pub taken : group ≡ group_of region before
  pub left : after ≡ behind_group region before
  pub some : 0 < length group
  pub inside : All (LiesIn region) group
  pub joined : (key : Key) → in_ranges before key ≡ (in_ranges group key || in_ranges after key)

-- Groups one after another

-- from a place on to the end of the keys: of each group the region and the place behind it
abbrev pub AreKeyGroups : List Key → ℕ → List (Region × ℕ) → Type 0
AreKeyGroups keys first [] = first ≡ length keys
AreKeyGroups keys first (g ∷ gs) = IsKeyGroup keys first g.0 g.1 × AreKeyGroups keys g.1 gs

abbrev pub joined_keys : List Key → ℕ → List (Region × ℕ) → List Key
joined_keys keys first [] = []
joined_keys keys first (g ∷ gs) = slice_range keys first g.1 ++ joined_keys keys g.1 gs

-- of a list of ranges, until none is left: of each group the region and the ranges
abbrev pub AreRangeGroups : List KeyRange → List (Region × List KeyRange) → Type 0
AreRangeGroups ranges [] = ranges ≡ []
AreRangeGroups ranges (g ∷ gs) = (after : List KeyRange) × IsRangeGroup g.0 ranges g.1 after × AreRangeGroups after gs

abbrev pub in_groups : List (Region × List KeyRange) → Key → Bool
in_groups groups key = list_any (λ g. in_ranges g.1 key) groups

-- of a range, from a key on: of each piece the region and the two keys
abbrev pub AreRangePieces : Option Key → Key → List (Region × (Key × Key)) → Type 0
AreRangePieces None end ps = ps ≡ []
AreRangePieces (Some first) end [] = ⊥
AreRangePieces (Some first) end (p ∷ ps) = (next : Option Key) × IsRangePiece p.0 first end p.1 next × AreRangePieces next end ps

abbrev pub in_pieces : List (Region × (Key × Key)) → Key → Bool
in_pieces pieces key = list_any (λ p. is_between p.1.0 p.1.1 key) pieces
