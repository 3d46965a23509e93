-- The first bytes of keys.
use Rattle.std.specs.Prelude.{◌≡◌, ◌==◌, if◌then◌else◌, ℕ, zero, suc, List, [], ◌∷◌, map, length, Option, Some, None}
use Rattle.txn_kv.specs.declared.region.RegionWithLeader.{RegionWithLeader}
use Rattle.txn_region.specs.Regions.{Key}

-- the first n bytes of a key; zeros follow a shorter one
abbrev pub first_bytes : ℕ → Key → Key
first_bytes zero key = []
first_bytes (suc n) [] = 0 ∷ first_bytes n []
first_bytes (suc n) (byte ∷ bytes) = byte ∷ first_bytes n bytes

abbrev pub key_head : Key → Key
key_head key = first_bytes 8 key

-- the head of a region's end; an empty end is unbounded
abbrev pub end_head : RegionWithLeader → Option Key
end_head r = if length r.region.end_key == 0 then None else Some (key_head r.region.end_key)

-- the ends of the regions have these heads
abbrev pub AreHeadsOf : List (Option Key) → List RegionWithLeader → Type 0
AreHeadsOf heads rs = heads ≡ map end_head rs
