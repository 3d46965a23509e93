-- Where the region of each id starts.
use Rattle.std.specs.Prelude.{◌≡◌, ℕ, List, Option}
use Rattle.std.specs.BTreeMap.{BTreeMap, get}
use Rattle.std.specs.Option.{option_map}
use Rattle.std.specs.Ordering.{nat_cmp}
use Rattle.txn_kv.specs.declared.region.RegionWithLeader.{RegionWithLeader}
use Rattle.txn_region.specs.Regions.{Key, region_of_id}

abbrev pub start_at : BTreeMap ℕ Key → ℕ → Option Key
start_at starts id = get nat_cmp starts id

abbrev pub start_of : RegionWithLeader → Key
start_of r = r.region.start_key

-- the regions have these starts
abbrev pub AreStartsOf : BTreeMap ℕ Key → List RegionWithLeader → Type 0
AreStartsOf starts rs = (id : ℕ) → start_at starts id ≡ option_map start_of (region_of_id id rs)
