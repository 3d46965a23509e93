-- What a call has found out about transactions, and where it has settled them.
use Rattle.std.specs.Prelude.{ℕ, List, [], Option, Some, None}
use Rattle.std.specs.BTreeMap.{BTreeMap, get}
use Rattle.std.specs.Cmp.Lexicographic.{slice_cmp}
use Rattle.std.specs.Ordering.{nat_cmp}
use Rattle.std.specs.Global.{Vec}
use Rattle.txn_history.specs.Plan.{Key}
use Rattle.txn_kv.specs.declared.region.RegionVerId.{RegionVerId}

abbrev pub at_primary : {T : Type 0} → Option (BTreeMap Key T) → Key → Option T
at_primary None p = None
at_primary (Some primaries) p = get (slice_cmp nat_cmp) primaries p

-- what is known of the transaction of this start and primary key
abbrev pub known_of : {T : Type 0} → BTreeMap ℕ (BTreeMap Key T) → ℕ → Key → Option T
known_of starts s p = at_primary (get nat_cmp starts s) p

abbrev pub items_of : Option (Vec RegionVerId) → List RegionVerId
items_of None = []
items_of (Some regions) = regions.items

-- the regions in which no lock of the start is left, in the order in which they were cleaned
abbrev pub cleaned_of : BTreeMap ℕ (Vec RegionVerId) → ℕ → List RegionVerId
cleaned_of starts s = items_of (get nat_cmp starts s)
