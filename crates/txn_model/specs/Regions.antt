-- What changes the store from outside: a region is split or led elsewhere, the clock is set.
use Rattle.std.specs.Prelude.{ℕ, ◌+◌, Bool, not, ◌&&◌, if◌then◌else◌, List, [], ◌∷◌, length, map, is_some, nat_eq, nat_le}
use Rattle.std.specs.List.{list_any}
use Rattle.txn_kv.specs.declared.message.RegionEpoch.{RegionEpoch}
use Rattle.txn_model.specs.declared.region.StoredRegion.{StoredRegion}
use Rattle.txn_model.specs.Cells.{Key, key_eq}
use Rattle.txn_model.specs.Ranges.{in_range}
use Rattle.txn_model.specs.Placement.{region_with_id}
use Rattle.txn_model.specs.Store.{Store}

-- Split

-- a region begins at the key
abbrev pub starts_at : List StoredRegion → Key → Bool
starts_at gs k = list_any (λ g. key_eq g.start_key k) gs

-- the regions have the ids from 1 on, so this is the least that is unused
abbrev pub unused_id : List StoredRegion → ℕ
unused_id gs = length gs + 1

abbrev pub next_version : RegionEpoch → RegionEpoch
next_version e = record { conf_ver = e.conf_ver; version = e.version + 1 }

-- the lower part keeps its id
abbrev pub lower_part : Key → StoredRegion → StoredRegion
lower_part k g = record { id = g.id; start_key = g.start_key; end_key = k; epoch = next_version g.epoch; leader = g.leader }

-- the upper part gets the new id, and the same leader
abbrev pub upper_part : Key → ℕ → StoredRegion → StoredRegion
upper_part k n g = record { id = n; start_key = k; end_key = g.end_key; epoch = next_version g.epoch; leader = g.leader }

-- the regions with the one that holds the key in two parts, the upper one of this id
abbrev pub split_at : Key → ℕ → List StoredRegion → List StoredRegion
split_at k n [] = []
split_at k n (g ∷ gs) = if in_range g.start_key g.end_key k then lower_part k g ∷ upper_part k n g ∷ gs else g ∷ split_at k n gs

-- a key that no region starts with splits one
abbrev pub can_split : Store → Key → Bool
can_split st k = not (starts_at st.regions k)

abbrev pub split : Store → Key → Store
split st k = if can_split st k then record st { regions = split_at k (unused_id st.regions) st.regions } else st

-- Lead

abbrev pub led_if : ℕ → ℕ → StoredRegion → StoredRegion
led_if region store g = if nat_eq g.id region then record g { leader = store } else g

-- the regions with this one led by the store
abbrev pub led_by : ℕ → ℕ → List StoredRegion → List StoredRegion
led_by region store gs = map (led_if region store) gs

-- the region is known, and the store is one of the three
abbrev pub can_lead : Store → ℕ → ℕ → Bool
can_lead st region store = is_some (region_with_id st.regions region) && nat_le 1 store && nat_le store 3

abbrev pub lead : Store → ℕ → ℕ → Store
lead st region store = if can_lead st region store then record st { regions = led_by region store st.regions } else st

-- Clock

abbrev pub at_clock : Store → ℕ → Store
at_clock st ms = record st { clock = ms }
