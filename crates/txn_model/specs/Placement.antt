-- Regions, stores and the oracle.
use Rattle.std.specs.Prelude.{ℕ, ◌+◌, ◌-◌, ◌*◌, ◌/◌, ◌%◌, ◌^◌, max, Bool, true, not, ◌&&◌, ◌||◌, if◌then◌else◌, List, [], ◌∷◌, Option, Some, None, unwrap_or, find, nat_eq, nat_lt}
use Rattle.std.specs.Ordering.{is_lt, is_gt}
use Rattle.txn_kv.specs.declared.message.Context.{Context}
use Rattle.txn_kv.specs.declared.message.Peer.{Peer}
use Rattle.txn_kv.specs.declared.message.Region.{Region}
use Rattle.txn_kv.specs.declared.message.RegionEpoch.{RegionEpoch}
use Rattle.txn_kv.specs.declared.message.RegionErr.{RegionErr}
use Rattle.txn_kv.specs.declared.message.RegionErr.TheVariants.{NotLeader, RegionNotFound, EpochNotMatch}
use Rattle.txn_kv.specs.declared.message.StoreMeta.{StoreMeta}
use Rattle.txn_kv.specs.declared.message.StoreState.TheVariants.{Tombstone}
use Rattle.txn_kv.specs.declared.request.cluster.GetRegionRequest.{GetRegionRequest}
use Rattle.txn_kv.specs.declared.request.cluster.GetRegionByIdRequest.{GetRegionByIdRequest}
use Rattle.txn_kv.specs.declared.request.cluster.GetStoreRequest.{GetStoreRequest}
use Rattle.txn_kv.specs.declared.request.cluster.GetAllStoresRequest.{GetAllStoresRequest}
use Rattle.txn_kv.specs.declared.request.cluster.UpdateGcSafePointRequest.{UpdateGcSafePointRequest}
use Rattle.txn_kv.specs.declared.request.cluster.MembersRequest.{MembersRequest}
use Rattle.txn_kv.specs.declared.request.cluster.TsoRequest.{TsoRequest}
use Rattle.txn_kv.specs.declared.reply.cluster.GetRegionResponse.{GetRegionResponse}
use Rattle.txn_kv.specs.declared.reply.Reply.TheVariants.{GetRegion, GetRegionById, GetStore, GetAllStores, UpdateGcSafePoint, Tso, Members}
use Rattle.txn_kv.specs.Codec.{encoded}
use Rattle.txn_kv.specs.Timestamp.{timestamp_of}
use Rattle.txn_model.specs.declared.region.StoredRegion.{StoredRegion}
use Rattle.txn_model.specs.Cells.{key_cmp, has_none}
use Rattle.txn_model.specs.Store.{Store}
use Rattle.txn_model.specs.Handled.{Handled}

-- a bound of a region, as the placement driver tells it: encoded, where there is one
abbrev pub told_bound : List ℕ → List ℕ
told_bound [] = []
told_bound (b ∷ bs) = encoded (b ∷ bs)

abbrev pub region_record : StoredRegion → Region
region_record g = record { id = g.id; start_key = told_bound g.start_key; end_key = told_bound g.end_key; region_epoch = Some g.epoch }

-- the peer that leads a region has the id of its store
abbrev pub leader_of : StoredRegion → Peer
leader_of g = record { id = g.leader; store_id = g.leader }

abbrev pub region_with_id : List StoredRegion → ℕ → Option StoredRegion
region_with_id gs n = find (λ g. nat_eq g.id n) gs

-- an encoded key is in the region's encoded range, whose end is unbounded where it is empty
abbrev pub holds_key : StoredRegion → List ℕ → Bool
holds_key g k = not (is_gt (key_cmp (told_bound g.start_key) k)) && (has_none g.end_key || is_lt (key_cmp k (told_bound g.end_key)))

abbrev pub region_holding : List StoredRegion → List ℕ → Option StoredRegion
region_holding gs k = find (λ g. holds_key g k) gs

-- Region check.

abbrev pub epoch_differs : RegionEpoch → Option RegionEpoch → Bool
epoch_differs e None = true
epoch_differs e (Some x) = not (nat_eq x.version e.version && nat_eq x.conf_ver e.conf_ver)

abbrev pub led_elsewhere : StoredRegion → Option Peer → Bool
led_elsewhere g None = true
led_elsewhere g (Some p) = not (nat_eq p.store_id g.leader)

abbrev pub region_check_at : Option StoredRegion → Context → Option RegionErr
region_check_at None x = Some (RegionNotFound x.region_id)
region_check_at (Some g) x = if led_elsewhere g x.peer then Some (NotLeader g.id (Some (leader_of g))) else (if epoch_differs g.epoch x.region_epoch then Some (EpochNotMatch (region_record g ∷ [])) else None)

-- why a request with this context is refused before its row is looked at
abbrev pub region_check : List StoredRegion → Option Context → Option RegionErr
region_check gs None = Some (RegionNotFound 0)
region_check gs (Some x) = region_check_at (region_with_id gs x.region_id) x

-- Requests to the placement driver.

abbrev pub told_region : Option StoredRegion → GetRegionResponse
told_region None = record { region = None; leader = None }
told_region (Some g) = record { region = Some (region_record g); leader = Some (leader_of g) }

abbrev pub get_region_row : Store → GetRegionRequest → Handled
get_region_row st r = record { store = st; reply = GetRegion (told_region (region_holding st.regions r.region_key)) }

abbrev pub get_region_by_id_row : Store → GetRegionByIdRequest → Handled
get_region_by_id_row st r = record { store = st; reply = GetRegionById (told_region (region_with_id st.regions r.region_id)) }

abbrev pub unknown_store : ℕ → StoreMeta
unknown_store n = record { id = n; address = []; state = Tombstone; labels = [] }

abbrev pub store_with_id : List StoreMeta → ℕ → StoreMeta
store_with_id ss n = unwrap_or (find (λ s. nat_eq s.id n) ss) (unknown_store n)

abbrev pub get_store_row : Store → GetStoreRequest → Handled
get_store_row st r = record { store = st; reply = GetStore (record { store = store_with_id st.stores r.store_id }) }

abbrev pub get_all_stores_row : Store → GetAllStoresRequest → Handled
get_all_stores_row st r = record { store = st; reply = GetAllStores (record { stores = st.stores }) }

-- the safe point becomes the greater
abbrev pub update_gc_safe_point_row : Store → UpdateGcSafePointRequest → Handled
update_gc_safe_point_row st r = record { store = record st { safepoint = max st.safepoint r.safe_point }; reply = UpdateGcSafePoint (record { new_safe_point = max st.safepoint r.safe_point }) }

abbrev pub members_row : Store → MembersRequest → Handled
members_row st r = record { store = st; reply = Members (record {}) }

-- the first of the next timestamps, before it is known whether as many fit into its millisecond
abbrev pub next_timestamp : ℕ → ℕ → ℕ
next_timestamp last clock = max (last + 1) (clock * 2 ^ 18)

-- the first of m timestamps: where they don't fit, the next millisecond's first
abbrev pub first_from : ℕ → ℕ → ℕ
first_from next m = if nat_lt (next % 2 ^ 18 + (m - 1)) (2 ^ 18) then next else (next / 2 ^ 18 + 1) * 2 ^ 18

abbrev pub first_timestamp : ℕ → ℕ → ℕ → ℕ
first_timestamp last clock m = first_from (next_timestamp last clock) m

-- the last of m timestamps
abbrev pub last_timestamp : ℕ → ℕ → ℕ → ℕ
last_timestamp last clock m = first_timestamp last clock m + (m - 1)

abbrev pub tso_row : Store → TsoRequest → Handled
tso_row st r = record {
  store = record st { last = last_timestamp st.last st.clock r.count };
  reply = Tso (record { count = r.count; timestamp = Some (timestamp_of (last_timestamp st.last st.clock r.count)) });
}
