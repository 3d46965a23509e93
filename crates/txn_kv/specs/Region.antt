-- A region with its leader, as a client keeps it.
use Rattle.std.specs.Prelude.{ℕ, List, Bool, ◌&&◌, ◌||◌, ◌==◌, length, Some, Result, Ok, Err}
use Rattle.std.specs.Option.{ok_or}
use Rattle.std.specs.Ordering.{nat_cmp, is_le, is_lt}
use Rattle.std.specs.Cmp.Lexicographic.{slice_cmp}
use Rattle.txn_kv.specs.declared.errors.Error.{Error}
use Rattle.txn_kv.specs.declared.errors.Error.TheVariants.{LeaderNotFound, InternalError}
use Rattle.txn_kv.specs.declared.errors.Internal.TheVariants.{NoEpoch}
use Rattle.txn_kv.specs.declared.message.ApiVersion.TheVariants.{V1}
use Rattle.txn_kv.specs.declared.message.Context.{Context}
use Rattle.txn_kv.specs.declared.message.Peer.{Peer}
use Rattle.txn_kv.specs.declared.message.Region.{Region}
use Rattle.txn_kv.specs.declared.message.RegionEpoch.{RegionEpoch}
use Rattle.txn_kv.specs.declared.region.RegionVerId.{RegionVerId}
use Rattle.txn_kv.specs.declared.region.RegionWithLeader.{RegionWithLeader}

-- the key is not below the start, and below the end where the end is not empty
abbrev pub contains_key : Region → List ℕ → Bool
contains_key region key =
    is_le (slice_cmp nat_cmp region.start_key key)
    && (is_lt (slice_cmp nat_cmp key region.end_key) || (length region.end_key == 0))

abbrev pub epoch_or_refused : Region → Result RegionEpoch Error
epoch_or_refused region = ok_or region.region_epoch (InternalError (NoEpoch region.id))

abbrev pub leader_or_refused : RegionWithLeader → Result Peer Error
leader_or_refused r = ok_or r.leader (LeaderNotFound r.region.id)

-- what follows an Ok; a refusal stays
abbrev pub and_then : {T U : Type 0} → Result T Error → (T → Result U Error) → Result U Error
and_then (Ok x) next = next x
and_then (Err refusal) next = Err refusal

abbrev pub context_at : RegionWithLeader → Peer → RegionEpoch → Context
context_at r leader epoch = record { region_id = r.region.id; region_epoch = Some epoch; peer = Some leader; api_version = V1 }

-- the context of a request for the region: the leader is asked for first
abbrev pub context_of : RegionWithLeader → Result Context Error
context_of r =
    and_then (leader_or_refused r) (λ leader. and_then (epoch_or_refused r.region) (λ epoch. Ok (context_at r leader epoch)))

abbrev pub ver_id_at : Region → RegionEpoch → RegionVerId
ver_id_at region epoch = record { id = region.id; conf_ver = epoch.conf_ver; ver = epoch.version }

abbrev pub ver_id_of : RegionWithLeader → Result RegionVerId Error
ver_id_of r = and_then (epoch_or_refused r.region) (λ epoch. Ok (ver_id_at r.region epoch))

abbrev pub store_id_of : RegionWithLeader → Result ℕ Error
store_id_of r = and_then (leader_or_refused r) (λ leader. Ok leader.store_id)
