-- A region that requests can be made for lacks nothing: it has a store, a context and a version.
use Rattle.std.specs.Prelude.{◌≡◌, false, Option, Some, None, is_none, Ok, Err}
use Rattle.std.specs.Option.{ok_or}
use Rattle.txn_kv.specs.Region.{and_then, context_at, context_of, store_id_of, ver_id_at, ver_id_of}
use Rattle.txn_kv.specs.declared.errors.Error.{Error}
use Rattle.txn_kv.specs.declared.errors.Error.TheVariants.{InternalError, LeaderNotFound}
use Rattle.txn_kv.specs.declared.errors.Internal.TheVariants.{NoEpoch}
use Rattle.txn_kv.specs.declared.message.Peer.{Peer}
use Rattle.txn_kv.specs.declared.message.RegionEpoch.{RegionEpoch}
use Rattle.txn_kv.specs.declared.region.RegionWithLeader.{RegionWithLeader}
use Rattle.txn_region.specs.Clients.{IsUsable}

pub has_store : (r : RegionWithLeader) (error : Error) → IsUsable r → store_id_of r ≡ Err error → ⊥
has_store r error usable is = by r.leader usable.leader is
  where
    by : (leader : Option Peer) → is_none leader ≡ false → and_then (ok_or leader (LeaderNotFound r.region.id)) (λ (l : Peer). Ok l.store_id) ≡ Err error → ⊥
    by None some e = cc
    by (Some l) some e = cc

pub has_context : (r : RegionWithLeader) (error : Error) → IsUsable r → context_of r ≡ Err error → ⊥
has_context r error usable is = by r.leader r.region.region_epoch usable.leader usable.epoch is
  where
    by : (leader : Option Peer) (epoch : Option RegionEpoch) → is_none leader ≡ false → is_none epoch ≡ false
        → and_then (ok_or leader (LeaderNotFound r.region.id)) (λ (l : Peer). and_then (ok_or epoch (InternalError (NoEpoch r.region.id))) (λ (e : RegionEpoch). Ok (context_at r l e))) ≡ Err error
        → ⊥
    by None epoch led some e = cc
    by (Some l) None led some e = cc
    by (Some l) (Some p) led some e = cc

pub has_version : (r : RegionWithLeader) (error : Error) → IsUsable r → ver_id_of r ≡ Err error → ⊥
has_version r error usable is = by r.region.region_epoch usable.epoch is
  where
    by : (epoch : Option RegionEpoch) → is_none epoch ≡ false → and_then (ok_or epoch (InternalError (NoEpoch r.region.id))) (λ (e : RegionEpoch). Ok (ver_id_at r.region e)) ≡ Err error → ⊥
    by None some e = cc
    by (Some p) some e = cc
