-- What stands in a reply: errors of regions and of keys, and regions.
use Rattle.std.specs.Prelude.{◌≡◌, ◌≢◌, ◌⊎◌, ⊤, ℕ, Bool, true, false, not, ◌||◌, ◌==◌, List, [], ◌∷◌, ◌++◌, length, Option, Some, None, option_map, Err}
use Rattle.std.specs.Cmp.Lexicographic.{slice_cmp}
use Rattle.std.specs.List.{flat_map}
use Rattle.std.specs.Ordering.{nat_cmp, is_lt}
use Rattle.txn_history.specs.Among.{IsAmong}
use Rattle.txn_kv.specs.Codec.{encoded, key_length}
use Rattle.txn_kv.specs.Region.{contains_key}
use Rattle.txn_kv.specs.declared.errors.Internal.{Internal}
use Rattle.txn_kv.specs.declared.errors.Internal.TheVariants.{BadEnd}
use Rattle.txn_kv.specs.declared.message.KeyError.{KeyError}
use Rattle.txn_kv.specs.declared.message.KeyError.TheVariants.{Locked}
use Rattle.txn_kv.specs.declared.message.LockInfo.{LockInfo}
use Rattle.txn_kv.specs.declared.message.PbPair.{PbPair}
use Rattle.txn_kv.specs.declared.message.Region.{Region}
use Rattle.txn_kv.specs.declared.message.RegionErr.{RegionErr}
use Rattle.txn_kv.specs.declared.message.RegionErr.TheVariants.{EpochNotMatch}
use Rattle.txn_kv.specs.declared.region.RegionWithLeader.{RegionWithLeader}
use Rattle.txn_kv.specs.declared.reply.cluster.GetRegionResponse.{GetRegionResponse}
use Rattle.txn_kv.specs.declared.reply.Reply.{Reply}
use Rattle.txn_kv.specs.declared.reply.Reply.TheVariants as reply
use Rattle.txn_kv.specs.declared.request.Request.{Request}
use Rattle.txn_kv.specs.declared.request.Request.TheVariants as request

-- Errors

-- the store refused the request for its region, with this error
abbrev pub region_error_in : Reply → Option RegionErr
region_error_in (reply.Get o) = o.region_error
region_error_in (reply.BatchGet o) = o.region_error
region_error_in (reply.Scan o) = o.region_error
region_error_in (reply.Prewrite o) = o.region_error
region_error_in (reply.Commit o) = o.region_error
region_error_in (reply.Cleanup o) = o.region_error
region_error_in (reply.BatchRollback o) = o.region_error
region_error_in (reply.PessimisticRollback o) = o.region_error
region_error_in (reply.PessimisticLock o) = o.region_error
region_error_in (reply.ResolveLock o) = o.region_error
region_error_in (reply.ScanLock o) = o.region_error
region_error_in (reply.TxnHeartBeat o) = o.region_error
region_error_in (reply.CheckTxnStatus o) = o.region_error
region_error_in (reply.CheckSecondaryLocks o) = o.region_error
region_error_in (reply.UnsafeDestroyRange o) = o.region_error
region_error_in _ = None

abbrev pub listed : Option KeyError → List KeyError
listed None = []
listed (Some error) = error ∷ []

abbrev pub pair_errors : List PbPair → List KeyError
pair_errors = flat_map (λ pair. listed pair.error)

-- it refused the request at keys, with these errors: its error, its errors, or those of its pairs
abbrev pub key_errors_in : Reply → List KeyError
key_errors_in (reply.Get o) = listed o.error
key_errors_in (reply.BatchGet o) = listed o.error ++ pair_errors o.pairs
key_errors_in (reply.Scan o) = listed o.error ++ pair_errors o.pairs
key_errors_in (reply.Prewrite o) = o.errors
key_errors_in (reply.Commit o) = listed o.error
key_errors_in (reply.Cleanup o) = listed o.error
key_errors_in (reply.BatchRollback o) = listed o.error
key_errors_in (reply.PessimisticRollback o) = o.errors
key_errors_in (reply.PessimisticLock o) = o.errors
key_errors_in (reply.ResolveLock o) = listed o.error
key_errors_in (reply.ScanLock o) = listed o.error
key_errors_in (reply.TxnHeartBeat o) = listed o.error
key_errors_in (reply.CheckTxnStatus o) = listed o.error
key_errors_in (reply.CheckSecondaryLocks o) = listed o.error
key_errors_in _ = []

abbrev pub HasRegionError : RegionErr → Reply → Type 0
HasRegionError error o = region_error_in o ≡ Some error

abbrev pub HasKeyError : KeyError → Reply → Type 0
HasKeyError error o = IsAmong (key_errors_in o) error

-- the lock stood in the way
abbrev pub HasLock : LockInfo → Reply → Type 0
HasLock lock o = HasKeyError (Locked lock) o

-- no lock did
abbrev pub HasNoLock : Reply → Type 0
HasNoLock o = (lock : LockInfo) → HasLock lock o → ⊥

-- it tells of no lock
abbrev pub IsNoLock : KeyError → Type 0
IsNoLock (Locked lock) = ⊥
IsNoLock _ = ⊤

-- Regions

abbrev pub record_of : GetRegionResponse → Option RegionWithLeader
record_of o = option_map (λ region. record { region = region; leader = o.leader }) o.region

-- the region that a look-up found
abbrev pub region_in : Reply → Option RegionWithLeader
region_in (reply.GetRegion o) = record_of o
region_in (reply.GetRegionById o) = record_of o
region_in _ = None

-- a look-up found a region that is so
abbrev pub HasRegion : (RegionWithLeader → Type 0) → Reply → Type 0
HasRegion is o = (r : RegionWithLeader) × (region_in o ≡ Some r) × is r

-- a look-up found no region
abbrev pub FoundNone : Request → Reply → Type 0
FoundNone (request.GetRegion r) (reply.GetRegion o) = o.region ≡ None
FoundNone (request.GetRegionById r) (reply.GetRegionById o) = o.region ≡ None
FoundNone _ _ = ⊥

-- A look-up did not find the region that was asked for: one by this id found none of that id; one by a key found the region of
-- the id, in which that key does not lie.
abbrev pub FoundOther : ℕ → Request → Reply → Type 0
FoundOther id (request.GetRegionById r) (reply.GetRegionById o) = (r.region_id ≡ id) × ((region : Region) → o.region ≡ Some region → region.id ≢ id)
FoundOther id (request.GetRegion r) (reply.GetRegion o) = (region : Region) × (o.region ≡ Some region) × (region.id ≡ id) × (contains_key region r.region_key ≡ false)
FoundOther id _ _ = ⊥

-- What is wrong with a region.

-- its end is not above its start; an empty end is unbounded
abbrev pub is_reversed : Region → Bool
is_reversed region = not (is_lt (slice_cmp nat_cmp region.start_key region.end_key) || (length region.end_key == 0))

abbrev pub IsReversed : ℕ → RegionWithLeader → Type 0
IsReversed id r = (r.region.id ≡ id) × (is_reversed r.region ≡ true)

abbrev pub HasNoLeader : ℕ → RegionWithLeader → Type 0
HasNoLeader id r = (r.region.id ≡ id) × (r.leader ≡ None)

abbrev pub HasNoEpoch : ℕ → Region → Type 0
HasNoEpoch id region = (region.id ≡ id) × (region.region_epoch ≡ None)

-- the bytes encode no key, and this says why: a group is refused, or bytes follow the closing group
abbrev pub IsNoKey : List ℕ → Internal → Type 0
IsNoKey bytes what =
    (key_length 0 bytes ≡ Err what)
    ⊎ ((key : List ℕ) × (rest : List ℕ) × (bytes ≡ encoded key ++ rest) × (rest ≢ []) × (what ≡ BadEnd (length (encoded key))))

abbrev pub HasBadKey : Internal → RegionWithLeader → Type 0
HasBadKey what r = IsNoKey r.region.start_key what ⊎ IsNoKey r.region.end_key what

-- A store refused a request for its region, and told of regions, of which the one of this id has no epoch.
abbrev pub ToldWithoutEpoch : ℕ → Reply → Type 0
ToldWithoutEpoch id o = (regions : List Region) × (region : Region) × HasRegionError (EpochNotMatch regions) o × IsAmong regions region × HasNoEpoch id region
