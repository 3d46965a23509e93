-- What a client of the placement driver is asked and answers, and which answers of the driver it refuses.
use Rattle.std.specs.Prelude.{◌≡◌, ◌≢◌, ◌⊎◌, ⊤, ℕ, List, [], ◌++◌, true, false, length, nat_eq, is_none, Result, Ok, Err}
use Rattle.txn_kv.specs.Codec.{encoded, key_length}
use Rattle.txn_kv.specs.ErrorView.{view_of}
use Rattle.txn_kv.specs.Region.{contains_key}
use Rattle.txn_kv.specs.declared.errors.Error.{Error}
use Rattle.txn_kv.specs.declared.errors.Error.TheVariants.{InternalError, LeaderNotFound, OutOfMemory, RegionNotFoundInResponse}
use Rattle.txn_kv.specs.declared.errors.Internal.{Internal}
use Rattle.txn_kv.specs.declared.errors.Internal.TheVariants.{BadEnd, NoEpoch, ReversedRegion, WrongReply}
use Rattle.txn_kv.specs.declared.look.Look.{Look}
use Rattle.txn_kv.specs.declared.look.Look.TheVariants.{Found, Query, Wait}
use Rattle.txn_kv.specs.declared.query.PdQuery.{PdQuery}
use Rattle.txn_kv.specs.declared.query.PdQuery.TheVariants as query
use Rattle.txn_kv.specs.declared.query.PdAnswer.{PdAnswer}
use Rattle.txn_kv.specs.declared.query.PdAnswer.TheVariants as answer
use Rattle.txn_kv.specs.declared.region.RegionWithLeader.{RegionWithLeader}
use Rattle.txn_region.specs.Regions.{Key, is_reversed}

-- Look-ups

abbrev pub MatchLook : {T : Type 0} → Look T → (T → Type 0) → (PdQuery → Type 0) → Type 0 → Type 0
MatchLook (Found x) found asked waits = found x
MatchLook (Query q) found asked waits = asked q
MatchLook Wait found asked waits = waits

-- a region that requests can be made for: its end is above its start, and it has an epoch and a leader
pub record IsUsable (r : RegionWithLeader) : Type 0 where
  pub right_way : is_reversed r.region ≡ false
  pub epoch : is_none r.region.region_epoch ≡ false
  pub leader : is_none r.leader ≡ false

-- what is found at a key, and of an id
abbrev pub IsFoundAt : Key → RegionWithLeader → Type 0
IsFoundAt key r = (contains_key r.region key ≡ true) × IsUsable r

abbrev pub IsFoundOf : ℕ → RegionWithLeader → Type 0
IsFoundOf id r = (r.region.id ≡ id) × IsUsable r

-- a query for a region or for a store
abbrev pub IsPlaceQuery : PdQuery → Type 0
IsPlaceQuery (query.Region key) = ⊤
IsPlaceQuery (query.RegionId id) = ⊤
IsPlaceQuery (query.Store id) = ⊤
IsPlaceQuery query.Stores = ⊥
IsPlaceQuery query.Time = ⊥
IsPlaceQuery (query.Safepoint time) = ⊥

-- want of memory, or another reason
abbrev pub OrStarved : (Error → Type 0) → Error → Type 0
OrStarved why error = (error ≡ OutOfMemory) ⊎ why error

-- a fact that want of memory leaves open
abbrev pub UnlessStarved : {T : Type 0} → Result T Error → Type 0 → Type 0
UnlessStarved (Ok x) fact = fact
UnlessStarved (Err error) fact = (error ≡ OutOfMemory) ⊎ fact

-- Answers that are refused

-- The bytes of a region's key are no encoding, and this says why: a group is refused, or bytes follow the closing group.
abbrev pub IsBadKey : List ℕ → Internal → Type 0
IsBadKey bytes what =
    (key_length 0 bytes ≡ Err what)
    ⊎ ((key : Key) × (rest : List ℕ) × (bytes ≡ encoded key ++ rest) × (rest ≢ []) × (what ≡ BadEnd (length (encoded key))))

-- what is wrong with a region record
pub data IsBadRegion (r : RegionWithLeader) : Error → Type 0 where
  reversed : is_reversed r.region ≡ true → IsBadRegion r (InternalError (ReversedRegion r.region.id))
  no_epoch : is_none r.region.region_epoch ≡ true → IsBadRegion r (InternalError (NoEpoch r.region.id))
  bad_start : (what : Internal) → IsBadKey r.region.start_key what → IsBadRegion r (InternalError what)
  bad_end : (what : Internal) → IsBadKey r.region.end_key what → IsBadRegion r (InternalError what)
  no_leader : is_none r.leader ≡ true → IsBadRegion r (LeaderNotFound r.region.id)

-- an answer that is refused, and why: its region is wrong in itself, or another than the one that was asked for; or it is of
-- another kind than the query
abbrev pub IsBadAnswer : PdQuery → PdAnswer → Error → Type 0
IsBadAnswer (query.Region key) (answer.Region r) error =
    IsBadRegion r error ⊎ ((contains_key r.region key ≡ false) × (error ≡ RegionNotFoundInResponse r.region.id))
IsBadAnswer (query.RegionId id) (answer.Region r) error =
    IsBadRegion r error ⊎ ((nat_eq r.region.id id ≡ false) × (error ≡ RegionNotFoundInResponse id))
IsBadAnswer (query.Store id) (answer.Store s) error = ⊥
IsBadAnswer query.Stores (answer.Stores all) error = ⊥
IsBadAnswer query.Time (answer.Time t) error = ⊥
IsBadAnswer (query.Safepoint time) (answer.Safepoint t) error = ⊥
IsBadAnswer q a error = error ≡ InternalError WrongReply

-- why what came of a query is refused: an error is passed on
abbrev pub IsRefused : PdQuery → Result PdAnswer Error → Error → Type 0
IsRefused q (Ok a) error = IsBadAnswer q a error
IsRefused q (Err e) error = view_of error ≡ view_of e
