-- Keys of regions as the placement driver has them, and as they are shown: decoded, where the driver's are encoded.
use Rattle.std.specs.Prelude.{◌≡◌, ◌⊎◌, List, [], Bool, true, false, cond, ℕ}
use Rattle.txn_kv.specs.Codec.{encoded}
use Rattle.txn_kv.specs.declared.errors.Error.{Error}
use Rattle.txn_kv.specs.declared.errors.Error.TheVariants.{InternalError}
use Rattle.txn_kv.specs.declared.errors.Internal.{Internal}
use Rattle.txn_kv.specs.declared.region.RegionWithLeader.{RegionWithLeader}
use Rattle.txn_region.specs.Clients.{IsBadKey}
use Rattle.txn_region.specs.Regions.{Key}

-- the bytes are the encoding of the key; no bytes stand for the empty key, which a region has for no bound
abbrev pub IsDecoded : List ℕ → Key → Type 0
IsDecoded bytes key = ((bytes ≡ []) × (key ≡ [])) ⊎ (bytes ≡ encoded key)

-- a key as it is stored: encoded or not
abbrev pub stored_key : Bool → Key → Key
stored_key encodes key = cond encodes (encoded key) key

-- a region's key as it is stored, and as it is shown
abbrev pub IsShown : Bool → List ℕ → Key → Type 0
IsShown true stored shown = IsDecoded stored shown
IsShown false stored shown = shown ≡ stored

abbrev pub CanBeShown : Bool → List ℕ → Type 0
CanBeShown encodes stored = (shown : Key) × IsShown encodes stored shown

-- a region with its stored keys, and with the keys that are shown
pub record IsShownAs (encodes : Bool) (stored shown : RegionWithLeader) : Type 0 where
  pub id : shown.region.id ≡ stored.region.id
  pub start : IsShown encodes stored.region.start_key shown.region.start_key
  pub end : IsShown encodes stored.region.end_key shown.region.end_key
  pub epoch : shown.region.region_epoch ≡ stored.region.region_epoch
  pub leader : shown.leader ≡ stored.leader

-- one of the two keys is no encoding
abbrev pub HasBadKey : RegionWithLeader → Error → Type 0
HasBadKey r error = (what : Internal) × (IsBadKey r.region.start_key what ⊎ IsBadKey r.region.end_key what) × (error ≡ InternalError what)
