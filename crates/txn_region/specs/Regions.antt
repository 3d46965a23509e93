-- Regions that a client knows: a list of which no two have a key in common. An empty end is unbounded.
use Rattle.std.specs.Prelude.{◌≡◌, ◌<◌, slice_index_or, ℕ, suc, List, [], ◌∷◌, Bool, true, false, not, ◌&&◌, ◌||◌, ◌==◌, cond, if◌then◌else◌, length, nat_eq, Option, Some, None, is_none}
use Rattle.std.specs.List.{filter, find, remove}
use Rattle.std.specs.Ordering.{nat_cmp, is_lt}
use Rattle.std.specs.declared.cmp.Ordering.{Ordering}
use Rattle.std.specs.Cmp.Lexicographic.{slice_cmp}
use Rattle.txn_kv.specs.declared.errors.Error.{Error}
use Rattle.txn_kv.specs.declared.errors.Error.TheVariants.{InternalError}
use Rattle.txn_kv.specs.declared.errors.Internal.TheVariants.{NoEpoch, ReversedRegion}
use Rattle.txn_kv.specs.declared.message.Peer.{Peer}
use Rattle.txn_kv.specs.declared.message.Region.{Region}
use Rattle.txn_kv.specs.declared.message.RegionEpoch.{RegionEpoch}
use Rattle.txn_kv.specs.declared.region.RegionVerId.{RegionVerId}
use Rattle.txn_kv.specs.declared.region.RegionWithLeader.{RegionWithLeader}
use Rattle.txn_kv.specs.Region.{contains_key}

abbrev pub Key : Type 0
Key = List ℕ

abbrev pub key_cmp : Key → Key → Ordering
key_cmp = slice_cmp nat_cmp

-- a key is below an end, where there is one
abbrev pub is_below : Key → Key → Bool
is_below key end = is_lt (key_cmp key end) || (length end == 0)

-- the end is not above the start
abbrev pub is_reversed : Region → Bool
is_reversed region = not (is_below region.start_key region.end_key)

-- why a region is not kept, if there is a reason
abbrev pub region_refusal : Region → Option Error
region_refusal region =
    if is_reversed region then Some (InternalError (ReversedRegion region.id))
    else (if is_none region.region_epoch then Some (InternalError (NoEpoch region.id)) else None)

-- two regions that are not reversed have a key in common: each begins below the end of the other
abbrev pub meets : Region → Region → Bool
meets a b = is_below a.start_key b.end_key && is_below b.start_key a.end_key

abbrev pub has_id : ℕ → RegionWithLeader → Bool
has_id id r = nat_eq r.region.id id

-- a region that stays when a new one comes: one of another id that has no key in common with it
abbrev pub stays : Region → RegionWithLeader → Bool
stays new r = not (has_id new.id r) && not (meets new r.region)

-- the regions once a new one came, with the new one first
abbrev pub added : RegionWithLeader → List RegionWithLeader → List RegionWithLeader
added new rs = new ∷ filter (stays new.region) rs

abbrev pub same_epoch : ℕ → ℕ → Option RegionEpoch → Bool
same_epoch conf_ver ver None = false
same_epoch conf_ver ver (Some epoch) = nat_eq epoch.conf_ver conf_ver && nat_eq epoch.version ver

-- the region of this id, at this epoch
abbrev pub has_ver_id : RegionVerId → RegionWithLeader → Bool
has_ver_id v r = has_id v.id r && same_epoch v.conf_ver v.ver r.region.region_epoch

abbrev pub led_if : RegionVerId → Peer → RegionWithLeader → RegionWithLeader
led_if v leader r = if has_ver_id v r then record r { leader = Some leader } else r

-- the region that contains a key, if one does
abbrev pub region_of_key : Key → List RegionWithLeader → Option RegionWithLeader
region_of_key key rs = find (λ r. contains_key r.region key) rs

abbrev pub region_of_id : ℕ → List RegionWithLeader → Option RegionWithLeader
region_of_id id rs = find (has_id id) rs

-- The same regions in ascending order of their starts.

-- a region among others in that order
abbrev pub placed : RegionWithLeader → List RegionWithLeader → List RegionWithLeader
placed new [] = new ∷ []
placed new (r ∷ rs) = cond (is_lt (key_cmp new.region.start_key r.region.start_key)) (new ∷ r ∷ rs) (r ∷ placed new rs)

abbrev pub in_order : List RegionWithLeader → List RegionWithLeader
in_order [] = []
in_order (r ∷ rs) = placed r (in_order rs)

-- each region begins where this one has ended
abbrev pub AllAfter : Region → List RegionWithLeader → Type 0
AllAfter region [] = Unit {0}
AllAfter region (r ∷ rs) = (is_below r.region.start_key region.end_key ≡ false) × AllAfter region rs

-- none is reversed, and each has ended where a later one begins
abbrev pub AreApart : List RegionWithLeader → Type 0
AreApart [] = Unit {0}
AreApart (r ∷ rs) = (is_reversed r.region ≡ false) × AllAfter r.region rs × AreApart rs

-- each has an epoch
abbrev pub HaveEpochs : List RegionWithLeader → Type 0
HaveEpochs [] = Unit {0}
HaveEpochs (r ∷ rs) = (is_none r.region.region_epoch ≡ false) × HaveEpochs rs

-- no two have the same id
abbrev pub NoneHasId : ℕ → List RegionWithLeader → Type 0
NoneHasId id [] = Unit {0}
NoneHasId id (r ∷ rs) = (has_id id r ≡ false) × NoneHasId id rs

abbrev pub HaveOwnIds : List RegionWithLeader → Type 0
HaveOwnIds [] = Unit {0}
HaveOwnIds (r ∷ rs) = NoneHasId r.region.id rs × HaveOwnIds rs

-- what holds of the regions that a cache keeps
pub record AreKept (rs : List RegionWithLeader) : Type 0 where
  pub apart : AreApart rs
  pub epochs : HaveEpochs rs
  pub own_ids : HaveOwnIds rs

-- a region that was not refused, and contains the key or is of the id
abbrev pub IsSoundAt : Key → RegionWithLeader → Type 0
IsSoundAt key r = (contains_key r.region key ≡ true) × (region_refusal r.region ≡ None)

abbrev pub IsSoundOf : ℕ → RegionWithLeader → Type 0
IsSoundOf id r = (r.region.id ≡ id) × (region_refusal r.region ≡ None)

-- how many pass a test from the first on
abbrev pub leading : (RegionWithLeader → Bool) → List RegionWithLeader → ℕ
leading p [] = 0
leading p (r ∷ rs) = cond (p r) (suc (leading p rs)) 0

-- how many have ended at a key, and how many begin below an end
abbrev pub ended_at : Key → List RegionWithLeader → ℕ
ended_at key rs = leading (λ r. not (is_below key r.region.end_key)) rs

abbrev pub begun_below : Key → List RegionWithLeader → ℕ
begun_below end rs = leading (λ r. is_below r.region.start_key end) rs

-- the region of the id stands at this place
pub record IsPlaceOf (id : ℕ) (rs : List RegionWithLeader) (at : ℕ) : Type 0 where
  pub in_range : at < length rs
  pub has : (d : RegionWithLeader) → has_id id (slice_index_or rs at d) ≡ true

abbrev pub without_place : {X : Type 0} → Option ℕ → List X → List X
without_place None xs = xs
without_place (Some at) xs = remove xs at

-- the regions of other ids that meet a new one
abbrev pub met : Region → List RegionWithLeader → List RegionWithLeader
met new rs = filter (λ r. meets new r.region) (filter (λ r. not (has_id new.id r)) rs)
