-- What a client believes of regions and stores, with keys as the placement driver has them.
use Rattle.std.specs.Prelude.{◌≡◌, ◌⊎◌, ⊤, List, [], ◌∷◌, Bool, true, false, Option, Some, None, is_none, Result, Ok, Err, MatchOption, MatchResult}
use Rattle.txn_kv.specs.Region.{ver_id_at}
use Rattle.txn_kv.specs.declared.errors.Error.{Error}
use Rattle.txn_kv.specs.declared.errors.Error.TheVariants.{LeaderNotFound, StringError}
use Rattle.txn_kv.specs.declared.message.Region.{Region}
use Rattle.txn_kv.specs.declared.message.RegionEpoch.{RegionEpoch}
use Rattle.txn_kv.specs.declared.query.PdQuery.{PdQuery}
use Rattle.txn_kv.specs.declared.query.PdQuery.TheVariants as query
use Rattle.txn_kv.specs.declared.query.PdAnswer.{PdAnswer}
use Rattle.txn_kv.specs.declared.query.PdAnswer.TheVariants as answer
use Rattle.txn_kv.specs.declared.region.RegionWithLeader.{RegionWithLeader}
use Rattle.txn_region.specs.Cache.{Cache, answer_refusal, cleared, learnt, without_region}
use Rattle.txn_region.specs.Clients.{OrStarved}
use Rattle.txn_region.specs.Decoded.{CanBeShown, HasBadKey, IsShownAs}
use Rattle.txn_region.specs.Regions.{region_of_id, region_of_key}
use Rattle.txn_region.specs.Stores.{store_of_id}

pub record Believed : Type 0 where
  pub cache : Cache
  -- the placement driver's keys are encoded
  pub encodes : Bool

-- A region that can be given out: its keys can be shown, and it has a leader.
pub record IsGood (encodes : Bool) (r : RegionWithLeader) : Type 0 where
  pub start : CanBeShown encodes r.region.start_key
  pub end : CanBeShown encodes r.region.end_key
  pub leader : is_none r.leader ≡ false

abbrev pub AreGood : Bool → List RegionWithLeader → Type 0
AreGood encodes [] = Unit {0}
AreGood encodes (r ∷ rs) = IsGood encodes r × AreGood encodes rs

-- why a region can not be given out: its keys are looked at first
abbrev pub IsSpoilt : Bool → RegionWithLeader → Error → Type 0
IsSpoilt encodes r error =
    ((encodes ≡ true) × HasBadKey r error)
    ⊎ (CanBeShown encodes r.region.start_key × CanBeShown encodes r.region.end_key × (is_none r.leader ≡ true) × (error ≡ LeaderNotFound r.region.id))

-- what the client has no answer to
abbrev pub IsUnknown : Cache → PdQuery → Type 0
IsUnknown c (query.Region key) = region_of_key key c.regions ≡ None
IsUnknown c (query.RegionId id) = region_of_id id c.regions ≡ None
IsUnknown c (query.Store id) = store_of_id id c.stores ≡ None
IsUnknown c query.Stores = ⊤
IsUnknown c query.Time = ⊤
IsUnknown c (query.Safepoint time) = ⊤

abbrev pub IsText : Error → Type 0
IsText (StringError message) = ⊤
IsText _ = ⊥

-- the cache without the region of this id at this epoch
abbrev pub without_version : Region → Option RegionEpoch → Cache → Cache
without_version region None c = c
without_version region (Some epoch) c = without_region (ver_id_at region epoch) c

abbrev pub without_record : RegionWithLeader → Cache → Cache
without_record r c = without_version r.region r.region.region_epoch c

-- An answer that is not refused is kept; but a region that can not be given out is dropped again, and what it took the place of
-- is gone.
abbrev pub IsKept : Bool → PdQuery → PdAnswer → Cache → Cache → Type 0
IsKept encodes q (answer.Region r) old new =
    (IsGood encodes r × (new ≡ learnt q (answer.Region r) old))
    ⊎ ((error : Error) × IsSpoilt encodes r error × (new ≡ without_record r (learnt q (answer.Region r) old)))
IsKept encodes q a old new = new ≡ learnt q a old

-- A region that was kept is judged: where it can not be given out it is dropped again.
abbrev pub IsJudged : {T : Type 0} → Bool → PdAnswer → Cache → Result T Error → Cache → Type 0
IsJudged encodes (answer.Region r) old result new =
    MatchResult result (λ _. IsGood encodes r × (new ≡ old)) (λ error. (new ≡ without_record r old) × OrStarved (IsSpoilt encodes r) error)
IsJudged encodes a old result new = MatchResult result (λ _. new ≡ old) (λ error. ⊥)

-- how what came of a query changes the cache
abbrev pub Learns : Bool → PdQuery → Result PdAnswer Error → Cache → Cache → Type 0
Learns encodes q (Ok a) old new =
    MatchOption (answer_refusal q a) (IsKept encodes q a (cleared q old) new) (λ refusal. new ≡ cleared q old)
Learns encodes q (Err e) old new = new ≡ cleared q old

-- what a look-up shows is what the cache has
abbrev pub IsCachedAs : Bool → Option RegionWithLeader → RegionWithLeader → Type 0
IsCachedAs encodes None shown = ⊥
IsCachedAs encodes (Some r) shown = IsShownAs encodes r shown
