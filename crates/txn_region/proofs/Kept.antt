-- What is kept was not refused.
use Rattle.std.proofs.Common.{◌≡◌, ℕ, suc, zero, ◌<◌, false, List, [], ◌∷◌, length, get_or, refl, sym, ap, ◌∙◌, arith}
use Rattle.std.specs.Prelude.{is_none, Some, None}
use Rattle.txn_kv.specs.declared.message.Region.{Region}
use Rattle.txn_kv.specs.declared.region.RegionWithLeader.{RegionWithLeader}
use Rattle.txn_region.specs.Regions.{has_id, is_reversed, region_of_id, region_refusal, AreKept, IsPlaceOf, IsSoundOf}
use Rattle.txn_region.proofs.Ids.{found_at_place, same_number}

taken_if : (g : Region) → is_reversed g ≡ false → is_none g.region_epoch ≡ false → region_refusal g ≡ None
taken_if g up e = rw (up, e) refl

first_taken : (r : RegionWithLeader) (rs : List RegionWithLeader) → AreKept (r ∷ rs) → region_refusal r.region ≡ None
first_taken r rs k = taken_if r.region k.apart.0 k.epochs.0

rest_kept : (r : RegionWithLeader) (rs : List RegionWithLeader) → AreKept (r ∷ rs) → AreKept rs
rest_kept r rs k = record { apart = k.apart.2; epochs = k.epochs.1; own_ids = k.own_ids.1 }

get_taken : (rs : List RegionWithLeader) (at : ℕ) (d : RegionWithLeader) → AreKept rs → at < length rs → region_refusal (get_or rs at d).region ≡ None
get_taken [] at d k l = absurd (omega arith)
get_taken (r ∷ rs) zero d k l = first_taken r rs k
get_taken (r ∷ rs) (suc at) d k l = get_taken rs at d (rest_kept r rs k) (omega arith)

pub taken_at : (rs : List RegionWithLeader) (at : ℕ) (r : RegionWithLeader) → AreKept rs → at < length rs → r ≡ get_or rs at r → region_refusal r.region ≡ None
taken_at rs at r k l read = ap (λ (x : RegionWithLeader). region_refusal x.region) read ∙ get_taken rs at r k l

pub sound_at_place : (id : ℕ) (rs : List RegionWithLeader) (at : ℕ) (r : RegionWithLeader) → AreKept rs → IsPlaceOf id rs at → r ≡ get_or rs at r → IsSoundOf id r
sound_at_place id rs at r k place read = (same_number r.region.id id (ap (has_id id) read ∙ place.has r), taken_at rs at r k place.in_range read)

pub found_at : (id : ℕ) (rs : List RegionWithLeader) (at : ℕ) (r : RegionWithLeader) → AreKept rs → IsPlaceOf id rs at → r ≡ get_or rs at r → Some r ≡ region_of_id id rs
found_at id rs at r k place read = ap (λ x. Some x) read ∙ sym (found_at_place id rs at r k.own_ids place.in_range (place.has r))
