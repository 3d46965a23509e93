-- Regions of which none meets another, in the order of their starts.
use Rattle.std.proofs.Common.{◌≡◌, ℕ, suc, zero, ◌<◌, Bool, true, false, List, [], ◌∷◌, length, get_or, refl, sym, ap, ◌∙◌, subst, arith}
use Rattle.std.specs.Prelude.{cond, if◌then◌else◌, is_none, map, Some}
use Rattle.txn_kv.specs.declared.message.Peer.{Peer}
use Rattle.txn_kv.specs.declared.region.RegionVerId.{RegionVerId}
use Rattle.std.specs.List.{filter}
use Rattle.txn_kv.specs.declared.message.Region.{Region}
use Rattle.txn_kv.specs.declared.region.RegionWithLeader.{RegionWithLeader}
use Rattle.txn_region.specs.Regions.{Key, has_ver_id, led_if, is_below, is_reversed, AllAfter, AreApart, HaveEpochs, AreKept}
use Rattle.txn_region.specs.Calls.{AreDisjoint, NoneHolds}
use Rattle.txn_region.proofs.Ids.{own_filter, own_led}
use Rattle.txn_region.proofs.Order.{before_end, begins_after, contained_below, upright}

module _ (p : RegionWithLeader → Bool) where
  pub after_filter : (g : Region) (rs : List RegionWithLeader) → AllAfter g rs → AllAfter g (filter p rs)
  after_filter g [] a = tt
  after_filter g (r ∷ rs) a = by (p r) (after_filter g rs a.1)
    where
      by : (b : Bool) → AllAfter g (filter p rs) → AllAfter g (cond b (r ∷ filter p rs) (filter p rs))
      by true rest = (a.0, rest)
      by false rest = rest

  pub apart_filter : (rs : List RegionWithLeader) → AreApart rs → AreApart (filter p rs)
  apart_filter [] a = tt
  apart_filter (r ∷ rs) a = by (p r) (apart_filter rs a.2) (after_filter r.region rs a.1)
    where
      by : (b : Bool) → AreApart (filter p rs) → AllAfter r.region (filter p rs) → AreApart (cond b (r ∷ filter p rs) (filter p rs))
      by true rest after = (a.0, after, rest)
      by false rest after = rest

  epochs_filter : (rs : List RegionWithLeader) → HaveEpochs rs → HaveEpochs (filter p rs)
  epochs_filter [] a = tt
  epochs_filter (r ∷ rs) a = by (p r) (epochs_filter rs a.1)
    where
      by : (b : Bool) → HaveEpochs (filter p rs) → HaveEpochs (cond b (r ∷ filter p rs) (filter p rs))
      by true rest = (a.0, rest)
      by false rest = rest

  pub kept_filter : (rs : List RegionWithLeader) → AreKept rs → AreKept (filter p rs)
  kept_filter rs k = record { apart = apart_filter rs k.apart; epochs = epochs_filter rs k.epochs; own_ids = own_filter p rs k.own_ids }

-- A leader set: each region keeps its range and its epoch.

module _ (v : RegionVerId) (leader : Peer) where
  pub same_region : (r : RegionWithLeader) → (led_if v leader r).region ≡ r.region
  same_region r = by (has_ver_id v r)
    where
      by : (b : Bool) → (if b then record r { leader = Some leader } else r).region ≡ r.region
      by true = refl
      by false = refl

  after_led : (g : Region) (rs : List RegionWithLeader) → AllAfter g rs → AllAfter g (map (led_if v leader) rs)
  after_led g [] a = tt
  after_led g (r ∷ rs) a = (ap (λ (h : Region). is_below h.start_key g.end_key) (same_region r) ∙ a.0, after_led g rs a.1)

  pub apart_led : (rs : List RegionWithLeader) → AreApart rs → AreApart (map (led_if v leader) rs)
  apart_led [] a = tt
  apart_led (r ∷ rs) a = (ap is_reversed (same_region r) ∙ a.0, subst (λ h. AllAfter h (map (led_if v leader) rs)) (sym (same_region r)) (after_led r.region rs a.1), apart_led rs a.2)

  epochs_led : (rs : List RegionWithLeader) → HaveEpochs rs → HaveEpochs (map (led_if v leader) rs)
  epochs_led [] a = tt
  epochs_led (r ∷ rs) a = (ap (λ (h : Region). is_none h.region_epoch) (same_region r) ∙ a.0, epochs_led rs a.1)

  pub kept_led : (rs : List RegionWithLeader) → AreKept rs → AreKept (map (led_if v leader) rs)
  kept_led rs k = record { apart = apart_led rs k.apart; epochs = epochs_led rs k.epochs; own_ids = own_led v leader rs k.own_ids }

-- what comes after a region does not hold a key of it
none_later : (g : Region) (rs : List RegionWithLeader) → AllAfter g rs → (key : Key) → is_below key g.end_key ≡ true → NoneHolds key rs
none_later g [] a key holds = tt
none_later g (r ∷ rs) a key holds = (begins_after r.region key (before_end key r.region.start_key g.end_key a.0 holds), none_later g rs a.1 key holds)

pub disjoint_if_apart : (rs : List RegionWithLeader) → AreApart rs → AreDisjoint rs
disjoint_if_apart [] a = tt
disjoint_if_apart (r ∷ rs) a = ((λ key has. none_later r.region rs a.1 key (contained_below r.region key has)), disjoint_if_apart rs a.2)

pub upright_at : (rs : List RegionWithLeader) (i : ℕ) (d : RegionWithLeader) → AreApart rs → i < length rs → is_below (get_or rs i d).region.start_key (get_or rs i d).region.end_key ≡ true
upright_at [] i d a l = absurd (omega arith)
upright_at (r ∷ rs) zero d a l = upright r.region a.0
upright_at (r ∷ rs) (suc i) d a l = upright_at rs i d a.2 (omega arith)

after_at : (g : Region) (rs : List RegionWithLeader) (j : ℕ) (d : RegionWithLeader) → AllAfter g rs → j < length rs → is_below (get_or rs j d).region.start_key g.end_key ≡ false
after_at g [] j d a l = absurd (omega arith)
after_at g (r ∷ rs) zero d a l = a.0
after_at g (r ∷ rs) (suc j) d a l = after_at g rs j d a.1 (omega arith)

-- an earlier region has ended where a later one begins
pub later_after : (rs : List RegionWithLeader) (i j : ℕ) (d : RegionWithLeader) → AreApart rs → i < j → j < length rs → is_below (get_or rs j d).region.start_key (get_or rs i d).region.end_key ≡ false
later_after [] i j d a h l = absurd (omega arith)
later_after (r ∷ rs) i zero d a h l = absurd (omega arith)
later_after (r ∷ rs) zero (suc j) d a h l = after_at r.region rs j d a.1 (omega arith)
later_after (r ∷ rs) (suc i) (suc j) d a h l = later_after rs i j d a.2 (omega arith) (omega arith)
