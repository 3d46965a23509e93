-- Lists of calls of a region cache, the newest first, and what each leaves.
use Rattle.std.specs.Prelude.{◌≡◌, ℕ, List, [], ◌∷◌, true, false, not, if◌then◌else◌, Option, Some, None, Result, Ok, Err, map}
use Rattle.std.specs.List.{filter}
use Rattle.txn_kv.specs.Region.{contains_key}
use Rattle.txn_kv.specs.declared.errors.Error.{Error}
use Rattle.txn_kv.specs.declared.message.Peer.{Peer}
use Rattle.txn_kv.specs.declared.region.RegionVerId.{RegionVerId}
use Rattle.txn_kv.specs.declared.region.RegionWithLeader.{RegionWithLeader}
use Rattle.txn_kv.specs.declared.query.PdQuery.{PdQuery}
use Rattle.txn_kv.specs.declared.query.PdQuery.TheVariants as query
use Rattle.txn_kv.specs.declared.query.PdAnswer.{PdAnswer}
use Rattle.txn_kv.specs.declared.query.PdAnswer.TheVariants as answer
use Rattle.txn_region.specs.Regions.{Key, added, has_ver_id, led_if, region_refusal}
use Rattle.txn_region.specs.Cache.{Cache, empty, after_look_by_id, answer_refusal, cleared, is_spent, learnt, with_leader, with_region, without_region}

pub data Call : Type 0 where
  get_region_by_key : Key → Call
  get_region_by_id : ℕ → ℕ → Call
  get_store_by_id : ℕ → Call
  learn : PdQuery → Result PdAnswer Error → Call
  add_region : RegionWithLeader → Call
  update_leader : RegionVerId → Peer → Call
  invalidate : RegionVerId → Call

-- a call that was answered, or one that want of memory refused
pub data Made : Type 0 where
  answered : Call → Made
  starved : Call → Made

-- The cache after a list of calls, by the contract of each.

abbrev pub unless : Option Error → Cache → Cache → Cache
unless None c old = c
unless (Some refusal) c old = old

abbrev pub after_learn : PdQuery → Result PdAnswer Error → Cache → Cache
after_learn q (Ok a) c = unless (answer_refusal q a) (learnt q a (cleared q c)) (cleared q c)
after_learn q (Err e) c = cleared q c

abbrev pub after : Call → Cache → Cache
after (get_region_by_key key) c = c
after (get_region_by_id id waited) c = if is_spent id waited c then c else after_look_by_id id c
after (get_store_by_id id) c = c
after (learn q a) c = after_learn q a c
after (add_region r) c = unless (region_refusal r.region) (with_region r c) c
after (update_leader v leader) c = with_leader v leader c
after (invalidate v) c = without_region v c

-- want of memory leaves the cache as it was, but for the mark of a query that was answered
abbrev pub after_starved : Call → Cache → Cache
after_starved (learn q a) c = cleared q c
after_starved call c = c

abbrev pub after_made : Made → Cache → Cache
after_made (answered call) c = after call c
after_made (starved call) c = after_starved call c

abbrev pub cache_after : List Made → Cache
cache_after [] = empty
cache_after (made ∷ earlier) = after_made made (cache_after earlier)

-- The regions that a client believes in after a list of calls, the newest first, in no order of keys.

abbrev pub added_unless : Option Error → RegionWithLeader → List RegionWithLeader → List RegionWithLeader
added_unless None r rs = added r rs
added_unless (Some refusal) r rs = rs

abbrev pub believed_of : PdQuery → PdAnswer → List RegionWithLeader → List RegionWithLeader
believed_of (query.Region key) (answer.Region r) rs = added_unless (answer_refusal (query.Region key) (answer.Region r)) r rs
believed_of (query.RegionId id) (answer.Region r) rs = added_unless (answer_refusal (query.RegionId id) (answer.Region r)) r rs
believed_of q a rs = rs

abbrev pub believed : Call → List RegionWithLeader → List RegionWithLeader
believed (get_region_by_key key) rs = rs
believed (get_region_by_id id waited) rs = rs
believed (get_store_by_id id) rs = rs
believed (learn q (Ok a)) rs = believed_of q a rs
believed (learn q (Err e)) rs = rs
believed (add_region r) rs = added_unless (region_refusal r.region) r rs
believed (update_leader v leader) rs = map (led_if v leader) rs
believed (invalidate v) rs = filter (λ r. not (has_ver_id v r)) rs

abbrev pub regions_after : List Made → List RegionWithLeader
regions_after [] = []
regions_after (answered call ∷ earlier) = believed call (regions_after earlier)
regions_after (starved call ∷ earlier) = regions_after earlier

-- no key lies in two of the regions
abbrev pub NoneHolds : Key → List RegionWithLeader → Type 0
NoneHolds key [] = Unit {0}
NoneHolds key (r ∷ rs) = (contains_key r.region key ≡ false) × NoneHolds key rs

abbrev pub AreDisjoint : List RegionWithLeader → Type 0
AreDisjoint [] = Unit {0}
AreDisjoint (r ∷ rs) = ((key : Key) → contains_key r.region key ≡ true → NoneHolds key rs) × AreDisjoint rs
