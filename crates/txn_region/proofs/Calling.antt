-- A cache after a list of calls has the regions that a client believes in, in the order of their starts.
use Rattle.std.proofs.Common.{◌≡◌, ℕ, Bool, true, false, List, [], ◌∷◌, refl, sym, ap, ◌∙◌, subst}
use Rattle.std.specs.Prelude.{cond, if◌then◌else◌, not, map, Option, Some, None, Result, Ok, Err}
use Rattle.std.specs.List.{filter}
use Rattle.std.specs.Ordering.{is_lt}
use Rattle.txn_kv.specs.Region.{contains_key}
use Rattle.txn_kv.specs.declared.errors.Error.{Error}
use Rattle.txn_kv.specs.declared.message.Peer.{Peer}
use Rattle.txn_kv.specs.declared.message.Region.{Region}
use Rattle.txn_kv.specs.declared.region.RegionVerId.{RegionVerId}
use Rattle.txn_kv.specs.declared.region.RegionWithLeader.{RegionWithLeader}
use Rattle.txn_kv.specs.declared.query.PdAnswer.{PdAnswer}
use Rattle.txn_kv.specs.declared.query.PdAnswer.TheVariants as answer
use Rattle.txn_kv.specs.declared.query.PdQuery.{PdQuery}
use Rattle.txn_kv.specs.declared.query.PdQuery.TheVariants as query
use Rattle.txn_region.specs.Regions.{Key, key_cmp, added, has_ver_id, in_order, led_if, placed, region_of_id, region_of_key, region_refusal, stays, AllAfter, AreApart}
use Rattle.txn_region.specs.Cache.{Cache, after_look_by_id, answer_refusal, asked_where, cleared, is_pending, is_spent, learnt, or_elsewhere, with_region}
use Rattle.txn_region.specs.Calls.{Call, Made, after, after_starved, added_unless, believed, believed_of, cache_after, regions_after, unless, AreDisjoint, NoneHolds}
use Rattle.txn_region.specs.Calls.Call.{add_region, get_region_by_id, get_region_by_key, get_store_by_id, invalidate, learn, update_leader}
use Rattle.txn_region.specs.Calls.Made.{answered, starved}
use Rattle.txn_region.proofs.Apart.{after_filter, apart_filter, apart_led, disjoint_if_apart, same_region}
use Rattle.txn_region.proofs.Order.{upright}
use Rattle.txn_region.proofs.Placing.{apart_added, in_order_already, placed_first, upright_if_taken}

by_cases : (b : Bool) {G : Type 0} → (b ≡ true → G) → (b ≡ false → G) → G
by_cases true f g = f refl
by_cases false f g = g refl

-- Some of the regions, in order.

after_rest : (g : Region) (x : RegionWithLeader) (ys : List RegionWithLeader) → AllAfter g (placed x ys) → AllAfter g ys
after_rest g x [] a = tt
after_rest g x (y ∷ ys) a = by (is_lt (key_cmp x.region.start_key y.region.start_key)) a (after_rest g x ys)
  where
    by : (b : Bool) → AllAfter g (cond b (x ∷ y ∷ ys) (y ∷ placed x ys)) → (AllAfter g (placed x ys) → AllAfter g ys) → AllAfter g (y ∷ ys)
    by true a rest = a.1
    by false a rest = (a.0, rest a.1)

apart_rest : (x : RegionWithLeader) (ys : List RegionWithLeader) → AreApart (placed x ys) → AreApart ys
apart_rest x [] a = tt
apart_rest x (y ∷ ys) a = by (is_lt (key_cmp x.region.start_key y.region.start_key)) a (apart_rest x ys)
  where
    by : (b : Bool) → AreApart (cond b (x ∷ y ∷ ys) (y ∷ placed x ys)) → (AreApart (placed x ys) → AreApart ys) → AreApart (y ∷ ys)
    by true a rest = a.2
    by false a rest = (a.0, after_rest y.region x ys a.1, rest a.2)

module _ (p : RegionWithLeader → Bool) where
  filter_placed : (x : RegionWithLeader) (ys : List RegionWithLeader) → AreApart (placed x ys) → filter p (placed x ys) ≡ cond (p x) (placed x (filter p ys)) (filter p ys)
  filter_placed x [] a = refl
  filter_placed x (y ∷ ys) a = by_cases (is_lt (key_cmp x.region.start_key y.region.start_key)) first (later (filter_placed x ys))
    where
      first : is_lt (key_cmp x.region.start_key y.region.start_key) ≡ true → filter p (placed x (y ∷ ys)) ≡ cond (p x) (placed x (filter p (y ∷ ys))) (filter p (y ∷ ys))
      first less =
          let apart : AreApart (x ∷ y ∷ ys) = subst (λ b. AreApart (cond b (x ∷ y ∷ ys) (y ∷ placed x ys))) less a in
          ap (λ b. filter p (cond b (x ∷ y ∷ ys) (y ∷ placed x ys))) less
          ∙ sym (ap (λ zs. cond (p x) zs (filter p (y ∷ ys))) (placed_first x (filter p (y ∷ ys)) (upright x.region apart.0) (after_filter p x.region (y ∷ ys) apart.1)))

      later : (AreApart (placed x ys) → filter p (placed x ys) ≡ cond (p x) (placed x (filter p ys)) (filter p ys)) → is_lt (key_cmp x.region.start_key y.region.start_key) ≡ false → filter p (placed x (y ∷ ys)) ≡ cond (p x) (placed x (filter p (y ∷ ys))) (filter p (y ∷ ys))
      later rest unless_less =
          let apart : AreApart (y ∷ placed x ys) = subst (λ b. AreApart (cond b (x ∷ y ∷ ys) (y ∷ placed x ys))) unless_less a in
          ap (λ b. filter p (cond b (x ∷ y ∷ ys) (y ∷ placed x ys))) unless_less
          ∙ (ap (λ zs. cond (p y) (y ∷ zs) zs) (rest apart.2) ∙ by (p x) (p y))
        where
          by : (b c : Bool) → cond c (y ∷ cond b (placed x (filter p ys)) (filter p ys)) (cond b (placed x (filter p ys)) (filter p ys)) ≡ cond b (placed x (cond c (y ∷ filter p ys) (filter p ys))) (cond c (y ∷ filter p ys) (filter p ys))
          by true true = sym (ap (λ b. cond b (x ∷ y ∷ filter p ys) (y ∷ placed x (filter p ys))) unless_less)
          by true false = refl
          by false true = refl
          by false false = refl

  pub filter_in_order : (rs : List RegionWithLeader) → AreApart (in_order rs) → filter p (in_order rs) ≡ in_order (filter p rs)
  filter_in_order [] a = refl
  filter_in_order (r ∷ rs) a =
      filter_placed r (in_order rs) a ∙ by (p r) (filter_in_order rs (apart_rest r (in_order rs) a))
    where
      by : (b : Bool) → filter p (in_order rs) ≡ in_order (filter p rs) → cond b (placed r (filter p (in_order rs))) (filter p (in_order rs)) ≡ in_order (cond b (r ∷ filter p rs) (filter p rs))
      by true rest = ap (placed r) rest
      by false rest = rest

-- A leader set in order.

module _ (v : RegionVerId) (leader : Peer) where
  led_placed : (x : RegionWithLeader) (ys : List RegionWithLeader) → map (led_if v leader) (placed x ys) ≡ placed (led_if v leader x) (map (led_if v leader) ys)
  led_placed x [] = refl
  led_placed x (y ∷ ys) =
      by (is_lt (key_cmp x.region.start_key y.region.start_key)) (led_placed x ys)
      ∙ ap (λ b. cond b (led_if v leader x ∷ map (led_if v leader) (y ∷ ys)) (led_if v leader y ∷ placed (led_if v leader x) (map (led_if v leader) ys))) same
    where
      same : is_lt (key_cmp x.region.start_key y.region.start_key) ≡ is_lt (key_cmp (led_if v leader x).region.start_key (led_if v leader y).region.start_key)
      same = sym (ap (λ (g : Region). is_lt (key_cmp g.start_key (led_if v leader y).region.start_key)) (same_region v leader x) ∙ ap (λ (g : Region). is_lt (key_cmp x.region.start_key g.start_key)) (same_region v leader y))

      by : (b : Bool) → map (led_if v leader) (placed x ys) ≡ placed (led_if v leader x) (map (led_if v leader) ys) → map (led_if v leader) (cond b (x ∷ y ∷ ys) (y ∷ placed x ys)) ≡ cond b (led_if v leader x ∷ map (led_if v leader) (y ∷ ys)) (led_if v leader y ∷ placed (led_if v leader x) (map (led_if v leader) ys))
      by true rest = refl
      by false rest = ap (λ zs. led_if v leader y ∷ zs) rest

  led_in_order : (rs : List RegionWithLeader) → map (led_if v leader) (in_order rs) ≡ in_order (map (led_if v leader) rs)
  led_in_order [] = refl
  led_in_order (r ∷ rs) = led_placed r (in_order rs) ∙ ap (placed (led_if v leader r)) (led_in_order rs)

-- A look-up finds the same in order.

not_placed : (key : Key) (x : RegionWithLeader) (ys : List RegionWithLeader) → NoneHolds key (placed x ys) → contains_key x.region key ≡ false
not_placed key x [] none = none.0
not_placed key x (y ∷ ys) none = by (is_lt (key_cmp x.region.start_key y.region.start_key)) none (not_placed key x ys)
  where
    by : (b : Bool) → NoneHolds key (cond b (x ∷ y ∷ ys) (y ∷ placed x ys)) → (NoneHolds key (placed x ys) → contains_key x.region key ≡ false) → contains_key x.region key ≡ false
    by true none rest = none.0
    by false none rest = rest none.1

find_placed : (key : Key) (x : RegionWithLeader) (ys : List RegionWithLeader) → AreDisjoint (placed x ys) → region_of_key key (placed x ys) ≡ region_of_key key (x ∷ ys)
find_placed key x [] d = refl
find_placed key x (y ∷ ys) d = by_order (is_lt (key_cmp x.region.start_key y.region.start_key)) d (find_placed key x ys)
  where
    by_order : (b : Bool) → AreDisjoint (cond b (x ∷ y ∷ ys) (y ∷ placed x ys)) → (AreDisjoint (placed x ys) → region_of_key key (placed x ys) ≡ region_of_key key (x ∷ ys)) → region_of_key key (cond b (x ∷ y ∷ ys) (y ∷ placed x ys)) ≡ region_of_key key (x ∷ y ∷ ys)
    by_order true d rest = refl
    by_order false d rest =
        ap (λ z. cond (contains_key y.region key) (Some y) z) (rest d.1)
        ∙ swap (contains_key x.region key) (contains_key y.region key) (λ has. not_placed key x ys (d.0 key has))
      where
        swap : (b c : Bool) → (c ≡ true → b ≡ false) → cond c (Some y) (cond b (Some x) (region_of_key key ys)) ≡ cond b (Some x) (cond c (Some y) (region_of_key key ys))
        swap true true h = absurd (let e : true ≡ false = h refl in cc)
        swap true false h = refl
        swap false true h = refl
        swap false false h = refl

pub find_in_order : (key : Key) (rs : List RegionWithLeader) → AreApart (in_order rs) → region_of_key key (in_order rs) ≡ region_of_key key rs
find_in_order key [] a = refl
find_in_order key (r ∷ rs) a =
    find_placed key r (in_order rs) (disjoint_if_apart (placed r (in_order rs)) a)
    ∙ ap (λ z. cond (contains_key r.region key) (Some r) z) (find_in_order key rs (apart_rest r (in_order rs) a))

-- The calls, one by one.

-- kept in order: these are those, and are apart
pub record IsOrderOf (kept rs : List RegionWithLeader) : Type 0 where
  pub same : kept ≡ in_order rs
  pub apart : AreApart kept

filtered : (p : RegionWithLeader → Bool) (kept rs : List RegionWithLeader) → IsOrderOf kept rs → IsOrderOf (filter p kept) (filter p rs)
filtered p kept rs o = record {
  same = ap (filter p) o.same ∙ filter_in_order p rs (subst AreApart o.same o.apart);
  apart = apart_filter p kept o.apart;
}

led : (v : RegionVerId) (leader : Peer) (kept rs : List RegionWithLeader) → IsOrderOf kept rs → IsOrderOf (map (led_if v leader) kept) (map (led_if v leader) rs)
led v leader kept rs o = record {
  same = ap (map (led_if v leader)) o.same ∙ led_in_order v leader rs;
  apart = apart_led v leader kept o.apart;
}

one_added : (new : RegionWithLeader) (kept rs : List RegionWithLeader) → region_refusal new.region ≡ None → IsOrderOf kept rs → IsOrderOf (in_order (added new kept)) (added new rs)
one_added new kept rs taken o =
    let others = filtered (stays new.region) kept rs o in
    record {
      same = ap (placed new) (in_order_already (filter (stays new.region) kept) others.apart ∙ others.same);
      apart = apart_added new kept (upright_if_taken new.region taken) o.apart;
    }

none_elsewhere : (refusal : Option Error) (asked_for : Bool) (id : ℕ) → or_elsewhere refusal asked_for id ≡ None → refusal ≡ None
none_elsewhere None asked_for id h = refl
none_elsewhere (Some e) asked_for id h = absurd (cc)

added_or_not : (refusal : Option Error) (r : RegionWithLeader) (c : Cache) (rs : List RegionWithLeader) → (refusal ≡ None → region_refusal r.region ≡ None) → IsOrderOf c.regions rs → IsOrderOf (unless refusal (with_region r c) c).regions (added_unless refusal r rs)
added_or_not None r c rs taken o = one_added r c.regions rs (taken refl) o
added_or_not (Some e) r c rs taken o = o

looked_up : (id waited : ℕ) (c : Cache) → (if is_spent id waited c then c else after_look_by_id id c).regions ≡ c.regions
looked_up id waited c = by (is_spent id waited c) (is_pending id c) (region_of_id id c.regions)
  where
    by : (spent pending : Bool) (found : Option RegionWithLeader) → (if spent then c else asked_where id pending found c).regions ≡ c.regions
    by true pending found = refl
    by false pending (Some r) = refl
    by false true None = refl
    by false false None = refl

clears : (q : PdQuery) (c : Cache) → (cleared q c).regions ≡ c.regions
clears (query.Region key) c = refl
clears (query.RegionId id) c = refl
clears (query.Store id) c = refl
clears query.Stores c = refl
clears query.Time c = refl
clears (query.Safepoint time) c = refl

learnt_or_not : (q : PdQuery) (a : PdAnswer) (c : Cache) (rs : List RegionWithLeader) → IsOrderOf c.regions rs → IsOrderOf (unless (answer_refusal q a) (learnt q a (cleared q c)) (cleared q c)).regions (believed_of q a rs)
learnt_or_not (query.Region key) (answer.Region r) c rs o = added_or_not (answer_refusal (query.Region key) (answer.Region r)) r c rs (none_elsewhere _ _ _) o
learnt_or_not (query.RegionId id) (answer.Region r) c rs o = added_or_not (answer_refusal (query.RegionId id) (answer.Region r)) r (cleared (query.RegionId id) c) rs (none_elsewhere _ _ _) o
learnt_or_not (query.Region key) (answer.Store s) c rs o = o
learnt_or_not (query.Region key) (answer.Stores ss) c rs o = o
learnt_or_not (query.Region key) (answer.Time t) c rs o = o
learnt_or_not (query.Region key) (answer.Safepoint t) c rs o = o
learnt_or_not (query.RegionId id) (answer.Store s) c rs o = o
learnt_or_not (query.RegionId id) (answer.Stores ss) c rs o = o
learnt_or_not (query.RegionId id) (answer.Time t) c rs o = o
learnt_or_not (query.RegionId id) (answer.Safepoint t) c rs o = o
learnt_or_not (query.Store id) (answer.Region r) c rs o = o
learnt_or_not (query.Store id) (answer.Store s) c rs o = o
learnt_or_not (query.Store id) (answer.Stores ss) c rs o = o
learnt_or_not (query.Store id) (answer.Time t) c rs o = o
learnt_or_not (query.Store id) (answer.Safepoint t) c rs o = o
learnt_or_not query.Stores (answer.Region r) c rs o = o
learnt_or_not query.Stores (answer.Store s) c rs o = o
learnt_or_not query.Stores (answer.Stores ss) c rs o = o
learnt_or_not query.Stores (answer.Time t) c rs o = o
learnt_or_not query.Stores (answer.Safepoint t) c rs o = o
learnt_or_not query.Time (answer.Region r) c rs o = o
learnt_or_not query.Time (answer.Store s) c rs o = o
learnt_or_not query.Time (answer.Stores ss) c rs o = o
learnt_or_not query.Time (answer.Time t) c rs o = o
learnt_or_not query.Time (answer.Safepoint t) c rs o = o
learnt_or_not (query.Safepoint time) (answer.Region r) c rs o = o
learnt_or_not (query.Safepoint time) (answer.Store s) c rs o = o
learnt_or_not (query.Safepoint time) (answer.Stores ss) c rs o = o
learnt_or_not (query.Safepoint time) (answer.Time t) c rs o = o
learnt_or_not (query.Safepoint time) (answer.Safepoint t) c rs o = o

told : (q : PdQuery) (a : Result PdAnswer Error) (c : Cache) (rs : List RegionWithLeader) → IsOrderOf c.regions rs → IsOrderOf (after (learn q a) c).regions (believed (learn q a) rs)
told q (Ok a) c rs o = learnt_or_not q a c rs o
told q (Err e) c rs o = subst (λ kept. IsOrderOf kept rs) (sym (clears q c)) o

call_in_order : (call : Call) (c : Cache) (rs : List RegionWithLeader) → IsOrderOf c.regions rs → IsOrderOf (after call c).regions (believed call rs)
call_in_order (get_region_by_key key) c rs o = o
call_in_order (get_region_by_id id waited) c rs o = subst (λ kept. IsOrderOf kept rs) (sym (looked_up id waited c)) o
call_in_order (get_store_by_id id) c rs o = o
call_in_order (learn q a) c rs o = told q a c rs o
call_in_order (add_region r) c rs o = added_or_not (region_refusal r.region) r c rs (λ h. h) o
call_in_order (update_leader v leader) c rs o = led v leader c.regions rs o
call_in_order (invalidate v) c rs o = filtered (λ r. not (has_ver_id v r)) c.regions rs o

starved_in_order : (call : Call) (c : Cache) (rs : List RegionWithLeader) → IsOrderOf c.regions rs → IsOrderOf (after_starved call c).regions rs
starved_in_order (get_region_by_key key) c rs o = o
starved_in_order (get_region_by_id id waited) c rs o = o
starved_in_order (get_store_by_id id) c rs o = o
starved_in_order (learn q a) c rs o = subst (λ kept. IsOrderOf kept rs) (sym (clears q c)) o
starved_in_order (add_region r) c rs o = o
starved_in_order (update_leader v leader) c rs o = o
starved_in_order (invalidate v) c rs o = o

pub calls_in_order : (calls : List Made) → IsOrderOf (cache_after calls).regions (regions_after calls)
calls_in_order [] = record { same = refl; apart = tt }
calls_in_order (answered call ∷ earlier) = call_in_order call (cache_after earlier) (regions_after earlier) (calls_in_order earlier)
calls_in_order (starved call ∷ earlier) = starved_in_order call (cache_after earlier) (regions_after earlier) (calls_in_order earlier)

pub calls_look_up : (calls : List Made) (key : Key) → region_of_key key (cache_after calls).regions ≡ region_of_key key (regions_after calls)
calls_look_up calls key =
    let o = calls_in_order calls in
    ap (region_of_key key) o.same ∙ find_in_order key (regions_after calls) (subst AreApart o.same o.apart)
