-- What a client that gives regions out believes: what is kept can be given out.
use Rattle.std.proofs.Common.{◌≡◌, ◌⊎◌, inl, inr, ℕ, Bool, true, false, List, [], ◌∷◌, length, length-append, refl, sym, ap, ◌∙◌, subst, arith}
use Rattle.std.specs.Prelude.{cond, not, ◌&&◌, ◌||◌, ◌==◌, if◌then◌else◌, is_none, map, nat_eq, Option, Some, None, Result, Ok, Err, IfErr, IfOk, MatchOption, Vec, ⊤}
use Rattle.std.specs.Global.{Global}
use Rattle.std.specs.List.{filter, find}
use Rattle.std.specs.Ordering.{is_le, is_lt}
use Rattle.std.proofs.lemmas.Bool.Decides.{nat_tests}
use Rattle.txn_kv.proofs.Decoding.{encoded-some}
use Rattle.txn_kv.proofs.Order.{ordered_alone}
use Rattle.txn_kv.specs.Codec.{encoded}
use Rattle.txn_kv.specs.Region.{contains_key, ver_id_at}
use Rattle.txn_kv.specs.declared.errors.Error.{Error}
use Rattle.txn_kv.specs.declared.errors.Error.TheVariants.{InternalError, OutOfMemory, RegionNotFoundInResponse, StringError}
use Rattle.txn_kv.specs.declared.errors.Internal.TheVariants.{NoEpoch, ReversedRegion}
use Rattle.txn_kv.specs.declared.look.Look.{Look}
use Rattle.txn_kv.specs.declared.look.Look.TheVariants.{Found, Query, Wait}
use Rattle.txn_kv.specs.declared.message.Peer.{Peer}
use Rattle.txn_kv.specs.declared.message.RegionEpoch.{RegionEpoch}
use Rattle.txn_kv.specs.declared.message.StoreMeta.{StoreMeta}
use Rattle.txn_kv.specs.declared.timestamp.Timestamp.{Timestamp}
use Rattle.txn_kv.specs.declared.query.PdQuery.{PdQuery}
use Rattle.txn_kv.specs.declared.query.PdQuery.TheVariants as query
use Rattle.txn_kv.specs.declared.query.PdAnswer.{PdAnswer}
use Rattle.txn_kv.specs.declared.query.PdAnswer.TheVariants as answer
use Rattle.txn_kv.specs.declared.region.RegionVerId.{RegionVerId}
use Rattle.txn_kv.specs.declared.region.RegionWithLeader.{RegionWithLeader}
use Rattle.txn_region.specs.Cache.{Cache, answer_refusal, cleared, found_or, found_or_wait, learnt, or_elsewhere, with_region, IsGivenUp, IsRefusal}
use Rattle.txn_region.specs.Clients.{bad_end, bad_start, no_epoch, no_leader, reversed, IsBadAnswer, IsBadRegion, IsFoundAt, IsFoundOf, IsRefused, IsUsable, MatchLook, OrStarved, UnlessStarved}
use Rattle.txn_region.specs.Decoded.{stored_key, IsDecoded, IsShownAs}
use Rattle.txn_region.specs.Placement.{without_record, without_version, AreGood, IsCachedAs, IsGood, IsJudged, IsSpoilt, IsText, IsUnknown, Learns}
use Rattle.txn_region.specs.Regions.{Key, added, has_id, has_ver_id, in_order, is_below, is_reversed, key_cmp, led_if, placed, region_of_id, region_of_key, region_refusal, same_epoch, stays, IsSoundAt, IsSoundOf}
use Rattle.txn_region.proofs.Placing.{upright_if_taken}
use Rattle.txn_region.proofs.RangePieces.{both_of, by_cases, first_of, second_of}

-- ---- regions that can be given out

good_head : (encodes : Bool) (p : RegionWithLeader → Bool) (r x : RegionWithLeader) (rs : List RegionWithLeader) → IsGood encodes r → (find p rs ≡ Some x → IsGood encodes x) → cond (p r) (Some r) (find p rs) ≡ Some x → IsGood encodes x
good_head encodes p r x rs here later found =
    by_cases (p r)
    (λ yes_it. let same : r ≡ x = cc (sym (ap (λ b. cond b (Some r) (find p rs)) yes_it) ∙ found) in subst (IsGood encodes) same here)
    (λ no_not. later (sym (ap (λ b. cond b (Some r) (find p rs)) no_not) ∙ found))

pub good_found : (encodes : Bool) (p : RegionWithLeader → Bool) (rs : List RegionWithLeader) (x : RegionWithLeader) → AreGood encodes rs → find p rs ≡ Some x → IsGood encodes x
good_found encodes p [] x good found = absurd (cc)
good_found encodes p (r ∷ rs) x good found = good_head encodes p r x rs good.0 (good_found encodes p rs x good.1) found

good_if : (encodes : Bool) (b : Bool) (r : RegionWithLeader) (rs : List RegionWithLeader) → (b ≡ true → IsGood encodes r) → AreGood encodes rs → AreGood encodes (cond b (r ∷ rs) rs)
good_if encodes true r rs here rest = (here refl, rest)
good_if encodes false r rs here rest = rest

pub good_filter : (encodes : Bool) (p : RegionWithLeader → Bool) (rs : List RegionWithLeader) → AreGood encodes rs → AreGood encodes (filter p rs)
good_filter encodes p [] good = tt
good_filter encodes p (r ∷ rs) good = good_if encodes (p r) r (filter p rs) (λ _. good.0) (good_filter encodes p rs good.1)

pub good_led : (encodes : Bool) (v : RegionVerId) (leader : Peer) (rs : List RegionWithLeader) → AreGood encodes rs → AreGood encodes (map (led_if v leader) rs)
good_led encodes v leader [] good = tt
good_led encodes v leader (r ∷ rs) good = (by (has_ver_id v r), good_led encodes v leader rs good.1)
  where
    by : (b : Bool) → IsGood encodes (if b then record r { leader = Some leader } else r)
    by true = record { start = good.0.start; end = good.0.end; leader = refl }
    by false = good.0

good_placed : (encodes : Bool) (new : RegionWithLeader) (rs : List RegionWithLeader) → IsGood encodes new → AreGood encodes rs → AreGood encodes (placed new rs)
good_placed encodes new [] here good = (here, tt)
good_placed encodes new (r ∷ rs) here good = by (is_lt (key_cmp new.region.start_key r.region.start_key)) (good_placed encodes new rs here good.1)
  where
    by : (b : Bool) → AreGood encodes (placed new rs) → AreGood encodes (cond b (new ∷ r ∷ rs) (r ∷ placed new rs))
    by true rest = (here, good)
    by false rest = (good.0, rest)

pub good_in_order : (encodes : Bool) (rs : List RegionWithLeader) → AreGood encodes rs → AreGood encodes (in_order rs)
good_in_order encodes [] good = tt
good_in_order encodes (r ∷ rs) good = good_placed encodes r (in_order rs) good.0 (good_in_order encodes rs good.1)

pub good_added : (encodes : Bool) (new : RegionWithLeader) (rs : List RegionWithLeader) → IsGood encodes new → AreGood encodes rs → AreGood encodes (in_order (added new rs))
good_added encodes new rs here good = good_in_order encodes (added new rs) (here, good_filter encodes (stays new.region) rs good)

-- a region that comes and goes leaves the others
good_but : (encodes : Bool) (p : RegionWithLeader → Bool) (new : RegionWithLeader) (rs : List RegionWithLeader) → p new ≡ false → AreGood encodes rs → AreGood encodes (filter p (placed new rs))
good_but encodes p new [] goes good = subst (AreGood encodes) (sym (ap (λ b. cond b (new ∷ []) []) goes)) tt
good_but encodes p new (r ∷ rs) goes good = by (is_lt (key_cmp new.region.start_key r.region.start_key)) (good_but encodes p new rs goes good.1)
  where
    by : (b : Bool) → AreGood encodes (filter p (placed new rs)) → AreGood encodes (filter p (cond b (new ∷ r ∷ rs) (r ∷ placed new rs)))
    by true rest = subst (AreGood encodes) (sym (ap (λ c. cond c (new ∷ filter p (r ∷ rs)) (filter p (r ∷ rs))) goes)) (good_filter encodes p (r ∷ rs) good)
    by false rest = good_if encodes (p r) r (filter p (placed new rs)) (λ _. good.0) rest

same_numbers : (a : ℕ) → nat_eq a a ≡ true
same_numbers a = grind (arith, nat_tests)

is_itself : (r : RegionWithLeader) (epoch : RegionEpoch) → r.region.region_epoch ≡ Some epoch → has_ver_id (ver_id_at r.region epoch) r ≡ true
is_itself r epoch has =
    both_of (has_id r.region.id r) (same_epoch epoch.conf_ver epoch.version r.region.region_epoch)
    (same_numbers r.region.id)
    (subst (λ e. same_epoch epoch.conf_ver epoch.version e ≡ true) (sym has)
    (both_of (nat_eq epoch.conf_ver epoch.conf_ver) (nat_eq epoch.version epoch.version) (same_numbers epoch.conf_ver) (same_numbers epoch.version)))

pub good_without : (encodes : Bool) (new : RegionWithLeader) (c : Cache) → region_refusal new.region ≡ None → AreGood encodes c.regions → AreGood encodes (without_record new (with_region new c)).regions
good_without encodes new c taken good = by new.region.region_epoch refl
  where
    by : (e : Option RegionEpoch) → new.region.region_epoch ≡ e → AreGood encodes (without_version new.region e (with_region new c)).regions
    by None is = absurd (none_taken (is_reversed new.region) new.region.region_epoch new.region.id taken is)
      where
        none_taken : (b : Bool) (e : Option RegionEpoch) (id : ℕ)
            → (if b then Some (InternalError (ReversedRegion id)) else (if is_none e then Some (InternalError (NoEpoch id)) else None)) ≡ None
            → e ≡ None → ⊥
        none_taken true e id h is = cc
        none_taken false None id h is = cc
        none_taken false (Some x) id h is = cc
    by (Some epoch) is =
        good_but encodes (λ r. not (has_ver_id (ver_id_at new.region epoch) r)) new (in_order (filter (stays new.region) c.regions))
        (ap not (is_itself new epoch is))
        (good_in_order encodes (filter (stays new.region) c.regions) (good_filter encodes (stays new.region) c.regions good))

pub good_without_any : (encodes : Bool) (r : RegionWithLeader) (c : Cache) → AreGood encodes c.regions → AreGood encodes (without_record r c).regions
good_without_any encodes r c good = by r.region.region_epoch
  where
    by : (e : Option RegionEpoch) → AreGood encodes (without_version r.region e c).regions
    by None = good
    by (Some epoch) = good_filter encodes (λ x. not (has_ver_id (ver_id_at r.region epoch) x)) c.regions good

-- ---- what look-ups find

pub found_some : {X : Type 0} (q : PdQuery) (o : Option X) (x : X) → found_or q o ≡ Found x → o ≡ Some x
found_some q None x h = absurd (cc)
found_some q (Some y) x h = ap Some (cc)

pub found_some_or_wait : (id : ℕ) (pending : Bool) (o : Option RegionWithLeader) (x : RegionWithLeader) → found_or_wait id pending o ≡ Found x → o ≡ Some x
found_some_or_wait id true None x h = absurd (cc)
found_some_or_wait id false None x h = absurd (cc)
found_some_or_wait id pending (Some y) x h = ap Some (cc)

-- ---- regions as they are shown

least : (key : Key) → is_le (key_cmp [] key) ≡ true
least [] = refl
least (x ∷ xs) = refl

below_any : (end : Key) → is_below [] end ≡ true
below_any [] = refl
below_any (x ∷ xs) = refl

or_true : (b : Bool) → (b || true) ≡ true
or_true true = refl
or_true false = refl

encoding_some : (key : Key) → (length (encoded key) == 0) ≡ false
encoding_some key = let long = encoded-some key [] in let more = length-append (encoded key) [] in grind (arith, nat_tests)

below_no_end : (key : Key) → is_below key [] ≡ true
below_no_end key = or_true (is_lt (key_cmp key []))

at_most_shown : (s d key : Key) → IsDecoded s d → is_le (key_cmp s (encoded key)) ≡ true → is_le (key_cmp d key) ≡ true
at_most_shown s d key (inl e) h = subst (λ x. is_le (key_cmp x key) ≡ true) (sym e.1) (least key)
at_most_shown s d key (inr e) h = ap is_le (sym (ordered_alone d key) ∙ ap (λ x. key_cmp x (encoded key)) (sym e)) ∙ h

bare : (a b : Bool) → (a || b) ≡ true → b ≡ false → a ≡ true
bare true b h k = refl
bare false b h k = absurd (cc)

left_or : (a b : Bool) → a ≡ true → (a || b) ≡ true
left_or true b h = refl
left_or false b h = absurd (cc)

below_shown : (s d key : Key) → IsDecoded s d → is_below (encoded key) s ≡ true → is_below key d ≡ true
below_shown s d key (inl e) h = subst (λ x. is_below key x ≡ true) (sym e.1) (below_no_end key)
below_shown s d key (inr e) h =
    let under : is_below (encoded key) (encoded d) ≡ true = subst (λ x. is_below (encoded key) x ≡ true) e h in
    let less : is_lt (key_cmp (encoded key) (encoded d)) ≡ true = bare (is_lt (key_cmp (encoded key) (encoded d))) (length (encoded d) == 0) under (encoding_some d) in
    left_or (is_lt (key_cmp key d)) (length d == 0) (ap is_lt (sym (ordered_alone key d)) ∙ less)

order_shown : (s1 d1 s2 d2 : Key) → IsDecoded s1 d1 → IsDecoded s2 d2 → is_below s1 s2 ≡ true → is_below d1 d2 ≡ true
order_shown s1 d1 s2 d2 (inl e) second h = subst (λ x. is_below x d2 ≡ true) (sym e.1) (below_any d2)
order_shown s1 d1 s2 d2 (inr e) second h = below_shown s2 d2 d1 second (subst (λ x. is_below x s2 ≡ true) e h)

pub shown_contains : (encodes : Bool) (r shown : RegionWithLeader) (key : Key) → IsShownAs encodes r shown → contains_key r.region (stored_key encodes key) ≡ true → contains_key shown.region key ≡ true
shown_contains true r shown key s has =
    both_of (is_le (key_cmp shown.region.start_key key)) (is_below key shown.region.end_key)
    (at_most_shown r.region.start_key shown.region.start_key key s.start (first_of (is_le (key_cmp r.region.start_key (encoded key))) (is_below (encoded key) r.region.end_key) has))
    (below_shown r.region.end_key shown.region.end_key key s.end (second_of (is_le (key_cmp r.region.start_key (encoded key))) (is_below (encoded key) r.region.end_key) has))
shown_contains false r shown key s has =
    subst (λ start. (is_le (key_cmp start key) && is_below key shown.region.end_key) ≡ true) (sym s.start)
    (subst (λ end. (is_le (key_cmp r.region.start_key key) && is_below key end) ≡ true) (sym s.end) has)

below_if : (b : Bool) → not b ≡ false → b ≡ true
below_if true h = refl
below_if false h = absurd (cc)

pub shown_upright : (encodes : Bool) (r shown : RegionWithLeader) → IsShownAs encodes r shown → is_reversed r.region ≡ false → is_reversed shown.region ≡ false
shown_upright true r shown s up =
    ap not (order_shown r.region.start_key shown.region.start_key r.region.end_key shown.region.end_key s.start s.end (below_if (is_below r.region.start_key r.region.end_key) up))
shown_upright false r shown s up =
    subst (λ start. not (is_below start shown.region.end_key) ≡ false) (sym s.start)
    (subst (λ end. not (is_below r.region.start_key end) ≡ false) (sym s.end) up)

has_epoch : (b e : Bool) (id : ℕ) → (if b then Some (InternalError (ReversedRegion id)) else (if e then Some (InternalError (NoEpoch id)) else None)) ≡ None → e ≡ false
has_epoch true e id h = absurd (cc)
has_epoch false true id h = absurd (cc)
has_epoch false false id h = refl

pub usable : (encodes : Bool) (r shown : RegionWithLeader) → IsShownAs encodes r shown → IsGood encodes r → region_refusal r.region ≡ None → IsUsable shown
usable encodes r shown s good taken = record {
  right_way = shown_upright encodes r shown s (upright_if_taken r.region taken);
  epoch = ap is_none s.epoch ∙ has_epoch (is_reversed r.region) (is_none r.region.region_epoch) r.region.id taken;
  leader = ap is_none s.leader ∙ good.leader;
}

-- ---- what came of a query

pub cleared_regions : (q : PdQuery) (c : Cache) → (cleared q c).regions ≡ c.regions
cleared_regions (query.Region key) c = refl
cleared_regions (query.RegionId id) c = refl
cleared_regions (query.Store id) c = refl
cleared_regions query.Stores c = refl
cleared_regions query.Time c = refl
cleared_regions (query.Safepoint time) c = refl

spoilt_is_bad : (encodes : Bool) (r : RegionWithLeader) (error : Error) → IsSpoilt encodes r error → IsBadRegion r error
spoilt_is_bad encodes r error (inl (is, (what, inl start, e))) = subst (IsBadRegion r) (sym e) (bad_start what start)
spoilt_is_bad encodes r error (inl (is, (what, inr end, e))) = subst (IsBadRegion r) (sym e) (bad_end what end)
spoilt_is_bad encodes r error (inr (start, end, none, e)) = subst (IsBadRegion r) (sym e) (no_leader none)

elsewhere : (r : RegionWithLeader) (asked : Bool) (id : ℕ) (e : Error) → or_elsewhere (region_refusal r.region) asked id ≡ Some e → IsBadRegion r e ⊎ ((asked ≡ false) × (e ≡ RegionNotFoundInResponse id))
elsewhere r asked id e h = by (is_reversed r.region) (is_none r.region.region_epoch) asked refl refl refl h
  where
    by : (b n a : Bool) → is_reversed r.region ≡ b → is_none r.region.region_epoch ≡ n → asked ≡ a
        → or_elsewhere (if b then Some (InternalError (ReversedRegion r.region.id)) else (if n then Some (InternalError (NoEpoch r.region.id)) else None)) a id ≡ Some e
        → IsBadRegion r e ⊎ ((asked ≡ false) × (e ≡ RegionNotFoundInResponse id))
    by true n a f g k h = let same : InternalError (ReversedRegion r.region.id) ≡ e = cc in inl (subst (IsBadRegion r) same (reversed f))
    by false true a f g k h = let same : InternalError (NoEpoch r.region.id) ≡ e = cc in inl (subst (IsBadRegion r) same (no_epoch g))
    by false false true f g k h = absurd (cc)
    by false false false f g k h = let same : RegionNotFoundInResponse id ≡ e = cc in inr (k, sym same)

refused_is_bad : (q : PdQuery) (a : PdAnswer) (e : Error) → answer_refusal q a ≡ Some e → IsBadAnswer q a e
refused_is_bad (query.Region key) (answer.Region r) e h = elsewhere r (contains_key r.region key) r.region.id e h
refused_is_bad (query.RegionId id) (answer.Region r) e h = elsewhere r (nat_eq r.region.id id) id e h
refused_is_bad (query.Store id) (answer.Store s) e h = absurd (cc)
refused_is_bad query.Stores (answer.Stores all) e h = absurd (cc)
refused_is_bad query.Time (answer.Time t) e h = absurd (cc)
refused_is_bad (query.Safepoint time) (answer.Safepoint t) e h = absurd (cc)
refused_is_bad q a e h = cc

pub why_refused : (q : PdQuery) (x : Result PdAnswer Error) (e : Error) → IsRefusal q x e → OrStarved (IsRefused q x) e
why_refused q (Ok a) e h = by (answer_refusal q a) refl h
  where
    by : (o : Option Error) → answer_refusal q a ≡ o → MatchOption o (e ≡ OutOfMemory) (λ refusal. e ≡ refusal) → OrStarved (IsBadAnswer q a) e
    by None is h = inl h
    by (Some refusal) is h = inr (subst (IsBadAnswer q a) (sym h) (refused_is_bad q a refusal is))
why_refused q (Err x) e h = h

taken_region : (q : PdQuery) (r : RegionWithLeader) → answer_refusal q (answer.Region r) ≡ None → region_refusal r.region ≡ None
taken_region (query.Region key) r h = by (region_refusal r.region) (contains_key r.region key) h
  where
    by : (o : Option Error) (b : Bool) → or_elsewhere o b r.region.id ≡ None → o ≡ None
    by None b h = refl
    by (Some e) b h = absurd (cc)
taken_region (query.RegionId id) r h = by (region_refusal r.region) (nat_eq r.region.id id) h
  where
    by : (o : Option Error) (b : Bool) → or_elsewhere o b id ≡ None → o ≡ None
    by None b h = refl
    by (Some e) b h = absurd (cc)
taken_region (query.Store id) r h = absurd (cc)
taken_region query.Stores r h = absurd (cc)
taken_region query.Time r h = absurd (cc)
taken_region (query.Safepoint time) r h = absurd (cc)

region_learnt : (q : PdQuery) (r : RegionWithLeader) (c : Cache) → answer_refusal q (answer.Region r) ≡ None → learnt q (answer.Region r) c ≡ with_region r c
region_learnt (query.Region key) r c h = refl
region_learnt (query.RegionId id) r c h = refl
region_learnt (query.Store id) r c h = absurd (cc)
region_learnt query.Stores r c h = absurd (cc)
region_learnt query.Time r c h = absurd (cc)
region_learnt (query.Safepoint time) r c h = absurd (cc)

spoilt_refused : (encodes : Bool) (q : PdQuery) (r : RegionWithLeader) (e : Error) → answer_refusal q (answer.Region r) ≡ None → IsSpoilt encodes r e → IsBadAnswer q (answer.Region r) e
spoilt_refused encodes (query.Region key) r e h spoilt = inl (spoilt_is_bad encodes r e spoilt)
spoilt_refused encodes (query.RegionId id) r e h spoilt = inl (spoilt_is_bad encodes r e spoilt)
spoilt_refused encodes (query.Store id) r e h spoilt = absurd (cc)
spoilt_refused encodes query.Stores r e h spoilt = absurd (cc)
spoilt_refused encodes query.Time r e h spoilt = absurd (cc)
spoilt_refused encodes (query.Safepoint time) r e h spoilt = absurd (cc)

-- what is left when an answer was learnt and judged
pub record IsSettled {T : Type 0} (encodes : Bool) (q : PdQuery) (a : PdAnswer) (old new : Cache) (result : Result T Error) : Type 0 where
  pub good : AreGood encodes new.regions
  pub why : IfErr result (OrStarved (IsBadAnswer q a))
  pub changed : UnlessStarved result (Learns encodes q (Ok a) old new)

kept_in : (P : Type 0) (Q : Error → Type 0) (o : Option Error) → o ≡ None → P → MatchOption o P Q
kept_in P Q None is p = p
kept_in P Q (Some e) is p = absurd (cc)

cleared_good : (encodes : Bool) (q : PdQuery) (c : Cache) → AreGood encodes c.regions → AreGood encodes (cleared q c).regions
cleared_good encodes q c good = subst (AreGood encodes) (sym (cleared_regions q c)) good

region_settled
    : {T : Type 0} (encodes : Bool) (q : PdQuery) (r : RegionWithLeader) (old mid new : Cache) (result : Result T Error)
    → AreGood encodes old.regions
    → answer_refusal q (answer.Region r) ≡ None
    → mid ≡ learnt q (answer.Region r) (cleared q old)
    → IsJudged encodes (answer.Region r) mid result new
    → IsSettled encodes q (answer.Region r) old new result
region_settled encodes q r old mid new (Ok x) good taken learns judged = record {
  good = subst (λ (c : Cache). AreGood encodes c.regions) (sym (judged.1 ∙ (learns ∙ region_learnt q r (cleared q old) taken))) (good_added encodes r (cleared q old).regions judged.0 (cleared_good encodes q old good));
  why = tt;
  changed = kept_in _ _ (answer_refusal q (answer.Region r)) taken (inl (judged.0, judged.1 ∙ learns));
}
region_settled encodes q r old mid new (Err e) good taken learns judged =
    let gone : new ≡ without_record r (learnt q (answer.Region r) (cleared q old)) = judged.0 ∙ ap (without_record r) learns in
    record {
      good = subst (λ (c : Cache). AreGood encodes c.regions) (sym (gone ∙ ap (without_record r) (region_learnt q r (cleared q old) taken))) (good_without encodes r (cleared q old) (taken_region q r taken) (cleared_good encodes q old good));
      why = why_of judged.1;
      changed = changed_of gone judged.1;
    }
  where
    why_of : OrStarved (IsSpoilt encodes r) e → OrStarved (IsBadAnswer q (answer.Region r)) e
    why_of (inl starved) = inl starved
    why_of (inr spoilt) = inr (spoilt_refused encodes q r e taken spoilt)

    changed_of : new ≡ without_record r (learnt q (answer.Region r) (cleared q old)) → OrStarved (IsSpoilt encodes r) e → (e ≡ OutOfMemory) ⊎ Learns encodes q (Ok (answer.Region r)) old new
    changed_of gone (inl starved) = inl starved
    changed_of gone (inr spoilt) = inr (kept_in _ _ (answer_refusal q (answer.Region r)) taken (inr (e, spoilt, gone)))

-- an answer that is no region leaves the regions as they are
store_regions : (q : PdQuery) (s : StoreMeta) (c : Cache) → (learnt q (answer.Store s) c).regions ≡ c.regions
store_regions (query.Region key) s c = refl
store_regions (query.RegionId id) s c = refl
store_regions (query.Store id) s c = refl
store_regions query.Stores s c = refl
store_regions query.Time s c = refl
store_regions (query.Safepoint time) s c = refl

stores_regions : (q : PdQuery) (all : Vec StoreMeta Global) (c : Cache) → (learnt q (answer.Stores all) c).regions ≡ c.regions
stores_regions (query.Region key) s c = refl
stores_regions (query.RegionId id) s c = refl
stores_regions (query.Store id) s c = refl
stores_regions query.Stores s c = refl
stores_regions query.Time s c = refl
stores_regions (query.Safepoint time) s c = refl

time_learnt : (q : PdQuery) (t : Timestamp) (c : Cache) → learnt q (answer.Time t) c ≡ c
time_learnt (query.Region key) s c = refl
time_learnt (query.RegionId id) s c = refl
time_learnt (query.Store id) s c = refl
time_learnt query.Stores s c = refl
time_learnt query.Time s c = refl
time_learnt (query.Safepoint time) s c = refl

safepoint_learnt : (q : PdQuery) (t : ℕ) (c : Cache) → learnt q (answer.Safepoint t) c ≡ c
safepoint_learnt (query.Region key) s c = refl
safepoint_learnt (query.RegionId id) s c = refl
safepoint_learnt (query.Store id) s c = refl
safepoint_learnt query.Stores s c = refl
safepoint_learnt query.Time s c = refl
safepoint_learnt (query.Safepoint time) s c = refl

good_as : (encodes : Bool) (q : PdQuery) (old new : Cache) → new.regions ≡ (cleared q old).regions → AreGood encodes old.regions → AreGood encodes new.regions
good_as encodes q old new same good = subst (AreGood encodes) (sym same) (cleared_good encodes q old good)

pub settled
    : {T : Type 0} (encodes : Bool) (q : PdQuery) (a : PdAnswer) (old mid new : Cache) (result : Result T Error)
    → AreGood encodes old.regions
    → answer_refusal q a ≡ None
    → mid ≡ learnt q a (cleared q old)
    → IsJudged encodes a mid result new
    → IsSettled encodes q a old new result
settled encodes q (answer.Region r) old mid new result good taken learns judged = region_settled encodes q r old mid new result good taken learns judged
settled encodes q (answer.Store s) old mid new (Ok x) good taken learns judged = record {
  good = good_as encodes q old new (ap (λ (c : Cache). c.regions) (judged ∙ learns) ∙ store_regions q s (cleared q old)) good;
  why = tt;
  changed = kept_in _ _ (answer_refusal q (answer.Store s)) taken (judged ∙ learns);
}
settled encodes q (answer.Store s) old mid new (Err e) good taken learns judged = absurd judged
settled encodes q (answer.Stores all) old mid new (Ok x) good taken learns judged = record {
  good = good_as encodes q old new (ap (λ (c : Cache). c.regions) (judged ∙ learns) ∙ stores_regions q all (cleared q old)) good;
  why = tt;
  changed = kept_in _ _ (answer_refusal q (answer.Stores all)) taken (judged ∙ learns);
}
settled encodes q (answer.Stores all) old mid new (Err e) good taken learns judged = absurd judged
settled encodes q (answer.Time t) old mid new (Ok x) good taken learns judged = record {
  good = good_as encodes q old new (ap (λ (c : Cache). c.regions) (judged ∙ (learns ∙ time_learnt q t (cleared q old)))) good;
  why = tt;
  changed = kept_in _ _ (answer_refusal q (answer.Time t)) taken (judged ∙ learns);
}
settled encodes q (answer.Time t) old mid new (Err e) good taken learns judged = absurd judged
settled encodes q (answer.Safepoint t) old mid new (Ok x) good taken learns judged = record {
  good = good_as encodes q old new (ap (λ (c : Cache). c.regions) (judged ∙ (learns ∙ safepoint_learnt q t (cleared q old)))) good;
  why = tt;
  changed = kept_in _ _ (answer_refusal q (answer.Safepoint t)) taken (judged ∙ learns);
}
settled encodes q (answer.Safepoint t) old mid new (Err e) good taken learns judged = absurd judged

pub given_up : (b : Bool) (e : Error) → IsGivenUp b e → OrStarved IsText e
given_up true (StringError message) h = inr tt
given_up true e h = inl h
given_up false e h = inl h

-- ---- what look-ups of stored regions are, as look-ups of the regions that are shown

pub found_at
    : (encodes : Bool) (key stored : Key) (c : Cache) (result : Result (Look RegionWithLeader) Error)
    → stored ≡ stored_key encodes key
    → IfOk result (λ look. MatchLook look (λ shown. (r : RegionWithLeader) × IsShownAs encodes r shown × IsGood encodes r × IsSoundAt stored r × (region_of_key stored c.regions ≡ Some r)) (λ q. (q ≡ query.Region stored) × IsUnknown c q) ⊥)
    → IfOk result (λ look. MatchLook look (λ shown. IsFoundAt key shown × IsCachedAs encodes (region_of_key (stored_key encodes key) c.regions) shown) (λ q. (q ≡ query.Region (stored_key encodes key)) × IsUnknown c q) ⊥)
found_at encodes key stored c (Err e) is found = tt
found_at encodes key stored c (Ok (Query q)) is found = (found.0 ∙ ap query.Region is, found.1)
found_at encodes key stored c (Ok Wait) is found = found
found_at encodes key stored c (Ok (Found shown)) is found = (
  (shown_contains encodes found.0 shown key found.1 (ap (contains_key found.0.region) (sym is) ∙ found.3.0), usable encodes found.0 shown found.1 found.2 found.3.1),
  subst (λ o. IsCachedAs encodes o shown) (sym (ap (λ k. region_of_key k c.regions) (sym is) ∙ found.4)) found.1,
)

pub found_of
    : (encodes : Bool) (id : ℕ) (c : Cache) (result : Result (Look RegionWithLeader) Error)
    → IfOk result (λ look. MatchLook look (λ shown. (r : RegionWithLeader) × IsShownAs encodes r shown × IsGood encodes r × IsSoundOf id r × (region_of_id id c.regions ≡ Some r)) (λ q. (q ≡ query.RegionId id) × IsUnknown c q) ⊤)
    → IfOk result (λ look. MatchLook look (λ shown. IsFoundOf id shown × IsCachedAs encodes (region_of_id id c.regions) shown) (λ q. (q ≡ query.RegionId id) × IsUnknown c q) ⊤)
found_of encodes id c (Err e) found = tt
found_of encodes id c (Ok (Query q)) found = found
found_of encodes id c (Ok Wait) found = tt
found_of encodes id c (Ok (Found shown)) found = (
  ((found.1).id ∙ found.3.0, usable encodes found.0 shown found.1 found.2 found.3.1),
  subst (λ o. IsCachedAs encodes o shown) (sym found.4) found.1,
)
