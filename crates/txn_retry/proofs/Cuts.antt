-- A cut keeps a queue, and no task stands in two places.
use Rattle.std.proofs.Common.{◌≡◌, ◌≢◌, ℕ, zero, suc, ◌+◌, ◌-◌, ◌<◌, ◌≤◌, cond, List, [], ◌∷◌, ◌++◌, length, get_or, set, map, replicate, refl, sym, ap, subst, ◌∙◌, arith, inl, inr}
use Rattle.std.specs.Prelude.{Option, Some, None, nat_eq, if◌then◌else◌}
use Rattle.std.specs.List.{All, count_by, range_with_len}
use Rattle.std.proofs.lemmas.Bool.{cases_eq, cases_lt}
use Rattle.std.proofs.lemmas.List.{append-nil, length-append, length-replicate, length-set, get_or-append_right, get_or_append_left, get_or_past, get_or-replicate, get_or-set_same, get_or-set_other, length-map}
use Rattle.std.proofs.lemmas.List.Elements.{All-append, All-cons, All-from_get_or, All-head, All-nil, All-tail, All-weaker}
use Rattle.std.proofs.lemmas.List.Folds.{sum_by-replicate}
use Rattle.std.proofs.lemmas.List.FromFn.{get_or-range_with_len, length-range_with_len}
use Rattle.std.proofs.lemmas.List.Sums.{sum_by-append}
use Rattle.std.proofs.Math.ListN.{get_or-map}
use Rattle.txn_retry.specs.declared.place.Parts.{Parts}
use Rattle.txn_retry.specs.declared.place.Place.{Place}
use Rattle.txn_retry.specs.declared.place.Place.TheVariants.{Waiting, Cut}
use Rattle.txn_retry.specs.Place.{is_waiting, is_running, is_resting, is_open, parts_of, waiting_places, order_of, replaced, standing, AreDistinct, AreWhole, IsQueue, StandsAt}
use Rattle.txn_retry.proofs.Standing.{flat_map-alone, flat_map-range, order_of-cut, replaced-itself, replaced-other, standing-alone, IsCut, IsCut-later}
use Rattle.txn_retry.proofs.Queues.{began-set, count_by-set, resting_is, waits-set, was_started}

pub All-range : (P : ℕ → Type 0) (a n : ℕ) → ((k : ℕ) → a ≤ k → k < a + n → P k) → All P (range_with_len a n)
All-range P a n p = All-from_get_or P (range_with_len a n) 0 (λ i l.
    let within : i < n = omega (arith, l, length-range_with_len a n) in
    rw (get_or-range_with_len a n i 0 within) (p (a + i) (omega arith) (omega arith)))

pub AreDistinct-range : (a n : ℕ) → AreDistinct (range_with_len a n)
AreDistinct-range a zero = tt
AreDistinct-range a (suc n) = (All-range (λ j. j ≢ a) (a + 1) n (λ k l m e. omega arith), AreDistinct-range (a + 1) n)

AreDistinct-append : (xs ys : List ℕ) → AreDistinct xs → AreDistinct ys → All (λ x. All (λ y. y ≢ x) ys) xs → AreDistinct (xs ++ ys)
AreDistinct-append [] ys d e a = e
AreDistinct-append (x ∷ xs) ys d e a = (
  All-append (λ j. j ≢ x) xs ys d.0 (All-head (λ z. All (λ y. y ≢ z) ys) x xs a),
  AreDistinct-append xs ys d.1 e (All-tail (λ z. All (λ y. y ≢ z) ys) x xs a),
)

split_one : (at : ℕ) (others : List ℕ) (x : ℕ) (xs : List ℕ) → replaced at others (x ∷ xs) ≡ replaced at others (x ∷ []) ++ replaced at others xs
split_one at others x xs = ap (λ ys. ys ++ replaced at others xs) (sym (append-nil (if nat_eq x at then others else x ∷ [])))

pub replaced-none : (at : ℕ) (others xs : List ℕ) → All (λ i. i ≢ at) xs → replaced at others xs ≡ xs
replaced-none at others [] a = refl
replaced-none at others (x ∷ xs) a =
    split_one at others x xs
    ∙ ap (λ ys. ys ++ replaced at others xs) (replaced-other at x others (All-head (λ i. i ≢ at) x xs a))
    ∙ ap (λ ys. x ∷ ys) (replaced-none at others xs (All-tail (λ i. i ≢ at) x xs a))

pub replaced-all : (P Q : ℕ → Type 0) (at : ℕ) (others xs : List ℕ) → ((i : ℕ) → i ≢ at → Q i → P i) → All P others → All Q xs → All P (replaced at others xs)
replaced-all P Q at others [] keep new old = All-nil P
replaced-all P Q at others (x ∷ xs) keep new old =
    let rest = replaced-all P Q at others xs keep new (All-tail Q x xs old) in
    rw (split_one at others x xs)
    (All-append P (replaced at others (x ∷ [])) (replaced at others xs)
    (elim (cases_eq x at) [
      | inl same ↦ rw (same, replaced-itself at others) new
      | inr other ↦ rw (replaced-other at x others other) (All-cons P x [] (keep x other (All-head Q x xs old)) (All-nil P))
    ])
    rest)

-- those that are new differ from all that were there
pub AreDistinct-cut : (at first count : ℕ) (xs : List ℕ) → AreDistinct xs → All (λ i. i < first) xs → AreDistinct (replaced at (range_with_len first count) xs)
AreDistinct-cut at first count [] d b = tt
AreDistinct-cut at first count (x ∷ xs) d b =
    let before : x < first = All-head (λ i. i < first) x xs b in
    let rest = All-tail (λ i. i < first) x xs b in
    rw (split_one at (range_with_len first count) x xs)
    (elim (cases_eq x at) [
      | inl same ↦
          let none : replaced at (range_with_len first count) xs ≡ xs = replaced-none at (range_with_len first count) xs (subst (λ (y : ℕ). All (λ i. i ≢ y) xs) same d.0) in
          rw (same, replaced-itself at (range_with_len first count), none)
          (AreDistinct-append (range_with_len first count) xs (AreDistinct-range first count) d.1
          (All-range (λ k. All (λ y. y ≢ k) xs) first count (λ k l m. All-weaker (λ i. i < first) (λ y. y ≢ k) (λ y p e. omega arith) xs rest)))
      | inr other ↦
          rw (replaced-other at x (range_with_len first count) other) (
            replaced-all (λ j. j ≢ x) (λ j. j ≢ x) at (range_with_len first count) xs (λ i n p. p) (All-range (λ j. j ≢ x) first count (λ k l m e. omega arith)) d.0,
            AreDistinct-cut at first count xs d.1 rest,
          )
    ])

pub AreWhole-cut : {at first count : ℕ} {old new : List (Option Parts)} (order : List ℕ) → IsCut at first count old new → AreWhole old order → AreWhole new (replaced at (range_with_len first count) order)
AreWhole-cut {at} {first} {count} {old} {new} order c w =
    let both : All (λ i. (i < length old) × (get_or old i None ≡ None)) order = λ k d l. (w.below k d l, w.whole k d l) in
    record {
      below = replaced-all (λ i. i < length new) (λ i. i < length old) at (range_with_len first count) order
          (λ i n p. omega (arith, c.end, c.more, p)) (All-range (λ i. i < length new) first count (λ k l m. omega (arith, c.more))) w.below;
      distinct = AreDistinct-cut at first count order w.distinct (All-weaker (λ i. i < length old) (λ i. i < first) (λ i p. omega (arith, c.end, p)) order w.below);
      whole = replaced-all (λ i. get_or new i None ≡ None) (λ i. (i < length old) × (get_or old i None ≡ None)) at (range_with_len first count) order
          (λ i n p. c.others i (omega (arith, c.end, p.0)) n ∙ p.1) (All-range (λ i. get_or new i None ≡ None) first count (λ k l m. c.parts k l)) both;
    }

-- which parts a task was cut into, by its place
pub parts_at : {R : Type 0} (places : List (Place R)) (i : ℕ) → get_or (map parts_of places) i None ≡ parts_of (get_or places i Waiting)
parts_at places i = get_or-map parts_of places i Waiting

pub length-waiting : (R : Type 0) (n : ℕ) → length (waiting_places {R = R} n) ≡ n
length-waiting R n = let w : Place R = Waiting in length-replicate n w

waiting_at : (R : Type 0) (n i : ℕ) → get_or (waiting_places {R = R} n) i Waiting ≡ Waiting
waiting_at R n i =
    elim (cases_lt i n) [
      | inl l ↦ get_or-replicate n i Waiting Waiting l
      | inr l ↦ get_or_past (waiting_places {R = R} n) i Waiting (omega (arith, length-waiting R n, l))
    ]

-- the places behind those that were there
behind : {R : Type 0} (places : List (Place R)) (n i : ℕ) → length places ≤ i → get_or (places ++ waiting_places n) i Waiting ≡ Waiting
behind {R} places n i l = get_or-append_right places (waiting_places n) (length places) i Waiting refl l ∙ waiting_at R n (i - length places)

no_runs : (R : Type 0) (n : ℕ) → count_by is_running (waiting_places {R = R} n) ≡ 0
no_runs R n = let w : Place R = Waiting in omega (arith, sum_by-replicate (λ x. cond (is_running x) 1 0) n w)

all_open : (R : Type 0) (n : ℕ) → count_by is_open (waiting_places {R = R} n) ≡ n
all_open R n = let w : Place R = Waiting in omega (arith, sum_by-replicate (λ x. cond (is_open x) 1 0) n w)

-- the first tasks

begun_cuts : (R : Type 0) (n i : ℕ) → get_or (map parts_of (waiting_places {R = R} n)) i None ≡ None
begun_cuts R n i = parts_at (waiting_places {R = R} n) i ∙ ap parts_of (waiting_at R n i)

pub order_of-begun : (R : Type 0) (n : ℕ) → order_of n (map parts_of (waiting_places {R = R} n)) ≡ range_with_len 0 n
order_of-begun R n =
    let cuts : List (Option Parts) = map parts_of (waiting_places {R = R} n) in
    flat_map-range (standing (length cuts) cuts) (λ i. i ∷ []) 0 n (λ k l m. standing-alone (length cuts) cuts k (begun_cuts R n k)) ∙ flat_map-alone (range_with_len 0 n)

pub IsQueue-begun : {R : Type 0} (n : ℕ) → IsQueue n 0 0 n (waiting_places {R = R} n)
IsQueue-begun {R} n =
    let cuts : List (Option Parts) = map parts_of (waiting_places {R = R} n) in
    let long : length (waiting_places {R = R} n) ≡ n = length-waiting R n in
    let all : length cuts ≡ n = length-map (waiting_places {R = R} n) parts_of ∙ long in
    record {
      roots_made = omega (arith, long);
      started_made = omega (arith, long);
      began = λ i l. absurd (omega (arith, l));
      waits = λ i l. ap is_waiting (waiting_at R n i);
      running_are = no_runs R n;
      few = omega arith;
      open_are = all_open R n;
      later = record {
        later = λ i p e. let no : None ≡ Some p = sym (begun_cuts R n i) ∙ e in absurd (cc);
        made = λ i p e. let no : None ≡ Some p = sym (begun_cuts R n i) ∙ e in absurd (cc);
      };
      whole = rw (order_of-begun R n) (record {
        below = All-range (λ i. i < length cuts) 0 n (λ k l m. omega (arith, all, m));
        distinct = AreDistinct-range 0 n;
        whole = All-range (λ i. get_or cuts i None ≡ None) 0 n (λ k l m. begun_cuts R n k);
      });
    }

-- a cut

pub cut_is : {R : Type 0} (places : List (Place R)) (at count : ℕ) → StandsAt is_resting places at
    → IsCut at (length places) count (map parts_of places) (map parts_of (set places at (Cut (record { first = length places; count = count })) ++ replicate count Waiting))
cut_is {R} places at count s =
    let y : Place R = Cut (record { first = length places; count = count }) in
    let new : List (Place R) = set places at y ++ replicate count Waiting in
    let same : length (set places at y) ≡ length places = length-set places at y in
    let was = resting_is (get_or places at Waiting) s.passes in
    record {
      end = length-map places parts_of;
      more = length-map new parts_of ∙ omega (arith, length-append (set places at y) (replicate count Waiting), same, length-waiting R count);
      whole = parts_at places at ∙ was.1;
      cut = parts_at new at ∙ ap parts_of (get_or_append_left (set places at y) (replicate count Waiting) Waiting at (omega (arith, same, s.within)) ∙ get_or-set_same places at y Waiting s.within);
      below = s.within;
      others = λ k l n. parts_at new k ∙ ap parts_of (get_or_append_left (set places at y) (replicate count Waiting) Waiting k (omega (arith, same, l)) ∙ get_or-set_other places at k y Waiting n) ∙ sym (parts_at places k);
      parts = λ k l. parts_at new k ∙ ap parts_of (behind (set places at y) count k (omega (arith, same, l)));
    }

pub order_of-cut_at : {R : Type 0} {roots first runs opens : ℕ} {places : List (Place R)} (at count : ℕ) → IsQueue roots first runs opens places → StandsAt is_resting places at
    → order_of roots (map parts_of (set places at (Cut (record { first = length places; count = count })) ++ replicate count Waiting))
    ≡ replaced at (range_with_len (length places) count) (order_of roots (map parts_of places))
order_of-cut_at {roots = roots} {places = places} at count q s = order_of-cut roots at (length places) count _ _ (cut_is places at count s) q.later q.roots_made

pub IsQueue-cut : {R : Type 0} {roots first runs opens : ℕ} {places : List (Place R)} (at count : ℕ) → IsQueue roots first runs opens places → StandsAt is_resting places at
    → IsQueue roots first runs (opens - 1 + count) (set places at (Cut (record { first = length places; count = count })) ++ replicate count Waiting)
IsQueue-cut {R} {roots} {first} {runs} {opens} {places} at count q s =
    let y : Place R = Cut (record { first = length places; count = count }) in
    let same : length (set places at y) ≡ length places = length-set places at y in
    let long : length (set places at y ++ replicate count Waiting) ≡ length places + count = omega (arith, length-append (set places at y) (replicate count Waiting), same, length-waiting R count) in
    let was = resting_is (get_or places at Waiting) s.passes in
    let before : at < first = was_started q at was.0 in
    let none : ◌≡◌ {A = ℕ} (cond (is_running (get_or places at Waiting)) 1 0) 0 = rw was.3 refl in
    let there : ◌≡◌ {A = ℕ} (cond (is_open (get_or places at Waiting)) 1 0) 1 = rw was.2 refl in
    let r = count_by-set is_running places at y Waiting s.within in
    let o = count_by-set is_open places at y Waiting s.within in
    let rs = sum_by-append (λ x. cond (is_running x) 1 0) (set places at y) (replicate count Waiting) in
    let os = sum_by-append (λ x. cond (is_open x) 1 0) (set places at y) (replicate count Waiting) in
    let rn : count_by is_running (waiting_places {R = R} count) ≡ 0 = no_runs R count in
    let on : count_by is_open (waiting_places {R = R} count) ≡ count = all_open R count in
    let left : (i : ℕ) → i < length places → get_or (set places at y ++ replicate count Waiting) i Waiting ≡ get_or (set places at y) i Waiting =
    λ i l. get_or_append_left (set places at y) (replicate count Waiting) Waiting i (omega (arith, same, l)) in
    record {
      roots_made = omega (arith, long, q.roots_made);
      started_made = omega (arith, long, q.started_made);
      began = λ i l. rw (left i (omega (arith, l, q.started_made))) (began-set at y q s.within refl i l);
      waits = λ i l. elim (cases_lt i (length places)) [
        | inl m ↦ rw (left i m) (waits-set at y q before i l)
        | inr m ↦ ap is_waiting (behind (set places at y) count i (omega (arith, same, m)))
      ];
      running_are = omega (arith, r, rs, rn, none, q.running_are);
      few = q.few;
      open_are = omega (arith, o, os, on, there, q.open_are);
      later = IsCut-later (cut_is places at count s) q.later;
      whole = rw (order_of-cut_at at count q s) (AreWhole-cut (order_of roots (map parts_of places)) (cut_is places at count s) q.whole);
    }
