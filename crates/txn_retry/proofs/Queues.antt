-- What a change of one place keeps of a queue.
use Rattle.std.proofs.Common.{◌≡◌, ◌≢◌, ℕ, ◌+◌, ◌-◌, ◌<◌, ◌≤◌, Bool, true, false, cond, List, length, get_or, set, map, refl, sym, ap, arith, inl, inr}
use Rattle.std.specs.Prelude.{Some, None, nat_lt, position, if◌then◌else◌}
use Rattle.std.specs.List.{count_by, position_or_len}
use Rattle.std.proofs.lemmas.Bool.{cases_eq, cases_lt, le-ltb, lt-ltb}
use Rattle.std.proofs.lemmas.List.{length-set, get_or-set_same, get_or-set_other}
use Rattle.std.proofs.lemmas.List.Sums.{position_or_len_is, sum_by-set}
use Rattle.std.proofs.Math.Seq.{map-set_same}
use Rattle.txn_retry.specs.declared.place.Place.{Place}
use Rattle.txn_retry.specs.declared.place.Place.TheVariants.{Waiting, Running, Resting, Cut, Ended}
use Rattle.txn_retry.specs.Place.{is_waiting, is_running, is_resting, is_open, parts_of, running, open_ones, next_task, order_of, IsQueue, StandsAt}

pub count_by-set : {X : Type 0} (p : X → Bool) (xs : List X) (i : ℕ) (y d : X) → i < length xs → count_by p (set xs i y) + cond (p (get_or xs i d)) 1 0 ≡ count_by p xs + cond (p y) 1 0
count_by-set p xs i y d l = sum_by-set (λ x. cond (p x) 1 0) xs i y d l

-- a place that is not waiting is one of a task that was started
pub was_started : {R : Type 0} {roots first runs opens : ℕ} {places : List (Place R)} → IsQueue roots first runs opens places → (at : ℕ) → is_waiting (get_or places at Waiting) ≡ false → at < first
was_started {first = first} q at n =
    elim (cases_lt at first) [
      | inl l ↦ l
      | inr l ↦ let w = q.waits at l in absurd (cc)
    ]

-- one place changes, and stands as little for others as before
pub IsQueue-set : {R : Type 0} {roots first runs opens : ℕ} {places : List (Place R)} (at next now left : ℕ) (y : Place R)
    → IsQueue roots first runs opens places
    → at < length places
    → parts_of y ≡ parts_of (get_or places at Waiting)
    → running (set places at y) ≡ now → now ≤ 16
    → open_ones (set places at y) ≡ left
    → next ≤ length places
    → ((i : ℕ) → i < next → is_waiting (get_or (set places at y) i Waiting) ≡ false)
    → ((i : ℕ) → next ≤ i → is_waiting (get_or (set places at y) i Waiting) ≡ true)
    → IsQueue roots next now left (set places at y)
IsQueue-set {R} {roots} {places = places} at next now left y q within same runs few opens made began waits =
    let cuts : map parts_of (set places at y) ≡ map parts_of places = map-set_same parts_of places at y Waiting same in
    record {
      roots_made = rw length-set q.roots_made;
      started_made = rw length-set made;
      began = began;
      waits = waits;
      running_are = runs;
      few = few;
      open_are = opens;
      later = rw cuts q.later;
      whole = rw cuts q.whole;
    }

-- a place that was not waiting, and is not now
pub began-set : {R : Type 0} {roots first runs opens : ℕ} {places : List (Place R)} (at : ℕ) (y : Place R)
    → IsQueue roots first runs opens places → at < length places → is_waiting y ≡ false
    → (i : ℕ) → i < first → is_waiting (get_or (set places at y) i Waiting) ≡ false
began-set {places = places} at y q within n i l =
    elim (cases_eq i at) [
      | inl same ↦ rw (same, get_or-set_same places at y Waiting within) n
      | inr other ↦ rw (get_or-set_other places at i y Waiting other) (q.began i l)
    ]

pub waits-set : {R : Type 0} {roots first runs opens : ℕ} {places : List (Place R)} (at : ℕ) (y : Place R)
    → IsQueue roots first runs opens places → at < first
    → (i : ℕ) → first ≤ i → is_waiting (get_or (set places at y) i Waiting) ≡ true
waits-set {places = places} at y q before i l =
    let other : i ≢ at = omega arith in
    rw (get_or-set_other places at i y Waiting other) (q.waits i l)

-- a task that was started, and changes how it stands
pub IsQueue-moved : {R : Type 0} {roots first runs opens : ℕ} {places : List (Place R)} (at now left : ℕ) (y : Place R)
    → IsQueue roots first runs opens places
    → at < length places
    → is_waiting (get_or places at Waiting) ≡ false
    → is_waiting y ≡ false
    → parts_of y ≡ parts_of (get_or places at Waiting)
    → now + cond (is_running (get_or places at Waiting)) 1 0 ≡ runs + cond (is_running y) 1 0 → now ≤ 16
    → left + cond (is_open (get_or places at Waiting)) 1 0 ≡ opens + cond (is_open y) 1 0
    → IsQueue roots first now left (set places at y)
IsQueue-moved {first = first} {places = places} at now left y q within was is same runs few opens =
    let r = count_by-set is_running places at y Waiting within in
    let o = count_by-set is_open places at y Waiting within in
    let before : at < first = was_started q at was in
    IsQueue-set at first now left y q within same (omega (arith, r, q.running_are)) few (omega (arith, o, q.open_are)) q.started_made (began-set at y q within is) (waits-set at y q before)

-- what a task that runs, or rests, is not
pub running_is : {R : Type 0} (p : Place R) → is_running p ≡ true → (is_waiting p ≡ false) × (parts_of p ≡ None) × (is_open p ≡ true)
running_is Waiting e = absurd (cc)
running_is Running e = (refl, refl, refl)
running_is Resting e = absurd (cc)
running_is (Cut p) e = absurd (cc)
running_is (Ended r) e = absurd (cc)

pub resting_is : {R : Type 0} (p : Place R) → is_resting p ≡ true → (is_waiting p ≡ false) × (parts_of p ≡ None) × (is_open p ≡ true) × (is_running p ≡ false)
resting_is Waiting e = absurd (cc)
resting_is Running e = absurd (cc)
resting_is Resting e = (refl, refl, refl, refl)
resting_is (Cut p) e = absurd (cc)
resting_is (Ended r) e = absurd (cc)

pub waiting_is : {R : Type 0} (p : Place R) → is_waiting p ≡ true → (parts_of p ≡ None) × (is_open p ≡ true) × (is_running p ≡ false)
waiting_is Waiting e = (refl, refl, refl)
waiting_is Running e = absurd (cc)
waiting_is Resting e = absurd (cc)
waiting_is (Cut p) e = absurd (cc)
waiting_is (Ended r) e = absurd (cc)

pub IsQueue-rest : {R : Type 0} {roots first runs opens : ℕ} {places : List (Place R)} (at : ℕ)
    → IsQueue roots first runs opens places → StandsAt is_running places at → IsQueue roots first (runs - 1) opens (set places at Resting)
IsQueue-rest {runs = runs} {opens = opens} {places = places} at q s =
    let is = running_is (get_or places at Waiting) s.passes in
    let r = count_by-set is_running places at Resting Waiting s.within in
    let one : ◌≡◌ {A = ℕ} (cond (is_running (get_or places at Waiting)) 1 0) 1 = rw s.passes refl in
    let there : ◌≡◌ {A = ℕ} (cond (is_open (get_or places at Waiting)) 1 0) 1 = rw is.2 refl in
    IsQueue-moved at (runs - 1) opens Resting q s.within is.0 refl (sym is.1) (omega (arith, r, one, q.running_are)) (omega (arith, q.few)) (rw there refl)

pub IsQueue-end : {R : Type 0} {roots first runs opens : ℕ} {places : List (Place R)} (at : ℕ) (answer : R)
    → IsQueue roots first runs opens places → StandsAt is_resting places at → IsQueue roots first runs (opens - 1) (set places at (Ended answer))
IsQueue-end {runs = runs} {opens = opens} {places = places} at answer q s =
    let is = resting_is (get_or places at Waiting) s.passes in
    let o = count_by-set is_open places at (Ended answer) Waiting s.within in
    let none : ◌≡◌ {A = ℕ} (cond (is_running (get_or places at Waiting)) 1 0) 0 = rw is.3 refl in
    let there : ◌≡◌ {A = ℕ} (cond (is_open (get_or places at Waiting)) 1 0) 1 = rw is.2 refl in
    IsQueue-moved at runs (opens - 1) (Ended answer) q s.within is.0 refl (sym is.1) (rw none refl) q.few (omega (arith, o, there, q.open_are))

pub IsQueue-start : {R : Type 0} {roots first runs opens : ℕ} {places : List (Place R)}
    → IsQueue roots first runs opens places → runs ≢ 16 → first ≢ length places → IsQueue roots (first + 1) (runs + 1) opens (set places first Running)
IsQueue-start {first = first} {runs = runs} {opens = opens} {places = places} q room more =
    let within : first < length places = omega (arith, q.started_made) in
    let is = waiting_is (get_or places first Waiting) (q.waits first (omega arith)) in
    let none : ◌≡◌ {A = ℕ} (cond (is_running (get_or places first Waiting)) 1 0) 0 = rw is.2 refl in
    let there : ◌≡◌ {A = ℕ} (cond (is_open (get_or places first Waiting)) 1 0) 1 = rw is.1 refl in
    let r = count_by-set is_running places first Running Waiting within in
    let o = count_by-set is_open places first Running Waiting within in
    IsQueue-set first (first + 1) (runs + 1) opens Running q within (sym is.0)
    (omega (arith, r, none, q.running_are)) (omega (arith, q.few))
    (omega (arith, o, there, q.open_are)) (omega arith)
    (λ i l. elim (cases_eq i first) [
      | inl same ↦ rw (same, get_or-set_same places first Running Waiting within) refl
      | inr other ↦ rw (get_or-set_other places first i Running Waiting other) (q.began i (omega arith))
    ])
    (λ i l. let other : i ≢ first = omega arith in rw (get_or-set_other places first i Running Waiting other) (q.waits i (omega arith)))

-- a change of one place, seen from outside
pub view-set : {R : Type 0} (roots at : ℕ) (places : List (Place R)) (y : Place R) → parts_of y ≡ parts_of (get_or places at Waiting)
    → order_of roots (map parts_of (set places at y)) ≡ order_of roots (map parts_of places)
view-set roots at places y same = ap (λ cuts. order_of roots cuts) (map-set_same parts_of places at y Waiting same)

pub view-rest : {R : Type 0} (roots at : ℕ) (places : List (Place R)) → StandsAt is_running places at
    → order_of roots (map parts_of (set places at Resting)) ≡ order_of roots (map parts_of places)
view-rest roots at places s = view-set roots at places Resting (sym (running_is (get_or places at Waiting) s.passes).1)

pub view-end : {R : Type 0} (roots at : ℕ) (places : List (Place R)) (answer : R) → StandsAt is_resting places at
    → order_of roots (map parts_of (set places at (Ended answer))) ≡ order_of roots (map parts_of places)
view-end roots at places answer s = view-set roots at places (Ended answer) (sym (resting_is (get_or places at Waiting) s.passes).1)

pub view-start : {R : Type 0} {roots first runs opens : ℕ} {places : List (Place R)} → IsQueue roots first runs opens places
    → order_of roots (map parts_of (set places first Running)) ≡ order_of roots (map parts_of places)
view-start {roots = roots} {first = first} {places = places} q = view-set roots first places Running (sym (waiting_is (get_or places first Waiting) (q.waits first (omega arith))).0)

-- the first that waits
first_waiting : {R : Type 0} {roots first runs opens : ℕ} {places : List (Place R)} → IsQueue roots first runs opens places → position_or_len is_waiting places ≡ first
first_waiting {first = first} {places = places} q = position_or_len_is is_waiting places first Waiting q.started_made q.began (λ l. q.waits first (omega arith))

pub next-full : {R : Type 0} {roots first runs opens : ℕ} {places : List (Place R)} → IsQueue roots first runs opens places → runs ≡ 16 → next_task places ≡ None
next-full {places = places} q e =
    let no : nat_lt (running places) 16 ≡ false = rw (q.running_are, e) refl in
    rw no refl

pub next-none : {R : Type 0} {roots first runs opens : ℕ} {places : List (Place R)} → IsQueue roots first runs opens places → first ≡ length places → next_task places ≡ None
next-none {first = first} {places = places} q e =
    let no : nat_lt (position_or_len is_waiting places) (length places) ≡ false = rw (first_waiting q) (le-ltb first (length places) (omega arith)) in
    let none : position is_waiting places ≡ None = rw no refl in
    elim (nat_lt (running places) 16) as (λ b. (if b then position is_waiting places else None) ≡ None) [ true ↦ none | false ↦ refl ]

pub next-some : {R : Type 0} {roots first runs opens : ℕ} {places : List (Place R)} → IsQueue roots first runs opens places → runs ≢ 16 → first ≢ length places → next_task places ≡ Some first
next-some {first = first} {runs = runs} {places = places} q room more =
    let yes : nat_lt (running places) 16 ≡ true = rw q.running_are (lt-ltb runs 16 (omega (arith, q.few))) in
    let found : nat_lt (position_or_len is_waiting places) (length places) ≡ true = rw (first_waiting q) (lt-ltb first (length places) (omega (arith, q.started_made))) in
    rw (yes, found, first_waiting q) refl
