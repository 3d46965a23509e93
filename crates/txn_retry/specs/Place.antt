-- Where tasks stand, and in which order.
use Rattle.std.specs.Prelude.{◌≡◌, ◌≢◌, ℕ, zero, suc, ◌+◌, ◌<◌, ◌≤◌, Bool, true, false, if◌then◌else◌, nat_eq, nat_lt, List, [], ◌∷◌, ◌++◌, length, map, replicate, Option, Some, None, position}
use Rattle.std.specs.List.{All, count_by, flat_map, range_with_len}
use Rattle.std.proofs.Math.ListN.{get_or, set}
use Rattle.txn_retry.specs.declared.place.Parts.{Parts}
use Rattle.txn_retry.specs.declared.place.Place.{Place}
use Rattle.txn_retry.specs.declared.place.Place.TheVariants.{Waiting, Running, Resting, Cut, Ended}

abbrev pub is_waiting : {R : Type 0} → Place R → Bool
is_waiting Waiting = true
is_waiting Running = false
is_waiting Resting = false
is_waiting (Cut p) = false
is_waiting (Ended r) = false

abbrev pub is_running : {R : Type 0} → Place R → Bool
is_running Waiting = false
is_running Running = true
is_running Resting = false
is_running (Cut p) = false
is_running (Ended r) = false

abbrev pub is_resting : {R : Type 0} → Place R → Bool
is_resting Waiting = false
is_resting Running = false
is_resting Resting = true
is_resting (Cut p) = false
is_resting (Ended r) = false

-- neither ended nor cut
abbrev pub is_open : {R : Type 0} → Place R → Bool
is_open Waiting = true
is_open Running = true
is_open Resting = true
is_open (Cut p) = false
is_open (Ended r) = false

abbrev pub parts_of : {R : Type 0} → Place R → Option Parts
parts_of Waiting = None
parts_of Running = None
parts_of Resting = None
parts_of (Cut p) = Some p
parts_of (Ended r) = None

abbrev pub numbers : Parts → List ℕ
numbers p = range_with_len p.first p.count

abbrev pub itself_or : (Parts → List ℕ) → ℕ → Option Parts → List ℕ
itself_or of i None = i ∷ []
itself_or of i (Some p) = of p

-- Which tasks stand in the place of task i: itself, or those that stand in the places of its parts. Parts are made later than
-- what they are parts of, so that as many steps as there are tasks reach the last of them.
abbrev pub standing : ℕ → List (Option Parts) → ℕ → List ℕ
standing zero cuts i = i ∷ []
standing (suc steps) cuts i = itself_or (λ p. flat_map (standing steps cuts) (numbers p)) i (get_or cuts i None)

-- those that stand in the places of the first so many
abbrev pub order_of : ℕ → List (Option Parts) → List ℕ
order_of roots cuts = flat_map (standing (length cuts) cuts) (range_with_len 0 roots)

-- others stand in the place of task `at`
abbrev pub replaced : ℕ → List ℕ → List ℕ → List ℕ
replaced at others order = flat_map (λ i. if nat_eq i at then others else i ∷ []) order

-- parts were made later than what they are parts of
pub record AreLater (cuts : List (Option Parts)) : Type 0 where
  pub later : (i : ℕ) (p : Parts) → get_or cuts i None ≡ Some p → i < p.first
  pub made : (i : ℕ) (p : Parts) → get_or cuts i None ≡ Some p → p.first + p.count ≤ length cuts

abbrev pub AreDistinct : List ℕ → Type 0
AreDistinct [] = Unit {0}
AreDistinct (i ∷ is) = All (λ j. j ≢ i) is × AreDistinct is

-- each is among the first so many, no two are the same, and none is cut
pub record AreWhole (cuts : List (Option Parts)) (order : List ℕ) : Type 0 where
  pub below : All (λ i. i < length cuts) order
  pub distinct : AreDistinct order
  pub whole : All (λ i. get_or cuts i None ≡ None) order

-- what a plan's tasks have come to: where each stands, in the order in which they were made, and which of them stand in the
-- places of the shards that were found first, in the order of these
pub record Queued (R : Type 0) : Type 0 where
  pub places : List (Place R)
  pub order : List ℕ

abbrev pub running : {R : Type 0} → List (Place R) → ℕ
running places = count_by is_running places

abbrev pub open_ones : {R : Type 0} → List (Place R) → ℕ
open_ones places = count_by is_open places

-- the next task to run is the first that waits, where fewer than sixteen run
abbrev pub next_task : {R : Type 0} → List (Place R) → Option ℕ
next_task places = if nat_lt (running places) 16 then position is_waiting places else None

abbrev pub waiting_places : {R : Type 0} → ℕ → List (Place R)
waiting_places n = replicate n Waiting

abbrev pub begun : {R : Type 0} → ℕ → Queued R
begun count = record { places = replicate count Waiting; order = range_with_len 0 count }

abbrev pub placed : {R : Type 0} → ℕ → Place R → Queued R → Queued R
placed at p q = record q { places = set q.places at p }

abbrev pub started : {R : Type 0} → Option ℕ → Queued R → Queued R
started None q = q
started (Some at) q = placed at Running q

abbrev pub new_parts : {R : Type 0} → ℕ → Queued R → Parts
new_parts count q = record { first = length q.places; count = count }

-- task `at` was cut into so many, which wait and stand in its place
abbrev pub cut_at : {R : Type 0} → ℕ → ℕ → Queued R → Queued R
cut_at at count q = record {
  places = set q.places at (Cut (new_parts count q)) ++ replicate count Waiting;
  order = replaced at (numbers (new_parts count q)) q.order;
}

abbrev pub result_of : {R : Type 0} → Place R → List R
result_of Waiting = []
result_of Running = []
result_of Resting = []
result_of (Cut p) = []
result_of (Ended r) = r ∷ []

-- the results of those that have ended, in that order
abbrev pub results : {R : Type 0} → List (Place R) → List ℕ → List R
results places order = flat_map (λ i. result_of (get_or places i Waiting)) order

-- task `at` stands so
pub record StandsAt {R : Type 0} (test : Place R → Bool) (places : List (Place R)) (at : ℕ) : Type 0 where
  pub within : at < length places
  pub passes : test (get_or places at Waiting) ≡ true

-- the counts of a queue, of which the first so many tasks were started, and this many run and have not ended
pub record IsQueue {R : Type 0} (roots first_waiting runs opens : ℕ) (places : List (Place R)) : Type 0 where
  pub roots_made : roots ≤ length places
  pub started_made : first_waiting ≤ length places
  pub began : (i : ℕ) → i < first_waiting → is_waiting (get_or places i Waiting) ≡ false
  pub waits : (i : ℕ) → first_waiting ≤ i → is_waiting (get_or places i Waiting) ≡ true
  pub running_are : running places ≡ runs
  pub few : runs ≤ 16
  pub open_are : open_ones places ≡ opens
  pub later : AreLater (map parts_of places)
  pub whole : AreWhole (map parts_of places) (order_of roots (map parts_of places))
