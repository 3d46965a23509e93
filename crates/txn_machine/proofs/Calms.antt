-- The outcome of an event is there to stay.
use Rattle.std.proofs.Common.{◌≡◌, ◌≢◌, ℕ, zero, suc, ◌-◌, ◌<◌, ◌≤◌, ◌⊎◌, inl, inr, Bool, true, false, if◌then◌else◌, List, [], ◌∷◌, ◌++◌, length, get_or, set, map, nat_eq, refl, sym, ap, ◌∙◌, subst, arith, length-append}
use Rattle.std.proofs.lemmas.Bool.Decides.{nat_tests}
use Rattle.std.specs.List.{filter}
use Rattle.txn_report.specs.declared.outcome.Outcome.{Outcome}
use Rattle.txn_report.specs.declared.outcome.Outcome.TheVariants.{Done, Err, Ok, Skipped, Unfinished}
use Rattle.txn_report.specs.declared.outcome.Payload.TheVariants.{Unit as Nothing, Number, Commit as Committed}
use Rattle.txn_side.specs.Sight.{AskEnds, CallEnds, Goes, LineGoes, Sight, Stand, StaysOrEnds, outcomes_of, stand_at}
use Rattle.txn_side.specs.Sight.Stand.{Asking, Calling, HasBegun, Idle, IsClient, Past, Working}
use Rattle.txn_side.specs.declared.turn.Ending.{Ending}
use Rattle.txn_side.specs.declared.turn.Posting.{Posting}
use Rattle.txn_machine.specs.Lists.{Lists, all_ended, at_line, ended_at}
use Rattle.txn_machine.specs.Script.{AreCalm, is_done, outcome_of, waits}

-- Outcomes.

pub or_same : {X : Type 0} (xs : List X) (i : ℕ) (y d : X) → i < length xs → get_or (set xs i y) i d ≡ y
or_same [] i y d h = absurd (omega arith)
or_same (z ∷ xs) zero y d h = refl
or_same (z ∷ xs) (suc i) y d h = or_same xs i y d (omega arith)

pub suc_apart : (i j : ℕ) → suc j ≢ suc i → j ≢ i
suc_apart i j h e = h (ap (λ n. suc n) e)

pub or_other : {X : Type 0} (xs : List X) (i j : ℕ) (y d : X) → j ≢ i → get_or (set xs i y) j d ≡ get_or xs j d
or_other [] i j y d h = refl
or_other (w ∷ xs) zero zero y d h = absurd (h refl)
or_other (w ∷ xs) zero (suc j) y d h = refl
or_other (w ∷ xs) (suc i) zero y d h = refl
or_other (w ∷ xs) (suc i) (suc j) y d h = or_other xs i j y d (suc_apart i j h)

-- what stands at an index of a list that was set, where both make a test false
or_test : {X : Type 0} (f : X → Bool) (xs : List X) (i : ℕ) (y d : X) → f y ≡ false → f (get_or xs i d) ≡ false → f (get_or (set xs i y) i d) ≡ false
or_test f [] i y d a b = b
or_test f (z ∷ xs) zero y d a b = a
or_test f (z ∷ xs) (suc i) y d a b = or_test f xs i y d a b

pub outcome_other : (outs : List Outcome) (line j : ℕ) (o : Outcome) → j ≢ line → outcome_of (at_line outs line o) j ≡ outcome_of outs j
outcome_other outs zero j o h = refl
outcome_other outs (suc i) zero o h = refl
outcome_other outs (suc i) (suc j) o h = or_other outs i j o Unfinished (suc_apart i j h)

pub outcome_same : (outs : List Outcome) (line : ℕ) (o : Outcome) → 1 ≤ line → line ≤ length outs → outcome_of (at_line outs line o) line ≡ o
outcome_same outs zero o a b = absurd (omega arith)
outcome_same outs (suc i) o a b = or_same outs i o Unfinished (omega arith)

outcome_false : (outs : List Outcome) (line : ℕ) (o : Outcome) → is_done o ≡ false → is_done (outcome_of outs line) ≡ false → is_done (outcome_of (at_line outs line o) line) ≡ false
outcome_false outs zero o a b = refl
outcome_false outs (suc i) o a b = or_test is_done outs i o Unfinished a b

-- What ends.

-- none of them is an event's
abbrev AreOver : List Outcome → Type 0
AreOver [] = Unit {0}
AreOver (o ∷ os) = (is_done o ≡ false) × AreOver os

-- what ends at a line is no event's outcome, nor was what stood there
abbrev Ends : List Outcome → Bool → Type 0
Ends os before = AreOver os × ((os ≡ []) ⊎ (before ≡ false))

ended_flag : (es : List Ending) (l : Lists) (j : ℕ) → Ends (outcomes_of j es) (is_done (outcome_of l.outcomes j)) → is_done (outcome_of (all_ended es l).outcomes j) ≡ is_done (outcome_of l.outcomes j)
ended_flag [] l j h = refl
ended_flag (e ∷ es) l j h = by (nat_eq e.line j) refl (λ x g. ended_flag es x j g) h
  where
    by : (b : Bool) → nat_eq e.line j ≡ b → ((x : Lists) → Ends (outcomes_of j es) (is_done (outcome_of x.outcomes j)) → is_done (outcome_of (all_ended es x).outcomes j) ≡ is_done (outcome_of x.outcomes j)) → Ends (map (λ (x : Ending). x.outcome) (if b then e ∷ filter (λ (x : Ending). nat_eq x.line j) es else filter (λ (x : Ending). nat_eq x.line j) es)) (is_done (outcome_of l.outcomes j)) → is_done (outcome_of (all_ended es (ended_at e.line e.outcome l)).outcomes j) ≡ is_done (outcome_of l.outcomes j)
    by false q more g =
        let apart : j ≢ e.line = grind (arith, nat_tests) in
        let same : outcome_of (at_line l.outcomes e.line e.outcome) j ≡ outcome_of l.outcomes j = outcome_other l.outcomes e.line j e.outcome apart in
        more (ended_at e.line e.outcome l) (subst (λ o. Ends (outcomes_of j es) (is_done o)) (sym same) g) ∙ ap is_done same
    by true q more g =
        let here : e.line ≡ j = grind (arith, nat_tests) in
        let was : is_done (outcome_of l.outcomes j) ≡ false = elim g.1 [ inl z ↦ absurd (cc) | inr z ↦ z ] in
        let now : is_done (outcome_of (at_line l.outcomes e.line e.outcome) j) ≡ false =
        subst (λ i. is_done (outcome_of (at_line l.outcomes e.line e.outcome) i) ≡ false) here (outcome_false l.outcomes e.line e.outcome g.0.0 (subst (λ i. is_done (outcome_of l.outcomes i) ≡ false) (sym here) was)) in
        more (ended_at e.line e.outcome l) (g.0.1, inr now) ∙ now ∙ sym was

-- what comes of a line is no event's outcome, and comes only where a call waited
abbrev Comes : List Outcome → Stand → Stand → Type 0
Comes os old new = AreOver os × ((os ≡ []) ⊎ (waits old ≡ true)) × (waits new ≡ true → waits old ≡ true)

nothing_comes : (os : List Outcome) (old new : Stand) → os ≡ [] → (waits new ≡ true → waits old ≡ true) → Comes os old new
nothing_comes os old new e w = (subst (λ xs. AreOver xs) (sym e) tt, inl e, w)

ask_over : (c : ℕ) (b : Bool) (o : Outcome) (new : Stand) → AskEnds c b o new → is_done o ≡ false
ask_over c true (Ok (Number v)) new h = refl
ask_over c false (Ok (Number v)) new h = refl
ask_over c true (Err e) new h = refl
ask_over c false (Err e) new h = refl
ask_over c true (Ok Nothing) new h = absurd h
ask_over c true (Ok (Committed v)) new h = absurd h
ask_over c false (Ok Nothing) new h = absurd h
ask_over c false (Ok (Committed v)) new h = absurd h
ask_over c true Unfinished new h = absurd h
ask_over c false Unfinished new h = absurd h
ask_over c true Done new h = absurd h
ask_over c false Done new h = absurd h
ask_over c true Skipped new h = absurd h
ask_over c false Skipped new h = absurd h

call_over : (c : ℕ) (b : Bool) (o : Outcome) (new : Stand) → CallEnds c b o new → is_done o ≡ false
call_over c b (Ok p) new h = refl
call_over c b (Err e) new h = refl
call_over c true Unfinished new h = absurd h
call_over c false Unfinished new h = absurd h
call_over c true Done new h = absurd h
call_over c false Done new h = absurd h
call_over c true Skipped new h = absurd h
call_over c false Skipped new h = absurd h

ask_comes : (c : ℕ) (b : Bool) (os : List Outcome) (new : Stand) → StaysOrEnds (Asking c b) (AskEnds c b) os new → Comes os (Asking c b) new
ask_comes c b [] new h = (tt, inl refl, λ w. refl)
ask_comes c b (o ∷ []) new h = ((ask_over c b o new h, tt), inr refl, λ w. refl)
ask_comes c b (o ∷ p ∷ os) new h = absurd h

call_comes : (c x : ℕ) (b : Bool) (os : List Outcome) (new : Stand) → StaysOrEnds (Calling c x b) (CallEnds c b) os new → Comes os (Calling c x b) new
call_comes c x b [] new h = (tt, inl refl, λ w. refl)
call_comes c x b (o ∷ []) new h = ((call_over c b o new h, tt), inr refl, λ w. refl)
call_comes c x b (o ∷ p ∷ os) new h = absurd h

line_comes : (ended : List Ending) (n : ℕ) (old new : Stand) → LineGoes ended n old new → Comes (outcomes_of n ended) old new
line_comes ended n (Asking c b) new h = ask_comes c b (outcomes_of n ended) new h
line_comes ended n (Calling c x b) new h = call_comes c x b (outcomes_of n ended) new h
line_comes ended n (HasBegun c m) new h = nothing_comes (outcomes_of n ended) (HasBegun c m) new h.0 (λ w. subst (λ s. waits s ≡ true) h.1 w)
line_comes ended n Idle new h = nothing_comes (outcomes_of n ended) Idle new h.0 (λ w. subst (λ s. waits s ≡ true) h.1 w)
line_comes ended n (IsClient c) new h = nothing_comes (outcomes_of n ended) (IsClient c) new h.0 (λ w. subst (λ s. waits s ≡ true) h.1 w)
line_comes ended n (Past c) new h = nothing_comes (outcomes_of n ended) (Past c) new h.0 (λ w. subst (λ s. waits s ≡ true) h.1 w)
line_comes ended n (Working c) new h = nothing_comes (outcomes_of n ended) (Working c) new h.0 (λ w. subst (λ s. waits s ≡ true) h.1 w)

module _ (posted : List Posting) (ended : List Ending) (from to : Sight) (l : Lists) (goes : Goes posted ended from to) (calm : AreCalm from.stands l.outcomes) where
  pub gone_flag : (j : ℕ) → is_done (outcome_of (all_ended ended l).outcomes j) ≡ is_done (outcome_of l.outcomes j)
  gone_flag j =
      let c = line_comes ended j (stand_at from.stands j) (stand_at to.stands j) (goes.lines j) in
      ended_flag ended l j (c.0, elim c.1 [ inl e ↦ inl e | inr w ↦ inr (calm j w) ])

  pub gone_calm : AreCalm to.stands (all_ended ended l).outcomes
  gone_calm = λ j w.
      let c = line_comes ended j (stand_at from.stands j) (stand_at to.stands j) (goes.lines j) in
      gone_flag j ∙ calm j (c.2 w)

-- Lines that are opened and set.

pub or_old : {X : Type 0} (xs : List X) (y d : X) (i : ℕ) → i < length xs → get_or (xs ++ y ∷ []) i d ≡ get_or xs i d
or_old [] y d i h = absurd (omega arith)
or_old (z ∷ xs) y d zero h = refl
or_old (z ∷ xs) y d (suc i) h = or_old xs y d i (omega arith)

pub or_ended : {X : Type 0} (xs : List X) (d : X) (i : ℕ) → get_or (xs ++ d ∷ []) i d ≡ get_or xs i d
or_ended [] d zero = refl
or_ended [] d (suc i) = refl
or_ended (z ∷ xs) d zero = refl
or_ended (z ∷ xs) d (suc i) = or_ended xs d i

pub or_past : {X : Type 0} (xs : List X) (d : X) (i : ℕ) → length xs ≤ i → get_or xs i d ≡ d
or_past [] d i h = refl
or_past (z ∷ xs) d zero h = absurd (omega arith)
or_past (z ∷ xs) d (suc i) h = or_past xs d i (omega arith)

-- the line that is opened is unfinished, and nothing stands there
pub outcome_opened : (outs : List Outcome) (j : ℕ) → outcome_of (outs ++ Unfinished ∷ []) j ≡ outcome_of outs j
outcome_opened outs zero = refl
outcome_opened outs (suc i) = or_ended outs Unfinished i

pub outcome_past : (outs : List Outcome) (n : ℕ) → length outs ≡ n → outcome_of outs (suc n) ≡ Unfinished
outcome_past outs n e = or_past outs Unfinished n (omega arith)

pub stands_opened : (stands : List Stand) (n : ℕ) → length stands ≡ n → length (stands ++ Idle ∷ []) ≡ suc n
stands_opened stands n e = let a = length-append stands (Idle ∷ []) in omega arith

pub begun_line : (stands : List Stand) (x c : ℕ) → stand_at stands x ≡ HasBegun c 0 → 1 ≤ x
begun_line stands zero c e = absurd (cc)
begun_line stands (suc i) c e = omega arith

pub stand_opened : (stands : List Stand) (j : ℕ) → stand_at (stands ++ Idle ∷ []) j ≡ stand_at stands j
stand_opened stands zero = refl
stand_opened stands (suc i) = or_ended stands Idle i

pub calm_opened : (stands : List Stand) (outs : List Outcome) → AreCalm stands outs → AreCalm (stands ++ Idle ∷ []) (outs ++ Unfinished ∷ [])
calm_opened stands outs h = λ j w. ap is_done (outcome_opened outs j) ∙ h j (subst (λ s. waits s ≡ true) (stand_opened stands j) w)

pub stand_last : (stands : List Stand) (n : ℕ) → length stands ≡ n → waits (stand_at (stands ++ Idle ∷ []) (suc n)) ≡ false
stand_last stands n e = ap waits (stand_opened stands (suc n) ∙ or_past stands Idle n (omega arith))

pub same_line : (line n : ℕ) → (n ≡ line) ⊎ (n ≢ line)
same_line line n = by (nat_eq n line) refl
  where
    by : (b : Bool) → nat_eq n line ≡ b → (n ≡ line) ⊎ (n ≢ line)
    by true e = inl (grind (arith, nat_tests))
    by false e = inr (grind (arith, nat_tests))

-- an outcome at a line where no call waits
pub calm_told : (stands : List Stand) (outs : List Outcome) (line : ℕ) (o : Outcome) → waits (stand_at stands line) ≡ false → AreCalm stands outs → AreCalm stands (at_line outs line o)
calm_told stands outs line o none h = λ j w. elim (same_line line j) [
  | inl e ↦ absurd (let x = subst (λ i. waits (stand_at stands i) ≡ true) e w in cc)
  | inr apart ↦ ap is_done (outcome_other outs line j o apart) ∙ h j w
]

stand_same : (stands : List Stand) (line : ℕ) (s : Stand) → 1 ≤ line → waits (stand_at (set stands (line - 1) s) line) ≡ true → waits s ≡ true
stand_same stands zero s one w = absurd (omega arith)
stand_same stands (suc i) s one w = let e : suc i - 1 ≡ i = omega arith in at_index stands i (subst (λ k. waits (get_or (set stands k s) i Idle) ≡ true) e w)
  where
    at_index : (xs : List Stand) (k : ℕ) → waits (get_or (set xs k s) k Idle) ≡ true → waits s ≡ true
    at_index [] k v = absurd (cc)
    at_index (x ∷ xs) zero v = v
    at_index (x ∷ xs) (suc k) v = at_index xs k v

pub stand_other : (stands : List Stand) (line j : ℕ) (s : Stand) → 1 ≤ line → j ≢ line → stand_at (set stands (line - 1) s) j ≡ stand_at stands j
stand_other stands zero j s one apart = absurd (omega arith)
stand_other stands (suc i) zero s one apart = refl
stand_other stands (suc i) (suc j) s one apart = let e : suc i - 1 ≡ i = omega arith in rw e (or_other stands i j s Idle (suc_apart i j apart))

-- another thing stands at a line, which is not done if a call waits there now
pub calm_set : (stands : List Stand) (outs : List Outcome) (line : ℕ) (s : Stand) → 1 ≤ line → (waits s ≡ true → is_done (outcome_of outs line) ≡ false) → AreCalm stands outs → AreCalm (set stands (line - 1) s) outs
calm_set stands outs line s one new h = λ j w. elim (same_line line j) [
  | inl e ↦ subst (λ i. is_done (outcome_of outs i) ≡ false) (sym e) (new (stand_same stands line s one (subst (λ i. waits (stand_at (set stands (line - 1) s) i) ≡ true) e w)))
  | inr apart ↦ h j (subst (λ x. waits x ≡ true) (stand_other stands line j s one apart) w)
]
