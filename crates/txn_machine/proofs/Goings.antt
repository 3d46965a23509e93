-- What a step of the clients makes of the lines before it.
use Rattle.std.proofs.Common.{◌≡◌, ◌≢◌, ℕ, suc, ◌<◌, ◌≤◌, ◌⊎◌, inl, inr, Bool, true, false, not, ◌&&◌, ◌||◌, if◌then◌else◌, List, [], ◌∷◌, Some, None, length, map, nat_eq, refl, sym, ap, ◌∙◌, subst, arith}
use Rattle.std.proofs.lemmas.Bool.Decides.{nat_tests}
use Rattle.std.specs.List.{filter}
use Rattle.txn_lines.specs.Lines.{line_at}
use Rattle.txn_lines.specs.Deeds.{deed_of}
use Rattle.txn_lines.specs.declared.line.Line.{Line}
use Rattle.txn_report.specs.declared.outcome.Outcome.{Outcome}
use Rattle.txn_report.specs.declared.outcome.Outcome.TheVariants.{Done, Err, Ok, Skipped, Unfinished}
use Rattle.txn_report.specs.declared.outcome.Payload.TheVariants.{Unit as Nothing, Number, Commit as Committed}
use Rattle.txn_side.specs.Sight.{AskEnds, CallEnds, EndsAlone, LineGoes, Stand, StaysOrEnds, client_at, outcomes_of, still_open}
use Rattle.txn_side.specs.Sight.Stand.{Asking, Calling, HasBegun, Idle, IsClient, Past, Working}
use Rattle.txn_side.specs.declared.turn.Ending.{Ending}
use Rattle.txn_machine.specs.Causes.{IsEnd, client_of, comes_at_once, ended_of, ends_at, is_skipped, is_unfinished, may_wait, role_of, tells}
use Rattle.txn_machine.specs.Lists.{Lists, all_ended, at_line, ended_at, newest}
use Rattle.txn_machine.specs.Rows.{AreRows, AreWoven, IsNoRow, IsRow, Row, outcome_in, role_in, stand_in}
use Rattle.txn_machine.specs.Rows.Row.{Acted, AskFailed, AskSkipped, AskWaits, Begun, CallFailed, CallSkipped, CallWaits, Happened, Made, Over, Timed, Works}
use Rattle.txn_machine.specs.Script.{is_done, outcome_of}
use Rattle.txn_machine.proofs.Calms.{outcome_other, outcome_same}
use Rattle.txn_machine.proofs.Numberings.{crashed_same, ended_other, ended_same, has_line, line_range}
use Rattle.txn_machine.proofs.Orders.{line_length}

-- What is written.

-- what a step, in which these outcomes came at a line, made of its outcome and of the line where that came
abbrev pub Written : ℕ → ℕ → List Outcome → Outcome → ℕ → Outcome → ℕ → Type 0
Written line n [] o e o2 e2 = (o2 ≡ o) × (e2 ≡ e)
Written line n (x ∷ []) o e o2 e2 = 1 ≤ line → line ≤ n → (o2 ≡ x) × (e2 ≡ n)
Written line n (x ∷ y ∷ os) o e o2 e2 = Unit {0}

pub written : (es : List Ending) (l : Lists) (j : ℕ) → length l.ended ≡ newest l → Written j (newest l) (outcomes_of j es) (outcome_of l.outcomes j) (ended_of l.ended j) (outcome_of (all_ended es l).outcomes j) (ended_of (all_ended es l).ended j)
written [] l j even = (refl, refl)
written (e ∷ es) l j even = by (nat_eq e.line j) refl (written es (ended_at e.line e.outcome l) j (line_length l.ended e.line (newest l) ∙ even ∙ sym count))
  where
    count : newest (ended_at e.line e.outcome l) ≡ newest l
    count = line_length l.outcomes e.line e.outcome

    o2 : Outcome
    o2 = outcome_of (all_ended es (ended_at e.line e.outcome l)).outcomes j

    e2 : ℕ
    e2 = ended_of (all_ended es (ended_at e.line e.outcome l)).ended j

    first : e.line ≡ j → (os : List Outcome) → Written j (newest (ended_at e.line e.outcome l)) os (outcome_of (at_line l.outcomes e.line e.outcome) j) (ended_of (at_line l.ended e.line (newest l)) j) o2 e2 → Written j (newest l) (e.outcome ∷ os) (outcome_of l.outcomes j) (ended_of l.ended j) o2 e2
    first same [] w = λ low high. (
      w.0 ∙ subst (λ k. outcome_of (at_line l.outcomes e.line e.outcome) k ≡ e.outcome) same (outcome_same l.outcomes e.line e.outcome (subst (λ k. 1 ≤ k) (sym same) low) (subst (λ k. k ≤ newest l) (sym same) high)),
      w.1 ∙ subst (λ k. ended_of (at_line l.ended e.line (newest l)) k ≡ newest l) same (ended_same l.ended e.line (newest l) (subst (λ k. 1 ≤ k) (sym same) low) (subst (λ k. k ≤ length l.ended) (sym same) (subst (λ m. j ≤ m) (sym even) high))),
    )
    first same (x ∷ os) w = tt

    by : (b : Bool) → nat_eq e.line j ≡ b → Written j (newest (ended_at e.line e.outcome l)) (outcomes_of j es) (outcome_of (at_line l.outcomes e.line e.outcome) j) (ended_of (at_line l.ended e.line (newest l)) j) o2 e2
        → Written j (newest l) (map (λ (x : Ending). x.outcome) (if b then e ∷ filter (λ (x : Ending). nat_eq x.line j) es else filter (λ (x : Ending). nat_eq x.line j) es)) (outcome_of l.outcomes j) (ended_of l.ended j) o2 e2
    by true q w = first (grind (arith, nat_tests)) (outcomes_of j es) w
    by false q w =
        let apart : j ≢ e.line = grind (arith, nat_tests) in
        subst (λ n. Written j n (outcomes_of j es) (outcome_of l.outcomes j) (ended_of l.ended j) o2 e2) count
        (subst (λ o. Written j (newest (ended_at e.line e.outcome l)) (outcomes_of j es) o (ended_of l.ended j) o2 e2) (outcome_other l.outcomes e.line j e.outcome apart)
        (subst (λ z. Written j (newest (ended_at e.line e.outcome l)) (outcomes_of j es) (outcome_of (at_line l.outcomes e.line e.outcome) j) z o2 e2) (ended_other l.ended e.line j (newest l) apart) w))

-- What becomes of a row.

-- it is of a call that ended
pub record Came (o : Outcome) : Type 0 where
  pub unfinished : is_unfinished o ≡ false
  pub skipped : is_skipped o ≡ false
  pub done : is_done o ≡ false

pub record Went (r : Row) (e n : ℕ) (o2 : Outcome) (e2 : ℕ) (new : Stand) : Type 0 where
  pub row : Row
  pub role : role_in row ≡ role_in r
  pub outcome : outcome_in row ≡ o2
  pub stand : stand_in row ≡ new
  pub change : ((o2 ≡ outcome_in r) × (e2 ≡ e)) ⊎ ((is_unfinished (outcome_in r) ≡ true) × (e2 ≡ n) × Came o2)

module _ (es : List Ending) (j n e : ℕ) (o2 : Outcome) (e2 : ℕ) (new : Stand) (low : 1 ≤ j) (high : j ≤ n) where
  still : (r : Row) → outcomes_of j es ≡ [] → new ≡ stand_in r → Written j n (outcomes_of j es) (outcome_in r) e o2 e2 → Went r e n o2 e2 new
  still r none same w =
      let is : Written j n [] (outcome_in r) e o2 e2 = subst (λ os. Written j n os (outcome_in r) e o2 e2) none w in
      record { row = r; role = refl; outcome = sym is.0; stand = sym same; change = inl is }

  ends : (r s : Row) (x : Outcome) → role_in s ≡ role_in r → outcome_in s ≡ x → stand_in s ≡ new → is_unfinished (outcome_in r) ≡ true → Came x → (o2 ≡ x) × (e2 ≡ n) → Went r e n o2 e2 new
  ends r s x role outcome stand wait came h = record { row = s; role = role; outcome = outcome ∙ sym h.0; stand = stand; change = inr (wait, h.1, subst (λ o. Came o) (sym h.0) came) }

  ask_ends : (b : Bool) (k c : ℕ) (x : Outcome) → AskEnds c b x new → (o2 ≡ x) × (e2 ≡ n) → Went (AskWaits b k c) e n o2 e2 new
  ask_ends true k c (Ok (Number v)) g h = ends (AskWaits true k c) (Begun k v c 0) (Ok (Number v)) refl refl (sym g) refl (record { unfinished = refl; skipped = refl; done = refl }) h
  ask_ends false k c (Ok (Number v)) g h = ends (AskWaits false k c) (Timed k v c) (Ok (Number v)) refl refl (sym g) refl (record { unfinished = refl; skipped = refl; done = refl }) h
  ask_ends true k c (Err x) g h = ends (AskWaits true k c) (AskFailed true k c x) (Err x) refl refl (sym g) refl (record { unfinished = refl; skipped = refl; done = refl }) h
  ask_ends false k c (Err x) g h = ends (AskWaits false k c) (AskFailed false k c x) (Err x) refl refl (sym g) refl (record { unfinished = refl; skipped = refl; done = refl }) h
  ask_ends true k c (Ok Nothing) g h = absurd g
  ask_ends true k c (Ok (Committed v)) g h = absurd g
  ask_ends false k c (Ok Nothing) g h = absurd g
  ask_ends false k c (Ok (Committed v)) g h = absurd g
  ask_ends true k c Unfinished g h = absurd g
  ask_ends false k c Unfinished g h = absurd g
  ask_ends true k c Done g h = absurd g
  ask_ends false k c Done g h = absurd g
  ask_ends true k c Skipped g h = absurd g
  ask_ends false k c Skipped g h = absurd g

  call_ends : (b : Bool) (x c : ℕ) (o : Outcome) → CallEnds c b o new → (o2 ≡ o) × (e2 ≡ n) → Went (CallWaits b x c) e n o2 e2 new
  call_ends true x c (Ok (Committed t)) g h = elim g [
    | inl i ↦ ends (CallWaits true x c) (Over x t c) (Ok (Committed t)) refl refl (sym i) refl (record { unfinished = refl; skipped = refl; done = refl }) h
    | inr i ↦ ends (CallWaits true x c) (Works x t c) (Ok (Committed t)) refl refl (sym i) refl (record { unfinished = refl; skipped = refl; done = refl }) h
  ]
  call_ends false x c (Ok Nothing) g h = ends (CallWaits false x c) (Acted x c) (Ok Nothing) refl refl (sym g) refl (record { unfinished = refl; skipped = refl; done = refl }) h
  call_ends true x c (Err o) g h = ends (CallWaits true x c) (CallFailed true x c o) (Err o) refl refl (sym g) refl (record { unfinished = refl; skipped = refl; done = refl }) h
  call_ends false x c (Err o) g h = ends (CallWaits false x c) (CallFailed false x c o) (Err o) refl refl (sym g) refl (record { unfinished = refl; skipped = refl; done = refl }) h
  call_ends true x c (Ok Nothing) g h = absurd g
  call_ends true x c (Ok (Number v)) g h = absurd g
  call_ends false x c (Ok (Committed v)) g h = absurd g
  call_ends false x c (Ok (Number v)) g h = absurd g
  call_ends true x c Unfinished g h = absurd g
  call_ends false x c Unfinished g h = absurd g
  call_ends true x c Done g h = absurd g
  call_ends false x c Done g h = absurd g
  call_ends true x c Skipped g h = absurd g
  call_ends false x c Skipped g h = absurd g

  asked : (b : Bool) (k c : ℕ) (os : List Outcome) → StaysOrEnds (Asking c b) (AskEnds c b) os new → Written j n os Unfinished e o2 e2 → Went (AskWaits b k c) e n o2 e2 new
  asked b k c [] g w = record { row = AskWaits b k c; role = refl; outcome = sym w.0; stand = sym g; change = inl w }
  asked b k c (x ∷ []) g w = ask_ends b k c x g (w low high)
  asked b k c (x ∷ y ∷ os) g w = absurd g

  called : (b : Bool) (x c : ℕ) (os : List Outcome) → StaysOrEnds (Calling c x b) (CallEnds c b) os new → Written j n os Unfinished e o2 e2 → Went (CallWaits b x c) e n o2 e2 new
  called b x c [] g w = record { row = CallWaits b x c; role = refl; outcome = sym w.0; stand = sym g; change = inl w }
  called b x c (o ∷ []) g w = call_ends b x c o g (w low high)
  called b x c (o ∷ p ∷ os) g w = absurd g

  pub went : (r : Row) → LineGoes es j (stand_in r) new → Written j n (outcomes_of j es) (outcome_in r) e o2 e2 → Went r e n o2 e2 new
  went (Made c) g w = still (Made c) g.0 g.1 w
  went (AskWaits b k c) g w = asked b k c (outcomes_of j es) g w
  went (Begun k v c m) g w =
      let is : Written j n [] (Ok (Number v)) e o2 e2 = subst (λ os. Written j n os (Ok (Number v)) e o2 e2) g.0 w in
      record { row = Begun k v c (still_open m (outcomes_of m es)); role = refl; outcome = sym is.0; stand = sym g.1; change = inl is }
  went (Timed k v c) g w = still (Timed k v c) g.0 g.1 w
  went (AskFailed b k c x) g w = still (AskFailed b k c x) g.0 g.1 w
  went (AskSkipped b k) g w = still (AskSkipped b k) g.0 g.1 w
  went (CallWaits b x c) g w = called b x c (outcomes_of j es) g w
  went (Acted x c) g w = still (Acted x c) g.0 g.1 w
  went (Over x v c) g w = still (Over x v c) g.0 g.1 w
  went (Works x v c) g w = still (Works x v c) g.0 g.1 w
  went (CallFailed b x c o) g w = still (CallFailed b x c o) g.0 g.1 w
  went (CallSkipped b x) g w = still (CallSkipped b x) g.0 g.1 w
  went (Happened d) g w = still (Happened d) g.0 g.1 w

-- What stood there before.

module _ (es : List Ending) (n : ℕ) where
  ask_past : (c : ℕ) (b : Bool) (o : Outcome) (new : Stand) → AskEnds c b o new → (new ≡ HasBegun c 0) ⊎ (new ≡ Past c)
  ask_past c true (Ok (Number v)) new g = inl g
  ask_past c false (Ok (Number v)) new g = inr g
  ask_past c true (Err x) new g = inr g
  ask_past c false (Err x) new g = inr g
  ask_past c true (Ok Nothing) new g = absurd g
  ask_past c true (Ok (Committed v)) new g = absurd g
  ask_past c false (Ok Nothing) new g = absurd g
  ask_past c false (Ok (Committed v)) new g = absurd g
  ask_past c true Unfinished new g = absurd g
  ask_past c false Unfinished new g = absurd g
  ask_past c true Done new g = absurd g
  ask_past c false Done new g = absurd g
  ask_past c true Skipped new g = absurd g
  ask_past c false Skipped new g = absurd g

  call_past : (c : ℕ) (b : Bool) (o : Outcome) (new : Stand) → CallEnds c b o new → (new ≡ Past c) ⊎ (new ≡ Working c)
  call_past c true (Ok (Committed t)) new g = g
  call_past c false (Ok Nothing) new g = inl g
  call_past c true (Err x) new g = inl g
  call_past c false (Err x) new g = inl g
  call_past c true (Ok Nothing) new g = absurd g
  call_past c true (Ok (Number v)) new g = absurd g
  call_past c false (Ok (Committed v)) new g = absurd g
  call_past c false (Ok (Number v)) new g = absurd g
  call_past c true Unfinished new g = absurd g
  call_past c false Unfinished new g = absurd g
  call_past c true Done new g = absurd g
  call_past c false Done new g = absurd g
  call_past c true Skipped new g = absurd g
  call_past c false Skipped new g = absurd g

  -- what may stand there after a step of the clients
  abbrev MayStand : Stand → Stand → Type 0
  MayStand (Asking c b) new = ((outcomes_of n es ≡ []) × (new ≡ Asking c b)) ⊎ ((new ≡ HasBegun c 0) ⊎ (new ≡ Past c))
  MayStand (Calling c x b) new = ((outcomes_of n es ≡ []) × (new ≡ Calling c x b)) ⊎ ((new ≡ Past c) ⊎ (new ≡ Working c))
  MayStand (HasBegun c m) new = (outcomes_of n es ≡ []) × (new ≡ HasBegun c (still_open m (outcomes_of m es)))
  MayStand old new = (outcomes_of n es ≡ []) × (new ≡ old)

  may_ask : (c : ℕ) (b : Bool) (os : List Outcome) (new : Stand) → StaysOrEnds (Asking c b) (AskEnds c b) os new → ((os ≡ []) × (new ≡ Asking c b)) ⊎ ((new ≡ HasBegun c 0) ⊎ (new ≡ Past c))
  may_ask c b [] new g = inl (refl, g)
  may_ask c b (o ∷ []) new g = inr (ask_past c b o new g)
  may_ask c b (o ∷ p ∷ os) new g = absurd g

  may_call : (c x : ℕ) (b : Bool) (os : List Outcome) (new : Stand) → StaysOrEnds (Calling c x b) (CallEnds c b) os new → ((os ≡ []) × (new ≡ Calling c x b)) ⊎ ((new ≡ Past c) ⊎ (new ≡ Working c))
  may_call c x b [] new g = inl (refl, g)
  may_call c x b (o ∷ []) new g = inr (call_past c b o new g)
  may_call c x b (o ∷ p ∷ os) new g = absurd g

  may_stand : (old new : Stand) → LineGoes es n old new → MayStand old new
  may_stand (Asking c b) new g = may_ask c b (outcomes_of n es) new g
  may_stand (Calling c x b) new g = may_call c x b (outcomes_of n es) new g
  may_stand (HasBegun c m) new g = g
  may_stand Idle new g = g
  may_stand (IsClient c) new g = g
  may_stand (Past c) new g = g
  may_stand (Working c) new g = g

  was_calling : (old new : Stand) (c x : ℕ) (b : Bool) → MayStand old new → new ≡ Calling c x b → (old ≡ Calling c x b) × (outcomes_of n es ≡ [])
  was_calling (Asking d k) new c x b g e = absurd (elim g [ inl h ↦ let a = h.1 in cc | inr h ↦ elim h [ inl i ↦ cc | inr i ↦ cc ] ])
  was_calling (Calling d y k) new c x b g e = elim g [ inl h ↦ (sym h.1 ∙ e, h.0) | inr h ↦ absurd (elim h [ inl i ↦ cc | inr i ↦ cc ]) ]
  was_calling (HasBegun d m) new c x b g e = absurd (let a = g.1 in cc)
  was_calling Idle new c x b g e = absurd (let a = g.1 in cc)
  was_calling (IsClient d) new c x b g e = absurd (let a = g.1 in cc)
  was_calling (Past d) new c x b g e = absurd (let a = g.1 in cc)
  was_calling (Working d) new c x b g e = absurd (let a = g.1 in cc)

  stays_client : (old new : Stand) (c : ℕ) → MayStand old new → old ≡ IsClient c → new ≡ IsClient c
  stays_client (Asking d k) new c g e = absurd (cc)
  stays_client (Calling d y k) new c g e = absurd (cc)
  stays_client (HasBegun d m) new c g e = absurd (cc)
  stays_client Idle new c g e = absurd (cc)
  stays_client (IsClient d) new c g e = g.1 ∙ e
  stays_client (Past d) new c g e = absurd (cc)
  stays_client (Working d) new c g e = absurd (cc)

  was_client : (old new : Stand) (c : ℕ) → MayStand old new → new ≡ IsClient c → old ≡ IsClient c
  was_client (Asking d k) new c g e = absurd (elim g [ inl h ↦ let a = h.1 in cc | inr h ↦ elim h [ inl i ↦ cc | inr i ↦ cc ] ])
  was_client (Calling d y k) new c g e = absurd (elim g [ inl h ↦ let a = h.1 in cc | inr h ↦ elim h [ inl i ↦ cc | inr i ↦ cc ] ])
  was_client (HasBegun d m) new c g e = absurd (let a = g.1 in cc)
  was_client Idle new c g e = absurd (let a = g.1 in cc)
  was_client (IsClient d) new c g e = sym g.1 ∙ e
  was_client (Past d) new c g e = absurd (let a = g.1 in cc)
  was_client (Working d) new c g e = absurd (let a = g.1 in cc)

  same_client : (old new : Stand) → MayStand old new → client_at new ≡ client_at old
  same_client (Asking d k) new g = elim g [ inl h ↦ ap client_at h.1 | inr h ↦ elim h [ inl i ↦ ap client_at i | inr i ↦ ap client_at i ] ]
  same_client (Calling d y k) new g = elim g [ inl h ↦ ap client_at h.1 | inr h ↦ elim h [ inl i ↦ ap client_at i | inr i ↦ ap client_at i ] ]
  same_client (HasBegun d m) new g = ap client_at g.1
  same_client Idle new g = ap client_at g.1
  same_client (IsClient d) new g = ap client_at g.1
  same_client (Past d) new g = ap client_at g.1
  same_client (Working d) new g = ap client_at g.1

-- no line that is there loses its client, nor gets one
pub client_stays : (es : List Ending) (n : ℕ) (old new : Stand) → LineGoes es n old new → client_at new ≡ client_at old
client_stays es n old new g = same_client es n old new (may_stand es n old new g)

begun_is : (c d k m : ℕ) → ◌≡◌ {A = Stand} (HasBegun c k) (HasBegun d m) → (c ≡ d) × (k ≡ m)
begun_is c d k m e = (cc, cc)

was_open : (m k : ℕ) (os : List Outcome) → still_open k os ≡ m → 1 ≤ m → (k ≡ m) × (os ≡ [])
was_open m k [] e one = (e, refl)
was_open m k (o ∷ os) e one = absurd (omega arith)

was_begun : (es : List Ending) (n : ℕ) (old new : Stand) (c m : ℕ) → 1 ≤ m → MayStand es n old new → new ≡ HasBegun c m → (old ≡ HasBegun c m) × (outcomes_of m es ≡ [])
was_begun es n (Asking d k) new c m one g e = absurd (elim g [ inl h ↦ let a = h.1 in cc | inr h ↦ elim h [ inl i ↦ let z = (begun_is d c 0 m (sym i ∙ e)).1 in omega arith | inr i ↦ cc ] ])
was_begun es n (Calling d y k) new c m one g e = absurd (elim g [ inl h ↦ let a = h.1 in cc | inr h ↦ elim h [ inl i ↦ cc | inr i ↦ cc ] ])
was_begun es n (HasBegun d k) new c m one g e =
    let is = begun_is d c (still_open k (outcomes_of k es)) m (sym g.1 ∙ e) in
    let h = was_open m k (outcomes_of k es) is.1 one in
    ((λ i. HasBegun (is.0 i) (h.0 i)), subst (λ z. outcomes_of z es ≡ []) h.0 h.1)
was_begun es n Idle new c m one g e = absurd (let a = g.1 in cc)
was_begun es n (IsClient d) new c m one g e = absurd (let a = g.1 in cc)
was_begun es n (Past d) new c m one g e = absurd (let a = g.1 in cc)
was_begun es n (Working d) new c m one g e = absurd (let a = g.1 in cc)

-- All lines.

-- A line's outcome and where it came are as they were, or it was unfinished and its outcome came in the step of line n.
abbrev pub Change : ℕ → Outcome → ℕ → Outcome → ℕ → Type 0
Change n o e o2 e2 = ((o2 ≡ o) × (e2 ≡ e)) ⊎ ((is_unfinished o ≡ true) × (e2 ≡ n) × Came o2)

pub done_stays : (n : ℕ) (o o2 : Outcome) (e e2 : ℕ) → Change n o e o2 e2 → is_done o ≡ is_done o2
done_stays n o o2 e e2 (inl h) = ap is_done (sym h.0)
done_stays n o o2 e e2 (inr h) = undone o h.0 ∙ sym h.2.done
  where
    undone : (o : Outcome) → is_unfinished o ≡ true → is_done o ≡ false
    undone (Ok p) u = refl
    undone (Err x) u = refl
    undone Unfinished u = refl
    undone Done u = absurd (cc)
    undone Skipped u = refl

pub skipped_stays : (n : ℕ) (o o2 : Outcome) (e e2 : ℕ) → Change n o e o2 e2 → is_skipped o ≡ is_skipped o2
skipped_stays n o o2 e e2 (inl h) = ap is_skipped (sym h.0)
skipped_stays n o o2 e e2 (inr h) = unskipped o h.0 ∙ sym h.2.skipped
  where
    unskipped : (o : Outcome) → is_unfinished o ≡ true → is_skipped o ≡ false
    unskipped (Ok p) u = refl
    unskipped (Err x) u = refl
    unskipped Unfinished u = refl
    unskipped Done u = refl
    unskipped Skipped u = absurd (cc)

pub ends_same : (seen know : ℕ → Outcome) (e : ℕ) → is_done (seen e) ≡ is_done (know e) → (ls : List Line) → ends_at ls seen e ≡ ends_at ls know e
ends_same seen know e a [] = refl
ends_same seen know e a (l ∷ ls) =
    let before = ends_same seen know e a ls in
    λ i. if nat_eq (suc (length ls)) e then tells (deed_of l) && a i else before i

-- where calls of one line only end, none of another does
pub alone_none : (es : List Ending) (line n : ℕ) → EndsAlone line es → n ≢ line → outcomes_of n es ≡ []
alone_none [] line n h far = refl
alone_none (e ∷ es) line n h far =
    let here : e.line ≡ line = h 0 e (omega arith) in
    let off : nat_eq e.line n ≡ false = grind (arith, nat_tests) in
    ap (λ (b : Bool). map (λ (x : Ending). x.outcome) (if b then e ∷ filter (λ (x : Ending). nat_eq x.line n) es else filter (λ (x : Ending). nat_eq x.line n) es)) off
    ∙ alone_none es line n (λ k d low. h (suc k) d (omega arith)) far

module _ (script : List Line) (es : List Ending) (o o2 : ℕ → Outcome) (e e2 : ℕ → ℕ) (st st2 : ℕ → Stand) (crashed : List Bool)
    (was : AreRows script o e st crashed)
    (goes : (n : ℕ) → LineGoes es n (st n) (st2 n))
    (writes : (n : ℕ) → Written n (length script) (outcomes_of n es) (o n) (e n) (o2 n) (e2 n))
    (ending : EndsAlone (length script) es ⊎ (ends_at script o (length script) ≡ true))
  where
    gone_row : (n : ℕ) (l : Line) → line_at script n ≡ Some l → IsRow (role_of l) (o2 n) (st2 n) × Change (length script) (o n) (e n) (o2 n) (e2 n)
    gone_row n l there =
        let range = line_range script n l there in
        let r = was.rows n l there in
        let w = went es n (length script) (e n) (o2 n) (e2 n) (st2 n) range.0 range.1 r.row (subst (λ s. LineGoes es n s (st2 n)) (sym r.at) (goes n)) (subst (λ x. Written n (length script) (outcomes_of n es) x (e n) (o2 n) (e2 n)) (sym r.outcome) (writes n)) in
        (record { row = w.row; is = w.role ∙ r.is; outcome = w.outcome; at = w.stand }, subst (λ x. Change (length script) x (e n) (o2 n) (e2 n)) r.outcome w.change)

    none_row : (n : ℕ) → line_at script n ≡ None → IsNoRow (o2 n) (e2 n) (st2 n) × Change (length script) (o n) (e n) (o2 n) (e2 n)
    none_row n there =
        let r = was.none n there in
        let g : (outcomes_of n es ≡ []) × (st2 n ≡ Idle) = subst (λ s. LineGoes es n s (st2 n)) r.at (goes n) in
        let w : (o2 n ≡ o n) × (e2 n ≡ e n) = subst (λ os. Written n (length script) os (o n) (e n) (o2 n) (e2 n)) g.0 (writes n) in
        (record { outcome = w.0 ∙ r.outcome; ended = w.1 ∙ r.ended; at = g.1 }, inl w)

    pub gone_change : (n : ℕ) → Change (length script) (o n) (e n) (o2 n) (e2 n)
    gone_change n = elim (has_line script n) [ inl h ↦ (none_row n h).1 | inr h ↦ (gone_row n h.0 h.1).1 ]

    done_same : (n : ℕ) → is_done (o n) ≡ is_done (o2 n)
    done_same n = done_stays (length script) (o n) (o2 n) (e n) (e2 n) (gone_change n)

    ends_still : (k : ℕ) → ends_at script o k ≡ ends_at script o2 k
    ends_still k = ends_same o o2 k (done_same k) script

    at_last : (n : ℕ) (l : Line) → line_at script n ≡ Some l → IsEnd script o n l (e n) → Change (length script) (o n) (e n) (o2 n) (e2 n) → IsEnd script o2 n l (e2 n)
    at_last n l there was_end (inl h) = record {
      unfinished = ap is_unfinished h.0 ∙ was_end.unfinished ∙ ap (λ k. nat_eq k 0) (sym h.1);
      past = λ one. subst (λ k. n ≤ k) (sym h.1) (was_end.past (subst (λ k. 1 ≤ k) h.1 one));
      within = subst (λ k. k ≤ length script) (sym h.1) was_end.within;
      own = λ once. h.1 ∙ was_end.own (subst (λ x. comes_at_once (role_of l) x ≡ true) h.0 once);
      later = λ after. subst (λ k. ends_at script o2 k ≡ true) (sym h.1) (sym (ends_still (e n)) ∙ was_end.later (subst (λ k. n < k) h.1 after));
    }
    at_last n l there was_end (inr h) = record {
      unfinished = h.2.unfinished ∙ sym last;
      past = λ one. subst (λ k. n ≤ k) (sym h.1) range.1;
      within = subst (λ k. k ≤ length script) (sym h.1) (omega arith);
      own = λ once. absurd (waited once);
      later = λ after. subst (λ k. ends_at script o2 k ≡ true) (sym h.1) (sym (ends_still (length script)) ∙ elim ending [ inl alone ↦ absurd (quiet alone (subst (λ k. n < k) h.1 after)) | inr ok ↦ ok ]);
    }
      where
        range : (1 ≤ n) × (n ≤ length script)
        range = line_range script n l there

        last : nat_eq (e2 n) 0 ≡ false
        last = let a = range.0 in let b = range.1 in let c = h.1 in grind (arith, nat_tests)

        quiet : EndsAlone (length script) es → n < length script → ⊥
        quiet alone before =
            let none = alone_none es (length script) n alone (λ same. absurd (omega arith)) in
            let w : (o2 n ≡ o n) × (e2 n ≡ e n) = subst (λ os. Written n (length script) os (o n) (e n) (o2 n) (e2 n)) none (writes n) in
            let a = ap is_unfinished w.0 ∙ h.0 in
            let b = h.2.unfinished in
            cc

        still_waits : (r : Row) → is_unfinished (outcome_in r) ≡ true → not (may_wait (role_in r)) || is_skipped (o2 n) ≡ true → is_skipped (o2 n) ≡ false → ⊥
        still_waits (AskWaits b k c) u v f = cc
        still_waits (CallWaits b x c) u v f = cc
        still_waits (Made c) u v f = cc
        still_waits (Begun k x c m) u v f = cc
        still_waits (Timed k x c) u v f = cc
        still_waits (AskFailed b k c x) u v f = cc
        still_waits (AskSkipped b k) u v f = cc
        still_waits (Acted x c) u v f = cc
        still_waits (Over x y c) u v f = cc
        still_waits (Works x y c) u v f = cc
        still_waits (CallFailed b x c y) u v f = cc
        still_waits (CallSkipped b x) u v f = cc
        still_waits (Happened true) u v f = cc
        still_waits (Happened false) u v f = cc

        waited : comes_at_once (role_of l) (o2 n) ≡ true → ⊥
        waited once = let r = was.rows n l there in still_waits r.row (subst (λ x. is_unfinished x ≡ true) (sym r.outcome) h.0) (subst (λ z. not (may_wait z) || is_skipped (o2 n) ≡ true) (sym r.is) once) h.2.skipped

    may : (n : ℕ) → MayStand es n (st n) (st2 n)
    may n = may_stand es n (st n) (st2 n) (goes n)

    still_calling : (n c x : ℕ) (b : Bool) → st n ≡ Calling c x b → outcomes_of n es ≡ [] → st2 n ≡ Calling c x b
    still_calling n c x b a none = subst (λ os. StaysOrEnds (Calling c x b) (CallEnds c b) os (st2 n)) none (subst (λ s. LineGoes es n s (st2 n)) a (goes n))

    still_begun : (n x c : ℕ) → st x ≡ HasBegun c n → outcomes_of n es ≡ [] → st2 x ≡ HasBegun c n
    still_begun n x c a none =
        let g : (outcomes_of x es ≡ []) × (st2 x ≡ HasBegun c (still_open n (outcomes_of n es))) = subst (λ s. LineGoes es x s (st2 x)) a (goes x) in
        g.1 ∙ ap (λ os. HasBegun c (still_open n os)) none

    gone_woven : AreWoven script o2 st2 crashed
    gone_woven = record {
      calling = λ n c x b h. let a = was_calling es n (st n) (st2 n) c x b (may n) h in still_begun n x c (was.woven.calling n c x b a.0) a.1;
      called = λ x c m one h.
          let a = was_begun es x (st x) (st2 x) c m one (may x) h in
          let k = was.woven.called x c m one a.0 in
          (k.0, still_calling m c x k.0 k.1 a.1);
      one = λ j k c a b. was.woven.one j k c (was_client es j (st j) (st2 j) c (may j) a) (was_client es k (st k) (st2 k) c (may k) b);
      below = λ n c h. was.woven.below n c (was_client es n (st n) (st2 n) c (may n) h);
      clients = λ n c h. stays_client es (client_of script n) (st (client_of script n)) (st2 (client_of script n)) c (may (client_of script n)) (was.woven.clients n c (sym (same_client es n (st n) (st2 n) (may n)) ∙ h));
      flags = λ n c h. was.woven.flags n c (was_client es n (st n) (st2 n) c (may n) h) ∙ crashed_same o o2 script (λ j h. done_same j) n;
      ahead = λ n h. sym (crashed_same o o2 script (λ j m. done_same j) n) ∙ was.woven.ahead n h;
    }

    pub gone_rows : AreRows script o2 e2 st2 crashed
    gone_rows = record {
      rows = λ n l there. (gone_row n l there).0;
      none = λ n there. (none_row n there).0;
      ended = λ n l there. at_last n l there (was.ended n l there) (gone_row n l there).1;
      woven = gone_woven;
    }
