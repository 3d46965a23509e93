-- Lines by their numbers, and what is read of them.
use Rattle.std.proofs.Common.{◌≡◌, ◌≢◌, ℕ, zero, suc, ◌+◌, ◌-◌, ◌<◌, ◌≤◌, ◌⊎◌, inl, inr, Bool, true, false, ◌&&◌, ◌||◌, if◌then◌else◌, List, [], ◌∷◌, ◌++◌, Option, Some, None, length, set, nat_eq, refl, sym, ap, ◌∙◌, subst, arith}
use Rattle.std.proofs.lemmas.Bool.Decides.{nat_tests}
use Rattle.txn_lines.specs.Lines.{line_at}
use Rattle.txn_lines.specs.Deeds.{deed_of}
use Rattle.txn_lines.specs.declared.line.Line.{Line}
use Rattle.txn_report.specs.declared.outcome.Outcome.{Outcome}
use Rattle.txn_side.specs.Sight.{Stand, stand_at}
use Rattle.txn_side.specs.Sight.Stand.{Idle}
use Rattle.txn_machine.specs.Causes.{client_by, client_of, crashes, ended_of, is_busy, is_crashed, is_unfinished, role_of, uses}
use Rattle.txn_machine.specs.Lists.{at_line}
use Rattle.txn_machine.specs.Script.{is_done}
use Rattle.txn_machine.proofs.Calms.{or_ended, or_other, or_same, same_line, suc_apart}

-- Lines.

pub line_new : (l : Line) (ls : List Line) → line_at (l ∷ ls) (suc (length ls)) ≡ Some l
line_new l ls =
    let e : nat_eq (length ls + 1) (suc (length ls)) ≡ true = grind (arith, nat_tests) in
    ap (λ (b : Bool). if b then Some l else line_at ls (suc (length ls))) e

pub line_old : (l : Line) (ls : List Line) (j : ℕ) → j ≢ suc (length ls) → line_at (l ∷ ls) j ≡ line_at ls j
line_old l ls j apart =
    let e : nat_eq (length ls + 1) j ≡ false = grind (arith, nat_tests) in
    ap (λ (b : Bool). if b then Some l else line_at ls j) e

pub line_range : (ls : List Line) (j : ℕ) (l : Line) → line_at ls j ≡ Some l → (1 ≤ j) × (j ≤ length ls)
line_range [] j l h = absurd (cc)
line_range (k ∷ ls) j l h = by (nat_eq (length ls + 1) j) refl (λ g. line_range ls j l g) h
  where
    by : (b : Bool) → nat_eq (length ls + 1) j ≡ b → (line_at ls j ≡ Some l → (1 ≤ j) × (j ≤ length ls)) → (if b then Some k else line_at ls j) ≡ Some l → (1 ≤ j) × (j ≤ length (k ∷ ls))
    by true e more g = let same : length ls + 1 ≡ j = grind (arith, nat_tests) in (omega arith, omega arith)
    by false e more g = let r = more g in let a = r.0 in let b = r.1 in (omega arith, omega arith)

pub line_ahead : (ls : List Line) (j : ℕ) → length ls < j → line_at ls j ≡ None
line_ahead [] j h = refl
line_ahead (k ∷ ls) j h =
    let e : nat_eq (length ls + 1) j ≡ false = grind (arith, nat_tests) in
    ap (λ (b : Bool). if b then Some k else line_at ls j) e ∙ line_ahead ls j (omega arith)

pub has_line : (ls : List Line) (j : ℕ) → (line_at ls j ≡ None) ⊎ ((l : Line) × (line_at ls j ≡ Some l))
has_line ls j = by (line_at ls j) refl
  where
    by : (o : Option Line) → line_at ls j ≡ o → (line_at ls j ≡ None) ⊎ ((l : Line) × (line_at ls j ≡ Some l))
    by None e = inl e
    by (Some l) e = inr (l, e)

-- Clients.

pub client_new : (l : Line) (ls : List Line) → client_of (l ∷ ls) (suc (length ls)) ≡ client_by (suc (length ls)) (λ m. client_of ls m) (role_of l)
client_new l ls =
    let e : nat_eq (suc (length ls)) (suc (length ls)) ≡ true = grind (arith, nat_tests) in
    ap (λ (b : Bool). if b then client_by (suc (length ls)) (λ m. client_of ls m) (role_of l) else client_of ls (suc (length ls))) e

pub client_old : (l : Line) (ls : List Line) (j : ℕ) → j ≢ suc (length ls) → client_of (l ∷ ls) j ≡ client_of ls j
client_old l ls j apart =
    let e : nat_eq (suc (length ls)) j ≡ false = grind (arith, nat_tests) in
    ap (λ (b : Bool). if b then client_by j (λ m. client_of ls m) (role_of l) else client_of ls j) e

pub crashed_same : (seen know : ℕ → Outcome) (ls : List Line) → ((j : ℕ) → j ≤ length ls → is_done (seen j) ≡ is_done (know j)) → (c : ℕ) → is_crashed seen ls c ≡ is_crashed know ls c
crashed_same seen know [] same c = refl
crashed_same seen know (l ∷ ls) same c =
    let now = same (suc (length ls)) (omega arith) in
    let before = crashed_same seen know ls (λ j h. same j (omega arith)) c in
    λ i. crashes (deed_of l) c && now i || before i

-- Calls of a transaction.

or_cases : (a b : Bool) → a || b ≡ true → (a ≡ true) ⊎ (b ≡ true)
or_cases true b h = inl refl
or_cases false b h = inr h

and_both : (a b : Bool) → a && b ≡ true → (a ≡ true) × (b ≡ true)
and_both true true h = (refl, refl)
and_both true false h = absurd (cc)
and_both false b h = absurd (cc)

-- a call of the transaction of line x that waits
pub record Waiting (seen : ℕ → Outcome) (ls : List Line) (x : ℕ) : Type 0 where
  pub number : ℕ
  pub line : Line
  pub there : line_at ls number ≡ Some line
  pub asks : uses (role_of line) x ≡ true
  pub waits : is_unfinished (seen number) ≡ true

pub busy_waits : (seen : ℕ → Outcome) (ls : List Line) (x : ℕ) → is_busy seen ls x ≡ true → Waiting seen ls x
busy_waits seen [] x h = absurd (cc)
busy_waits seen (l ∷ ls) x h = elim (or_cases (uses (role_of l) x && is_unfinished (seen (suc (length ls)))) (is_busy seen ls x) h) [
  | inl a ↦ let both = and_both (uses (role_of l) x) (is_unfinished (seen (suc (length ls)))) a in record { number = suc (length ls); line = l; there = line_new l ls; asks = both.0; waits = both.1 }
  | inr b ↦ later (busy_waits seen ls x b)
]
  where
    later : Waiting seen ls x → Waiting seen (l ∷ ls) x
    later w =
        let most = (line_range ls w.number w.line w.there).1 in
        record { number = w.number; line = w.line; there = line_old l ls w.number (λ e. absurd (omega arith)) ∙ w.there; asks = w.asks; waits = w.waits }

pub waits_busy : (seen : ℕ → Outcome) (ls : List Line) (x : ℕ) → Waiting seen ls x → is_busy seen ls x ≡ true
waits_busy seen [] x w = absurd (let h = w.there in cc)
waits_busy seen (l ∷ ls) x w = elim (same_line (suc (length ls)) w.number) [
  | inl e ↦ let is : ◌≡◌ {A = Option Line} (Some w.line) (Some l) = sym w.there ∙ ap (λ n. line_at (l ∷ ls) n) e ∙ line_new l ls in here (subst (λ k. uses (role_of k) x ≡ true) (some_is w.line l is) w.asks) (subst (λ n. is_unfinished (seen n) ≡ true) e w.waits)
  | inr apart ↦ or_right (uses (role_of l) x && is_unfinished (seen (suc (length ls)))) (is_busy seen ls x) (waits_busy seen ls x (record { number = w.number; line = w.line; there = sym (line_old l ls w.number apart) ∙ w.there; asks = w.asks; waits = w.waits }))
]
  where
    some_is : (a b : Line) → ◌≡◌ {A = Option Line} (Some a) (Some b) → a ≡ b
    some_is a b h = cc

    or_right : (a b : Bool) → b ≡ true → a || b ≡ true
    or_right true b h = refl
    or_right false b h = h

    here : uses (role_of l) x ≡ true → is_unfinished (seen (suc (length ls))) ≡ true → is_busy seen (l ∷ ls) x ≡ true
    here a b = λ i. (a i && b i) || is_busy seen ls x

-- Where the outcomes came.

pub ended_other : (es : List ℕ) (line j n : ℕ) → j ≢ line → ended_of (at_line es line n) j ≡ ended_of es j
ended_other es zero j n h = refl
ended_other es (suc i) zero n h = refl
ended_other es (suc i) (suc j) n h = or_other es i j n 0 (suc_apart i j h)

pub ended_same : (es : List ℕ) (line n : ℕ) → 1 ≤ line → line ≤ length es → ended_of (at_line es line n) line ≡ n
ended_same es zero n a b = absurd (omega arith)
ended_same es (suc i) n a b = or_same es i n 0 (omega arith)

pub ended_opened : (es : List ℕ) (j : ℕ) → ended_of (es ++ 0 ∷ []) j ≡ ended_of es j
ended_opened es zero = refl
ended_opened es (suc i) = or_ended es 0 i

pub stand_set : (stands : List Stand) (line : ℕ) (s : Stand) → 1 ≤ line → line ≤ length stands → stand_at (set stands (line - 1) s) line ≡ s
stand_set stands zero s one most = absurd (omega arith)
stand_set stands (suc i) s one most = let e : suc i - 1 ≡ i = omega arith in rw e (or_same stands i s Idle (omega arith))
