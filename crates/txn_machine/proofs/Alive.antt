-- No call of a client that has crashed ends.
use Rattle.std.proofs.Common.{◌≡◌, ◌≢◌, ℕ, suc, ◌<◌, ◌≤◌, inl, inr, Bool, true, false, not, ◌&&◌, ◌||◌, if◌then◌else◌, List, [], ◌∷◌, Option, Some, None, length, get_or, map, nat_eq, nat_lt, refl, sym, ap, ◌∙◌, subst, arith}
use Rattle.std.proofs.lemmas.Bool.Decides.{nat_tests}
use Rattle.std.specs.List.{All, filter}
use Rattle.txn_lines.specs.Lines.{why_after}
use Rattle.txn_lines.specs.Deeds.{deed_of}
use Rattle.txn_lines.specs.declared.line.Line.{Line}
use Rattle.txn_report.specs.declared.outcome.Outcome.{Outcome}
use Rattle.txn_side.specs.Sight.{client_at, is_live, lives, outcomes_of, stand_at}
use Rattle.txn_side.specs.declared.turn.Ending.{Ending}
use Rattle.txn_machine.specs.Causes.{AllLive, client_of, crashes, ended_of, is_crashed, is_unfinished, known_of, lines_before}
use Rattle.txn_machine.specs.Lists.{Lists, followed, newest}
use Rattle.txn_machine.specs.Rows.{AreRows}
use Rattle.txn_machine.specs.Running.{IsEven}
use Rattle.txn_machine.specs.Script.{is_done, outcome_of}
use Rattle.txn_machine.proofs.Beginnings.{crashed_before}
use Rattle.txn_machine.proofs.Calms.{same_line}
use Rattle.txn_machine.proofs.Caused.{apart, changes, known_same, mid_rows, new_place, seen_now, writes}
use Rattle.txn_machine.proofs.Courses.{Course}
use Rattle.txn_machine.proofs.Goings.{Came, Written}
use Rattle.txn_machine.proofs.Idles.{live_of}
use Rattle.txn_machine.proofs.Numberings.{client_old, line_old}

-- The lines before a line.

pub before_next : (ls : List Line) → lines_before ls (suc (length ls)) ≡ ls
before_next [] = refl
before_next (z ∷ zs) =
    let on : nat_lt (suc (length zs)) (suc (suc (length zs))) ≡ true = grind (arith, nat_tests) in
    ap (λ (b : Bool). if b then z ∷ zs else lines_before zs (suc (suc (length zs)))) on

pub before_few : (ls : List Line) (n : ℕ) → length (lines_before ls n) ≤ length ls
before_few [] n = omega arith
before_few (l ∷ ls) n = by (nat_lt (length (l ∷ ls)) n) (before_few ls n)
  where
    by : (b : Bool) → length (lines_before ls n) ≤ length ls → length (if b then l ∷ ls else lines_before ls n) ≤ length (l ∷ ls)
    by true h = omega arith
    by false h = omega arith

pub before_old : (line : Line) (ls : List Line) (n : ℕ) → n ≤ suc (length ls) → lines_before (line ∷ ls) n ≡ lines_before ls n
before_old line ls n low =
    let off : nat_lt (suc (length ls)) n ≡ false = grind (arith, nat_tests) in
    ap (λ (b : Bool). if b then line ∷ ls else lines_before ls n) off

before_new : (line : Line) (ls : List Line) → lines_before (line ∷ ls) (suc (length ls)) ≡ ls
before_new line ls = before_old line ls (suc (length ls)) (omega arith) ∙ before_next ls

-- Who ended.

record IsAmong (es : List Ending) (n : ℕ) : Type 0 where
  place : ℕ
  below : place < length es
  line : (d : Ending) → (get_or es place d).line ≡ n

is_among : (es : List Ending) (n : ℕ) (x : Outcome) (xs : List Outcome) → outcomes_of n es ≡ x ∷ xs → IsAmong es n
is_among [] n x xs h = absurd (cc)
is_among (e ∷ es) n x xs h = by (nat_eq e.line n) refl (λ g. is_among es n x xs g) h
  where
    later : IsAmong es n → IsAmong (e ∷ es) n
    later a = let b = a.below in record { place = suc a.place; below = omega arith; line = λ d. a.line d }

    by : (b : Bool) → nat_eq e.line n ≡ b → (outcomes_of n es ≡ x ∷ xs → IsAmong es n) → map (λ (z : Ending). z.outcome) (if b then e ∷ filter (λ (z : Ending). nat_eq z.line n) es else filter (λ (z : Ending). nat_eq z.line n) es) ≡ x ∷ xs → IsAmong (e ∷ es) n
    by true q more g = record { place = 0; below = omega arith; line = λ d. grind (arith, nat_tests) }
    by false q more g = later (more g)

live_among : (P : ℕ → Bool) (es : List Ending) (n : ℕ) → All (λ (e : Ending). P e.line ≡ true) es → (x : Outcome) (xs : List Outcome) → outcomes_of n es ≡ x ∷ xs → P n ≡ true
live_among P [] n h x xs g = absurd (cc)
live_among P (e ∷ es) n h x xs g =
    let a = is_among (e ∷ es) n x xs g in
    subst (λ k. P k ≡ true) (a.line e) (h a.place e a.below)

or_none : (a b : Bool) → a || b ≡ false → b ≡ false
or_none true b h = absurd (cc)
or_none false b h = h

not_true : (a : Bool) → not a ≡ true → a ≡ false
not_true true h = absurd (cc)
not_true false h = refl

has_some : (crashed : List Bool) (o : Option ℕ) → lives crashed o ≡ true → (c : ℕ) × (o ≡ Some c)
has_some crashed None h = absurd (cc)
has_some crashed (Some c) h = (c, refl)

module _ (line : Line) (ls : List Line) (old : Lists) (told : newest old ≡ length ls) (even : IsEven old) (good : why_after ls line ≡ None)
    (was : AreRows ls (λ n. outcome_of old.outcomes n) (λ n. ended_of old.ended n) (λ n. stand_at old.sight.stands n) old.sight.crashed)
    (live : AllLive ls (λ n. outcome_of old.outcomes n) (λ n. ended_of old.ended n))
    (new : Lists) (c : Course (deed_of line) old new) where
  abbrev o : ℕ → Outcome
  o n = outcome_of old.outcomes n

  abbrev e : ℕ → ℕ
  e n = ended_of old.ended n

  abbrev o2 : ℕ → Outcome
  o2 n = outcome_of c.mid.outcomes n

  abbrev e2 : ℕ → ℕ
  e2 n = ended_of c.mid.ended n

  abbrev o3 : ℕ → Outcome
  o3 n = outcome_of (followed c.posted c.ended c.mid).outcomes n

  abbrev e3 : ℕ → ℕ
  e3 n = ended_of (followed c.posted c.ended c.mid).ended n

  came_live : (n : ℕ) → is_unfinished (o2 n) ≡ true → Came (o3 n) → is_live c.from n ≡ true
  came_live n waited came = by (outcomes_of n c.ended) refl
    where
      by : (os : List Outcome) → outcomes_of n c.ended ≡ os → is_live c.from n ≡ true
      by [] q =
          let w : (o3 n ≡ o2 n) × (e3 n ≡ e2 n) = subst (λ os. Written n (suc (length ls)) os (o2 n) (e2 n) (o3 n) (e3 n)) q (writes line ls old told even good was new c n) in
          absurd (let a = ap is_unfinished w.0 ∙ waited in let b = came.unfinished in cc)
      by (x ∷ xs) q = live_among (λ k. is_live c.from k) c.ended n c.goes.live x xs q

  not_crashed : (n : ℕ) → n ≢ suc (length ls) → is_live c.from n ≡ true → is_crashed o ls (client_of ls n) ≡ false
  not_crashed n far h =
      let k = has_some c.from.crashed (client_at (stand_at c.from.stands n)) h in
      let rows = mid_rows line ls old told even good was new c in
      let flag = live_of (line ∷ ls) o2 e2 (λ j. stand_at c.from.stands j) c.from.crashed rows n k.0 k.1 in
      let none = not_true (is_crashed o2 (line ∷ ls) (client_of (line ∷ ls) n)) (sym flag ∙ h) in
      let here = ap (λ z. is_crashed o2 (line ∷ ls) z) (sym (client_old line ls n far)) ∙ none in
      sym (crashed_before line ls o o2 e e2 (λ j. stand_at old.sight.stands j) old.sight.crashed was (apart line ls old told even good was new c) (client_of ls n))
      ∙ or_none (crashes (deed_of line) (client_of ls n) && is_done (o2 (suc (length ls)))) (is_crashed o2 ls (client_of ls n)) here

  pub live_now : AllLive (line ∷ ls) o3 e3
  live_now n l there after = elim (same_line (suc (length ls)) n) [
    | inl here ↦ absurd (own here)
    | inr far ↦ elim (changes line ls old told even good was new c n) [
      | inl h ↦ stays far (h.1 ∙ (apart line ls old told even good was new c n far).1)
      | inr h ↦ comes far h.1 (not_crashed n far (came_live n h.0 h.2))
    ]
  ]
    where
      own : n ≡ suc (length ls) → ⊥
      own here = elim (new_place line ls old told even good was new c) [
        | inl a ↦ let b : e3 n ≡ 0 = ap e3 here ∙ a in omega arith
        | inr a ↦ let b : e3 n ≡ suc (length ls) = ap e3 here ∙ a in omega arith
      ]

      stays : n ≢ suc (length ls) → e3 n ≡ e n → is_crashed (λ j. known_of (e3 j) (e3 n) (o3 j)) (lines_before (line ∷ ls) (e3 n)) (client_of (line ∷ ls) n) ≡ false
      stays far same =
          let at = sym (line_old line ls n far) ∙ there in
          let low : e n ≤ length ls = (was.ended n l at).within in
          let near : e n ≤ suc (length ls) = omega (arith, low) in
          let seen : (λ (j : ℕ). known_of (e3 j) (e n) (o3 j)) ≡ (λ (j : ℕ). known_of (e j) (e n) (o j)) = λ i j. known_same line ls old told even good was new c (e n) (omega arith) j i in
          (λ i. is_crashed (λ j. known_of (e3 j) (same i) (o3 j)) (lines_before (line ∷ ls) (same i)) (client_old line ls n far i))
          ∙ (λ i. is_crashed (seen i) (before_old line ls (e n) near i) (client_of ls n))
          ∙ live n l at (subst (λ k. n < k) same after)

      comes : n ≢ suc (length ls) → e3 n ≡ suc (length ls) → is_crashed o ls (client_of ls n) ≡ false → is_crashed (λ j. known_of (e3 j) (e3 n) (o3 j)) (lines_before (line ∷ ls) (e3 n)) (client_of (line ∷ ls) n) ≡ false
      comes far last none =
          (λ i. is_crashed (λ j. known_of (e3 j) (last i) (o3 j)) (lines_before (line ∷ ls) (last i)) (client_old line ls n far i))
          ∙ (λ i. is_crashed (seen_now line ls old told even good was new c i) (before_new line ls i) (client_of ls n))
          ∙ none
