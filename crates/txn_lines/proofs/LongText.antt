-- A text that is longer than any script.
use Rattle.std.proofs.Common.{◌≡◌, ℕ, ◌+◌, ◌*◌, ◌<◌, ◌≤◌, ◌⊎◌, eqb, List, [], ◌∷◌, ◌++◌, length, reverse, refl, sym, ap, ◌∙◌, arith, inl, inr}
use Rattle.std.specs.List.{onto_first}
use Rattle.std.proofs.lemmas.Bool.{cases_Bool}
use Rattle.std.proofs.lemmas.List.{reverse-append}
use Rattle.txn_lines.specs.declared.line.Line.{Line}
use Rattle.txn_lines.specs.declared.script.Why.{Why}
use Rattle.txn_lines.specs.declared.script.Why.TheVariants.{TooMany, TooLong}
use Rattle.txn_lines.specs.Text.{text_lines, most_bytes, IsBad, AreGood, IsScript, IsFirstBad}

-- ---- how long lines are

-- the bytes of the lines, with a newline each
total : List (List ℕ) → ℕ
total [] = 0
total (t ∷ ts) = length t + 1 + total ts

total-append : (xs ys : List (List ℕ)) → total (xs ++ ys) ≡ total xs + total ys
unfolding total
total-append [] ys = omega arith
total-append (x ∷ xs) ys = omega (arith, total-append xs ys)

total-reverse : (ts : List (List ℕ)) → total (reverse ts) ≡ total ts
unfolding total
total-reverse [] = refl
total-reverse (t ∷ ts) =
    let back : reverse (t ∷ ts) ≡ reverse ts ++ t ∷ [] = reverse-append (t ∷ []) ts in
    rw back (omega (arith, total-append (reverse ts) (t ∷ []), total-reverse ts))

total-onto_first : (b : ℕ) (ts : List (List ℕ)) → total ts + 1 ≤ total (onto_first b ts)
unfolding total
total-onto_first b [] = omega arith
total-onto_first b (t ∷ ts) = omega arith

holds_all : (bytes : List ℕ) → length bytes ≤ total (text_lines bytes)
unfolding total
holds_all [] = omega arith
holds_all (b ∷ bytes) = elim (cases_Bool (eqb b 10)) [
  | inl ends ↦ rw ends (omega (arith, holds_all bytes))
  | inr goes_on ↦ rw goes_on (omega (arith, holds_all bytes, total-onto_first b (text_lines bytes)))
]

good_total : (texts : List (List ℕ)) (lines : List Line) → AreGood texts lines → total texts ≤ 4097 * length lines
unfolding total
good_total [] [] h = omega arith
good_total [] (line ∷ lines) h = absurd h
good_total (text ∷ texts) [] h = absurd h
good_total (text ∷ texts) (line ∷ lines) h = omega (arith, good_total texts lines h.0, h.1.short)

good_count : (texts : List (List ℕ)) (lines : List Line) → AreGood texts lines → length lines ≤ 65536
good_count [] [] h = omega arith
good_count [] (line ∷ lines) h = absurd h
good_count (text ∷ texts) [] h = absurd h
good_count (text ∷ texts) (line ∷ lines) h = omega (arith, h.1.room)

pub no_script : (bytes : List ℕ) (lines : List Line) → most_bytes ≤ length bytes → IsScript bytes lines → ⊥
no_script bytes lines long h =
    let most : total (reverse (text_lines bytes)) ≤ 4097 * length (reverse lines) = good_total (reverse (text_lines bytes)) (reverse lines) h in
    let count : length (reverse lines) ≤ 65536 = good_count (reverse (text_lines bytes)) (reverse lines) h in
    let all : length bytes ≤ total (text_lines bytes) = holds_all bytes in
    omega (arith, most, count, all, total-reverse (text_lines bytes))

-- ---- more bytes at the end

-- these lines begin as the others, and then comes the same line or, in the place of the last, a longer one
record IsLonger (front : List (List ℕ)) (bad : List ℕ) (rest texts : List (List ℕ)) : Type 0 where
  here : List ℕ
  after : List (List ℕ)
  cut : texts ≡ front ++ here ∷ after
  same : (here ≡ bad) ⊎ ((rest ≡ []) × (length bad ≤ length here))

no_lines : (bytes : List ℕ) → text_lines bytes ≡ [] → bytes ≡ []
no_lines [] e = refl
no_lines (b ∷ bytes) e = elim (cases_Bool (eqb b 10)) [
  | inl ends ↦ let f : [] ∷ text_lines bytes ≡ [] = rw ends at e in absurd cc
  | inr goes_on ↦ let f : onto_first b (text_lines bytes) ≡ [] = rw goes_on at e in absurd (never (text_lines bytes) b f)
]
  where
    never : (ts : List (List ℕ)) (b : ℕ) → onto_first b ts ≡ [] → ⊥
    never [] b e = cc
    never (t ∷ ts) b e = cc

-- a byte before the first line
with_byte : (b : ℕ) (p : List ℕ) (ps front : List (List ℕ)) (bad : List ℕ) (rest texts : List (List ℕ)) → (b ∷ p) ∷ ps ≡ front ++ bad ∷ rest
    → ((front : List (List ℕ)) (bad : List ℕ) (rest : List (List ℕ)) → p ∷ ps ≡ front ++ bad ∷ rest → IsLonger front bad rest texts) → IsLonger front bad rest (onto_first b texts)
with_byte b p ps [] bad rest texts e longer =
    let line : b ∷ p ≡ bad = cc in
    let others : ps ≡ rest = cc in
    let l = longer [] p ps refl in
    let cut : onto_first b texts ≡ (b ∷ l.here) ∷ l.after = ap (onto_first b) l.cut in
    record {
      here = b ∷ l.here;
      after = l.after;
      cut = cut;
      same = elim l.same [
        | inl is ↦ inl (ap (λ (x : List ℕ). b ∷ x) is ∙ line)
        | inr last ↦ inr (sym others ∙ last.0, rw (← line) (omega (arith, last.1)))
      ];
    }
with_byte b p ps (f ∷ fs) bad rest texts e longer =
    let first : b ∷ p ≡ f = cc in
    let others : ps ≡ fs ++ bad ∷ rest = cc in
    let l = longer (p ∷ fs) bad rest (ap (λ (x : List (List ℕ)). p ∷ x) others) in
    let cut : onto_first b texts ≡ (b ∷ p) ∷ fs ++ l.here ∷ l.after = ap (onto_first b) l.cut in
    record { here = l.here; after = l.after; cut = cut ∙ ap (λ (x : List ℕ). x ∷ fs ++ l.here ∷ l.after) first; same = l.same }

-- the only line goes on
last_line : (b : ℕ) (front : List (List ℕ)) (bad : List ℕ) (rest texts : List (List ℕ)) → (b ∷ []) ∷ [] ≡ front ++ bad ∷ rest → IsLonger front bad rest (onto_first b texts)
last_line b [] bad rest [] e =
    let line : b ∷ [] ≡ bad = cc in
    record { here = b ∷ []; after = []; cut = refl; same = inl line }
last_line b [] bad rest (t ∷ ts) e =
    let line : b ∷ [] ≡ bad = cc in
    let none : rest ≡ [] = cc in
    record { here = b ∷ t; after = ts; cut = refl; same = inr (none, rw (← line) (omega arith)) }
last_line b (f ∷ []) bad rest texts e = let none : [] ≡ bad ∷ rest = cc in absurd cc
last_line b (f ∷ g ∷ fs) bad rest texts e = let none : [] ≡ g ∷ fs ++ bad ∷ rest = cc in absurd cc

-- what is said of all ways to cut the lines of a text
abbrev GoesOn : List (List ℕ) → List (List ℕ) → Type 0
GoesOn lines texts = (front : List (List ℕ)) (bad : List ℕ) (rest : List (List ℕ)) → lines ≡ front ++ bad ∷ rest → IsLonger front bad rest texts

after_newline : (lines texts : List (List ℕ)) → GoesOn lines texts → GoesOn ([] ∷ lines) ([] ∷ texts)
after_newline lines texts longer [] bad rest e = let line : [] ≡ bad = cc in record { here = []; after = texts; cut = refl; same = inl line }
after_newline lines texts longer (f ∷ fs) bad rest e =
    let first : [] ≡ f = cc in
    let others : lines ≡ fs ++ bad ∷ rest = cc in
    let l = longer fs bad rest others in
    record { here = l.here; after = l.after; cut = ap (λ (x : List (List ℕ)). [] ∷ x) l.cut ∙ ap (λ (x : List ℕ). x ∷ fs ++ l.here ∷ l.after) first; same = l.same }

in_line : (b : ℕ) (lines texts : List (List ℕ)) → GoesOn lines texts → GoesOn (onto_first b lines) (onto_first b texts)
in_line b [] texts longer front bad rest e = last_line b front bad rest texts e
in_line b (p ∷ ps) texts longer front bad rest e = with_byte b p ps front bad rest texts e longer

longer_by : (bytes more : List ℕ) → GoesOn (text_lines bytes) (text_lines (bytes ++ more))
longer_by [] more [] bad rest e = absurd cc
longer_by [] more (f ∷ fs) bad rest e = absurd cc
longer_by (b ∷ bytes) more front bad rest e = elim (cases_Bool (eqb b 10)) [
  | inl ends ↦ rw ends (after_newline (text_lines bytes) (text_lines (bytes ++ more)) (longer_by bytes more) front bad rest (rw ends at e))
  | inr goes_on ↦ rw goes_on (in_line b (text_lines bytes) (text_lines (bytes ++ more)) (longer_by bytes more) front bad rest (rw goes_on at e))
]

-- ---- the first bad line

-- a last line that is so long is bad for the same reason when it is longer
longer_is_bad : (before : List Line) (bad here : List ℕ) (why : Why) → IsBad before bad why → (length before < 65536 → 4096 < length bad) → length bad ≤ length here → IsBad before here why
longer_is_bad before bad here TooMany h long more = h
longer_is_bad before bad here TooLong h long more = (h.0, omega (arith, h.1, more))
longer_is_bad before bad here why h long more = absurd (omega (arith, long h.0, h.1))

pub stays_bad : (bytes more : List ℕ) (n : ℕ) (why : Why) → most_bytes ≤ length bytes → IsFirstBad bytes n why → IsFirstBad (bytes ++ more) n why
unfolding total
stays_bad bytes more n why long b =
    let l = longer_by bytes more (reverse b.texts) b.bad b.rest b.cut in
    let last : b.rest ≡ [] → length b.before < 65536 → 4096 < length b.bad = λ none room.
    let cut : text_lines bytes ≡ reverse b.texts ++ b.bad ∷ [] = b.cut ∙ ap (λ (r : List (List ℕ)). reverse b.texts ++ b.bad ∷ r) none in
    let all : total (text_lines bytes) ≡ total (reverse b.texts ++ b.bad ∷ []) = ap total cut in
    omega (arith, all, total-append (reverse b.texts) (b.bad ∷ []), total-reverse b.texts, holds_all bytes, good_total b.texts b.before b.good, room, long) in
    record {
      texts = b.texts;
      before = b.before;
      bad = l.here;
      rest = l.after;
      cut = l.cut;
      good = b.good;
      number = b.number;
      reason = elim l.same [
        | inl is ↦ rw is b.reason
        | inr longer ↦ longer_is_bad b.before b.bad l.here why b.reason (last longer.0) longer.1
      ];
    }
