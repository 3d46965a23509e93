-- A number that is read is spelled so, and one that is spelled so is read.
use Rattle.std.proofs.Common.{◌≡◌, ℕ, ◌+◌, ◌-◌, ◌*◌, ◌^◌, ◌<◌, ◌≤◌, true, false, cond, eqb, ltb, leb, ◌&&◌, List, [], ◌∷◌, length, get_or, Some, None, refl, sym, ap, ◌∙◌, arith, inl, inr, lit<}
use Rattle.std.specs.Prelude.{bytes_eq, codes, decimal, take}
use Rattle.std.specs.Char.{digit_value, is_ascii_digit}
use Rattle.std.specs.Str.Parse.{AllDigits, digits_value, digits_value_after}
use Rattle.std.proofs.lemmas.Bool.{eqb-false, eq-eqb, ne_eqb, ltb-true, leb-true, lt-ltb, le-ltb, le-leb, and_parts, and_from, and_right, and_left, cases_lt}
use Rattle.std.proofs.lemmas.Str.Parse.{IsNumeralModel, numerals_by_value, tells_digits, digit_from_value}
use Rattle.std.proofs.lemmas.Fmt.{decimal-digits_value, digits_decimal, digits_value-decimal, decimal_nonempty, first_decimal, decimal_digit}
use Rattle.txn_lines.specs.Grammar.{IsNumber}
use Rattle.txn_lines.specs.Reading.{next_digit, digits_after, number_in}
use Rattle.txn_lines.proofs.Options.{bind_some, guard_passed, test_passed, some_is}
use Rattle.txn_lines.proofs.Cuts.{IsFree}

own : IsNumeralModel (AllDigits 10) (digits_value 10)
own = numerals_by_value (AllDigits 10) tells_digits

record Reads (n : ℕ) (ds : List ℕ) (m : ℕ) : Type 0 where
  digits : AllDigits 10 ds
  value : digits_value_after 10 n ds ≡ m
  bound : m < 2 ^ 64

value_of_digit : (b : ℕ) → 48 ≤ b → b ≤ 57 → digit_value b ≡ b - 48
value_of_digit b low high =
    let one : ltb b 48 ≡ false = le-ltb b 48 low in
    let two : ltb b 58 ≡ true = lt-ltb b 58 (omega arith) in
    rw (one, two) refl

-- one digit that was read
record IsNext (n b m : ℕ) : Type 0 where
  digit : digit_value b < 10
  value : n * 10 + digit_value b ≡ m
  bound : m < 2 ^ 64

next_is : (n b m : ℕ) → next_digit n b ≡ Some m → IsNext n b m
next_is n b m e =
    let t = test_passed (is_ascii_digit b && ltb (n * 10 + (b - 48)) (2 ^ 64)) (Some (n * 10 + (b - 48))) m e in
    let both = and_parts (is_ascii_digit b) (ltb (n * 10 + (b - 48)) (2 ^ 64)) t.0 in
    let range = and_parts (leb 48 b) (leb b 57) both.0 in
    let low = leb-true 48 b range.0 in
    let high = leb-true b 57 range.1 in
    let v = value_of_digit b low high in
    let is = some_is (n * 10 + (b - 48)) m t.1 in
    let below = ltb-true (n * 10 + (b - 48)) (2 ^ 64) both.1 in
    record { digit = omega (arith, v); value = rw v is; bound = omega (arith, is, below) }

next_again : (n b : ℕ) → digit_value b < 10 → n * 10 + digit_value b < 2 ^ 64 → next_digit n b ≡ Some (n * 10 + digit_value b)
next_again n b digit bound =
    let range = digit_from_value b digit in
    let v = value_of_digit b range.0 range.1 in
    let one : is_ascii_digit b ≡ true = and_from (leb 48 b) (leb b 57) (le-leb 48 b range.0) (le-leb b 57 range.1) in
    let two : ltb (n * 10 + (b - 48)) (2 ^ 64) ≡ true = lt-ltb (n * 10 + (b - 48)) (2 ^ 64) (omega (arith, v)) in
    rw (v, one, two) refl

digits_read : (n : ℕ) (ds : List ℕ) (m : ℕ) → n < 2 ^ 64 → digits_after n ds ≡ Some m → Reads n ds m
digits_read n [] m fits e = let is = some_is n m e in record { digits = tt; value = is; bound = omega (arith, is) }
digits_read n (b ∷ ds) m fits e =
    let step = bind_some (next_digit n b) (λ k. digits_after k ds) m e in
    let here = next_is n b step.0 step.1 in
    let later = digits_read step.0 ds m here.bound step.2 in
    record { digits = (here.digit, later.digits); value = rw here.value later.value; bound = later.bound }

value_grows : (n : ℕ) (ds : List ℕ) → n ≤ digits_value_after 10 n ds
value_grows n [] = omega arith
value_grows n (b ∷ ds) = omega (arith, value_grows (n * 10 + digit_value b) ds)

digits_again : (n : ℕ) (ds : List ℕ) → AllDigits 10 ds → digits_value_after 10 n ds < 2 ^ 64 → digits_after n ds ≡ Some (digits_value_after 10 n ds)
digits_again n [] all bound = refl
digits_again n (b ∷ ds) all bound =
    rw (next_again n b all.0 (omega (arith, value_grows (n * 10 + digit_value b) ds, bound))) (digits_again (n * 10 + digit_value b) ds all.1 bound)

pub number_takes : (word : List ℕ) (n : ℕ) → number_in word ≡ Some n → IsNumber word n
unfolding number_in
number_takes word n e =
    let some = guard_passed (eqb (length word) 0) (cond (eqb (get_or word 0 0) 48 && ltb 1 (length word)) None (digits_after 0 word)) n e in
    let led = guard_passed (eqb (get_or word 0 0) 48 && ltb 1 (length word)) (digits_after 0 word) n some.1 in
    let read = digits_read 0 word n (lit< tt) led.1 in
    let long : 0 < length word = elim (cases_lt 0 (length word)) [ inl lt ↦ lt | inr le ↦ absurd (eqb-false (length word) 0 some.0 (omega arith)) ] in
    let first : get_or word 0 0 ≡ 48 → length word ≡ 1 = λ zero_first.
    elim (cases_lt 1 (length word)) [
      | inl lt ↦ absurd (cc (led.0, and_from (eqb (get_or word 0 0) 48) (ltb 1 (length word)) (eq-eqb (get_or word 0 0) 48 zero_first) (lt-ltb 1 (length word) lt)))
      | inr le ↦ omega arith
    ] in
    let spelled = decimal-digits_value own word read.digits long first (omega (arith, read.value, read.bound)) in
    (read.bound, sym spelled ∙ ap decimal read.value)

-- the number begins with 0 only where it is 0
leads : (n : ℕ) → n < 2 ^ 64 → (eqb (get_or (decimal n) 0 0) 48 && ltb 1 (length (decimal n))) ≡ false
leads n fits =
    elim (cases_lt 0 n) [
      | inl positive ↦
          let f = first_decimal n positive fits in
          and_left (eqb (get_or (decimal n) 0 0) 48) (ltb 1 (length (decimal n))) (ne_eqb (get_or (decimal n) 0 0) 48 (λ is. omega (arith, f, is)))
      | inr none ↦
          let one : length (decimal n) ≡ 1 = ap length (decimal_digit n (omega arith)) in
          and_right (eqb (get_or (decimal n) 0 0) 48) (ltb 1 (length (decimal n))) (le-ltb 1 (length (decimal n)) (omega arith))
    ]

pub number_again : (word : List ℕ) (n : ℕ) → IsNumber word n → number_in word ≡ Some n
unfolding number_in
number_again word n spelled =
    let long : eqb (length (decimal n)) 0 ≡ false = ne_eqb (length (decimal n)) 0 (λ is. omega (arith, decimal_nonempty n spelled.0, is)) in
    let value : digits_value_after 10 0 (decimal n) ≡ n = digits_value-decimal own n spelled.0 in
    let all = digits_decimal own n spelled.0 in
    let read : digits_after 0 (decimal n) ≡ Some n = rw value at (digits_again 0 (decimal n) all (omega (arith, value, spelled.0))) in
    rw (spelled.1, long, leads n spelled.0) read

free_digits : (c : ℕ) (ds : List ℕ) → c < 48 → AllDigits 10 ds → IsFree c ds
free_digits c [] low all = tt
free_digits c (d ∷ ds) low all =
    let range = digit_from_value d all.0 in
    (ne_eqb d c (λ is. omega (arith, range.0, is)), free_digits c ds low all.1)

pub free_number : (c : ℕ) (word : List ℕ) (n : ℕ) → c < 48 → IsNumber word n → IsFree c word
free_number c word n low spelled = rw spelled.1 (free_digits c (decimal n) low (digits_decimal own n spelled.0))

no_h : (ds : List ℕ) → AllDigits 10 ds → bytes_eq (take 1 ds) (codes "h") ≡ false
no_h [] all = refl
no_h (d ∷ ds) all =
    let range = digit_from_value d all.0 in
    rw (ne_eqb d 104 (λ is. omega (arith, range.1, is))) refl

-- what a number is spelled by does not begin with an h
pub number_no_h : (word : List ℕ) (n : ℕ) → IsNumber word n → bytes_eq (take 1 word) (codes "h") ≡ false
number_no_h word n spelled = rw spelled.1 (no_h (decimal n) (digits_decimal own n spelled.0))
