-- A byte string that is read is spelled so, and one that is spelled so is read.
use Rattle.std.proofs.Common.{◌≡◌, ℕ, ◌+◌, ◌-◌, ◌*◌, ◌/◌, ◌%◌, ◌<◌, true, false, not, cond, eqb, ltb, leb, List, [], ◌∷◌, ◌++◌, length, take, drop, Some, None, refl, sym, ap, subst, ◌∙◌, arith, inl, inr}
use Rattle.std.specs.Prelude.{codes, bytes_eq}
use Rattle.std.specs.Int.{is_in_range}
use Rattle.std.specs.List.{list_all, AllByRecursion}
use Rattle.std.proofs.lemmas.Bool.{eq-eqb, ne_eqb, leb-true, le-leb, lt-leb, lt-ltb, le-ltb, and_parts, and_from, and_right, cases_lt, cases_Bool}
use Rattle.std.proofs.lemmas.List.{take-append-drop}
use Rattle.std.proofs.lemmas.Slice.Eq.{bytes_eq-Decides}
use Rattle.txn_kv.specs.Spelling.{is_word_byte, is_plain, hex_digit, hex}
use Rattle.txn_lines.specs.Grammar.{IsByteString}
use Rattle.txn_lines.specs.Reading.{◌>>=◌, hex_value, byte_in, pairs_in, hex_in, string_in}
use Rattle.txn_lines.proofs.Cuts.{IsFree}
use Rattle.txn_lines.proofs.Options.{bind_some, test_passed, some_is}

value_takes : (b h : ℕ) → hex_value b ≡ Some h → (h < 16) × (hex_digit h ≡ b)
value_takes b h e = elim (cases_Bool (is_in_range 48 57 b)) [
  | inl decimal ↦
      let range = and_parts (leb 48 b) (leb b 57) decimal in
      let low = leb-true 48 b range.0 in
      let high = leb-true b 57 range.1 in
      let taken : hex_value b ≡ Some (b - 48) = rw decimal refl in
      let is : b - 48 ≡ h = some_is (b - 48) h (sym taken ∙ e) in
      let small : ltb h 10 ≡ true = lt-ltb h 10 (omega arith) in
      (omega arith, rw small (omega arith))
  | inr other ↦
      let taken : hex_value b ≡ cond (is_in_range 97 102 b) (Some (b - 87)) None = rw other refl in
      let t = test_passed (is_in_range 97 102 b) (Some (b - 87)) h (sym taken ∙ e) in
      let range = and_parts (leb 97 b) (leb b 102) t.0 in
      let low = leb-true 97 b range.0 in
      let high = leb-true b 102 range.1 in
      let is : b - 87 ≡ h = some_is (b - 87) h t.1 in
      let large : ltb h 10 ≡ false = le-ltb h 10 (omega arith) in
      (omega arith, rw large (omega arith))
]

value_again : (h : ℕ) → h < 16 → hex_value (hex_digit h) ≡ Some h
value_again h small = elim (cases_lt h 10) [
  | inl lt ↦
      let digit : hex_digit h ≡ 48 + h = rw (lt-ltb h 10 lt) refl in
      let range : is_in_range 48 57 (48 + h) ≡ true = and_from (leb 48 (48 + h)) (leb (48 + h) 57) (le-leb 48 (48 + h) (omega arith)) (le-leb (48 + h) 57 (omega arith)) in
      let value : 48 + h - 48 ≡ h = omega arith in
      rw (digit, range, value) refl
  | inr le ↦
      let digit : hex_digit h ≡ 87 + h = rw (le-ltb h 10 le) refl in
      let other : is_in_range 48 57 (87 + h) ≡ false = and_right (leb 48 (87 + h)) (leb (87 + h) 57) (lt-leb (87 + h) 57 (omega arith)) in
      let range : is_in_range 97 102 (87 + h) ≡ true = and_from (leb 97 (87 + h)) (leb (87 + h) 102) (le-leb 97 (87 + h) (omega arith)) (le-leb (87 + h) 102 (omega arith)) in
      let value : 87 + h - 87 ≡ h = omega arith in
      rw (digit, other, range, value) refl
]

-- every byte is a byte
abbrev pub AreBytes : List ℕ → Type 0
AreBytes bytes = AllByRecursion (λ b. b < 256) bytes

pairs_take : (hex_bytes bytes : List ℕ) → pairs_in hex_bytes ≡ Some bytes → AreBytes bytes × (hex_bytes ≡ hex bytes)
unfolding pairs_in
pairs_take [] bytes e = subst (λ (bs : List ℕ). AreBytes bs × ([] ≡ hex bs)) (some_is [] bytes e) (tt, refl)
pairs_take (high ∷ []) bytes e = absurd cc
pairs_take (high ∷ low ∷ rest) bytes e =
    let one = bind_some (byte_in high low) (λ b. pairs_in rest >>= λ bs. Some (b ∷ bs)) bytes e in
    let two = bind_some (pairs_in rest) (λ bs. Some (one.0 ∷ bs)) bytes one.2 in
    let h = bind_some (hex_value high) (λ h. hex_value low >>= λ l. Some (h * 16 + l)) one.0 one.1 in
    let l = bind_some (hex_value low) (λ l. Some (h.0 * 16 + l)) one.0 h.2 in
    let is : h.0 * 16 + l.0 ≡ one.0 = some_is (h.0 * 16 + l.0) one.0 l.2 in
    let h-is = value_takes high h.0 h.1 in
    let l-is = value_takes low l.0 l.1 in
    let later = pairs_take rest two.0 two.1 in
    let top : one.0 / 16 ≡ h.0 = omega (arith, is, l-is.0) in
    let bottom : one.0 % 16 ≡ l.0 = omega (arith, is, l-is.0) in
    let bound : one.0 < 256 = omega (arith, is, l-is.0, h-is.0) in
    let both : high ∷ low ∷ rest ≡ hex (one.0 ∷ two.0) = rw (top, bottom, h-is.1, l-is.1, ← later.1) refl in
    subst (λ (bs : List ℕ). AreBytes bs × (high ∷ low ∷ rest ≡ hex bs)) (some_is (one.0 ∷ two.0) bytes two.2) ((bound, later.0), both)

pairs_again : (bytes : List ℕ) → AreBytes bytes → pairs_in (hex bytes) ≡ Some bytes
unfolding pairs_in
pairs_again [] fits = refl
pairs_again (b ∷ bytes) fits =
    let whole : b / 16 * 16 + b % 16 ≡ b = omega arith in
    let bound : b < 256 = fits.0 in
    let small : b % 16 < 16 = omega arith in
    let high = value_again (b / 16) (omega arith) in
    let low = value_again (b % 16) small in
    rw (high, low, pairs_again bytes fits.1, whole) refl

even-hex : (bytes : List ℕ) → length (hex bytes) % 2 ≡ 0
even-hex [] = refl
even-hex (b ∷ bytes) = omega (arith, even-hex bytes)

-- letters, digits and `_` are no space, and no colon
no_space : is_word_byte 32 ≡ true → ⊥
unfolding is_word_byte
no_space e = absurd cc

plain_free : (bytes : List ℕ) → list_all is_word_byte bytes ≡ true → IsFree 32 bytes
plain_free [] all = tt
plain_free (b ∷ bytes) all =
    let both = and_parts (is_word_byte b) (list_all is_word_byte bytes) all in
    (ne_eqb b 32 (λ is. no_space (ap is_word_byte (sym is) ∙ both.0)), plain_free bytes both.1)

no_colon : is_word_byte 58 ≡ true → ⊥
unfolding is_word_byte
no_colon e = absurd cc

pub string_takes : (word bytes : List ℕ) → string_in word ≡ Some bytes → IsByteString word bytes
unfolding string_in hex_in
string_takes word bytes e = elim (cases_Bool (bytes_eq (take 2 word) (codes "x:"))) [
  | inl marked ↦
      let taken : string_in word ≡ cond (eqb (length (drop 2 word) % 2) 0) (pairs_in (drop 2 word)) None = rw marked refl in
      let t = test_passed (eqb (length (drop 2 word) % 2) 0) (pairs_in (drop 2 word)) bytes (sym taken ∙ e) in
      let front : take 2 word ≡ codes "x:" = (bytes_eq-Decides (take 2 word) (codes "x:")).0 marked in
      let p = pairs_take (drop 2 word) bytes t.1 in
      inr (p.0, sym (take-append-drop 2 word) ∙ ap (λ (f : List ℕ). f ++ drop 2 word) front ∙ ap (λ (r : List ℕ). codes "x:" ++ r) p.1)
  | inr bare ↦
      let taken : string_in word ≡ cond (is_plain word) (Some word) None = rw bare refl in
      let t = test_passed (is_plain word) (Some word) bytes (sym taken ∙ e) in
      let is = some_is word bytes t.1 in
      inl (rw (← is) t.0, is)
]

plain_unmarked : (word : List ℕ) → is_plain word ≡ true → bytes_eq (take 2 word) (codes "x:") ≡ false
plain_unmarked [] plain = refl
plain_unmarked (a ∷ []) plain = elim (cases_Bool (eqb a 120)) [ inl is ↦ rw is refl | inr not_is ↦ rw not_is refl ]
plain_unmarked (a ∷ b ∷ rest) plain =
    let all = and_parts (not (eqb (length (a ∷ b ∷ rest)) 0)) (list_all is_word_byte (a ∷ b ∷ rest)) plain in
    let tail = and_parts (is_word_byte a) (list_all is_word_byte (b ∷ rest)) all.1 in
    let second = and_parts (is_word_byte b) (list_all is_word_byte rest) tail.1 in
    let other : eqb b 58 ≡ false = ne_eqb b 58 (λ is. no_colon (ap is_word_byte (sym is) ∙ second.0)) in
    rw other (elim (cases_Bool (eqb a 120)) [ inl is ↦ rw is refl | inr not_is ↦ rw not_is refl ])

pub string_again : (word bytes : List ℕ) → IsByteString word bytes → string_in word ≡ Some bytes
unfolding string_in hex_in
string_again word bytes (inl plain) =
    rw (plain.1, plain_unmarked bytes plain.0, plain.0) refl
string_again word bytes (inr marked) =
    let even : eqb (length (hex bytes) % 2) 0 ≡ true = eq-eqb (length (hex bytes) % 2) 0 (even-hex bytes) in
    rw (marked.1, even) (pairs_again bytes marked.0)

digit_free : (h : ℕ) → eqb (hex_digit h) 32 ≡ false
digit_free h = elim (cases_lt h 10) [
  | inl lt ↦ rw (lt-ltb h 10 lt) (ne_eqb (48 + h) 32 (λ is. omega (arith, is)))
  | inr le ↦ rw (le-ltb h 10 le) (ne_eqb (87 + h) 32 (λ is. omega (arith, is)))
]

hex_free : (bytes : List ℕ) → IsFree 32 (hex bytes)
hex_free [] = tt
hex_free (b ∷ bytes) = (digit_free (b / 16), (digit_free (b % 16), hex_free bytes))

pub free_string : (word bytes : List ℕ) → IsByteString word bytes → IsFree 32 word
free_string word bytes (inl plain) =
    let all = and_parts (not (eqb (length bytes) 0)) (list_all is_word_byte bytes) plain.0 in
    rw plain.1 (plain_free bytes all.1)
free_string word bytes (inr marked) = rw marked.1 (refl, (refl, hex_free bytes))
