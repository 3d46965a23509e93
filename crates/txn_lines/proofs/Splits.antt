-- The words of a text, and the text of words.
use Rattle.std.proofs.Common.{Bor, ◌≡◌, ℕ, Bool, true, false, cond, not, eqb, List, [], ◌∷◌, ◌++◌, Option, Some, None, refl, sym, ap, subst, ◌∙◌}
use Rattle.std.specs.List.{join_with_byte, onto_first, slice_split}
use Rattle.std.specs.Prelude.{is_some, option_copied}
use Rattle.std.proofs.lemmas.Bool.{eq-eqb}
use Rattle.txn_lines.specs.Reading.{Words, cut_at, words_of, words_left, no_word}
use Rattle.txn_lines.proofs.Cuts.{IsFree, IsCut, cut_is}

one_part : (c : ℕ) (xs : List ℕ) → IsFree c xs → slice_split (λ b. eqb b c) xs ≡ xs ∷ []
one_part c [] free = refl
one_part c (x ∷ xs) free = rw (free.0, one_part c xs free.1) refl

first_part : (c : ℕ) (xs rest : List ℕ) → IsFree c xs → slice_split (λ b. eqb b c) (xs ++ c ∷ rest) ≡ xs ∷ slice_split (λ b. eqb b c) rest
first_part c [] rest free = rw (eq-eqb c c refl) refl
first_part c (x ∷ xs) rest free = rw (free.0, first_part c xs rest free.1) refl

-- the byte does not stand in any of them
abbrev pub AreFree : ℕ → List (List ℕ) → Type 0
AreFree c [] = Unit {0}
AreFree c (w ∷ ws) = IsFree c w × AreFree c ws

parts_again : (c : ℕ) (w : List ℕ) (ws : List (List ℕ)) → IsFree c w → AreFree c ws → slice_split (λ b. eqb b c) (join_with_byte c (w ∷ ws)) ≡ w ∷ ws
parts_again c w [] free others = one_part c w free
parts_again c w (v ∷ vs) free others =
    first_part c w (join_with_byte c (v ∷ vs)) free ∙ ap (λ (parts : List (List ℕ)). w ∷ parts) (parts_again c v vs others.0 others.1)

-- words without a space are those of the text that they make
pub words_again : (w : List ℕ) (ws : List (List ℕ)) → AreFree 32 (w ∷ ws) → words_of (join_with_byte 32 (w ∷ ws)) ≡ w ∷ ws
words_again w ws free = parts_again 32 w ws free.0 free.1

pub found_word : (bytes word after : List ℕ) → Some (word, after) ≡ cut_at 32 bytes → words_of bytes ≡ word ∷ words_of after
found_word bytes word after e =
    let cut : IsFree 32 word × (bytes ≡ word ++ 32 ∷ after) = subst (λ (found : Option (List ℕ × List ℕ)). IsCut 32 bytes found) (sym e) (cut_is 32 bytes) in
    rw cut.1 (first_part 32 word after cut.0)

pub only_word : (bytes : List ℕ) → None ≡ cut_at 32 bytes → words_of bytes ≡ bytes ∷ []
only_word bytes e = one_part 32 bytes (subst (λ (found : Option (List ℕ × List ℕ)). IsCut 32 bytes found) (sym e) (cut_is 32 bytes))

-- a text has a word, perhaps an empty one
some_word : (bytes : List ℕ) → no_word (words_of bytes) ≡ false
some_word [] = refl
some_word (b ∷ bytes) = first (eqb b 32) (words_of bytes)
  where
    first : (ends : Bool) (words : Words) → no_word (cond ends ([] ∷ words) (onto_first b words)) ≡ false
    first true words = refl
    first false [] = refl
    first false (w ∷ words) = refl

pub is_end : (rest : Option (Bor (List ℕ))) (end : Bool) → is_some rest ≡ not end → end ≡ no_word (words_left (option_copied rest))
is_end None true e = refl
is_end None false e = absurd cc
is_end (Some bytes) true e = absurd cc
is_end (Some bytes) false e = sym (some_word bytes.now)
