-- Keys to the end of a line.
use Rattle.std.proofs.Common.{◌≡◌, ℕ, ◌<◌, false, List, [], ◌∷◌, ◌++◌, length, map, Option, Some, None, refl, sym, ap, ◌∙◌, append_assoc, arith}
use Rattle.std.proofs.lemmas.List.{append-nil}
use Rattle.txn_lines.specs.Grammar.{byte_string, AreWordsOf}
use Rattle.txn_lines.specs.Reading.{◌>>=◌, Fails, Words, no_word, string_in, next_string, keys_after, keys_in}
use Rattle.txn_lines.specs.declared.stop.Stop.{Stop}
use Rattle.txn_lines.specs.declared.stop.Stop.TheVariants as stops
use Rattle.txn_lines.proofs.Options.{bind_some, some_is}
use Rattle.txn_lines.proofs.Strings.{string_takes, string_again}

-- the keys of these words, behind those that were read before
record IsMore (front : List (List ℕ)) (words : Words) (all : List (List ℕ)) : Type 0 where
  more : List (List ℕ)
  all_is : front ++ more ≡ all
  spelled : AreWordsOf (map byte_string more) words

after_takes : (words : Words) (front all : List (List ℕ)) → keys_after front words ≡ Some all → IsMore front words all
after_takes [] front all e = record { more = []; all_is = append-nil front ∙ some_is front all e; spelled = tt }
after_takes (w ∷ ws) front all e =
    let k = bind_some (string_in w) (λ key. keys_after (front ++ key ∷ []) ws) all e in
    let rest = after_takes ws (front ++ k.0 ∷ []) all k.2 in
    record {
      more = k.0 ∷ rest.more;
      all_is = sym (append_assoc front (k.0 ∷ []) rest.more) ∙ rest.all_is;
      spelled = (string_takes w k.0 k.1, rest.spelled);
    }

after_again : (words : Words) (front more : List (List ℕ)) → AreWordsOf (map byte_string more) words → keys_after front words ≡ Some (front ++ more)
after_again [] front [] h = ap (λ (keys : List (List ℕ)). Some keys) (sym (append-nil front))
after_again [] front (k ∷ more) h = absurd h
after_again (w ∷ ws) front [] h = absurd h
after_again (w ∷ ws) front (k ∷ more) h =
    rw (string_again w k h.0) (after_again ws (front ++ k ∷ []) more h.1 ∙ ap (λ (keys : List (List ℕ)). Some keys) (append_assoc front (k ∷ []) more))

some_key : (w : List ℕ) (ws keys : List (List ℕ)) → AreWordsOf (map byte_string keys) (w ∷ ws) → 0 < length keys
some_key w ws [] h = absurd h
some_key w ws (k ∷ keys) h = omega arith

pub keys_take : (words : Words) (keys : List (List ℕ)) → keys_in words ≡ Some keys → (0 < length keys) × AreWordsOf (map byte_string keys) words
unfolding keys_in
keys_take [] keys e = absurd cc
keys_take (w ∷ ws) keys e =
    let read = after_takes (w ∷ ws) [] keys e in
    let spelled : AreWordsOf (map byte_string keys) (w ∷ ws) = rw (← read.all_is) read.spelled in
    (some_key w ws keys spelled, spelled)

pub keys_again : (words : Words) (keys : List (List ℕ)) → 0 < length keys → AreWordsOf (map byte_string keys) words → keys_in words ≡ Some keys
unfolding keys_in
keys_again [] [] some h = absurd (omega arith)
keys_again [] (k ∷ keys) some h = absurd h
keys_again (w ∷ ws) keys some h = after_again (w ∷ ws) [] keys h

-- ---- a loop that reads them

pub goes_on : (front : List (List ℕ)) (words : Words) (key : List ℕ) (after : Words) (all : Option (List (List ℕ))) → next_string words ≡ Some (key, after) → keys_after front words ≡ all → keys_after (front ++ key ∷ []) after ≡ all
unfolding next_string
goes_on front [] key after all e so_far = absurd cc
goes_on front (w ∷ ws) key after all e so_far =
    let k = bind_some (string_in w) (λ bytes. Some (bytes, ws)) (key, after) e in
    let is = some_is (k.0, ws) (key, after) k.2 in
    let step : keys_after front (w ∷ ws) ≡ keys_after (front ++ k.0 ∷ []) ws = ap (λ (read : Option (List ℕ)). read >>= λ bytes. keys_after (front ++ bytes ∷ []) ws) k.1 in
    ap (λ (p : List ℕ × Words). keys_after (front ++ p.0 ∷ []) p.1) (sym is) ∙ sym step ∙ so_far

abbrev with_rest : Words → List ℕ → Option (List ℕ × Words)
with_rest rest bytes = Some (bytes, rest)

not_found : (read : Option (List ℕ)) (rest : Words) → (read >>= with_rest rest) ≡ None → read ≡ None
not_found None rest e = refl
not_found (Some bytes) rest e = absurd cc

not_read : (front : List (List ℕ)) (words all : Words) → no_word words ≡ false → next_string words ≡ None → keys_after front words ≡ keys_after [] all → no_word all ≡ false → keys_in all ≡ None
unfolding next_string keys_in
not_read front [] all some e so_far some_word = absurd cc
not_read front (w ∷ ws) all some e so_far some_word =
    let none : keys_after front (w ∷ ws) ≡ None = ap (λ (read : Option (List ℕ)). read >>= λ key. keys_after (front ++ key ∷ []) ws) (not_found (string_in w) ws e) in
    rw some_word (sym so_far ∙ none)

pub fails : (stop : Stop) (front : List (List ℕ)) (words all : Words) → no_word words ≡ false → Fails stop (next_string words) → keys_after front words ≡ keys_after [] all → no_word all ≡ false → Fails stop (keys_in all)
fails stops.Memory front words all some e so_far some_word = tt
fails stops.Word front words all some e so_far some_word = not_read front words all some e so_far some_word
