-- Reading two digits after two digits, as a loop does.
use Rattle.std.proofs.Common.{◌≡◌, ℕ, suc, ◌+◌, ◌*◌, ◌/◌, ◌%◌, ◌<◌, ◌≤◌, List, [], ◌∷◌, ◌++◌, length, get_or, drop, Option, Some, None, refl, sym, ap, ◌∙◌, append_assoc, arith}
use Rattle.std.proofs.Math.Seq.{drop-cons}
use Rattle.std.proofs.lemmas.List.{append-nil, nil_from_length, length-drop}
use Rattle.txn_lines.specs.declared.stop.Stop.{Stop}
use Rattle.txn_lines.specs.declared.stop.Stop.TheVariants as stops
use Rattle.txn_lines.specs.Reading.{◌>>=◌, Fails, byte_in, pairs_in}

-- what was read before, and what is still read
abbrev pub with_front : List ℕ → Option (List ℕ) → Option (List ℕ)
with_front front read = read >>= λ bytes. Some (front ++ bytes)

regroup : (front : List ℕ) (b : ℕ) (read : Option (List ℕ)) → with_front front (read >>= λ bytes. Some (b ∷ bytes)) ≡ with_front (front ++ b ∷ []) read
regroup front b None = refl
regroup front b (Some bytes) = ap (λ (bs : List ℕ). Some bs) (simp append_assoc)

two : (hex : List ℕ) (i : ℕ) → i < length hex / 2 → drop (2 * i) hex ≡ get_or hex (2 * i) 0 ∷ get_or hex (2 * i + 1) 0 ∷ drop (2 * (i + 1)) hex
two hex i lt =
    let a : 2 * i < length hex = omega arith in
    let b : 2 * i + 1 < length hex = omega arith in
    let first = drop-cons hex (2 * i) 0 a in
    let second = drop-cons hex (2 * i + 1) 0 b in
    let k : suc (2 * i) ≡ 2 * i + 1 = omega arith in
    let m : suc (2 * i + 1) ≡ 2 * (i + 1) = omega arith in
    first ∙ ap (λ (r : List ℕ). get_or hex (2 * i) 0 ∷ r) (rw k second ∙ ap (λ (n : ℕ). get_or hex (2 * i + 1) 0 ∷ drop n hex) m)

pub goes_on : (front hex : List ℕ) (i b : ℕ) → i < length hex / 2 → byte_in (get_or hex (2 * i) 0) (get_or hex (2 * i + 1) 0) ≡ Some b
    → with_front front (pairs_in (drop (2 * i) hex)) ≡ pairs_in hex → with_front (front ++ b ∷ []) (pairs_in (drop (2 * (i + 1)) hex)) ≡ pairs_in hex
unfolding pairs_in
goes_on front hex i b lt read so_far =
    let one : with_front front (pairs_in (drop (2 * i) hex)) ≡ with_front (front ++ b ∷ []) (pairs_in (drop (2 * (i + 1)) hex)) = rw (two hex i lt, read) (regroup front b (pairs_in (drop (2 * (i + 1)) hex))) in
    sym one ∙ so_far

no_pair : (front hex : List ℕ) (i : ℕ) → i < length hex / 2 → byte_in (get_or hex (2 * i) 0) (get_or hex (2 * i + 1) 0) ≡ None
    → with_front front (pairs_in (drop (2 * i) hex)) ≡ pairs_in hex → pairs_in hex ≡ None
unfolding pairs_in
no_pair front hex i lt read so_far =
    let one : with_front front (pairs_in (drop (2 * i) hex)) ≡ None = rw (two hex i lt, read) refl in
    sym so_far ∙ one

pub fails : (e : Stop) (front hex : List ℕ) (i : ℕ) → i < length hex / 2 → Fails e (byte_in (get_or hex (2 * i) 0) (get_or hex (2 * i + 1) 0))
    → with_front front (pairs_in (drop (2 * i) hex)) ≡ pairs_in hex → Fails e (pairs_in hex)
fails stops.Memory front hex i lt read so_far = tt
fails stops.Word front hex i lt read so_far = no_pair front hex i lt read so_far

pub is_done : (front hex : List ℕ) (i : ℕ) → length hex % 2 ≡ 0 → length hex / 2 ≤ i → with_front front (pairs_in (drop (2 * i) hex)) ≡ pairs_in hex → pairs_in hex ≡ Some front
unfolding pairs_in
is_done front hex i even le so_far =
    let past : drop (2 * i) hex ≡ [] = nil_from_length (drop (2 * i) hex) (omega (arith, length-drop (2 * i) hex)) in
    let one : with_front front (pairs_in (drop (2 * i) hex)) ≡ Some front = rw past (ap (λ (bs : List ℕ). Some bs) (append-nil front)) in
    sym so_far ∙ one
