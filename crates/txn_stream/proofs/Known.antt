-- Reads and writes one after the other.
use Rattle.std.proofs.Common.{◌≡◌, ℕ, ◌+◌, ◌-◌, ◌≤◌, List, ◌++◌, length, take, drop, Option, Some, None, refl, ap, ◌∙◌, append_assoc, arith}
use Rattle.std.proofs.Math.Seq.{take-add}
use Rattle.std.proofs.lemmas.List.{take_all, length-drop}
use Rattle.std.specs.Io.KnownBytes.{Appends}

pub Appends-then : (a b c : Option (List ℕ)) (xs ys : List ℕ) → Appends a b xs → Appends b c ys → Appends a c (xs ++ ys)
Appends-then None b c xs ys p q = tt
Appends-then (Some l) None c xs ys p q = absurd p
Appends-then (Some l) (Some m) None xs ys p q = absurd q
Appends-then (Some l) (Some m) (Some n) xs ys p q = q ∙ ap (λ (r : List ℕ). r ++ ys) p ∙ append_assoc l xs ys

pub take_on : (xs : List ℕ) (at n : ℕ) → at ≤ length xs → n ≤ length (take (length xs - at) (drop at xs)) → take (at + n) xs ≡ take at xs ++ take n (take (length xs - at) (drop at xs))
take_on xs at n within below =
    let all : take (length xs - at) (drop at xs) ≡ drop at xs = take_all (length xs - at) (drop at xs) (omega (arith, length-drop at xs)) in
    rw (all, take-add at n xs) refl
