-- Steps of a scan over the entries of a buffer.
use Rattle.std.proofs.Common.{◌≡◌, ◌∙◌, sym, refl, ap, ℕ, List, [], ◌∷◌, ◌++◌, map, reverse, take, Bool, true, false, cond}
use Rattle.std.specs.List.{filter}
use Rattle.txn_buffer.specs.Overlay.{directed, first_pairs}
use Rattle.txn_buffer.specs.Reads.{pair_of, pairs_of}
use Rattle.txn_kv.specs.declared.kvpair.KvPair.{KvPair}
use Rattle.std.proofs.lemmas.List.{map-append, reverse-append, take-map}

pub filter_no : {X : Type 0} (test : X → Bool) → ((x : X) → test x ≡ false) → (xs : List X) → filter test xs ≡ []
filter_no test none [] = refl
filter_no test none (x ∷ xs) = ap (λ b. cond b (x ∷ filter test xs) (filter test xs)) (none x) ∙ filter_no test none xs

pub map-reverse : {X Y : Type 0} (f : X → Y) (xs : List X) → map f (reverse xs) ≡ reverse (map f xs)
map-reverse f [] = refl
map-reverse f (x ∷ xs) = ap (map f) (reverse-append (x ∷ []) xs) ∙ map-append f (reverse xs) (x ∷ []) ∙ ap (λ ys. ys ++ f x ∷ []) (map-reverse f xs) ∙ sym (reverse-append (f x ∷ []) (map f xs))

pub firsts_of : (limit : ℕ) (is_reversed : Bool) (all : List KvPair) → pairs_of (take limit (directed is_reversed all)) ≡ first_pairs limit is_reversed (pairs_of all)
firsts_of limit false all = sym (take-map pair_of limit all)
firsts_of limit true all = sym (take-map pair_of limit (reverse all)) ∙ ap (take limit) (map-reverse pair_of all)
