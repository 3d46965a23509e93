-- Groups of keys.
use Rattle.std.proofs.Common.{◌≡◌, ℕ, ◌+◌, ◌-◌, ◌<◌, ◌≤◌, List, [], ◌∷◌, Bool, true, length, length-drop, get_or, map, drop, length-take, take, refl, sym, ap, ◌∙◌, arith}
use Rattle.std.specs.Prelude.{cond}
use Rattle.std.specs.List.{prefix_len, HoldsAt, slice_range}
use Rattle.std.proofs.lemmas.List.{drop-map, get_or-take, length-map}
use Rattle.std.proofs.lemmas.List.Sums.{prefix_len-drop_yes, prefix_len-le-length, prefix_len_passes}
use Rattle.txn_kv.specs.Region.{contains_key}
use Rattle.txn_kv.specs.declared.message.Region.{Region}
use Rattle.txn_region.specs.Groups.{IsKeyGroup}
use Rattle.txn_region.specs.Regions.{Key}

pub prefix_len-map : {X Y : Type 0} (f : X → Y) (p : Y → Bool) (xs : List X) → prefix_len p (map f xs) ≡ prefix_len (λ x. p (f x)) xs
prefix_len-map f p [] = refl
prefix_len-map f p (x ∷ xs) = ap (λ n. cond (p (f x)) (1 + n) 0) (prefix_len-map f p xs)

-- as many as were counted behind a place at which one is
pub key_group
    : {K : Type 0} (f : K → Key) (region : Region) (keys : List K) (first n : ℕ)
    → first < length keys
    → HoldsAt (λ key. contains_key region key ≡ true) (map f keys) first
    → n ≡ prefix_len (λ k. contains_key region (f k)) (drop first keys)
    → IsKeyGroup (map f keys) first region (first + n)
key_group f region keys first n l at is =
    let p = contains_key region in
    let ks = map f keys in
    let many : length ks ≡ length keys = length-map keys f in
    let there : first < length ks = omega arith in
    let counted : n ≡ prefix_len p (drop first ks) =
    is ∙ (sym (prefix_len-map f p (drop first keys)) ∙ ap (prefix_len p) (sym (drop-map f first keys))) in
    let one_more : prefix_len p (drop first ks) ≡ 1 + prefix_len p (drop (first + 1) ks) = prefix_len-drop_yes p ks first [] there (at []) in
    let few : prefix_len p (drop first ks) ≤ length (drop first ks) = prefix_len-le-length p (drop first ks) in
    let rest : length (drop first ks) ≡ length ks - first = length-drop first ks in
    record {
      longest = ap (λ m. first + m) counted;
      some = omega arith;
      within = omega arith;
      inside = λ k d less. inside_at p ks first n k d (omega arith) less counted;
    }
  where
    inside_at
        : (p : Key → Bool) (ks : List Key) (first n k : ℕ) (d : Key)
        → first + n ≤ length ks
        → k < length (slice_range ks first (first + n))
        → n ≡ prefix_len p (drop first ks)
        → p (get_or (slice_range ks first (first + n)) k d) ≡ true
    inside_at p ks first n k d bound less counted =
        let rest = drop first ks in
        let same : first + n - first ≡ n = omega arith in
        let short : length (take (first + n - first) rest) ≤ first + n - first = rw (length-take) (omega arith) in
        let below : k < first + n - first = omega arith in
        let inside : k < prefix_len p rest = omega arith in
        rw (get_or-take (first + n - first) rest k d below) (prefix_len_passes p rest k d inside)
