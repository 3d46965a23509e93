-- Whether the bytes of a region's key are one encoding.
use Rattle.std.proofs.Common.{◌≡◌, inl, inr, ℕ, ◌+◌, ◌*◌, ◌/◌, ◌<◌, List, [], ◌∷◌, ◌++◌, false, length, length-append, le_refl, refl, sym, ap, ◌∙◌, arith}
use Rattle.std.proofs.lemmas.List.{append-nil}
use Rattle.txn_kv.proofs.Decoding.{encoded-none, length-encoded}
use Rattle.txn_kv.specs.Codec.{encoded, BeginsWithKey}
use Rattle.txn_kv.specs.declared.errors.Internal.TheVariants.{BadEnd}
use Rattle.txn_region.specs.Clients.{IsBadKey}
use Rattle.txn_region.specs.Decoded.{IsDecoded}

-- no bytes are decoded to no bytes
pub nothing : (bytes key decoded : List ℕ) → bytes ≡ key → length bytes ≡ 0 → IsDecoded key decoded → bytes ≡ decoded
nothing bytes key decoded same none (inl e) = same ∙ (e.0 ∙ sym e.1)
nothing bytes key decoded same none (inr e) = absurd (encoded-none bytes decoded [] none (same ∙ (e ∙ sym (append-nil (encoded decoded)))))

-- others are an encoding and nothing behind it
pub is_encoding : (bytes key decoded : List ℕ) → bytes ≡ key → 0 < length bytes → IsDecoded key decoded → bytes ≡ encoded decoded ++ []
is_encoding bytes key decoded same some (inl e) = absurd (let none : length bytes ≡ 0 = ap length (same ∙ e.0) in omega arith)
is_encoding bytes key decoded same some (inr e) = same ∙ (e ∙ sym (append-nil (encoded decoded)))

encoding_length : (key : List ℕ) → length (encoded key) ≡ (length key / 8 + 1) * 9
encoding_length key = length-encoded (length key) key (le_refl (length key))

pub behind
    : (bytes key : List ℕ) (n : ℕ)
    → BeginsWithKey false bytes key
    → 0 < length bytes
    → n ≡ length key
    → (n / 8 + 1) * 9 < length bytes
    → IsBadKey bytes (BadEnd ((n / 8 + 1) * 9))
behind bytes key n (inl e) some is more = absurd (let none : length bytes ≡ 0 = ap length e.0 in omega arith)
behind bytes key n (inr e) some is more =
    let at : (n / 8 + 1) * 9 ≡ length (encoded key) = ap (λ k. (k / 8 + 1) * 9) is ∙ sym (encoding_length key) in
    let all : length bytes ≡ length (encoded key) + length e.0 = ap length e.1 ∙ length-append (encoded key) e.0 in
    inr (key, e.0, e.1, (λ nil. let none : length e.0 ≡ 0 = ap length nil in omega arith), ap BadEnd at)

pub whole
    : (bytes key : List ℕ) (n : ℕ)
    → BeginsWithKey false bytes key
    → 0 < length bytes
    → n ≡ length key
    → length bytes < (n / 8 + 1) * 9 + 1
    → bytes ≡ encoded key
whole bytes key n (inl e) some is few = absurd (let none : length bytes ≡ 0 = ap length e.0 in omega arith)
whole bytes key n (inr e) some is few =
    let at : (n / 8 + 1) * 9 ≡ length (encoded key) = ap (λ k. (k / 8 + 1) * 9) is ∙ sym (encoding_length key) in
    let all : length bytes ≡ length (encoded key) + length e.0 = ap length e.1 ∙ length-append (encoded key) e.0 in
    e.1 ∙ (ap (λ r. encoded key ++ r) (no_rest e.0 (omega arith)) ∙ append-nil (encoded key))
  where
    no_rest : (rest : List ℕ) → length rest ≡ 0 → rest ≡ []
    no_rest [] none = refl
    no_rest (x ∷ xs) none = absurd (omega arith)

-- an encoding has no end behind which bytes are left
pub none_behind
    : (bytes key : List ℕ) (n : ℕ)
    → bytes ≡ encoded key ++ []
    → n ≡ length key
    → (n / 8 + 1) * 9 < length bytes
    → ⊥
none_behind bytes key n e is more =
    let at : (n / 8 + 1) * 9 ≡ length (encoded key) = ap (λ k. (k / 8 + 1) * 9) is ∙ sym (encoding_length key) in
    let all : length bytes ≡ length (encoded key) + 0 = ap length e ∙ length-append (encoded key) [] in
    omega arith
