-- Timestamps and their numbers are inverse to each other.
use Rattle.std.proofs.Common.{◌≡◌, ℕ, ◌+◌, ◌*◌, ◌/◌, ◌%◌, ◌^◌, ◌<◌, refl, sym, ap, ◌∙◌, arith}
use Rattle.std.specs.Prelude.{ℤ, pos, negsuc, ◌≤ℤ◌, ◌<ℤ◌, unsigned_abs}
use Rattle.std.proofs.lemmas.Int.{ints}
use Rattle.txn_kv.specs.declared.timestamp.Timestamp.{Timestamp}
use Rattle.txn_kv.specs.Timestamp.{HasVersion, version_of, timestamp_of}

-- the number of a number's timestamp is that number
pub version_of-timestamp_of : (n : ℕ) → version_of (timestamp_of n) ≡ n
version_of-timestamp_of n = omega arith

-- the timestamp of a number of 64 bits is in range
pub HasVersion-timestamp_of : (n : ℕ) → n < 2 ^ 64 → HasVersion (timestamp_of n)
HasVersion-timestamp_of n small = record {
  physical = omega (arith, ints);
  physical_bits = omega (arith, ints);
  logical = omega (arith, ints);
  logical_bits = omega (arith, ints);
}

pub unsigned_abs-small : (z : ℤ) (n : ℕ) → pos 0 ≤ℤ z → z <ℤ pos n → unsigned_abs z < n
unsigned_abs-small (pos m) n low high = omega (arith, ints)
unsigned_abs-small (negsuc m) n low high = absurd (omega (arith, ints))

pub pos-unsigned_abs : (z : ℤ) → pos 0 ≤ℤ z → pos (unsigned_abs z) ≡ z
pos-unsigned_abs (pos m) low = refl
pos-unsigned_abs (negsuc m) low = absurd (omega (arith, ints))

-- the number of a timestamp in range has 64 bits
pub version_of-small : (t : Timestamp) → HasVersion t → version_of t < 2 ^ 64
version_of-small t has =
    let physical = unsigned_abs-small t.physical (2 ^ 46) has.physical has.physical_bits in
    let logical = unsigned_abs-small t.logical (2 ^ 18) has.logical has.logical_bits in
    omega (arith, physical, logical)

-- the timestamp of the number of a timestamp in range, without suffix, is that timestamp
pub timestamp_of-version_of : (t : Timestamp) → HasVersion t → t.suffix_bits ≡ 0 → timestamp_of (version_of t) ≡ t
timestamp_of-version_of t has plain =
    let p = unsigned_abs t.physical in
    let l = unsigned_abs t.logical in
    let small : l < 2 ^ 18 = unsigned_abs-small t.logical (2 ^ 18) has.logical has.logical_bits in
    let physical : (p * 2 ^ 18 + l) / 2 ^ 18 ≡ p = omega (arith, small) in
    let logical : (p * 2 ^ 18 + l) % 2 ^ 18 ≡ l = omega (arith, small) in
    let made : ℤ → ℤ → ℕ → Timestamp = λ a b s. record { physical = a; logical = b; suffix_bits = s } in
    let same_physical = ap pos physical ∙ pos-unsigned_abs t.physical has.physical in
    let same_logical = ap pos logical ∙ pos-unsigned_abs t.logical has.logical in
    ap (λ a. made a (pos ((p * 2 ^ 18 + l) % 2 ^ 18)) 0) same_physical
    ∙ ap (λ b. made t.physical b 0) same_logical
    ∙ ap (λ s. made t.physical t.logical s) (sym plain)
