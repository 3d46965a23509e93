-- How the encoding of a key follows from its groups.
use Rattle.std.proofs.Common.{◌≡◌, ℕ, ◌≤◌, ◌<◌, List, [], ◌∷◌, ◌++◌, length, take, drop, append_assoc, refl, arith}
use Rattle.txn_kv.specs.Codec.{encoded, last_group}

-- a key of eight bytes or more: eight of them, 255, and the encoding of the rest
pub encoded-full : (key : List ℕ) → 8 ≤ length key → encoded key ≡ take 8 key ++ 255 ∷ encoded (drop 8 key)
unfolding encoded
encoded-full (a ∷ b ∷ c ∷ d ∷ e ∷ f ∷ g ∷ h ∷ rest) le = refl
encoded-full [] le = absurd (omega arith)
encoded-full (a ∷ []) le = absurd (omega arith)
encoded-full (a ∷ b ∷ []) le = absurd (omega arith)
encoded-full (a ∷ b ∷ c ∷ []) le = absurd (omega arith)
encoded-full (a ∷ b ∷ c ∷ d ∷ []) le = absurd (omega arith)
encoded-full (a ∷ b ∷ c ∷ d ∷ e ∷ []) le = absurd (omega arith)
encoded-full (a ∷ b ∷ c ∷ d ∷ e ∷ f ∷ []) le = absurd (omega arith)
encoded-full (a ∷ b ∷ c ∷ d ∷ e ∷ f ∷ g ∷ []) le = absurd (omega arith)

-- a shorter key is a last group
pub encoded-last : (key : List ℕ) → length key < 8 → encoded key ≡ last_group key
unfolding encoded
encoded-last (a ∷ b ∷ c ∷ d ∷ e ∷ f ∷ g ∷ h ∷ rest) lt = absurd (omega arith)
encoded-last [] lt = refl
encoded-last (a ∷ []) lt = refl
encoded-last (a ∷ b ∷ []) lt = refl
encoded-last (a ∷ b ∷ c ∷ []) lt = refl
encoded-last (a ∷ b ∷ c ∷ d ∷ []) lt = refl
encoded-last (a ∷ b ∷ c ∷ d ∷ e ∷ []) lt = refl
encoded-last (a ∷ b ∷ c ∷ d ∷ e ∷ f ∷ []) lt = refl
encoded-last (a ∷ b ∷ c ∷ d ∷ e ∷ f ∷ g ∷ []) lt = refl

pub ruleset groups = (encoded-full, encoded-last)

-- one group moved from the rest of a key to its encoding
pub group_appended
    : (bytes rest now after : List ℕ)
    → now ≡ (bytes ++ take 8 rest) ++ 255 ∷ []
    → after ≡ drop 8 rest
    → 8 ≤ length rest
    → now ++ encoded after ≡ bytes ++ encoded rest
group_appended bytes rest now after pushed dropped full =
    rw (pushed, dropped, encoded-full rest full, append_assoc, append_assoc) refl
