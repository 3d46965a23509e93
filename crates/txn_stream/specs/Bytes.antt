-- What a read and a write do to the bytes of a source and of a sink, and to their counts of faults.
use Rattle.std.specs.Prelude.{◌≡◌, ℕ, ◌-◌, ◌^◌, ◌<◌, ◌≤◌, ◌⊎◌, List, length, Option}
use Rattle.std.specs.Io.KnownBytes.{Consumes, IsAtEnd}

-- The count of faults rose in a call, or is at its last value.
abbrev pub Rose : ℕ → ℕ → Type 0
Rose old new = (old < new) ⊎ (new ≡ 2 ^ 64 - 1)

-- 65537 lines of 4096 bytes, with their newlines
abbrev pub most_bytes : ℕ
most_bytes = 268505089

-- what was read is all that was left, or as much as is ever read
abbrev pub ReadsAll : Option (List ℕ) → Option (List ℕ) → List ℕ → Type 0
ReadsAll old new bytes = Consumes old new bytes × (IsAtEnd new ⊎ (most_bytes ≤ length bytes))
