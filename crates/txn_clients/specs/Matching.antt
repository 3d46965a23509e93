-- Which transaction waits for which call.
use Rattle.std.specs.Prelude.{◌≡◌, ◌⊎◌, ◌≤◌, ℕ, Bool, List, length}
use Rattle.txn_side.specs.Sight.{Stand, stand_at}
use Rattle.txn_side.specs.Sight.Stand.{Calling, HasBegun}

-- the call at line m is one of the transaction of line x
abbrev pub IsCallOf : List Stand → ℕ → ℕ → Type 0
IsCallOf stands x m = (c : ℕ) × (b : Bool) × (stand_at stands m ≡ Calling c x b)

-- where a transaction waits for a line, a call of it waits there
abbrev pub AreMatched : List Stand → Type 0
AreMatched stands = (x c m : ℕ) → stand_at stands x ≡ HasBegun c m → (m ≡ 0) ⊎ IsCallOf stands x m

-- the line is one of these
pub record IsLine (stands : List Stand) (line : ℕ) : Type 0 where
  pub first : 1 ≤ line
  pub last : line ≤ length stands
