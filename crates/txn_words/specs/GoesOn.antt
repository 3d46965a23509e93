-- A text after what was added to it.
use Rattle.std.specs.Prelude.{ℕ, List, ◌≡◌, ◌++◌}

-- what stood there stands at its head
pub record GoesOn (old new : List ℕ) : Type 0 where
  pub more : List ℕ
  pub is : new ≡ old ++ more
