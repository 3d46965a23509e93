-- A step of the clients in parts, each of which adds to the turn.
use Rattle.std.specs.Prelude.{◌≡◌, ⊤, ℕ, ◌+◌, ◌++◌, List}
use Rattle.std.specs.List.{All}
use Rattle.txn_kv.specs.declared.outbox.Errand.TheVariants.{Send, Sleep, Ask}
use Rattle.txn_history.specs.Posted.{AreNumbered, Errand}
use Rattle.txn_side.specs.Sight.{EndsAlone, Goes, Names, Sight}
use Rattle.txn_side.specs.declared.turn.Ending.{Ending}
use Rattle.txn_side.specs.declared.turn.Turn.{Turn}

-- What the turn made of any sight up to the old one, it makes up to the new one.
abbrev pub Advances : Turn → Turn → Sight → Sight → Type 0
Advances from to old new = (first : Sight) → Goes from.posted.items from.ended.items first old → Goes to.posted.items to.ended.items first new

-- in this part no call ended but that of this line
abbrev pub EndsIn : ℕ → Turn → Turn → Type 0
EndsIn line from to = EndsAlone line from.ended.items → EndsAlone line to.ended.items

-- the calls that ended in this part name no timestamps but those that their lines are given
pub record NamesIn (IsGiven : ℕ → ℕ → Type 0) (from to : Turn) : Type 0 where
  pub more : List Ending
  pub ended : to.ended.items ≡ from.ended.items ++ more
  pub named : All (Names IsGiven) more

-- of this line alone
abbrev pub OfLine : ℕ → (ℕ → Type 0) → ℕ → ℕ → Type 0
OfLine own Holds line version = (line ≡ own) × Holds version

-- an errand has the next number of its line, unless it is an ask
abbrev pub HasNext : ℕ → Errand → Type 0
HasNext next (Send n to r) = n ≡ next
HasNext next (Sleep n ms) = n ≡ next
HasNext next (Ask n) = ⊤

abbrev pub next_after : Errand → ℕ → ℕ
next_after (Send n to r) next = next + 1
next_after (Sleep n ms) next = next + 1
next_after (Ask n) next = next

-- these have the next numbers of the line, one after another
pub record AreNext (next : ℕ) (sends : List Errand) : Type 0 where
  pub ask : ℕ
  pub end : ℕ
  pub end_ask : ℕ
  pub numbered : AreNumbered next ask sends end end_ask
