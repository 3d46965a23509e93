-- The part of a run that some lines took: those of one call, of one transaction or of one client.
use Rattle.std.specs.Prelude.{ℕ, Bool, false, List, Option, Some, None, filter}
use Rattle.txn_history.specs.Event.{Event}
use Rattle.txn_history.specs.Event.Event.{Sent, Took, Lost, Began, Slept, Asked, Answered}

-- the line that sent, took or was told something
abbrev pub line_of : Event → Option ℕ
line_of (Sent t r) = Some t.line
line_of (Took t r o) = Some t.line
line_of (Lost t r) = Some t.line
line_of (Began t ms) = Some t.line
line_of (Slept t) = Some t.line
line_of (Asked a) = Some a.line
line_of (Answered a x) = Some a.line
line_of _ = None

abbrev pub is_of : (ℕ → Bool) → Option ℕ → Bool
is_of lines None = false
is_of lines (Some n) = lines n

-- what these lines sent, took and were told
abbrev pub part_of : (ℕ → Bool) → List Event → List Event
part_of lines es = filter (λ e. is_of lines (line_of e)) es
