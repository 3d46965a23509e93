-- What a report shows of a history.
use Rattle.std.specs.Prelude.{List, [], ◌∷◌}
use Rattle.txn_history.specs.Event.{Event}
use Rattle.txn_history.specs.Event.Event.{Began, Asked, Answered}

-- a report shows all but the sleeps that begin, the asks for timestamps and their answers
abbrev pub IsVisible : Event → Type 0
IsVisible (Began t ms) = ⊥
IsVisible (Asked a) = ⊥
IsVisible (Answered a answer) = ⊥
IsVisible _ = Unit {0}

-- the history without what a report does not show
abbrev pub seen : List Event → List Event
seen [] = []
seen (Began t ms ∷ es) = seen es
seen (Asked a ∷ es) = seen es
seen (Answered a answer ∷ es) = seen es
seen (e ∷ es) = e ∷ seen es
