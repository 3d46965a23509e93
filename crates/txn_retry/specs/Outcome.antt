-- The results of a plan's tasks as the plan's answer.
use Rattle.std.specs.Prelude.{List, [], ◌∷◌, Result, Ok, Err}
use Rattle.txn_kv.specs.declared.errors.Error.{Error}

-- what a task ended with is a result, or an error that stands in its place
abbrev pub in_place : {T : Type 0} → Result (Result T Error) Error → Result T Error
in_place (Ok result) = result
in_place (Err error) = Err error

abbrev pub preceded : {X : Type 0} → X → Result (List X) Error → Result (List X) Error
preceded x (Ok xs) = Ok (x ∷ xs)
preceded x (Err error) = Err error

-- the first error, or each result
abbrev pub all_or_first : {X : Type 0} → List (Result X Error) → Result (List X) Error
all_or_first [] = Ok []
all_or_first (Ok x ∷ rest) = preceded x (all_or_first rest)
all_or_first (Err error ∷ rest) = Err error
