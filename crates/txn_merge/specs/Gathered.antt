-- Many results as one: the first error in their order, or what is made of all their values.
use Rattle.std.specs.Prelude.{◌≡◌, ◌⊎◌, ℕ, List, [], ◌∷◌, length, Option, Some, None, Result, Ok, Err}
use Rattle.txn_kv.specs.declared.errors.Error.{Error}
use Rattle.txn_kv.specs.declared.errors.Error.TheVariants.{InternalError, OutOfMemory}
use Rattle.txn_kv.specs.declared.errors.Internal.TheVariants.{Shape}

abbrev pub values_of : {T : Type 0} → List (Result T Error) → List T
values_of [] = []
values_of (Ok value ∷ results) = value ∷ values_of results
values_of (Err error ∷ results) = values_of results

abbrev pub errors_of : {T : Type 0} → List (Result T Error) → List Error
errors_of [] = []
errors_of (Ok value ∷ results) = errors_of results
errors_of (Err error ∷ results) = error ∷ errors_of results

abbrev pub first : {A : Type 0} → List A → Option A
first [] = None
first (x ∷ xs) = Some x

-- an answer, or want of memory
abbrev pub UnlessMemory : {B : Type 0} → (Result B Error → Type 0) → Result B Error → Type 0
UnlessMemory Answers (Ok out) = Answers (Ok out)
UnlessMemory Answers (Err error) = (error ≡ OutOfMemory) ⊎ Answers (Err error)

-- the first of the errors, or what is made of the values where there is none
abbrev pub FirstErrorOr : {A B : Type 0} → (List A → B → Type 0) → List (Result A Error) → Result B Error → Type 0
FirstErrorOr Made results (Ok out) = (errors_of results ≡ []) × Made (values_of results) out
FirstErrorOr Made results (Err error) = first (errors_of results) ≡ Some error

-- two numbers that have to be one
abbrev pub shape : ℕ → ℕ → Error
shape expected given = InternalError (Shape expected given)

-- the one result there is
abbrev pub single_of : {T : Type 0} → List (Result T Error) → Result T Error
single_of [] = Err (shape 1 0)
single_of (result ∷ []) = result
single_of (result ∷ other ∷ results) = Err (shape 1 (length (result ∷ other ∷ results)))
