-- What becomes of a reply that is made into another value.
use Rattle.std.specs.Prelude.{ℕ, List, Option, Some, None, Result, Ok, Err, if◌then◌else◌}
use Rattle.txn_kv.specs.declared.errors.Error.{Error}
use Rattle.txn_kv.specs.declared.reply.reads.GetResponse.{GetResponse}

-- an error stays as it is
abbrev pub at_ok : {A B : Type 0} → (A → Result B Error) → Result A Error → Result B Error
at_ok made (Ok value) = made value
at_ok made (Err error) = Err error

abbrev pub value_in : GetResponse → Option (List ℕ)
value_in reply = if reply.not_found then None else Some reply.value
