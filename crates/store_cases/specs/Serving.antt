-- Requests that every store can serve: all but asks for timestamps.
use Rattle.std.specs.Prelude.{⊤, Option, Some, None}
use Rattle.txn_kv.specs.declared.request.Request.{Request}
use Rattle.txn_model.specs.Store.{Store}
use Rattle.txn_model.specs.Table.{CanServe}

-- the request of a line, if it has one
abbrev pub IsServable : Option Request → Type 0
IsServable (Some r) = (st : Store) → CanServe st r
IsServable None = ⊤
