-- Outcomes that were taken already stand before those that are still to come.
use Rattle.std.proofs.Common.{List, ◌++◌}
use Rattle.std.specs.Prelude.{Result, Ok, Err}
use Rattle.txn_kv.specs.declared.errors.Error.{Error}

abbrev pub led_by : {X : Type 0} → List X → Result (List X) Error → Result (List X) Error
led_by xs (Ok ys) = Ok (xs ++ ys)
led_by xs (Err error) = Err error
