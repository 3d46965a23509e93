-- The order of a scan, and what it shows.
use Rattle.std.specs.Prelude.{Bool, if◌then◌else◌, List, reverse}
use Rattle.txn_kv.specs.declared.message.PbPair.{PbPair}
use Rattle.txn_model.specs.declared.cell.Cell.{Cell}
use Rattle.txn_model.specs.Read.{without_value}

abbrev pub ordered : Bool → List Cell → List Cell
ordered is_reversed cs = if is_reversed then reverse cs else cs

abbrev pub shown : Bool → PbPair → PbPair
shown key_only p = if key_only then without_value p else p
