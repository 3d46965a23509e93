-- What holds of a store, whatever happened to it.
use Rattle.std.specs.Prelude.{ℕ, ◌<◌, ◌^◌, List}
use Rattle.txn_model.specs.declared.cell.Cell.{Cell}
use Rattle.txn_model.specs.declared.region.StoredRegion.{StoredRegion}
use Rattle.txn_model.specs.Cells.{AreKept}
use Rattle.txn_model.specs.Orderly.{AreOrderly}
use Rattle.txn_model.specs.Splits.{AreCounted}

pub record IsInOrder (cells : List Cell) (regions : List StoredRegion) (clock : ℕ) : Type 0 where
  pub kept : AreKept cells
  pub ordered : AreOrderly cells
  pub counted : AreCounted regions
  pub clock_bits : clock < 2 ^ 44
