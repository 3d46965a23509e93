-- Where a key is among cells in the order of their keys.
use Rattle.std.specs.Prelude.{◌≡◌, ℕ, ◌<◌, ◌≤◌, List, length, slice_index_or}
use Rattle.std.specs.declared.cmp.Ordering.TheVariants.{Less}
use Rattle.txn_model.specs.declared.cell.Cell.{Cell}
use Rattle.txn_model.specs.Cells.{Key, key_cmp}

-- the cell at this place has the key
pub record IsAt (cells : List Cell) (key : Key) (at : ℕ) : Type 0 where
  pub in_range : at < length cells
  pub has_key : (d : Cell) → (slice_index_or cells at d).key ≡ key

-- no cell has the key, and one would go to this place
pub record IsGapFor (cells : List Cell) (key : Key) (at : ℕ) : Type 0 where
  pub in_range : at ≤ length cells
  pub below : (i : ℕ) (d : Cell) → i < at → key_cmp (slice_index_or cells i d).key key ≡ Less
  pub above : (i : ℕ) (d : Cell) → at ≤ i → i < length cells → key_cmp key (slice_index_or cells i d).key ≡ Less
