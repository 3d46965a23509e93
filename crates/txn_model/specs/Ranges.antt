-- Ranges of keys. The end is left out; an empty end is no bound.
use Rattle.std.specs.Prelude.{Bool, not, ◌&&◌, ◌||◌, List, filter}
use Rattle.std.specs.Ordering.{is_lt}
use Rattle.txn_model.specs.declared.cell.Cell.{Cell}
use Rattle.txn_model.specs.Cells.{Key, key_cmp, has_none}

abbrev pub in_range : Key → Key → Key → Bool
in_range low high k = not (is_lt (key_cmp k low)) && (has_none high || is_lt (key_cmp k high))

-- the cells of a range, in the order of their keys
abbrev pub cells_in : Key → Key → List Cell → List Cell
cells_in low high cs = filter (λ c. in_range low high c.key) cs
