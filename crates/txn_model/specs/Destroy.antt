-- UnsafeDestroyRange: all that is kept of a range goes, whatever its regions are.
use Rattle.std.specs.Prelude.{not, List, [], None, filter}
use Rattle.txn_kv.specs.declared.request.cluster.UnsafeDestroyRangeRequest.{UnsafeDestroyRangeRequest}
use Rattle.txn_kv.specs.declared.reply.Reply.TheVariants.{UnsafeDestroyRange}
use Rattle.txn_model.specs.declared.cell.Cell.{Cell}
use Rattle.txn_model.specs.Cells.{Key}
use Rattle.txn_model.specs.Ranges.{in_range}
use Rattle.txn_model.specs.Store.{Store}
use Rattle.txn_model.specs.Handled.{Handled}

-- the cells outside a range
abbrev pub cells_outside : Key → Key → List Cell → List Cell
cells_outside low high cs = filter (λ c. not (in_range low high c.key)) cs

abbrev pub unsafe_destroy_range_row : Store → UnsafeDestroyRangeRequest → Handled
unsafe_destroy_range_row st r = record {
  store = record st { cells = cells_outside r.start_key r.end_key st.cells };
  reply = UnsafeDestroyRange (record { region_error = None; error = [] });
}
