-- Get, BatchGet and Scan: the newest values at a timestamp, or the locks that stand in the way.
use Rattle.std.specs.Prelude.{ℕ, max, true, false, ◌&&◌, if◌then◌else◌, List, [], map, take, reverse, Option, Some, None, nat_le}
use Rattle.std.specs.List.{filter_map}
use Rattle.txn_kv.specs.declared.message.KeyError.TheVariants.{Locked}
use Rattle.txn_kv.specs.declared.message.PbPair.{PbPair}
use Rattle.txn_kv.specs.declared.message.RegionErr.{RegionErr}
use Rattle.txn_kv.specs.declared.request.reads.GetRequest.{GetRequest}
use Rattle.txn_kv.specs.declared.request.reads.BatchGetRequest.{BatchGetRequest}
use Rattle.txn_kv.specs.declared.request.reads.ScanRequest.{ScanRequest}
use Rattle.txn_kv.specs.declared.reply.reads.GetResponse.{GetResponse}
use Rattle.txn_kv.specs.declared.reply.Reply.TheVariants.{Get, BatchGet, Scan}
use Rattle.txn_model.specs.declared.cell.Cell.{Cell}
use Rattle.txn_model.specs.declared.cell.Lock.{Lock}
use Rattle.txn_model.specs.Cells.{Key, cell_at}
use Rattle.txn_model.specs.Locks.{is_written, value_at, lock_info}
use Rattle.txn_model.specs.Ranges.{cells_in}
use Rattle.txn_model.specs.Placement.{region_check}
use Rattle.txn_model.specs.Store.{Store}
use Rattle.txn_model.specs.Handled.{Handled}

-- the lock that a read at t can't look past
abbrev pub lock_before : ℕ → Option Lock → Option Lock
lock_before t None = None
lock_before t (Some l) = if is_written l.kind && nat_le l.start t then Some l else None

abbrev pub pair_of_value : Key → Option (List ℕ) → Option PbPair
pair_of_value k None = None
pair_of_value k (Some v) = Some (record { error = None; key = k; value = v })

abbrev pub pair_of : Cell → ℕ → Option Lock → Option PbPair
pair_of c t None = pair_of_value c.key (value_at c.commits t)
pair_of c t (Some l) = Some (record { error = Some (Locked (lock_info c.key l)); key = c.key; value = [] })

-- what a read at t finds at a cell: its value, a lock that stands in the way, or nothing
abbrev pub read_pair : ℕ → Cell → Option PbPair
read_pair t c = pair_of c t (lock_before t c.lock)

-- the store after a read at t
abbrev pub read_at : ℕ → Store → Store
read_at t st = record st { max_read = max st.max_read t }

abbrev pub told_value : Option PbPair → GetResponse
told_value None = record { region_error = None; error = None; value = []; not_found = true }
told_value (Some p) = record { region_error = None; error = p.error; value = p.value; not_found = false }

abbrev pub get_by : Option RegionErr → Store → GetRequest → Handled
get_by (Some e) st r = record { store = st; reply = Get (record { region_error = Some e; error = None; value = []; not_found = false }) }
get_by None st r = record { store = read_at r.version st; reply = Get (told_value (read_pair r.version (cell_at st.cells r.key))) }

abbrev pub get_row : Store → GetRequest → Handled
get_row st r = get_by (region_check st.regions r.context) st r

-- the pairs of the keys, in their order
abbrev pub pairs_at : ℕ → List Cell → List Key → List PbPair
pairs_at t cs ks = filter_map (λ k. read_pair t (cell_at cs k)) ks

abbrev pub batch_get_by : Option RegionErr → Store → BatchGetRequest → Handled
batch_get_by (Some e) st r = record { store = st; reply = BatchGet (record { region_error = Some e; error = None; pairs = [] }) }
batch_get_by None st r = record { store = read_at r.version st; reply = BatchGet (record { region_error = None; error = None; pairs = pairs_at r.version st.cells r.keys }) }

abbrev pub batch_get_row : Store → BatchGetRequest → Handled
batch_get_row st r = batch_get_by (region_check st.regions r.context) st r

-- the cells of a scan in its order: from its lower key up, or where it is reversed from its upper key down
abbrev pub scanned_cells : ScanRequest → List Cell → List Cell
scanned_cells r cs = if r.reverse then reverse (cells_in r.end_key r.start_key cs) else cells_in r.start_key r.end_key cs

abbrev pub without_value : PbPair → PbPair
without_value p = record { error = p.error; key = p.key; value = [] }

abbrev pub scan_pairs : ScanRequest → List Cell → List PbPair
scan_pairs r cs = map (λ p. if r.key_only then without_value p else p) (take r.limit (filter_map (read_pair r.version) (scanned_cells r cs)))

abbrev pub scan_by : Option RegionErr → Store → ScanRequest → Handled
scan_by (Some e) st r = record { store = st; reply = Scan (record { region_error = Some e; error = None; pairs = [] }) }
scan_by None st r = record { store = read_at r.version st; reply = Scan (record { region_error = None; error = None; pairs = scan_pairs r st.cells }) }

abbrev pub scan_row : Store → ScanRequest → Handled
scan_row st r = scan_by (region_check st.regions r.context) st r
