-- What a heartbeat does to the cells where its start holds this lock, or none.
use Rattle.std.specs.Prelude.{ℕ, max, List, [], ◌∷◌, Option, Some, None}
use Rattle.txn_model.specs.declared.cell.Cell.{Cell}
use Rattle.txn_model.specs.declared.cell.Lock.{Lock}
use Rattle.txn_model.specs.Cells.{Key, changed_at}
use Rattle.txn_model.specs.Settle.{lock_of_start}
use Rattle.txn_model.specs.Status.{longer_lived, with_lock}

-- the time to live that is answered
abbrev pub ttl_told : ℕ → Option Lock → Option ℕ
ttl_told ttl None = None
ttl_told ttl (Some l) = Some (max l.ttl ttl)

abbrev pub lengthened_if : ℕ → Option Lock → Option Lock → Option Lock
lengthened_if ttl None o = o
lengthened_if ttl (Some l) o = Some (longer_lived ttl l)

-- a lock of the start lives longer
abbrev pub lengthened : ℕ → ℕ → Option Lock → Option Lock
lengthened s ttl o = lengthened_if ttl (lock_of_start s o) o

abbrev pub lengthened_at : Key → ℕ → Option Lock → List Cell → List Cell
lengthened_at k ttl None cs = cs
lengthened_at k ttl (Some l) cs = changed_at (k ∷ []) (with_lock (longer_lived ttl l)) cs
