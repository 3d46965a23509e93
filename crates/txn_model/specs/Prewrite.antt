-- Prewrite: a lock on each key, where nothing stands in the way, with its bound where it is async; or all commits at once.
use Rattle.std.specs.Prelude.{ℕ, ◌+◌, ◌-◌, ◌^◌, max, min, Bool, true, false, not, ◌&&◌, ◌||◌, if◌then◌else◌, List, [], ◌∷◌, ◌++◌, drop, map, Option, Some, None, option_to_list, is_some, is_none, nat_eq, nat_lt}
use Rattle.std.specs.List.{list_any, list_all}
use Rattle.txn_kv.specs.declared.message.KeyError.{KeyError}
use Rattle.txn_kv.specs.declared.message.KeyError.TheVariants.{Locked, Abort, WriteConflict, AlreadyExist, PessimisticLockNotFound}
use Rattle.txn_kv.specs.declared.message.RegionErr.{RegionErr}
use Rattle.txn_kv.specs.declared.message.Mutation.{Mutation}
use Rattle.txn_kv.specs.declared.message.Op.{Op}
use Rattle.txn_kv.specs.declared.message.Op.TheVariants.{Put, Del, Lock as LockOp, Rollback, Insert, PessimisticLock, CheckNotExists}
use Rattle.txn_kv.specs.declared.request.commits.PrewriteRequest.{PrewriteRequest}
use Rattle.txn_kv.specs.declared.reply.Reply.TheVariants.{Prewrite}
use Rattle.txn_model.specs.declared.cell.Cell.{Cell}
use Rattle.txn_model.specs.declared.cell.Kind.{Kind}
use Rattle.txn_model.specs.declared.cell.Kind.TheVariants.{Put as PutKind, Del as DelKind, Lock as LockKind}
use Rattle.txn_model.specs.declared.cell.Lock.{Lock}
use Rattle.txn_model.specs.declared.cell.Write.{Write}
use Rattle.txn_model.specs.Cells.{key_eq, cell_at, changed_at}
use Rattle.txn_model.specs.Locks.{has_start, is_prewrite, owns, commit_of, newest_commit, value_at, lock_info, or_earlier}
use Rattle.txn_model.specs.Commit.{committed}
use Rattle.txn_model.specs.Placement.{region_check}
use Rattle.txn_model.specs.Status.{timestamp_or_0}
use Rattle.txn_model.specs.Store.{Store}
use Rattle.txn_model.specs.Handled.{Handled}

-- no value may stand where such a mutation is
abbrev pub wants_absent : Op → Bool
wants_absent Put = false
wants_absent Del = false
wants_absent LockOp = false
wants_absent Rollback = false
wants_absent Insert = true
wants_absent PessimisticLock = false
wants_absent CheckNotExists = true

-- the kind of the lock that a mutation sets, if it sets one
abbrev pub kind_of : Op → Option Kind
kind_of Put = Some PutKind
kind_of Del = Some DelKind
kind_of LockOp = Some LockKind
kind_of Rollback = Some LockKind
kind_of Insert = Some PutKind
kind_of PessimisticLock = Some LockKind
kind_of CheckNotExists = None

-- the bound of the locks that it sets: one above each read, its start and its for-update timestamp
abbrev pub least_bound : Store → PrewriteRequest → ℕ
least_bound st r = min (2 ^ 64 - 1) (1 + max st.max_read (max r.start_version r.for_update_ts))

-- a commit of the start is passed over
abbrev pub passes_commit : PrewriteRequest → Bool
passes_commit r = r.use_async_commit || r.try_one_pc

-- the first that stands in the way, at a key without a lock that stands in the way.
-- `held`: the start holds a pessimistic lock; `flag`: it must
abbrev pub conflict : PrewriteRequest → Mutation → Bool → Bool → List Write → Option KeyError
conflict r m flag held ws = by_commit (commit_of ws r.start_version)
  where
    at_newest : Option KeyError
    at_newest = if nat_lt r.start_version (newest_commit ws) then Some (WriteConflict m.key r.start_version (newest_commit ws)) else (if wants_absent m.op && is_some (value_at ws (2 ^ 64 - 1)) then Some (AlreadyExist m.key) else None)

    by_commit : Option Write → Option KeyError
    by_commit (Some w) = if passes_commit r then None else Some (WriteConflict m.key r.start_version w.commit)
    by_commit None = if flag then (if held then None else Some (PessimisticLockNotFound m.key)) else at_newest

abbrev pub lock_conflict : PrewriteRequest → Mutation → Bool → List Write → Option Lock → Option KeyError
lock_conflict r m flag ws None = conflict r m flag false ws
lock_conflict r m flag ws (Some l) = if nat_eq l.start r.start_version then (if is_prewrite l.kind then (if r.try_one_pc then Some (Abort m.key r.start_version 0) else None) else conflict r m flag true ws) else Some (Locked (lock_info m.key l))

-- the first error of a mutation at the cell of its key
abbrev pub prewrite_error : PrewriteRequest → Mutation → Bool → Cell → Option KeyError
prewrite_error r m flag c = if has_start c.rolled r.start_version then Some (Abort m.key r.start_version 0) else lock_conflict r m flag c.commits c.lock

-- flags that are missing are false
abbrev pub first_flag : List Bool → Bool
first_flag [] = false
first_flag (f ∷ fs) = f

-- the errors of the mutations, with their flags
abbrev pub prewrite_errors : List Cell → PrewriteRequest → List Mutation → List Bool → List KeyError
prewrite_errors cs r [] fs = []
prewrite_errors cs r (m ∷ ms) fs = option_to_list (prewrite_error r m (first_flag fs) (cell_at cs m.key)) ++ prewrite_errors cs r ms (drop 1 fs)

-- the lock that it sets, with the bound where it is async
abbrev pub lock_of : PrewriteRequest → ℕ → List ℕ → Kind → Lock
lock_of r n value kind = record {
  start = r.start_version;
  primary = r.primary_lock;
  kind = kind;
  value = value;
  ttl = r.lock_ttl;
  for_update = r.for_update_ts;
  min_commit = if r.use_async_commit then n else 0;
  use_async = r.use_async_commit;
  secondaries = r.secondaries;
}

-- what a mutation makes of the cell of its key: a lock, unless it sets none, or an own prewrite lock or commit stands
abbrev pub placed : PrewriteRequest → ℕ → List ℕ → Option Kind → Cell → Cell
placed r n value None c = c
placed r n value (Some kind) c = if owns c.lock r.start_version || is_some (commit_of c.commits r.start_version) then c else record { key = c.key; lock = Some (lock_of r n value kind); commits = c.commits; rolled = c.rolled }

-- each mutation in turn changes the cell, where that is its key's
abbrev pub fold_cell : (Mutation → Cell → Cell) → List Mutation → Cell → Cell
fold_cell f [] c = c
fold_cell f (m ∷ ms) c = fold_cell f ms (if key_eq m.key c.key then f m c else c)

abbrev pub place : PrewriteRequest → ℕ → Mutation → Cell → Cell
place r n m c = placed r n m.value (kind_of m.op) c

abbrev pub prewrite_cell : PrewriteRequest → ℕ → List Mutation → Cell → Cell
prewrite_cell r n ms c = fold_cell (place r n) ms c

-- what a mutation makes of the cell of its key, all at once: its commit, as if it were locked and the lock committed
abbrev pub landed : PrewriteRequest → ℕ → List ℕ → Option Kind → Cell → Cell
landed r n value None c = c
landed r n value (Some kind) c = if is_some (commit_of c.commits r.start_version) then c else committed r.start_version n (record { key = c.key; lock = Some (lock_of r n value kind); commits = c.commits; rolled = c.rolled })

abbrev pub land : PrewriteRequest → ℕ → Mutation → Cell → Cell
land r n m c = landed r n m.value (kind_of m.op) c

abbrev pub land_cell : PrewriteRequest → ℕ → List Mutation → Cell → Cell
land_cell r n ms c = fold_cell (land r n) ms c

-- the first own commit at the keys
abbrev pub passed_commit : List Cell → ℕ → List Mutation → Option Write
passed_commit cs s [] = None
passed_commit cs s (m ∷ ms) = or_earlier (commit_of (cell_at cs m.key).commits s) (passed_commit cs s ms)

-- the bound of the start's lock at a cell, or its commit
abbrev pub bound_at : ℕ → Option Lock → Option Write → ℕ
bound_at s None w = timestamp_or_0 w
bound_at s (Some l) w = if nat_eq l.start s && is_prewrite l.kind then l.min_commit else timestamp_or_0 w

abbrev pub greatest_bound : List Cell → ℕ → List Mutation → ℕ
greatest_bound cs s [] = 0
greatest_bound cs s (m ∷ ms) = max (if is_some (kind_of m.op) then bound_at s (cell_at cs m.key).lock (commit_of (cell_at cs m.key).commits s) else 0) (greatest_bound cs s ms)

-- a prewrite lock of the start that is not async
abbrev pub is_plain_lock : ℕ → Option Lock → Bool
is_plain_lock s None = false
is_plain_lock s (Some l) = nat_eq l.start s && is_prewrite l.kind && not l.use_async

-- the bound that the reply tells, over the cells as they are then
abbrev pub told_bound : List Cell → PrewriteRequest → ℕ
told_bound cs r = if r.use_async_commit then (if list_any (λ m. is_plain_lock r.start_version (cell_at cs m.key).lock) r.mutations then 0 else (if list_all (λ m. is_none (kind_of m.op)) r.mutations then 1 else greatest_bound cs r.start_version r.mutations)) else 0

abbrev pub mutation_keys : List Mutation → List (List ℕ)
mutation_keys ms = map (λ m. m.key) ms

-- nothing is changed
abbrev pub refused : Option RegionErr → List KeyError → Store → Handled
refused e es st = record { store = st; reply = Prewrite (record { region_error = e; errors = es; min_commit_ts = 0; one_pc_commit_ts = 0 }) }

abbrev pub prewritten_cells : Store → PrewriteRequest → List Cell
prewritten_cells st r = changed_at (mutation_keys r.mutations) (prewrite_cell r (least_bound st r) r.mutations) st.cells

abbrev pub landed_cells : Store → PrewriteRequest → List Cell
landed_cells st r = changed_at (mutation_keys r.mutations) (land_cell r (least_bound st r) r.mutations) st.cells

-- all at once, unless an own commit was passed over
abbrev pub one_phase_by : Option Write → Store → PrewriteRequest → Handled
one_phase_by (Some w) st r = record { store = st; reply = Prewrite (record { region_error = None; errors = []; min_commit_ts = 0; one_pc_commit_ts = w.commit }) }
one_phase_by None st r = record {
  store = record st { cells = landed_cells st r };
  reply = Prewrite (record { region_error = None; errors = []; min_commit_ts = 0; one_pc_commit_ts = least_bound st r });
}

abbrev pub locking_by : Store → PrewriteRequest → Handled
locking_by st r = record {
  store = record st { cells = prewritten_cells st r };
  reply = Prewrite (record { region_error = None; errors = []; min_commit_ts = told_bound (prewritten_cells st r) r; one_pc_commit_ts = 0 });
}

abbrev pub prewrite_by : Option RegionErr → List KeyError → Option Write → Store → PrewriteRequest → Handled
prewrite_by (Some e) errors w st r = refused (Some e) [] st
prewrite_by None (e ∷ es) w st r = refused None (e ∷ es) st
prewrite_by None [] w st r = if r.try_one_pc then one_phase_by w st r else locking_by st r

abbrev pub prewrite_row : Store → PrewriteRequest → Handled
prewrite_row st r = prewrite_by (region_check st.regions r.context) (prewrite_errors st.cells r r.mutations r.is_pessimistic_lock) (passed_commit st.cells r.start_version r.mutations) st r
