-- PessimisticLock: locks on keys that are written later.
use Rattle.std.specs.Prelude.{ℕ, max, Bool, true, false, ◌&&◌, if◌then◌else◌, List, [], ◌∷◌, map, Option, Some, None, is_some, is_none, nat_eq, nat_lt}
use Rattle.std.specs.List.{filter_map}
use Rattle.txn_kv.specs.declared.message.Assertion.{Assertion}
use Rattle.txn_kv.specs.declared.message.Assertion.TheVariants.{None as NoAssertion, Exist, NotExist}
use Rattle.txn_kv.specs.declared.message.KeyError.{KeyError}
use Rattle.txn_kv.specs.declared.message.KeyError.TheVariants.{Locked, Abort, WriteConflict, AlreadyExist}
use Rattle.txn_kv.specs.declared.message.Mutation.{Mutation}
use Rattle.txn_kv.specs.declared.message.RegionErr.{RegionErr}
use Rattle.txn_kv.specs.declared.request.locks.PessimisticLockRequest.{PessimisticLockRequest}
use Rattle.txn_kv.specs.declared.reply.Reply.TheVariants.{PessimisticLock}
use Rattle.txn_model.specs.declared.cell.Cell.{Cell}
use Rattle.txn_model.specs.declared.cell.Kind.TheVariants.{Pessimistic}
use Rattle.txn_model.specs.declared.cell.Lock.{Lock}
use Rattle.txn_model.specs.Cells.{cell_at, changed_at}
use Rattle.txn_model.specs.Locks.{has_start, is_prewrite, newest_commit, value_at, lock_info}
use Rattle.txn_model.specs.Prewrite.{mutation_keys}
use Rattle.txn_model.specs.Read.{read_at}
use Rattle.txn_model.specs.Placement.{region_check}
use Rattle.txn_model.specs.Store.{Store}
use Rattle.txn_model.specs.Handled.{Handled}

abbrev pub asserts_absence : Assertion → Bool
asserts_absence NoAssertion = false
asserts_absence Exist = false
asserts_absence NotExist = true

-- the value of a cell for the request
abbrev pub value_for_update : PessimisticLockRequest → Cell → Option (List ℕ)
value_for_update r c = value_at c.commits r.for_update_ts

-- the first that stands in the way, at a key whose lock does not
abbrev pub newest_conflict : PessimisticLockRequest → Mutation → Cell → Option KeyError
newest_conflict r m c = if nat_lt r.for_update_ts (newest_commit c.commits) then Some (WriteConflict m.key r.start_version (newest_commit c.commits)) else (if asserts_absence m.assertion && is_some (value_for_update r c) then Some (AlreadyExist m.key) else None)

abbrev pub held_conflict : PessimisticLockRequest → Mutation → Cell → Option Lock → Option KeyError
held_conflict r m c None = newest_conflict r m c
held_conflict r m c (Some l) = if nat_eq l.start r.start_version then (if is_prewrite l.kind then Some (Abort m.key r.start_version 0) else newest_conflict r m c) else Some (Locked (lock_info m.key l))

-- the first error of a mutation at the cell of its key
abbrev pub pessimistic_error : PessimisticLockRequest → Mutation → Cell → Option KeyError
pessimistic_error r m c = if has_start c.rolled r.start_version then Some (Abort m.key r.start_version 0) else held_conflict r m c c.lock

-- the errors of the mutations
abbrev pub pessimistic_errors : List Cell → PessimisticLockRequest → List KeyError
pessimistic_errors cs r = filter_map (λ m. pessimistic_error r m (cell_at cs m.key)) r.mutations

abbrev pub pessimistic_lock_of : PessimisticLockRequest → ℕ → ℕ → Lock
pessimistic_lock_of r ttl for_update = record {
  start = r.start_version;
  primary = r.primary_lock;
  kind = Pessimistic;
  value = [];
  ttl = ttl;
  for_update = for_update;
  min_commit = 0;
  use_async = false;
  secondaries = [];
}

-- an own lock keeps the greater times
abbrev pub raised_lock : PessimisticLockRequest → Option Lock → Lock
raised_lock r None = pessimistic_lock_of r r.lock_ttl r.for_update_ts
raised_lock r (Some l) = pessimistic_lock_of r (max l.ttl r.lock_ttl) (max l.for_update r.for_update_ts)

abbrev pub locked_for_update : PessimisticLockRequest → Cell → Cell
locked_for_update r c = record { key = c.key; lock = Some (raised_lock r c.lock); commits = c.commits; rolled = c.rolled }

abbrev pub value_or_empty : Option (List ℕ) → List ℕ
value_or_empty None = []
value_or_empty (Some v) = v

-- the values of the mutations' keys, where they are asked for
abbrev pub values_for_update : List Cell → PessimisticLockRequest → List (Option (List ℕ))
values_for_update cs r = if r.return_values then map (λ m. value_for_update r (cell_at cs m.key)) r.mutations else []

abbrev pub pessimistic_lock_by : Option RegionErr → List KeyError → Store → PessimisticLockRequest → Handled
pessimistic_lock_by (Some e) errors st r = record { store = st; reply = PessimisticLock (record { region_error = Some e; errors = []; values = []; not_founds = [] }) }
pessimistic_lock_by None (e ∷ es) st r = record { store = read_at r.for_update_ts st; reply = PessimisticLock (record { region_error = None; errors = e ∷ es; values = []; not_founds = [] }) }
pessimistic_lock_by None [] st r = record {
  store = record (read_at r.for_update_ts st) { cells = changed_at (mutation_keys r.mutations) (locked_for_update r) st.cells };
  reply = PessimisticLock (record {
    region_error = None;
    errors = [];
    values = map value_or_empty (values_for_update st.cells r);
    not_founds = map is_none (values_for_update st.cells r);
  });
}

abbrev pub pessimistic_lock_row : Store → PessimisticLockRequest → Handled
pessimistic_lock_row st r = pessimistic_lock_by (region_check st.regions r.context) (pessimistic_errors st.cells r) st r
