-- A buffer as its user thinks of it: a finite map from keys to entries, in key order, with a primary key or none.
use Rattle.std.specs.Prelude.{◌≡◌, ℕ, ◌+◌, List, [], ◌∷◌, ◌++◌, map, length, Bool, true, false, cond, Option, Some, None, is_none, ◌⊎◌, ⊤}
use Rattle.std.specs.Ordering.{nat_cmp}
use Rattle.std.specs.Cmp.Lexicographic.{slice_cmp}
use Rattle.std.specs.BTreeMap.{insert_entry, is_at}
use Rattle.std.specs.Map.{lookup, remove_entry, set_value}
use Rattle.txn_buffer.specs.declared.entry.Entry.{Entry}
use Rattle.txn_buffer.specs.declared.entry.Entry.TheVariants as entry
use Rattle.txn_buffer.specs.Writes.{Write, put, insert, delete, check, after_put, after_delete}
use Rattle.txn_kv.specs.declared.errors.Error.{Error}
use Rattle.txn_kv.specs.declared.errors.Error.TheVariants.{InternalError, OutOfMemory}
use Rattle.txn_kv.specs.declared.errors.Internal.TheVariants.{UnlikeCache}
use Rattle.txn_kv.specs.declared.message.Assertion.TheVariants as assertion
use Rattle.txn_kv.specs.declared.message.Mutation.{Mutation}
use Rattle.txn_kv.specs.declared.message.Op.{Op}
use Rattle.txn_kv.specs.declared.message.Op.TheVariants as op

pub record Contents : Type 0 where
  pub entries : List (List ℕ × Entry)
  pub primary : Option (List ℕ)
  pub is_pessimistic : Bool

-- the entry of a key
abbrev pub entry_at : Contents → List ℕ → Option Entry
entry_at contents key = lookup (is_at (slice_cmp nat_cmp key)) contents.entries

-- the same with an entry set, or taken out
abbrev pub with_entry : Contents → List ℕ → Entry → Contents
with_entry contents key e = record contents { entries = insert_entry (slice_cmp nat_cmp) contents.entries key e }

-- the same with another entry in place of the key's
abbrev pub with_value : Contents → List ℕ → Entry → Contents
with_value contents key e = record contents { entries = set_value (is_at (slice_cmp nat_cmp key)) contents.entries e }

abbrev pub without_entry : Contents → List ℕ → Contents
without_entry contents key = record contents { entries = remove_entry (is_at (slice_cmp nat_cmp key)) contents.entries }

-- the same with this primary key where there is none
abbrev pub or_primary : Option (List ℕ) → List ℕ → Option (List ℕ)
or_primary None key = Some key
or_primary (Some primary) key = Some primary

abbrev pub with_primary : Contents → List ℕ → Contents
with_primary contents key = record contents { primary = or_primary contents.primary key }

-- what an entry writes
abbrev pub write_of : Entry → Option Write
write_of (entry.Cached value) = None
write_of (entry.Locked value) = None
write_of (entry.Put value) = Some (put value)
write_of entry.Del = Some delete
write_of (entry.Insert value) = Some (insert value)
write_of entry.CheckNotExist = Some check

abbrev pub write_at_entry : Option Entry → Option Write
write_at_entry None = None
write_at_entry (Some e) = write_of e

-- the write of a key
abbrev pub write_at : Contents → List ℕ → Option Write
write_at contents key = write_at_entry (entry_at contents key)

abbrev pub entry_of : Write → Entry
entry_of (put value) = entry.Put value
entry_of (insert value) = entry.Insert value
entry_of delete = entry.Del
entry_of check = entry.CheckNotExist

-- whether a new entry makes its key the primary where there is none
abbrev pub sets_primary : Entry → Bool
sets_primary (entry.Cached value) = true
sets_primary (entry.Locked value) = true
sets_primary (entry.Put value) = true
sets_primary entry.Del = true
sets_primary (entry.Insert value) = true
sets_primary entry.CheckNotExist = false

abbrev pub with_new_entry : Contents → List ℕ → Entry → Contents
with_new_entry contents key e = with_entry (cond (sets_primary e) (with_primary contents key) contents) key e

-- the same with a write of a key, which becomes the primary where there is none, unless it only checks
abbrev pub with_write : Contents → List ℕ → Write → Contents
with_write contents key write = with_new_entry contents key (entry_of write)

-- what is known of the value at an entry, if anything is
abbrev pub known_of : Entry → Option (Option (List ℕ))
known_of (entry.Cached value) = Some value
known_of (entry.Locked known) = known
known_of (entry.Put value) = Some (Some value)
known_of entry.Del = Some None
known_of (entry.Insert value) = Some (Some value)
known_of entry.CheckNotExist = Some None

abbrev pub known_at_entry : Option Entry → Option (Option (List ℕ))
known_at_entry None = None
known_at_entry (Some e) = known_of e

abbrev pub known_at : Contents → List ℕ → Option (Option (List ℕ))
known_at contents key = known_at_entry (entry_at contents key)

abbrev pub known_value : Option (Option (List ℕ)) → Option (List ℕ)
known_value None = None
known_value (Some value) = value

-- a lock of a key whose value is not known
abbrev pub is_bare_lock : Entry → Bool
is_bare_lock (entry.Locked None) = true
is_bare_lock (entry.Locked (Some value)) = false
is_bare_lock (entry.Cached value) = false
is_bare_lock (entry.Put value) = false
is_bare_lock entry.Del = false
is_bare_lock (entry.Insert value) = false
is_bare_lock entry.CheckNotExist = false

-- a key read: what was not known becomes known
abbrev pub filled_at : Option Entry → Contents → List ℕ → Option (List ℕ) → Contents
filled_at None contents key value = with_entry contents key (entry.Cached value)
filled_at (Some e) contents key value =
    cond (is_bare_lock e) (with_value contents key (entry.Locked (Some value))) contents

abbrev pub filled : Contents → List ℕ → Option (List ℕ) → Contents
filled contents key value = filled_at (entry_at contents key) contents key value

-- a key locked: a written key needs no lock of its own
abbrev pub lock_step : Entry → Entry
lock_step (entry.Cached value) = entry.Locked (Some value)
lock_step (entry.Locked known) = entry.Locked known
lock_step (entry.Put value) = entry.Put value
lock_step entry.Del = entry.Del
lock_step (entry.Insert value) = entry.Insert value
lock_step entry.CheckNotExist = entry.CheckNotExist

abbrev pub locked_at : Option Entry → Contents → List ℕ → Contents
locked_at None contents key = with_entry contents key (entry.Locked None)
locked_at (Some e) contents key = with_value contents key (lock_step e)

abbrev pub locked : Contents → List ℕ → Contents
locked contents key = locked_at (entry_at contents key) (with_primary contents key) key

-- a key unlocked: what is known of it stays, and the primary too
abbrev pub unlock_step : Entry → Entry
unlock_step (entry.Cached value) = entry.Cached value
unlock_step (entry.Locked None) = entry.Locked None
unlock_step (entry.Locked (Some value)) = entry.Cached value
unlock_step (entry.Put value) = entry.Put value
unlock_step entry.Del = entry.Del
unlock_step (entry.Insert value) = entry.Insert value
unlock_step entry.CheckNotExist = entry.CheckNotExist

abbrev pub unlocked_at : Option Entry → Contents → List ℕ → Contents
unlocked_at None contents key = contents
unlocked_at (Some e) contents key =
    cond (is_bare_lock e) (without_entry contents key) (with_value contents key (unlock_step e))

abbrev pub unlocked : Contents → List ℕ → Contents
unlocked contents key = unlocked_at (entry_at contents key) contents key

-- whether the mutation of an entry locks its key
abbrev pub is_locking : Entry → Bool
is_locking (entry.Cached value) = false
is_locking (entry.Locked value) = true
is_locking (entry.Put value) = true
is_locking entry.Del = true
is_locking (entry.Insert value) = true
is_locking entry.CheckNotExist = false

abbrev pub is_some_bare_lock : Option Entry → Bool
is_some_bare_lock None = false
is_some_bare_lock (Some e) = is_bare_lock e

-- the least key whose mutation locks
abbrev pub first_locking : List (List ℕ × Entry) → Option (List ℕ)
first_locking [] = None
first_locking (e ∷ rest) = cond (is_locking e.1) (Some e.0) (first_locking rest)

abbrev pub is_locking_at : Option Entry → Bool
is_locking_at None = false
is_locking_at (Some e) = is_locking e

-- the primary where its mutation locks, else the least key whose mutation does
abbrev pub commit_primary_or : Option (List ℕ) → Contents → Option (List ℕ)
commit_primary_or None contents = first_locking contents.entries
commit_primary_or (Some primary) contents =
    cond (is_locking_at (entry_at contents primary)) (Some primary) (first_locking contents.entries)

abbrev pub commit_primary : Contents → Option (List ℕ)
commit_primary contents = commit_primary_or contents.primary contents

-- how many bytes an entry adds to what a commit writes
abbrev pub entry_size : List ℕ → Entry → ℕ
entry_size key (entry.Put value) = length key + length value
entry_size key (entry.Insert value) = length key + length value
entry_size key entry.Del = length key
entry_size key (entry.Cached value) = 0
entry_size key (entry.Locked value) = 0
entry_size key entry.CheckNotExist = 0

abbrev pub write_size : List (List ℕ × Entry) → ℕ
write_size [] = 0
write_size (e ∷ rest) = entry_size e.0 e.1 + write_size rest

-- the mutation of an entry: a read has none
abbrev pub mutation : Op → List ℕ → List ℕ → Mutation
mutation kind key value = record { op = kind; key = key; value = value; assertion = assertion.None }

abbrev pub mutations_of : List ℕ → Entry → List Mutation
mutations_of key (entry.Cached value) = []
mutations_of key (entry.Locked value) = mutation op.Lock key [] ∷ []
mutations_of key (entry.Put value) = mutation op.Put key value ∷ []
mutations_of key entry.Del = mutation op.Del key [] ∷ []
mutations_of key (entry.Insert value) = mutation op.Insert key value ∷ []
mutations_of key entry.CheckNotExist = mutation op.CheckNotExists key [] ∷ []

abbrev pub written_value : Entry → List ℕ
written_value (entry.Put value) = value
written_value (entry.Insert value) = value
written_value entry.Del = []
written_value (entry.Cached value) = []
written_value (entry.Locked value) = []
written_value entry.CheckNotExist = []

abbrev pub mutations : List (List ℕ × Entry) → List Mutation
mutations [] = []
mutations (e ∷ rest) = mutations_of e.0 e.1 ++ mutations rest

abbrev pub keys_of_mutations : List Mutation → List (List ℕ)
keys_of_mutations ms = map (λ m. m.key) ms

-- the contents after a mutation that is a put or a delete
abbrev pub mutated_by : Op → Contents → List ℕ → List ℕ → Option Contents
mutated_by op.Put contents key value = Some (with_write contents key (after_put (write_at contents key) value))
mutated_by op.Del contents key value =
    Some (with_write contents key (after_delete contents.is_pessimistic (write_at contents key)))
mutated_by op.Lock contents key value = None
mutated_by op.Rollback contents key value = None
mutated_by op.Insert contents key value = None
mutated_by op.PessimisticLock contents key value = None
mutated_by op.CheckNotExists contents key value = None

abbrev pub mutated : Contents → Mutation → Option Contents
mutated contents m = mutated_by m.op contents m.key m.value

-- the keys whose value is not known
abbrev pub missing_keys : Contents → List (List ℕ) → List (List ℕ)
missing_keys contents [] = []
missing_keys contents (key ∷ rest) = cond (is_none (known_at contents key)) (key ∷ missing_keys contents rest) (missing_keys contents rest)

-- why a read is refused: another value is known
abbrev pub IsUnlike : Option (Option (List ℕ)) → Option (List ℕ) → Error → Type 0
IsUnlike None read error = error ≡ OutOfMemory
IsUnlike (Some kept) read error = (error ≡ OutOfMemory) ⊎ ((kept ≡ read → ⊥) × (error ≡ InternalError (UnlikeCache kept read)))

-- what is known agrees with a read
abbrev pub Agrees : Option (Option (List ℕ)) → Option (List ℕ) → Type 0
Agrees None read = ⊤
Agrees (Some kept) read = kept ≡ read
