-- What a transaction writes to one key, how each further call changes it, and the writes of all its calls.
use Rattle.std.specs.Prelude.{ℕ, List, [], ◌∷◌, Bool, true, false, Option, Some, None}
use Rattle.std.specs.BTreeMap.{insert_entry, is_at}
use Rattle.std.specs.Cmp.Lexicographic.{slice_cmp}
use Rattle.std.specs.Map.{lookup}
use Rattle.std.specs.Ordering.{nat_cmp}

pub data Write : Type 0 where
  put : List ℕ → Write
  insert : List ℕ → Write
  delete : Write
  check : Write

-- a put over an insert, or over the check that is left of one, stays an insert
abbrev pub after_put : Option Write → List ℕ → Write
after_put (Some (insert old)) value = insert value
after_put (Some check) value = insert value
after_put (Some (put old)) value = put value
after_put (Some delete) value = put value
after_put None value = put value

-- an insert over a delete is a put
abbrev pub after_insert : Option Write → List ℕ → Write
after_insert (Some delete) value = put value
after_insert (Some (put old)) value = insert value
after_insert (Some (insert old)) value = insert value
after_insert (Some check) value = insert value
after_insert None value = insert value

-- an optimistic delete over an insert leaves the check that there was no such key
abbrev pub after_delete : Bool → Option Write → Write
after_delete true old = delete
after_delete false (Some (insert old)) = check
after_delete false (Some check) = check
after_delete false (Some (put old)) = delete
after_delete false (Some delete) = delete
after_delete false None = delete

-- a call of a transaction that writes a key
pub data WriteCall : Type 0 where
  put_call : List ℕ → List ℕ → WriteCall
  insert_call : List ℕ → List ℕ → WriteCall
  delete_call : List ℕ → WriteCall

-- a finite map from keys to writes, in key order
abbrev pub Writes : Type 0
Writes = List (List ℕ × Write)

abbrev pub write_in : Writes → List ℕ → Option Write
write_in writes key = lookup (is_at (slice_cmp nat_cmp key)) writes

abbrev pub with_write_in : Writes → List ℕ → Write → Writes
with_write_in writes key write = insert_entry (slice_cmp nat_cmp) writes key write

-- the writes after one more call of a transaction, which is pessimistic or is not
abbrev pub after_call : Bool → Writes → WriteCall → Writes
after_call is_pessimistic writes (put_call key value) = with_write_in writes key (after_put (write_in writes key) value)
after_call is_pessimistic writes (insert_call key value) = with_write_in writes key (after_insert (write_in writes key) value)
after_call is_pessimistic writes (delete_call key) = with_write_in writes key (after_delete is_pessimistic (write_in writes key))

-- the writes after further calls, in their order
abbrev pub after_calls : Bool → Writes → List WriteCall → Writes
after_calls is_pessimistic writes [] = writes
after_calls is_pessimistic writes (call ∷ calls) = after_calls is_pessimistic (after_call is_pessimistic writes call) calls

-- the writes of a transaction that made these calls
abbrev pub writes_of_calls : Bool → List WriteCall → Writes
writes_of_calls is_pessimistic calls = after_calls is_pessimistic [] calls
