-- What a buffer takes of a read, and what a read is told through it.
use Rattle.std.specs.Prelude.{◌≡◌, ℕ, ◌+◌, List, [], ◌∷◌, ◌++◌, map, length, Bool, true, false, cond, Option, Some, None, is_none, ◌⊎◌, ⊤}
use Rattle.std.specs.BTreeMap.Range.{entries_between}
use Rattle.std.specs.Cmp.Lexicographic.{slice_cmp}
use Rattle.std.specs.List.{filter}
use Rattle.std.specs.List.Sorted.{IsPermutation, IsSorted}
use Rattle.std.specs.Ordering.{nat_cmp}
use Rattle.txn_buffer.specs.declared.entry.Entry.{Entry}
use Rattle.txn_buffer.specs.declared.entry.Entry.TheVariants as entry
use Rattle.txn_buffer.specs.Contents.{Contents, Agrees, IsUnlike, entry_at, filled, known_at, known_value, with_value, without_entry, write_at, write_of}
use Rattle.txn_buffer.specs.Overlay.{Pairs}
use Rattle.txn_buffer.specs.Writes.{Write, Writes}
use Rattle.txn_kv.specs.Ranges.{effective_end}
use Rattle.txn_kv.specs.declared.bound_range.BoundRange.{BoundRange}
use Rattle.txn_kv.specs.declared.errors.Error.{Error}
use Rattle.txn_kv.specs.declared.errors.Error.TheVariants.{OutOfMemory}
use Rattle.txn_kv.specs.declared.kvpair.KvPair.{KvPair}

abbrev pub pair_of : KvPair → List ℕ × List ℕ
pair_of pair = (pair.0, pair.1)

abbrev pub pairs_of : List KvPair → Pairs
pairs_of pairs = map pair_of pairs

-- the contents after these pairs were read, one after another
abbrev pub filled_all : Contents → Pairs → Contents
filled_all contents [] = contents
filled_all contents (p ∷ pairs) = filled_all (filled contents p.0 (Some p.1)) pairs

-- what is known agrees with each pair read
abbrev pub AgreesAll : Contents → Pairs → Type 0
AgreesAll contents [] = ⊤
AgreesAll contents (p ∷ pairs) = Agrees (known_at contents p.0) (Some p.1) × AgreesAll (filled contents p.0 (Some p.1)) pairs

-- why the pairs read are refused: another value of one of them is known
abbrev pub IsUnlikeOne : Contents → Pairs → Error → Type 0
IsUnlikeOne contents [] error = error ≡ OutOfMemory
IsUnlikeOne contents (p ∷ pairs) error = IsUnlike (known_at contents p.0) (Some p.1) error ⊎ IsUnlikeOne (filled contents p.0 (Some p.1)) pairs error

-- the pair of a key with a value, if it has one
abbrev pub pair_with : List ℕ → Option (List ℕ) → Pairs
pair_with key None = []
pair_with key (Some value) = (key, value) ∷ []

-- the pair of each key that is known to have a value
abbrev pub known_pairs : Contents → List (List ℕ) → Pairs
known_pairs contents [] = []
known_pairs contents (key ∷ keys) = pair_with key (known_value (known_at contents key)) ++ known_pairs contents keys

-- the pair of each asked key that has a value, in key order, repeats kept
pub record IsBatch (contents : Contents) (asked : List (List ℕ)) (pairs : Pairs) : Type 0 where
  pub keys : List (List ℕ)
  pub of_asked : IsPermutation asked keys
  pub in_order : IsSorted (slice_cmp nat_cmp) keys
  pub is : pairs ≡ known_pairs contents keys

-- the writes of the entries, in key order
abbrev pub and_write : List ℕ → Option Write → Writes → Writes
and_write key None writes = writes
and_write key (Some write) writes = (key, write) ∷ writes

abbrev pub writes_of : List (List ℕ × Entry) → Writes
writes_of [] = []
writes_of (e ∷ entries) = and_write e.0 (write_of e.1) (writes_of entries)

abbrev pub writes : Contents → Writes
writes contents = writes_of contents.entries

-- the entries whose keys are in a range: an end of no key at all is unbounded
abbrev pub entries_in : BoundRange → Contents → List (List ℕ × Entry)
entries_in range contents = entries_between (slice_cmp nat_cmp) range.from (effective_end range.to) contents.entries

abbrev pub writes_in : BoundRange → Contents → Writes
writes_in range contents = writes_of (entries_in range contents)

-- whether a written key has no value
abbrev pub is_absent : Entry → Bool
is_absent (entry.Cached value) = false
is_absent (entry.Locked value) = false
is_absent (entry.Put value) = false
is_absent entry.Del = true
is_absent (entry.Insert value) = false
is_absent entry.CheckNotExist = true

-- how many pairs of a range give that many through the writes
abbrev pub scan_limit : Contents → BoundRange → ℕ → ℕ
scan_limit contents range limit = limit + length (filter (λ e. is_absent e.1) (entries_in range contents))

-- the pairs whose keys are not written
abbrev pub unwritten : Contents → Pairs → Pairs
unwritten contents pairs = filter (λ p. is_none (write_at contents p.0)) pairs

-- the pairs that a scan leaves in the buffer
abbrev pub cached_pairs : Bool → Contents → Pairs → Pairs
cached_pairs false contents pairs = []
cached_pairs true contents pairs = unwritten contents pairs

-- a key unfilled: what was read of it is forgotten, and a lock stays
abbrev pub unfill_step : Entry → Entry
unfill_step (entry.Cached value) = entry.Cached value
unfill_step (entry.Locked value) = entry.Locked None
unfill_step (entry.Put value) = entry.Put value
unfill_step entry.Del = entry.Del
unfill_step (entry.Insert value) = entry.Insert value
unfill_step entry.CheckNotExist = entry.CheckNotExist

abbrev pub is_cached : Entry → Bool
is_cached (entry.Cached value) = true
is_cached (entry.Locked value) = false
is_cached (entry.Put value) = false
is_cached entry.Del = false
is_cached (entry.Insert value) = false
is_cached entry.CheckNotExist = false

abbrev pub is_some_cached : Option Entry → Bool
is_some_cached None = false
is_some_cached (Some e) = is_cached e

abbrev pub unfilled_at : Option Entry → Contents → List ℕ → Contents
unfilled_at None contents key = contents
unfilled_at (Some e) contents key =
    cond (is_cached e) (without_entry contents key) (with_value contents key (unfill_step e))

abbrev pub unfilled : Contents → List ℕ → Contents
unfilled contents key = unfilled_at (entry_at contents key) contents key

-- the keys unfilled, the last first
abbrev pub unfilled_all : Contents → List (List ℕ) → Contents
unfilled_all contents [] = contents
unfilled_all contents (key ∷ keys) = unfilled (unfilled_all contents keys) key
