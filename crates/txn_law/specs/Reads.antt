-- What the reply to a read tells of a key.
use Rattle.std.specs.declared.cmp.Ordering.TheVariants.{Less}
use Rattle.txn_model.specs.Cells.{key_cmp}
use Rattle.txn_model.specs.Prewrite.{mutation_keys}
use Rattle.txn_kv.specs.declared.message.Mutation.{Mutation}
use Rattle.std.specs.Prelude.{◌≡◌, ◌≢◌, ◌⊎◌, ℕ, ◌<◌, Bool, true, false, List, Option, Some, None, is_some, if◌then◌else◌, length, [], ◌∷◌}
use Rattle.txn_kv.specs.declared.message.PbPair.{PbPair}
use Rattle.txn_kv.specs.declared.request.Request.{Request}
use Rattle.txn_kv.specs.declared.request.Request.TheVariants.{Get, BatchGet, Scan, PessimisticLock}
use Rattle.txn_kv.specs.declared.request.reads.ScanRequest.{ScanRequest}
use Rattle.txn_kv.specs.declared.reply.Reply.{Reply}
use Rattle.txn_kv.specs.declared.reply.Reply.TheVariants as reply
use Rattle.txn_history.specs.Among.{IsAmong}
use Rattle.txn_history.specs.Licence.{IsWithoutError}
use Rattle.txn_history.specs.Plan.{Key, has_key}
use Rattle.txn_model.specs.Ranges.{in_range}

-- no pair of the key shows an error
abbrev pub IsUnlocked : List PbPair → Key → Type 0
IsUnlocked ps k = (p : PbPair) → IsAmong ps p → p.key ≡ k → p.error ≡ None

abbrev pub HasPair : List PbPair → Key → Type 0
HasPair ps k = (p : PbPair) × IsAmong ps p × (p.key ≡ k)

-- the keys that a scan goes over
abbrev pub is_scanned : ScanRequest → Key → Bool
is_scanned r k = if r.reverse then in_range r.end_key r.start_key k else in_range r.start_key r.end_key k

-- a scan goes over the first key before the second
abbrev pub GoesBefore : ScanRequest → Key → Key → Type 0
GoesBefore r k q = (if r.reverse then key_cmp q k else key_cmp k q) ≡ Less

-- the pairs reach past the key
abbrev pub ReachesPast : ScanRequest → List PbPair → Key → Type 0
ReachesPast r ps k = (p : PbPair) × IsAmong ps p × GoesBefore r k p.key

-- A reply reads the key at t: the request was served, and no lock stood in the way. A scan reads the keys of its pairs,
-- and of its range each key that its pairs reach past, and all where its limit was not reached. A pessimistic lock that
-- returns values reads its keys at its for-update timestamp.
abbrev pub Reads : Request → Reply → Key → ℕ → Type 0
Reads (Get r) (reply.Get o) k t = (r.key ≡ k) × (r.version ≡ t) × IsWithoutError (reply.Get o)
Reads (BatchGet r) (reply.BatchGet o) k t = (r.version ≡ t) × (o.region_error ≡ None) × (has_key r.keys k ≡ true) × IsUnlocked o.pairs k
Reads (Scan r) (reply.Scan o) k t = (r.version ≡ t) × (o.region_error ≡ None) × IsUnlocked o.pairs k × (HasPair o.pairs k ⊎ ((is_scanned r k ≡ true) × ((length o.pairs < r.limit) ⊎ ReachesPast r o.pairs k)))
Reads (PessimisticLock r) (reply.PessimisticLock o) k t = (r.for_update_ts ≡ t) × IsWithoutError (reply.PessimisticLock o) × (r.return_values ≡ true) × (has_key (mutation_keys r.mutations) k ≡ true)
Reads _ _ k t = ⊥

-- the pairs say that the key has this value, or where they have none of it that it has no value
pub record PairsSay (key_only : Bool) (ps : List PbPair) (k : Key) (v : Option (List ℕ)) : Type 0 where
  pub found : (p : PbPair) → IsAmong ps p → p.key ≡ k → is_some v ≡ true
  pub value : key_only ≡ false → (p : PbPair) → IsAmong ps p → p.key ≡ k → v ≡ Some p.value
  pub missing : ((p : PbPair) → IsAmong ps p → p.key ≢ k) → v ≡ None

-- the values say so: one for each mutation, with whether it was missed
abbrev pub ValuesSay : List Mutation → List (List ℕ) → List Bool → Key → Option (List ℕ) → Type 0
ValuesSay [] xs missed k v = Unit {0}
ValuesSay (m ∷ ms) [] missed k v = ⊥
ValuesSay (m ∷ ms) (x ∷ xs) [] k v = ⊥
ValuesSay (m ∷ ms) (x ∷ xs) (n ∷ ns) k v = (m.key ≡ k → v ≡ (if n then None else Some x)) × ValuesSay ms xs ns k v

-- a reply says that the key has this value
abbrev pub Says : Request → Reply → Key → Option (List ℕ) → Type 0
Says (Get r) (reply.Get o) k v = v ≡ (if o.not_found then None else Some o.value)
Says (BatchGet r) (reply.BatchGet o) k v = PairsSay false o.pairs k v
Says (Scan r) (reply.Scan o) k v = PairsSay r.key_only o.pairs k v
Says (PessimisticLock r) (reply.PessimisticLock o) k v = ValuesSay r.mutations o.values o.not_founds k v
Says _ _ k v = ⊥
