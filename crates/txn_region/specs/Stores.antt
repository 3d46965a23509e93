-- Stores that a client knows, each under the id that was asked for.
use Rattle.std.specs.Prelude.{ℕ, List, ◌++◌, Bool, true, false, not, ◌&&◌, ◌||◌, nat_eq, Option, map, codes}
use Rattle.std.specs.List.{filter, find, list_any}
use Rattle.std.specs.Option.{option_map}
use Rattle.std.specs.Cmp.Lexicographic.{pointwise}
use Rattle.txn_kv.specs.declared.message.StoreLabel.{StoreLabel}
use Rattle.txn_kv.specs.declared.message.StoreMeta.{StoreMeta}
use Rattle.txn_kv.specs.declared.message.StoreState.{StoreState}
use Rattle.txn_kv.specs.declared.message.StoreState.TheVariants.{Up, Offline, Tombstone}
use Rattle.txn_region.specs.declared.known_store.KnownStore.{KnownStore}

abbrev pub text_eq : List ℕ → List ℕ → Bool
text_eq = pointwise nat_eq

-- a label that says that the store keeps columns, for analysis
abbrev pub is_columnar : StoreLabel → Bool
is_columnar label =
    text_eq label.key (codes "engine")
    && (text_eq label.value (codes "tiflash") || text_eq label.value (codes "tiflash_compute"))

abbrev pub is_tombstone : StoreState → Bool
is_tombstone Up = false
is_tombstone Offline = false
is_tombstone Tombstone = true

-- a store that transactions are sent to
abbrev pub is_valid_store : StoreMeta → Bool
is_valid_store store = not (is_tombstone store.state) && not (list_any is_columnar store.labels)

abbrev pub has_store_id : ℕ → KnownStore → Bool
has_store_id id known = nat_eq known.id id

-- the store that is known under an id, if one is
abbrev pub store_of_id : ℕ → List KnownStore → Option StoreMeta
store_of_id id known = option_map (λ k. k.store) (find (has_store_id id) known)

-- the known stores once others became known: those take the place of what was known under their ids
abbrev pub is_replaced : List KnownStore → KnownStore → Bool
is_replaced new known = list_any (has_store_id known.id) new

abbrev pub with_stores : List KnownStore → List KnownStore → List KnownStore
with_stores new known = filter (λ k. not (is_replaced new k)) known ++ new

abbrev pub known_as : ℕ → StoreMeta → KnownStore
known_as id store = record { id = id; store = store }

-- those of all stores that transactions are sent to, each under its own id
abbrev pub valid_stores : List StoreMeta → List KnownStore
valid_stores stores = map (λ s. known_as s.id s) (filter is_valid_store stores)
