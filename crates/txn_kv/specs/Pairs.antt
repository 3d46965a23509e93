-- What a pair ends as, where its key or its value was lent for writing.
use Rattle.std.specs.Prelude.{ℕ, List}
use Rattle.std.specs.Borrow.{Lends, Fml, MutBor, u8}
use Rattle.txn_kv.specs.contracts.items.Items.{the_row as items_row}
use Rattle.txn_kv.specs.contracts.key.Key.{the_row as key_row}
use Rattle.txn_kv.specs.contracts.kvpair.KvPair.{the_row}
use Rattle.txn_kv.specs.declared.kvpair.KvPair.{KvPair}

-- the pair has the key that was last written
abbrev pub lends_key : MutBor KvPair → MutBor (List ℕ) → Fml
lends_key pair lent = Lends the_row key_row pair lent (λ key. record pair.now { 0 = key })

-- the pair has the value that was last written
abbrev pub lends_value : MutBor KvPair → MutBor (List ℕ) → Fml
lends_value pair lent = Lends the_row (items_row u8) pair lent (λ value. record pair.now { 1 = value })
