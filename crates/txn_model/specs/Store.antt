-- The store: cells in the order of their keys, and what stands beside them.
use Rattle.std.specs.Prelude.{ℕ, List, [], ◌∷◌, codes}
use Rattle.txn_kv.specs.declared.message.StoreMeta.{StoreMeta}
use Rattle.txn_kv.specs.declared.message.StoreState.TheVariants.{Up}
use Rattle.txn_model.specs.declared.cell.Cell.{Cell}
use Rattle.txn_model.specs.declared.region.StoredRegion.{StoredRegion}

pub record Store : Type 0 where
  pub cells : List Cell
  pub regions : List StoredRegion
  pub stores : List StoreMeta
  pub clock : ℕ
  pub last : ℕ
  pub max_read : ℕ
  pub safepoint : ℕ

abbrev pub store_up : ℕ → List ℕ → StoreMeta
store_up n name = record { id = n; address = name; state = Up; labels = [] }

-- no cell, one region over all keys, and three stores
abbrev pub opening : Store
opening = record {
  cells = [];
  regions = record { id = 1; start_key = []; end_key = []; epoch = record { conf_ver = 1; version = 1 }; leader = 1 } ∷ [];
  stores = store_up 1 (codes "s1") ∷ store_up 2 (codes "s2") ∷ store_up 3 (codes "s3") ∷ [];
  clock = 0;
  last = 0;
  max_read = 0;
  safepoint = 0;
}
