-- What an error holds.
use Rattle.std.specs.Prelude.{◌≡◌}
use Rattle.txn_kv.specs.declared.errors.Error.{Error}
use Rattle.txn_kv.specs.declared.errors.Error.TheVariants.{RegionError, KeyError}
use Rattle.txn_kv.specs.declared.message.RegionErr.{RegionErr}
use Rattle.txn_kv.specs.declared.message.KeyError as key_error

abbrev pub IsRegionError : RegionErr → Error → Type 0
IsRegionError held (RegionError boxed) = boxed.value ≡ held
IsRegionError held _ = ⊥

abbrev pub IsKeyError : key_error.KeyError → Error → Type 0
IsKeyError held (KeyError boxed) = boxed.value ≡ held
IsKeyError held _ = ⊥
