-- What became of the locks of many regions.
use Rattle.std.specs.Prelude.{ℕ, ◌+◌, ◌-◌, ◌^◌, min, List, [], ◌∷◌, Option, Some, None, map}
use Rattle.std.specs.Global.{Vec}
use Rattle.txn_kv.specs.ErrorView.{ErrorView, view_of}
use Rattle.txn_kv.specs.declared.errors.Error.{Error}
use Rattle.txn_merge.specs.declared.cleanup_locks_result.CleanupLocksResult.{CleanupLocksResult}

abbrev pub views_held : Option (Vec Error) → List ErrorView
views_held None = []
views_held (Some errors) = map view_of errors.items

abbrev pub resolved_of : List CleanupLocksResult → ℕ
resolved_of [] = 0
resolved_of (cleaned ∷ rest) = cleaned.resolved_locks + resolved_of rest

abbrev pub total_of : List CleanupLocksResult → CleanupLocksResult
total_of results = record { region_error = None; key_error = None; resolved_locks = min (2 ^ 64 - 1) (resolved_of results) }
