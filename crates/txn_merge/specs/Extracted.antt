-- The errors that a value holds, in place of the value.
use Rattle.std.specs.Prelude.{◌≡◌, ◌≢◌, List, [], map, Result, Ok, Err}
use Rattle.txn_kv.specs.ErrorView.{ErrorView, extracted, listed, region, view_of}
use Rattle.txn_kv.specs.declared.errors.Error.{Error}
use Rattle.txn_kv.specs.declared.message.RegionErr.{RegionErr}
use Rattle.txn_merge.specs.Firsts.{or_else}

-- the errors at keys, or else those of regions
abbrev pub views_in : List ErrorView → List RegionErr → List ErrorView
views_in keys regions = or_else keys (map region regions)

abbrev pub ErrorsOr : {T : Type 0} → List ErrorView → T → Result T Error → Type 0
ErrorsOr views value (Ok out) = (views ≡ []) × (out ≡ value)
ErrorsOr views value (Err error) = (views ≢ []) × (view_of error ≡ extracted (listed views))

abbrev pub IsExtracted : {T : Type 0} → (T → List ErrorView) → (T → List RegionErr) → Result T Error → Result T Error → Type 0
IsExtracted keys regions (Ok value) result = ErrorsOr (views_in (keys value) (regions value)) value result
IsExtracted keys regions (Err error) result = result ≡ Err error
