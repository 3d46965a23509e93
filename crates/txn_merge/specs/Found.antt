-- What a call that looks for errors finds: none, or some of them in a vector that is not empty.
use Rattle.std.specs.Prelude.{◌≡◌, ◌≢◌, List, [], Option, Some, None, map}
use Rattle.std.specs.Global.{Vec}
use Rattle.txn_kv.specs.declared.errors.Error.{Error}
use Rattle.txn_kv.specs.ErrorView.{ErrorView, view_of}

abbrev pub AreFound : {A : Type 0} → List A → Option (Vec A) → Type 0
AreFound wanted None = wanted ≡ []
AreFound wanted (Some found) = (wanted ≢ []) × (found.items ≡ wanted)

abbrev pub AreSeen : List ErrorView → Option (Vec Error) → Type 0
AreSeen wanted None = wanted ≡ []
AreSeen wanted (Some found) = (wanted ≢ []) × (map view_of found.items ≡ wanted)
