-- The errors of regions that replies hold.
use Rattle.std.specs.Prelude.{◌≡◌, List, [], ◌∷◌, Option, Some, None}
use Rattle.std.proofs.Common.{refl}
use Rattle.txn_kv.specs.declared.message.RegionErr.{RegionErr}

abbrev pub listed : Option RegionErr → List RegionErr
listed None = []
listed (Some error) = error ∷ []

pub no_listed : (error : Option RegionErr) → listed error ≡ [] → error ≡ None
no_listed None none = refl
no_listed (Some error) none = cc
