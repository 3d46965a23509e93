-- The errors at keys that a reply holds, as the client's errors are seen.
use Rattle.std.specs.Prelude.{◌≡◌, List, [], ◌∷◌, Option, Some, None, map, ℕ}
use Rattle.std.specs.List.{flat_map}
use Rattle.std.proofs.Common.{ap, refl, ◌∙◌}
use Rattle.txn_merge.specs.Locks.{both_empty}
use Rattle.txn_kv.specs.ErrorView.{ErrorView, key, kv}
use Rattle.txn_kv.specs.declared.message.KeyError.{KeyError}
use Rattle.txn_kv.specs.declared.message.PbPair.{PbPair}

abbrev pub views_of_error : Option KeyError → List ErrorView
views_of_error None = []
views_of_error (Some error) = key error ∷ []

abbrev pub views_of_pairs : List PbPair → List ErrorView
views_of_pairs = flat_map (λ pair. views_of_error pair.error)

-- the text of an error, where it is not empty
abbrev pub views_of_text : List ℕ → List ErrorView
views_of_text [] = []
views_of_text (byte ∷ bytes) = kv (byte ∷ bytes) ∷ []

abbrev pub without_pair_error : PbPair → PbPair
without_pair_error pair = record pair { error = None }

-- Where there is no error, all is left.

pub no_error : (error : Option KeyError) → views_of_error error ≡ [] → None ≡ error
no_error None none = refl
no_error (Some error) none = cc

pub no_errors : (errors : List KeyError) → map key errors ≡ [] → [] ≡ errors
no_errors [] none = refl
no_errors (error ∷ errors) none = cc

pub no_text : (text : List ℕ) → views_of_text text ≡ [] → [] ≡ text
no_text [] none = refl
no_text (byte ∷ bytes) none = cc

pub no_pair_errors : (pairs : List PbPair) → views_of_pairs pairs ≡ [] → map without_pair_error pairs ≡ pairs
no_pair_errors [] none = refl
no_pair_errors (pair ∷ pairs) none =
    let both = both_empty (views_of_error pair.error) (views_of_pairs pairs) none in
    ap (λ error. record pair { error = error } ∷ map without_pair_error pairs) (no_error pair.error both.0)
    ∙ ap (λ rest. pair ∷ rest) (no_pair_errors pairs both.1)
