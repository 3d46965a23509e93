-- Errors in results, and in lists of which one is asked after the other.
use Rattle.std.specs.Prelude.{◌≡◌, List, [], ◌∷◌, Result, Ok, Err, Option, None}
use Rattle.std.proofs.Common.{ap, refl}
use Rattle.txn_kv.specs.ErrorView.{ErrorView, view_of}
use Rattle.txn_kv.specs.declared.errors.Error.{Error}
use Rattle.txn_kv.specs.declared.errors.Error.TheVariants.{Unimplemented}
use Rattle.txn_kv.specs.declared.message.RegionErr.{RegionErr}

-- An Err is its own error.
abbrev pub seen_in : {T : Type 0} → (T → List ErrorView) → Result T Error → List ErrorView
seen_in errors_in (Ok value) = errors_in value
seen_in errors_in (Err error) = view_of error ∷ []

-- `Unimplemented` stays in the place of an error that was taken.
abbrev pub LeftIn : {T : Type 0} → (T → T → Type 0) → Result T Error → Result T Error → Type 0
LeftIn Left (Ok old) (Ok new) = Left old new
LeftIn Left (Ok old) (Err error) = ⊥
LeftIn Left (Err old) (Ok new) = ⊥
LeftIn Left (Err old) (Err new) = new ≡ Unimplemented

pub none_in : {T : Type 0} (errors_in : T → List ErrorView) (Left : T → T → Type 0) → ((old new : T) → Left old new → errors_in old ≡ [] → new ≡ old) → (old new : Result T Error) → LeftIn Left old new → seen_in errors_in old ≡ [] → new ≡ old
none_in errors_in Left law (Ok old) (Ok new) left none = ap Ok (law old new left none)
none_in errors_in Left law (Ok old) (Err error) left none = absurd left
none_in errors_in Left law (Err old) new left none = cc

abbrev pub or_else : List ErrorView → List ErrorView → List ErrorView
or_else [] others = others
or_else (error ∷ errors) others = error ∷ errors

-- the errors of the first item that has some
abbrev pub first_seen : {T : Type 0} → (T → List ErrorView) → List T → List ErrorView
first_seen errors_in [] = []
first_seen errors_in (item ∷ items) = or_else (errors_in item) (first_seen errors_in items)

-- An Err has no error of a region.
abbrev pub region_in : {T : Type 0} → (T → Option RegionErr) → Result T Error → Option RegionErr
region_in error_in (Ok value) = error_in value
region_in error_in (Err error) = None

abbrev pub without_region_in : {T : Type 0} → (T → T) → Result T Error → Result T Error
without_region_in without (Ok value) = Ok (without value)
without_region_in without (Err error) = Err error

pub no_region_in : {T : Type 0} (error_in : T → Option RegionErr) (without : T → T) → ((value : T) → error_in value ≡ None → without value ≡ value) → (value : Result T Error) → region_in error_in value ≡ None → without_region_in without value ≡ value
no_region_in error_in without law (Ok value) none = ap Ok (law value none)
no_region_in error_in without law (Err error) none = refl
