-- Errors that were found are those that are extracted.
use Rattle.std.proofs.Common.{◌≡◌, ◌≢◌, List, [], ◌∷◌, Option, Some, map, refl, sym, ap, subst, ◌∙◌}
use Rattle.std.specs.Global.{Vec}
use Rattle.txn_kv.specs.ErrorView.{ErrorView, extracted, listed, region, view_of}
use Rattle.txn_kv.specs.declared.errors.Error.{Error}
use Rattle.txn_kv.specs.declared.errors.Error.TheVariants.{ExtractedErrors}
use Rattle.txn_kv.specs.declared.message.RegionErr.{RegionErr}
use Rattle.txn_merge.specs.Firsts.{or_else}
use Rattle.txn_merge.specs.Found.{AreFound, AreSeen}
use Rattle.txn_merge.specs.Views.{view-ExtractedErrors}

pub extracted_as : (views found : List ErrorView) (errors : Vec Error) → found ≢ [] → map view_of errors.items ≡ found → views ≡ found → (views ≢ []) × (view_of (ExtractedErrors errors) ≡ extracted (listed views))
extracted_as views found errors some seen same = (λ none. some (sym same ∙ none), view-ExtractedErrors errors ∙ ap (λ v. extracted (listed v)) (seen ∙ sym same))

or_else_some : (errors others : List ErrorView) → errors ≢ [] → or_else errors others ≡ errors
or_else_some [] others some = absurd (some refl)
or_else_some (error ∷ errors) others some = refl

pub keys_extracted : (keys others : List ErrorView) (found : Option (Vec Error)) (errors : Vec Error) → found ≡ Some errors → AreSeen keys found → (or_else keys others ≢ []) × (view_of (ExtractedErrors errors) ≡ extracted (listed (or_else keys others)))
keys_extracted keys others found errors is seen =
    let at : AreSeen keys (Some errors) = subst (AreSeen keys) is seen in
    extracted_as (or_else keys others) keys errors at.0 at.1 (or_else_some keys others at.0)

no_regions : (errors : List RegionErr) → map region errors ≡ [] → errors ≡ []
no_regions [] none = refl
no_regions (error ∷ errors) none = cc

pub regions_extracted : (regions : List RegionErr) (found : Option (Vec RegionErr)) (held : Vec RegionErr) (errors : Vec Error) → found ≡ Some held → AreFound regions found → map view_of errors.items ≡ map region held.items → (map region regions ≢ []) × (view_of (ExtractedErrors errors) ≡ extracted (listed (map region regions)))
regions_extracted regions found held errors is seen made =
    let at : AreFound regions (Some held) = subst (AreFound regions) is seen in
    extracted_as (map region regions) (map region regions) errors (λ none. at.0 (no_regions regions none)) (made ∙ ap (map region) at.1) refl
