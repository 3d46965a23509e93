-- A call of a plan whose errors are taken out is one of the plan.
use Rattle.std.proofs.Common.{false, ap}
use Rattle.std.proofs.lemmas.Bool.{false≢true}
use Rattle.std.specs.Prelude.{⊤, List, Result}
use Rattle.txn_kv.specs.ErrorView.{ErrorView}
use Rattle.txn_kv.specs.declared.errors.Error.{Error}
use Rattle.txn_kv.specs.declared.message.RegionErr.{RegionErr}
use Rattle.txn_history.specs.Around.{IsRead}
use Rattle.txn_history.specs.Meaning.{Meaning, Told}
use Rattle.txn_history.specs.Posted.{Posted}
use Rattle.txn_history.specs.Turn.{Turn}
use Rattle.txn_history.specs.Steps.{News, Steps}
use Rattle.txn_history.proofs.Stepping.{Steps-around}
use Rattle.txn_plan.specs.Extracted.{extracted, IsAnswer}
use Rattle.txn_plan.specs.declared.extract_error.ExtractError.{ExtractError}

pub steps : {S A C : Type 0} (m : Meaning S (Result A Error)) (keys : A → List ErrorView) (regions : A → List RegionErr)
    {touches : Told → Posted → S → S → C → C → Type 0} {news : News} {old : ExtractError S A} {new : S} {from to : Posted} {pd pd' : C} {turn : Turn (Result A Error)} {turn' : Turn (Result A Error)}
    → IsRead (IsAnswer keys regions) turn turn'
    → Steps m touches news old.inner new from to pd pd' turn
    → Steps (extracted m keys regions) (λ told o s t x y. touches told o s.inner t.inner x y) news old (record old { inner = new }) from to pd pd' turn'
steps {S} m keys regions {touches = touches} {old = old} i s = Steps-around m (λ s. s.inner) (λ s. IsAnswer keys regions) (λ s. ⊤) (λ b. false) touches (record {
  given = λ a b r. r;
  gave = λ a b r. r;
  same = ap (λ (s : S). record old { inner = s });
  passes = λ a b r e. absurd (false≢true e);
  called = tt;
}) i s
