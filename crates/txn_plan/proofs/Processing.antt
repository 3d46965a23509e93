-- A call of a plan whose answer is made into another is one of the plan.
use Rattle.std.proofs.Common.{false, ap}
use Rattle.std.proofs.lemmas.Bool.{false≢true}
use Rattle.std.specs.Prelude.{⊤, Result}
use Rattle.txn_kv.specs.declared.errors.Error.{Error}
use Rattle.txn_history.specs.Around.{IsRead}
use Rattle.txn_history.specs.Meaning.{Meaning, Told}
use Rattle.txn_history.specs.Posted.{Posted}
use Rattle.txn_history.specs.Turn.{Turn}
use Rattle.txn_history.specs.Steps.{News, Steps}
use Rattle.txn_history.proofs.Stepping.{Steps-around}
use Rattle.txn_plan.specs.Process.{processed}
use Rattle.txn_plan.specs.declared.process_response.ProcessResponse.{ProcessResponse}

pub steps : {S A B T C : Type 0} (m : Meaning S (Result A Error)) (processes : T → Result A Error → Result B Error → Type 0)
    {touches : Told → Posted → S → S → C → C → Type 0} {news : News} {old : ProcessResponse S T A B} {new : S} {from to : Posted} {pd pd' : C} {turn : Turn (Result A Error)} {turn' : Turn (Result B Error)}
    → IsRead (processes old.processor) turn turn'
    → Steps m touches news old.inner new from to pd pd' turn
    → Steps (processed m processes) (λ told o s t x y. touches told o s.inner t.inner x y) news old (record old { inner = new }) from to pd pd' turn'
steps {S} m processes {touches = touches} {old = old} i s = Steps-around m (λ s. s.inner) (λ s. processes s.processor) (λ s. ⊤) (λ b. false) touches (record {
  given = λ a b r. r;
  gave = λ a b r. r;
  same = ap (λ (s : S). record old { inner = s });
  passes = λ a b r e. absurd (false≢true e);
  called = tt;
}) i s
