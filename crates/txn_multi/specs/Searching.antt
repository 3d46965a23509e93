-- What the search of a plan's shards does in each of its steps.
use Rattle.std.specs.Prelude.{◌≡◌, ◌⊎◌, ℕ, ◌≤◌, List, Result}
use Rattle.std.specs.Global.{Vec}
use Rattle.txn_history.specs.Event.{Event}
use Rattle.txn_history.specs.Meaning.{Expects, Meaning}
use Rattle.txn_history.specs.Moves.{Moves}
use Rattle.txn_history.specs.Phase.{phase_after, Awaited}
use Rattle.txn_history.specs.Posted.{Posted}
use Rattle.txn_history.specs.Spends.{calls, sleeps}
use Rattle.txn_history.specs.Steps.{News, Steps}
use Rattle.txn_history.specs.Turn.{IfEnds, IfKept, Turn}
use Rattle.txn_kv.specs.declared.errors.Error.{Error}
use Rattle.txn_multi.specs.Cutting.{cutting, AreWithin, GivesParts, IfParts, IsPlacement, Looking}
use Rattle.txn_multi.specs.declared.part.Part.{Part}
use Rattle.txn_plan.specs.Touch.{Touch}
use Rattle.txn_search.specs.Search.{search_phase, search_waits, SearchAt, Seeks}

-- The search goes on, after what is known: it asks further, or ends. So far it waited for what `was` says.
pub record LooksOn {S A H L : Type 0} (m : Meaning S A) (is_part : S → S → Type 0) (load : S → L) (are_cut : L → List L → Type 0) (most : S → ℕ → ℕ)
    (known : List Event → Type 0) (was : Awaited → Type 0) (old new : Looking S H) (from to : Posted) (turn : Turn (Result (Vec (Part S)) Error)) : Type 0 where
  pub moves : Moves IsPlacement known (λ h. SearchAt new.stage to h) (λ h. GivesParts m is_part load are_cut most old.plan h) (λ h. h) from to turn
  pub expects : Expects was (search_waits new.stage) (λ a. ⊥) from to
  pub next : search_phase new.stage ≡ phase_after turn
  pub wider : old.width ≤ new.width
  pub parts : IfEnds turn (IfParts m is_part load are_cut most old.plan)
  pub wide : IfEnds turn (AreWithin new.width)
  pub plan : new.plan ≡ old.plan
  pub calls : calls to ≤ calls from
  pub sleeps : sleeps to ≤ sleeps from

-- What an event of the search does.
pub record SearchSteps {S A H L C : Type 0} (m : Meaning S A) (is_part : S → S → Type 0) (load : S → L) (are_cut : L → List L → Type 0) (most : S → ℕ → ℕ) (t : Touch C) (news : News)
    (old new : Looking S H) (from to : Posted) (pd pd' : C) (turn : Turn (Result (Vec (Part S)) Error)) : Type 0 where
  pub steps : Steps (cutting m is_part load are_cut most) (λ told o c c' x y. IfKept turn (Seeks t x y)) news old new from to pd pd' turn
  pub parts : IfEnds turn (IfParts m is_part load are_cut most old.plan)
  pub wide : IfEnds turn (AreWithin new.width)
  pub plan : new.plan ≡ old.plan
