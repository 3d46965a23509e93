-- The search of a plan's shards takes what came.
use Rattle.std.proofs.Common.{◌≡◌, inl, ℕ, List, refl}
use Rattle.std.specs.Global.{Vec}
use Rattle.std.specs.Prelude.{Result}
use Rattle.txn_history.specs.Arrivals.{arrives, awaited_as, told_by}
use Rattle.txn_history.specs.Meaning.{IsUnbegun, Meaning, Tells}
use Rattle.txn_history.specs.Moves.{Knows}
use Rattle.txn_history.specs.Phase.{unheard}
use Rattle.txn_history.specs.Posted.{HasNumbers, Posted}
use Rattle.txn_history.specs.Turn.{IfKept, IfKept-all, Turn}
use Rattle.txn_history.proofs.Arriving.{Steps-deaf}
use Rattle.txn_history.proofs.Numbering.{Moves-numbers}
use Rattle.txn_history.proofs.Stepping.{Goes-meant}
use Rattle.txn_kv.specs.declared.arrival.Arrival.{Arrival}
use Rattle.txn_kv.specs.declared.errors.Error.{Error}
use Rattle.txn_kv.specs.declared.query.PdAnswer.{PdAnswer}
use Rattle.txn_kv.specs.declared.request.Request.{Request}
use Rattle.txn_multi.specs.Cutting.{cutting-lawful, Looking}
use Rattle.txn_multi.specs.Searching.{LooksOn, SearchSteps}
use Rattle.txn_multi.specs.declared.part.Part.{Part}
use Rattle.txn_multi.proofs.Lookings.{counted_after, heard}
use Rattle.txn_multi.proofs.Retrying.{no_end}
use Rattle.txn_plan.specs.LookUp.{call_waits, looked_up}
use Rattle.txn_plan.specs.Touch.{Touch}
use Rattle.txn_search.specs.Search.{search_phase, search_waits, tells_loss, IsOut, IsTaken, Seeks}
use Rattle.txn_search.specs.declared.search_stage.SearchStage.{SearchStage}
use Rattle.txn_search.proofs.Held.{loss_fails}
use Rattle.txn_tso.specs.Calling.{CallFits}
use Rattle.txn_tso.specs.Counting.{CallSpends}
use Rattle.txn_tso.specs.declared.pd_call.PdCall.{PdCall}
use Rattle.txn_region.specs.Clients.{IsPlaceQuery}

module _ {S A H L C : Type 0} (m : Meaning S A) (is_part : S → S → Type 0) (load : S → L) (are_cut : L → List L → Type 0) (most : S → ℕ → ℕ) (t : Touch C) where
  search_idle : (a : Arrival) {c : Looking S H} {o : Posted} {pd : C} {turn : Turn (Result (Vec (Part S)) Error)}
      → t.looked pd pd
      → (search_waits c.stage (awaited_as a) → ⊥)
      → turn ≡ unheard (search_phase c.stage)
      → IsUnbegun m c.plan → HasNumbers o
      → SearchSteps m is_part load are_cut most t (arrives a o) c c o o pd pd turn
  search_idle a {c = c} {turn = turn} same other e unbegun numbers = record {
    steps = Steps-deaf a (cutting-lawful m is_part load are_cut most) other e (λ r. IfKept-all turn (inl same)) unbegun numbers;
    parts = rw e (no_end (search_phase c.stage) _);
    wide = rw e (no_end (search_phase c.stage) _);
    plan = refl;
  }

  -- it is not for the search
  pub search_deaf : (a : Arrival) {old : Looking S H} {g : SearchStage} {o : Posted} {pd : C} {turn : Turn (Result (Vec (Part S)) Error)}
      → t.looked pd pd
      → (g ≡ old.stage) × (search_waits old.stage (awaited_as a) → ⊥)
      → turn ≡ unheard (search_phase g)
      → IsUnbegun m old.plan → HasNumbers o
      → SearchSteps m is_part load are_cut most t (arrives a o) old (record old { stage = g }) o o pd pd turn
  search_deaf a same stays e unbegun numbers = rw stays.0 (search_idle a same stays.1 (rw stays.0 at e) unbegun numbers)

  -- the look-up that is out takes it
  pub search_heard : (a : Arrival) {old new : Looking S H} {g : SearchStage} {call call' : PdCall} {from via to : Posted} {pd pd' : C} {p : Turn (Result PdAnswer Error)} {turn : Turn (Result (Vec (Part S)) Error)}
      → IsOut IsPlaceQuery old.stage → IsTaken (awaited_as a) old.stage g call
      → ((r : Request) → Tells looked_up (told_by a from r) call call' from via p)
      → CallSpends call call' (tells_loss a) from via p
      → HasNumbers via
      → IsUnbegun m old.plan
      → LooksOn m is_part load are_cut most (Knows p (λ h. CallFits call' via h) (λ h v. looked_up.gives call' h v)) (call_waits call'.stage) (record old { stage = g }) new via to turn
      → IfKept turn (Seeks t pd pd')
      → SearchSteps m is_part load are_cut most t (arrives a from) old new from to pd pd' turn
  unfolding arrives
  search_heard a {call' = call'} {p = p} out taken told spent numbers unbegun on client = record {
    steps = record {
      tells = λ r. heard m is_part load are_cut most out taken (told r) on;
      goes = Goes-meant taken.waits on.next;
      counts = counted_after m is_part load are_cut most call' p (loss_fails a) out taken spent on;
      client = λ r. client;
      ready = rw on.plan unbegun;
      numbers = Moves-numbers on.moves numbers;
    };
    parts = on.parts;
    wide = on.wide;
    plan = on.plan;
  }
