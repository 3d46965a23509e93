-- A plan that is sent to a store.
use Rattle.std.specs.Prelude.{◌≡◌, ℕ, ◌≤◌, List, Some, refl}
use Rattle.std.proofs.Common.{subst}
use Rattle.std.proofs.Math.Nat.{le_refl}
use Rattle.txn_history.specs.Meaning.{IsUnbegun, Meaning}
use Rattle.txn_history.specs.Event.{Event}
use Rattle.txn_history.specs.Phase.{IsRunning}
use Rattle.txn_history.specs.Phase.Phase.{Fresh}
use Rattle.txn_history.specs.Posted.{Posted}
use Rattle.txn_kv.specs.declared.reply.Reply.{Reply}
use Rattle.txn_kv.specs.declared.request.Request.{Request}
use Rattle.txn_plan.specs.Dispatch.{dispatch, stage_phase, IsAt}
use Rattle.txn_plan.specs.declared.dispatch.Dispatch.{Dispatch}
use Rattle.txn_plan.specs.declared.stage.Stage.{Stage}
use Rattle.txn_plan.specs.declared.stage.Stage.TheVariants as stage

-- it has not begun, may be started, and costs no more than the plan that is sent
pub record IsAimed {S A : Type 0} (m : Meaning S A) (plan aimed : S) : Type 0 where
  pub unbegun : IsUnbegun m aimed
  pub ready : m.ready aimed
  pub less : (n : ℕ) → m.round aimed n ≤ m.round plan n

-- a dispatch that has not begun has sent nothing, whatever its request
nothing_sent : (r : Request) (g : Stage) (o : Posted) (h : List Event) → stage_phase g ≡ Fresh → IsAt r g o h
nothing_sent r stage.Fresh o h e = tt
nothing_sent r (stage.Sent n) o h e = absurd (subst IsRunning e tt)
nothing_sent r stage.Over o h e = tt
nothing_sent r stage.Stopped o h e = tt

pub dispatch-aimed : {R V : Type 0} (request_of : R → Request) (reply_of : V → Reply) (plan : Dispatch R V) (request : R) (store : ℕ)
    → IsUnbegun (dispatch request_of reply_of) plan
    → IsAimed (dispatch request_of reply_of) plan (record plan { request = request; store = Some store })
dispatch-aimed request_of reply_of plan request store u = record {
  unbegun = record { phase = u.phase; fits = λ o h. nothing_sent (request_of request) plan.stage o h u.phase; whole = u.whole; light = u.light };
  ready = refl;
  less = λ n. le_refl 1;
}
