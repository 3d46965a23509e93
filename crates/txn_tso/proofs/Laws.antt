-- What a state that holds a call needs to know of it, beside its contracts.
use Rattle.std.proofs.Common.{◌≡◌, ◌⊎◌, List, Some, refl, sym, subst, arith}
use Rattle.std.specs.Prelude.{Result, Ok, Err}
use Rattle.txn_kv.specs.declared.errors.Error.{Error}
use Rattle.txn_kv.specs.declared.query.PdAnswer.{PdAnswer}
use Rattle.txn_kv.specs.declared.query.PdQuery.{PdQuery}
use Rattle.txn_kv.specs.declared.request.Request.{Request}
use Rattle.txn_history.specs.Event.{Event}
use Rattle.txn_history.specs.Moves.{SameJob}
use Rattle.txn_history.specs.Posted.{Posted}
use Rattle.txn_history.specs.Spends.{IsFresh}
use Rattle.txn_tso.specs.Calling.{members, CallFits, Gives, IsRefused, IsTold, MayAsk}
use Rattle.txn_tso.specs.Counting.{call_bears, call_left, call_round}
use Rattle.txn_tso.specs.Placement.{fresh, request_of}
use Rattle.txn_tso.specs.declared.pd_call.PdCall.{PdCall}

-- a call that is not started can have arisen from any history
pub fresh_fits : (q : PdQuery) (o : Posted) (h : List Event) → CallFits (fresh q) o h
fresh_fits q o h = record { few = omega arith; at = refl }

-- and has all its asks left
pub fresh_counts : (q : PdQuery) → IsFresh call_round call_left call_bears (fresh q)
fresh_counts q = record { whole = λ n. omega arith; light = λ w. tt }

asked_by : (q p : PdQuery) (r : Request) → q ≡ p → (request_of q ≡ Some r) ⊎ (r ≡ members) → (request_of p ≡ Some r) ⊎ (r ≡ members)
asked_by q p r e x = subst (λ (y : PdQuery). (request_of y ≡ Some r) ⊎ (r ≡ members)) e x

given_by : (s t : PdCall) (o : Posted) (h : List Event) (v : Result PdAnswer Error) → s.query ≡ t.query → Gives s o h v → Gives t o h v
given_by s t o h (Ok a) e g = subst (λ (y : PdQuery). IsTold y o h a) e g
given_by s t o h (Err why) e g = subst (λ (y : PdQuery). IsRefused y o h why) e g

-- what a call may ask and what its answer means hang on its query alone
pub same_job : (o : Posted) (new old : PdCall) → new.query ≡ old.query → SameJob MayAsk (λ s. Gives s o) new old
same_job o new old e = record {
  asked = λ h r x. asked_by new.query old.query r e x;
  given = λ h v g. given_by new old o h v e g;
  gave = λ h v g. given_by old new o h v (sym e) g;
}
