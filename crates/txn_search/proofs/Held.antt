-- A query that is out is the one that is waited for.
use Rattle.std.proofs.Common.{◌≡◌, true, List, refl, subst}
use Rattle.std.proofs.lemmas.Bool.{false≢true}
use Rattle.txn_history.specs.Arrivals.{tells_failure}
use Rattle.txn_history.specs.Event.{Event}
use Rattle.txn_history.specs.Phase.{Awaited}
use Rattle.txn_history.specs.Phase.Awaited.{EndOf, ReplyTo}
use Rattle.txn_history.specs.Phase.Phase.{Running}
use Rattle.txn_history.specs.Posted.{Posted}
use Rattle.txn_kv.specs.declared.arrival.Arrival.{Arrival}
use Rattle.txn_kv.specs.declared.arrival.Arrival.TheVariants as arrival
use Rattle.txn_kv.specs.declared.query.PdQuery.{PdQuery}
use Rattle.txn_kv.specs.declared.query.PdQuery.TheVariants as query
use Rattle.txn_plan.specs.LookUp.{call_waits}
use Rattle.txn_plan.proofs.LastPosted.{one_awaited}
use Rattle.txn_region.specs.Clients.{IsPlaceQuery}
use Rattle.txn_search.specs.Search.{search_phase, search_waits, tells_loss, Holds, IsOut, SearchAt}
use Rattle.txn_search.specs.declared.search_stage.SearchStage.TheVariants as search
use Rattle.txn_search.specs.declared.search_stage.SearchStage.{SearchStage}
use Rattle.txn_tso.specs.Calling.{CallFits}
use Rattle.txn_tso.specs.Counting.{asks_of}
use Rattle.txn_tso.specs.declared.pd_call.PdCall.{PdCall}

-- a query for a place asks for no timestamp
pub asks_none : (q : PdQuery) → IsPlaceQuery q → asks_of q ≡ 0
asks_none (query.Region key) p = refl
asks_none (query.RegionId id) p = refl
asks_none (query.Store id) p = refl
asks_none query.Stores p = absurd p
asks_none query.Time p = absurd p
asks_none (query.Safepoint t) p = absurd p

pub held_fits : (call : PdCall) (g : SearchStage) (o : Posted) (h : List Event) → Holds call g → SearchAt g o h → CallFits call o h
held_fits call search.Fresh o h i f = absurd i
held_fits call (search.Asking c n) o h i f = subst (λ (d : PdCall). CallFits d o h) i.0 f.0
held_fits call (search.Resting c n) o h i f = subst (λ (d : PdCall). CallFits d o h) i.0 f.0
held_fits call search.Over o h i f = absurd i
held_fits call search.Stopped o h i f = absurd i

pub held_at : (call : PdCall) (g : SearchStage) (o : Posted) (h : List Event) → Holds call g → CallFits call o h → SearchAt g o h
held_at call search.Fresh o h i f = absurd i
held_at call (search.Asking c n) o h i f = (rw i.0 f, rw i.0 i.1)
held_at call (search.Resting c n) o h i f = (rw i.0 f, rw i.0 i.1)
held_at call search.Over o h i f = absurd i
held_at call search.Stopped o h i f = absurd i

pub held_out : (Asks : PdQuery → Type 0) (call : PdCall) (g : SearchStage) → Asks call.query → Holds call g → IsOut Asks g
held_out Asks call search.Fresh e i = absurd i
held_out Asks call (search.Asking c n) e i = (rw i.0 e, rw i.0 i.1)
held_out Asks call (search.Resting c n) e i = (rw i.0 e, rw i.0 i.1)
held_out Asks call search.Over e i = absurd i
held_out Asks call search.Stopped e i = absurd i

pub held_query : (Asks : PdQuery → Type 0) (call : PdCall) (g : SearchStage) → IsOut Asks g → Holds call g → Asks call.query
held_query Asks call search.Fresh e i = absurd i
held_query Asks call (search.Asking c n) e i = subst (λ (d : PdCall). Asks d.query) i.0 e.0
held_query Asks call (search.Resting c n) e i = subst (λ (d : PdCall). Asks d.query) i.0 e.0
held_query Asks call search.Over e i = absurd i
held_query Asks call search.Stopped e i = absurd i

pub held_waits : (call : PdCall) (g : SearchStage) (a : Awaited) → Holds call g → call_waits call.stage a → search_waits g a
held_waits call search.Fresh a i w = absurd i
held_waits call (search.Asking c n) a i w = one_awaited call.stage a (ReplyTo n) w i.1
held_waits call (search.Resting c n) a i w = one_awaited call.stage a (EndOf n) w i.1
held_waits call search.Over a i w = absurd i
held_waits call search.Stopped a i w = absurd i

pub waits_held : (call : PdCall) (g : SearchStage) (a : Awaited) → Holds call g → search_waits g a → call_waits call.stage a
waits_held call search.Fresh a i w = absurd i
waits_held call (search.Asking c n) a i w = rw w i.1
waits_held call (search.Resting c n) a i w = rw w i.1
waits_held call search.Over a i w = absurd i
waits_held call search.Stopped a i w = absurd i

pub held_runs : (call : PdCall) (g : SearchStage) → Holds call g → search_phase g ≡ Running
held_runs call search.Fresh i = absurd i
held_runs call (search.Asking c n) i = refl
held_runs call (search.Resting c n) i = refl
held_runs call search.Over i = absurd i
held_runs call search.Stopped i = absurd i

-- a loss may be bettered by a new run
pub loss_fails : (a : Arrival) → tells_loss a ≡ true → tells_failure a ≡ true
loss_fails (arrival.Reply n x) e = absurd (false≢true e)
loss_fails (arrival.Lost n) e = refl
loss_fails (arrival.Slept n) e = absurd (false≢true e)
loss_fails (arrival.Time n x) e = absurd (false≢true e)
