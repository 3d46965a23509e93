-- Where a search stands that asks the placement driver one query after the other.
use Rattle.std.specs.Prelude.{◌≡◌, ◌⊎◌, ⊤, ℕ, Bool, false, true, List, Result, refl}
use Rattle.std.proofs.Common.{subst, sym}
use Rattle.txn_history.specs.Event.{Event}
use Rattle.txn_history.specs.Later.{IsLater}
use Rattle.txn_history.specs.Meaning.{WasPosted}
use Rattle.txn_history.specs.Phase.{Awaited, IsRunning, Phase}
use Rattle.txn_history.specs.Phase.Awaited.{EndOf, ReplyTo, TimeOf}
use Rattle.txn_history.specs.Phase.Phase.{Fresh, GivenUp, Over, Running}
use Rattle.txn_history.specs.Posted.{Posted, Within}
use Rattle.txn_kv.specs.declared.arrival.Arrival.{Arrival}
use Rattle.txn_kv.specs.declared.arrival.Arrival.TheVariants as arrival
use Rattle.txn_kv.specs.declared.errors.Error.{Error}
use Rattle.txn_kv.specs.declared.query.PdAnswer.{PdAnswer}
use Rattle.txn_kv.specs.declared.query.PdQuery.{PdQuery}
use Rattle.txn_plan.specs.LookUp.{call_waits, looked_up-lawful}
use Rattle.txn_plan.specs.Touch.{Touch}
use Rattle.txn_search.specs.declared.search_stage.SearchStage.TheVariants as stage
use Rattle.txn_search.specs.declared.search_stage.SearchStage.{SearchStage}
use Rattle.txn_tso.specs.Calling.{CallFits}
use Rattle.txn_tso.specs.declared.pd_call.PdCall.{PdCall}

-- the query that is out can have arisen from the history, and waits under this number
abbrev pub SearchAt : SearchStage → Posted → List Event → Type 0
SearchAt stage.Fresh o h = ⊤
SearchAt (stage.Asking call n) o h = CallFits call o h × call_waits call.stage (ReplyTo n)
SearchAt (stage.Resting call n) o h = CallFits call o h × call_waits call.stage (EndOf n)
SearchAt stage.Over o h = ⊤
SearchAt stage.Stopped o h = ⊤

abbrev pub search_phase : SearchStage → Phase
search_phase stage.Fresh = Fresh
search_phase (stage.Asking call n) = Running
search_phase (stage.Resting call n) = Running
search_phase stage.Over = Over
search_phase stage.Stopped = GivenUp

-- it waits for a reply or for the end of a sleep, and never for a timestamp
abbrev pub search_waits : SearchStage → Awaited → Type 0
search_waits stage.Fresh a = ⊥
search_waits (stage.Asking call n) a = a ≡ ReplyTo n
search_waits (stage.Resting call n) a = a ≡ EndOf n
search_waits stage.Over a = ⊥
search_waits stage.Stopped a = ⊥

-- the query that is out is such a one, and waits under this number
abbrev pub IsOut : (PdQuery → Type 0) → SearchStage → Type 0
IsOut Asks stage.Fresh = ⊤
IsOut Asks (stage.Asking call n) = Asks call.query × call_waits call.stage (ReplyTo n)
IsOut Asks (stage.Resting call n) = Asks call.query × call_waits call.stage (EndOf n)
IsOut Asks stage.Over = ⊤
IsOut Asks stage.Stopped = ⊤

-- this query is out
abbrev pub Holds : PdCall → SearchStage → Type 0
Holds call stage.Fresh = ⊥
Holds call (stage.Asking c n) = (c ≡ call) × call_waits call.stage (ReplyTo n)
Holds call (stage.Resting c n) = (c ≡ call) × call_waits call.stage (EndOf n)
Holds call stage.Over = ⊥
Holds call stage.Stopped = ⊥

-- the query that waited for this was taken out
pub record IsTaken (a : Awaited) (old new : SearchStage) (call : PdCall) : Type 0 where
  pub held : Holds call old
  pub waits : search_waits old a
  pub same : new ≡ stage.Stopped

-- a request was lost
abbrev pub tells_loss : Arrival → Bool
tells_loss (arrival.Reply n x) = false
tells_loss (arrival.Lost n) = true
tells_loss (arrival.Slept n) = false
tells_loss (arrival.Time n x) = false

-- what came of one query was learnt, between look-ups
pub record HasLearnt {C : Type 0} (t : Touch C) (old new : C) : Type 0 where
  pub query : PdQuery
  pub answer : Result PdAnswer Error
  pub before : C
  pub behind : C
  pub looked : t.looked old before
  pub learnt : t.learns query answer before behind
  pub further : t.looked behind new

-- The client was looked at alone, and was told at most what came of one query.
abbrev pub Seeks : {C : Type 0} → Touch C → C → C → Type 0
Seeks t old new = t.looked old new ⊎ HasLearnt t old new

-- lemmas

pub SearchAt-longer : (g : SearchStage) (o p : Posted) (h longer : List Event) → IsLater o p → Within h longer → SearchAt g o h → SearchAt g p longer
SearchAt-longer stage.Fresh o p h longer l w f = tt
SearchAt-longer (stage.Asking call n) o p h longer l w f = (looked_up-lawful.fits_longer call o p h longer l w f.0, f.1)
SearchAt-longer (stage.Resting call n) o p h longer l w f = (looked_up-lawful.fits_longer call o p h longer l w f.0, f.1)
SearchAt-longer stage.Over o p h longer l w f = tt
SearchAt-longer stage.Stopped o p h longer l w f = tt

pub search_runs : (g : SearchStage) (a : Awaited) → search_waits g a → search_phase g ≡ Running
search_runs stage.Fresh a w = absurd w
search_runs (stage.Asking call n) a w = refl
search_runs (stage.Resting call n) a w = refl
search_runs stage.Over a w = absurd w
search_runs stage.Stopped a w = absurd w

pub something : (g : SearchStage) → search_phase g ≡ Running → (a : Awaited) × search_waits g a
something stage.Fresh e = absurd (subst IsRunning (sym e) tt)
something (stage.Asking call n) e = (ReplyTo n, refl)
something (stage.Resting call n) e = (EndOf n, refl)
something stage.Over e = absurd (subst IsRunning (sym e) tt)
something stage.Stopped e = absurd (subst IsRunning (sym e) tt)

pub was_posted : (g : SearchStage) (o : Posted) (h : List Event) (a : Awaited) → SearchAt g o h → search_waits g a → WasPosted o h a
was_posted stage.Fresh o h a f w = absurd w
was_posted (stage.Asking call n) o h a f w = rw w (looked_up-lawful.posted call o h (ReplyTo n) f.0 f.1)
was_posted (stage.Resting call n) o h a f w = rw w (looked_up-lawful.posted call o h (EndOf n) f.0 f.1)
was_posted stage.Over o h a f w = absurd w
was_posted stage.Stopped o h a f w = absurd w

-- it waits for no timestamp
pub never_timed : (g : SearchStage) (ask : ℕ) → search_waits g (TimeOf ask) → ⊥
never_timed stage.Fresh ask w = w
never_timed (stage.Asking call n) ask w = cc
never_timed (stage.Resting call n) ask w = cc
never_timed stage.Over ask w = w
never_timed stage.Stopped ask w = w

pub out_some : (Asks : PdQuery → Type 0) (g : SearchStage) → IsOut Asks g → IsOut (λ q. ⊤) g
out_some Asks stage.Fresh i = tt
out_some Asks (stage.Asking call n) i = (tt, i.1)
out_some Asks (stage.Resting call n) i = (tt, i.1)
out_some Asks stage.Over i = tt
out_some Asks stage.Stopped i = tt
