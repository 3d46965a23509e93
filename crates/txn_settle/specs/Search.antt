-- The look-up of a key's place.
use Rattle.std.specs.Prelude.{◌≡◌, ◌≢◌, ⊤, ◌≤◌, Bool, true, false, List, Result, Ok, Err, refl}
use Rattle.std.proofs.Math.Nat.{le_refl}
use Rattle.txn_history.specs.Event.{Event}
use Rattle.txn_history.specs.Faults.{is_loss}
use Rattle.txn_history.specs.Meaning.{Expects, IsLawful, IsUnbegun, Meaning}
use Rattle.txn_history.specs.Moves.{Moves}
use Rattle.txn_history.specs.Phase.{phase_after, Awaited}
use Rattle.txn_history.specs.Plan.{Key}
use Rattle.txn_history.specs.Posted.{Posted, Within}
use Rattle.txn_history.specs.Spends.{calls, sleeps}
use Rattle.txn_history.specs.Turn.{failing, Turn}
use Rattle.txn_history.specs.Turn.Turn.{Stopped, Waits, Ends}
use Rattle.txn_kv.specs.declared.errors.Error.{Error}
use Rattle.txn_kv.specs.declared.errors.Error.TheVariants.{OutOfMemory}
use Rattle.txn_kv.specs.declared.query.PdAnswer.{PdAnswer}
use Rattle.txn_kv.specs.declared.request.Request.{Request}
use Rattle.txn_plan.specs.LookUp.{looked_up, looked_up-lawful}
use Rattle.txn_region.specs.Clients.{IsPlaceQuery, IsRefused}
use Rattle.txn_search.specs.Search.{search_phase, search_runs, search_waits, something, was_posted, IsOut, SearchAt, SearchAt-longer}
use Rattle.txn_search.specs.declared.search_stage.SearchStage.TheVariants as stage
use Rattle.txn_search.specs.declared.search_stage.SearchStage.{SearchStage}
use Rattle.txn_settle.specs.declared.key_search.KeySearch.{KeySearch}
use Rattle.txn_tso.specs.Calling.{MayAsk}
use Rattle.txn_tso.specs.declared.pd_call.PdCall.{PdCall}

-- Why a place was not found: what came of a query for a region or a store is refused.
pub record IsUnplaced (h : List Event) (why : Error) : Type 0 where
  pub call : PdCall
  pub place : IsPlaceQuery call.query
  pub answer : Result PdAnswer Error
  pub given : looked_up.gives call h answer
  pub refused : IsRefused call.query answer why

-- the place of the key, or why it was not found
abbrev pub GivesPlace : {T : Type 0} → (Key → T → Type 0) → Key → List Event → Result T Error → Type 0
GivesPlace is_of key h (Ok place) = is_of key place
GivesPlace is_of key h (Err why) = IsUnplaced h why

-- a query for a region or a store may ask so
abbrev pub AsksPlace : List Event → Request → Type 0
AsksPlace h r = (call : PdCall) × IsPlaceQuery call.query × MayAsk call h r

-- the answer is one that a new run may better: a request was lost
abbrev pub is_lost : {T : Type 0} → Result T Error → Bool
is_lost (Ok place) = false
is_lost (Err why) = is_loss why

-- P, unless the look-up gave up for want of memory
abbrev pub UnlessStopped : SearchStage → Type 0 → Type 0
UnlessStopped stage.Stopped P = ⊤
UnlessStopped _ P = P

-- It asks the placement driver alone, which is no call of a store.
abbrev pub searching : {T : Type 0} → (Key → T → Type 0) → Meaning (KeySearch T) (Result T Error)
searching is_of = record {
  fits = λ s o h. SearchAt s.stage o h;
  asks = λ s h r. AsksPlace h r;
  gives = λ s h v. GivesPlace is_of s.key h v;
  phase = λ s. search_phase s.stage;
  waits = λ s a. search_waits s.stage a;
  ready = λ s. IsOut IsPlaceQuery s.stage;
  round = λ s n. 0;
  left = λ s n. 0;
  width = λ s. 0;
  bears = λ s w. ⊤;
  fails = is_lost;
}

-- The look-up goes on, after what is known: it asks, or waits, or ends. So far it waited for what `was` says, and only where its
-- query was `lost` its answer is a loss.
pub record SearchesOn {T : Type 0} (is_of : Key → T → Type 0) (known : List Event → Type 0) (was : Awaited → Type 0) (lost : Bool) (old new : KeySearch T) (from to : Posted) (turn : Turn (Result T Error)) : Type 0 where
  pub moves : Moves AsksPlace known (λ h. SearchAt new.stage to h) (λ h v. GivesPlace is_of old.key h v) (λ h. h) from to turn
  pub expects : Expects was (search_waits new.stage) (λ a. ⊥) from to
  pub next : search_phase new.stage ≡ phase_after turn
  pub ready : IsOut IsPlaceQuery new.stage
  pub key : new.key ≡ old.key
  pub fails : failing is_lost turn ≡ true → lost ≡ true
  pub calls : calls to ≤ calls from
  pub sleeps : sleeps to ≤ sleeps from

-- the error is the answer, but for want of memory
abbrev pub IsRefusal : {T : Type 0} → Error → SearchStage → Turn (Result T Error) → Type 0
IsRefusal e g Stopped = g ≡ stage.Stopped
IsRefusal e g Waits = ⊥
IsRefusal e g (Ends v) = (g ≡ stage.Over) × (v ≡ Err e) × (e ≢ OutOfMemory)

-- lemmas

pub IsUnplaced-longer : (h longer : List Event) (why : Error) → Within h longer → IsUnplaced h why → IsUnplaced longer why
IsUnplaced-longer h longer why w r =
    record { call = r.call; place = r.place; answer = r.answer; given = looked_up-lawful.gives_longer r.call h longer r.answer w r.given; refused = r.refused }

pub place_longer : {T : Type 0} (is_of : Key → T → Type 0) (key : Key) (h longer : List Event) (v : Result T Error) → Within h longer → GivesPlace is_of key h v → GivesPlace is_of key longer v
place_longer is_of key h longer (Ok place) w g = g
place_longer is_of key h longer (Err why) w g = IsUnplaced-longer h longer why w g

pub searching-lawful : {T : Type 0} (is_of : Key → T → Type 0) → IsLawful (searching is_of)
searching-lawful is_of = record {
  fits_longer = λ s o p h longer l w f. SearchAt-longer s.stage o p h longer l w f;
  gives_longer = λ s h longer v w g. place_longer is_of s.key h longer v w g;
  bears_more = λ s w more l b. tt;
  runs = λ s a w. search_runs s.stage a w;
  waits = λ s o h f e. something s.stage e;
  posted = λ s o h a f w. was_posted s.stage o h a f w;
}

-- where no query was made yet
pub searching-unbegun : {T : Type 0} (is_of : Key → T → Type 0) (s : KeySearch T) → s.stage ≡ stage.Fresh → IsUnbegun (searching is_of) s
searching-unbegun is_of s e = record {
  phase = rw e refl;
  fits = λ o h. rw e tt;
  whole = λ n. le_refl 0;
  light = λ w. tt;
}
