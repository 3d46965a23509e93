-- What the calls of a plan over many regions, and of its tasks, make of the client.
use Rattle.std.proofs.Common.{◌≡◌, ◌≢◌, ◌⊎◌, inl, inr, ℕ, Bool, false, List, [], ◌∷◌, refl, sym}
use Rattle.std.proofs.lemmas.Bool.{false≢true}
use Rattle.std.specs.Global.{Vec}
use Rattle.std.specs.Prelude.{OnOk, Option, Some, None, Result, Ok, Err}
use Rattle.txn_history.specs.Faults.{is_loss}
use Rattle.txn_history.specs.Meaning.{Meaning, Tells, Told}
use Rattle.txn_history.specs.Phase.{phase_after, Phase}
use Rattle.txn_history.specs.Phase.Phase.{Fresh, GivenUp, Over, Running}
use Rattle.txn_history.specs.Posted.{Posted}
use Rattle.txn_history.specs.Turn.{IfKept, Turn}
use Rattle.txn_history.specs.Turn.Turn.{Ends, Stopped, Waits}
use Rattle.txn_kv.specs.ErrorView.{ErrorView}
use Rattle.txn_kv.specs.declared.backoff.Backoff.{Backoff}
use Rattle.txn_kv.specs.declared.errors.Error.{Error}
use Rattle.txn_kv.specs.declared.errors.Error.TheVariants.{GrpcAPI}
use Rattle.txn_kv.specs.declared.memory.NoMemory.{NoMemory}
use Rattle.txn_kv.specs.declared.message.RegionErr.{RegionErr}
use Rattle.txn_kv.specs.declared.region.RegionVerId.{RegionVerId}
use Rattle.txn_kv.specs.declared.ticket.Ticket.{Ticket}
use Rattle.txn_multi.specs.Cutting.{Looking}
use Rattle.txn_multi.specs.Multi.{AfterCut, AfterTasks}
use Rattle.txn_search.specs.Search.{Seeks}
use Rattle.txn_multi.specs.Task.{stage_phase, stage_runs}
use Rattle.txn_multi.specs.Touching.{change_after, change_replied, IsHeeded, PlanTouches, StageTouches, TaskTouches, TasksTouch, UnlessGone, UnlessStopped}
use Rattle.txn_multi.specs.Touching.TaskTouches.{acts}
use Rattle.txn_multi.specs.declared.multi_region.RetryableMultiRegion.{RetryableMultiRegion}
use Rattle.txn_multi.specs.declared.multi_stage.MultiStage.{MultiStage}
use Rattle.txn_multi.specs.declared.multi_stage.MultiStage.TheVariants as multi_stage
use Rattle.txn_multi.specs.declared.stage.Stage.{Stage}
use Rattle.txn_multi.specs.declared.stage.Stage.TheVariants as stage
use Rattle.txn_multi.specs.declared.task.RegionTask.{RegionTask}
use Rattle.txn_plan.specs.Touch.{Touch}
use Rattle.txn_retry.specs.Remedy.{delay_ms}
use Rattle.txn_retry.specs.declared.remedy.CacheChange.TheVariants.{Keep}
use Rattle.txn_tasks.specs.Step.{step_turn}
use Rattle.txn_tasks.specs.Tasks.{Outcome}
use Rattle.txn_tasks.specs.Turns.Turns.{unheard}
use Rattle.txn_tasks.specs.declared.step.Step.{Step}
use Rattle.txn_tasks.specs.declared.tasks.Tasks.{Tasks}

-- Look-ups.

pub seeks_after : {C : Type 0} (t : Touch C) → ((a b c : C) → t.looked a b → t.looked b c → t.looked a c) → {old mid new : C} → t.looked old mid → Seeks t mid new → Seeks t old new
seeks_after t on l (inl s) = inl (on _ _ _ l s)
seeks_after t on l (inr s) = inr (record { query = s.query; answer = s.answer; before = s.before; behind = s.behind; looked = on _ _ _ l s.looked; learnt = s.learnt; further = s.further })

-- One task.

pub kept_keys : (keys : List ErrorView) (error : Option RegionErr) (delay : Option ℕ) (used : RegionVerId) → keys ≢ [] → change_replied keys error delay used ≡ Keep
kept_keys [] error delay used n = absurd (n refl)
kept_keys (one ∷ keys) error delay used n = refl

never_fresh : {A : Type 0} (turn : Turn A) → Fresh ≡ phase_after turn → ⊥
never_fresh Stopped e = cc
never_fresh Waits e = cc
never_fresh (Ends v) e = cc

kept : {T A P : Type 0} (p : Phase) (r : Result (Option (Step T A)) NoMemory) → (p ≡ GivenUp → ⊥) → p ≡ phase_after (step_turn r) → OnOk r P → P
kept p (Ok s) there e h = h
kept p (Err x) there e h = absurd (there e)

pub no_loss : (error : Error) → ((t : Ticket) → error ≡ GrpcAPI t → ⊥) → is_loss error ≡ false
no_loss (GrpcAPI t) n = absurd (n t refl)
no_loss _ n = refl

-- where its plan has answered, it stands so that this was heeded
pub plan_answered : {S R H C : Type 0} (m : Meaning S (Result R Error)) (keys : R → List ErrorView) (region : R → Option RegionErr) (t : Touch C) (touches : Told → Posted → S → S → C → C → Type 0)
    (told : Told) (from : Posted) (used : RegionVerId) (delay : Option ℕ) (plan over : S) (to : Posted) (answer : Result R Error) (g : Stage S R H) (r : Result (Option (Step (RegionTask S R H) R)) NoMemory) (old made new : C)
    → stage_phase g ≡ phase_after (step_turn r) → stage_runs g ≡ false
    → Tells m told plan over from to (Ends answer) → touches told from plan over old made
    → OnOk r (IsHeeded t used (change_after keys region delay used answer) made new)
    → PlanTouches m keys region t touches told from used delay plan g old new
plan_answered m keys region t touches told from used delay plan over to answer stage.Fresh r old made new e off tells inner h = never_fresh (step_turn r) e
plan_answered m keys region t touches told from used delay plan over to answer (stage.Running p) r old made new e off tells inner h = absurd (false≢true (sym off))
plan_answered m keys region t touches told from used delay plan over to answer (stage.Sleeping n) r old made new e off tells inner h =
    record { over = over; to = to; answer = answer; tells = tells; made = made; inner = inner; heeded = kept Running r (λ x. cc) e h }
plan_answered m keys region t touches told from used delay plan over to answer (stage.Cutting c) r old made new e off tells inner h =
    record { over = over; to = to; answer = answer; tells = tells; made = made; inner = inner; heeded = kept Running r (λ x. cc) e h }
plan_answered m keys region t touches told from used delay plan over to answer stage.Cut r old made new e off tells inner h =
    record { over = over; to = to; answer = answer; tells = tells; made = made; inner = inner; heeded = kept Over r (λ x. cc) e h }
plan_answered m keys region t touches told from used delay plan over to answer stage.Over r old made new e off tells inner h =
    record { over = over; to = to; answer = answer; tells = tells; made = made; inner = inner; heeded = kept Over r (λ x. cc) e h }
plan_answered m keys region t touches told from used delay plan over to answer stage.Stopped r old made new e off tells inner h = tt

pub unless_all : {S R H P : Type 0} (g : Stage S R H) → P → UnlessStopped g P
unless_all stage.Fresh p = p
unless_all (stage.Running q) p = p
unless_all (stage.Sleeping n) p = p
unless_all (stage.Cutting c) p = p
unless_all stage.Cut p = p
unless_all stage.Over p = p
unless_all stage.Stopped p = tt

-- a task that stood here
pub acts_at : {S R H C : Type 0} (m : Meaning S (Result R Error)) (keys : R → List ErrorView) (region : R → Option RegionErr) (t : Touch C) (touches : Told → Posted → S → S → C → C → Type 0)
    (told : Told) (from : Posted) (task task' : RegionTask S R H) (g : Stage S R H) (old new : C)
    → task.stage ≡ g
    → StageTouches m keys region t touches told from task.region (delay_ms task.backoff) task.job g task'.stage old new
    → TaskTouches m keys region t touches told from task task' old new
acts_at m keys region t touches told from task task' g old new e s = acts (rw e s)

-- The plan.

pub unless_gone : {S R H P : Type 0} (g : MultiStage S R H) → P → UnlessGone g P
unless_gone multi_stage.Fresh p = p
unless_gone (multi_stage.Cutting c) p = p
unless_gone multi_stage.Running p = p
unless_gone multi_stage.Over p = p
unless_gone multi_stage.Stopped p = tt

pub gone_weaker : {S R H P Q : Type 0} (g : MultiStage S R H) → (P → Q) → UnlessGone g P → UnlessGone g Q
gone_weaker multi_stage.Fresh w p = w p
gone_weaker (multi_stage.Cutting c) w p = w p
gone_weaker multi_stage.Running w p = w p
gone_weaker multi_stage.Over w p = w p
gone_weaker multi_stage.Stopped w p = tt

pub after_kept : {S R H : Type 0} (P : Type 0) (preserve : Bool) (turn : Turn (List (Outcome R))) (g : MultiStage S R H) (turn' : Turn (Result (Vec (Result R Error)) Error))
    → AfterTasks preserve turn g turn' → IfKept turn P → UnlessGone g P
after_kept P preserve Stopped g turn' a k = rw a.1 tt
after_kept P preserve Waits g turn' a k = unless_gone g k
after_kept P preserve (Ends outcomes) g turn' a k = unless_gone g k

-- what is not for it changes nothing
pub nothing : {S R H C : Type 0} (t : Touch C) (touches : Told → Posted → RegionTask S R H → RegionTask S R H → C → C → Type 0) (told : Told) (from : Posted) (backoff : Backoff)
    (ts : Option (Tasks (RegionTask S R H) R)) (pd : C) → t.looked pd pd → TasksTouch t touches told from backoff ts ts pd pd
nothing t touches told from backoff None pd same = (pd, inl same, refl)
nothing t touches told from backoff (Some ts) pd same = unheard refl refl

-- after a call of the search of its shards
pub sought : {S R H C A Q F P : Type 0} (m : Meaning (RetryableMultiRegion S R H) (Result (Vec (Result R Error)) Error)) (turn : Turn (Result A Error)) (c : Looking S H) (old new : RetryableMultiRegion S R H) (from to : Posted) (pd pd' : C)
    (turn' : Turn (Result (Vec (Result R Error)) Error))
    → old.stage ≡ multi_stage.Stopped → AfterCut m turn c old new from to pd pd' turn' → (Q → F → P) → IfKept turn Q → UnlessGone new.stage F → UnlessGone new.stage P
sought m Stopped c old new from to pd pd' turn' e a w k f = rw (a.1, e) tt
sought m Waits c old new from to pd pd' turn' e a w k f = gone_weaker new.stage (w k) f
sought m (Ends v) c old new from to pd pd' turn' e a w k f = gone_weaker new.stage (w k) f

pub not_starved : {X P : Type 0} → (X → ⊥) → X ⊎ P → P
not_starved n (inl x) = absurd (n x)
not_starved n (inr p) = p
