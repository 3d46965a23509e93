-- A task whose sleep has ended, and calls that are not for a task.
use Rattle.std.proofs.Common.{◌≡◌, ◌≢◌, inl, inr, ℕ, false, List, [], ◌∷◌, refl, ap, subst, ◌∙◌, arith}
use Rattle.std.proofs.Math.Nat.{le_refl}
use Rattle.std.proofs.lemmas.Bool.{false≢true}
use Rattle.std.proofs.lemmas.List.Elements.{All-cons, All-nil}
use Rattle.std.specs.Prelude.{⊤, Option, Result}
use Rattle.txn_history.proofs.Arriving.{ends_sleep, Steps-deaf}
use Rattle.txn_history.proofs.Counting.{Spends-quiet}
use Rattle.txn_history.proofs.Telling.{Tells-quiet, Tells-stopped}
use Rattle.txn_history.specs.Arrivals.{arrives, awaited_as}
use Rattle.txn_history.specs.Event.{Event}
use Rattle.txn_history.specs.Event.Event.{Slept as HasSlept}
use Rattle.txn_history.specs.Meaning.{woken, Counts, Goes, IsLawful, Meaning, Tells}
use Rattle.txn_history.specs.Phase.{phase_after, unheard, Awaited}
use Rattle.txn_history.specs.Phase.Awaited.{EndOf}
use Rattle.txn_history.specs.Posted.{HasNumbers, Posted, ticket_of, Within-one}
use Rattle.txn_history.specs.Steps.{Steps}
use Rattle.txn_history.specs.Turn.{Turn}
use Rattle.txn_history.specs.Turn.Turn.{Stopped, Waits, Ends}
use Rattle.txn_kv.specs.ErrorView.{ErrorView}
use Rattle.txn_kv.specs.declared.arrival.Arrival.{Arrival}
use Rattle.txn_kv.specs.declared.arrival.Arrival.TheVariants.{Slept}
use Rattle.txn_kv.specs.declared.backoff.Backoff.{Backoff}
use Rattle.txn_kv.specs.declared.errors.Error.{Error}
use Rattle.txn_kv.specs.declared.message.RegionErr.{RegionErr}
use Rattle.txn_region.specs.declared.store.Store.{Store}
use Rattle.txn_stores.proofs.Tasking.{same_task}
use Rattle.txn_stores.specs.Settling.{again_with, IsGiven, IsWoken}
use Rattle.txn_stores.specs.StoreTask.{is_running, stage_phase, stage_waits, store_of, store_task, AreStores, IsAsleep, IsLost, IsTaskOf, StageFits, TaskFits, TaskReady}
use Rattle.txn_stores.specs.TaskLaws.{store_task-lawful}
use Rattle.txn_stores.specs.declared.stage.Stage.{Stage}
use Rattle.txn_stores.specs.declared.stage.Stage.TheVariants as stage
use Rattle.txn_stores.specs.declared.store_task.StoreTask.{StoreTask}
use Rattle.txn_tasks.specs.Step.{AreInPlace, IsNew, Keeps}
use Rattle.txn_tasks.specs.declared.step.Step.{Step}
use Rattle.txn_tasks.specs.declared.step.Step.TheVariants.{End, Parts}

-- it fell asleep after a loss
asleep : {S R : Type 0} (m : Meaning S (Result R Error)) (t : StoreTask S) (n : ℕ) (b : Backoff) (o : Posted) (h : List Event)
    → t.stage ≡ stage.Sleeping n b → TaskFits m t o h → IsAsleep (IsLost m t.job) t.backoff b n o h
asleep m t n b o h at f = subst (λ (g : Stage). StageFits m t g o h) at f.at

Wake-tells : {S R : Type 0} (m : Meaning S (Result R Error)) (keys : R → List ErrorView) (region : R → Option RegionErr) → IsLawful m
    → (b : Backoff) (old new : StoreTask S) (o : Posted) (n : ℕ) (turn : Turn (Step (StoreTask S) R))
    → old.stage ≡ stage.Sleeping n b
    → IsGiven b old new turn
    → Tells (store_task m keys region) (woken (ticket_of o n)) old new o o turn
Wake-tells m keys region law b old new o n Stopped at i = rw i (Tells-stopped refl refl (same_task m keys region old old.plan stage.Stopped) (λ a w. absurd w))
Wake-tells m keys region law b old new o n Waits at i = absurd i
Wake-tells m keys region law b old new o n (Ends (End answer)) at i = absurd i
Wake-tells m keys region law b old new o n (Ends (Parts tasks)) at i = rw i.0 (Tells-quiet
    (λ h f. record { at = tt })
    (λ h f. let s = asleep m old n b o h at f.0 in (
      i.1 ∙ ap (λ x. again_with x old ∷ []) s.goes_on,
      record {
        loss = (s.loss.0, law.gives_longer old.job h (HasSlept (ticket_of o n) ∷ h) _ (Within-one _ h) s.loss.1);
        slept = record { ticket = ticket_of o n; ms = s.ms; delay = s.delay; began = inr s.began; slept = inl refl };
      },
    ))
    (same_task m keys region old old.plan stage.Again)
    (λ a w. absurd w))

given_phase : {S A : Type 0} (b : Backoff) (old new : StoreTask S) (turn : Turn (Step (StoreTask S) A)) → IsGiven b old new turn → stage_phase new.stage ≡ phase_after turn
given_phase b old new Stopped i = rw i refl
given_phase b old new Waits i = absurd i
given_phase b old new (Ends (End answer)) i = absurd i
given_phase b old new (Ends (Parts tasks)) i = rw i.0 refl

Wake-goes : {S R C : Type 0} (m : Meaning S (Result R Error)) (keys : R → List ErrorView) (region : R → Option RegionErr)
    (b : Backoff) (old new : StoreTask S) (o : Posted) (pd : C) (n : ℕ) (turn : Turn (Step (StoreTask S) R))
    → old.stage ≡ stage.Sleeping n b
    → IsGiven b old new turn
    → Goes (store_task m keys region).phase (stage_waits (m.waits old.plan) old.stage (EndOf n)) old new o o pd pd turn
Wake-goes m keys region b old new o pd n turn at i =
    let meant : stage_waits (m.waits old.plan) old.stage (EndOf n) = rw at refl in record {
      deaf = λ other. absurd (other meant);
      state = λ other. absurd (other meant);
      outbox = λ other. absurd (other meant);
      client = λ other. absurd (other meant);
      next = λ this. given_phase b old new turn i;
    }

Wake-counts : {S R : Type 0} (m : Meaning S (Result R Error)) (keys : R → List ErrorView) (region : R → Option RegionErr)
    (b : Backoff) (old new : StoreTask S) (o : Posted) (n : ℕ) (turn : Turn (Step (StoreTask S) R))
    → old.stage ≡ stage.Sleeping n b
    → IsGiven b old new turn
    → Counts (store_task m keys region) false false 0 0 old new o o turn
Wake-counts m keys region b old new o n Stopped at i = rw i (record { spends = Spends-quiet (λ f. absurd (false≢true f)) (λ w k. tt) (λ k. omega arith); fewer = λ k. le_refl _ })
Wake-counts m keys region b old new o n Waits at i = absurd i
Wake-counts m keys region b old new o n (Ends (End answer)) at i = absurd i
Wake-counts m keys region b old new o n (Ends (Parts tasks)) at i = rw i.0 (record { spends = Spends-quiet (λ f. absurd (false≢true f)) (λ w k. tt) (λ k. rw at (le_refl _)); fewer = λ k. le_refl _ })

-- the task that it gives was not started
is_new : {S R : Type 0} (m : Meaning S (Result R Error)) (keys : R → List ErrorView) (region : R → Option RegionErr) (b : Backoff) (t : StoreTask S) → TaskReady m t → IsNew (store_task m keys region) (again_with b t)
is_new m keys region b t r = record {
  phase = refl;
  light = λ w. tt;
  ready = record { unbegun = r.unbegun; ready = r.ready; at = refl };
}

in_place : {S R : Type 0} (m : Meaning S (Result R Error)) (keys : R → List ErrorView) (region : R → Option RegionErr) (at_store : Store → S → S) (b : Backoff) (t new : StoreTask S) (parts : List (StoreTask S))
    → TaskReady m t → parts ≡ again_with b t ∷ []
    → AreInPlace (store_task m keys region) store_of AreStores (λ u whole. IsTaskOf m at_store u whole) t new parts
in_place m keys region at_store b t new parts r e = rw e (record {
  each = All-cons (λ part. IsNew (store_task m keys region) part) (again_with b t) [] (is_new m keys region b t r) (All-nil _);
  fit = λ o h f. All-cons (λ part. TaskFits m part o h) (again_with b t) [] (record { at = tt }) (All-nil _);
  cut = refl;
  belong = λ w i. All-cons (λ part. IsTaskOf m at_store part w) (again_with b t) [] (record { aimed = i.aimed; less = i.less }) (All-nil _);
})

pub Wake-keeps : {S R : Type 0} (m : Meaning S (Result R Error)) (keys : R → List ErrorView) (region : R → Option RegionErr) (at_store : Store → S → S)
    (b : Backoff) (old new : StoreTask S) (turn : Turn (Step (StoreTask S) R))
    → TaskReady m old
    → IsGiven b old new turn
    → Keeps (store_task m keys region) store_of AreStores (λ t whole. IsTaskOf m at_store t whole) (λ t. is_running t.stage) old new turn
Wake-keeps m keys region at_store b old new Stopped r i = rw i (record {
  work = refl;
  belongs = λ w k. record { aimed = k.aimed; less = k.less };
  rests = λ e. absurd e;
  stands = tt;
  wide = tt;
  owes = tt;
})
Wake-keeps m keys region at_store b old new Waits r i = absurd i
Wake-keeps m keys region at_store b old new (Ends (End answer)) r i = absurd i
Wake-keeps m keys region at_store b old new (Ends (Parts tasks)) r i = rw i.0 (record {
  work = refl;
  belongs = λ w k. record { aimed = k.aimed; less = k.less };
  rests = λ e. refl;
  stands = in_place m keys region at_store b old _ tasks.items r i.1;
  wide = rw i.1 (omega arith);
  owes = λ n w. rw i.1 (omega arith);
})

Wake-ready : {S R : Type 0} (m : Meaning S (Result R Error)) (b : Backoff) (old new : StoreTask S) (turn : Turn (Step (StoreTask S) R))
    → TaskReady m old → IsGiven b old new turn → TaskReady m new
Wake-ready m b old new Stopped r i = rw i (record { unbegun = r.unbegun; ready = r.ready; at = tt })
Wake-ready m b old new Waits r i = absurd i
Wake-ready m b old new (Ends (End answer)) r i = absurd i
Wake-ready m b old new (Ends (Parts tasks)) r i = rw i.0 (record { unbegun = r.unbegun; ready = r.ready; at = tt })

pub Wake-off : {S A : Type 0} (b : Backoff) (old new : StoreTask S) (turn : Turn (Step (StoreTask S) A)) → IsGiven b old new turn → is_running new.stage ≡ false
Wake-off b old new Stopped i = rw i refl
Wake-off b old new Waits i = absurd i
Wake-off b old new (Ends (End answer)) i = absurd i
Wake-off b old new (Ends (Parts tasks)) i = rw i.0 refl

-- its sleep has ended
wake_at : {S R C : Type 0} (m : Meaning S (Result R Error)) (keys : R → List ErrorView) (region : R → Option RegionErr) → IsLawful m
    → (b : Backoff) (old new : StoreTask S) (o : Posted) (pd : C) (n : ℕ) (turn : Turn (Step (StoreTask S) R))
    → TaskReady m old → HasNumbers o
    → old.stage ≡ stage.Sleeping n b
    → IsGiven b old new turn
    → Steps (store_task m keys region) (λ told from s t x y. ⊤) (arrives (Slept n) o) old new o o pd pd turn
unfolding arrives
wake_at m keys region law b old new o pd n turn ready numbers at i = record {
  tells = λ r. Wake-tells m keys region law b old new o n turn at i;
  goes = Wake-goes m keys region b old new o pd n turn at i;
  counts = Wake-counts m keys region b old new o n turn at i;
  client = λ r. tt;
  ready = Wake-ready m b old new turn ready i;
  numbers = numbers;
}

pub Wake-steps : {S R C : Type 0} (m : Meaning S (Result R Error)) (keys : R → List ErrorView) (region : R → Option RegionErr) → IsLawful m
    → (a : Arrival) (b : Backoff) {old new : StoreTask S} {o : Posted} {pd : C} {turn : Turn (Step (StoreTask S) R)}
    → TaskReady m old → HasNumbers o
    → IsWoken b old.stage a
    → IsGiven b old new turn
    → Steps (store_task m keys region) (λ told from s t x y. ⊤) (arrives a o) old new o o pd pd turn
Wake-steps m keys region law a b {old = old} {new = new} {o = o} {pd = pd} {turn = turn} ready numbers w i = rw w.2 (wake_at m keys region law b old new o pd w.0 turn ready numbers w.1 i)

-- what came is not for it

not_for : (waits : Awaited → Type 0) (g : Stage) (a : Arrival) → g ≢ stage.Running → ((n : ℕ) (b : Backoff) → g ≡ stage.Sleeping n b → a ≢ Slept n) → stage_waits waits g (awaited_as a) → ⊥
not_for waits stage.Fresh a other awake w = w
not_for waits stage.Running a other awake w = other refl
not_for waits (stage.Sleeping n b) a other awake w = awake n b refl (ends_sleep a n w)
not_for waits stage.Again a other awake w = w
not_for waits stage.Over a other awake w = w
not_for waits stage.Stopped a other awake w = w

pub Deaf-steps : {S R C : Type 0} (m : Meaning S (Result R Error)) (keys : R → List ErrorView) (region : R → Option RegionErr) → IsLawful m
    → (a : Arrival) {t : StoreTask S} {o : Posted} {pd : C} {turn : Turn (Step (StoreTask S) R)}
    → TaskReady m t → HasNumbers o
    → t.stage ≢ stage.Running
    → ((n : ℕ) (b : Backoff) → t.stage ≡ stage.Sleeping n b → a ≢ Slept n)
    → turn ≡ unheard (stage_phase t.stage)
    → Steps (store_task m keys region) (λ told from s t x y. ⊤) (arrives a o) t t o o pd pd turn
Deaf-steps m keys region law a {t = t} ready numbers other awake e =
    Steps-deaf a (store_task-lawful m keys region law) (not_for (m.waits t.plan) t.stage a other awake) e (λ r. tt) ready numbers
