-- What holds of every task of a plan over all stores.
use Rattle.std.specs.Prelude.{◌≡◌, ℕ, ◌≤◌, true, List, [], ◌∷◌, ◌++◌, Option, Result, Ok, Err, refl}
use Rattle.std.proofs.lemmas.List.Folds.{concat-append}
use Rattle.std.specs.List.{concat}
use Rattle.std.proofs.Common.{ap, append-nil, append_assoc, subst, sym, ◌∙◌}
use Rattle.std.proofs.Math.Nat.{le_trans}
use Rattle.std.proofs.lemmas.Bool.{false≢true}
use Rattle.txn_history.specs.Event.{Event}
use Rattle.txn_history.specs.Later.{IsLater, IsLater-ticket}
use Rattle.txn_history.specs.Meaning.{IsLawful, Meaning, WasPosted}
use Rattle.txn_history.specs.Phase.{Awaited, IsRunning}
use Rattle.txn_history.specs.Phase.Awaited.{EndOf}
use Rattle.txn_history.specs.Phase.Phase.{Running}
use Rattle.txn_history.specs.Posted.{Posted, Within}
use Rattle.txn_kv.specs.ErrorView.{ErrorView}
use Rattle.txn_kv.specs.declared.backoff.Backoff.{Backoff}
use Rattle.txn_kv.specs.declared.errors.Error.{Error}
use Rattle.txn_kv.specs.declared.message.RegionErr.{RegionErr}
use Rattle.txn_stores.specs.StoreTask.{is_running, stage_phase, stage_waits, store_task, AreStores, IfRuns, IsAsleep, IsLost, IsSlept, StageFits, TaskGives}
use Rattle.txn_stores.specs.declared.stage.Stage.{Stage}
use Rattle.txn_stores.specs.declared.stage.Stage.TheVariants as stage
use Rattle.txn_stores.specs.declared.store_task.StoreTask.{StoreTask}
use Rattle.txn_tasks.specs.declared.step.Step.{Step}
use Rattle.txn_tasks.specs.declared.step.Step.TheVariants.{End, Parts}

asleep_longer : {lost : List Event → Type 0} {b left : Backoff} {n : ℕ} {o p : Posted} (h longer : List Event)
    → (lost h → lost longer) → IsLater o p → Within h longer → IsAsleep lost b left n o h → IsAsleep lost b left n p longer
asleep_longer {n = n} h longer k l w f = record {
  loss = k f.loss;
  goes_on = f.goes_on;
  ms = f.ms;
  delay = f.delay;
  began = rw (IsLater-ticket l n) (w _ f.began);
  posted = le_trans f.posted l.next;
}

lost_longer : {S R : Type 0} (m : Meaning S (Result R Error)) → IsLawful m → (job : S) (h longer : List Event) → Within h longer → IsLost m job h → IsLost m job longer
lost_longer m law job h longer w g = (g.0, law.gives_longer job h longer _ w g.1)

fits_longer : {S R : Type 0} (m : Meaning S (Result R Error)) → IsLawful m → (t : StoreTask S) (g : Stage) (o p : Posted) (h longer : List Event)
    → IsLater o p → Within h longer → StageFits m t g o h → StageFits m t g p longer
fits_longer m law t stage.Fresh o p h longer l w f = tt
fits_longer m law t stage.Running o p h longer l w f = (law.fits_longer t.plan o p h longer l w f.0, f.1)
fits_longer m law t (stage.Sleeping n b) o p h longer l w f = asleep_longer h longer (lost_longer m law t.job h longer w) l w f
fits_longer m law t stage.Again o p h longer l w f = tt
fits_longer m law t stage.Over o p h longer l w f = tt
fits_longer m law t stage.Stopped o p h longer l w f = tt

slept_longer : (b : Backoff) (h longer : List Event) → Within h longer → IsSlept b h → IsSlept b longer
slept_longer b h longer w s = record { ticket = s.ticket; ms = s.ms; delay = s.delay; began = w _ s.began; slept = w _ s.slept }

gives_longer : {S R : Type 0} (m : Meaning S (Result R Error)) (keys : R → List ErrorView) (region : R → Option RegionErr) → IsLawful m
    → (t : StoreTask S) (h longer : List Event) (s : Step (StoreTask S) R) → Within h longer → TaskGives m keys region t h s → TaskGives m keys region t longer s
gives_longer m keys region law t h longer (End (Ok answer)) w g = record { inner = g.inner; given = law.gives_longer t.job h longer g.inner w g.given; taken = g.taken; spent = g.spent }
gives_longer m keys region law t h longer (End (Err why)) w g = absurd g
gives_longer m keys region law t h longer (Parts tasks) w g =
    (g.0, record { loss = lost_longer m law t.job h longer w g.1.loss; slept = slept_longer t.backoff h longer w g.1.slept })

bears_more : {S A : Type 0} (m : Meaning S A) → IsLawful m → (plan : S) (g : Stage) (w more : ℕ) → w ≤ more → IfRuns g (m.bears plan w) → IfRuns g (m.bears plan more)
bears_more m law plan stage.Fresh w more l b = tt
bears_more m law plan stage.Running w more l b = law.bears_more plan w more l b
bears_more m law plan (stage.Sleeping n left) w more l b = tt
bears_more m law plan stage.Again w more l b = tt
bears_more m law plan stage.Over w more l b = tt
bears_more m law plan stage.Stopped w more l b = tt

waits_running : (waits : Awaited → Type 0) (g : Stage) (a : Awaited) → stage_waits waits g a → stage_phase g ≡ Running
waits_running waits stage.Fresh a w = absurd w
waits_running waits stage.Running a w = refl
waits_running waits (stage.Sleeping n b) a w = refl
waits_running waits stage.Again a w = absurd w
waits_running waits stage.Over a w = absurd w
waits_running waits stage.Stopped a w = absurd w

something : {S R : Type 0} (m : Meaning S (Result R Error)) → IsLawful m → (t : StoreTask S) (g : Stage) (o : Posted) (h : List Event)
    → StageFits m t g o h → stage_phase g ≡ Running → (a : Awaited) × stage_waits (m.waits t.plan) g a
something m law t stage.Fresh o h f e = absurd (subst IsRunning (sym e) tt)
something m law t stage.Running o h f e = law.waits t.plan o h f.0 f.1
something m law t (stage.Sleeping n b) o h f e = (EndOf n, refl)
something m law t stage.Again o h f e = absurd (subst IsRunning (sym e) tt)
something m law t stage.Over o h f e = absurd (subst IsRunning (sym e) tt)
something m law t stage.Stopped o h f e = absurd (subst IsRunning (sym e) tt)

was_posted : {S R : Type 0} (m : Meaning S (Result R Error)) → IsLawful m → (t : StoreTask S) (g : Stage) (o : Posted) (h : List Event) (a : Awaited)
    → StageFits m t g o h → stage_waits (m.waits t.plan) g a → WasPosted o h a
was_posted m law t stage.Fresh o h a f w = absurd w
was_posted m law t stage.Running o h a f w = law.posted t.plan o h a f.0 w
was_posted m law t (stage.Sleeping n b) o h a f w = rw w (f.ms, f.began, f.posted)
was_posted m law t stage.Again o h a f w = absurd w
was_posted m law t stage.Over o h a f w = absurd w
was_posted m law t stage.Stopped o h a f w = absurd w

pub store_task-lawful : {S R : Type 0} (m : Meaning S (Result R Error)) (keys : R → List ErrorView) (region : R → Option RegionErr) → IsLawful m → IsLawful (store_task m keys region)
store_task-lawful m keys region law = record {
  fits_longer = λ t o p h longer l w f. record { at = fits_longer m law t t.stage o p h longer l w f.at };
  gives_longer = λ t h longer s w g. gives_longer m keys region law t h longer s w g;
  bears_more = λ t w more l b. bears_more m law t.plan t.stage w more l b;
  runs = λ t a w. waits_running (m.waits t.plan) t.stage a w;
  waits = λ t o h f e. something m law t t.stage o h f.at e;
  posted = λ t o h a f w. was_posted m law t t.stage o h a f.at w;
}

pub running_phase : (g : Stage) → is_running g ≡ true → stage_phase g ≡ Running
running_phase stage.Running e = refl
running_phase stage.Fresh e = absurd (false≢true e)
running_phase (stage.Sleeping n b) e = absurd (false≢true e)
running_phase stage.Again e = absurd (false≢true e)
running_phase stage.Over e = absurd (false≢true e)
running_phase stage.Stopped e = absurd (false≢true e)

-- a list of stores is cut into itself, and a piece of it may be cut again

pub stores_whole : (whole : List ℕ) → AreStores whole (whole ∷ [])
stores_whole whole = append-nil whole

pub stores_again : (whole piece : List ℕ) (before parts behind : List (List ℕ)) → AreStores whole (before ++ piece ∷ behind) → AreStores piece parts → AreStores whole (before ++ parts ++ behind)
stores_again whole piece before parts behind e f =
    concat-append (before ++ parts) behind
    ∙ ap (λ xs. xs ++ concat behind) (concat-append before parts ∙ ap (λ xs. concat before ++ xs) f)
    ∙ append_assoc (concat before) piece (concat behind)
    ∙ sym (concat-append before (piece ∷ behind))
    ∙ e
