-- One task of a plan over many regions.
use Rattle.std.specs.Prelude.{◌≡◌, ◌≢◌, ◌⊎◌, ⊤, ℕ, ◌*◌, ◌-◌, ◌≤◌, max, Bool, true, false, List, [], map, Option, Some, None, Result, Ok, Err, refl}
use Rattle.std.proofs.Common.{inl, inr, subst, sym}
use Rattle.std.proofs.Math.Nat.{le_trans}
use Rattle.std.specs.Global.{Global}
use Rattle.txn_causes.specs.Heard.{heard_in, heard_longer}
use Rattle.txn_causes.specs.Spent.{failed_below_more, failed_below_wider, spent_more, HaveFailedBelow, IsSpent}
use Rattle.txn_history.specs.Event.{Event}
use Rattle.txn_history.specs.Faults.{is_loss}
use Rattle.txn_history.specs.Later.{IsLater}
use Rattle.txn_history.specs.Meaning.{Expects, IsLawful, IsUnbegun, Meaning, WasPosted, WasPosted-longer}
use Rattle.txn_history.specs.Moves.{Moves, SameJob}
use Rattle.txn_history.specs.Phase.{phase_after, Awaited, IsRunning, Phase}
use Rattle.txn_history.specs.Phase.Awaited.{EndOf, ReplyTo}
use Rattle.txn_history.specs.Phase.Phase.{Fresh, GivenUp, Over, Running}
use Rattle.txn_history.specs.Posted.{Posted, Within}
use Rattle.txn_history.specs.Spends.{Spends}
use Rattle.txn_history.specs.Turn.{failing, is_kept, Turn}
use Rattle.txn_kv.specs.ErrorView.{ErrorView, listed, view_of}
use Rattle.txn_kv.specs.ErrorView.ErrorView.{multiple}
use Rattle.txn_kv.specs.Errors.{IsRegionError}
use Rattle.txn_kv.specs.declared.backoff.Backoff.{Backoff}
use Rattle.txn_kv.specs.declared.errors.Error.{Error}
use Rattle.txn_kv.specs.declared.errors.Error.TheVariants.{GrpcAPI, InternalError}
use Rattle.txn_kv.specs.declared.errors.Internal.TheVariants.{NoEpoch}
use Rattle.txn_kv.specs.declared.message.Peer.{Peer}
use Rattle.txn_kv.specs.declared.message.RegionErr.{RegionErr}
use Rattle.txn_kv.specs.declared.region.RegionVerId.{RegionVerId}
use Rattle.txn_kv.specs.declared.request.Request.{Request}
use Rattle.txn_kv.specs.declared.ticket.Ticket.{Ticket}
use Rattle.txn_multi.specs.Cutting.{cutting, cutting-lawful, ArePartsOf, IsLookUpRefused, IsLookUpRefused-longer, IsPlacement}
use Rattle.txn_multi.specs.declared.part.Part.{Part}
use Rattle.txn_multi.specs.declared.stage.Stage.{Stage}
use Rattle.txn_multi.specs.declared.stage.Stage.TheVariants as stage
use Rattle.txn_multi.specs.declared.task.RegionTask.{RegionTask}
use Rattle.txn_retry.specs.Remedy.{on_region_error}
use Rattle.txn_retry.specs.declared.remedy.CacheChange.{CacheChange}
use Rattle.txn_retry.specs.declared.remedy.CacheChange.TheVariants as change
use Rattle.txn_retry.specs.declared.remedy.Next.{Next}
use Rattle.txn_retry.specs.declared.remedy.Next.TheVariants as next
use Rattle.txn_search.specs.Search.{search_phase, search_waits, SearchAt}
use Rattle.txn_tasks.specs.declared.step.Step.{Step}
use Rattle.txn_tasks.specs.declared.step.Step.TheVariants.{End, Parts}

-- How often it was tried.

-- so many attempts are left
abbrev pub attempts_left : Backoff → ℕ
attempts_left b = b.max_attempts - b.current_attempts

-- How many attempts its plan had left at its start, of which so many were used up: by the task, and by those that it is a part of.
abbrev pub limit_of : {S R H : Type 0} → RegionTask S R H → ℕ
limit_of t = t.backoff.max_attempts - t.before

abbrev pub tried : {S R H : Type 0} → RegionTask S R H → ℕ
tried t = t.backoff.current_attempts - t.before

-- so many requests of the line had failed at their regions by now
abbrev pub HaveFailedBy : ℕ → Posted → List Event → Type 0
HaveFailedBy n o h = HaveFailedBelow (heard_in h) o.line o.beat o.next n

-- so many of them before the first that the plan waits for was sent
pub record HaveFailedBefore {S A : Type 0} (m : Meaning S A) (plan : S) (n : ℕ) (o : Posted) (h : List Event) : Type 0 where
  pub first : ℕ
  pub given : first ≤ o.next
  pub failed : HaveFailedBelow (heard_in h) o.line o.beat first n
  pub later : (number : ℕ) → m.waits plan (ReplyTo number) → first ≤ number

-- What has happened.

-- a reply to the plan has this error of its region, and none at a key
pub record IsRefused {S R : Type 0} (m : Meaning S (Result R Error)) (keys : R → List ErrorView) (region : R → Option RegionErr) (job : S) (h : List Event) (e : RegionErr) : Type 0 where
  pub reply : R
  pub given : m.gives job h (Ok reply)
  pub clean : keys reply ≡ []
  pub found : region reply ≡ Some e

-- a request of the plan was lost, or refused for its region
abbrev pub HasFailed : {S R : Type 0} → Meaning S (Result R Error) → (R → List ErrorView) → (R → Option RegionErr) → S → List Event → Type 0
HasFailed m keys region job h = ((t : Ticket) × m.gives job h (Err (GrpcAPI t))) ⊎ ((e : RegionErr) × IsRefused m keys region job h e)

-- what the reply to a part of a request says: there is no error in it, or its errors at keys stand in its place
abbrev pub IsResult : {S R : Type 0} → Meaning S (Result R Error) → (R → List ErrorView) → (R → Option RegionErr) → S → List Event → Result R Error → Type 0
IsResult m keys region job h (Ok reply) = m.gives job h (Ok reply) × (keys reply ≡ []) × (region reply ≡ None)
IsResult {S} {R} m keys region job h (Err why) = (reply : R) × m.gives job h (Ok reply) × (keys reply ≢ []) × (view_of why ≡ multiple (listed (keys reply)))

-- the error of a task that does not go on after a region error
abbrev pub IsEndAt : RegionErr → Next → Error → Type 0
IsEndAt e next.AtOnce why = ⊥
IsEndAt e (next.Sleep ms) why = ⊥
IsEndAt e next.End why = IsRegionError e why
IsEndAt e (next.EndWithoutEpoch id) why = why ≡ InternalError (NoEpoch id)

-- A reply was refused for its region, which left no way to go on: no attempt was left, where so many had been there, or none was
-- of use.
pub record IsRefusedFor {S R : Type 0} (m : Meaning S (Result R Error)) (keys : R → List ErrorView) (region : R → Option RegionErr) (limit : ℕ) (used : RegionVerId) (job : S) (h : List Event) (why : Error) : Type 0 where
  pub error : RegionErr
  pub delay : Option ℕ
  pub refused : IsRefused m keys region job h error
  pub spent : delay ≡ None → IsSpent (heard_in h) limit
  pub end : IsEndAt error (on_region_error delay error used).next why

-- an error of the plan, which is a loss only once no attempt was left
pub record IsOwn {S R : Type 0} (m : Meaning S (Result R Error)) (limit : ℕ) (job : S) (h : List Event) (why : Error) : Type 0 where
  pub given : m.gives job h (Err why)
  pub spent : is_loss why ≡ true → IsSpent (heard_in h) limit

-- How a task ends that had so many attempts: with what a reply says, or with an error. That is one of its plan, or the error of
-- its region; or the plan had failed, and this is why its shards were not found again.
abbrev pub IsOutcome : {S R : Type 0} → Meaning S (Result R Error) → (R → List ErrorView) → (R → Option RegionErr) → ℕ → RegionVerId → S → List Event → Result (Result R Error) Error → Type 0
IsOutcome m keys region limit used job h (Ok result) = IsResult m keys region job h result
IsOutcome m keys region limit used job h (Err why) = IsOwn m limit job h why ⊎ (IsRefusedFor m keys region limit used job h why ⊎ (HasFailed m keys region job h × IsLookUpRefused h why))

-- a task for a part, which was not started, and whose plan began with so many attempts used up
abbrev pub task_for : {S R H : Type 0} → Global → Backoff → ℕ → Part S → RegionTask S R H
task_for alloc backoff before part = record { job = part.plan; region = part.region; backoff = backoff; before = before; stage = stage.Fresh; width = 0; alloc = alloc }

-- tasks for the parts of a job, each with a copy of one backoff
pub record AreTasksOf {S A R H L : Type 0} (m : Meaning S A) (is_part : S → S → Type 0) (load : S → L) (are_cut : L → List L → Type 0) (most : S → ℕ → ℕ) (job : S) (tasks : List (RegionTask S R H)) : Type 0 where
  pub parts : List (Part S)
  pub are : ArePartsOf m is_part load are_cut most job parts
  pub alloc : Global
  pub backoff : Backoff
  pub before : ℕ
  pub made : tasks ≡ map (task_for alloc backoff before) parts

-- What a task has come to. It is cut only once its plan has failed.
abbrev pub StepGives : {S R H L : Type 0} → Meaning S (Result R Error) → (R → List ErrorView) → (R → Option RegionErr) → (S → S → Type 0) → (S → L) → (L → List L → Type 0) → (S → ℕ → ℕ) → RegionTask S R H → List Event → Step (RegionTask S R H) R → Type 0
StepGives m keys region is_part load are_cut most t h (End outcome) = IsOutcome m keys region (limit_of t) t.region t.job h outcome
StepGives m keys region is_part load are_cut most t h (Parts tasks) = HasFailed m keys region t.job h × AreTasksOf m is_part load are_cut most t.job tasks.items

-- Where it stands.

-- What has happened where a task for this plan stands here, which was tried so often. Each attempt was for a request that failed.
abbrev pub TaskAt : {S R H : Type 0} → Meaning S (Result R Error) → (R → List ErrorView) → (R → Option RegionErr) → S → ℕ → Stage S R H → Posted → List Event → Type 0
TaskAt m keys region job tries stage.Fresh o h = HaveFailedBy tries o h
TaskAt m keys region job tries (stage.Running p) o h = m.fits p o h × (m.phase p ≡ Running) × HaveFailedBefore m p tries o h
TaskAt m keys region job tries (stage.Sleeping n) o h = WasPosted o h (EndOf n) × HasFailed m keys region job h × HaveFailedBy tries o h
TaskAt m keys region job tries (stage.Cutting c) o h = SearchAt c.stage o h × (search_phase c.stage ≡ Running) × HasFailed m keys region job h × HaveFailedBy tries o h
TaskAt m keys region job tries stage.Cut o h = HaveFailedBy tries o h
TaskAt m keys region job tries stage.Over o h = ⊤
TaskAt m keys region job tries stage.Stopped o h = ⊤

pub record TaskFits {S R H : Type 0} (m : Meaning S (Result R Error)) (keys : R → List ErrorView) (region : R → Option RegionErr) (t : RegionTask S R H) (o : Posted) (h : List Event) : Type 0 where
  pub at : TaskAt m keys region t.job (tried t) t.stage o h

-- it sends what its plan may, and look-ups
abbrev pub TaskAsks : {S A : Type 0} → Meaning S A → S → List Event → Request → Type 0
TaskAsks m job h r = m.asks job h r ⊎ IsPlacement h r

abbrev pub stage_phase : {S R H : Type 0} → Stage S R H → Phase
stage_phase stage.Fresh = Fresh
stage_phase (stage.Running p) = Running
stage_phase (stage.Sleeping n) = Running
stage_phase (stage.Cutting c) = Running
stage_phase stage.Cut = Over
stage_phase stage.Over = Over
stage_phase stage.Stopped = GivenUp

-- its plan is under way
abbrev pub stage_runs : {S R H : Type 0} → Stage S R H → Bool
stage_runs (stage.Running p) = true
stage_runs _ = false

abbrev pub StageWaits : {S A R H : Type 0} → Meaning S A → Stage S R H → Awaited → Type 0
StageWaits m stage.Fresh a = ⊥
StageWaits m (stage.Running p) a = m.waits p a
StageWaits m (stage.Sleeping n) a = a ≡ EndOf n
StageWaits m (stage.Cutting c) a = search_waits c.stage a
StageWaits m stage.Cut a = ⊥
StageWaits m stage.Over a = ⊥
StageWaits m stage.Stopped a = ⊥

-- What holds of it, whatever has happened.

-- a plan that has not begun and may be started
pub record IsReady {S A : Type 0} (m : Meaning S A) (job : S) : Type 0 where
  pub unbegun : IsUnbegun m job
  pub ready : m.ready job

-- a plan that is under way for a job: it may be told of something, and asks, answers and costs no more
pub record IsUnderWay {S A : Type 0} (m : Meaning S A) (job plan : S) : Type 0 where
  pub ready : m.ready plan
  pub phase : m.phase plan ≡ Running
  pub same : SameJob m.asks m.gives plan job
  pub less : (n : ℕ) → m.round plan n ≤ m.round job n

abbrev pub StageReady : {S A R H : Type 0} → Meaning S A → S → Stage S R H → Type 0
StageReady m job stage.Fresh = ⊤
StageReady m job (stage.Running p) = IsUnderWay m job p
StageReady m job (stage.Sleeping n) = ⊤
StageReady m job (stage.Cutting c) = (c.plan ≡ job) × (search_phase c.stage ≡ Running)
StageReady m job stage.Cut = ⊤
StageReady m job stage.Over = ⊤
StageReady m job stage.Stopped = ⊤

pub record TaskReady {S A R H : Type 0} (m : Meaning S A) (t : RegionTask S R H) : Type 0 where
  pub job : IsReady m t.job
  pub at : StageReady m t.job t.stage

-- What it costs.

-- what a plan posts in its parts, where nothing is cut into more than n of them
abbrev pub shared : {S A : Type 0} → Meaning S A → (S → ℕ → ℕ) → S → ℕ → ℕ
shared m most plan n = most plan n * m.round plan n

-- Once its plan has failed, it owes a new run of it in each of its parts, or in one. The tasks that it gives owe it in its place.
abbrev pub owed : {S A : Type 0} → Meaning S A → (S → ℕ → ℕ) → S → ℕ → ℕ
owed m most job n = max 1 (most job n) * m.round job n

abbrev pub stage_left : {S A R H : Type 0} → Meaning S A → (S → ℕ → ℕ) → S → Stage S R H → ℕ → ℕ
stage_left m most job stage.Fresh n = m.round job n
stage_left m most job (stage.Running p) n = m.left p n
stage_left m most job (stage.Sleeping k) n = owed m most job n
stage_left m most job (stage.Cutting c) n = owed m most job n
stage_left m most job stage.Cut n = owed m most job n
stage_left m most job stage.Over n = 0
stage_left m most job stage.Stopped n = 0

abbrev pub StageBears : {S A R H : Type 0} → Meaning S A → Stage S R H → ℕ → Type 0
StageBears m (stage.Running p) w = m.bears p w
StageBears m _ w = ⊤

-- A task for a part of a request. No new run of the whole task betters its answer: it makes new runs itself.
abbrev pub region_task : {S R H L : Type 0} → Meaning S (Result R Error) → (R → List ErrorView) → (R → Option RegionErr) → (S → S → Type 0) → (S → L) → (L → List L → Type 0) → (S → ℕ → ℕ) → Meaning (RegionTask S R H) (Step (RegionTask S R H) R)
region_task m keys region is_part load are_cut most = record {
  fits = λ t o h. TaskFits m keys region t o h;
  asks = λ t h r. TaskAsks m t.job h r;
  gives = λ t h s. StepGives m keys region is_part load are_cut most t h s;
  phase = λ t. stage_phase t.stage;
  waits = λ t a. StageWaits m t.stage a;
  ready = λ t. TaskReady m t;
  round = λ t n. owed m most t.job n;
  left = λ t n. stage_left m most t.job t.stage n;
  width = λ t. t.width;
  bears = λ t w. StageBears m t.stage w;
  fails = λ s. false;
}

-- a plan with so many attempts
pub record Limited (S : Type 0) : Type 0 where
  pub plan : S
  pub limit : ℕ

-- A task of a plan: its plan is a part of that, and a new run of it in its parts costs no more than that in its own. It has the
-- attempts of the plan.
pub record IsTaskOf {S A R H : Type 0} (m : Meaning S A) (is_part : S → S → Type 0) (most : S → ℕ → ℕ) (t : RegionTask S R H) (whole : Limited S) : Type 0 where
  pub part : is_part t.job whole.plan
  pub less : (n : ℕ) → owed m most t.job n ≤ shared m most whole.plan n
  pub limit : limit_of t ≡ whole.limit

-- How a task goes on.

-- What was under way has ended, and so much is known. Nothing of it is waited for any more.
pub record GoesOver {S A : Type 0} (m : Meaning S A) (known : List Event → Type 0) (old new : S) (from to : Posted) (turn : Turn A) : Type 0 where
  pub moves : Moves (m.asks old) known (m.fits new to) (m.gives old) (λ h. h) from to turn
  pub job : SameJob m.asks m.gives new old
  pub expects : Expects (λ a. ⊥) (m.waits new) (λ a. ⊥) from to
  pub next : m.phase new ≡ phase_after turn

-- So much was left to post, and what was under way failed or did not.
pub record CostsOver {S A : Type 0} (m : Meaning S A) (before : ℕ → ℕ) (failed : Bool) (old new : S) (from to : Posted) (turn : Turn A) : Type 0 where
  pub spends : Spends (λ w. ⊤) (m.bears new) before (m.left new) (m.round old) failed failed 0 0 (m.width old) (m.width new) from to (is_kept turn) (failing m.fails turn)
  pub fewer : (n : ℕ) → m.round new n ≤ m.round old n

-- the plan of a task had failed, and by now each attempt of the task was used up by a failure
abbrev pub GoesOnAt : {S R H : Type 0} → Meaning S (Result R Error) → (R → List ErrorView) → (R → Option RegionErr) → RegionTask S R H → Posted → List Event → Type 0
GoesOnAt m keys region t o h = HasFailed m keys region t.job h × HaveFailedBy (tried t) o h

-- what is known of a task where a failure asks for this, an attempt of the backoff having been used up where one was left
abbrev pub MayGoOn : {S R H : Type 0} → Meaning S (Result R Error) → (R → List ErrorView) → (R → Option RegionErr) → RegionTask S R H → Posted → Error → Next → List Event → Type 0
MayGoOn m keys region t o failure next.AtOnce h = GoesOnAt m keys region t o h
MayGoOn m keys region t o failure (next.Sleep ms) h = GoesOnAt m keys region t o h
MayGoOn m keys region t o failure next.End h = IsOutcome m keys region (limit_of t) t.region t.job h (Err failure)
MayGoOn m keys region t o failure (next.EndWithoutEpoch id) h = IsOutcome m keys region (limit_of t) t.region t.job h (Err (InternalError (NoEpoch id)))

-- a change of what the client believes of a region
abbrev pub IsChanged : {C : Type 0} → (RegionVerId → C → C → Type 0) → (RegionVerId → Peer → C → C → Type 0) → RegionVerId → CacheChange → C → C → Type 0
IsChanged drops leads used change.Keep old new = new ≡ old
IsChanged drops leads used change.Invalidate old new = drops used old new
IsChanged drops leads used (change.UpdateLeader leader) old new = leads used leader old new

-- lemmas

pub runs_running : {S R H : Type 0} (g : Stage S R H) → stage_runs g ≡ true → stage_phase g ≡ Running
runs_running stage.Fresh e = cc
runs_running (stage.Running p) e = refl
runs_running (stage.Sleeping n) e = refl
runs_running (stage.Cutting c) e = refl
runs_running stage.Cut e = cc
runs_running stage.Over e = cc
runs_running stage.Stopped e = cc

pub failed_by_longer : (n : ℕ) (o later : Posted) (h longer : List Event) → IsLater o later → Within h longer → HaveFailedBy n o h → HaveFailedBy n later longer
failed_by_longer n o later h longer l w f =
    rw (l.line, l.beat) (failed_below_wider (heard_in longer) o.line o.beat o.next later.next n l.next (failed_below_more (heard_longer h longer w) o.line o.beat o.next n f))

failed_before_longer : {S A : Type 0} (m : Meaning S A) (p : S) (n : ℕ) (o later : Posted) (h longer : List Event) → IsLater o later → Within h longer → HaveFailedBefore m p n o h → HaveFailedBefore m p n later longer
failed_before_longer m p n o later h longer l w f = record {
  first = f.first;
  given = le_trans f.given l.next;
  failed = rw (l.line, l.beat) (failed_below_more (heard_longer h longer w) o.line o.beat f.first n f.failed);
  later = f.later;
}

module _ {S R : Type 0} (m : Meaning S (Result R Error)) (keys : R → List ErrorView) (region : R → Option RegionErr) (law : IsLawful m) where
  refused_longer : (job : S) (h longer : List Event) (e : RegionErr) → Within h longer → IsRefused m keys region job h e → IsRefused m keys region job longer e
  refused_longer job h longer e w i = record { reply = i.reply; given = law.gives_longer job h longer (Ok i.reply) w i.given; clean = i.clean; found = i.found }

  pub failed_longer : (job : S) (h longer : List Event) → Within h longer → HasFailed m keys region job h → HasFailed m keys region job longer
  failed_longer job h longer w (inl l) = inl (l.0, law.gives_longer job h longer (Err (GrpcAPI l.0)) w l.1)
  failed_longer job h longer w (inr r) = inr (r.0, refused_longer job h longer r.0 w r.1)

  result_longer : (job : S) (h longer : List Event) (v : Result R Error) → Within h longer → IsResult m keys region job h v → IsResult m keys region job longer v
  result_longer job h longer (Ok reply) w i = (law.gives_longer job h longer (Ok reply) w i.0, i.1, i.2)
  result_longer job h longer (Err why) w i = (i.0, law.gives_longer job h longer (Ok i.0) w i.1, i.2, i.3)

  spent_longer : (limit : ℕ) (h longer : List Event) → Within h longer → IsSpent (heard_in h) limit → IsSpent (heard_in longer) limit
  spent_longer limit h longer w s = spent_more (heard_longer h longer w) limit s

  pub outcome_longer : (limit : ℕ) (used : RegionVerId) (job : S) (h longer : List Event) (v : Result (Result R Error) Error) → Within h longer → IsOutcome m keys region limit used job h v → IsOutcome m keys region limit used job longer v
  outcome_longer limit used job h longer (Ok v) w i = result_longer job h longer v w i
  outcome_longer limit used job h longer (Err why) w (inl own) = inl (record { given = law.gives_longer job h longer (Err why) w own.given; spent = λ e. spent_longer limit h longer w (own.spent e) })
  outcome_longer limit used job h longer (Err why) w (inr (inl r)) =
      inr (inl (record { error = r.error; delay = r.delay; refused = refused_longer job h longer r.error w r.refused; spent = λ e. spent_longer limit h longer w (r.spent e); end = r.end }))
  outcome_longer limit used job h longer (Err why) w (inr (inr f)) = inr (inr (failed_longer job h longer w f.0, IsLookUpRefused-longer h longer why w f.1))

module _ {S R H L : Type 0} (m : Meaning S (Result R Error)) (keys : R → List ErrorView) (region : R → Option RegionErr) (is_part : S → S → Type 0) (load : S → L) (are_cut : L → List L → Type 0) (most : S → ℕ → ℕ) (law : IsLawful m) where
  looking : IsLawful (cutting {H = H} m is_part load are_cut most)
  looking = cutting-lawful m is_part load are_cut most

  step_longer : (t : RegionTask S R H) (h longer : List Event) (s : Step (RegionTask S R H) R) → Within h longer → StepGives m keys region is_part load are_cut most t h s → StepGives m keys region is_part load are_cut most t longer s
  step_longer t h longer (End v) w g = outcome_longer m keys region law (limit_of t) t.region t.job h longer v w g
  step_longer t h longer (Parts tasks) w g = (failed_longer m keys region law t.job h longer w g.0, g.1)

  at_longer : (job : S) (n : ℕ) (g : Stage S R H) (o p : Posted) (h longer : List Event) → IsLater o p → Within h longer → TaskAt m keys region job n g o h → TaskAt m keys region job n g p longer
  at_longer job n stage.Fresh o p h longer l w f = failed_by_longer n o p h longer l w f
  at_longer job n (stage.Running q) o p h longer l w f = (law.fits_longer q o p h longer l w f.0, f.1, failed_before_longer m q n o p h longer l w f.2)
  at_longer job n (stage.Sleeping k) o p h longer l w f = (WasPosted-longer h longer (EndOf k) l w f.0, failed_longer m keys region law job h longer w f.1, failed_by_longer n o p h longer l w f.2)
  at_longer job n (stage.Cutting c) o p h longer l w f =
      (looking.fits_longer c o p h longer l w f.0, f.1, failed_longer m keys region law job h longer w f.2, failed_by_longer n o p h longer l w f.3)
  at_longer job n stage.Cut o p h longer l w f = failed_by_longer n o p h longer l w f
  at_longer job n stage.Over o p h longer l w f = tt
  at_longer job n stage.Stopped o p h longer l w f = tt

  more_borne : (g : Stage S R H) (w more : ℕ) → w ≤ more → StageBears m g w → StageBears m g more
  more_borne stage.Fresh w more l b = tt
  more_borne (stage.Running p) w more l b = law.bears_more p w more l b
  more_borne (stage.Sleeping n) w more l b = tt
  more_borne (stage.Cutting c) w more l b = tt
  more_borne stage.Cut w more l b = tt
  more_borne stage.Over w more l b = tt
  more_borne stage.Stopped w more l b = tt

  waits_running : (g : Stage S R H) (a : Awaited) → StageWaits m g a → stage_phase g ≡ Running
  waits_running stage.Fresh a w = absurd w
  waits_running (stage.Running p) a w = refl
  waits_running (stage.Sleeping n) a w = refl
  waits_running (stage.Cutting c) a w = refl
  waits_running stage.Cut a w = absurd w
  waits_running stage.Over a w = absurd w
  waits_running stage.Stopped a w = absurd w

  something : (job : S) (n : ℕ) (g : Stage S R H) (o : Posted) (h : List Event) → TaskAt m keys region job n g o h → stage_phase g ≡ Running → (a : Awaited) × StageWaits m g a
  something job n stage.Fresh o h f e = absurd (subst IsRunning (sym e) tt)
  something job n (stage.Running p) o h f e = law.waits p o h f.0 f.1
  something job n (stage.Sleeping k) o h f e = (EndOf k, refl)
  something job n (stage.Cutting c) o h f e = looking.waits c o h f.0 f.1
  something job n stage.Cut o h f e = absurd (subst IsRunning (sym e) tt)
  something job n stage.Over o h f e = absurd (subst IsRunning (sym e) tt)
  something job n stage.Stopped o h f e = absurd (subst IsRunning (sym e) tt)

  was_posted : (job : S) (n : ℕ) (g : Stage S R H) (o : Posted) (h : List Event) (a : Awaited) → TaskAt m keys region job n g o h → StageWaits m g a → WasPosted o h a
  was_posted job n stage.Fresh o h a f w = absurd w
  was_posted job n (stage.Running p) o h a f w = law.posted p o h a f.0 w
  was_posted job n (stage.Sleeping k) o h a f w = rw w f.0
  was_posted job n (stage.Cutting c) o h a f w = looking.posted c o h a f.0 w
  was_posted job n stage.Cut o h a f w = absurd w
  was_posted job n stage.Over o h a f w = absurd w
  was_posted job n stage.Stopped o h a f w = absurd w

  pub region_task-lawful : IsLawful (region_task {H = H} m keys region is_part load are_cut most)
  region_task-lawful = record {
    fits_longer = λ t o p h longer l w f. record { at = at_longer t.job (tried t) t.stage o p h longer l w f.at };
    gives_longer = λ t h longer s w g. step_longer t h longer s w g;
    bears_more = λ t w more l b. more_borne t.stage w more l b;
    runs = λ t a w. waits_running t.stage a w;
    waits = λ t o h f e. something t.job (tried t) t.stage o h f.at e;
    posted = λ t o h a f w. was_posted t.job (tried t) t.stage o h a f.at w;
  }
