-- The job that commits the other keys of a transaction whose primary is committed.
use Rattle.std.specs.Prelude.{◌≡◌, ◌≤◌, ⊤, ℕ, true, false, List, length, Result, Ok, Err}
use Rattle.std.proofs.Common.{subst, sym}
use Rattle.txn_kv.specs.Timestamp.{HasVersion, version_of}
use Rattle.txn_kv.specs.declared.errors.Error.{Error}
use Rattle.txn_kv.specs.declared.request.commits.CommitRequest.{CommitRequest}
use Rattle.txn_kv.specs.declared.request.Request.TheVariants.{Commit}
use Rattle.txn_history.specs.Event.{Event}
use Rattle.txn_history.specs.Later.{IsLater}
use Rattle.txn_history.specs.Licence.{PrimaryCommitted}
use Rattle.txn_history.specs.Meaning.{IsLawful, Meaning, WasPosted}
use Rattle.txn_history.specs.Phase.{Awaited, IsRunning, Phase}
use Rattle.txn_history.specs.Phase.Phase.{Fresh, GivenUp, Running}
use Rattle.txn_history.specs.Plan.{Key, has_key, Plan}
use Rattle.txn_history.specs.Plan.Way.{TwoPhases}
use Rattle.txn_history.specs.Posted.{Posted, Within}
use Rattle.txn_merge.specs.declared.retry_options.RetryOptions.{RetryOptions}
use Rattle.txn_commit.specs.Plans.{AreCommitted, IsOfCommit, IsPlanFor, IsUnderWay, Says, committed_longer, says_longer}
use Rattle.txn_commit.specs.Sending.{MaySendBehind}
use Rattle.txn_commit.specs.declared.secondary_job.SecondaryJob.{SecondaryJob}
use Rattle.txn_commit.specs.declared.secondary_job.Stage.{Stage}
use Rattle.txn_commit.specs.declared.secondary_job.Stage.TheVariants as stage

-- the plan of its Commits is under way
pub record IsOut {P B : Type 0} (m : Meaning P (Result B Error)) (refuses : List Event → Error → Type 0) (s c : ℕ) (keys : List Key) (q : P) (o : Posted) (h : List Event) : Type 0 where
  pub now : m.fits q o h
  pub way : IsUnderWay m refuses (IsOfCommit s c keys) (AreCommitted s c keys) q

abbrev pub IsJobAt : {P B : Type 0} → Meaning P (Result B Error) → (List Event → Error → Type 0) → ℕ → ℕ → List Key → List Key → Stage P → Posted → List Event → Type 0
IsJobAt m refuses s c keys kept stage.Fresh o h = kept ≡ keys
IsJobAt m refuses s c keys kept (stage.Committing q) o h = IsOut m refuses s c keys q o h
IsJobAt m refuses s c keys kept stage.Stopped o h = ⊤

-- The job of these keys can have arisen from the history: the transaction commits in two phases, the primary's Commit was answered without error, and the primary is
-- none of them. Its plan is made with its options.
pub record JobFits {P B : Type 0} (m : Meaning P (Result B Error)) (refuses : RetryOptions → List Event → Error → Type 0) (plan : Plan) (keys : List Key) (job : SecondaryJob P) (o : Posted) (h : List Event) : Type 0 where
  pub way : plan.way ≡ TwoPhases
  pub apart : (k : Key) → has_key keys k ≡ true → k ≡ plan.primary → ⊥
  pub committed : PrimaryCommitted plan h (version_of job.start) (version_of job.commit)
  pub at : IsJobAt m (refuses job.retry_options) (version_of job.start) (version_of job.commit) keys job.keys job.stage o h

-- Once it is started it stands where its plan does.

abbrev pub job_phase : {P B : Type 0} → Meaning P (Result B Error) → Stage P → Phase
job_phase m stage.Fresh = Fresh
job_phase m (stage.Committing q) = m.phase q
job_phase m stage.Stopped = GivenUp

abbrev pub job_waits : {P B : Type 0} → Meaning P (Result B Error) → Stage P → Awaited → Type 0
job_waits m stage.Fresh a = ⊥
job_waits m (stage.Committing q) a = m.waits q a
job_waits m stage.Stopped a = ⊥

abbrev pub plan_ready : {P B : Type 0} → Meaning P (Result B Error) → Stage P → Type 0
plan_ready m stage.Fresh = ⊤
plan_ready m (stage.Committing q) = m.ready q
plan_ready m stage.Stopped = ⊤

-- its timestamps are in range
abbrev pub JobReady : {P B : Type 0} → Meaning P (Result B Error) → SecondaryJob P → Type 0
JobReady m job = HasVersion job.start × HasVersion job.commit × plan_ready m job.stage

-- a plan of so many keys is still to be made
abbrev pub job_round : {P B : Type 0} → Meaning P (Result B Error) → (ℕ → ℕ → ℕ) → ℕ → Stage P → ℕ → ℕ
job_round m costs size stage.Fresh n = costs size n
job_round m costs size (stage.Committing q) n = m.round q n
job_round m costs size stage.Stopped n = 0

abbrev pub job_left : {P B : Type 0} → Meaning P (Result B Error) → (ℕ → ℕ → ℕ) → ℕ → Stage P → ℕ → ℕ
job_left m costs size stage.Fresh n = costs size n
job_left m costs size (stage.Committing q) n = m.left q n
job_left m costs size stage.Stopped n = 0

abbrev pub job_width : {P B : Type 0} → Meaning P (Result B Error) → Stage P → ℕ
job_width m stage.Fresh = 0
job_width m (stage.Committing q) = m.width q
job_width m stage.Stopped = 0

abbrev pub job_bears : {P B : Type 0} → Meaning P (Result B Error) → Stage P → ℕ → Type 0
job_bears m stage.Fresh w = ⊤
job_bears m (stage.Committing q) w = m.bears q w
job_bears m stage.Stopped w = ⊤

-- The job of these keys of a transaction that means to write so. It sends no Commit that names the primary, and answers that
-- each of its keys was committed. Nobody runs it again.
abbrev pub others : {P B : Type 0} → Meaning P (Result B Error) → (RetryOptions → List Event → Error → Type 0) → (ℕ → ℕ → ℕ) → Plan → List Key → Meaning (SecondaryJob P) (Result (Unit {0}) Error)
others m refuses costs plan keys = record {
  fits = λ s o h. JobFits m refuses plan keys s o h;
  asks = λ s h r. MaySendBehind plan (version_of s.start) h r;
  gives = λ s h v. Says (refuses s.retry_options) (AreCommitted (version_of s.start) (version_of s.commit) keys) h v;
  phase = λ s. job_phase m s.stage;
  waits = λ s a. job_waits m s.stage a;
  ready = λ s. JobReady m s;
  round = λ s n. job_round m costs (length s.keys) s.stage n;
  left = λ s n. job_left m costs (length s.keys) s.stage n;
  width = λ s. job_width m s.stage;
  bears = λ s w. job_bears m s.stage w;
  fails = λ v. false;
}

-- what the answer of its plan is read as
abbrev pub ReadsDone : {B : Type 0} → Result B Error → Result (Unit {0}) Error → Type 0
ReadsDone (Ok b) v = v ≡ Ok tt
ReadsDone (Err e) v = v ≡ Err e

-- the job has made its plan, of the Commits of its keys and with its options, which is not begun
abbrev pub IsPlanned : {P B : Type 0} → Meaning P (Result B Error) → (RetryOptions → List Event → Error → Type 0) → (ℕ → ℕ → ℕ) → SecondaryJob P → SecondaryJob P → Type 0
IsPlanned {P} m refuses costs old new = (q : P) × (request : CommitRequest)
    × (request.start_version ≡ version_of old.start) × (request.commit_version ≡ version_of old.commit) × (request.keys ≡ old.keys)
    × IsPlanFor m (refuses old.retry_options) costs (Commit request) q × (new ≡ record old { keys = new.keys; stage = stage.Committing q })

-- lemmas

module _ {P B : Type 0} (m : Meaning P (Result B Error)) (law : IsLawful m) where
  at_longer : (refuses : List Event → Error → Type 0) (s c : ℕ) (keys kept : List Key) (g : Stage P) (o p : Posted) (h longer : List Event) → IsLater o p → Within h longer
      → IsJobAt m refuses s c keys kept g o h → IsJobAt m refuses s c keys kept g p longer
  at_longer refuses s c keys kept stage.Fresh o p h longer l w f = f
  at_longer refuses s c keys kept (stage.Committing q) o p h longer l w f = record { now = law.fits_longer q o p h longer l w f.now; way = f.way }
  at_longer refuses s c keys kept stage.Stopped o p h longer l w f = tt

  bears_more : (g : Stage P) (w more : ℕ) → w ≤ more → job_bears m g w → job_bears m g more
  bears_more stage.Fresh w more l b = tt
  bears_more (stage.Committing q) w more l b = law.bears_more q w more l b
  bears_more stage.Stopped w more l b = tt

  job_runs : (g : Stage P) (a : Awaited) → job_waits m g a → job_phase m g ≡ Running
  job_runs stage.Fresh a w = absurd w
  job_runs (stage.Committing q) a w = law.runs q a w
  job_runs stage.Stopped a w = absurd w

  something : (refuses : List Event → Error → Type 0) (s c : ℕ) (keys kept : List Key) (g : Stage P) (o : Posted) (h : List Event) → IsJobAt m refuses s c keys kept g o h → job_phase m g ≡ Running → (a : Awaited) × job_waits m g a
  something refuses s c keys kept stage.Fresh o h f e = absurd (subst IsRunning (sym e) tt)
  something refuses s c keys kept (stage.Committing q) o h f e = law.waits q o h f.now e
  something refuses s c keys kept stage.Stopped o h f e = absurd (subst IsRunning (sym e) tt)

  was_posted : (refuses : List Event → Error → Type 0) (s c : ℕ) (keys kept : List Key) (g : Stage P) (o : Posted) (h : List Event) (a : Awaited) → IsJobAt m refuses s c keys kept g o h → job_waits m g a → WasPosted o h a
  was_posted refuses s c keys kept stage.Fresh o h a f w = absurd w
  was_posted refuses s c keys kept (stage.Committing q) o h a f w = law.posted q o h a f.now w
  was_posted refuses s c keys kept stage.Stopped o h a f w = absurd w

  pub others-lawful : (refuses : RetryOptions → List Event → Error → Type 0) (costs : ℕ → ℕ → ℕ) (plan : Plan) (keys : List Key)
      → ((options : RetryOptions) (h longer : List Event) (e : Error) → Within h longer → refuses options h e → refuses options longer e)
      → IsLawful (others m refuses costs plan keys)
  others-lawful refuses costs plan keys longer = record {
    fits_longer = λ s o p h k l w f. record { way = f.way; apart = f.apart; committed = committed_longer plan (version_of s.start) (version_of s.commit) h k w f.committed; at = at_longer (refuses s.retry_options) (version_of s.start) (version_of s.commit) keys s.keys s.stage o p h k l w f.at };
    gives_longer = λ s h k v w g. says_longer (refuses s.retry_options) (version_of s.start) (version_of s.commit) keys (longer s.retry_options) h k v w g;
    bears_more = λ s w more l b. bears_more s.stage w more l b;
    runs = λ s a w. job_runs s.stage a w;
    waits = λ s o h f e. something (refuses s.retry_options) (version_of s.start) (version_of s.commit) keys s.keys s.stage o h f.at e;
    posted = λ s o h a f w. was_posted (refuses s.retry_options) (version_of s.start) (version_of s.commit) keys s.keys s.stage o h a f.at w;
  }
