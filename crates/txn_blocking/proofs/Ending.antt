-- How the calls of a transaction end.
use Rattle.std.proofs.Common.{◌≡◌, Bool, true, false, Some, None, refl, sym, ◌∙◌, ap, subst}
use Rattle.std.specs.Prelude.{IfOk, IfSome, Result, Ok, Err, if◌then◌else◌}
use Rattle.txn_blocking.specs.Blocking.{HasCome, job_in, time_in}
use Rattle.txn_commit.specs.Ways.{Ways}
use Rattle.txn_commit.specs.Jobs.{JobReady}
use Rattle.txn_core.specs.Going.{TransactionReady, WorkReady}
use Rattle.txn_core.specs.Status.{after_commit, allows_commit, status_step}
use Rattle.txn_core.specs.Status.Became.{commits}
use Rattle.txn_core.specs.Transaction.{GivesUp, Standing, commit_outcome, is_open, moved_by}
use Rattle.txn_core.specs.Waiting.{HandsOut}
use Rattle.txn_core.specs.declared.status.Status.{Status}
use Rattle.txn_core.specs.declared.status.Status.TheVariants as statuses
use Rattle.txn_core.specs.declared.transaction.Work.{Work}
use Rattle.txn_core.specs.declared.transaction.Work.TheVariants as works
use Rattle.txn_core.specs.declared.txn_answer.TxnAnswer.{TxnAnswer}
use Rattle.txn_core.specs.declared.txn_answer.TxnAnswer.TheVariants as answer
use Rattle.txn_history.specs.Meaning.{Meaning}
use Rattle.txn_history.specs.Turn.{turn_of}
use Rattle.txn_history.specs.Turn.Turn.{Ends, Stopped}
use Rattle.txn_kv.specs.Timestamp.{HasVersion}
use Rattle.txn_kv.specs.declared.errors.Error.{Error}
use Rattle.txn_kv.specs.declared.memory.NoMemory.{NoMemory}
use Rattle.txn_kv.specs.declared.progress.Progress.{Progress}
use Rattle.txn_kv.specs.declared.progress.Progress.TheVariants.{Waiting, Done}

-- a transaction without an open call may be called
pub ready_at_rest : {P : Type 0} (w : Ways P) (t : Standing P) → HasVersion t.start → is_open t.work ≡ false → TransactionReady w t
ready_at_rest w t h o = record { start = h; work = by t.work o }
  where
    by : (work : Work _) → is_open work ≡ false → WorkReady w t.start work
    by works.Idle o = tt
    by (works.Open call) o = absurd (no o)
      where
        no : true ≡ false → ⊥
        no e = cc
    by works.GaveUp o = tt

-- the job that is handed out may be started
pub job_ready : {P B : Type 0} (m : Meaning P (Result B Error)) (v : Result (TxnAnswer P) Error) → HandsOut m v → IfSome (job_in v) (JobReady m)
job_ready m (Ok (answer.Committed t job)) h = h.1
job_ready m (Ok answer.Unit) h = tt
job_ready m (Ok (answer.Value v)) h = tt
job_ready m (Ok (answer.Exists b)) h = tt
job_ready m (Ok (answer.Pairs v)) h = tt
job_ready m (Ok (answer.Keys v)) h = tt
job_ready m (Ok (answer.Ttl n)) h = tt
job_ready m (Err e) h = tt

-- no call is open, and none gave up
idle : {P : Type 0} (w : Work P) → is_open w ≡ false → (w ≡ works.GaveUp → ⊥) → w ≡ works.Idle
idle works.Idle o n = refl
idle (works.Open call) o n = absurd (no o)
  where
    no : true ≡ false → ⊥
    no e = cc
idle works.GaveUp o n = absurd (n refl)

kept_on : {P : Type 0} (p : Progress (TxnAnswer P)) → turn_of (Ok p) ≡ Stopped → ⊥
kept_on Waiting e = cc
kept_on (Done v) e = cc

idle_by : {P : Type 0} (old new : Standing P) (p : Progress (TxnAnswer P)) → is_open old.work ≡ false → GivesUp old new (turn_of (Ok p)) → old.work ≡ works.Idle
idle_by old new p o g = idle old.work o (λ e. kept_on p (g.after e).0)

came : {P : Type 0} (b : Bool) (v : Result (TxnAnswer P) Error) → HasCome (after_commit (commit_outcome (Ends v)) b) (time_in v)
came b (Ok (answer.Committed (Some t) job)) = refl
came b (Ok (answer.Committed None job)) = tt
came b (Ok answer.Unit) = refl
came b (Ok (answer.Value v)) = refl
came b (Ok (answer.Exists x)) = refl
came b (Ok (answer.Pairs v)) = refl
came b (Ok (answer.Keys v)) = refl
came b (Ok (answer.Ttl n)) = refl
came b (Err e) = refl

at_once : {P : Type 0} (s t : Status) (b : Bool) (v : Result (TxnAnswer P) Error) → allows_commit s ≡ true → t ≡ status_step s (commits (commit_outcome (Ends v)) b) → HasCome t (time_in v)
at_once s t b v a e = subst (λ u. HasCome u (time_in v)) (sym (e ∙ ap (λ c. if c then after_commit (commit_outcome (Ends v)) b else s) a)) (came b v)

went : {P : Type 0} (v : Result (TxnAnswer P) Error) → HasCome (moved_by statuses.StartedCommit (Ends v)) (time_in v)
went (Ok (answer.Committed (Some t) job)) = refl
went (Ok (answer.Committed None job)) = tt
went (Ok answer.Unit) = refl
went (Ok (answer.Value v)) = refl
went (Ok (answer.Exists x)) = refl
went (Ok (answer.Pairs v)) = refl
went (Ok (answer.Keys v)) = refl
went (Ok (answer.Ttl n)) = refl
went (Err e) = refl

later : {P : Type 0} (s t u : Status) (b : Bool) (v : Result (TxnAnswer P) Error) → allows_commit s ≡ true → t ≡ status_step s (commits None b) → u ≡ moved_by t (Ends v) → HasCome u (time_in v)
later s t u b v a e f =
    let begun : t ≡ statuses.StartedCommit = e ∙ ap (λ c. if c then statuses.StartedCommit else s) a in
    subst (λ x. HasCome x (time_in v)) (sym (f ∙ ap (λ x. moved_by x (Ends v)) begun)) (went v)

-- a commit that answered at once
pub commits_at_once : {P : Type 0} (old new : Standing P) (b : Bool) (p : Progress (TxnAnswer P)) (v : Result (TxnAnswer P) Error) → p ≡ Done v → is_open old.work ≡ false → GivesUp old new (turn_of (Ok p))
    → (old.work ≡ works.Idle → new.status ≡ status_step old.status (commits (commit_outcome (turn_of (Ok p))) b)) → allows_commit old.status ≡ true → HasCome new.status (time_in v)
commits_at_once old new b p v e o g s a =
    at_once old.status new.status b v a (subst (λ q. new.status ≡ status_step old.status (commits (commit_outcome (turn_of (Ok q))) b)) e (s (idle_by old new p o g)))

-- and one that waited first
pub commits_later : {P : Type 0} (old mid new : Standing P) (b : Bool) (p : Progress (TxnAnswer P)) (r : Result (Result (TxnAnswer P) Error) NoMemory) → p ≡ Waiting → is_open old.work ≡ false → GivesUp old mid (turn_of (Ok p))
    → (old.work ≡ works.Idle → mid.status ≡ status_step old.status (commits (commit_outcome (turn_of (Ok p))) b)) → IfOk r (λ v. new.status ≡ moved_by mid.status (Ends v)) → allows_commit old.status ≡ true → IfOk r (λ v. HasCome new.status (time_in v))
commits_later old mid new b p (Err x) e o g s m a = tt
commits_later old mid new b p (Ok v) e o g s m a =
    later old.status mid.status new.status b v a (subst (λ q. mid.status ≡ status_step old.status (commits (commit_outcome (turn_of (Ok q))) b)) e (s (idle_by old mid p o g))) m
