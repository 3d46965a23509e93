-- The commit and the rollback of a transaction in a run: what has happened where it stands, and what its answers stand on.
use Rattle.std.specs.Prelude.{◌≡◌, ◌≢◌, ◌⊎◌, ⊤, ℕ, true, false, List, [], ◌∷◌, Option, Some, None, Result, Ok, Err}
use Rattle.txn_kv.specs.ErrorView.{view_of}
use Rattle.txn_kv.specs.ErrorView.ErrorView.{undetermined as not_known}
use Rattle.txn_kv.specs.Timestamp.{HasVersion, version_of}
use Rattle.txn_kv.specs.declared.errors.Error.{Error}
use Rattle.txn_kv.specs.declared.errors.Error.TheVariants.{GrpcAPI}
use Rattle.txn_kv.specs.declared.request.commits.CommitRequest.{CommitRequest}
use Rattle.txn_kv.specs.declared.request.Request.{Request}
use Rattle.txn_kv.specs.declared.request.Request.TheVariants.{Commit}
use Rattle.txn_kv.specs.declared.ticket.Ticket.{Ticket}
use Rattle.txn_kv.specs.declared.timestamp.Timestamp.{Timestamp}
use Rattle.txn_history.specs.Event.{Event, Has}
use Rattle.txn_history.specs.Event.Event.{Sent}
use Rattle.txn_history.specs.Licence.{PrimaryCommitted, WasGiven, WasNamed}
use Rattle.txn_history.specs.Moves.{Knows, Moves}
use Rattle.txn_history.specs.Phase.Phase.{Running}
use Rattle.txn_history.specs.Plan.{Key, Plan}
use Rattle.txn_history.specs.Posted.{Posted}
use Rattle.txn_history.specs.Turn.{Turn, IfEnds, IfKept}
use Rattle.txn_history.specs.Turn.Turn.{Stopped, Waits, Ends}
use Rattle.txn_buffer.specs.Contents.{Contents}
use Rattle.txn_merge.specs.declared.retry_options.RetryOptions.{RetryOptions}
use Rattle.txn_commit.specs.Committing.{CommitterFits, CommitterGives, IsAllPrewritten, IsFormed, IsReady, StageReady}
use Rattle.txn_commit.specs.Following.{Commits, KnowsCommits, none_sent, undetermined}
use Rattle.txn_commit.specs.Going.{may_commit, stage_phase}
use Rattle.txn_commit.specs.Parts.{parts_of}
use Rattle.txn_commit.specs.Plans.{AreRolledBack}
use Rattle.txn_commit.specs.Sending.{MaySend, plan_of}
use Rattle.txn_commit.specs.declared.commit_parts.CommitParts.{CommitParts}
use Rattle.txn_commit.specs.declared.committer.CommitterAnswer.{CommitterAnswer}
use Rattle.txn_commit.specs.declared.committer.CommitterCall.{CommitterCall}
use Rattle.txn_commit.specs.declared.committer.Stage.TheVariants.{Over}
use Rattle.txn_commit.specs.declared.secondary_job.SecondaryJob.{SecondaryJob}
use Rattle.txn_commit.specs.declared.secondary_job.Stage.TheVariants.{Fresh}
use Rattle.txn_commit.specs.Ways.{Ways}
use Rattle.txn_core.specs.Status.{allows_data, has_turned_back}
use Rattle.txn_core.specs.Transaction.{Standing}
use Rattle.txn_core.specs.declared.status.Status.{Status}
use Rattle.txn_core.specs.declared.status.Status.TheVariants.{Rolledback}
use Rattle.txn_core.specs.declared.transaction.Work.{Work}
use Rattle.txn_core.specs.declared.transaction.Work.TheVariants.{Idle, Open, GaveUp}
use Rattle.txn_core.specs.declared.txn_answer.TxnAnswer.{TxnAnswer}
use Rattle.txn_core.specs.declared.txn_answer.TxnAnswer.TheVariants as answer

-- Where it stands

-- no Commit of this start was sent
abbrev pub IsUncommitted : ℕ → List Event → Type 0
IsUncommitted s h = (t : Ticket) (r : CommitRequest) → Has h (Sent t (Commit r)) → r.start_version ≡ s → ⊥

-- While it may be written, no Commit of it was sent.
pub record IsUnsent (s : ℕ) (c : Commits) (h : List Event) : Type 0 where
  pub none : c ≡ none_sent
  pub never : IsUncommitted s h

-- a timestamp that a Commit of the primary names was asked for after all keys were acknowledged
abbrev pub NamesReady : Plan → ℕ → List Event → Type 0
NamesReady plan s h = (d : ℕ) → WasNamed plan h s d → IsReady plan s d h

-- between calls: what is known of the Commits of the primary of these parts
pub record KnowsParts (s : ℕ) (c : Commits) (h : List Event) (parts : CommitParts) : Type 0 where
  pub formed : IsFormed parts
  pub knows : KnowsCommits (plan_of parts) s c h
  pub ready : NamesReady (plan_of parts) s h

-- and of what the buffer holds: where there is nothing to commit, none was sent
pub record KnowsContents (s : ℕ) (c : Commits) (h : List Event) (contents : Contents) : Type 0 where
  pub of_parts : (parts : CommitParts) → parts_of contents ≡ Some parts → KnowsParts s c h parts
  pub empty : parts_of contents ≡ None → c ≡ none_sent

-- The open call is of this transaction, with its options, and of what its buffer holds. Nothing is written meanwhile, and once a rollback was begun no
-- Commit of the primary is on its way.
pub record IsUnderWay {P : Type 0} (w : Ways P) (options : RetryOptions) (start : Timestamp) (status : Status) (contents : Contents) (c : Commits) (call : CommitterCall P) (o : Posted) (h : List Event) : Type 0 where
  pub own : call.start ≡ start
  pub retries : call.retry_options ≡ options
  pub started : allows_data status ≡ false
  pub back : has_turned_back status ≡ true → may_commit call.stage ≡ false
  pub whole : parts_of contents ≡ Some call.parts
  pub ready : NamesReady (plan_of call.parts) (version_of call.start) h
  pub fits : CommitterFits w call c o h

-- a call that is not begun
pub record IsNewCall {P : Type 0} (options : RetryOptions) (start : Timestamp) (parts : CommitParts) (call : CommitterCall P) : Type 0 where
  pub own : call.start ≡ start
  pub retries : call.retry_options ≡ options
  pub whole : call.parts ≡ parts
  pub stage : call.stage ≡ Over

abbrev pub IsAtWork : {P : Type 0} → Ways P → RetryOptions → Timestamp → Status → Contents → Commits → Work P → Posted → List Event → Type 0
IsAtWork w options start status contents c Idle o h = KnowsContents (version_of start) c h contents
IsAtWork w options start status contents c (Open call) o h = IsUnderWay w options start status contents c call o h
IsAtWork w options start status contents c GaveUp o h = ⊤

-- No key of these parts is locked, or each was rolled back: the primary and the others.
abbrev pub AreUndone : ℕ → CommitParts → List Event → Type 0
AreUndone s parts h = (parts.locks ≡ false) ⊎ (AreRolledBack s (parts.primary ∷ []) h × AreRolledBack s parts.secondaries h)

-- so it is of what the buffer holds
abbrev pub IsUndone : ℕ → Contents → List Event → Type 0
IsUndone s contents h = (parts : CommitParts) → parts_of contents ≡ Some parts → AreUndone s parts h

-- The transaction can have arisen from the history: its start was given. Once a rollback was begun each Commit of its primary was
-- refused, and stays so. What is rolled back was undone.
pub record TransactionFits {P : Type 0} (w : Ways P) (t : Standing P) (o : Posted) (h : List Event) : Type 0 where
  pub given : WasGiven h (version_of t.start)
  pub unsent : allows_data t.status ≡ true → IsUnsent (version_of t.start) t.commits h
  pub settled : has_turned_back t.status ≡ true → undetermined t.commits ≡ None
  pub undone : t.status ≡ Rolledback → IsUndone (version_of t.start) t.contents h
  pub at : IsAtWork w t.options.retry_options t.start t.status t.contents t.commits t.work o h

-- and so it can, while this call is open
pub record CallFits {P : Type 0} (w : Ways P) (t : Standing P) (call : CommitterCall P) (o : Posted) (h : List Event) : Type 0 where
  pub given : WasGiven h (version_of t.start)
  pub settled : has_turned_back t.status ≡ true → undetermined t.commits ≡ None
  pub undone : t.status ≡ Rolledback → IsUndone (version_of t.start) t.contents h
  pub under_way : IsUnderWay w t.options.retry_options t.start t.status t.contents t.commits call o h

-- a commit or a rollback of these parts may begin
pub record MayBegin {P : Type 0} (t : Standing P) (parts : CommitParts) (h : List Event) : Type 0 where
  pub given : WasGiven h (version_of t.start)
  pub started : allows_data t.status ≡ false
  pub settled : has_turned_back t.status ≡ true → undetermined t.commits ≡ None
  pub unrolled : t.status ≢ Rolledback
  pub knows : KnowsParts (version_of t.start) t.commits h parts

-- its open call may be told of something, and waits for something
abbrev pub WorkReady : {P : Type 0} → Ways P → Timestamp → Work P → Type 0
WorkReady w start Idle = ⊤
WorkReady w start (Open call) = (call.start ≡ start) × StageReady w call.stage × (stage_phase w call.stage ≡ Running)
WorkReady w start GaveUp = ⊤

pub record TransactionReady {P : Type 0} (w : Ways P) (t : Standing P) : Type 0 where
  pub start : HasVersion t.start
  pub work : WorkReady w t.start t.work

-- What it may send, and what an answer stands on

-- what the licences allow under the plan of its buffer
abbrev pub MaySendFor : Contents → ℕ → List Event → Request → Type 0
MaySendFor contents s h r = (parts : CommitParts) × (parts_of contents ≡ Some parts) × MaySend (plan_of parts) s h r

-- a job of these keys, with these options, that is not started
pub record IsJobOf {P : Type 0} (options : RetryOptions) (start commit : Timestamp) (keys : List Key) (job : SecondaryJob P) : Type 0 where
  pub own : job.start ≡ start
  pub retries : job.retry_options ≡ options
  pub at : job.commit ≡ commit
  pub names : job.keys ≡ keys
  pub stage : job.stage ≡ Fresh

-- there is none where no key is left
abbrev pub IsJobFor : {P : Type 0} → RetryOptions → Timestamp → Timestamp → List Key → Option (SecondaryJob P) → Type 0
IsJobFor options start commit [] None = ⊤
IsJobFor options start commit [] (Some job) = ⊥
IsJobFor options start commit (k ∷ ks) None = ⊥
IsJobFor options start commit (k ∷ ks) (Some job) = IsJobOf options start commit (k ∷ ks) job

-- the primary is committed at this timestamp, and the job commits the other keys
pub record IsCommitted {P : Type 0} (options : RetryOptions) (start t : Timestamp) (parts : CommitParts) (job : Option (SecondaryJob P)) (h : List Event) : Type 0 where
  pub primary : PrimaryCommitted (plan_of parts) h (version_of start) (version_of t)
  pub others : IsJobFor options start t parts.secondaries job

-- An error, where this Commit of the primary was lost or is not refused: the transaction may be committed, and that is what is said,
-- with the error that it ended with. Where there is none it is that error itself.
abbrev pub FailsWith : {P : Type 0} → Ways P → RetryOptions → ℕ → CommitParts → Option Ticket → List Event → Error → Type 0
FailsWith w options s parts None h e = CommitterGives w options s parts h (Err e)
FailsWith w options s parts (Some t) h e = (inner : Error) × (view_of e ≡ not_known (view_of inner)) × CommitterGives w options s parts h (Err inner)

abbrev pub StandsOn : {P : Type 0} → Ways P → RetryOptions → Timestamp → CommitParts → Commits → List Event → Result (TxnAnswer P) Error → Type 0
StandsOn w options start parts c h (Ok (answer.Committed (Some t) job)) = IsCommitted options start t parts job h
StandsOn w options start parts c h (Ok (answer.Committed None None)) = (parts.locks ≡ false) × IsAllPrewritten (version_of start) parts h
StandsOn w options start parts c h (Ok answer.Unit) = AreUndone (version_of start) parts h
StandsOn w options start parts c h (Err e) = FailsWith w options (version_of start) parts (undetermined c) h e
StandsOn w options start parts c h _ = ⊥

-- it is committed, or rolled back, and there was nothing to do
abbrev pub IsNothing : {P : Type 0} → Result (TxnAnswer P) Error → Type 0
IsNothing v = (v ≡ Ok (answer.Committed None None)) ⊎ (v ≡ Ok answer.Unit)

abbrev pub TransactionGives : {P : Type 0} → Ways P → RetryOptions → Timestamp → Contents → Commits → List Event → Result (TxnAnswer P) Error → Type 0
TransactionGives w options start contents c h v =
    ((parts : CommitParts) × (parts_of contents ≡ Some parts) × StandsOn w options start parts c h v) ⊎ ((parts_of contents ≡ None) × IsNothing v)

-- an event call of it, in a history of which more is known
abbrev pub TransactionMoves : {P : Type 0} → Ways P → (List Event → Type 0) → (List Event → List Event)
    → Standing P → Standing P → Posted → Posted → Turn (Result (TxnAnswer P) Error) → Type 0
TransactionMoves w known hear old new from to turn =
    Moves (MaySendFor old.contents (version_of old.start)) (λ h. TransactionFits w old from h × known h) (TransactionFits w new to) (TransactionGives w old.options.retry_options old.start old.contents new.commits) hear from to turn

-- the same from where this call is open, and from where one may begin
abbrev pub CallMoves : {P : Type 0} → Ways P → (List Event → Type 0) → (List Event → List Event) → CommitterCall P
    → Standing P → Standing P → Posted → Posted → Turn (Result (TxnAnswer P) Error) → Type 0
CallMoves w known hear call old new from to turn =
    Moves (MaySendFor old.contents (version_of old.start)) (λ h. CallFits w old call from h × known h) (TransactionFits w new to) (TransactionGives w old.options.retry_options old.start old.contents new.commits) hear from to turn

abbrev pub BeginMoves : {P : Type 0} → Ways P → (List Event → Type 0)
    → Standing P → Standing P → Posted → Posted → Turn (Result (TxnAnswer P) Error) → Type 0
BeginMoves w may old new from to turn =
    Moves (MaySendFor old.contents (version_of old.start)) may (TransactionFits w new to) (TransactionGives w old.options.retry_options old.start old.contents new.commits) (λ h. h) from to turn

-- what is known where the open call has gone on so
abbrev pub KnowsCall : {P : Type 0} → Ways P → CommitterCall P → Standing P → Posted → Turn (Result CommitterAnswer Error) → List Event → Type 0
KnowsCall w call t o inner h = Knows inner (CallFits w t call o) (CommitterGives w call.retry_options (version_of call.start) call.parts) h

-- it goes on after its open call did
pub record TakesUp {P : Type 0} (w : Ways P) (call : CommitterCall P) (old new : Standing P) (o : Posted) (inner : Turn (Result CommitterAnswer Error)) (turn : Turn (Result (TxnAnswer P) Error)) : Type 0 where
  pub still : IfKept turn ((h : List Event) → KnowsCall w call old o inner h → TransactionFits w new o h)
  pub done : IfEnds turn (λ v. (h : List Event) → KnowsCall w call old o inner h → TransactionGives w old.options.retry_options old.start old.contents new.commits h v)

-- the name of a failure: what is said of it where a Commit of the primary was lost or is not refused
abbrev pub IsNamed : Option Ticket → Error → Error → Type 0
IsNamed None inner e = e ≡ inner
IsNamed (Some t) inner e = view_of e ≡ not_known (view_of inner)

-- it ended with an error, or gave up
abbrev pub HasFailed : {A : Type 0} → Turn (Result A Error) → Type 0
HasFailed Stopped = ⊤
HasFailed Waits = ⊥
HasFailed (Ends (Ok v)) = ⊥
HasFailed (Ends (Err e)) = ⊤

-- it answers this timestamp, and the job of these keys
abbrev pub IsCommittedAt : {P : Type 0} → RetryOptions → Timestamp → Timestamp → List Key → Turn (Result (TxnAnswer P) Error) → Type 0
IsCommittedAt {P} options start t keys turn = (job : Option (SecondaryJob P)) × (turn ≡ Ends (Ok (answer.Committed (Some t) job))) × IsJobFor options start t keys job

-- a rollback may begin, of whatever the buffer holds
pub record MayGoBack {P : Type 0} (t : Standing P) (h : List Event) : Type 0 where
  pub given : WasGiven h (version_of t.start)
  pub settled : undetermined t.commits ≡ None
  pub knows : KnowsContents (version_of t.start) t.commits h t.contents

-- a start was given, and so much is known of the Commits of its primary
pub record MayStart (plan : Plan) (s : ℕ) (c : Commits) (h : List Event) : Type 0 where
  pub given : WasGiven h s
  pub knows : KnowsCommits plan s c h
  pub ready : NamesReady plan s h

-- the open call is still the one of the same parts, with the same options
pub record IsSameCall {P : Type 0} (call now : CommitterCall P) : Type 0 where
  pub start : now.start ≡ call.start
  pub parts : now.parts ≡ call.parts
  pub retries : now.retry_options ≡ call.retry_options

-- It is refused: whether it is committed is not known, since this Commit of the primary was lost or is not refused.
abbrev pub IsUndetermined : {P : Type 0} → Ticket → Turn (Result (TxnAnswer P) Error) → Type 0
IsUndetermined t Stopped = ⊤
IsUndetermined t Waits = ⊥
IsUndetermined t (Ends (Ok v)) = ⊥
IsUndetermined t (Ends (Err e)) = view_of e ≡ not_known (view_of (GrpcAPI t))
