-- How calls fail, by what they had heard, and what a trace shows of that. Where there is no trace nothing is asked of it.
use Rattle.std.specs.Prelude.{IfSome, ◌≡◌, ◌⊎◌, ⊤, ℕ, Bool, false, List, [], ◌∷◌, ◌++◌, length, Option, Some, None, Result, Ok, Err}
use Rattle.std.specs.List.{All}
use Rattle.txn_kv.specs.ErrorView.{view_of}
use Rattle.txn_kv.specs.ErrorView.ErrorView.{undetermined as not_known}
use Rattle.txn_kv.specs.Timestamp.{version_of}
use Rattle.txn_kv.specs.declared.errors.Error.{Error}
use Rattle.txn_kv.specs.declared.errors.Error.TheVariants.{GrpcAPI}
use Rattle.txn_kv.specs.declared.errors.Internal.{Internal}
use Rattle.txn_kv.specs.declared.outbox.Errand.TheVariants.{Send}
use Rattle.txn_kv.specs.declared.request.commits.CommitRequest.{CommitRequest}
use Rattle.txn_kv.specs.declared.request.Request.{Request}
use Rattle.txn_kv.specs.declared.request.Request.TheVariants.{Commit, Tso}
use Rattle.txn_kv.specs.declared.request.cluster.TsoRequest.{TsoRequest}
use Rattle.txn_kv.specs.declared.ticket.Target.{Target}
use Rattle.txn_kv.specs.declared.ticket.Ticket.{Ticket}
use Rattle.txn_kv.specs.declared.timestamp.Timestamp.{Timestamp}
use Rattle.txn_history.specs.Among.{IsAmong}
use Rattle.txn_history.specs.Event.{Event, Has}
use Rattle.txn_history.specs.Event.Event.{Lost, Took}
use Rattle.txn_history.specs.Plan.{Plan}
use Rattle.txn_history.specs.Posted.{Posted, ticket_of}
use Rattle.txn_merge.specs.declared.retry_options.RetryOptions.{RetryOptions}
use Rattle.txn_kv.specs.declared.arrival.Arrival.{Arrival}
use Rattle.txn_kv.specs.declared.arrival.Arrival.TheVariants as arrivals
use Rattle.txn_buffer.specs.Contents.{Contents}
use Rattle.txn_commit.specs.Ways.{Ways}
use Rattle.txn_commit.specs.Following.{Commits, CommitsPrimary, KnowsCommits, PrimaryLost, undetermined}
use Rattle.txn_commit.specs.Parts.{parts_of}
use Rattle.txn_commit.specs.Sending.{plan_of}
use Rattle.txn_plan.specs.Timing.{WasUntimed}
use Rattle.txn_commit.specs.declared.commit_parts.CommitParts.{CommitParts}
use Rattle.txn_core.specs.Going.{FailsWith}
use Rattle.txn_core.specs.Transaction.{Standing}
use Rattle.txn_lines.specs.declared.begin_options.BeginOptions.{BeginOptions}
use Rattle.txn_side.specs.Account.{Account, refusal}
use Rattle.txn_lines.specs.declared.act.Act.{Act}
use Rattle.txn_lines.specs.declared.act.Act.TheVariants.{Rollback}
use Rattle.txn_side.specs.Sight.{Group, Stand, stand_at}
use Rattle.txn_side.specs.Sight.Stand.{Asking, Calling}
use Rattle.txn_side.specs.Trace.{AreOwn, AreShown, CallKind, EndsFor, HasRefused, HasRefusedBeside, IsBegunAs, IsCalled, IsLonger, IsRefusedNow, IsSentIn, IsShown, LastTold, Trace, and_refused, refused_as, refused_asks, untimed_by, untimed_of, with_posted}
use Rattle.txn_side.specs.Trace.CallKind.{ForTimestamp, OfRollback, OfTransaction}
use Rattle.txn_side.specs.declared.turn.Ending.{Ending}
use Rattle.txn_side.specs.declared.turn.Posting.{Posting}
use Rattle.txn_tso.specs.Oracle.{Answer as Answered}
use Rattle.txn_clients.specs.Accounts.{account_of}
use Rattle.txn_client.specs.declared.client_answer.ClientAnswer.{ClientAnswer}
use Rattle.txn_client.specs.declared.client_answer.ClientAnswer.TheVariants.{Begun, Time}
use Rattle.txn_clients.specs.Options.{retries_of}
use Rattle.txn_clients.specs.Rows.{Pd}
use Rattle.txn_clients.specs.Want.{wants_memory}
use Rattle.txn_clients.specs.declared.answer.Answer.{Answer}
use Rattle.txn_clients.specs.declared.answer.Answer.TheVariants as answers
use Rattle.txn_clients.specs.declared.row.Row.{Row}
use Rattle.txn_clients.specs.declared.row.Row.TheVariants as row
use Rattle.txn_clients.specs.declared.told.Told.{Told}
use Rattle.txn_clients.specs.declared.told.Told.TheVariants as tells

-- How a call fails

-- A transaction with its options, what is committed of what its buffer holds, and what is known of the Commits of its primary.
pub record KnownTransaction (h : List Event) : Type 0 where
  pub start : Timestamp
  pub retry_options : RetryOptions
  pub contents : Contents
  pub parts : CommitParts
  pub whole : parts_of contents ≡ Some parts
  pub commits : Commits
  pub known : KnowsCommits (plan_of parts) (version_of start) commits h

-- a transaction that tries again so often began with such options
abbrev pub AreRetriesOf : (BeginOptions → Type 0) → RetryOptions → Type 0
AreRetriesOf begun retries = (options : BeginOptions) × begun options × (retries ≡ retries_of options)

-- a commit or a rollback of it failed with this error
pub record CallFailed {P : Type 0} (w : Ways P) (begun : BeginOptions → Type 0) (h : List Event) (e : Error) : Type 0 where
  pub transaction : KnownTransaction h
  pub retries : AreRetriesOf begun transaction.retry_options
  pub fails : FailsWith w transaction.retry_options (version_of transaction.start) transaction.parts (undetermined transaction.commits) h e

-- a rollback of it was refused, since this Commit of its primary was lost
pub record CallRefused (h : List Event) (e : Error) : Type 0 where
  pub transaction : KnownTransaction h
  pub ticket : Ticket
  pub left : transaction.commits.lost ≡ Some ticket
  pub lost : PrimaryLost (plan_of transaction.parts) (version_of transaction.start) h ticket
  pub error : view_of e ≡ not_known (view_of (GrpcAPI ticket))

-- How a call of a kind may fail: one for a timestamp only where there was none.
abbrev pub HasFailedFor : {P : Type 0} → Ways P → CallKind → (BeginOptions → Type 0) → List Event → Error → Type 0
HasFailedFor w ForTimestamp begun h e = WasUntimed h e
HasFailedFor w OfTransaction begun h e = CallFailed w begun h e
HasFailedFor w OfRollback begun h e = CallRefused h e

-- With what a line fails: an error that holds want of memory is told to no line.
pub record FailsFor {P : Type 0} (w : Ways P) (kind : CallKind) (begun : BeginOptions → Type 0) (h : List Event) (e : Error) : Type 0 where
  pub why : HasFailedFor w kind begun h e
  pub fed : wants_memory (view_of e) ≡ false

abbrev pub IfFails : {X : Type 0} → (Error → Type 0) → Result X Error → Type 0
IfFails P (Ok x) = ⊤
IfFails P (Err e) = P e

-- What a trace shows

abbrev pub ShownIn : Option Trace → ℕ → List Event → Type 0
ShownIn None at h = ⊤
ShownIn (Some t) at h = AreShown t at h

abbrev pub CalledIn : Option Trace → ℕ → ℕ → Type 0
CalledIn None line at = ⊤
CalledIn (Some t) line at = IsCalled t line at

abbrev pub SentIn : Option Trace → Ticket → Request → Type 0
SentIn None u r = ⊤
SentIn (Some t) u r = IsSentIn t u r

-- at least so many asks of the line were refused, besides those of which it is still to be told
abbrev pub CountedIn : Option Trace → ℕ → ℕ → Type 0
CountedIn None line n = ⊤
CountedIn (Some t) line n = HasRefusedBeside t line n

abbrev pub LongerIn : Option Trace → Option Trace → Type 0
LongerIn None None = ⊤
LongerIn (Some t) (Some longer) = IsLonger t longer × (longer.refused ≡ t.refused) × (t.begun ≡ longer.begun) × (t.came ≡ longer.came)
LongerIn _ _ = ⊥

-- what stands at this line tries again as often as it was to
abbrev pub RetriesIn : Option Trace → ℕ → RetryOptions → Type 0
RetriesIn None at retries = ⊤
RetriesIn (Some t) at retries = AreRetriesOf (IsBegunAs t at) retries

-- the line begins a transaction with these options
abbrev pub BeginsIn : Option Trace → ℕ → BeginOptions → Type 0
BeginsIn None at options = ⊤
BeginsIn (Some t) at options = IsBegunAs t at options

-- this Commit of the primary of such a transaction, which stands at the line, was lost
abbrev pub LostIn : Option Trace → ℕ → Plan → ℕ → Ticket → Type 0
LostIn None at plan s u = ⊤
LostIn (Some t) at plan s u = (r : CommitRequest) × IsShown t at (Lost u (Commit r)) × CommitsPrimary plan s r

-- so was the one that the transaction marks as lost
abbrev pub MarkedIn : {P : Type 0} → Option Trace → ℕ → Standing P → Type 0
MarkedIn trace at t = (parts : CommitParts) → parts_of t.contents ≡ Some parts → (u : Ticket) → t.commits.lost ≡ Some u → LostIn trace at (plan_of parts) (version_of t.start) u

-- this was posted in the step so far
abbrev pub posting_in : List Posting → Option Trace → Option Trace
posting_in ps None = None
posting_in ps (Some t) = Some (with_posted ps t)

-- the trace knows whom is told what comes for the line of each call
pub record AreToldIn (trace : Option Trace) (stands : List Stand) : Type 0 where
  pub asks : (n c : ℕ) (b : Bool) → stand_at stands n ≡ Asking c b → CalledIn trace n n
  pub calls : (n c x : ℕ) (b : Bool) → stand_at stands n ≡ Calling c x b → CalledIn trace n x

-- What is told

-- once this is to be told, too
abbrev pub owing_one : Result Timestamp Error → ℕ → Option Trace → Option Trace
owing_one x line None = None
owing_one x line (Some t) = Some (record t { owed = and_refused x line t.owed })

-- where this is told next: a refused ask is still to be told
abbrev pub owing : ℕ → Told → Option Trace → Option Trace
owing line (tells.Heard (arrivals.Time k x)) trace = owing_one x line trace
owing line told trace = trace

-- the lines of those whose asks are refused
abbrev pub refused_of : List Answered → List ℕ
refused_of [] = []
refused_of (a ∷ given) = and_refused a.1 a.0.line (refused_of given)

-- once these lines are to be told that their asks were refused
abbrev pub owing_all : List ℕ → Option Trace → Option Trace
owing_all lines None = None
owing_all lines (Some t) = Some (record t { owed = lines ++ t.owed })

-- it has happened
abbrev pub HasComeIn : Trace → Posted → Arrival → Type 0
HasComeIn t o (arrivals.Reply n x) = (r : Request) → IsSentIn t (ticket_of o n) r → Has t.events (Took (ticket_of o n) r x)
HasComeIn t o (arrivals.Lost n) = (r : Request) → IsSentIn t (ticket_of o n) r → Has t.events (Lost (ticket_of o n) r)
HasComeIn t o (arrivals.Slept n) = ⊤
HasComeIn t o (arrivals.Time k x) = IfFails (IsRefusedNow t o.line) x

abbrev pub CameIn : Option Trace → Posted → Arrival → Type 0
CameIn None o a = ⊤
CameIn (Some t) o a = HasComeIn t o a

-- what is refused is noted
abbrev pub RefusedIn : Option Trace → ℕ → Option Error → Type 0
RefusedIn None line why = ⊤
RefusedIn (Some t) line why = (e : Error) → why ≡ Some e → IsAmong t.refused (record { line = line; error = e })

-- the line rolls back
abbrev pub RollsIn : Option Trace → ℕ → Type 0
RollsIn None line = ⊤
RollsIn (Some t) line = IsAmong t.rollbacks line

abbrev pub RollsBackIn : Option Trace → ℕ → Act → Type 0
RollsBackIn trace line Rollback = RollsIn trace line
RollsBackIn trace line act = ⊤

-- what is known of what a line asks of a transaction with this account: with what it is refused, and whether it rolls back
abbrev pub KnowsAsk : Option Trace → ℕ → Act → Account → Type 0
KnowsAsk trace line act account = RefusedIn trace line (refusal act account) × RollsBackIn trace line act

-- a row may be told this for the line of an outbox
abbrev pub MayKnow : {P : Type 0} → Option Trace → Posted → Told → Row P → Type 0
MayKnow trace o tells.Start r = ⊤
MayKnow trace o (tells.Act act) (row.Begun c t m) = KnowsAsk trace o.line act (account_of t)
MayKnow trace o (tells.Act act) r = ⊤
MayKnow trace o (tells.Heard a) r = CameIn trace o a

-- what comes for the line is told to what stands there, if that has a history
abbrev pub CalledFor : {P : Type 0} → Option Trace → ℕ → ℕ → Row P → Type 0
CalledFor trace line at (row.Asking c b call) = CalledIn trace line at
CalledFor trace line at (row.Begun c t m) = CalledIn trace line at
CalledFor trace line at r = ⊤

-- What a row posts is sent, by no heartbeat: `later` is the trace once it is.
pub record HasMet (trace later : Option Trace) (from to : Posted) : Type 0 where
  pub calls : from.beat ≡ false
  pub longer : LongerIn trace later
  pub sent : (n : ℕ) (store : Target) (r : Request) → IsAmong to.sends (Send n store r) → SentIn later (ticket_of from n) r

-- What an error rests on

-- a history that is shown as that of what stands there, where the line rolls back
abbrev pub IsBarredAt : {P : Type 0} → Ways P → Trace → ℕ → ℕ → Error → Type 0
IsBarredAt w t at line e = IsAmong t.rollbacks line × (known : List Event) × AreShown t at known × HasFailedFor w OfRollback (IsBegunAs t at) known e

-- or one that is the line's own, too, after which a call of its kind may fail so; or it was a refusal
abbrev pub FailsAt : {P : Type 0} → Ways P → CallKind → Option Trace → ℕ → ℕ → Error → Type 0
FailsAt w kind None at line e = ⊤
FailsAt w kind (Some t) at line e = ((h : List Event) × AreShown t at h × AreOwn line h × HasRefused t line (refused_asks h) × (HasFailedFor w kind (IsBegunAs t at) h e ⊎ IsBarredAt w t at line e)) ⊎ IsAmong t.refused (record { line = line; error = e })

-- What a call for a timestamp answers: a transaction that begins has the options that its line tells of.
abbrev pub AskRests : {P : Type 0} → Ways P → Option Trace → ℕ → ℕ → Result (ClientAnswer Pd P) Error → Type 0
AskRests w trace at line (Ok (Begun b)) = RetriesIn trace at b.options.retry_options
AskRests w trace at line (Ok (Time t)) = ⊤
AskRests w trace at line (Err e) = FailsAt w ForTimestamp trace at line e

abbrev pub AnswerRests : {P : Type 0} → Ways P → Option Trace → ℕ → ℕ → Answer P → Type 0
AnswerRests w trace at line (answers.Asked v) = AskRests w trace at line v
AnswerRests w trace at line (answers.Called v) = IfFails (FailsAt w OfTransaction trace at line) v

abbrev pub HasReason : {P : Type 0} → Ways P → Option Trace → Ending → Type 0
HasReason w None ending = ⊤
HasReason w (Some t) ending = EndsFor (FailsFor w) t ending

-- calls ended in a part, and each that failed has its reason
pub record EndsMore {P : Type 0} (w : Ways P) (trace : Option Trace) (from to : List Ending) : Type 0 where
  pub more : List Ending
  pub ended : to ≡ from ++ more
  pub each : All (HasReason w trace) more

-- Why there is no timestamp

-- what is told of it
abbrev pub untimed_told : Told → Option Internal
untimed_told (tells.Heard (arrivals.Time k (Err e))) = untimed_by e
untimed_told told = None

-- an error that says it says what is told now
abbrev pub IsToldLast : Option Internal → Error → Type 0
IsToldLast told e = IfSome (untimed_of e) (λ what. told ≡ Some what)

-- and it was the line's last refusal so far
abbrev pub LastIn : Option Trace → ℕ → Error → Type 0
LastIn None line e = ⊤
LastIn (Some t) line e = LastTold t line e

-- Groups of asks

-- each that is told that there is no timestamp is told why
abbrev pub AreGivenIn : Option Trace → List Answered → Type 0
AreGivenIn None given = ⊤
AreGivenIn (Some t) given = All (λ a. IfFails (IsRefusedNow t a.0.line) a.1) given

-- what came for the request for timestamps that is out has happened, and the trace has the group
abbrev pub GroupCameIn : Option Trace → Option Group → (Ticket → Request → Event) → Type 0
GroupCameIn None out event = ⊤
GroupCameIn (Some t) out event = (g : Group) → out ≡ Some g → IsAmong t.groups g × ((r : TsoRequest) × Has t.events (event g.ticket (Tso r))) × (t.came ≡ Some g.ticket)

-- the lines whose asks are refused as this comes for the request for timestamps that is out
abbrev pub refused_out : (Ticket → Request → Event) → Option Group → List ℕ
refused_out event None = []
refused_out event (Some g) = refused_as (event g.ticket (Tso (record { count = length g.askers }))) g.askers

-- an outbox of a line
abbrev pub outbox_of : ℕ → Posted
outbox_of line = record { line = line; beat = false; next = 0; next_ask = 0; sends = [] }
