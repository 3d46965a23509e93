-- A commit or a rollback in a run: what has happened where it stands, and what its answer stands on.
use Rattle.std.specs.Prelude.{◌≡◌, ◌≢◌, ◌⊎◌, ⊤, ℕ, ◌^◌, ◌-◌, true, false, List, [], ◌∷◌, Some, None, Result, Ok, Err}
use Rattle.txn_kv.specs.Timestamp.{HasVersion, version_of}
use Rattle.txn_kv.specs.declared.errors.Error.{Error}
use Rattle.txn_kv.specs.declared.request.commits.PrewriteRequest.{PrewriteRequest}
use Rattle.txn_kv.specs.declared.ticket.Ticket.{Ticket}
use Rattle.txn_kv.specs.declared.timestamp.Timestamp.{Timestamp}
use Rattle.txn_history.specs.Event.{Event, Has}
use Rattle.txn_history.specs.Event.Event.{Answered}
use Rattle.txn_history.specs.Licence.{AllAcknowledged, PrimaryCommitted, PrimaryRolledBack, WantedAfter, WasGiven}
use Rattle.txn_history.specs.Meaning.{Expects, Meaning, Told}
use Rattle.txn_history.specs.Moves.{Knows, Moves, SameJob}
use Rattle.txn_history.specs.Phase.Phase.{GivenUp}
use Rattle.txn_history.specs.Plan.{Key, has_key, AreDistinct, Plan}
use Rattle.txn_history.specs.Posted.{Posted, ticket_of}
use Rattle.txn_history.specs.Turn.{Turn, IfKept}
use Rattle.txn_request.specs.Defaults.{default_prewrite}
use Rattle.txn_merge.specs.declared.retry_options.RetryOptions.{RetryOptions}
use Rattle.txn_commit.specs.Following.{Commits, KnowsCommits, sent, undetermined}
use Rattle.txn_commit.specs.Plans.{AreCommitted, ArePrewritten, AreRolledBack, IsOfCommit, IsOfPrewrite, IsOfRollback, IsUnderWay, Says}
use Rattle.txn_commit.specs.Sending.{MaySend, plan_of}
use Rattle.txn_commit.specs.Ways.{Ways}
use Rattle.txn_commit.specs.declared.commit_parts.CommitParts.{CommitParts}
use Rattle.txn_plan.specs.Timing.{HasAsked, WasUntimed, time_asked}
use Rattle.txn_commit.specs.declared.committer.CommitterAnswer.{CommitterAnswer}
use Rattle.txn_commit.specs.declared.committer.CommitterAnswer.TheVariants.{Committed, Checked, RolledBack}
use Rattle.txn_commit.specs.declared.committer.CommitterCall.{CommitterCall}
use Rattle.txn_commit.specs.declared.committer.Stage.{Stage}
use Rattle.txn_commit.specs.declared.committer.Stage.TheVariants as stage
use Rattle.txn_plan.specs.declared.timestamp_call.TimestampCall.{TimestampCall}

-- each key has one mutation, and the primary is none of the others
pub record IsFormed (parts : CommitParts) : Type 0 where
  pub once : AreDistinct parts.mutations
  pub apart : (k : Key) → has_key parts.secondaries k ≡ true → k ≡ parts.primary → ⊥

-- The timestamp was asked for after all keys were acknowledged, and this is what that ask was answered.
pub record IsReady (plan : Plan) (s c : ℕ) (h : List Event) : Type 0 where
  pub keys : AllAcknowledged plan h s
  pub ask : Ticket
  pub given : Timestamp
  pub wanted : WantedAfter plan h s ask
  pub answered : Has h (Answered ask (Ok given))
  pub at : version_of given ≡ c

-- The one Prewrite of all: it locks in two phases, and for no lock that it holds already.
pub record IsWhole (s : ℕ) (parts : CommitParts) (whole : PrewriteRequest) : Type 0 where
  pub start : whole.start_version ≡ s
  pub primary : whole.primary_lock ≡ parts.primary
  pub mutations : whole.mutations ≡ parts.mutations
  pub primary_settles : whole.use_async_commit ≡ false
  pub locking : whole.try_one_pc ≡ false
  pub optimistic : whole.for_update_ts ≡ 0

-- as it is made, under locks that live so long
abbrev pub whole_of : CommitParts → ℕ → ℕ → PrewriteRequest
whole_of parts s ttl = record default_prewrite { mutations = parts.mutations; primary_lock = parts.primary; start_version = s; lock_ttl = ttl; txn_size = 2 ^ 64 - 1 }

-- all was prewritten
pub record IsAllPrewritten (s : ℕ) (parts : CommitParts) (h : List Event) : Type 0 where
  pub whole : PrewriteRequest
  pub is : IsWhole s parts whole
  pub each : ArePrewritten whole h

-- What has happened at each stage, for a transaction with this start and these parts. Its plans are made with its options.

-- it prewrites: its start was given, and no Commit was sent
pub record IsPrewriting {P A : Type 0} (m : Meaning P (Result A Error)) (refuses : List Event → Error → Type 0) (s : ℕ) (parts : CommitParts) (p : P) (c : Commits) (o : Posted) (h : List Event) : Type 0 where
  pub now : m.fits p o h
  pub whole : PrewriteRequest
  pub is : IsWhole s parts whole
  pub way : IsUnderWay m refuses (IsOfPrewrite whole) (ArePrewritten whole) p
  pub given : WasGiven h s
  pub first : c.timestamp ≡ None

-- it asks for the timestamp of the commit, after all keys were acknowledged
pub record IsAsking (s : ℕ) (parts : CommitParts) (t : TimestampCall) (c : Commits) (o : Posted) (h : List Event) : Type 0 where
  pub keys : AllAcknowledged (plan_of parts) h s
  pub given : WasGiven h s
  pub first : c.timestamp ≡ None
  pub now : time_asked.fits t o h
  pub asked : (n : ℕ) → HasAsked t n → WantedAfter (plan_of parts) h s (ticket_of o n)

-- it commits the primary, at the one timestamp
pub record IsCommitting {P B : Type 0} (m : Meaning P (Result B Error)) (refuses : List Event → Error → Type 0) (s : ℕ) (parts : CommitParts) (q : P) (t : Timestamp) (c : Commits) (o : Posted) (h : List Event) : Type 0 where
  pub now : m.fits q o h
  pub way : IsUnderWay m refuses (IsOfCommit s (version_of t) (parts.primary ∷ [])) (AreCommitted s (version_of t) (parts.primary ∷ [])) q
  pub ready : IsReady (plan_of parts) s (version_of t) h
  pub same : (u : Timestamp) → c.timestamp ≡ Some u → version_of u ≡ version_of t

-- it rolls some keys back, the primary first, when each Commit of it was answered
pub record IsRollingBack {P D : Type 0} (m : Meaning P (Result D Error)) (refuses : List Event → Error → Type 0) (s : ℕ) (parts : CommitParts) (keys : List Key) (k : P) (c : Commits) (o : Posted) (h : List Event) : Type 0 where
  pub now : m.fits k o h
  pub way : IsUnderWay m refuses (IsOfRollback s keys) (AreRolledBack s keys) k
  pub settled : undetermined c ≡ None
  pub primary_first : (x : Key) → has_key keys x ≡ true → (x ≡ parts.primary) ⊎ PrimaryRolledBack (plan_of parts) h s

abbrev pub IsAt : {P : Type 0} → Ways P → RetryOptions → ℕ → CommitParts → Stage P → Commits → Posted → List Event → Type 0
IsAt w options s parts (stage.Prewriting p) c o h = IsPrewriting w.plan (w.unwritten options) s parts p c o h
IsAt w options s parts (stage.Asking t) c o h = IsAsking s parts t c o h
IsAt w options s parts (stage.Committing q t) c o h = IsCommitting w.plan (w.uncommitted options) s parts q t c o h
IsAt w options s parts (stage.RollingBackPrimary k) c o h = IsRollingBack w.plan (w.unrolled options) s parts (parts.primary ∷ []) k c o h
IsAt w options s parts (stage.RollingBackOthers k) c o h = IsRollingBack w.plan (w.unrolled options) s parts parts.secondaries k c o h × PrimaryRolledBack (plan_of parts) h s
IsAt w options s parts stage.Over c o h = ⊤
IsAt w options s parts stage.Stopped c o h = ⊤

-- The call can have arisen from the history, where so much is known of the Commits of the primary.
pub record CommitterFits {P : Type 0} (w : Ways P) (call : CommitterCall P) (c : Commits) (o : Posted) (h : List Event) : Type 0 where
  pub start : HasVersion call.start
  pub formed : IsFormed call.parts
  pub knows : KnowsCommits (plan_of call.parts) (version_of call.start) c h
  pub at : IsAt w call.retry_options (version_of call.start) call.parts call.stage c o h

-- What the answer stands on: the primary's Commit was answered without error; or all was prewritten and nothing is locked; or
-- each key was rolled back. An error is one of a plan that was made with these options, or there was no timestamp.
abbrev pub CommitterGives : {P : Type 0} → Ways P → RetryOptions → ℕ → CommitParts → List Event → Result CommitterAnswer Error → Type 0
CommitterGives w options s parts h (Ok (Committed t)) = PrimaryCommitted (plan_of parts) h s (version_of t)
CommitterGives w options s parts h (Ok Checked) = (parts.locks ≡ false) × IsAllPrewritten s parts h
CommitterGives w options s parts h (Ok RolledBack) = AreRolledBack s (parts.primary ∷ []) h × AreRolledBack s parts.secondaries h
CommitterGives w options s parts h (Err e) = (w.unwritten options h e ⊎ w.uncommitted options h e) ⊎ (w.unrolled options h e ⊎ WasUntimed h e)

-- an event call of it, in a history of which more is known
abbrev pub CommitterMoves : {P : Type 0} → Ways P → (List Event → Type 0) → (List Event → List Event)
    → CommitterCall P → CommitterCall P → Commits → Commits → Posted → Posted → Turn (Result CommitterAnswer Error) → Type 0
CommitterMoves w known hear old new c d from to turn =
    Moves (MaySend (plan_of old.parts) (version_of old.start)) (λ h. CommitterFits w old c from h × known h) (CommitterFits w new d to) (CommitterGives w old.retry_options (version_of old.start) old.parts) hear from to turn

-- it goes on after one of its plans did, with what that one's answer says, if it has one
abbrev pub CommitterGoesOn : {P E : Type 0} → Ways P → (List Event → Error → Type 0) → (List Event → Type 0)
    → CommitterCall P → CommitterCall P → Commits → Commits → Posted → Posted → Turn (Result E Error) → Turn (Result CommitterAnswer Error) → Type 0
CommitterGoesOn w refuses says old new c d from to heard turn =
    Moves (MaySend (plan_of old.parts) (version_of old.start)) (Knows heard (CommitterFits w old c from) (Says refuses says)) (CommitterFits w new d to) (CommitterGives w old.retry_options (version_of old.start) old.parts) (λ h. h) from to turn

-- all was prewritten, and no Commit was sent before
pub record IsWritten (s : ℕ) (parts : CommitParts) (c : Commits) (h : List Event) : Type 0 where
  pub given : WasGiven h s
  pub first : c.timestamp ≡ None
  pub keys : IsAllPrewritten s parts h

-- the primary was rolled back, when each Commit of it was answered
pub record IsRolled (s : ℕ) (parts : CommitParts) (c : Commits) (h : List Event) : Type 0 where
  pub settled : undetermined c ≡ None
  pub rolled : AreRolledBack s (parts.primary ∷ []) h

-- a start was given, and no Commit was sent before
pub record IsFirst (s : ℕ) (c : Commits) (h : List Event) : Type 0 where
  pub given : WasGiven h s
  pub first : c.timestamp ≡ None

-- the primary may be committed at this timestamp, as before
pub record MayCommit (plan : Plan) (s : ℕ) (t : Timestamp) (c : Commits) (h : List Event) : Type 0 where
  pub ready : IsReady plan s (version_of t) h
  pub same : (u : Timestamp) → c.timestamp ≡ Some u → version_of u ≡ version_of t

-- what the answer to its ask says
abbrev pub TimeSays : Plan → ℕ → List Event → Result Timestamp Error → Type 0
TimeSays plan s h (Ok t) = IsReady plan s (version_of t) h
TimeSays plan s h (Err e) = WasUntimed h e

-- a plan of Commits of the primary went on, and what it sent is known
pub record SendsCommits {S A : Type 0} (m : Meaning S A) (told : Told) (t : Timestamp) (c d : Commits) (old new : S) (from to : Posted) (turn : Turn A) : Type 0 where
  pub moves : Moves (m.asks old) (λ h. m.fits old from h × told.known h) (m.fits new to) (m.gives old) told.hear from to turn
  pub job : SameJob m.asks m.gives new old
  pub expects : Expects (m.waits old) (m.waits new) told.heard from to
  pub follows : IfKept turn (d ≡ sent from.line from.beat moves.sends t c)

-- The plan of a stage may be told of something, and a timestamp is in range. Where it commits the plan has not given up: with
-- such a one the call gives up.
abbrev pub StageReady : {P : Type 0} → Ways P → Stage P → Type 0
StageReady w (stage.Prewriting p) = w.plan.ready p
StageReady w (stage.Asking t) = time_asked.ready t
StageReady w (stage.Committing q t) = w.plan.ready q × HasVersion t × (w.plan.phase q ≢ GivenUp)
StageReady w (stage.RollingBackPrimary k) = w.plan.ready k
StageReady w (stage.RollingBackOthers k) = w.plan.ready k
StageReady w stage.Over = ⊤
StageReady w stage.Stopped = ⊤

-- the timestamp of an answer is in range
abbrev pub IsInRange : Result CommitterAnswer Error → Type 0
IsInRange (Ok (Committed t)) = HasVersion t
IsInRange (Ok Checked) = ⊤
IsInRange (Ok RolledBack) = ⊤
IsInRange (Err e) = ⊤
