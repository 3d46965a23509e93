-- What a request has to rest on when it is sent: what was sent and taken before it.
use Rattle.std.specs.Prelude.{◌≡◌, ◌≢◌, ◌⊎◌, ℕ, ◌<◌, ◌≤◌, true, false, List, [], ◌∷◌, Some}
use Rattle.txn_kv.specs.declared.ticket.Ticket.{Ticket}
use Rattle.txn_kv.specs.declared.message.LockInfo.{LockInfo}
use Rattle.txn_kv.specs.declared.message.Op.TheVariants as op
use Rattle.txn_kv.specs.declared.message.Mutation.{Mutation}
use Rattle.txn_kv.specs.declared.message.TxnInfo.{TxnInfo}
use Rattle.txn_kv.specs.declared.request.Request.{Request}
use Rattle.txn_kv.specs.declared.request.Request.TheVariants.{Get, BatchGet, Scan, Prewrite, Commit, Cleanup, BatchRollback, PessimisticRollback, PessimisticLock, ResolveLock, ScanLock, TxnHeartBeat, CheckTxnStatus, CheckSecondaryLocks, UnsafeDestroyRange, GetRegion, GetRegionById, GetStore, GetAllStores, UpdateGcSafePoint, Tso, Members}
use Rattle.txn_kv.specs.declared.request.commits.PrewriteRequest.{PrewriteRequest}
use Rattle.txn_kv.specs.declared.request.commits.CommitRequest.{CommitRequest}
use Rattle.txn_kv.specs.declared.request.commits.BatchRollbackRequest.{BatchRollbackRequest}
use Rattle.txn_kv.specs.declared.request.locks.PessimisticRollbackRequest.{PessimisticRollbackRequest}
use Rattle.txn_kv.specs.declared.request.locks.PessimisticLockRequest.{PessimisticLockRequest}
use Rattle.txn_kv.specs.declared.request.locks.ResolveLockRequest.{ResolveLockRequest}
use Rattle.txn_kv.specs.declared.request.cluster.TsoRequest.{TsoRequest}
use Rattle.txn_kv.specs.declared.request.locks.CheckTxnStatusRequest.{CheckTxnStatusRequest}
use Rattle.txn_kv.specs.declared.reply.Reply.{Reply}
use Rattle.txn_kv.specs.declared.reply.Reply.TheVariants as reply
use Rattle.txn_kv.specs.declared.reply.commits.PrewriteResponse.{PrewriteResponse}
use Rattle.txn_kv.specs.declared.reply.commits.CommitResponse.{CommitResponse}
use Rattle.txn_kv.specs.declared.reply.commits.BatchRollbackResponse.{BatchRollbackResponse}
use Rattle.txn_kv.specs.declared.reply.cluster.TsoResponse.{TsoResponse}
use Rattle.txn_history.specs.Among.{IsAmong}
use Rattle.txn_history.specs.Event.{Event, Has}
use Rattle.txn_history.specs.Event.Event.{Sent, Took, Asked}
use Rattle.txn_history.specs.Plan.{Key, has_key, Content, Plan, is_spread, AreDistinct, ArePlanned, IsListed, LocksKey}
use Rattle.txn_history.specs.Plan.Way.{TwoPhases, Spread}
pub use Rattle.txn_history.specs.Replies.{IsWithoutError, GivesTimestamp, ErrorShows, PairsShow, ErrorsShow, ShowsLock}
pub use Rattle.txn_history.specs.Decided.{WasShownAt, WasMet, IsPrewriteOp, WasShown, LockWasShown, PrimaryWasShown, BoundWasShown, TellsStatus, Decides, WasTold, WasChecked, WasSeenCommitted, WasMissed, WasDecided}

-- What was sent and taken.

-- a timestamp that is at most one that the oracle gave
abbrev pub WasGiven : List Event → ℕ → Type 0
WasGiven es c = (t : Ticket) × (r : TsoRequest) × (o : TsoResponse) × (d : ℕ) × Has es (Took t (Tso r) (reply.Tso o)) × GivesTimestamp o d × (c ≤ d)

-- A Prewrite of s with a mutation of the key, a check or one that locks it, was answered without error.
pub record IsPassed (es : List Event) (s : ℕ) (k : Key) : Type 0 where
  pub ticket : Ticket
  pub request : PrewriteRequest
  pub response : PrewriteResponse
  pub taken : Has es (Took ticket (Prewrite request) (reply.Prewrite response))
  pub fine : IsWithoutError (reply.Prewrite response)
  pub start : request.start_version ≡ s
  pub mutation : Mutation
  pub names : IsAmong request.mutations mutation
  pub key : mutation.key ≡ k

-- a Prewrite of s that locks the key, and does not commit all at once, was answered without error
pub record IsAcknowledged (es : List Event) (s : ℕ) (k : Key) : Type 0 where
  pub ticket : Ticket
  pub request : PrewriteRequest
  pub response : PrewriteResponse
  pub taken : Has es (Took ticket (Prewrite request) (reply.Prewrite response))
  pub fine : IsWithoutError (reply.Prewrite response)
  pub start : request.start_version ≡ s
  pub locks : LocksKey request.mutations k
  pub locking : request.try_one_pc ≡ false

-- each key that s writes was acknowledged, and each that it checks passed
pub record AllAcknowledged (plan : Plan) (es : List Event) (s : ℕ) : Type 0 where
  pub locked : (k : Key) (x : Content) → plan.writes k ≡ Some x → IsAcknowledged es s k
  pub checked : (k : Key) → plan.ops k ≡ Some op.CheckNotExists → IsPassed es s k

-- such a Prewrite was answered with this bound of its locks
pub record IsBounded (es : List Event) (s : ℕ) (k : Key) (b : ℕ) : Type 0 where
  pub ticket : Ticket
  pub request : PrewriteRequest
  pub response : PrewriteResponse
  pub taken : Has es (Took ticket (Prewrite request) (reply.Prewrite response))
  pub fine : IsWithoutError (reply.Prewrite response)
  pub start : request.start_version ≡ s
  pub locks : LocksKey request.mutations k
  pub locking : request.try_one_pc ≡ false
  pub bound : response.min_commit_ts ≡ b

-- Each key that s writes was answered a bound that is not 0, and c is the greatest: s is committed at c without another request.
pub record WasSettled (plan : Plan) (es : List Event) (s c : ℕ) : Type 0 where
  pub each : (k : Key) (x : Content) → plan.writes k ≡ Some x → (b : ℕ) × IsBounded es s k b × (0 < b) × (b ≤ c)
  pub greatest : (k : Key) × IsBounded es s k c

-- a Prewrite of s that commits all at once was answered with c: s is committed at c
abbrev pub WasOnePhase : List Event → ℕ → ℕ → Type 0
WasOnePhase es s c = (t : Ticket) × (r : PrewriteRequest) × (o : PrewriteResponse) × Has es (Took t (Prewrite r) (reply.Prewrite o)) × IsWithoutError (reply.Prewrite o) × (r.start_version ≡ s) × (r.try_one_pc ≡ true) × (o.one_pc_commit_ts ≡ c)

-- a bound of 0 was answered: s goes on in two phases
abbrev pub FellBack : List Event → ℕ → Type 0
FellBack es s = (k : Key) × IsBounded es s k 0

-- A commit timestamp was asked for with this ticket, after s was given and all was acknowledged. Without
-- the start a commit could come at or below it: `above` and `none_between` fall, and `reads_repeat` where a read passes over
-- the lock of a later start.
abbrev pub AskedAfter : Plan → List Event → ℕ → Ticket → Type 0
AskedAfter plan [] s t = ⊥
AskedAfter plan (e ∷ es) s t = ((r : TsoRequest) × (e ≡ Sent t (Tso r)) × AllAcknowledged plan es s × WasGiven es s) ⊎ AskedAfter plan es s t

-- a taken reply to such a Tso gave this timestamp
abbrev pub WasAskedFor : Plan → List Event → ℕ → ℕ → Type 0
WasAskedFor plan es s c = (t : Ticket) × (r : TsoRequest) × (o : TsoResponse) × AskedAfter plan es s t × Has es (Took t (Tso r) (reply.Tso o)) × GivesTimestamp o c

-- a Tso was sent with this ticket after the ask
abbrev pub SentAfterAsk : List Event → Ticket → Ticket → Type 0
SentAfterAsk [] a t = ⊥
SentAfterAsk (e ∷ es) a t = ((r : TsoRequest) × (e ≡ Sent t (Tso r)) × Has es (Asked a)) ⊎ SentAfterAsk es a t

-- a taken reply to a Tso that was sent after the ask gave this timestamp
abbrev pub WasTimed : List Event → Ticket → ℕ → Type 0
WasTimed es a c = (t : Ticket) × (r : TsoRequest) × (o : TsoResponse) × SentAfterAsk es a t × Has es (Took t (Tso r) (reply.Tso o)) × GivesTimestamp o c

-- an ask for a timestamp was made after s was given and all was acknowledged
abbrev pub WantedAfter : Plan → List Event → ℕ → Ticket → Type 0
WantedAfter plan [] s a = ⊥
WantedAfter plan (e ∷ es) s a = ((e ≡ Asked a) × AllAcknowledged plan es s × WasGiven es s) ⊎ WantedAfter plan es s a

-- a Commit of s at c that names the primary was sent
abbrev pub WasNamed : Plan → List Event → ℕ → ℕ → Type 0
WasNamed plan es s c = (t : Ticket) × (r : CommitRequest) × Has es (Sent t (Commit r)) × (r.start_version ≡ s) × (r.commit_version ≡ c) × (has_key r.keys plan.primary ≡ true)

-- a Commit of s at c that names the primary was answered without error
abbrev pub PrimaryCommitted : Plan → List Event → ℕ → ℕ → Type 0
PrimaryCommitted plan es s c = (t : Ticket) × (r : CommitRequest) × (o : CommitResponse) × Has es (Took t (Commit r) (reply.Commit o)) × IsWithoutError (reply.Commit o) × (r.start_version ≡ s) × (r.commit_version ≡ c) × (has_key r.keys plan.primary ≡ true)

-- a BatchRollback of s that names the primary was answered without error
abbrev pub PrimaryRolledBack : Plan → List Event → ℕ → Type 0
PrimaryRolledBack plan es s = (t : Ticket) × (r : BatchRollbackRequest) × (o : BatchRollbackResponse) × Has es (Took t (BatchRollback r) (reply.BatchRollback o)) × IsWithoutError (reply.BatchRollback o) × (r.start_version ≡ s) × (has_key r.keys plan.primary ≡ true)

-- it asks for an async commit, or to commit all at once
abbrev pub IsFlagged : PrewriteRequest → Type 0
IsFlagged r = (r.use_async_commit ≡ true) ⊎ (r.try_one_pc ≡ true)

-- no Prewrite of s was sent
abbrev pub IsUnwritten : List Event → ℕ → Type 0
IsUnwritten es s = (t : Ticket) (r : PrewriteRequest) → Has es (Sent t (Prewrite r)) → r.start_version ≡ s → ⊥

-- each Commit of s that names the primary was answered
abbrev pub CommitsAnswered : Plan → List Event → ℕ → Type 0
CommitsAnswered plan es s = (t : Ticket) (r : CommitRequest) → Has es (Sent t (Commit r)) → r.start_version ≡ s → has_key r.keys plan.primary ≡ true → (o : Reply) × Has es (Took t (Commit r) o)

-- a PessimisticLock of s was sent that names the key
abbrev pub TriedToLock : List Event → ℕ → Key → Type 0
TriedToLock es s k = (t : Ticket) × (r : PessimisticLockRequest) × Has es (Sent t (PessimisticLock r)) × (r.start_version ≡ s) × LocksKey r.mutations k

-- Licences, one for each kind of request. Beside each stands which conclusion of `txn_law` falls without it.

-- Without `primary`, two keys of one transaction could hang on two primaries, and without `planned` a key could get
-- another value, or one that the transaction doesn't mean to write: `whole` falls with either, and with it all that was
-- answered (`fits`, `committed`). That a key stands in it once, and always with the same op, serves what a reader of the log
-- may rely on: no law of the store rests on it.
-- Without `way` a key of a spread transaction could be locked without a bound, and be settled by its primary alone. Without
-- `named` a resolver could take a part of the keys for all. Without `at_once` a part of the keys could be committed in one
-- phase, or a transaction that means to be committed in two (`named`, `served`). Without `above` a pessimistic lock that is served
-- late could stand on a committed key. Without `unrolled` what is rolled back could be settled afterwards. `whole` falls with each.
-- Without the start in `given` a bound could be at the start itself: `above` and `none_between` fall. That the for-update
-- timestamp was given is for a reader of the log: no law of the store rests on it.
pub record PrewriteLicence (plan : Plan) (es : List Event) (r : PrewriteRequest) : Type 0 where
  pub primary : r.primary_lock ≡ plan.primary
  pub planned : ArePlanned plan r.mutations
  pub once : AreDistinct r.mutations
  pub way : r.use_async_commit ≡ is_spread plan.way
  pub named : (ks : List Key) → plan.way ≡ Spread ks → IsListed plan ks × (LocksKey r.mutations plan.primary → r.secondaries ≡ ks)
  pub at_once : r.try_one_pc ≡ true → (plan.one_phase ≡ true) × ((x : Content) × (plan.writes plan.primary ≡ Some x)) × ((k : Key) (x : Content) → plan.writes k ≡ Some x → LocksKey r.mutations k)
  pub given : WasGiven es r.start_version × WasGiven es r.for_update_ts
  pub above : IsFlagged r → (t : Ticket) (q : PessimisticLockRequest) → Has es (Sent t (PessimisticLock q)) → q.start_version ≡ r.start_version → q.for_update_ts ≤ r.for_update_ts
  pub unrolled : is_spread plan.way ≡ true → (t : Ticket) (q : BatchRollbackRequest) → Has es (Sent t (BatchRollback q)) → q.start_version ≡ r.start_version → ⊥

-- The primary is committed where all is acknowledged, checks too, at a timestamp that was asked for afterwards, and always at
-- the same one. Without the first a key could be left out, and be rolled back or locked by another: `whole` falls. Without
-- the second a commit could come at or below the timestamp of a read that missed it, or below its start: `reads_repeat`,
-- `above` and `none_between` fall. Without the third a second Commit at another timestamp would be answered without error,
-- and licence other keys at that one: `one`, `committed`, `fits` and then `whole` fall.
pub record PrimaryCommitLicence (plan : Plan) (es : List Event) (s c : ℕ) : Type 0 where
  pub ready : AllAcknowledged plan es s
  pub asked : WasAskedFor plan es s c
  pub same : (d : ℕ) → WasNamed plan es s d → d ≡ c

-- Another key is committed where the primary's commit was answered without error. Without it a key could be committed
-- whose primary is rolled back later: `whole` and `rolled_stays` fall.
abbrev pub KeyCommitLicence : Plan → List Event → CommitRequest → Key → Type 0
KeyCommitLicence plan es r k = ((k ≡ plan.primary) × PrimaryCommitLicence plan es r.start_version r.commit_version) ⊎ ((k ≢ plan.primary) × PrimaryCommitted plan es r.start_version r.commit_version)

-- In two phases each key has its licence, also once a bound of 0 fell back to them. A spread transaction is committed where it
-- is settled, at its greatest bound.
abbrev pub CommitLicence : Plan → List Event → CommitRequest → Type 0
CommitLicence plan es r = (((plan.way ≡ TwoPhases) ⊎ FellBack es r.start_version) × ((k : Key) → has_key r.keys k ≡ true → KeyCommitLicence plan es r k)) ⊎ ((is_spread plan.way ≡ true) × WasSettled plan es r.start_version r.commit_version)

-- A key that s writes stood in no Prewrite but such as were answered with an error. As each is served once, it is never locked.
pub record IsStuck (plan : Plan) (es : List Event) (s : ℕ) : Type 0 where
  pub key : Key
  pub content : Content
  pub written : plan.writes key ≡ Some content
  pub failed : (t : Ticket) (r : PrewriteRequest) → Has es (Sent t (Prewrite r)) → r.start_version ≡ s → LocksKey r.mutations key → (o : Reply) × Has es (Took t (Prewrite r) o) × (IsWithoutError o → ⊥)

-- In two phases the primary is rolled back first. Without it a key could be rolled back whose primary is committed later. A
-- spread transaction is rolled back only where it cannot be settled any more. `whole` falls without either.
-- That each commit was answered serves what a rollback answers to its caller: no law of the store rests on it.
pub record BatchRollbackLicence (plan : Plan) (es : List Event) (r : BatchRollbackRequest) : Type 0 where
  pub answered : CommitsAnswered plan es r.start_version
  pub undone : ((plan.way ≡ TwoPhases) × ((k : Key) → has_key r.keys k ≡ true → (k ≡ plan.primary) ⊎ PrimaryRolledBack plan es r.start_version)) ⊎ ((is_spread plan.way ≡ true) × IsStuck plan es r.start_version)

-- The timestamp was given before, and no key was prewritten. Without either a late lock could stand on a committed key, and
-- its expiry would record a committed start as rolled back: `whole` falls. Without the first a value that it returns could
-- be missed by a later commit below: `reads_repeat` falls for it.
pub record PessimisticLockLicence (es : List Event) (r : PessimisticLockRequest) : Type 0 where
  pub given : WasGiven es r.for_update_ts
  pub unwritten : IsUnwritten es r.start_version

-- A client releases what it was shown or tried to lock. No law of the store rests on it: what is released was never
-- written.
abbrev pub PessimisticRollbackLicence : List Event → PessimisticRollbackRequest → Type 0
PessimisticRollbackLicence es r = (k : Key) → has_key r.keys k ≡ true → WasShownAt es r.start_version k ⊎ TriedToLock es r.start_version k

-- the starts that a ResolveLock settles, each with its commit timestamp or 0
abbrev pub settled_starts : ResolveLockRequest → List TxnInfo → List TxnInfo
settled_starts r [] = record { txn = r.start_version; status = r.commit_version } ∷ []
settled_starts r (i ∷ is) = i ∷ is

-- Each start is settled as it was told to be, by its primary or by all its keys. Without it a lock could be rolled back whose
-- primary is committed, or committed whose primary is rolled back: `whole` and `rolled_stays` fall. Without the lock that named
-- the primary, the reply could be about another key, and they fall as well.
abbrev pub ResolveLockLicence : List Event → ResolveLockRequest → Type 0
ResolveLockLicence es r = (i : TxnInfo) → IsAmong (settled_starts r r.txn_infos) i → WasDecided es i.txn i.status

-- A forced status takes an async lock away where it has expired: it is asked only of a start of which a lock that is none was
-- shown. Without it a spread start could be rolled back that is settled: `whole` falls.
abbrev pub StatusLicence : List Event → CheckTxnStatusRequest → Type 0
StatusLicence es r = r.force_sync_commit ≡ true → (l : LockInfo) × LockWasShown es r.lock_ts l × (l.use_async_commit ≡ false)

-- A read is at a timestamp that was given before. Without it a later commit could come below it: `reads_repeat` falls.
abbrev pub IsLicensed : (ℕ → Plan) → List Event → Request → Type 0
IsLicensed plans es (Get r) = WasGiven es r.version
IsLicensed plans es (BatchGet r) = WasGiven es r.version
IsLicensed plans es (Scan r) = WasGiven es r.version
IsLicensed plans es (Prewrite r) = PrewriteLicence (plans r.start_version) es r
IsLicensed plans es (Commit r) = CommitLicence (plans r.start_version) es r
IsLicensed plans es (Cleanup r) = Unit {0}
IsLicensed plans es (BatchRollback r) = BatchRollbackLicence (plans r.start_version) es r
IsLicensed plans es (PessimisticRollback r) = PessimisticRollbackLicence es r
IsLicensed plans es (PessimisticLock r) = PessimisticLockLicence es r
IsLicensed plans es (ResolveLock r) = ResolveLockLicence es r
IsLicensed plans es (ScanLock r) = Unit {0}
IsLicensed plans es (TxnHeartBeat r) = Unit {0}
IsLicensed plans es (CheckTxnStatus r) = StatusLicence es r
IsLicensed plans es (CheckSecondaryLocks r) = Unit {0}
IsLicensed plans es (UnsafeDestroyRange r) = Unit {0}
IsLicensed plans es (GetRegion r) = Unit {0}
IsLicensed plans es (GetRegionById r) = Unit {0}
IsLicensed plans es (GetStore r) = Unit {0}
IsLicensed plans es (GetAllStores r) = Unit {0}
IsLicensed plans es (UpdateGcSafePoint r) = Unit {0}
IsLicensed plans es (Tso r) = Unit {0}
IsLicensed plans es (Members r) = Unit {0}
