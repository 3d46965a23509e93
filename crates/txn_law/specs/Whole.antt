-- A transaction is whole at one commit timestamp, or not at all.
use Rattle.txn_kv.specs.declared.ticket.Ticket.{Ticket}
use Rattle.txn_kv.specs.declared.request.commits.CommitRequest.{CommitRequest}
use Rattle.txn_kv.specs.declared.request.Request.TheVariants.{Commit, Prewrite}
use Rattle.txn_kv.specs.declared.request.commits.PrewriteRequest.{PrewriteRequest}
use Rattle.txn_kv.specs.declared.reply.commits.CommitResponse.{CommitResponse}
use Rattle.txn_kv.specs.declared.reply.commits.PrewriteResponse.{PrewriteResponse}
use Rattle.txn_kv.specs.declared.reply.Reply.TheVariants as reply
use Rattle.txn_history.specs.Event.{Event, Has}
use Rattle.txn_history.specs.Event.Event.{Served, Took}
use Rattle.txn_history.specs.Licence.{IsWithoutError, PrimaryCommitted, WasOnePhase, WasSettled}
use Rattle.std.specs.Prelude.{◌≡◌, ◌≢◌, ◌⊎◌, ℕ, ◌≤◌, true, List, Some}
use Rattle.txn_history.specs.Among.{IsAmong}
use Rattle.txn_history.specs.Plan.{Key, has_key, Content, Plan, is_spread, LocksKey}
use Rattle.txn_model.specs.declared.cell.Cell.{Cell}
use Rattle.txn_model.specs.declared.cell.Kind.{Kind}
use Rattle.txn_model.specs.declared.cell.Lock.{Lock}
use Rattle.txn_model.specs.declared.cell.Write.{Write}
use Rattle.txn_model.specs.Cells.{cell_at}
use Rattle.txn_model.specs.Locks.{op_of, is_async_lock}

-- what a lock or a commit of this kind and value writes
abbrev pub content : Kind → List ℕ → Content
content kind value = record { op = op_of kind; value = value }

-- a commit of s at c with this content
pub record HasCommit (c : Cell) (s n : ℕ) (x : Content) : Type 0 where
  pub write : Write
  pub among : IsAmong c.commits write
  pub start : write.start ≡ s
  pub commit : write.commit ≡ n
  pub writes : content write.kind write.value ≡ x

-- a lock of s under the primary with this content
pub record HasLock (c : Cell) (s : ℕ) (primary : Key) (x : Content) : Type 0 where
  pub lock : Lock
  pub here : c.lock ≡ Some lock
  pub start : lock.start ≡ s
  pub under : lock.primary ≡ primary
  pub writes : content lock.kind lock.value ≡ x

-- an async lock of s under the primary with this content and bound
pub record HasBound (c : Cell) (s : ℕ) (primary : Key) (x : Content) (m : ℕ) : Type 0 where
  pub lock : Lock
  pub here : c.lock ≡ Some lock
  pub start : lock.start ≡ s
  pub under : lock.primary ≡ primary
  pub writes : content lock.kind lock.value ≡ x
  pub async : is_async_lock lock ≡ true
  pub bound : lock.min_commit ≡ m

-- Start s is settled over all its keys: each that it writes holds its commit at c or an async lock, and c is the greatest of
-- these commits and bounds.
pub record IsSpreadAt (plan : Plan) (cells : List Cell) (s c : ℕ) : Type 0 where
  pub each : (k : Key) (x : Content) → plan.writes k ≡ Some x → HasCommit (cell_at cells k) s c x ⊎ ((m : ℕ) × HasBound (cell_at cells k) s plan.primary x m × (m ≤ c))
  pub greatest : (k : Key) × (x : Content) × (plan.writes k ≡ Some x) × (HasCommit (cell_at cells k) s c x ⊎ HasBound (cell_at cells k) s plan.primary x c)

-- Start s is whole at c: the primary holds its commit, or it is settled over all its keys; each key that it writes holds the commit
-- at c or the lock that becomes it, and no other commit of s is anywhere.
pub record IsWholeAt (plan : Plan) (cells : List Cell) (s c : ℕ) : Type 0 where
  pub decided : ((x : Content) × HasCommit (cell_at cells plan.primary) s c x) ⊎ IsSpreadAt plan cells s c
  pub each : (k : Key) (x : Content) → plan.writes k ≡ Some x → HasCommit (cell_at cells k) s c x ⊎ HasLock (cell_at cells k) s plan.primary x
  pub others : (k : Key) (w : Write) → IsAmong (cell_at cells k).commits w → w.start ≡ s → (w.commit ≡ c) × (plan.writes k ≡ Some (content w.kind w.value))

-- no commit of s is anywhere
abbrev pub IsAbsent : List Cell → ℕ → Type 0
IsAbsent cells s = (k : Key) (w : Write) → IsAmong (cell_at cells k).commits w → w.start ≢ s

-- whole at one timestamp, or not at all
abbrev pub IsWholeOrAbsent : Plan → List Cell → ℕ → Type 0
IsWholeOrAbsent plan cells s = ((c : ℕ) × IsWholeAt plan cells s c) ⊎ IsAbsent cells s

-- a Commit of s that names the key was answered without error, or a Prewrite that commits it at once
abbrev pub KeyCommitted : List Event → ℕ → Key → Type 0
KeyCommitted es s k = ((t : Ticket) × (r : CommitRequest) × (o : CommitResponse) × Has es (Took t (Commit r) (reply.Commit o)) × IsWithoutError (reply.Commit o) × (r.start_version ≡ s) × (has_key r.keys k ≡ true)) ⊎ ((t : Ticket) × (r : PrewriteRequest) × (o : PrewriteResponse) × Has es (Took t (Prewrite r) (reply.Prewrite o)) × IsWithoutError (reply.Prewrite o) × (r.start_version ≡ s) × (r.try_one_pc ≡ true) × LocksKey r.mutations k)

-- a Commit of s at c that names the primary was served without error, and its reply says that c was committed
pub record PrimaryServed (plan : Plan) (es : List Event) (s c : ℕ) : Type 0 where
  pub ticket : Ticket
  pub request : CommitRequest
  pub response : CommitResponse
  pub served : Has es (Served ticket (Commit request) (reply.Commit response))
  pub fine : IsWithoutError (reply.Commit response)
  pub start : request.start_version ≡ s
  pub commit : request.commit_version ≡ c
  pub primary : has_key request.keys plan.primary ≡ true
  pub says : response.commit_version ≡ request.commit_version

-- s was answered as committed at c: a Commit of its primary was; or, of a spread one, the bounds of all its keys, c the greatest; or
-- a Prewrite that commits all at once
abbrev pub WasAnswered : Plan → List Event → ℕ → ℕ → Type 0
WasAnswered plan es s c = PrimaryCommitted plan es s c ⊎ (((is_spread plan.way ≡ true) × WasSettled plan es s c) ⊎ WasOnePhase es s c)

-- What was answered fits what is there: nothing of s where it was not answered as committed, or s whole at one c, which each such
-- answer named.
abbrev pub FitsAnswers : Plan → List Event → List Cell → ℕ → Type 0
FitsAnswers plan es cells s = (IsAbsent cells s × ((d : ℕ) → WasAnswered plan es s d → ⊥)) ⊎ ((c : ℕ) × IsWholeAt plan cells s c × ((d : ℕ) → WasAnswered plan es s d → d ≡ c))
