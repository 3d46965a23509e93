-- A call to the placement driver in a run: what it was told, what it may ask, and what its answer stands on.
use Rattle.std.specs.Prelude.{◌≡◌, ◌⊎◌, ℕ, zero, suc, ◌<◌, List, Some, Result, Ok, Err}
use Rattle.txn_kv.specs.declared.errors.Error.{Error}
use Rattle.txn_kv.specs.declared.errors.Error.TheVariants.{GrpcAPI, InternalError}
use Rattle.txn_kv.specs.declared.errors.Internal.TheVariants.{WrongReply}
use Rattle.txn_kv.specs.declared.query.PdAnswer.{PdAnswer}
use Rattle.txn_kv.specs.declared.query.PdAnswer.TheVariants as answer
use Rattle.txn_kv.specs.declared.query.PdQuery.{PdQuery}
use Rattle.txn_kv.specs.declared.query.PdQuery.TheVariants.{Time}
use Rattle.txn_kv.specs.declared.reply.cluster.MembersResponse.{MembersResponse}
use Rattle.txn_kv.specs.declared.reply.Reply.{Reply}
use Rattle.txn_kv.specs.declared.reply.Reply.TheVariants as reply
use Rattle.txn_kv.specs.declared.request.Request.{Request}
use Rattle.txn_kv.specs.declared.request.Request.TheVariants.{Members}
use Rattle.txn_kv.specs.declared.ticket.Ticket.{Ticket}
use Rattle.txn_kv.specs.declared.timestamp.Timestamp.{Timestamp}
use Rattle.txn_history.specs.Event.{Event, Has}
use Rattle.txn_history.specs.Event.Event.{Sent, Took, Lost, Began, Asked, Answered}
use Rattle.txn_history.specs.Posted.{Posted, ticket_of}
use Rattle.txn_tso.specs.Placement.{request_of, not_found, Answers, HasNoRegion, IsOfOtherKind}
use Rattle.txn_tso.specs.declared.pd_call.PdCall.{PdCall}
use Rattle.txn_tso.specs.declared.stage.Stage.{Stage}
use Rattle.txn_tso.specs.declared.stage.Stage.TheVariants as stage

abbrev pub members : Request
members = Members (record {})

-- The try of this ticket failed, and this is the error that names it: the request was lost, or its reply holds no region, or
-- the ask was refused with it.
abbrev pub IsFailure : PdQuery → Ticket → List Event → Error → Type 0
IsFailure q t h why =
    ((r : Request) × (request_of q ≡ Some r) × Has h (Lost t r) × (why ≡ GrpcAPI t))
    ⊎ (((r : Request) × (x : Reply) × (request_of q ≡ Some r) × Has h (Took t r x) × HasNoRegion q x × (why ≡ not_found q))
    ⊎ ((q ≡ Time) × Has h (Answered t (Err why))))

-- So many tries of the query failed, under numbers of this line that are below the given one. No two have one number.
abbrev pub HaveFailed : PdQuery → Posted → ℕ → ℕ → List Event → Type 0
HaveFailed q o zero below h = Unit {0}
HaveFailed q o (suc n) below h = (k : ℕ) × (why : Error) × (k < below) × IsFailure q (ticket_of o k) h why × HaveFailed q o n k h

-- so many requests for the members were lost
abbrev pub HaveLostMembers : Posted → ℕ → ℕ → List Event → Type 0
HaveLostMembers o zero below h = Unit {0}
HaveLostMembers o (suc n) below h = (k : ℕ) × (k < below) × Has h (Lost (ticket_of o k) members) × HaveLostMembers o n k h

-- tries for a timestamp are numbered as asks, and all others as requests
abbrev pub next_try : PdQuery → Posted → ℕ
next_try Time o = o.next_ask
next_try _ o = o.next

-- What has happened where a call stands here, after so many tries that failed. What is out was sent, by this line.
abbrev pub IsAt : PdQuery → ℕ → Stage → Posted → List Event → Type 0
IsAt q failed stage.Fresh o h = failed ≡ 0
IsAt q failed (stage.Sent n) o h = (r : Request) × (request_of q ≡ Some r) × Has h (Sent (ticket_of o n) r) × (n < o.next) × HaveFailed q o failed n h
IsAt q failed (stage.Asked n) o h = (q ≡ Time) × Has h (Asked (ticket_of o n)) × (n < o.next_ask) × HaveFailed q o failed n h
IsAt q failed (stage.Reconnecting n lost) o h =
    Has h (Sent (ticket_of o n) members) × (n < o.next) × (lost < 5) × HaveLostMembers o lost n h × HaveFailed q o failed (next_try q o) h
IsAt q failed (stage.Resting n lost) o h =
    Has h (Began (ticket_of o n) 1000) × (n < o.next) × (0 < lost) × (lost < 5) × HaveLostMembers o lost n h × HaveFailed q o failed (next_try q o) h
IsAt q failed stage.Over o h = Unit {0}
IsAt q failed stage.Stopped o h = Unit {0}

-- The call can have arisen from this history, where its line has posted so much. At most nine tries have failed: the tenth
-- failure ends it.
pub record CallFits (s : PdCall) (o : Posted) (h : List Event) : Type 0 where
  pub few : s.failed < 10
  pub at : IsAt s.query s.failed s.stage o h

-- it asks its query, and for the members
abbrev pub MayAsk : PdCall → List Event → Request → Type 0
MayAsk s h r = (request_of s.query ≡ Some r) ⊎ (r ≡ members)

-- the answer is the content of a reply to the query that was taken, or a timestamp that an ask was answered
abbrev pub IsTold : PdQuery → Posted → List Event → PdAnswer → Type 0
IsTold q o h a =
    ((k : ℕ) × (r : Request) × (x : Reply) × (request_of q ≡ Some r) × Has h (Took (ticket_of o k) r x) × Answers q x a)
    ⊎ ((k : ℕ) × (t : Timestamp) × (q ≡ Time) × Has h (Answered (ticket_of o k) (Ok t)) × (a ≡ answer.Time t))

-- a reply that is of another kind than its request
abbrev pub IsUnlikeReply : PdQuery → Request → Reply → Type 0
IsUnlikeReply q r x = ((request_of q ≡ Some r) × IsOfOtherKind q x) ⊎ ((r ≡ members) × ((o : MembersResponse) → x ≡ reply.Members o → ⊥))

-- Ten tries have failed and this names the last of them; or five requests for the members were lost, and this is the ticket of
-- the last; or a reply of another kind was taken.
abbrev pub IsRefused : PdQuery → Posted → List Event → Error → Type 0
IsRefused q o h why =
    ((k : ℕ) × IsFailure q (ticket_of o k) h why × HaveFailed q o 9 k h)
    ⊎ (((k : ℕ) × Has h (Lost (ticket_of o k) members) × (why ≡ GrpcAPI (ticket_of o k)) × HaveLostMembers o 4 k h)
    ⊎ ((k : ℕ) × (r : Request) × (x : Reply) × Has h (Took (ticket_of o k) r x) × IsUnlikeReply q r x × (why ≡ InternalError WrongReply)))

-- what an answer stands on
abbrev pub Gives : PdCall → Posted → List Event → Result PdAnswer Error → Type 0
Gives s o h (Ok a) = IsTold s.query o h a
Gives s o h (Err why) = IsRefused s.query o h why

-- the request may have been sent under the number, as far as the call knows
abbrev pub MayBe : PdQuery → Stage → ℕ → Request → Type 0
MayBe q (stage.Sent n) k r = k ≡ n → request_of q ≡ Some r
MayBe q (stage.Reconnecting n lost) k r = k ≡ n → r ≡ members
MayBe q _ k r = Unit {0}
