-- What a machine sees of the clients of a run.
use Rattle.std.specs.Prelude.{◌≡◌, ◌⊎◌, ◌∷◌, ◌++◌, ◌+◌, ◌-◌, ◌<◌, ◌≤◌, ℕ, Bool, true, false, not, ◌&&◌, List, [], length, map, filter, nat_eq, Option, Some, None, slice_set, slice_index_or}
use Rattle.std.specs.List.{All, Any}
use Rattle.std.proofs.Common.{zero, suc}
use Rattle.txn_kv.specs.Timestamp.{version_of}
use Rattle.txn_kv.specs.declared.reply.Reply.{Reply}
use Rattle.txn_kv.specs.declared.reply.Reply.TheVariants as replies
use Rattle.txn_kv.specs.declared.reply.cluster.TsoResponse.{TsoResponse}
use Rattle.txn_kv.specs.declared.request.Request.{Request}
use Rattle.txn_kv.specs.declared.request.Request.TheVariants.{Tso}
use Rattle.txn_kv.specs.declared.ticket.Ticket.{Ticket}
use Rattle.txn_kv.specs.declared.timestamp.Timestamp.{Timestamp}
use Rattle.txn_report.specs.declared.outcome.Outcome.{Outcome}
use Rattle.txn_report.specs.declared.outcome.Outcome.TheVariants.{Ok, Err, Unfinished, Done, Skipped}
use Rattle.txn_report.specs.declared.outcome.Payload.TheVariants.{Unit as Nothing, Number, Commit as Committed}
use Rattle.txn_lines.specs.declared.act.Act.{Act}
use Rattle.txn_lines.specs.declared.act.Act.TheVariants as acts
use Rattle.txn_side.specs.declared.turn.Ending.{Ending}
use Rattle.txn_side.specs.declared.turn.Posting.{Posting}
use Rattle.txn_side.specs.declared.turn.Posting.TheVariants.{Send, Sleep}
use Rattle.txn_side.specs.declared.turn.Turn.{Turn}

-- What stands

-- What stands at a line. Clients are counted from 0, in the order of their lines.
pub data Stand : Type 0 where
  -- nothing goes on there
  Idle : Stand
  IsClient : (client : ℕ) → Stand
  -- a call for a timestamp waits, or one that begins a transaction
  Asking : (client : ℕ) (begins : Bool) → Stand
  -- a transaction has begun there; the line of its call that waits, or 0
  HasBegun : (client waits : ℕ) → Stand
  -- a call of the transaction of a line waits, which commits or does something else
  Calling : (client transaction : ℕ) (commits : Bool) → Stand
  -- a call that is over
  Past : (client : ℕ) → Stand
  -- a job goes on behind a commit, or is over
  Working : (client : ℕ) → Stand

-- a request for timestamps that is out, and the lines whose asks it carries, in their order
pub record Group : Type 0 where
  pub ticket : Ticket
  pub askers : List ℕ

-- the number of the next request or sleep of each line, and of each line's heartbeat
pub record Nexts : Type 0 where
  pub calls : List ℕ
  pub beats : List ℕ

-- which clients have crashed; the request for timestamps of each that is out; what stands at each line; and the numbers of what it posts
-- next
pub record Sight : Type 0 where
  pub crashed : List Bool
  pub groups : List (Option Group)
  pub stands : List Stand
  pub nexts : Nexts

abbrev pub nobody : Sight
nobody = record { crashed = []; groups = []; stands = []; nexts = record { calls = []; beats = [] } }

abbrev pub line_count : Sight → ℕ
line_count s = length s.stands

abbrev pub stand_at : List Stand → ℕ → Stand
stand_at stands zero = Idle
stand_at stands (suc i) = slice_index_or stands i Idle

abbrev pub client_at : Stand → Option ℕ
client_at Idle = None
client_at (IsClient c) = Some c
client_at (Asking c b) = Some c
client_at (HasBegun c m) = Some c
client_at (Calling c x b) = Some c
client_at (Past c) = Some c
client_at (Working c) = Some c

abbrev pub lives : List Bool → Option ℕ → Bool
lives crashed None = false
lives crashed (Some c) = not (slice_index_or crashed c true)

-- the line has a client that has not crashed
abbrev pub is_live : Sight → ℕ → Bool
is_live s line = lives s.crashed (client_at (stand_at s.stands line))

abbrev pub free : Stand → Bool
free (HasBegun c zero) = true
free _ = false

-- a transaction has begun there, its client has not crashed, and no call of it waits
abbrev pub is_free : Sight → ℕ → Bool
is_free s x = is_live s x && free (stand_at s.stands x)

-- What changes

-- one line more
abbrev pub opened : Sight → Sight
opened s = record s { stands = s.stands ++ Idle ∷ []; nexts = record { calls = s.nexts.calls ++ 1 ∷ []; beats = s.nexts.beats ++ 1 ∷ [] } }

abbrev pub with_stand : ℕ → Stand → Sight → Sight
with_stand line stand s = record s { stands = slice_set s.stands (line - 1) stand }

-- the newest line makes a client
abbrev pub connected : Sight → Sight
connected s = record (with_stand (line_count s) (IsClient (length s.crashed)) s) { crashed = s.crashed ++ false ∷ []; groups = s.groups ++ None ∷ [] }

abbrev pub without : Option ℕ → List Bool → List Bool
without None crashed = crashed
without (Some c) crashed = slice_set crashed c true

-- the client of a line is gone
abbrev pub crash : ℕ → Sight → Sight
crash line s = record s { crashed = without (client_at (stand_at s.stands line)) s.crashed }

-- What is posted

abbrev pub ticket_in : Posting → Ticket
ticket_in (Send t to r askers) = t
ticket_in (Sleep t) = t

abbrev pub next_at : List ℕ → ℕ → ℕ
next_at nexts zero = 0
next_at nexts (suc i) = slice_index_or nexts i 0

-- the numbers of calls, or those of heartbeats
abbrev pub numbers_of : Bool → Nexts → List ℕ
numbers_of false nexts = nexts.calls
numbers_of true nexts = nexts.beats

-- it is the next of its line, or of its line's heartbeat
pub record IsNext (nexts : Nexts) (t : Ticket) : Type 0 where
  pub first : 1 ≤ t.line
  pub last : t.line ≤ length (numbers_of t.beat nexts)
  pub number : t.number ≡ next_at (numbers_of t.beat nexts) t.line

abbrev pub with_next : List ℕ → ℕ → List ℕ
with_next nexts line = slice_set nexts (line - 1) (next_at nexts line + 1)

-- the numbers once that of a line, or of its heartbeat, was used
abbrev pub raised : Bool → ℕ → Nexts → Nexts
raised false line nexts = record nexts { calls = with_next nexts.calls line }
raised true line nexts = record nexts { beats = with_next nexts.beats line }

-- a request for timestamps asks for as many as it has askers, of which its own line is the first, at most 64; no other has askers
abbrev pub AskFor : ℕ → Request → List ℕ → Type 0
AskFor line (Tso r) askers = (rest : List ℕ) × (askers ≡ line ∷ rest) × (r.count ≡ length askers) × (r.count ≤ 64)
AskFor line r askers = askers ≡ []

abbrev pub HasAskers : Posting → Type 0
HasAskers (Send t to r askers) = AskFor t.line r askers
HasAskers (Sleep t) = Unit {0}

-- they are posted in this order, each under the next number of its line, or of its line's heartbeat
abbrev pub ArePosted : Nexts → List Posting → Nexts → Type 0
ArePosted from [] to = to ≡ from
ArePosted from (p ∷ ps) to = IsNext from (ticket_in p) × HasAskers p × ArePosted (raised (ticket_in p).beat (ticket_in p).line from) ps to

-- each asker is one of so many lines
abbrev pub AskersAre : ℕ → Posting → Type 0
AskersAre count (Send t to r askers) = All (λ n. n ≤ count) askers
AskersAre count (Sleep t) = Unit {0}

-- Groups

-- a client's request for timestamps is out
abbrev pub IsOut : Sight → Group → Type 0
IsOut s g = (c : ℕ) × (slice_index_or s.groups c None ≡ Some g)

-- this is posted, by no heartbeat
abbrev pub IsAsk : Group → Posting → Type 0
IsAsk g (Send t to (Tso r) askers) = (t ≡ g.ticket) × (askers ≡ g.askers) × (t.beat ≡ false)
IsAsk g _ = ⊥

-- a group that is out was so before, or is one that was posted
abbrev pub GroupsGo : List Posting → Sight → Sight → Type 0
GroupsGo posted old new = (g : Group) → IsOut new g → IsOut old g ⊎ Any (IsAsk g) posted

-- What is given

-- The reply gives a line this timestamp. It names its last one, which is of the last asker, and each asker has the one before that of
-- the next.
pub record Gives (o : TsoResponse) (askers : List ℕ) (line version : ℕ) : Type 0 where
  pub last : Timestamp
  pub is_last : o.timestamp ≡ Some last
  pub ahead : List ℕ
  pub behind : List ℕ
  pub lines : askers ≡ ahead ++ line ∷ behind
  pub below : version + length behind ≡ version_of last
  pub within : length behind < o.count

abbrev pub GivesIn : Reply → List ℕ → ℕ → ℕ → Type 0
GivesIn (replies.Tso o) askers line version = Gives o askers line version
GivesIn _ askers line version = ⊥

-- the request of the ticket is out, and its reply gives a line this timestamp
pub record IsGiven (s : Sight) (t : Ticket) (o : Reply) (line version : ℕ) : Type 0 where
  pub group : Group
  pub out : IsOut s group
  pub ticket : group.ticket ≡ t
  pub gives : GivesIn o group.askers line version

-- no line is given any
abbrev pub NoneGiven : ℕ → ℕ → Type 0
NoneGiven line version = ⊥

-- What ends

-- the timestamp that an outcome names
abbrev pub number_of : Outcome → Option ℕ
number_of (Ok Nothing) = None
number_of (Ok (Number version)) = Some version
number_of (Ok (Committed version)) = None
number_of (Err e) = None
number_of Unfinished = None
number_of Done = None
number_of Skipped = None

-- an ending names no timestamp but one that its line was given
abbrev pub Names : (ℕ → ℕ → Type 0) → Ending → Type 0
Names IsGiven e = (version : ℕ) → number_of e.outcome ≡ Some version → IsGiven e.line version

-- what a line's call answered
abbrev pub outcomes_of : ℕ → List Ending → List Outcome
outcomes_of n ended = map (λ e. e.outcome) (filter (λ e. nat_eq e.line n) ended)

-- A timestamp was given, at which a transaction has begun where it was asked for that; or the error is told.
abbrev pub AskEnds : ℕ → Bool → Outcome → Stand → Type 0
AskEnds c true (Ok (Number v)) new = new ≡ HasBegun c 0
AskEnds c false (Ok (Number v)) new = new ≡ Past c
AskEnds c b (Err e) new = new ≡ Past c
AskEnds c b _ new = ⊥

-- a commit may leave a job
abbrev pub CallEnds : ℕ → Bool → Outcome → Stand → Type 0
CallEnds c true (Ok (Committed t)) new = (new ≡ Past c) ⊎ (new ≡ Working c)
CallEnds c false (Ok Nothing) new = new ≡ Past c
CallEnds c b (Err e) new = new ≡ Past c
CallEnds c b _ new = ⊥

-- a call still waits, or ended once
abbrev pub StaysOrEnds : Stand → (Outcome → Stand → Type 0) → List Outcome → Stand → Type 0
StaysOrEnds old Ends [] new = new ≡ old
StaysOrEnds old Ends (o ∷ []) new = Ends o new
StaysOrEnds old Ends (o ∷ p ∷ os) new = ⊥

abbrev pub still_open : ℕ → List Outcome → ℕ
still_open m [] = m
still_open m (o ∷ os) = 0

-- what becomes of what stands at line n
abbrev pub LineGoes : List Ending → ℕ → Stand → Stand → Type 0
LineGoes ended n (Asking c b) new = StaysOrEnds (Asking c b) (AskEnds c b) (outcomes_of n ended) new
LineGoes ended n (Calling c x b) new = StaysOrEnds (Calling c x b) (CallEnds c b) (outcomes_of n ended) new
LineGoes ended n (HasBegun c m) new = (outcomes_of n ended ≡ []) × (new ≡ HasBegun c (still_open m (outcomes_of m ended)))
LineGoes ended n old new = (outcomes_of n ended ≡ []) × (new ≡ old)

-- What one step of the clients makes of them, besides what the line itself changed. Nobody crashes, and of a client that has
-- crashed no line posts anything, and no call ends.
pub record Goes (posted : List Posting) (ended : List Ending) (old new : Sight) : Type 0 where
  pub crashed : new.crashed ≡ old.crashed
  pub count : length new.stands ≡ length old.stands
  pub lines : (n : ℕ) → LineGoes ended n (stand_at old.stands n) (stand_at new.stands n)
  pub live : All (λ (e : Ending). is_live old e.line ≡ true) ended
  pub posting : All (λ (p : Posting). is_live old (ticket_in p).line ≡ true) posted
  pub numbers : ArePosted old.nexts posted new.nexts
  pub askers : All (AskersAre (line_count old)) posted
  pub groups : GroupsGo posted old new

abbrev pub commits : Act → Bool
commits (acts.Put k v) = false
commits (acts.Insert k v) = false
commits (acts.Delete k) = false
commits (acts.Mutate ms) = false
commits (acts.Lock ks) = false
commits acts.Commit = true
commits acts.Rollback = false

-- no call ends but that of this line
abbrev pub EndsAlone : ℕ → List Ending → Type 0
EndsAlone line ended = All (λ (e : Ending). e.line ≡ line) ended

-- the newest line has begun a call for a timestamp of a line's client, and is given none yet
abbrev pub Asks : Bool → ℕ → Sight → Sight → Option Turn → Type 0
Asks begins client old new None = (is_live old client ≡ false) × (new ≡ old)
Asks begins client old new (Some turn) = (c : ℕ) × (client_at (stand_at old.stands client) ≡ Some c) × (is_live old client ≡ true)
    × Goes turn.posted.items turn.ended.items (with_stand (line_count old) (Asking c begins) old) new
    × EndsAlone (line_count old) turn.ended.items
    × All (Names NoneGiven) turn.ended.items

-- the newest line has begun a call of the transaction of line x
abbrev pub Acts : Act → ℕ → Sight → Sight → Option Turn → Type 0
Acts act x old new None = (is_free old x ≡ false) × (new ≡ old)
Acts act x old new (Some turn) = (c : ℕ) × (stand_at old.stands x ≡ HasBegun c 0) × (is_free old x ≡ true)
    × Goes turn.posted.items turn.ended.items (with_stand (line_count old) (Calling c x (commits act)) (with_stand x (HasBegun c (line_count old)) old)) new
    × EndsAlone (line_count old) turn.ended.items
    × All (Names NoneGiven) turn.ended.items
