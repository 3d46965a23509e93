-- The Commits of a transaction's primary, and what became of them.
use Rattle.std.specs.Prelude.{◌≡◌, ◌≢◌, ◌⊎◌, ⊤, ℕ, nat_eq, Bool, true, false, ◌&&◌, not, if◌then◌else◌, List, [], ◌∷◌, ◌++◌, filter, Option, Some, None, is_none}
use Rattle.std.specs.List.{list_any}
use Rattle.txn_kv.specs.Timestamp.{version_of}
use Rattle.txn_kv.specs.declared.outbox.Errand.{Errand}
use Rattle.txn_kv.specs.declared.outbox.Errand.TheVariants.{Send, Sleep, Ask}
use Rattle.txn_kv.specs.declared.reply.Reply.{Reply}
use Rattle.txn_kv.specs.declared.reply.Reply.TheVariants as replies
use Rattle.txn_kv.specs.declared.request.commits.CommitRequest.{CommitRequest}
use Rattle.txn_kv.specs.declared.request.Request.{Request}
use Rattle.txn_kv.specs.declared.request.Request.TheVariants.{Commit}
use Rattle.txn_kv.specs.declared.ticket.Ticket.{Ticket}
use Rattle.txn_kv.specs.declared.timestamp.Timestamp.{Timestamp}
use Rattle.txn_history.specs.Among.{IsAmong}
use Rattle.txn_history.specs.Event.{Event, Has, same_ticket}
use Rattle.txn_history.specs.Event.Event.{Sent, Took, Lost}
use Rattle.txn_history.specs.Licence.{WasNamed}
use Rattle.txn_history.specs.Plan.{Plan, has_key}
use Rattle.txn_history.specs.Posted.{Posted, ticket_of}
use Rattle.txn_kv.specs.declared.arrival.Arrival.{Arrival}
use Rattle.txn_kv.specs.declared.arrival.Arrival.TheVariants.{Reply as Reply_came, Lost as Was_lost, Slept as Has_slept, Time as Time_came}

-- the timestamp that they name, once one was sent; those that are neither refused nor lost; and the first that was lost
pub record Commits : Type 0 where
  pub timestamp : Option Timestamp
  pub out : List Ticket
  pub lost : Option Ticket

abbrev pub none_sent : Commits
none_sent = record { timestamp = None; out = []; lost = None }

abbrev pub without : Ticket → List Ticket → List Ticket
without t ts = filter (λ u. not (same_ticket u t)) ts

abbrev pub is_out : Ticket → Commits → Bool
is_out t c = list_any (λ u. same_ticket u t) c.out

-- the reply says that what was sent at this timestamp is committed
abbrev pub is_done : Option Timestamp → Reply → Bool
is_done (Some time) (replies.Commit o) = is_none o.region_error && is_none o.error && nat_eq o.commit_version (version_of time)
is_done time o = false

-- a reply was taken: one that does not say so is a refusal
abbrev pub answered : Ticket → Reply → Commits → Commits
answered t x c = if is_done c.timestamp x then c else record c { out = without t c.out }

abbrev pub or_ticket : Option Ticket → Ticket → Option Ticket
or_ticket None t = Some t
or_ticket (Some first) t = Some first

-- a request was lost: it counts where it is one of them
abbrev pub lost : Ticket → Commits → Commits
lost t c = if is_out t c then record c { out = without t c.out; lost = or_ticket c.lost t } else c

-- what the line of this outbox was told of
abbrev pub heard : Arrival → Posted → Commits → Commits
heard (Reply_came n x) o c = answered (ticket_of o n) x c
heard (Was_lost n) o c = lost (ticket_of o n) c
heard (Has_slept n) o c = c
heard (Time_came n x) o c = c

-- one of them is out, and waits for it
abbrev pub awaits : Arrival → Posted → Commits → Bool
awaits (Reply_came n x) o c = is_out (ticket_of o n) c
awaits (Was_lost n) o c = is_out (ticket_of o n) c
awaits (Has_slept n) o c = false
awaits (Time_came n x) o c = false

abbrev pub is_commit : Request → Bool
is_commit (Commit r) = true
is_commit _ = false

-- the ticket of each Commit that is posted
abbrev pub and_ticket : Bool → Ticket → List Ticket → List Ticket
and_ticket b t ts = if b then t ∷ ts else ts

abbrev pub commit_tickets : ℕ → Bool → List Errand → List Ticket
commit_tickets line beat [] = []
commit_tickets line beat (Send n to r ∷ rest) = and_ticket (is_commit r) (record { line = line; beat = beat; number = n }) (commit_tickets line beat rest)
commit_tickets line beat (Sleep n ms ∷ rest) = commit_tickets line beat rest
commit_tickets line beat (Ask n ∷ rest) = commit_tickets line beat rest

abbrev pub and_sent : List Ticket → Timestamp → Commits → Commits
and_sent [] time c = c
and_sent (t ∷ ts) time c = record c { timestamp = Some time; out = c.out ++ t ∷ ts }

-- errands were posted, of which each Commit commits the primary at this timestamp
abbrev pub sent : ℕ → Bool → List Errand → Timestamp → Commits → Commits
sent line beat errands time c = and_sent (commit_tickets line beat errands) time c

abbrev pub first_of : List Ticket → Option Ticket
first_of [] = None
first_of (t ∷ ts) = Some t

abbrev pub or_first : Option Ticket → List Ticket → Option Ticket
or_first (Some t) out = Some t
or_first None out = first_of out

-- What is known then, after an outbox of this line and kind posted: what was marked as lost is what was, and each that is out was out or was posted.
pub record IsFollowed (o : Posted) (was is : Commits) : Type 0 where
  pub lost : is.lost ≡ was.lost
  pub out : (t : Ticket) → IsAmong is.out t → IsAmong was.out t ⊎ ((n : ℕ) × (t ≡ ticket_of o n))

-- one that was lost, or that is not refused: it may have committed the transaction
abbrev pub undetermined : Commits → Option Ticket
undetermined c = or_first c.lost c.out

-- What of this happened

-- the request commits the primary of the transaction
pub record CommitsPrimary (plan : Plan) (s : ℕ) (r : CommitRequest) : Type 0 where
  pub start : r.start_version ≡ s
  pub primary : has_key r.keys plan.primary ≡ true

-- one was sent with this ticket
abbrev pub PrimarySent : Plan → ℕ → List Event → Ticket → Type 0
PrimarySent plan s h t = (r : CommitRequest) × Has h (Sent t (Commit r)) × CommitsPrimary plan s r

-- and was lost
abbrev pub PrimaryLost : Plan → ℕ → List Event → Ticket → Type 0
PrimaryLost plan s h t = (r : CommitRequest) × Has h (Lost t (Commit r)) × CommitsPrimary plan s r

-- so was the one that is marked as lost
abbrev pub MarksLost : Plan → ℕ → Commits → List Event → Type 0
MarksLost plan s c h = (t : Ticket) → c.lost ≡ Some t → PrimaryLost plan s h t

-- the reply does not say that what was sent is committed
abbrev pub IsRefusal : CommitRequest → Reply → Type 0
IsRefusal r (replies.Commit o) = o.region_error ≡ None → o.error ≡ None → o.commit_version ≢ r.commit_version
IsRefusal r o = ⊤

-- one was sent with this ticket, and was refused
abbrev pub WasRefused : List Event → Ticket → CommitRequest → Type 0
WasRefused h t r = (o : Reply) × Has h (Took t (Commit r) o) × IsRefusal r o

-- Each that was sent names the one timestamp, and one was sent that does. What is out was sent, and so was the first that was lost. Each that was sent was
-- refused, or is out, or one was lost.
pub record KnowsCommits (plan : Plan) (s : ℕ) (c : Commits) (h : List Event) : Type 0 where
  pub named : (d : ℕ) → WasNamed plan h s d → (t : Timestamp) × (c.timestamp ≡ Some t) × (version_of t ≡ d)
  pub since : (t : Timestamp) → c.timestamp ≡ Some t → WasNamed plan h s (version_of t)
  pub waiting : (t : Ticket) → IsAmong c.out t → PrimarySent plan s h t
  pub losing : (t : Ticket) → c.lost ≡ Some t → PrimarySent plan s h t
  pub all : (t : Ticket) (r : CommitRequest) → Has h (Sent t (Commit r)) → CommitsPrimary plan s r
      → WasRefused h t r ⊎ ((c.lost ≢ None) ⊎ IsAmong c.out t)
