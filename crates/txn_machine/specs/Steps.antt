-- What each line does.
use Rattle.std.specs.Prelude.{◌≡◌, ℕ, Bool, true, false, ◌&&◌, if◌then◌else◌, List, [], Option, Some, None, is_some}
use Rattle.std.specs.List.{All}
use Rattle.txn_kv.specs.declared.reply.Reply.{Reply}
use Rattle.txn_kv.specs.declared.ticket.Ticket.{Ticket}
use Rattle.txn_history.specs.Busy.{busy_reply}
use Rattle.txn_lines.specs.Deeds.{begins, deed_of}
use Rattle.txn_lines.specs.declared.deed.Deed.{Deed}
use Rattle.txn_lines.specs.declared.deed.Deed.TheVariants as deeds
use Rattle.txn_lines.specs.declared.happening.Happening.TheVariants as happenings
use Rattle.txn_lines.specs.declared.line.Line.{Line}
use Rattle.txn_model.specs.Regions.{at_clock, can_lead, can_split, lead, split}
use Rattle.txn_post.specs.Mail.{can_be_served, delivering, found_awaited, found_lasting, found_unserved, keeping, letter_at, losing, refusing, taking, waking}
use Rattle.txn_report.specs.declared.outcome.Outcome.{Outcome}
use Rattle.txn_report.specs.declared.outcome.Outcome.TheVariants.{Done, Ok, Skipped}
use Rattle.txn_report.specs.declared.outcome.Payload.TheVariants.{Unit as Nothing}
use Rattle.txn_side.specs.Sight.{Acts, Asks, Goes, IsGiven, Names, NoneGiven, Sight, connected, crash, is_live}
use Rattle.txn_side.specs.declared.turn.Ending.{Ending}
use Rattle.txn_side.specs.declared.turn.Posting.{Posting}
use Rattle.txn_side.specs.declared.turn.Turn.{Turn}
use Rattle.txn_machine.specs.Lists.{Lists, fated, followed, handled, opened, outright, reply_at, request_at, with_mail, with_sight, with_store}

-- an event that could do nothing where it stood
abbrev pub skipped : Lists → Lists
skipped l = outright Skipped l

abbrev pub done_if : Bool → Outcome
done_if b = if b then Done else Skipped

-- Calls

abbrev pub called : Option Turn → Lists → Lists
called None l = skipped l
called (Some turn) l = followed turn.posted.items turn.ended.items l

abbrev pub posted_in : Option Turn → List Posting
posted_in None = []
posted_in (Some turn) = turn.posted.items

abbrev pub ended_in : Option Turn → List Ending
ended_in None = []
ended_in (Some turn) = turn.ended.items

-- the clients do so, and the line is a call that they begin, or skip
pub record Calls (Begins : Sight → Sight → Option Turn → Type 0) (l new : Lists) : Type 0 where
  pub sight : Sight
  pub turn : Option Turn
  pub begins : Begins l.sight sight turn
  pub is : new ≡ called turn (with_sight sight l)

-- Events

-- the event is done, and the clients are told of it: what gives lines these timestamps
pub record Hears (Gives : ℕ → ℕ → Type 0) (l new : Lists) : Type 0 where
  pub sight : Sight
  pub posted : List Posting
  pub ended : List Ending
  pub goes : Goes posted ended l.sight sight
  pub times : All (Names Gives) ended
  pub is : new ≡ followed posted ended (outright Done (with_sight sight l))

-- where the request stands that a ticket names and whose client, which has not crashed, waits for a reply
abbrev pub found_out : Lists → Ticket → Option ℕ
found_out l t = if is_live l.sight t.line then found_awaited l.mail t else None

-- at the place, if there is one
abbrev pub AtPlace : Option ℕ → (ℕ → Lists → Lists → Type 0) → Lists → Lists → Type 0
AtPlace None Does l new = new ≡ skipped l
AtPlace (Some place) Does l new = Does place l new

abbrev pub Serves : Ticket → ℕ → Lists → Lists → Type 0
Serves t place l new = new ≡ outright Done (fated (keeping (reply_at l place)) place (handled t place l))

abbrev pub Takes : Ticket → ℕ → Option Reply → Lists → Lists → Type 0
Takes t place None l new = new ≡ skipped l
Takes t place (Some o) l new = Hears (IsGiven l.sight t o) (fated taking place l) new

abbrev pub Answers : Ticket → ℕ → Lists → Lists → Type 0
Answers t place l new = Takes t place (letter_at l.mail place).kept l new

abbrev pub IfServable : Bool → (Lists → Lists → Type 0) → Lists → Lists → Type 0
IfServable true Does l new = Does l new
IfServable false Does l new = new ≡ skipped l

abbrev pub Delivers : Ticket → ℕ → Lists → Lists → Type 0
Delivers t place l new = IfServable (can_be_served l.mail place) (λ l new. Hears (IsGiven l.sight t (reply_at l place)) (fated delivering place (handled t place l)) new) l new

abbrev pub Refuses : Ticket → ℕ → Option Reply → Lists → Lists → Type 0
Refuses t place None l new = new ≡ skipped l
Refuses t place (Some o) l new = Hears (IsGiven l.sight t o) (fated refusing place l) new

abbrev pub IsBusy : Ticket → ℕ → Lists → Lists → Type 0
IsBusy t place l new = IfServable (can_be_served l.mail place) (λ l new. Refuses t place (busy_reply (request_at l place)) l new) l new

abbrev pub Loses : ℕ → Lists → Lists → Type 0
Loses place l new = Hears NoneGiven (fated losing place l) new

abbrev pub Wakes : ℕ → Lists → Lists → Type 0
Wakes place l new = Hears NoneGiven (with_mail (waking place l.mail) l) new

-- where the sleep stands that a ticket names and that lasts, of a client that has not crashed
abbrev pub found_asleep : Lists → Ticket → Option ℕ
found_asleep l t = if is_live l.sight t.line then found_lasting l.mail t else None

-- Whether an event is done

abbrev pub test_at : (ℕ → Bool) → Option ℕ → Bool
test_at test None = false
test_at test (Some k) = test k

-- an event is done
abbrev pub does_it : Deed → Lists → Bool
does_it deeds.Nothing l = true
does_it (deeds.Happens (happenings.Serve t)) l = test_at (λ k. true) (found_unserved l.mail t)
does_it (deeds.Happens (happenings.Answer t)) l = test_at (λ k. is_some (letter_at l.mail k).kept) (found_out l t)
does_it (deeds.Happens (happenings.Deliver t)) l = test_at (λ k. can_be_served l.mail k) (found_out l t)
does_it (deeds.Happens (happenings.Lose t)) l = test_at (λ k. true) (found_out l t)
does_it (deeds.Happens (happenings.Busy t)) l = test_at (λ k. can_be_served l.mail k && is_some (busy_reply (request_at l k))) (found_out l t)
does_it (deeds.Happens (happenings.Wake t)) l = test_at (λ k. true) (found_asleep l t)
does_it (deeds.Happens (happenings.Split key)) l = can_split l.store key
does_it (deeds.Happens (happenings.Lead region store)) l = can_lead l.store region store
does_it (deeds.Happens (happenings.Clock ms)) l = true
does_it (deeds.Happens (happenings.Crash client)) l = is_live l.sight client
does_it deed l = false

-- Lines

-- what the newest line does that asks this
abbrev pub Does : Deed → Lists → Lists → Type 0
Does deeds.Nothing l new = new ≡ outright Done l
Does deeds.Connect l new = new ≡ outright (Ok Nothing) (with_sight (connected l.sight) l)
Does (deeds.Ask client act) l new = Calls (Asks (begins act) client) l new
Does (deeds.Use x act) l new = Calls (Acts act x) l new
Does (deeds.Happens (happenings.Serve t)) l new = AtPlace (found_unserved l.mail t) (Serves t) l new
Does (deeds.Happens (happenings.Answer t)) l new = AtPlace (found_out l t) (Answers t) l new
Does (deeds.Happens (happenings.Deliver t)) l new = AtPlace (found_out l t) (Delivers t) l new
Does (deeds.Happens (happenings.Lose t)) l new = AtPlace (found_out l t) Loses l new
Does (deeds.Happens (happenings.Busy t)) l new = AtPlace (found_out l t) (IsBusy t) l new
Does (deeds.Happens (happenings.Wake t)) l new = AtPlace (found_asleep l t) Wakes l new
Does (deeds.Happens (happenings.Split key)) l new = new ≡ outright (done_if (can_split l.store key)) (with_store (split l.store key) l)
Does (deeds.Happens (happenings.Lead region store)) l new = new ≡ outright (done_if (can_lead l.store region store)) (with_store (lead l.store region store) l)
Does (deeds.Happens (happenings.Clock ms)) l new = new ≡ outright Done (with_store (at_clock l.store ms) l)
Does (deeds.Happens (happenings.Crash client)) l new = new ≡ outright (done_if (is_live l.sight client)) (with_sight (crash client l.sight) l)

-- one line more
abbrev pub Steps : Line → Lists → Lists → Type 0
Steps line old new = Does (deed_of line) (opened old) new
