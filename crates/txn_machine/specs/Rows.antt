-- What a machine keeps of the causes of outcomes while the script goes on.
use Rattle.std.specs.Prelude.{◌≡◌, ℕ, ◌<◌, ◌≤◌, Bool, true, false, not, if◌then◌else◌, List, [], ◌∷◌, length, Option, Some, None, slice_get, slice_index_or}
use Rattle.std.proofs.Common.{suc}
use Rattle.txn_kv.specs.declared.errors.Error.{Error}
use Rattle.txn_kv.specs.declared.request.Request.{Request}
use Rattle.txn_kv.specs.declared.ticket.Ticket.{Ticket}
use Rattle.txn_history.specs.Event.{Event, is_awaited, is_lost, is_refused, is_served, kept_reply, sent_request, taken_reply}
use Rattle.txn_lines.specs.Lines.{line_at}
use Rattle.txn_lines.specs.declared.line.Line.{Line}
use Rattle.txn_post.specs.Mail.{Mail, is_lasting, letter_at, place_of}
use Rattle.txn_post.specs.declared.letter.Letter.{Letter}
use Rattle.txn_post.specs.declared.post.Place.{Place}
use Rattle.txn_post.specs.declared.post.Place.TheVariants.{Sent, Slept}
use Rattle.txn_report.specs.declared.outcome.Outcome.{Outcome}
use Rattle.txn_report.specs.declared.outcome.Outcome.TheVariants.{Ok, Err, Unfinished, Done, Skipped}
use Rattle.txn_report.specs.declared.outcome.Payload.TheVariants.{Unit as Nothing, Number, Commit as Committed}
use Rattle.txn_report.specs.declared.report.SleepNote.{SleepNote}
use Rattle.txn_side.specs.Sight.{Stand, client_at, stand_at}
use Rattle.txn_side.specs.Sight.Stand.{Asking, Calling, HasBegun, Idle, IsClient, Past, Working}
use Rattle.txn_machine.specs.Causes.{AllCallsMeet, AllEnd, AllEventsMeet, AllLive, Role, client_of, ended_of, is_crashed, is_woken, role_of}
use Rattle.txn_machine.specs.Causes.Role.{AsksTime, MakesClient, NoCall, UsesTransaction}
use Rattle.txn_machine.specs.Lists.{Lists, request_in}
use Rattle.txn_machine.specs.Script.{history, outcome_of}

-- how far a line has come
pub data Row : Type 0 where
  Made : (client : ℕ) → Row
  AskWaits : (begins : Bool) (line client : ℕ) → Row
  Begun : (line version client waits : ℕ) → Row
  Timed : (line version client : ℕ) → Row
  AskFailed : (begins : Bool) (line client : ℕ) (error : Error) → Row
  AskSkipped : (begins : Bool) (line : ℕ) → Row
  CallWaits : (commits : Bool) (transaction client : ℕ) → Row
  Acted : (transaction client : ℕ) → Row
  -- a commit that left nothing, or a job
  Over : (transaction : ℕ) (version : Option ℕ) (client : ℕ) → Row
  Works : (transaction : ℕ) (version : Option ℕ) (client : ℕ) → Row
  CallFailed : (commits : Bool) (transaction client : ℕ) (error : Error) → Row
  CallSkipped : (commits : Bool) (transaction : ℕ) → Row
  Happened : (done : Bool) → Row

abbrev pub role_in : Row → Role
role_in (Made c) = MakesClient
role_in (AskWaits b k c) = AsksTime b k
role_in (Begun k v c m) = AsksTime true k
role_in (Timed k v c) = AsksTime false k
role_in (AskFailed b k c e) = AsksTime b k
role_in (AskSkipped b k) = AsksTime b k
role_in (CallWaits b x c) = UsesTransaction b x
role_in (Acted x c) = UsesTransaction false x
role_in (Over x v c) = UsesTransaction true x
role_in (Works x v c) = UsesTransaction true x
role_in (CallFailed b x c e) = UsesTransaction b x
role_in (CallSkipped b x) = UsesTransaction b x
role_in (Happened d) = NoCall

abbrev pub outcome_in : Row → Outcome
outcome_in (Made c) = Ok Nothing
outcome_in (AskWaits b k c) = Unfinished
outcome_in (Begun k v c m) = Ok (Number v)
outcome_in (Timed k v c) = Ok (Number v)
outcome_in (AskFailed b k c e) = Err e
outcome_in (AskSkipped b k) = Skipped
outcome_in (CallWaits b x c) = Unfinished
outcome_in (Acted x c) = Ok Nothing
outcome_in (Over x v c) = Ok (Committed v)
outcome_in (Works x v c) = Ok (Committed v)
outcome_in (CallFailed b x c e) = Err e
outcome_in (CallSkipped b x) = Skipped
outcome_in (Happened d) = if d then Done else Skipped

abbrev pub stand_in : Row → Stand
stand_in (Made c) = IsClient c
stand_in (AskWaits b k c) = Asking c b
stand_in (Begun k v c m) = HasBegun c m
stand_in (Timed k v c) = Past c
stand_in (AskFailed b k c e) = Past c
stand_in (AskSkipped b k) = Idle
stand_in (CallWaits b x c) = Calling c x b
stand_in (Acted x c) = Past c
stand_in (Over x v c) = Past c
stand_in (Works x v c) = Working c
stand_in (CallFailed b x c e) = Past c
stand_in (CallSkipped b x) = Idle
stand_in (Happened d) = Idle

-- the line has this role, outcome and stand
pub record IsRow (role : Role) (o : Outcome) (stand : Stand) : Type 0 where
  pub row : Row
  pub is : role_in row ≡ role
  pub outcome : outcome_in row ≡ o
  pub at : stand_in row ≡ stand

-- no line has this number
pub record IsNoRow (o : Outcome) (e : ℕ) (stand : Stand) : Type 0 where
  pub outcome : o ≡ Unfinished
  pub ended : e ≡ 0
  pub at : stand ≡ Idle

-- what stands at the lines fits together: calls and their transactions, clients and the flags of those that crashed
pub record AreWoven (script : List Line) (seen : ℕ → Outcome) (stand : ℕ → Stand) (crashed : List Bool) : Type 0 where
  pub calling : (n c x : ℕ) (b : Bool) → stand n ≡ Calling c x b → stand x ≡ HasBegun c n
  pub called : (x c m : ℕ) → 1 ≤ m → stand x ≡ HasBegun c m → (b : Bool) × (stand m ≡ Calling c x b)
  pub one : (j k c : ℕ) → stand j ≡ IsClient c → stand k ≡ IsClient c → j ≡ k
  pub below : (n c : ℕ) → stand n ≡ IsClient c → c < length crashed
  pub clients : (n c : ℕ) → client_at (stand n) ≡ Some c → stand (client_of script n) ≡ IsClient c
  pub flags : (n c : ℕ) → stand n ≡ IsClient c → slice_index_or crashed c true ≡ is_crashed seen script n
  pub ahead : (n : ℕ) → length script < n → is_crashed seen script n ≡ false

pub record AreRows (script : List Line) (seen : ℕ → Outcome) (ends : ℕ → ℕ) (stand : ℕ → Stand) (crashed : List Bool) : Type 0 where
  pub rows : (n : ℕ) (line : Line) → line_at script n ≡ Some line → IsRow (role_of line) (seen n) (stand n)
  pub none : (n : ℕ) → line_at script n ≡ None → IsNoRow (seen n) (ends n) (stand n)
  pub ended : AllEnd script seen ends
  pub woven : AreWoven script seen stand crashed

-- What became of what was sent.

-- nothing was sent with the ticket
pub record IsUnsent (es : List Event) (t : Ticket) : Type 0 where
  pub sent : sent_request es t ≡ None
  pub kept : kept_reply es t ≡ None
  pub taken : taken_reply es t ≡ None
  pub refused : is_refused es t ≡ false
  pub lost : is_lost es t ≡ false

-- what had happened to a request is what its letter says
pub record IsFate (es : List Event) (t : Ticket) (r : Request) (letter : Letter) : Type 0 where
  pub sent : sent_request es t ≡ Some r
  pub served : is_served es t ≡ letter.served
  pub refused : is_refused es t ≡ letter.refused
  pub awaited : is_awaited es t ≡ letter.awaited
  pub kept : letter.awaited ≡ true → kept_reply es t ≡ letter.kept

-- what had happened to what a ticket names
abbrev pub Fate : List Event → Mail → Ticket → Option Place → Type 0
Fate es mail t None = IsUnsent es t × (is_woken es t ≡ false)
Fate es mail t (Some (Sent k)) = IsFate es t (request_in (slice_get mail.sent k)) (letter_at mail k)
Fate es mail t (Some (Slept k)) = IsUnsent es t × (is_woken es t ≡ not (is_lasting mail k))

abbrev pub AllSleptBefore : ℕ → List SleepNote → Type 0
AllSleptBefore n [] = Unit {0}
AllSleptBefore n (s ∷ ss) = (s.at < n) × AllSleptBefore n ss

pub record AreFates (es : List Event) (n : ℕ) (mail : Mail) : Type 0 where
  pub fates : (t : Ticket) → Fate es mail t (place_of mail.tickets t)
  -- no sleep began in line n or later
  pub slept : AllSleptBefore n mail.sleeps

-- what was posted is of lines that have a client
pub record AreOwned (mail : Mail) (stands : List Stand) : Type 0 where
  pub owner : (t : Ticket) (p : Place) → place_of mail.tickets t ≡ Some p → (c : ℕ) × (client_at (stand_at stands t.line) ≡ Some c)

-- the lists of a machine after these lines
pub record Caused (script : List Line) (l : Lists) : Type 0 where
  pub rows : AreRows script (λ n. outcome_of l.outcomes n) (λ n. ended_of l.ended n) (λ n. stand_at l.sight.stands n) l.sight.crashed
  pub lives : AllLive script (λ n. outcome_of l.outcomes n) (λ n. ended_of l.ended n)
  pub calls : AllCallsMeet l.outcomes l.ended script
  pub events : AllEventsMeet l.mail.sent l.mail.sleeps l.outcomes l.ended script
  pub fates : AreFates (history l.mail.sent l.outcomes script) (suc (length script)) l.mail
  pub owned : AreOwned l.mail l.sight.stands
