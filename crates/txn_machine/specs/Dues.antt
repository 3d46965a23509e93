-- That something is out for each call that is open, by the lines before and what had happened. Lines stand here with the newest first.
use Rattle.std.specs.Prelude.{◌≡◌, ◌⊎◌, ℕ, ◌≤◌, Bool, true, false, List, [], ◌∷◌, length, Some}
use Rattle.std.proofs.Common.{suc}
use Rattle.txn_kv.specs.declared.request.Request.TheVariants.{Tso}
use Rattle.txn_kv.specs.declared.request.cluster.TsoRequest.{TsoRequest}
use Rattle.txn_kv.specs.declared.ticket.Ticket.{Ticket}
use Rattle.txn_history.specs.Event.{Event, is_awaited, sent_request}
use Rattle.txn_lines.specs.declared.line.Line.{Line}
use Rattle.txn_post.specs.Mail.{Mail, is_lasting, letter_at, place_of}
use Rattle.txn_post.specs.declared.post.Place.TheVariants.{Sent, Slept}
use Rattle.txn_report.specs.declared.outcome.Outcome.{Outcome}
use Rattle.txn_report.specs.declared.report.Report.{Report}
use Rattle.txn_report.specs.declared.report.SentNote.{SentNote}
use Rattle.txn_report.specs.declared.report.SleepNote.{SleepNote}
use Rattle.txn_side.specs.Sight.{Group, IsOut}
use Rattle.txn_side.specs.Waiting.{Awaited}
use Rattle.txn_side.specs.Waiting.Awaited.{EndOf, ReplyTo}
use Rattle.txn_machine.specs.Causes.{began, client_of, is_crashed, is_unfinished, is_woken, known}
use Rattle.txn_machine.specs.Lists.{Lists}
use Rattle.txn_machine.specs.Script.{history}

-- a request of the line is out
pub record RequestIsOut (es : List Event) (n : ℕ) : Type 0 where
  pub ticket : Ticket
  pub own : ticket.line ≡ n
  pub no_beat : ticket.beat ≡ false
  pub out : is_awaited es ticket ≡ true

-- a sleep of the line lasts
pub record SleepIsOut (asleep : Ticket → Bool) (es : List Event) (n : ℕ) : Type 0 where
  pub ticket : Ticket
  pub own : ticket.line ≡ n
  pub no_beat : ticket.beat ≡ false
  pub begun : asleep ticket ≡ true
  pub lasts : is_woken es ticket ≡ false

-- a request for timestamps of the line's client is out
pub record OracleIsOut (script : List Line) (es : List Event) (n : ℕ) : Type 0 where
  pub ticket : Ticket
  pub no_beat : ticket.beat ≡ false
  pub same_client : client_of script ticket.line ≡ client_of script n
  pub asks : TsoRequest
  pub is_tso : sent_request es ticket ≡ Some (Tso asks)
  pub out : is_awaited es ticket ≡ true

-- After these lines something is out for each call that is open, and whose client has not crashed. Of some tickets a sleep has begun.
abbrev pub IsDue : (Ticket → Bool) → (ℕ → Outcome) → List Line → List Event → Type 0
IsDue asleep seen script es = (n : ℕ) → 1 ≤ n → n ≤ length script → is_unfinished (seen n) ≡ true → is_crashed seen script (client_of script n) ≡ false
    → RequestIsOut es n ⊎ SleepIsOut asleep es n ⊎ OracleIsOut script es n

-- after each line
abbrev pub Dues : List SentNote → List SleepNote → List Outcome → List ℕ → List Line → Type 0
Dues sent sleeps outs ended [] = Unit {0}
Dues sent sleeps outs ended (line ∷ before) = IsDue (λ t. began sleeps (suc (length (line ∷ before))) t) (known outs ended (suc (length (line ∷ before)))) (line ∷ before) (history sent outs (line ∷ before)) × Dues sent sleeps outs ended before

abbrev pub DuesLines : List Line → Report → Type 0
DuesLines script report = Dues report.sent report.sleeps report.outcomes report.ended script

-- What a machine keeps of it while the script goes on.

-- the ticket leads to a request that is awaited
pub record IsReplyOut (mail : Mail) (t : Ticket) : Type 0 where
  pub place : ℕ
  pub sent : place_of mail.tickets t ≡ Some (Sent place)
  pub awaited : (letter_at mail place).awaited ≡ true

-- the ticket leads to a sleep that lasts
pub record IsEndOut (mail : Mail) (t : Ticket) : Type 0 where
  pub place : ℕ
  pub slept : place_of mail.tickets t ≡ Some (Slept place)
  pub lasts : is_lasting mail place ≡ true

-- what a line waits for is out
abbrev pub IsAwaitedIn : Mail → ℕ → Awaited → Type 0
IsAwaitedIn mail line (ReplyTo number) = IsReplyOut mail (record { line = line; beat = false; number = number })
IsAwaitedIn mail line (EndOf number) = IsEndOut mail (record { line = line; beat = false; number = number })

-- a request for timestamps is out, which is none of a heartbeat
abbrev pub IsAskedIn : Mail → Group → Type 0
IsAskedIn mail g = (g.ticket.beat ≡ false) × IsReplyOut mail g.ticket

-- what the clients wait for is out, and so are their requests for timestamps
pub record AreOut (waits : ℕ → Awaited → Type 0) (l : Lists) : Type 0 where
  pub lines : (line : ℕ) (a : Awaited) → waits line a → IsAwaitedIn l.mail line a
  pub groups : (g : Group) → IsOut l.sight g → IsAskedIn l.mail g

-- the clients waited for what is out, and still do
abbrev pub StayOut : (ℕ → Awaited → Type 0) → (ℕ → Awaited → Type 0) → Lists → Lists → Type 0
StayOut was is old new = AreOut was old → AreOut is new

-- the lists of a machine after these lines
pub record AreDue (waits : ℕ → Awaited → Type 0) (script : List Line) (l : Lists) : Type 0 where
  pub out : AreOut waits l
  pub dues : Dues l.mail.sent l.mail.sleeps l.outcomes l.ended script
