-- What a script does, by its lines and the lists of its report alone. Lines stand here with the newest first.
use Rattle.std.specs.Prelude.{◌≡◌, ℕ, ◌<◌, Bool, true, false, ◌&&◌, if◌then◌else◌, List, [], ◌∷◌, length, reverse, Option, Some, None, nat_eq, nat_lt, slice_index_or}
use Rattle.std.proofs.Common.{zero, suc}
use Rattle.txn_kv.specs.declared.request.Request.{Request}
use Rattle.txn_kv.specs.declared.reply.Reply.{Reply}
use Rattle.txn_kv.specs.declared.ticket.Ticket.{Ticket}
use Rattle.txn_history.specs.Busy.{busy_reply}
use Rattle.txn_history.specs.Event.{Event, kept_reply, same_ticket}
use Rattle.txn_history.specs.Event.Event.{Clocked, Crashed, Led, Lost, Refused, Sent, Served, Slept, Split, Took}
use Rattle.txn_law.specs.Run.{store_after}
use Rattle.txn_lines.specs.Deeds.{deed_of}
use Rattle.txn_lines.specs.declared.deed.Deed.{Deed}
use Rattle.txn_lines.specs.declared.deed.Deed.TheVariants as deeds
use Rattle.txn_lines.specs.declared.happening.Happening.TheVariants as happenings
use Rattle.txn_lines.specs.declared.line.Line.{Line}
use Rattle.txn_model.specs.Store.{Store}
use Rattle.txn_model.specs.Table.{table}
use Rattle.txn_report.specs.declared.outcome.Outcome.{Outcome}
use Rattle.txn_report.specs.declared.outcome.Outcome.TheVariants.{Ok, Err, Unfinished, Done, Skipped}
use Rattle.txn_report.specs.declared.report.Report.{Report}
use Rattle.txn_report.specs.declared.report.SentNote.{SentNote}
use Rattle.txn_side.specs.Sight.{Stand, stand_at}
use Rattle.txn_side.specs.Sight.Stand.{Asking, Calling, HasBegun, Idle, IsClient, Past, Working}
use Rattle.txn_machine.specs.Lists.{Lists}

-- the outcome of a line, by its number
abbrev pub outcome_of : List Outcome → ℕ → Outcome
outcome_of outs zero = Unfinished
outcome_of outs (suc i) = slice_index_or outs i Unfinished

abbrev pub is_done : Outcome → Bool
is_done (Ok p) = false
is_done (Err e) = false
is_done Unfinished = false
is_done Done = true
is_done Skipped = false

-- the request of this ticket, if it was sent before line n
abbrev pub find : List SentNote → ℕ → Ticket → Option Request
find [] n t = None
find (s ∷ ss) n t = if same_ticket s.ticket t && nat_lt s.at n then Some s.request else find ss n t

-- the store handles a request, and its reply is kept
abbrev pub serves : Ticket → Option Request → List Event → List Event
serves t None es = es
serves t (Some r) es = Served t r (table (store_after es) r).reply ∷ es

abbrev pub takes_it : Ticket → Request → Option Reply → List Event → List Event
takes_it t r None es = es
takes_it t r (Some o) es = Took t r o ∷ es

-- the client takes the reply that is kept
abbrev pub takes : Ticket → Option Request → List Event → List Event
takes t None es = es
takes t (Some r) es = takes_it t r (kept_reply es t) es

abbrev pub refuses_it : Ticket → Request → Option Reply → List Event → List Event
refuses_it t r None es = es
refuses_it t r (Some o) es = Took t r o ∷ Refused t r o ∷ es

-- the store is too busy to look at a request, and the client takes that reply
abbrev pub refuses : Ticket → Option Request → List Event → List Event
refuses t None es = es
refuses t (Some r) es = refuses_it t r (busy_reply r) es

-- the client is told that no reply will come
abbrev pub loses : Ticket → Option Request → List Event → List Event
loses t None es = es
loses t (Some r) es = Lost t r ∷ es

-- what a line makes of the history that asks this, and is Done; clients are named by the lines that made them
abbrev pub does : (Ticket → Option Request) → Deed → List Event → List Event
does looks (deeds.Happens (happenings.Serve t)) es = serves t (looks t) es
does looks (deeds.Happens (happenings.Answer t)) es = takes t (looks t) es
does looks (deeds.Happens (happenings.Deliver t)) es = takes t (looks t) (serves t (looks t) es)
does looks (deeds.Happens (happenings.Lose t)) es = loses t (looks t) es
does looks (deeds.Happens (happenings.Busy t)) es = refuses t (looks t) es
does looks (deeds.Happens (happenings.Wake t)) es = Slept t ∷ es
does looks (deeds.Happens (happenings.Split key)) es = Split key ∷ es
does looks (deeds.Happens (happenings.Lead region store)) es = Led region store ∷ es
does looks (deeds.Happens (happenings.Clock ms)) es = Clocked ms ∷ es
does looks (deeds.Happens (happenings.Crash client)) es = Crashed client ∷ es
does looks deeds.Nothing es = es
does looks deeds.Connect es = es
does looks (deeds.Ask client act) es = es
does looks (deeds.Use transaction act) es = es

-- what was sent in the step of line n
abbrev pub with_sends : List SentNote → ℕ → List Event → List Event
with_sends [] n es = es
with_sends (s ∷ ss) n es = with_sends ss n (if nat_eq s.at n then Sent s.ticket s.request ∷ es else es)

-- The history of a script: what was served, taken, refused, lost and sent, and what came from outside, line by line.
abbrev pub history : List SentNote → List Outcome → List Line → List Event
history sent outs [] = []
history sent outs (l ∷ ls) = with_sends sent (length (l ∷ ls)) (if is_done (outcome_of outs (length (l ∷ ls))) then does (λ t. find sent (length (l ∷ ls)) t) (deed_of l) (history sent outs ls) else history sent outs ls)

-- the tickets that were served, the newest first
abbrev pub served_tickets : List Event → List Ticket
served_tickets [] = []
served_tickets (Served t r o ∷ es) = t ∷ served_tickets es
served_tickets (_ ∷ es) = served_tickets es

-- the store is the table folded over what was served, and over what came from outside between, and these were served
pub record IsFoldOf (es : List Event) (st : Store) (tickets : List Ticket) : Type 0 where
  pub store : st ≡ store_after es
  pub served : tickets ≡ reverse (served_tickets es)

-- the store of a report and what it lists as served are those of the history of its lines
abbrev pub FoldsLines : List Line → Report → Type 0
FoldsLines script report = IsFoldOf (history report.sent report.outcomes script) report.store report.served

-- What a machine keeps of it while the script goes on.

abbrev pub AllBefore : ℕ → List SentNote → Type 0
AllBefore n [] = Unit {0}
AllBefore n (s ∷ ss) = (s.at < n) × AllBefore n ss

-- a call waits there
abbrev pub waits : Stand → Bool
waits Idle = false
waits (IsClient c) = false
waits (Asking c b) = true
waits (HasBegun c m) = false
waits (Calling c x b) = true
waits (Past c) = false
waits (Working c) = false

-- no line whose call waits is done
abbrev pub AreCalm : List Stand → List Outcome → Type 0
AreCalm stands outs = (n : ℕ) → waits (stand_at stands n) ≡ true → is_done (outcome_of outs n) ≡ false

-- the lists of a machine after these lines
pub record Folded (script : List Line) (l : Lists) : Type 0 where
  -- no request was sent in a later line
  pub before : AllBefore (suc (length script)) l.mail.sent
  pub calm : AreCalm l.sight.stands l.outcomes
  pub folds : IsFoldOf (history l.mail.sent l.outcomes script) l.store l.served
