-- Which clients can have arisen from the history of a report, and what their calls answered. Lines stand here with the newest first.
use Rattle.std.specs.Prelude.{◌≡◌, ◌⊎◌, ⊤, ℕ, Bool, true, if◌then◌else◌, List, [], ◌∷◌, length, Option, Some, None}
use Rattle.std.proofs.Common.{suc}
use Rattle.std.specs.List.{All}
use Rattle.txn_kv.specs.declared.reply.Reply.{Reply}
use Rattle.txn_kv.specs.declared.request.Request.{Request}
use Rattle.txn_kv.specs.declared.ticket.Ticket.{Ticket}
use Rattle.txn_history.specs.Event.{Event, Has, kept_reply}
use Rattle.txn_history.specs.Event.Event.{Sent, Served}
use Rattle.txn_law.specs.Run.{IsRoomy, IsUnserved, store_after}
use Rattle.txn_lines.specs.Lines.{line_at}
use Rattle.txn_lines.specs.declared.deed.Deed.{Deed}
use Rattle.txn_lines.specs.declared.line.Line.{Line}
use Rattle.txn_post.specs.Mail.{found_unserved, letter_at}
use Rattle.txn_report.specs.declared.outcome.Outcome.{Outcome}
use Rattle.txn_report.specs.declared.outcome.Outcome.TheVariants.{Ok}
use Rattle.txn_report.specs.declared.outcome.Payload.{Payload}
use Rattle.txn_report.specs.declared.outcome.Payload.TheVariants.{Number}
use Rattle.txn_report.specs.declared.report.Report.{Report}
use Rattle.txn_report.specs.declared.report.SentNote.{SentNote}
use Rattle.txn_side.specs.Account.{Account}
use Rattle.txn_side.specs.Arising.{answered_at, with_postings}
use Rattle.txn_side.specs.Saying.{SaysRight, SpeaksOf}
use Rattle.txn_side.specs.Sight.{Sight, stand_at}
use Rattle.txn_side.specs.Sight.Stand.{Idle}
use Rattle.txn_side.specs.declared.turn.Ending.{Ending}
use Rattle.txn_machine.specs.Accounts.{account_of}
use Rattle.txn_machine.specs.Causes.{Role, ended_of, lines_before, role_for, role_of}
use Rattle.txn_machine.specs.Causes.Role.{AsksTime, MakesClient, NoCall, UsesTransaction}
use Rattle.txn_machine.specs.Lists.{Lists, newest, opened, request_at}
use Rattle.txn_machine.specs.Rows.{IsRow}
use Rattle.txn_machine.specs.Running.{HasMemory}
use Rattle.txn_machine.specs.Script.{AllBefore, does, history, outcome_of, with_sends}
use Rattle.txn_machine.specs.Steps.{does_it, found_out}
use Rattle.txn_machine.specs.Told.{is_answer}
use Rattle.txn_machine.specs.declared.done.Done.{Done as Course}
use Rattle.txn_machine.specs.declared.machine.Machine.{Machine}

-- what a call answered is right of what stands at its line, or at that of its transaction
abbrev pub HoldsBy : (ℕ → Outcome → Type 0) → ℕ → Role → Outcome → Type 0
HoldsBy holds n (AsksTime begins client) (Ok p) = holds n (Ok p)
HoldsBy holds n (UsesTransaction commits x) (Ok p) = holds x (Ok p)
HoldsBy holds n role o = ⊤

abbrev pub AllHold : (ℕ → Outcome → Type 0) → List Outcome → List Line → Type 0
AllHold holds outs [] = ⊤
AllHold holds outs (line ∷ before) = HoldsBy holds (length (line ∷ before)) (role_of line) (outcome_of outs (length (line ∷ before))) × AllHold holds outs before

-- The line asks something of the transaction of line x, which began at s, and is answered so.
pub record AnswersOf (script : List Line) (outs : List Outcome) (n x s : ℕ) (o : Outcome) : Type 0 where
  pub commits : Bool
  pub line : Line
  pub there : line_at script n ≡ Some line
  pub role : role_of line ≡ UsesTransaction commits x
  pub began : outcome_of outs x ≡ Ok (Number s)
  pub is : outcome_of outs n ≡ o
  pub answers : is_answer o ≡ true

-- What each line that is answered so says of its transaction is right, by what had happened in the lines up to the one in whose step the
-- outcome came.
abbrev pub AllSpeak : List SentNote → List Outcome → List ℕ → List Line → Type 0
AllSpeak sent outs ended script = (n x s : ℕ) (o : Outcome) (f : AnswersOf script outs n x s o) → SaysRight (history sent outs (lines_before script (suc (ended_of ended n)))) s f.commits o

-- the clients can have arisen from the history of these lines, and what calls answered is right, and was when it came
pub record HaveArisen (arises : List Event → Type 0) (holds : List Event → ℕ → Outcome → Type 0) (script : List Line) (sent : List SentNote) (outs : List Outcome) (ended : List ℕ) : Type 0 where
  pub now : arises (history sent outs script)
  pub answers : AllHold (holds (history sent outs script)) outs script
  pub says : AllSpeak sent outs ended script

-- where memory was never wanting
abbrev pub ArisenIn : {S : Type 0} → (S → List Event → Type 0) → (S → List Event → ℕ → Outcome → Type 0) → Machine S → List Line → Type 0
ArisenIn arises holds m script = HasMemory m → HaveArisen (arises m.clients) (holds m.clients) script m.post.sent m.outcomes.items m.ended.items

-- Clients that can have arisen so are behind the report: their transactions have taken in what the lines tell, and each stands where a line
-- began it.
pub record ArisenLines {S : Type 0} (sight : S → Sight) (arises : S → List Event → Type 0) (holds : S → List Event → ℕ → Outcome → Type 0) (account : S → ℕ → Account) (script : List Line) (report : Report) : Type 0 where
  pub clients : S
  pub arisen : HaveArisen (arises clients) (holds clients) script report.sent report.outcomes report.ended
  pub taken : (x : ℕ) → account clients x ≡ account_of (λ n. outcome_of report.outcomes n) (λ n. ended_of report.ended n) script x
  pub rows : (n : ℕ) (line : Line) → line_at script n ≡ Some line → IsRow (role_of line) (outcome_of report.outcomes n) (stand_at (sight clients).stands n)
  pub none : (n : ℕ) → line_at script n ≡ None → stand_at (sight clients).stands n ≡ Idle

-- What a step makes of it

-- What the lists say of the history up to their newest line: its store, the request that was sent with each ticket, the reply that is
-- kept of one that is out, and which can still be served.
pub record Knows (l : Lists) (looks : Ticket → Option Request) (h : List Event) : Type 0 where
  -- no request was sent in the newest line yet
  pub before : AllBefore (newest l) l.mail.sent
  pub store : l.store ≡ store_after h
  pub sent : (t : Ticket) (r : Request) → looks t ≡ Some r → Has h (Sent t r)
  pub asked : (t : Ticket) (place : ℕ) → found_out l t ≡ Some place → looks t ≡ Some (request_at l place)
  pub kept : (t : Ticket) (place : ℕ) (o : Reply) → found_out l t ≡ Some place → (letter_at l.mail place).kept ≡ Some o → (kept_reply h t ≡ Some o) × Has h (Served t (request_at l place) o)
  -- what can be served was neither served nor refused
  pub unserved : (t : Ticket) (place : ℕ) → found_unserved l.mail t ≡ Some place → IsUnserved h t
  -- the store has room for the next timestamp
  pub room : IsRoomy l.store

-- what the newest line does, if it is done
abbrev pub happens : (Ticket → Option Request) → Deed → Lists → List Event → List Event
happens looks deed l h = if does_it deed l then does looks deed h else h

-- what is told to a line in the step of a line of this role is right of what stands there
abbrev pub IsRight : Role → Sight → (ℕ → Outcome → Type 0) → ℕ → Outcome → Type 0
IsRight MakesClient s holds n o = ⊤
IsRight (AsksTime begins client) s holds n o = holds n o
IsRight (UsesTransaction commits x) s holds n o = holds x o
IsRight NoCall s holds n o = holds (answered_at n (stand_at s.stands n)).at o

-- and so is what it says of it
abbrev pub Speaks : Role → Sight → (ℕ → Outcome → Type 0) → List Event → ℕ → Outcome → Type 0
Speaks MakesClient s held h n o = ⊤
Speaks (AsksTime begins client) s held h n o = ⊤
Speaks (UsesTransaction commits x) s held h n o = SpeaksOf held h (record { at = x; commits = commits }) n o
Speaks NoCall s held h n o = SpeaksOf held h (answered_at n (stand_at s.stands n)) n o

-- The clients can have arisen from this history. What was right still is, and so is what the calls answered that ended in the step, and
-- what they say of their transactions then.
pub record GoesOn (arises : List Event → Type 0) (holds : List Event → ℕ → Outcome → Type 0) (held : ℕ → Outcome → Type 0) (role : Role) (s : Sight) (h : List Event) (ended : List Ending) : Type 0 where
  pub now : arises h
  pub kept : (x : ℕ) (o : Outcome) → held x o → holds h x o
  pub answers : All (λ (e : Ending). IsRight role s (holds h) e.line e.outcome) ended
  pub says : All (λ (e : Ending). Speaks role s held h e.line e.outcome) ended

-- so it goes with each history of which the lists say so much, by what the newest line does and what is posted then
abbrev pub RunsTo : (List Event → Type 0) → (List Event → Type 0) → (List Event → ℕ → Outcome → Type 0) → (List Event → ℕ → Outcome → Type 0) → Deed → Lists → Course → Type 0
RunsTo was is held holds deed l done =
    (looks : Ticket → Option Request) (h : List Event) → Knows l looks h → was h → GoesOn is holds (held h) (role_for deed) l.sight (with_postings done.turn.posted.items (happens looks deed l h)) done.turn.ended.items

-- And by the lists that its step left.

-- what a line answers is right, and so is what it says of its transaction, or it was answered before
pub record GoesIn (arises : List Event → Type 0) (holds : List Event → ℕ → Outcome → Type 0) (held : ℕ → Outcome → Type 0) (role : Role) (s : Sight) (h : List Event) (old new : Lists) : Type 0 where
  pub now : arises h
  pub kept : (x : ℕ) (o : Outcome) → held x o → holds h x o
  pub answers : (n : ℕ) (p : Payload) → outcome_of new.outcomes n ≡ Ok p → (outcome_of old.outcomes n ≡ Ok p) ⊎ IsRight role s (holds h) n (Ok p)
  pub says : (n : ℕ) (o : Outcome) → is_answer o ≡ true → outcome_of new.outcomes n ≡ o → (outcome_of old.outcomes n ≡ o) ⊎ Speaks role s held h n o

-- by what the line does and what was sent in its step
abbrev pub Arisen : (List Event → Type 0) → (List Event → Type 0) → (List Event → ℕ → Outcome → Type 0) → (List Event → ℕ → Outcome → Type 0) → Deed → Lists → Lists → Type 0
Arisen was is held holds deed old new =
    (looks : Ticket → Option Request) (h : List Event) → Knows (opened old) looks h → was h → GoesIn is holds (held h) (role_for deed) (opened old).sight (with_sends new.mail.sent (newest (opened old)) (happens looks deed (opened old) h)) old new
