-- Why calls fail: after what they had heard, which had happened by then. Lines stand here with the newest first.
use Rattle.std.specs.Prelude.{◌≡◌, ◌⊎◌, ⊤, ℕ, true, List, [], ◌∷◌, ◌++◌, length, map, Option, Some, None}
use Rattle.std.specs.List.{Any}
use Rattle.std.proofs.Common.{suc}
use Rattle.txn_kv.specs.declared.errors.Error.{Error}
use Rattle.txn_kv.specs.declared.reply.Reply.{Reply}
use Rattle.txn_kv.specs.declared.request.Request.{Request}
use Rattle.txn_kv.specs.declared.ticket.Ticket.{Ticket}
use Rattle.txn_history.specs.Among.{IsAmong}
use Rattle.txn_history.specs.Busy.{busy_reply}
use Rattle.txn_history.specs.Event.Event.{Lost, Took}
use Rattle.txn_lines.specs.declared.begin_options.BeginOptions.{BeginOptions}
use Rattle.txn_lines.specs.Deeds.{begins_with, deed_of}
use Rattle.txn_lines.specs.declared.act.Act.{Act}
use Rattle.txn_lines.specs.declared.act.Act.TheVariants.{Rollback}
use Rattle.txn_lines.specs.declared.deed.Deed.{Deed}
use Rattle.txn_lines.specs.declared.deed.Deed.TheVariants as deeds
use Rattle.txn_lines.specs.declared.happening.Happening.TheVariants as happenings
use Rattle.txn_lines.specs.declared.line.Line.{Line}
use Rattle.txn_post.specs.Mail.{can_be_served, letter_at}
use Rattle.txn_report.specs.declared.outcome.Outcome.{Outcome}
use Rattle.txn_report.specs.declared.outcome.Outcome.TheVariants.{Err}
use Rattle.txn_report.specs.declared.report.Report.{Report}
use Rattle.txn_report.specs.declared.report.SentNote.{SentNote}
use Rattle.txn_side.specs.Account.{Account, refusal}
use Rattle.txn_side.specs.Sight.{Group}
use Rattle.txn_side.specs.Trace.{Begin, BeginsAs, Call, FailsIn, HasCome, HowCallsFail, IsCalled, IsLonger, IsSend, RestsOn, RollsBack, Trace, with_posted}
use Rattle.txn_side.specs.declared.turn.Posting.{Posting}
use Rattle.txn_machine.specs.Accounts.{Ask, account_of, ask_for, ask_of}
use Rattle.txn_machine.specs.Causes.{Role, ended_of, lines_before, role_for, role_of}
use Rattle.txn_machine.specs.Causes.Role.{AsksTime, MakesClient, NoCall, UsesTransaction}
use Rattle.txn_machine.specs.Lists.{Lists, newest, opened, reply_at, request_at}
use Rattle.txn_machine.specs.Running.{HasMemory}
use Rattle.txn_machine.specs.Script.{history, outcome_of}
use Rattle.txn_machine.specs.Steps.{found_out}
use Rattle.txn_machine.specs.declared.done.Done.{Done as Course}
use Rattle.txn_machine.specs.declared.machine.Machine.{Machine}

-- what comes for line n is told to what stands at it, or at the line of the transaction of which it asks something
abbrev pub calls_by : ℕ → Role → List Call
calls_by n MakesClient = []
calls_by n (AsksTime begins client) = record { line = n; at = n } ∷ []
calls_by n (UsesTransaction commits x) = record { line = n; at = x } ∷ []
calls_by n NoCall = []

abbrev pub calls_of : List Line → List Call
calls_of [] = []
calls_of (line ∷ before) = calls_by (length (line ∷ before)) (role_of line) ++ calls_of before

-- the options with which a line begins a transaction, if it begins one
abbrev pub begins_as : Deed → Option BeginOptions
begins_as (deeds.Ask client act) = begins_with act
begins_as _ = None

abbrev pub begun_by : ℕ → Option BeginOptions → List Begin
begun_by n None = []
begun_by n (Some options) = record { line = n; options = options } ∷ []

-- the lines that begin a transaction
abbrev pub begun_of : List Line → List Begin
begun_of [] = []
begun_of (line ∷ before) = begun_by (length (line ∷ before)) (begins_as (deed_of line)) ++ begun_of before

-- the lines that roll a transaction back
abbrev pub rolled : ℕ → Act → List ℕ
rolled n Rollback = n ∷ []
rolled n act = []

abbrev pub rolled_by : ℕ → Option Ask → List ℕ
rolled_by n None = []
rolled_by n (Some ask) = rolled n ask.act

abbrev pub rollbacks_of : List Line → List ℕ
rollbacks_of [] = []
rollbacks_of (line ∷ before) = rolled_by (length (line ∷ before)) (ask_of line) ++ rollbacks_of before

-- the ticket for which something comes in a line, if something does
abbrev pub came_by : Deed → Option Ticket
came_by (deeds.Happens (happenings.Answer u)) = Some u
came_by (deeds.Happens (happenings.Deliver u)) = Some u
came_by (deeds.Happens (happenings.Busy u)) = Some u
came_by (deeds.Happens (happenings.Lose u)) = Some u
came_by _ = None

-- in the newest of these
abbrev pub came_of : List Line → Option Ticket
came_of [] = None
came_of (line ∷ before) = came_by (deed_of line)

abbrev pub groups_of : List SentNote → List Group
groups_of sent = map (λ s. record { ticket = s.ticket; askers = s.askers }) sent

-- what has happened after these lines
abbrev pub trace_of : List SentNote → List Outcome → List Line → Trace
trace_of sent outs script = record { events = history sent outs script; came = came_of script; calls = calls_of script; begun = begun_of script; rollbacks = rollbacks_of script; groups = groups_of sent; posted = []; refused = []; owed = [] }

-- The call of line n failed with this error after what it had heard, and that had happened in the lines up to the one in whose step the
-- outcome came.
abbrev pub FailsBy : HowCallsFail → List SentNote → List Outcome → List ℕ → List Line → ℕ → Error → Type 0
FailsBy fails sent outs ended script n e = FailsIn fails (trace_of sent outs (lines_before script (suc (ended_of ended n)))) n e

-- What line n asks fails only so, unless it is refused by the account of its transaction.
abbrev pub CauseMeets : (ℕ → Error → Type 0) → (ℕ → Account) → ℕ → Option Ask → Outcome → Type 0
CauseMeets Fails accounts n None o = (e : Error) → o ≡ Err e → Fails n e
CauseMeets Fails accounts n (Some ask) o = refusal ask.act (accounts ask.transaction) ≡ None → (e : Error) → o ≡ Err e → Fails n e

abbrev pub AllCausesMeet : (ℕ → Error → Type 0) → List Outcome → List ℕ → List Line → Type 0
AllCausesMeet Fails outs ended [] = Unit {0}
AllCausesMeet Fails outs ended (line ∷ before) =
    CauseMeets Fails (λ x. account_of (λ n. outcome_of outs n) (λ n. ended_of ended n) before x) (length (line ∷ before)) (ask_of line) (outcome_of outs (length (line ∷ before))) × AllCausesMeet Fails outs ended before

-- each call that fails, and is not refused, fails so
abbrev pub CausesMeetLines : HowCallsFail → List Line → Report → Type 0
CausesMeetLines fails script report = AllCausesMeet (FailsBy fails report.sent report.outcomes report.ended script) report.outcomes report.ended script

-- What a machine keeps of it while the script goes on.

-- what the calls of the clients have heard has happened, and each that failed had its reason there
pub record HaveHeard (rests : Trace → Type 0) (fails : HowCallsFail) (script : List Line) (sent : List SentNote) (outs : List Outcome) (ended : List ℕ) : Type 0 where
  pub rest : rests (trace_of sent outs script)
  pub causes : AllCausesMeet (FailsBy fails sent outs ended script) outs ended script

-- where memory was never wanting
abbrev pub HeardIn : {S : Type 0} → (S → Trace → Type 0) → HowCallsFail → Machine S → List Line → Type 0
HeardIn rests fails m script = HasMemory m → HaveHeard (rests m.clients) fails script m.post.sent m.outcomes.items m.ended.items

-- What a step makes of it

-- whom is told what comes for the newest line
abbrev pub CanCall : Role → ℕ → Trace → Type 0
CanCall MakesClient n t = ⊤
CanCall (AsksTime begins client) n t = IsCalled t n n
CanCall (UsesTransaction commits x) n t = IsCalled t n x
CanCall NoCall n t = ⊤

-- with what it is refused, and whether it rolls back
abbrev pub CanAsk : Option Ask → (ℕ → Account) → ℕ → Trace → Type 0
CanAsk None accounts n t = ⊤
CanAsk (Some ask) accounts n t = ((e : Error) → refusal ask.act (accounts ask.transaction) ≡ Some e → IsAmong t.refused (record { line = n; error = e })) × RollsBack t.rollbacks n ask.act

-- what comes in its step, and had not before
abbrev pub CanHear : Deed → Lists → Trace → Trace → Type 0
CanHear (deeds.Happens (happenings.Answer u)) l before t = (place : ℕ) (o : Reply) → found_out l u ≡ Some place → (letter_at l.mail place).kept ≡ Some o → HasCome before t l.sight u (λ r. Took u r o)
CanHear (deeds.Happens (happenings.Deliver u)) l before t = (place : ℕ) → found_out l u ≡ Some place → can_be_served l.mail place ≡ true → HasCome before t l.sight u (λ r. Took u r (reply_at l place))
CanHear (deeds.Happens (happenings.Busy u)) l before t = (place : ℕ) (o : Reply) → found_out l u ≡ Some place → can_be_served l.mail place ≡ true → busy_reply (request_at l place) ≡ Some o → HasCome before t l.sight u (λ r. Took u r o)
CanHear (deeds.Happens (happenings.Lose u)) l before t = (place : ℕ) → found_out l u ≡ Some place → HasCome before t l.sight u (λ r. Lost u r)
CanHear _ l before t = ⊤

-- the trace has all that there was before, and that the newest line tells the clients
pub record CanRest (deed : Deed) (l : Lists) (accounts : ℕ → Account) (before t : Trace) : Type 0 where
  pub longer : IsLonger before t
  pub posted : t.posted ≡ []
  pub call : CanCall (role_for deed) (newest l) t
  pub begins : BeginsAs t (newest l) (begins_as deed)
  pub ask : CanAsk (ask_for deed) accounts (newest l) t
  pub hear : CanHear deed l before t

-- and then the calls rest on it, once it is known what the line came to
abbrev pub RunsOn : HowCallsFail → (Trace → Type 0) → (Trace → Type 0) → Deed → Lists → (ℕ → Account) → Course → Type 0
RunsOn fails was is deed l accounts done = (before t : Trace) → CanRest deed l accounts before t → was before → RestsOn fails was is t done.turn.posted.items done.turn.ended.items

-- And by the lists that its step left.

-- what was posted was sent in the step of the newest line
abbrev pub WasPosted : List Posting → Lists → Type 0
WasPosted posted l = (u : Ticket) (r : Request) → Any (IsSend u r) posted → (s : SentNote) × IsAmong l.mail.sent s × (s.ticket ≡ u) × (s.request ≡ r) × (s.at ≡ newest l)

-- the calls rest on the trace and on what was posted in the step, and each that failed in it has its reason there
pub record RestsIn (fails : HowCallsFail) (is : Trace → Type 0) (t : Trace) (old new : Lists) : Type 0 where
  pub posted : List Posting
  pub sent : WasPosted posted new
  pub rest : is (with_posted posted t)
  pub causes : (n : ℕ) (e : Error) → outcome_of new.outcomes n ≡ Err e → (outcome_of old.outcomes n ≡ Err e) ⊎ (FailsIn fails (with_posted posted t) n e ⊎ IsAmong t.refused (record { line = n; error = e }))

-- so with each trace that has all that the line tells
abbrev pub Rested : HowCallsFail → (Trace → Type 0) → (Trace → Type 0) → Deed → Lists → (ℕ → Account) → Lists → Type 0
Rested fails was is deed old accounts new = (before t : Trace) → CanRest deed (opened old) accounts before t → was before → was t → RestsIn fails is t old new
