-- When each outcome comes: by the lines before, by what was known of them, and by what had happened. Lines stand here with the
-- newest first.
use Rattle.std.specs.Prelude.{◌≡◌, ℕ, ◌<◌, ◌≤◌, Bool, true, false, not, ◌&&◌, ◌||◌, if◌then◌else◌, List, [], ◌∷◌, length, Option, Some, None, is_some, nat_eq, nat_lt, slice_index_or}
use Rattle.std.proofs.Common.{zero, suc}
use Rattle.txn_kv.specs.declared.request.Request.{Request}
use Rattle.txn_kv.specs.declared.ticket.Ticket.{Ticket}
use Rattle.txn_history.specs.Busy.{busy_reply}
use Rattle.txn_history.specs.Event.{Event, is_awaited, is_refused, is_served, same_ticket, sent_request}
use Rattle.txn_history.specs.Event.Event.{Slept}
use Rattle.txn_law.specs.Run.{store_after}
use Rattle.txn_lines.specs.Lines.{line_at}
use Rattle.txn_lines.specs.Deeds.{begins, deed_of}
use Rattle.txn_lines.specs.declared.deed.Deed.{Deed}
use Rattle.txn_lines.specs.declared.deed.Deed.TheVariants as deeds
use Rattle.txn_lines.specs.declared.happening.Happening.TheVariants as happenings
use Rattle.txn_lines.specs.declared.line.Line.{Line}
use Rattle.txn_model.specs.Regions.{can_lead, can_split}
use Rattle.txn_report.specs.declared.outcome.Outcome.{Outcome}
use Rattle.txn_report.specs.declared.outcome.Outcome.TheVariants.{Ok, Err, Unfinished, Done, Skipped}
use Rattle.txn_report.specs.declared.outcome.Payload.{Payload}
use Rattle.txn_report.specs.declared.outcome.Payload.TheVariants.{Unit as Nothing, Number, Commit as Committed}
use Rattle.txn_report.specs.declared.report.Report.{Report}
use Rattle.txn_report.specs.declared.report.SentNote.{SentNote}
use Rattle.txn_report.specs.declared.report.SleepNote.{SleepNote}
use Rattle.txn_side.specs.Sight.{commits}
use Rattle.txn_machine.specs.Script.{history, is_done, outcome_of}
use Rattle.txn_machine.specs.Steps.{done_if}

-- Lines.

-- what a line asks of the clients; clients and transactions are named by the lines that made them
pub data Role : Type 0 where
  MakesClient : Role
  -- for a timestamp, at which a transaction begins or not
  AsksTime : (begins : Bool) (client : ℕ) → Role
  -- that a transaction commits, or something else of it
  UsesTransaction : (commits : Bool) (transaction : ℕ) → Role
  -- an event, a comment or an empty line
  NoCall : Role

abbrev pub role_for : Deed → Role
role_for deeds.Nothing = NoCall
role_for deeds.Connect = MakesClient
role_for (deeds.Ask client act) = AsksTime (begins act) client
role_for (deeds.Use x act) = UsesTransaction (commits act) x
role_for (deeds.Happens what) = NoCall

abbrev pub role_of : Line → Role
role_of line = role_for (deed_of line)

-- a call that need not end in its own line
abbrev pub may_wait : Role → Bool
may_wait MakesClient = false
may_wait (AsksTime begins client) = true
may_wait (UsesTransaction commits x) = true
may_wait NoCall = false

-- in the step of a line that asks this the clients hear of something
abbrev pub tells : Deed → Bool
tells (deeds.Happens (happenings.Answer t)) = true
tells (deeds.Happens (happenings.Deliver t)) = true
tells (deeds.Happens (happenings.Lose t)) = true
tells (deeds.Happens (happenings.Busy t)) = true
tells (deeds.Happens (happenings.Wake t)) = true
tells _ = false

-- Outcomes.

abbrev pub is_ok : Outcome → Bool
is_ok (Ok p) = true
is_ok (Err e) = false
is_ok Unfinished = false
is_ok Done = false
is_ok Skipped = false

abbrev pub is_unfinished : Outcome → Bool
is_unfinished (Ok p) = false
is_unfinished (Err e) = false
is_unfinished Unfinished = true
is_unfinished Done = false
is_unfinished Skipped = false

abbrev pub is_skipped : Outcome → Bool
is_skipped (Ok p) = false
is_skipped (Err e) = false
is_skipped Unfinished = false
is_skipped Done = false
is_skipped Skipped = true

-- the line in whose step the outcome of a line came, and 0 where it is unfinished
abbrev pub ended_of : List ℕ → ℕ → ℕ
ended_of ended zero = 0
ended_of ended (suc i) = slice_index_or ended i 0

-- an outcome that came in the step of line e, as it stood before line n
abbrev pub known_of : ℕ → ℕ → Outcome → Outcome
known_of e n o = if nat_lt 0 e && nat_lt e n then o else Unfinished

-- the outcome of each line as it stood before line n
abbrev pub known : List Outcome → List ℕ → ℕ → ℕ → Outcome
known outs ended n line = known_of (ended_of ended line) n (outcome_of outs line)

-- Told.

-- the payload of the kind of the call
abbrev pub carries : Role → Payload → Bool
carries MakesClient Nothing = true
carries (AsksTime begins client) (Number version) = true
carries (UsesTransaction false x) Nothing = true
carries (UsesTransaction true x) (Committed version) = true
carries _ _ = false

-- A call that may wait has any outcome but Done, a client is made at once, and the other lines are done or skipped.
abbrev pub answers : Role → Outcome → Bool
answers role (Ok payload) = carries role payload
answers role (Err error) = may_wait role
answers role Unfinished = may_wait role
answers NoCall Done = true
answers role Done = false
answers MakesClient Skipped = false
answers role Skipped = true

-- each line has one outcome that is of its kind
pub record AreTold (script : List Line) (outs : List Outcome) (ended : List ℕ) : Type 0 where
  pub outcomes : length outs ≡ length script
  pub ends : length ended ≡ length script
  pub kinds : (n : ℕ) (line : Line) → line_at script n ≡ Some line → answers (role_of line) (outcome_of outs n) ≡ true

abbrev pub TellsLines : List Line → Report → Type 0
TellsLines script report = AreTold script report.outcomes report.ended

-- Ends.

-- in the step of such a line calls of earlier lines may end: it tells the clients something, and is done
abbrev pub can_end : Line → Outcome → Bool
can_end line o = tells (deed_of line) && is_done o

-- line e is such a line
abbrev pub ends_at : List Line → (ℕ → Outcome) → ℕ → Bool
ends_at [] seen e = false
ends_at (line ∷ before) seen e = if nat_eq (length (line ∷ before)) e then can_end line (seen e) else ends_at before seen e

-- the outcome came in the line itself, if it is not a call's that was made and may wait
abbrev pub comes_at_once : Role → Outcome → Bool
comes_at_once role o = not (may_wait role) || is_skipped o

-- e names the line in whose step the outcome of line n came
pub record IsEnd (script : List Line) (seen : ℕ → Outcome) (n : ℕ) (line : Line) (e : ℕ) : Type 0 where
  -- 0 just where it is unfinished
  pub unfinished : is_unfinished (seen n) ≡ nat_eq e 0
  -- else no earlier line, and one of the script
  pub past : 1 ≤ e → n ≤ e
  pub within : e ≤ length script
  pub own : comes_at_once (role_of line) (seen n) ≡ true → e ≡ n
  pub later : n < e → ends_at script seen e ≡ true

-- each outcome came in the step that `ended` names
abbrev pub AllEnd : List Line → (ℕ → Outcome) → (ℕ → ℕ) → Type 0
AllEnd script seen ends = (n : ℕ) (line : Line) → line_at script n ≡ Some line → IsEnd script seen n line (ends n)

abbrev pub EndsLines : List Line → Report → Type 0
EndsLines script report = AllEnd script (λ n. outcome_of report.outcomes n) (λ n. ended_of report.ended n)

-- Calls. `seen` gives what was known of each line.

-- the line whose client a line calls, or 0; that of a transaction is that of its line
abbrev pub client_by : ℕ → (ℕ → ℕ) → Role → ℕ
client_by n before MakesClient = n
client_by n before (AsksTime begins client) = client
client_by n before (UsesTransaction commits x) = before x
client_by n before NoCall = 0

abbrev pub client_of : List Line → ℕ → ℕ
client_of [] n = 0
client_of (line ∷ before) n = if nat_eq (length (line ∷ before)) n then client_by n (λ m. client_of before m) (role_of line) else client_of before n

abbrev pub crashes : Deed → ℕ → Bool
crashes (deeds.Happens (happenings.Crash client)) c = nat_eq client c
crashes _ c = false

-- the client of line c has crashed
abbrev pub is_crashed : (ℕ → Outcome) → List Line → ℕ → Bool
is_crashed seen [] c = false
is_crashed seen (line ∷ before) c = crashes (deed_of line) c && is_done (seen (length (line ∷ before))) || is_crashed seen before c

abbrev pub uses : Role → ℕ → Bool
uses (UsesTransaction commits y) x = nat_eq y x
uses _ x = false

-- a call of the transaction of line x waits
abbrev pub is_busy : (ℕ → Outcome) → List Line → ℕ → Bool
is_busy seen [] x = false
is_busy seen (line ∷ before) x = uses (role_of line) x && is_unfinished (seen (length (line ∷ before))) || is_busy seen before x

-- A call can do nothing where its client has crashed, its transaction has not begun, or another call of that waits.
abbrev pub is_idle : (ℕ → Outcome) → List Line → Role → Bool
is_idle seen before MakesClient = false
is_idle seen before (AsksTime begins client) = is_crashed seen before client
is_idle seen before (UsesTransaction commits x) = is_crashed seen before (client_of before x) || not (is_ok (seen x)) || is_busy seen before x
is_idle seen before NoCall = false

-- a call is skipped just where it can do nothing
abbrev pub CallMeets : (ℕ → Outcome) → List Line → Role → Outcome → Type 0
CallMeets seen before NoCall o = Unit {0}
CallMeets seen before role o = is_skipped o ≡ is_idle seen before role

abbrev pub AllCallsMeet : List Outcome → List ℕ → List Line → Type 0
AllCallsMeet outs ended [] = Unit {0}
AllCallsMeet outs ended (line ∷ before) = CallMeets (known outs ended (length (line ∷ before))) before (role_of line) (outcome_of outs (length (line ∷ before))) × AllCallsMeet outs ended before

abbrev pub CallsMeetLines : List Line → Report → Type 0
CallsMeetLines script report = AllCallsMeet report.outcomes report.ended script

-- the lines before line n
abbrev pub lines_before : List Line → ℕ → List Line
lines_before [] n = []
lines_before (line ∷ before) n = if nat_lt (length (line ∷ before)) n then line ∷ before else lines_before before n

-- no call ends in a later step whose client has crashed before
abbrev pub AllLive : List Line → (ℕ → Outcome) → (ℕ → ℕ) → Type 0
AllLive script seen ends = (n : ℕ) (line : Line) → line_at script n ≡ Some line → n < ends n → is_crashed (λ j. known_of (ends j) (ends n) (seen j)) (lines_before script (ends n)) (client_of script n) ≡ false

abbrev pub LivesLines : List Line → Report → Type 0
LivesLines script report = AllLive script (λ n. outcome_of report.outcomes n) (λ n. ended_of report.ended n)

-- Events. `events` is what had happened.

abbrev pub is_woken : List Event → Ticket → Bool
is_woken [] t = false
is_woken (Slept u ∷ es) t = same_ticket u t || is_woken es t
is_woken (_ ∷ es) t = is_woken es t

-- a sleep of the ticket began before line n
abbrev pub began : List SleepNote → ℕ → Ticket → Bool
began [] n t = false
began (s ∷ ss) n t = same_ticket s.ticket t && nat_lt s.at n || began ss n t

-- a request was sent, and the store has neither handled it nor been too busy to
abbrev pub is_servable : List Event → Ticket → Bool
is_servable es t = is_some (sent_request es t) && (not (is_served es t) && not (is_refused es t))

abbrev pub can_refuse : Option Request → Bool
can_refuse None = false
can_refuse (Some r) = is_some (busy_reply r)

-- it is for a store, which may be too busy
abbrev pub is_refusable : List Event → Ticket → Bool
is_refusable es t = can_refuse (sent_request es t)

-- the client whose line's ticket it is has not crashed
abbrev pub hears : (ℕ → Outcome) → List Line → Ticket → Bool
hears seen before t = not (is_crashed seen before (client_of before t.line))

-- an event is done just where it can be, and else skipped; of some tickets a sleep began before
abbrev pub EventMeets : (Ticket → Bool) → (ℕ → Outcome) → List Line → List Event → Deed → Outcome → Type 0
EventMeets asleep seen before es deeds.Nothing o = o ≡ Done
EventMeets asleep seen before es (deeds.Happens (happenings.Serve t)) o = o ≡ done_if (is_servable es t)
EventMeets asleep seen before es (deeds.Happens (happenings.Answer t)) o = o ≡ done_if (hears seen before t && (is_awaited es t && is_served es t))
EventMeets asleep seen before es (deeds.Happens (happenings.Deliver t)) o = o ≡ done_if (hears seen before t && (is_awaited es t && is_servable es t))
EventMeets asleep seen before es (deeds.Happens (happenings.Lose t)) o = o ≡ done_if (hears seen before t && is_awaited es t)
EventMeets asleep seen before es (deeds.Happens (happenings.Busy t)) o = o ≡ done_if (hears seen before t && (is_awaited es t && (is_servable es t && is_refusable es t)))
EventMeets asleep seen before es (deeds.Happens (happenings.Wake t)) o = o ≡ done_if (hears seen before t && (asleep t && not (is_woken es t)))
EventMeets asleep seen before es (deeds.Happens (happenings.Split key)) o = o ≡ done_if (can_split (store_after es) key)
EventMeets asleep seen before es (deeds.Happens (happenings.Lead region store)) o = o ≡ done_if (can_lead (store_after es) region store)
EventMeets asleep seen before es (deeds.Happens (happenings.Clock ms)) o = o ≡ Done
EventMeets asleep seen before es (deeds.Happens (happenings.Crash client)) o = o ≡ done_if (not (is_crashed seen before client))
EventMeets asleep seen before es deed o = Unit {0}

abbrev pub AllEventsMeet : List SentNote → List SleepNote → List Outcome → List ℕ → List Line → Type 0
AllEventsMeet sent sleeps outs ended [] = Unit {0}
AllEventsMeet sent sleeps outs ended (line ∷ before) = EventMeets (λ t. began sleeps (length (line ∷ before)) t) (known outs ended (length (line ∷ before))) before (history sent outs before) (deed_of line) (outcome_of outs (length (line ∷ before))) × AllEventsMeet sent sleeps outs ended before

abbrev pub EventsMeetLines : List Line → Report → Type 0
EventsMeetLines script report = AllEventsMeet report.sent report.sleeps report.outcomes report.ended script
