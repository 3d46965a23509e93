-- What one step of the clients does, in one record each: what they show of themselves before and after it.
use Rattle.std.specs.Prelude.{◌≡◌, ℕ, true, List, [], Option}
use Rattle.std.specs.List.{All}
use Rattle.txn_kv.specs.declared.request.Request.{Request}
use Rattle.txn_kv.specs.declared.ticket.Ticket.{Ticket}
use Rattle.txn_history.specs.Event.{Event}
use Rattle.txn_history.specs.Event.Event.{Lost, Slept, Took}
use Rattle.txn_lines.specs.Deeds.{begins, begins_with}
use Rattle.txn_lines.specs.declared.act.Act.{Act}
use Rattle.txn_lines.specs.declared.client_act.ClientAct.{ClientAct}
use Rattle.txn_report.specs.declared.outcome.Outcome.{Outcome}
use Rattle.txn_side.specs.Account.{Account, AreClosed, AreKept, MayTakeIn}
use Rattle.txn_side.specs.Arising.{ArisesAwake, ArisesHearing, ArisesOn, StillArises}
use Rattle.txn_side.specs.Doubt.{itself}
use Rattle.txn_side.specs.Sight.{Acts, Asks, Goes, IsGiven, Names, NoneGiven, Sight, commits, is_live, line_count}
use Rattle.txn_side.specs.Trace.{ActsOn, AsksOn, HearsOn, HowCallsFail, StillRests, Trace, WakesOn}
use Rattle.txn_side.specs.Waiting.{Awaited, HearsEnd, HearsReply, NoneHeard, WaitsOn, posted_in}
use Rattle.txn_side.specs.declared.coming.Coming.{Coming}
use Rattle.txn_side.specs.declared.coming.Coming.TheVariants as coming
use Rattle.txn_side.specs.declared.turn.Turn.{Turn}

-- What comes

-- the event, where it comes of this request
abbrev pub event_of : Ticket → Coming → Request → Event
event_of t (coming.Reply o) r = Took t r o
event_of t coming.Lost r = Lost t r
event_of t coming.Slept r = Slept t

-- what a line then waits for no longer
abbrev pub HearsOf : Ticket → Coming → ℕ → Awaited → Type 0
HearsOf t (coming.Reply o) = HearsReply t
HearsOf t coming.Lost = HearsReply t
HearsOf t coming.Slept = HearsEnd t

-- the timestamp that it gives a line: a reply may, if it is that to a request for timestamps
abbrev pub GivesTo : Sight → Ticket → Coming → ℕ → ℕ → Type 0
GivesTo s t (coming.Reply o) = IsGiven s t o
GivesTo s t coming.Lost = NoneGiven
GivesTo s t coming.Slept = NoneGiven

abbrev pub RestsAfter : HowCallsFail → (Trace → Type 0) → (Trace → Type 0) → Sight → Ticket → Coming → Turn → Type 0
RestsAfter fails was is s t (coming.Reply o) = HearsOn fails was is s t (λ r. Took t r o)
RestsAfter fails was is s t coming.Lost = HearsOn fails was is s t (λ r. Lost t r)
RestsAfter fails was is s t coming.Slept = WakesOn fails was is

abbrev pub ArisesAfter : (List Event → Type 0) → (List Event → Type 0) → (List Event → ℕ → Outcome → Type 0) → (List Event → ℕ → Outcome → Type 0) → Sight → Ticket → Coming → Turn → Type 0
ArisesAfter was is held holds s t (coming.Reply o) = ArisesHearing was is held holds s (λ r. Took t r o)
ArisesAfter was is held holds s t coming.Lost = ArisesHearing was is held holds s (λ r. Lost t r)
ArisesAfter was is held holds s t coming.Slept = ArisesAwake was is held holds s t

-- What clients show of themselves before and after a step: what stands at each line, whether they may be called, what each line waits for,
-- how far each transaction has come, on what has happened they rest, and from which history they can have arisen.

-- Nothing comes, nothing is posted, and no call ends. They look so then.
pub record StaysStill {S : Type 0} (sight : S → Sight) (is_ready : S → Type 0) (waits_for : S → ℕ → Awaited → Type 0) (account : S → ℕ → Account)
    (rests_on : S → Trace → Type 0) (arises_from : S → List Event → Type 0) (holds : S → List Event → ℕ → Outcome → Type 0) (looks : Sight) (old new : S) : Type 0 where
  pub seen : sight new ≡ looks
  pub waits : WaitsOn NoneHeard [] (waits_for old) (waits_for new) (sight old) (sight new)
  pub ready : is_ready new
  pub accounts : AreKept (account old) (account new)
  pub rests : StillRests (rests_on old) (rests_on new)
  pub arises : StillArises (arises_from old) (arises_from new) (holds old) (holds new)

-- The newest line asks something of the client of a line.
pub record StepsAsked {S : Type 0} (sight : S → Sight) (is_ready : S → Type 0) (waits_for : S → ℕ → Awaited → Type 0) (account : S → ℕ → Account)
    (fails : HowCallsFail) (rests_on : S → Trace → Type 0) (arises_from : S → List Event → Type 0) (holds : S → List Event → ℕ → Outcome → Type 0) (client : ℕ) (act : ClientAct) (old new : S) (turn : Option Turn) : Type 0 where
  pub goes : Asks (begins act) client (sight old) (sight new) turn
  pub waits : WaitsOn NoneHeard (posted_in turn) (waits_for old) (waits_for new) (sight old) (sight new)
  pub ready : is_ready new
  pub accounts : AreKept (account old) (account new)
  pub rests : AsksOn fails (rests_on old) (rests_on new) (begins_with act) (line_count (sight old)) turn
  pub arises : ArisesOn (arises_from old) (arises_from new) (holds old) (holds new) itself turn

-- It asks something of the transaction of line x.
pub record StepsUsed {S : Type 0} (sight : S → Sight) (is_ready : S → Type 0) (waits_for : S → ℕ → Awaited → Type 0) (account : S → ℕ → Account)
    (fails : HowCallsFail) (rests_on : S → Trace → Type 0) (arises_from : S → List Event → Type 0) (holds : S → List Event → ℕ → Outcome → Type 0) (x : ℕ) (act : Act) (old new : S) (turn : Option Turn) : Type 0 where
  pub goes : Acts act x (sight old) (sight new) turn
  pub waits : WaitsOn NoneHeard (posted_in turn) (waits_for old) (waits_for new) (sight old) (sight new)
  pub ready : is_ready new
  pub accounts : MayTakeIn act x (line_count (sight old)) (account old) (account new) turn
  pub rests : ActsOn fails (rests_on old) (rests_on new) act x (line_count (sight old)) (account old x) turn
  pub arises : ArisesOn (arises_from old) (arises_from new) (holds old) (holds new) (λ n. record { at = x; commits = commits act }) turn

-- This comes for a ticket.
pub record StepsTold {S : Type 0} (sight : S → Sight) (is_ready : S → Type 0) (waits_for : S → ℕ → Awaited → Type 0) (account : S → ℕ → Account)
    (fails : HowCallsFail) (rests_on : S → Trace → Type 0) (arises_from : S → List Event → Type 0) (holds : S → List Event → ℕ → Outcome → Type 0) (t : Ticket) (what : Coming) (old new : S) (turn : Turn) : Type 0 where
  pub goes : Goes turn.posted.items turn.ended.items (sight old) (sight new)
  -- no line is given a timestamp but that of its place
  pub given : All (Names (GivesTo (sight old) t what)) turn.ended.items
  pub waits : is_live (sight old) t.line ≡ true → WaitsOn (HearsOf t what) turn.posted.items (waits_for old) (waits_for new) (sight old) (sight new)
  pub ready : is_ready new
  pub accounts : AreClosed (sight old) turn.ended.items (account old) (account new)
  pub rests : RestsAfter fails (rests_on old) (rests_on new) (sight old) t what turn
  pub arises : ArisesAfter (arises_from old) (arises_from new) (holds old) (holds new) (sight old) t what turn
