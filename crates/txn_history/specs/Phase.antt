-- Where a call state stands between its start and its answer, and what it waits for.
use Rattle.std.specs.Prelude.{◌≡◌, ⊤, ℕ, List}
use Rattle.txn_kv.specs.declared.outbox.Errand.TheVariants.{Send, Sleep, Ask}
use Rattle.txn_history.specs.Among.{IsAmong}
use Rattle.txn_history.specs.Posted.{Errand}
use Rattle.txn_history.specs.Turn.{Turn}
use Rattle.txn_history.specs.Turn.Turn.{Stopped, Waits, Ends}

pub data Phase : Type 0 where
  -- it was not started
  Fresh : Phase
  -- it was started, and has not answered
  Running : Phase
  -- it has answered
  Over : Phase
  -- it gave up for want of memory
  GivenUp : Phase

abbrev pub IsRunning : Phase → Type 0
IsRunning Fresh = ⊥
IsRunning Running = ⊤
IsRunning Over = ⊥
IsRunning GivenUp = ⊥

-- where it stands after a call that was for it
abbrev pub phase_after : {A : Type 0} → Turn A → Phase
phase_after Stopped = GivenUp
phase_after Waits = Running
phase_after (Ends v) = Over

-- how a call ends that is not for it
abbrev pub unheard : {A : Type 0} → Phase → Turn A
unheard Fresh = Waits
unheard Running = Waits
unheard Over = Waits
unheard GivenUp = Stopped

-- What is waited for: the reply to a request, the end of a sleep, the answer to an ask.
pub data Awaited : Type 0 where
  ReplyTo : (number : ℕ) → Awaited
  EndOf : (number : ℕ) → Awaited
  TimeOf : (ask : ℕ) → Awaited

-- what an errand is waited for as
abbrev pub awaited : Errand → Awaited
awaited (Send n to r) = ReplyTo n
awaited (Sleep n ms) = EndOf n
awaited (Ask n) = TimeOf n

-- one of these errands is waited for as this
abbrev pub IsPosted : List Errand → Awaited → Type 0
IsPosted rs a = (r : Errand) × IsAmong rs r × (awaited r ≡ a)
