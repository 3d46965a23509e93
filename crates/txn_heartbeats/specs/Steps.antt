-- The steps of clients with their heartbeats: those that the clients alone would do, as both show themselves.
use Rattle.std.specs.Prelude.{ℕ, List, Option, Result}
use Rattle.txn_history.specs.Event.{Event}
use Rattle.txn_history.specs.Meaning.{Meaning}
use Rattle.txn_kv.specs.declared.errors.Error.{Error}
use Rattle.txn_kv.specs.declared.ticket.Ticket.{Ticket}
use Rattle.txn_lines.specs.declared.act.Act.{Act}
use Rattle.txn_lines.specs.declared.client_act.ClientAct.{ClientAct}
use Rattle.txn_report.specs.declared.outcome.Outcome.{Outcome}
use Rattle.txn_side.specs.Account.{Account}
use Rattle.txn_side.specs.Sight.{Sight}
use Rattle.txn_side.specs.Steps.{StaysStill, StepsAsked, StepsTold, StepsUsed}
use Rattle.txn_side.specs.Trace.{HowCallsFail, Trace}
use Rattle.txn_side.specs.Waiting.{Awaited}
use Rattle.txn_side.specs.declared.coming.Coming.{Coming}
use Rattle.txn_side.specs.declared.turn.Turn.{Turn}
use Rattle.txn_heartbeats.specs.Hearts.{ArisesIn, IsReady, RestsIn, sight_of, waits_of}
use Rattle.txn_heartbeats.specs.declared.heartbeats.Heartbeats.{Heartbeats}

module _ {S H A : Type 0} (sight : S → Sight) (ready : S → Type 0) (m : Meaning H (Result A Error)) (waits : S → ℕ → Awaited → Type 0) (account : S → ℕ → Account) where
  -- nothing comes, nothing is posted, and no call ends
  abbrev pub StaysWithBeats : (S → Trace → Type 0) → (S → List Event → Type 0) → (S → List Event → ℕ → Outcome → Type 0) → Sight → Heartbeats S H → Heartbeats S H → Type 0
  StaysWithBeats rests arises holds = StaysStill (sight_of sight) (IsReady ready sight m) (waits_of sight waits) (λ b. account b.side) (RestsIn sight rests) (ArisesIn arises) (λ b. holds b.side)

  -- the newest line asks something of the client of a line
  abbrev pub AskedWithBeats : HowCallsFail → (S → Trace → Type 0) → (S → List Event → Type 0) → (S → List Event → ℕ → Outcome → Type 0) → ℕ → ClientAct → Heartbeats S H → Heartbeats S H → Option Turn → Type 0
  AskedWithBeats fails rests arises holds = StepsAsked (sight_of sight) (IsReady ready sight m) (waits_of sight waits) (λ b. account b.side) fails (RestsIn sight rests) (ArisesIn arises) (λ b. holds b.side)

  -- it asks something of a transaction
  abbrev pub UsedWithBeats : HowCallsFail → (S → Trace → Type 0) → (S → List Event → Type 0) → (S → List Event → ℕ → Outcome → Type 0) → ℕ → Act → Heartbeats S H → Heartbeats S H → Option Turn → Type 0
  UsedWithBeats fails rests arises holds = StepsUsed (sight_of sight) (IsReady ready sight m) (waits_of sight waits) (λ b. account b.side) fails (RestsIn sight rests) (ArisesIn arises) (λ b. holds b.side)

  -- this comes for a ticket, of a call or of a heartbeat
  abbrev pub ToldWithBeats : HowCallsFail → (S → Trace → Type 0) → (S → List Event → Type 0) → (S → List Event → ℕ → Outcome → Type 0) → Ticket → Coming → Heartbeats S H → Heartbeats S H → Turn → Type 0
  ToldWithBeats fails rests arises holds = StepsTold (sight_of sight) (IsReady ready sight m) (waits_of sight waits) (λ b. account b.side) fails (RestsIn sight rests) (ArisesIn arises) (λ b. holds b.side)
