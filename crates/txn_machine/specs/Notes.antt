-- What a report notes of requests and sleeps: of its lists alone.
use Rattle.std.specs.Prelude.{◌≡◌, ◌≢◌, ◌⊎◌, ℕ, ◌≤◌, List}
use Rattle.std.specs.List.{All, AllPairs}
use Rattle.txn_kv.specs.declared.ticket.Ticket.{Ticket}
use Rattle.txn_history.specs.Among.{IsAmong}
use Rattle.txn_report.specs.declared.report.SentNote.{SentNote}
use Rattle.txn_report.specs.declared.report.SleepNote.{SleepNote}
use Rattle.txn_side.specs.Sight.{AskFor}

-- a request with this ticket was sent in the step of line `at`
abbrev pub WasSent : List SentNote → Ticket → ℕ → Type 0
WasSent sent t at = (s : SentNote) × IsAmong sent s × (s.ticket ≡ t) × (s.at ≡ at)

-- a sleep with this ticket began in the step of line `at`
abbrev pub HasSlept : List SleepNote → Ticket → ℕ → Type 0
HasSlept sleeps t at = (s : SleepNote) × IsAmong sleeps s × (s.ticket ≡ t) × (s.at ≡ at)

abbrev pub IsNoted : List SentNote → List SleepNote → Ticket → ℕ → Type 0
IsNoted sent sleeps t at = WasSent sent t at ⊎ HasSlept sleeps t at

-- What is noted in so many lines of the requests that their calls and heartbeats sent, and of their sleeps.
pub record AreNoted (count : ℕ) (sent : List SentNote) (sleeps : List SleepNote) : Type 0 where
  -- in the order in which they were sent, or began
  pub sent_rise : AllPairs (λ (a b : SentNote). a.at ≤ b.at) sent
  pub sleeps_rise : AllPairs (λ (a b : SleepNote). a.at ≤ b.at) sleeps
  -- by a line, in the step of its own or a later one
  pub own : (t : Ticket) (at : ℕ) → IsNoted sent sleeps t at → (1 ≤ t.line) × (t.line ≤ at) × (at ≤ count)
  -- each ticket once, in one of the lists
  pub sent_once : AllPairs (λ (a b : SentNote). a.ticket ≢ b.ticket) sent
  pub slept_once : AllPairs (λ (a b : SleepNote). a.ticket ≢ b.ticket) sleeps
  pub apart : (t : Ticket) (a b : ℕ) → WasSent sent t a → HasSlept sleeps t b → ⊥
  -- the numbers of a line begin with 1, and so do those of its heartbeat, and none is left out
  pub first : (t : Ticket) (at : ℕ) → IsNoted sent sleeps t at → 1 ≤ t.number
  pub whole : (t : Ticket) (at k : ℕ) → IsNoted sent sleeps t at → 1 ≤ k → k ≤ t.number → (earlier : ℕ) × IsNoted sent sleeps (record t { number = k }) earlier
  -- a greater number of a line, or of its heartbeat, came no earlier
  pub rise : (t u : Ticket) (a b : ℕ) → IsNoted sent sleeps t a → IsNoted sent sleeps u b → t.line ≡ u.line → t.beat ≡ u.beat → t.number ≤ u.number → a ≤ b
  -- a request for timestamps asks for one for each of its askers, of which its own line is the first; no other has askers
  pub askers : All (λ (s : SentNote). AskFor s.ticket.line s.request s.askers) sent
