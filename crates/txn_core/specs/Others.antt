-- Others send and take beside a transaction: a history that grows, with no Commit of it among what is new.
use Rattle.std.specs.Prelude.{◌≡◌, ◌≢◌, ⊤, ℕ, List, ◌++◌}
use Rattle.txn_kv.specs.declared.request.commits.CommitRequest.{CommitRequest}
use Rattle.txn_kv.specs.declared.request.Request.TheVariants.{Commit}
use Rattle.txn_kv.specs.declared.ticket.Ticket.{Ticket}
use Rattle.txn_history.specs.Event.{Event, Has}
use Rattle.txn_history.specs.Event.Event.{Sent}
use Rattle.txn_history.specs.Plan.{Plan}
use Rattle.txn_commit.specs.Following.{CommitsPrimary}

-- none of these events sends such a Commit
abbrev pub SendsNone : (CommitRequest → Type 0) → List Event → Type 0
SendsNone is events = (t : Ticket) (r : CommitRequest) → Has events (Sent t (Commit r)) → is r → ⊥

-- The longer history is the other one and newer events, of which none sends such a Commit.
pub record AddsNone (is : CommitRequest → Type 0) (h longer : List Event) : Type 0 where
  pub newer : List Event
  pub grown : longer ≡ newer ++ h
  pub none : SendsNone is newer

-- none sends a Commit of this start
abbrev pub AddsNothingOf : ℕ → List Event → List Event → Type 0
AddsNothingOf s h longer = AddsNone (λ r. r.start_version ≡ s) h longer

-- none sends one that names the primary
abbrev pub AddsNoPrimaryOf : Plan → ℕ → List Event → List Event → Type 0
AddsNoPrimaryOf plan s h longer = AddsNone (CommitsPrimary plan s) h longer

-- an event sends no Commit of this start
abbrev pub IsBeside : ℕ → Event → Type 0
IsBeside s (Sent t (Commit r)) = r.start_version ≢ s
IsBeside s _ = ⊤
