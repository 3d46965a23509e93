-- What a machine sees of the clients, and what their code rests on.
use Rattle.std.specs.Prelude.{◌≡◌, ◌<◌, ◌-◌, ⊤, ℕ, Bool, true, List, [], length, map, Option, Some, None, slice_index_or}
use Rattle.std.specs.List.{All}
use Rattle.std.proofs.Common.{suc}
use Rattle.txn_commit.specs.Ways.{Ways}
use Rattle.txn_kv.specs.declared.reply.Reply.{Reply}
use Rattle.txn_kv.specs.declared.ticket.Ticket.{Ticket}
use Rattle.txn_side.specs.Sight.{Group, Nexts, Sight, Stand, is_live, stand_at}
use Rattle.txn_side.specs.Sight.Stand.{Asking, Calling, HasBegun, Idle, IsClient, Past, Working}
use Rattle.txn_side.specs.Steps.{GivesTo}
use Rattle.txn_tso.specs.Oracle.{Answer}
use Rattle.txn_clients.specs.Groups.{IsTimed, coming_as, group_of, lines_out}
use Rattle.txn_clients.specs.Matching.{AreMatched}
pub use Rattle.txn_clients.specs.Matching.{IsLine}
use Rattle.txn_clients.specs.Rows.{Rests, RowReady, stand_of}
use Rattle.txn_clients.specs.declared.clients.Clients.{Clients}
use Rattle.txn_clients.specs.declared.row.Row.{Row}
use Rattle.txn_clients.specs.declared.row.Row.TheVariants.{Plain}

abbrev pub rows_of : {P : Type 0} → Clients P → List (Row P)
rows_of s = map (λ p. p.row) s.places.items

abbrev pub row_at : {P : Type 0} → List (Row P) → ℕ → Row P
row_at rows at = slice_index_or rows at Plain

abbrev pub stands_of : {P : Type 0} → List (Row P) → List Stand
stands_of rows = map stand_of rows

abbrev pub crashed_of : {P : Type 0} → Clients P → List Bool
crashed_of s = map (λ c. c.crashed) s.clients.items

abbrev pub groups_of : {P : Type 0} → Clients P → List (Option Group)
groups_of s = map group_of s.clients.items

-- the lines whose asks the oracle of a client has sent
abbrev pub asks_at : {P : Type 0} → Clients P → ℕ → List ℕ
asks_at s client = slice_index_or (map lines_out s.clients.items) client []

abbrev pub nexts_of : {P : Type 0} → Clients P → List ℕ
nexts_of s = map (λ p. p.next) s.places.items

-- no line has a heartbeat
abbrev pub unbeaten : List ℕ → List ℕ
unbeaten nexts = map (λ n. 1) nexts

-- the numbers of calls, where these alone post
abbrev pub of_calls : List ℕ → Nexts
of_calls nexts = record { calls = nexts; beats = unbeaten nexts }

abbrev pub sight_of : {P : Type 0} → Clients P → Sight
sight_of s = record { crashed = crashed_of s; groups = groups_of s; stands = stands_of (rows_of s); nexts = of_calls (nexts_of s) }

-- each row may be called, and each transaction that waits has a call that does
pub record AreReady {P : Type 0} (w : Ways P) (rows : List (Row P)) : Type 0 where
  pub each : All (RowReady w) rows
  pub matched : AreMatched (stands_of rows)

-- What hears what comes for a line: a call or a job that stands there, or the transaction whose call it is and which waits for
-- it.
abbrev pub HearsFor : List Stand → ℕ → ℕ → Stand → Type 0
HearsFor stands line at Idle = ⊥
HearsFor stands line at (IsClient c) = ⊥
HearsFor stands line at (Asking c b) = suc at ≡ line
HearsFor stands line at (HasBegun c m) = ⊥
HearsFor stands line at (Calling c x b) = (suc at ≡ x) × ((d : ℕ) × (stand_at stands x ≡ HasBegun d line))
HearsFor stands line at (Past c) = ⊥
HearsFor stands line at (Working c) = suc at ≡ line

-- it stands at this place, and the client is there
pub record Listens (s : Sight) (line at client : ℕ) : Type 0 where
  pub live : is_live s line ≡ true
  pub own : IsLine s.stands line
  pub place : at < length s.stands
  pub there : client < length s.crashed
  pub hears : HearsFor s.stands line at (stand_at s.stands line)

-- the call of a line may end: its transaction, if it has one, waits for it, and has no call open
abbrev pub MayEnd : {P : Type 0} → List (Row P) → ℕ → Stand → Type 0
MayEnd rows line (Calling c x b) = (d : ℕ) × (stand_at (stands_of rows) x ≡ HasBegun d line) × Rests (row_at rows (x - 1))
MayEnd rows line _ = ⊤

-- the client's request of this ticket is out
abbrev pub HasOut : Sight → ℕ → Ticket → Type 0
HasOut s client t = (askers : List ℕ) × (slice_index_or s.groups client None ≡ Some (record { ticket = t; askers = askers }))

-- what is given is what this gives that comes for the client's request
abbrev pub AreGiven : Sight → ℕ → Option Reply → List Answer → Type 0
AreGiven s client o given = (t : Ticket) → HasOut s client t → (line version : ℕ) → IsTimed given line version → GivesTo s t (coming_as o) line version
