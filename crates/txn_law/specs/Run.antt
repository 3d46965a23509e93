-- A run: what happened may happen, and every request is licensed when it is sent.
use Rattle.txn_kv.specs.declared.request.locks.PessimisticLockRequest.{PessimisticLockRequest}
use Rattle.std.specs.Prelude.{◌≡◌, ◌⊎◌, ℕ, ◌+◌, ◌^◌, ◌<◌, List, [], ◌∷◌, Some, Ok, Err}
use Rattle.txn_kv.specs.declared.reply.Reply.{Reply}
use Rattle.txn_kv.specs.Timestamp.{version_of}
use Rattle.txn_kv.specs.declared.request.Request.{Request}
use Rattle.txn_kv.specs.declared.request.Request.TheVariants.{UnsafeDestroyRange, PessimisticLock}
use Rattle.txn_kv.specs.declared.ticket.Ticket.{Ticket}
use Rattle.txn_history.specs.Event.{Event, Has}
use Rattle.txn_history.specs.Busy.{busy_reply}
use Rattle.txn_history.specs.Event.Event.{Sent, Served, Took, Refused, Lost, Began, Slept, Asked, Answered, Crashed, Split, Led, Clocked}
use Rattle.txn_history.specs.Licence.{IsLicensed, WasTimed}
use Rattle.txn_history.specs.Plan.{Plan}
use Rattle.txn_model.specs.Regions.{split, lead, at_clock}
use Rattle.txn_model.specs.Store.{Store, opening}
use Rattle.txn_model.specs.Table.{table}

-- The store after these events: the request table folded over what was served, and what splits a region, leads it
-- elsewhere or sets the clock between.
abbrev pub store_after : List Event → Store
store_after [] = opening
store_after (Served t r o ∷ es) = (table (store_after es) r).store
store_after (Split k ∷ es) = split (store_after es) k
store_after (Led region store ∷ es) = lead (store_after es) region store
store_after (Clocked ms ∷ es) = at_clock (store_after es) ms
store_after (_ ∷ es) = store_after es

-- nothing was sent with this ticket
abbrev pub IsUnused : List Event → Ticket → Type 0
IsUnused es t = (r : Request) → Has es (Sent t r) → ⊥

-- it was neither served nor refused
abbrev pub IsUnserved : List Event → Ticket → Type 0
IsUnserved es t = (r : Request) (o : Reply) → Has es (Served t r o) ⊎ Has es (Refused t r o) → ⊥

-- the next timestamp fits 64 bits
abbrev pub IsRoomy : Store → Type 0
IsRoomy st = 1 + st.last < 2 ^ 64

-- Each ticket is used once. A request is handled once at most, after it was sent: it is served, or the store is too busy and it
-- never is. A reply is taken after it was given. A timestamp that an ask is answered is one that a Tso gave which was sent after
-- the ask. Nothing else is asked for: a request may be served after it was lost; a reply may be taken after it was lost, or
-- after its client crashed; regions change and the clock goes as they like.
abbrev pub IsPossible : List Event → Event → Type 0
IsPossible es (Sent t r) = IsUnused es t
IsPossible es (Served t r o) = Has es (Sent t r) × (o ≡ (table (store_after es) r).reply) × IsUnserved es t × IsRoomy (store_after es)
IsPossible es (Took t r o) = Has es (Served t r o) ⊎ Has es (Refused t r o)
IsPossible es (Refused t r o) = Has es (Sent t r) × (busy_reply r ≡ Some o) × IsUnserved es t
IsPossible es (Lost t r) = Has es (Sent t r)
IsPossible es (Began t ms) = Unit {0}
IsPossible es (Slept t) = Unit {0}
IsPossible es (Asked a) = Has es (Asked a) → ⊥
IsPossible es (Answered a (Err why)) = Has es (Asked a)
IsPossible es (Answered a (Ok time)) = WasTimed es a (version_of time)
IsPossible es (Crashed client) = Unit {0}
IsPossible es (Split k) = Unit {0}
IsPossible es (Led region store) = Unit {0}
IsPossible es (Clocked ms) = Unit {0}

-- Every request but the one that destroys a range: it takes commits away, and what was whole or was read would not stay
-- (`whole`, `committed`, `reads_repeat`).
abbrev pub IsCovered : Request → Type 0
IsCovered (UnsafeDestroyRange r) = ⊥
IsCovered _ = Unit {0}

abbrev pub IsAllowed : (ℕ → Plan) → List Event → Event → Type 0
IsAllowed plans es (Sent t r) = IsCovered r × IsLicensed plans es r
IsAllowed plans es _ = Unit {0}

-- what happened, the newest first, under the plans of the transactions by their starts
abbrev pub IsRun : (ℕ → Plan) → List Event → Type 0
IsRun plans [] = Unit {0}
IsRun plans (e ∷ es) = IsPossible es e × IsAllowed plans es e × IsRun plans es

-- no pessimistic lock of the start was asked for
abbrev pub IsOptimistic : List Event → ℕ → Type 0
IsOptimistic es s = (t : Ticket) (q : PessimisticLockRequest) → Has es (Sent t (PessimisticLock q)) → q.start_version ≡ s → ⊥
