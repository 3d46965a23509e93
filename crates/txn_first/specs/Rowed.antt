-- What stands at each line, and what is out, by the lines and their outcomes.
use Rattle.std.specs.Prelude.{◌≡◌, ◌≢◌, ◌⊎◌, ℕ, ◌+◌, ◌<◌, ◌≤◌, true, false, List, [], ◌∷◌, length, Option, Some, None, slice_index_or as get_or}
use Rattle.txn_kv.specs.declared.request.Request.{Request}
use Rattle.txn_kv.specs.declared.request.Request.TheVariants.{GetRegion, GetStore}
use Rattle.txn_kv.specs.declared.ticket.Ticket.{Ticket}
use Rattle.txn_kv.specs.Codec.{encoded}
use Rattle.txn_history.specs.Event.{Event, sent_request, is_out}
use Rattle.txn_history.specs.Licence.{AskedAfter}
use Rattle.txn_law.specs.Lone.{lone_plan}
use Rattle.txn_model.specs.declared.cell.Cell.{Cell}
use Rattle.txn_model.specs.declared.cell.Kind.TheVariants.{Put as Put_kind}
use Rattle.txn_model.specs.declared.region.StoredRegion.{StoredRegion}
use Rattle.txn_model.specs.Store.{Store, opening}
use Rattle.txn_model.specs.Placement.{region_record, leader_of}
use Rattle.txn_script.specs.Lines.{line_at, why_after}
use Rattle.txn_script.specs.declared.line.Line.{Line}
use Rattle.txn_script.specs.declared.line.Line.TheVariants.{Begin, Commit, Deliver}
use Rattle.txn_report.specs.declared.outcome.Outcome.{Outcome}
use Rattle.txn_report.specs.declared.outcome.Outcome.TheVariants.{Ok, Unfinished, Skipped}
use Rattle.txn_report.specs.declared.outcome.Payload.TheVariants.{Number}
use Rattle.txn_first.specs.declared.transaction.Transaction.{Transaction}
use Rattle.txn_first.specs.declared.transaction.Put.{Put}
use Rattle.txn_first.specs.declared.transaction.Place.{Place}
use Rattle.txn_first.specs.declared.transaction.CommitCall.{CommitCall}
use Rattle.txn_first.specs.declared.transaction.Stage.{Stage}
use Rattle.txn_first.specs.declared.transaction.Stage.TheVariants.{FindingRegion, FindingStore, Prewriting, Stamping, Committing}
use Rattle.txn_first.specs.declared.transaction.Status.{Status}
use Rattle.txn_first.specs.declared.transaction.Status.TheVariants.{Active, StartedCommit, Committed}
use Rattle.txn_first.specs.declared.machine.Row.{Row}
use Rattle.txn_first.specs.declared.machine.Row.TheVariants.{Plain, Beginning, Running, Committing as Commit_row}
use Rattle.txn_first.specs.Commit.{prewrite_of, commit_of, place_of}
use Rattle.txn_first.specs.Lists.{row_at, ask_one}
use Rattle.txn_first.specs.Script.{outcome_of}
use Rattle.txn_first.specs.Causes.{Written, is_unfinished, is_call_of, status_of, writes_of, OwnIsOut}

-- none of these lines is bad after the earlier ones
abbrev pub AreGood : List Line → Type 0
AreGood [] = Unit {0}
AreGood (l ∷ ls) = (why_after ls l ≡ None) × AreGood ls

abbrev pub writes_in : Option Put → List Written
writes_in None = []
writes_in (Some p) = record { key = p.key; value = p.value } ∷ []

-- no call of x is open, but for the line n
abbrev pub IsIdleBut : List Line → List Outcome → ℕ → ℕ → Type 0
IsIdleBut lines outs x n = (m : ℕ) (l : Line) → line_at lines m ≡ Some l → is_call_of x l m ≡ true → m ≢ n → is_unfinished (outcome_of outs m) ≡ false

-- A commit of x is open.
pub record CommitFits (lines : List Line) (rows : List Row) (outs : List Outcome) (x : ℕ) (t : Transaction) (call : CommitCall) : Type 0 where
  pub line : line_at lines call.line ≡ Some (Commit x)
  pub row : row_at rows call.line ≡ Some (Commit_row x)
  pub waits : outcome_of outs call.line ≡ Unfinished
  pub started : t.status ≡ StartedCommit
  pub put : Put
  pub puts : t.put ≡ Some put
  pub alone : IsIdleBut lines outs x call.line
  pub later : (m : ℕ) → call.line < m → line_at lines m ≡ Some (Commit x) → outcome_of outs m ≡ Skipped

abbrev pub CallFits : List Line → List Row → List Outcome → ℕ → Transaction → Option CommitCall → Type 0
CallFits lines rows outs x t None = IsIdleBut lines outs x 0
CallFits lines rows outs x t (Some call) = CommitFits lines rows outs x t call

-- a transaction has begun
pub record RunningFits (lines : List Line) (rows : List Row) (outs : List Outcome) (x : ℕ) (t : Transaction) : Type 0 where
  pub client : ℕ
  pub line : line_at lines x ≡ Some (Begin client)
  pub start : outcome_of outs x ≡ Ok (Number t.start)
  pub status : status_of (outcome_of outs) x lines ≡ t.status
  pub writes : writes_of (outcome_of outs) x lines ≡ writes_in t.put
  pub call : CallFits lines rows outs x t t.call

-- a transaction waits for its start
pub record BeginningFits (lines : List Line) (outs : List Outcome) (x : ℕ) : Type 0 where
  pub client : ℕ
  pub line : line_at lines x ≡ Some (Begin client)
  pub waits : outcome_of outs x ≡ Unfinished
  pub status : status_of (outcome_of outs) x lines ≡ Active
  pub writes : writes_of (outcome_of outs) x lines ≡ []
  pub alone : IsIdleBut lines outs x x

abbrev pub RowFits : List Line → List Row → List Outcome → ℕ → Row → Type 0
RowFits lines rows outs n Plain = Unit {0}
RowFits lines rows outs n Beginning = BeginningFits lines outs n
RowFits lines rows outs n (Running t) = RunningFits lines rows outs n t
RowFits lines rows outs n (Commit_row x) = line_at lines n ≡ Some (Commit x)

-- what stands at the line of a begin
abbrev pub IsBegun : Option Row → Type 0
IsBegun None = ⊥
IsBegun (Some Plain) = ⊥
IsBegun (Some Beginning) = Unit {0}
IsBegun (Some (Running t)) = Unit {0}
IsBegun (Some (Commit_row x)) = ⊥

pub record Rowed (lines : List Line) (rows : List Row) (outs : List Outcome) : Type 0 where
  pub counted : length rows ≡ length lines
  pub fits : (n : ℕ) (row : Row) → row_at rows n ≡ Some row → RowFits lines rows outs n row
  pub begun : (n client : ℕ) → line_at lines n ≡ Some (Begin client) → IsBegun (row_at rows n)

-- What a commit at this stage waits for.
abbrev pub asked_at : ℕ → Put → Stage → Request
asked_at start p FindingRegion = GetRegion (record { region_key = encoded p.key })
asked_at start p (FindingStore place) = GetStore (record { store_id = place.store })
asked_at start p (Prewriting place) = prewrite_of start p place
asked_at start p (Stamping place) = ask_one
asked_at start p (Committing place c) = commit_of start p place c

-- What the request of this ticket, of a commit at this stage, rests on: a commit timestamp was asked for after the key was
-- acknowledged.
abbrev pub StageAsked : List Event → ℕ → Put → Stage → Ticket → Type 0
StageAsked es start p (Stamping place) ticket = AskedAfter (lone_plan p.key p.value) es start ticket
StageAsked es start p stage ticket = Unit {0}

-- a commit waits for the request of this ticket
pub record CommitAwaits (es : List Event) (rows : List Row) (ticket : Ticket) : Type 0 where
  pub x : ℕ
  pub t : Transaction
  pub call : CommitCall
  pub put : Put
  pub row : row_at rows ticket.line ≡ Some (Commit_row x)
  pub running : row_at rows x ≡ Some (Running t)
  pub calls : t.call ≡ Some call
  pub puts : t.put ≡ Some put
  pub own : call.line ≡ ticket.line
  pub asks : sent_request es ticket ≡ Some (asked_at t.start put call.stage)
  pub told : StageAsked es t.start put call.stage ticket

-- a begin waits for it
pub record BeginAwaits (es : List Event) (rows : List Row) (ticket : Ticket) : Type 0 where
  pub row : row_at rows ticket.line ≡ Some Beginning
  pub asks : sent_request es ticket ≡ Some ask_one

-- Whatever is out is waited for, and whoever waits has something out.
pub record Awaited (es : List Event) (lines : List Line) (rows : List Row) (outs : List Outcome) : Type 0 where
  pub known : (ticket : Ticket) → is_out es ticket ≡ true → BeginAwaits es rows ticket ⊎ CommitAwaits es rows ticket
  pub one : (t u : Ticket) → is_out es t ≡ true → is_out es u ≡ true → t ≡ u
  pub owed : (n : ℕ) → 1 ≤ n → n ≤ length lines → is_unfinished (outcome_of outs n) ≡ true → OwnIsOut es n

-- The store of the one transaction.

abbrev pub first_region : StoredRegion
first_region = record { id = 1; start_key = []; end_key = []; epoch = record { conf_ver = 1; version = 1 }; leader = 1 }

-- where the one region is
abbrev pub here : Place
here = place_of (region_record first_region) (leader_of first_region)

abbrev pub locked_cells : ℕ → Put → List Cell
locked_cells start p = record {
  key = p.key;
  lock = Some (record { start = start; primary = p.key; kind = Put_kind; value = p.value; ttl = 3000; for_update = 0; min_commit = 0; use_async = false; secondaries = [] });
  commits = [];
  rolled = [];
} ∷ []

abbrev pub StageCells : List Cell → ℕ → Put → Stage → Type 0
StageCells cells start p FindingRegion = cells ≡ []
StageCells cells start p (FindingStore place) = (cells ≡ []) × (place ≡ here)
StageCells cells start p (Prewriting place) = (cells ≡ []) × (place ≡ here)
StageCells cells start p (Stamping place) = (cells ≡ locked_cells start p) × (place ≡ here)
StageCells cells start p (Committing place c) = (cells ≡ locked_cells start p) × (place ≡ here)

abbrev pub CallCells : List Cell → Transaction → Option CommitCall → Option Put → Type 0
CallCells cells t None p = IdleCells t.status
  where
    IdleCells : Status → Type 0
    IdleCells Active = cells ≡ []
    IdleCells StartedCommit = cells ≡ []
    IdleCells Committed = Unit {0}
CallCells cells t (Some call) None = ⊥
CallCells cells t (Some call) (Some p) = StageCells cells t.start p call.stage

-- There is one transaction at most, so its stage says what the store holds.
pub record Lone (store : Store) (rows : List Row) (outs : List Outcome) : Type 0 where
  pub regions : store.regions ≡ opening.regions
  pub clock : store.clock ≡ 0
  pub last : store.last ≤ length outs
  pub few : length outs ≤ 65536
  pub cells : (x : ℕ) (t : Transaction) → row_at rows x ≡ Some (Running t) → CallCells store.cells t t.call t.put
  pub empty : ((x : ℕ) (t : Transaction) → row_at rows x ≡ Some (Running t) → ⊥) → store.cells ≡ []

-- When the outcomes came: not after the newest line, and where none came the line is unfinished.
pub record Times (outs : List Outcome) (ended : List ℕ) : Type 0 where
  pub counted : length ended ≡ length outs
  pub past : (i : ℕ) → get_or ended i 0 ≤ length outs
  pub still : (i : ℕ) → get_or ended i 0 ≡ 0 → get_or outs i Unfinished ≡ Unfinished
  pub own : (i : ℕ) → get_or ended i 0 ≢ 0 → i < get_or ended i 0
  pub over : (i : ℕ) → get_or ended i 0 ≢ 0 → is_unfinished (get_or outs i Unfinished) ≡ false

-- The outcome of the line at place i came in the step of line e: its own, or one that delivers a ticket of it.
abbrev pub CameIn : List Line → ℕ → ℕ → Type 0
CameIn lines i e = (e ≡ i + 1) ⊎ ((t : Ticket) × (line_at lines e ≡ Some (Deliver t)) × (t.line ≡ i + 1))

abbrev pub AllCame : List Line → List ℕ → Type 0
AllCame lines ended = (i : ℕ) → get_or ended i 0 ≢ 0 → CameIn lines i (get_or ended i 0)

-- The rows, what is out, the store and the outcomes are where the lines leave them.
pub record Fits (es : List Event) (lines : List Line) (store : Store) (rows : List Row) (outs : List Outcome) (ended : List ℕ) : Type 0 where
  pub good : AreGood lines
  pub told : length outs ≡ length lines
  pub rowed : Rowed lines rows outs
  pub awaited : Awaited es lines rows outs
  pub lone : Lone store rows outs
  pub times : Times outs ended
