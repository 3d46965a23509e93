-- How far a transaction has come, and which calls and moves that allows.
use Rattle.std.specs.Prelude.{ℕ, Bool, true, false, if◌then◌else◌, List, [], ◌∷◌, Option, Some, None, Result, Ok, Err}
use Rattle.txn_kv.specs.declared.errors.Error.{Error}
use Rattle.txn_kv.specs.ErrorView.{ErrorView, view_of}
use Rattle.txn_kv.specs.ErrorView.ErrorView.{undetermined}
use Rattle.txn_kv.specs.declared.timestamp.Timestamp.{Timestamp}
use Rattle.txn_core.specs.declared.close_answer.CloseAnswer.{CloseAnswer}
use Rattle.txn_core.specs.declared.close_answer.CloseAnswer.TheVariants.{WouldPanic, Warned, Clean}
use Rattle.txn_core.specs.declared.options.CheckLevel.{CheckLevel}
use Rattle.txn_core.specs.declared.options.CheckLevel.TheVariants as levels
use Rattle.txn_core.specs.declared.status.Status.{Status}
use Rattle.txn_core.specs.declared.status.Status.TheVariants.{ReadOnly, Active, Committed, StartedCommit, Rolledback, StartedRollback, Dropped}

abbrev pub number_of : Status → ℕ
number_of ReadOnly = 0
number_of Active = 1
number_of Committed = 2
number_of StartedCommit = 3
number_of Rolledback = 4
number_of StartedRollback = 5
number_of Dropped = 6

-- a read, a write or a lock
abbrev pub allows_data : Status → Bool
allows_data ReadOnly = true
allows_data Active = true
allows_data Committed = false
allows_data StartedCommit = false
allows_data Rolledback = false
allows_data StartedRollback = false
allows_data Dropped = false

abbrev pub allows_commit : Status → Bool
allows_commit ReadOnly = false
allows_commit Active = true
allows_commit Committed = false
allows_commit StartedCommit = true
allows_commit Rolledback = false
allows_commit StartedRollback = false
allows_commit Dropped = false

abbrev pub allows_rollback : Status → Bool
allows_rollback ReadOnly = false
allows_rollback Active = true
allows_rollback Committed = false
allows_rollback StartedCommit = true
allows_rollback Rolledback = false
allows_rollback StartedRollback = true
allows_rollback Dropped = false

-- a rollback of it was begun
abbrev pub has_turned_back : Status → Bool
has_turned_back ReadOnly = false
has_turned_back Active = false
has_turned_back Committed = false
has_turned_back StartedCommit = false
has_turned_back Rolledback = true
has_turned_back StartedRollback = true
has_turned_back Dropped = false

-- nothing comes after it but that the transaction is let go
abbrev pub is_end : Status → Bool
is_end ReadOnly = false
is_end Active = false
is_end Committed = true
is_end StartedCommit = false
is_end Rolledback = true
is_end StartedRollback = false
is_end Dropped = true

-- a commit and a rollback are begun, or begun again, and come to their end; a rollback may follow a commit that was begun; and
-- a transaction may be let go at any time
abbrev pub may_move : Status → Status → Bool
may_move s Dropped = true
may_move s ReadOnly = by s
  where
    by : Status → Bool
    by ReadOnly = true
    by _ = false
may_move s Active = by s
  where
    by : Status → Bool
    by Active = true
    by _ = false
may_move s StartedCommit = by s
  where
    by : Status → Bool
    by Active = true
    by StartedCommit = true
    by _ = false
may_move s Committed = by s
  where
    by : Status → Bool
    by StartedCommit = true
    by Committed = true
    by _ = false
may_move s StartedRollback = by s
  where
    by : Status → Bool
    by Active = true
    by StartedCommit = true
    by StartedRollback = true
    by _ = false
may_move s Rolledback = by s
  where
    by : Status → Bool
    by StartedRollback = true
    by Rolledback = true
    by _ = false

abbrev pub opening : Bool → Status
opening read_only = if read_only then ReadOnly else Active

-- What became of a call: a commit or a rollback that goes on still has no answer. Of a commit it also counts whether a
-- Prewrite was sent.
pub data Became : Type 0 where
  commits : (answer : Option (Result (Option Timestamp) Error)) → (has_prewritten : Bool) → Became
  rolls_back : (answer : Option (Result (Unit {0}) Error)) → Became
  closes : Became
  other : Became

-- a timestamp was answered, or there was nothing to commit of what was prewritten
abbrev pub after_commit : Option (Result (Option Timestamp) Error) → Bool → Status
after_commit None has_prewritten = StartedCommit
after_commit (Some (Err error)) has_prewritten = StartedCommit
after_commit (Some (Ok (Some timestamp))) has_prewritten = Committed
after_commit (Some (Ok None)) has_prewritten = if has_prewritten then Committed else StartedCommit

abbrev pub is_undetermined_view : ErrorView → Bool
is_undetermined_view (undetermined inner) = true
is_undetermined_view _ = false

abbrev pub is_undetermined : Error → Bool
is_undetermined error = is_undetermined_view (view_of error)

-- a rollback that is refused since a commit's end is not known leaves the status
abbrev pub after_rollback : Status → Option (Result (Unit {0}) Error) → Status
after_rollback s None = StartedRollback
after_rollback s (Some (Ok done)) = Rolledback
after_rollback s (Some (Err error)) = if is_undetermined error then s else StartedRollback

-- a call that the status forbids leaves it
abbrev pub status_step : Status → Became → Status
status_step s (commits answer has_prewritten) = if allows_commit s then after_commit answer has_prewritten else s
status_step s (rolls_back answer) = if allows_rollback s then after_rollback s answer else s
status_step s closes = Dropped
status_step s other = s

-- the status after these calls, the first of them first
abbrev pub status_after : Status → List Became → Status
status_after s [] = s
status_after s (call ∷ calls) = status_after (status_step s call) calls

-- what a user is told who lets a transaction go
abbrev pub closing : Status → CheckLevel → CloseAnswer
closing Active levels.Panic = WouldPanic
closing Active levels.Warn = Warned
closing Active levels.None = Clean
closing _ level = Clean
