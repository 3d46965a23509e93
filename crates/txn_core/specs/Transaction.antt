-- A transaction as its user knows it: what contracts see of it, how a write changes it, and how its status moves.
use Rattle.std.specs.Prelude.{◌≡◌, ℕ, ⊤, Bool, true, false, if◌then◌else◌, List, [], ◌∷◌, Option, Some, None, is_none, not, Result, Ok, Err}
use Rattle.std.specs.Cmp.Lexicographic.{slice_cmp}
use Rattle.std.specs.List.Sorted.{IsStrictlySortedBy}
use Rattle.std.specs.Map.{keys_of}
use Rattle.std.specs.Ordering.{nat_cmp}
use Rattle.txn_kv.specs.declared.errors.Error.{Error}
use Rattle.txn_kv.specs.declared.errors.Error.TheVariants.{DuplicateKeyInsertion, OperationAfterCommitError, Unimplemented}
use Rattle.txn_kv.specs.declared.message.Mutation.{Mutation}
use Rattle.txn_kv.specs.declared.message.Op.{Op}
use Rattle.txn_kv.specs.declared.message.Op.TheVariants.{Put, Del}
use Rattle.txn_kv.specs.declared.timestamp.Timestamp.{Timestamp}
use Rattle.txn_history.specs.Turn.{Turn}
use Rattle.txn_history.specs.Turn.Turn.{Stopped, Waits, Ends}
use Rattle.txn_buffer.specs.Contents.{Contents, known_at, known_value, locked, mutated}
use Rattle.txn_buffer.specs.Reads.{writes}
use Rattle.txn_buffer.specs.Writes.{WriteCall, after_call, after_calls, delete_call, put_call}
use Rattle.txn_commit.specs.Following.{Commits, none_sent}
use Rattle.txn_commit.specs.Parts.{parts_of}
use Rattle.txn_commit.specs.declared.commit_parts.CommitParts.{CommitParts}
use Rattle.txn_core.specs.Options.{is_pessimistic}
use Rattle.txn_core.specs.Status.{allows_data, allows_rollback, is_undetermined, may_move, opening}
use Rattle.txn_core.specs.declared.options.TransactionOptions.{TransactionOptions}
use Rattle.txn_core.specs.declared.status.Status.{Status}
use Rattle.txn_core.specs.declared.status.Status.TheVariants as statuses
use Rattle.txn_core.specs.declared.transaction.Work.{Work}
use Rattle.txn_core.specs.declared.transaction.Work.TheVariants.{Idle, Open, GaveUp}
use Rattle.txn_core.specs.declared.txn_answer.TxnAnswer.{TxnAnswer}
use Rattle.txn_core.specs.declared.txn_answer.TxnAnswer.TheVariants as answer

-- What contracts see of a transaction: its start timestamp and its options, the clock as that timestamp came, how far it has
-- come, what its buffer holds, what is known of the Commits of its primary, the call that is open, and the most parts that a
-- request of one was cut into that is let go.
pub record Standing (P : Type 0) : Type 0 where
  pub start : Timestamp
  pub options : TransactionOptions
  pub began : ℕ
  pub status : Status
  pub contents : Contents
  pub commits : Commits
  pub work : Work P
  pub width : ℕ

-- one that has just begun
abbrev pub begun : {P : Type 0} → Timestamp → TransactionOptions → ℕ → Standing P
begun start options now = record {
  start = start;
  options = options;
  began = now;
  status = opening options.read_only;
  contents = record { entries = []; primary = None; is_pessimistic = is_pessimistic options.kind };
  commits = none_sent;
  work = Idle;
  width = 0;
}

-- a call is open
abbrev pub is_open : {P : Type 0} → Work P → Bool
is_open Idle = false
is_open (Open call) = true
is_open GaveUp = false

abbrev pub has_given_up : {P : Type 0} → Work P → Bool
has_given_up Idle = false
has_given_up (Open call) = false
has_given_up GaveUp = true

-- the keys of the buffer are in order
abbrev pub IsOrdered : Contents → Type 0
IsOrdered contents = IsStrictlySortedBy (slice_cmp nat_cmp) (keys_of contents.entries)

-- Refusals, the first that applies

abbrev pub refused_unless : Bool → Error → Option Error
refused_unless true e = None
refused_unless false e = Some e

abbrev pub or_refused : Option Error → Option Error → Option Error
or_refused None later = later
or_refused (Some e) later = Some e

abbrev pub write_refusal : Status → Option Error
write_refusal s = refused_unless (allows_data s) OperationAfterCommitError

-- a value of the key is known
abbrev pub insert_refusal : Status → Contents → List ℕ → Option Error
insert_refusal s contents key = or_refused (write_refusal s) (refused_unless (is_none (known_value (known_at contents key))) DuplicateKeyInsertion)

abbrev pub is_put_or_delete : Op → Bool
is_put_or_delete Put = true
is_put_or_delete Del = true
is_put_or_delete _ = false

abbrev pub all_put_or_delete : List Mutation → Bool
all_put_or_delete [] = true
all_put_or_delete (m ∷ ms) = if is_put_or_delete m.op then all_put_or_delete ms else false

-- one of the list is neither a put nor a delete
abbrev pub mutate_refusal : Status → List Mutation → Option Error
mutate_refusal s ms = or_refused (write_refusal s) (refused_unless (all_put_or_delete ms) Unimplemented)

-- Writes

-- the buffer after a write: what is written is one step further
pub record IsStep (next : Contents) (call : WriteCall) (old new : Contents) : Type 0 where
  pub contents : new ≡ next
  pub writes : writes new ≡ after_call old.is_pessimistic (writes old) call

-- the call that stands for a mutation, which is a put or a delete
abbrev pub call_by : Op → List ℕ → List ℕ → WriteCall
call_by Put key value = put_call key value
call_by _ key value = delete_call key

abbrev pub calls_of : List Mutation → List WriteCall
calls_of [] = []
calls_of (m ∷ ms) = call_by m.op m.key m.value ∷ calls_of ms

abbrev pub and_mutated : Option Contents → (Contents → Option Contents) → Option Contents
and_mutated None later = None
and_mutated (Some contents) later = later contents

abbrev pub mutated_all : Contents → List Mutation → Option Contents
mutated_all contents [] = Some contents
mutated_all contents (m ∷ ms) = and_mutated (mutated contents m) (λ next. mutated_all next ms)

-- the buffer after a list of puts and deletes, in their order
pub record AreSteps (ms : List Mutation) (old new : Contents) : Type 0 where
  pub contents : mutated_all old ms ≡ Some new
  pub writes : writes new ≡ after_calls old.is_pessimistic (writes old) (calls_of ms)

abbrev pub locked_all : Contents → List (List ℕ) → Contents
locked_all contents [] = contents
locked_all contents (key ∷ keys) = locked_all (locked contents key) keys

-- the buffer after keys were locked: what is written stays
pub record AreLocked (keys : List (List ℕ)) (old new : Contents) : Type 0 where
  pub contents : new ≡ locked_all old keys
  pub writes : writes new ≡ writes old

-- How a write ends. For want of memory it gives up, for good. Where it is refused nothing changes. Else the buffer holds what
-- it wrote.
abbrev pub WriteEnds : {P : Type 0} → Option Error → (Contents → Contents → Type 0) → Standing P → Standing P → Turn (Result (TxnAnswer P) Error) → Type 0
WriteEnds refusal wrote old new Stopped = new ≡ record old { contents = new.contents; work = GaveUp }
WriteEnds refusal wrote old new Waits = ⊥
WriteEnds (Some e) wrote old new (Ends v) = (v ≡ Err e) × (new ≡ old)
WriteEnds None wrote old new (Ends v) = (v ≡ Ok answer.Unit) × (new ≡ record old { contents = new.contents }) × wrote old.contents new.contents

-- a call that gives up for want of memory does so for good
pub record GivesUp {P : Type 0} (old new : Standing P) (turn : Turn (Result (TxnAnswer P) Error)) : Type 0 where
  pub after : old.work ≡ GaveUp → (turn ≡ Stopped) × (new ≡ old)
  pub stops : turn ≡ Stopped → new.work ≡ GaveUp

-- it is refused, and nothing changes
abbrev pub IsRefused : {P : Type 0} → Error → Standing P → Standing P → Turn (Result (TxnAnswer P) Error) → Type 0
IsRefused e old new Stopped = new ≡ old
IsRefused e old new Waits = ⊥
IsRefused e old new (Ends v) = (v ≡ Err e) × (new ≡ old)

-- it answers so at once
abbrev pub AnswersAtOnce : {A : Type 0} → A → Turn (Result A Error) → Type 0
AnswersAtOnce a Stopped = ⊤
AnswersAtOnce a Waits = ⊥
AnswersAtOnce a (Ends v) = v ≡ Ok a

-- there is no answer yet
abbrev pub is_waiting : {A : Type 0} → Turn A → Bool
is_waiting Stopped = false
is_waiting Waits = true
is_waiting (Ends v) = false

-- no key of the buffer is locked by a commit
abbrev pub lock_nothing : Option CommitParts → Bool
lock_nothing None = true
lock_nothing (Some parts) = not parts.locks

abbrev pub locks_nothing : Contents → Bool
locks_nothing contents = lock_nothing (parts_of contents)

-- The status

-- what a commit came to, and what a rollback did
abbrev pub commit_outcome : {P : Type 0} → Turn (Result (TxnAnswer P) Error) → Option (Result (Option Timestamp) Error)
commit_outcome Stopped = None
commit_outcome Waits = None
commit_outcome (Ends (Err e)) = Some (Err e)
commit_outcome (Ends (Ok (answer.Committed t job))) = Some (Ok t)
commit_outcome (Ends (Ok _)) = None

abbrev pub rollback_outcome : {P : Type 0} → Turn (Result (TxnAnswer P) Error) → Option (Result (Unit {0}) Error)
rollback_outcome Stopped = None
rollback_outcome Waits = None
rollback_outcome (Ends (Err e)) = Some (Err e)
rollback_outcome (Ends (Ok answer.Unit)) = Some (Ok tt)
rollback_outcome (Ends (Ok _)) = None

-- no error says that a commit's end is not known
abbrev pub IsDetermined : {P : Type 0} → Turn (Result (TxnAnswer P) Error) → Type 0
IsDetermined Stopped = ⊤
IsDetermined Waits = ⊤
IsDetermined (Ends (Ok v)) = ⊤
IsDetermined (Ends (Err e)) = is_undetermined e ≡ false

-- The status goes where it may: one that was let go stays so.
abbrev pub moved : Status → Status → Status
moved s next = if may_move s next then next else s

-- how it moves as an open call goes on
abbrev pub moved_by : {P : Type 0} → Status → Turn (Result (TxnAnswer P) Error) → Status
moved_by s Stopped = s
moved_by s Waits = s
moved_by s (Ends (Err e)) = s
moved_by s (Ends (Ok (answer.Committed t job))) = moved s statuses.Committed
moved_by s (Ends (Ok answer.Unit)) = moved s statuses.Rolledback
moved_by s (Ends (Ok _)) = s

-- and by a rollback, which leaves it where it is refused
abbrev pub rolled_status : {P : Type 0} → Status → Bool → Turn (Result (TxnAnswer P) Error) → Status
rolled_status s true turn = s
rolled_status s false turn = if allows_rollback s then moved_by statuses.StartedRollback turn else s
