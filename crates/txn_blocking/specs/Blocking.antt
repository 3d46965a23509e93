-- How a call of a blocking client ends.
use Rattle.std.specs.Prelude.{◌≡◌, ⊤, List, Option, Some, None, Result, Ok, Err}
use Rattle.txn_buffer.specs.Contents.{Contents}
use Rattle.txn_client.specs.Calls.{IsWanted}
use Rattle.txn_client.specs.declared.client_answer.ClientAnswer.{ClientAnswer}
use Rattle.txn_client.specs.declared.client_call.ClientCall.{ClientCall}
use Rattle.txn_commit.specs.declared.secondary_job.SecondaryJob.{SecondaryJob}
use Rattle.txn_core.specs.Transaction.{Standing, begun}
use Rattle.txn_core.specs.declared.options.TransactionOptions.{TransactionOptions}
use Rattle.txn_core.specs.declared.status.Status.{Status}
use Rattle.txn_core.specs.declared.status.Status.TheVariants as statuses
use Rattle.txn_core.specs.declared.txn_answer.TxnAnswer.{TxnAnswer}
use Rattle.txn_core.specs.declared.txn_answer.TxnAnswer.TheVariants as answer
use Rattle.txn_history.specs.Event.{Event}
use Rattle.txn_history.specs.Turn.{Turn}
use Rattle.txn_history.specs.Turn.Turn.{Stopped, Waits, Ends}
use Rattle.txn_kv.specs.declared.errors.Error.{Error}
use Rattle.txn_kv.specs.declared.errors.Error.TheVariants.{InternalError}
use Rattle.txn_kv.specs.declared.errors.Internal.TheVariants.{WrongReply}
use Rattle.txn_kv.specs.declared.timestamp.Timestamp.{Timestamp}

-- a transaction that has just begun with these options
abbrev pub IsNew : {P : Type 0} → TransactionOptions → Standing P → Type 0
IsNew options t = t ≡ begun t.start options t.began

-- by some history this is what the call was wanted for
abbrev pub HasGiven : {C P : Type 0} → ClientCall C P → ClientAnswer C P → Type 0
HasGiven call answer = (h : List Event) × IsWanted call.wanted h answer

-- what the call gives later, it would have given before
abbrev pub StillGives : {C P : Type 0} → ClientCall C P → ClientCall C P → Type 0
StillGives {C} {P} old new = (h : List Event) (answer : ClientAnswer C P) → IsWanted new.wanted h answer → IsWanted old.wanted h answer

-- a call changed nothing of a transaction but how far its commit or rollback has come
abbrev pub IsSame : {P : Type 0} → Standing P → Standing P → Type 0
IsSame old new = new ≡ record old { status = new.status; commits = new.commits; work = new.work; width = new.width }

-- where a transaction stands whose commit has answered
abbrev pub HasCome : Status → Result (Option Timestamp) Error → Type 0
HasCome status (Ok (Some t)) = status ≡ statuses.Committed
HasCome status (Ok None) = ⊤
HasCome status (Err e) = status ≡ statuses.StartedCommit

-- What an answer of a transaction is read as. One of another kind is read as an error.

abbrev pub time_in : {P : Type 0} → Result (TxnAnswer P) Error → Result (Option Timestamp) Error
time_in (Ok (answer.Committed t job)) = Ok t
time_in (Ok _) = Err (InternalError WrongReply)
time_in (Err e) = Err e

abbrev pub job_in : {P : Type 0} → Result (TxnAnswer P) Error → Option (SecondaryJob P)
job_in (Ok (answer.Committed t job)) = job
job_in (Ok _) = None
job_in (Err e) = None

abbrev pub unit_in : {P : Type 0} → Result (TxnAnswer P) Error → Result (Unit {0}) Error
unit_in (Ok answer.Unit) = Ok tt
unit_in (Ok _) = Err (InternalError WrongReply)
unit_in (Err e) = Err e

-- a write that is refused changes nothing; another one leaves this in the buffer
abbrev pub Wrote : {P : Type 0} → Option Error → Contents → Standing P → Standing P → Result (Unit {0}) Error → Type 0
Wrote (Some e) next old new v = (v ≡ Err e) × (new ≡ old)
Wrote None next old new v = (v ≡ Ok tt) × (new ≡ record old { contents = next })

-- what a write answers, read from its turn
abbrev pub Reads : {P : Type 0} → Turn (Result (TxnAnswer P) Error) → Result (Unit {0}) Error → Type 0
Reads Stopped v = ⊥
Reads Waits v = ⊥
Reads (Ends (Ok x)) v = v ≡ Ok tt
Reads (Ends (Err e)) v = v ≡ Err e
