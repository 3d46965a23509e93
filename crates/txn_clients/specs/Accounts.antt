-- How far the transactions that stand at the lines have come, and what they have taken in.
use Rattle.std.specs.Prelude.{◌≡◌, ◌≢◌, ⊤, ℕ, Bool, true, false, List, Option, Some, None, Result, Ok, Err, is_some, option_map, slice_index_or, length, ◌≤◌}
use Rattle.std.proofs.Common.{zero, suc}
use Rattle.txn_kv.specs.ErrorView.{view_of}
use Rattle.txn_kv.specs.Timestamp.{version_of}
use Rattle.txn_kv.specs.declared.errors.Error.{Error}
use Rattle.txn_history.specs.Event.{Event}
use Rattle.txn_history.specs.Turn.{Turn}
use Rattle.txn_history.specs.Turn.Turn.{Stopped, Waits, Ends}
use Rattle.txn_commit.specs.Following.{none_sent, undetermined}
use Rattle.txn_core.specs.Status.{allows_data}
use Rattle.txn_core.specs.Transaction.{Standing, is_open}
use Rattle.txn_core.specs.declared.status.Status.{Status}
use Rattle.txn_core.specs.declared.status.Status.TheVariants.{ReadOnly, Active, Committed, StartedCommit, Rolledback, StartedRollback, Dropped}
use Rattle.txn_core.specs.declared.txn_answer.TxnAnswer.{TxnAnswer}
use Rattle.txn_core.specs.declared.txn_answer.TxnAnswer.TheVariants.{Unit as Nothing}
use Rattle.txn_core.specs.declared.txn_answer.TxnAnswer.TheVariants as answer
use Rattle.txn_client.specs.Calls.{CallGives}
use Rattle.txn_client.specs.declared.client_answer.ClientAnswer.{ClientAnswer}
use Rattle.txn_client.specs.declared.client_answer.ClientAnswer.TheVariants.{Begun, Time}
use Rattle.txn_client.specs.declared.client_call.ClientCall.{ClientCall}
use Rattle.txn_report.specs.declared.outcome.Outcome.{Outcome}
use Rattle.txn_report.specs.declared.outcome.Outcome.TheVariants as outcomes
use Rattle.txn_report.specs.declared.outcome.Payload.TheVariants as payloads
use Rattle.txn_side.specs.Account.{Account, Status as Stage, after_act, is_undetermined, is_write, new_account, refusal}
use Rattle.txn_side.specs.Sight.{commits}
use Rattle.txn_lines.specs.declared.act.Act.{Act}
use Rattle.txn_clients.specs.Want.{wants_memory}
use Rattle.txn_clients.specs.declared.answer.Answer.{Answer}
use Rattle.txn_clients.specs.declared.answer.Answer.TheVariants as answers
use Rattle.txn_clients.specs.declared.row.Row.{Row}
use Rattle.txn_clients.specs.declared.row.Row.TheVariants as row
use Rattle.txn_clients.specs.declared.told.Told.{Told}
use Rattle.txn_clients.specs.declared.told.Told.TheVariants as tells
use Rattle.txn_kv.specs.declared.arrival.Arrival.{Arrival}
use Rattle.txn_kv.specs.declared.arrival.Arrival.TheVariants as arrivals

-- A transaction

-- as a machine sees it. None of these was begun to read alone, or is let go while a line may ask it something.
abbrev pub status_of : Status → Stage
status_of ReadOnly = Stage.Active
status_of Active = Stage.Active
status_of Committed = Stage.Committed
status_of StartedCommit = Stage.StartedCommit
status_of Rolledback = Stage.RolledBack
status_of StartedRollback = Stage.StartedRollback
status_of Dropped = Stage.Committed

-- by its status, whether a call of it is open, and whether a Commit of its primary was lost or is not refused
abbrev pub stage_by : Status → Bool → Bool → Stage
stage_by StartedCommit true doubtful = Stage.Committing
stage_by StartedCommit false true = Stage.Undetermined
stage_by s busy doubtful = status_of s

abbrev pub stage_of : {P : Type 0} → Standing P → Stage
stage_of t = stage_by t.status (is_open t.work) (is_some (undetermined t.commits))

abbrev pub account_of : {P : Type 0} → Standing P → Account
account_of t = record { status = stage_of t; contents = t.contents }

-- no Commit of it was sent, and no call of it is open
pub record IsActive {P : Type 0} (t : Standing P) : Type 0 where
  pub status : t.status ≡ Active
  pub commits : t.commits ≡ none_sent
  pub rests : is_open t.work ≡ false

-- while it may be written
abbrev pub IsQuiet : {P : Type 0} → Standing P → Type 0
IsQuiet t = allows_data t.status ≡ true → IsActive t

-- one that has begun just now has taken in nothing
pub record IsNew {P : Type 0} (t : Standing P) : Type 0 where
  pub account : account_of t ≡ new_account
  pub quiet : IsQuiet t

-- What the call of a line comes to by its answer, where it commits or not. With an answer of another kind it does not end.
abbrev pub outcome_by : {P : Type 0} → Bool → Result (TxnAnswer P) Error → Outcome
outcome_by commits (Err e) = outcomes.Err e
outcome_by true (Ok (answer.Committed t job)) = outcomes.Ok (payloads.Commit (option_map version_of t))
outcome_by false (Ok answer.Unit) = outcomes.Ok payloads.Unit
outcome_by commits (Ok _) = outcomes.Unfinished

-- With such an answer no call for a timestamp ends: it is of another kind than the call, which begins a transaction or not, or it
-- holds want of memory.
abbrev pub EndsNoAsk : {D P : Type 0} → Bool → Result (ClientAnswer D P) Error → Type 0
EndsNoAsk begins (Err e) = wants_memory (view_of e) ≡ true
EndsNoAsk begins (Ok (Begun t)) = begins ≡ false
EndsNoAsk begins (Ok (Time t)) = begins ≡ true

-- and no call of a transaction, which commits or rolls back
abbrev pub EndsNoCall : {P : Type 0} → Bool → Result (TxnAnswer P) Error → Type 0
EndsNoCall commits (Err e) = wants_memory (view_of e) ≡ true
EndsNoCall commits (Ok answer.Unit) = commits ≡ true
EndsNoCall commits (Ok (answer.Committed t job)) = commits ≡ false
EndsNoCall commits (Ok _) = ⊤

-- so far
abbrev pub come_to : {P : Type 0} → Bool → Turn (Result (TxnAnswer P) Error) → Outcome
come_to commits Stopped = outcomes.Unfinished
come_to commits Waits = outcomes.Unfinished
come_to commits (Ends v) = outcome_by commits v

-- what has to be answered at once: that it is refused, and to each write
abbrev pub EndsAtOnce : {P : Type 0} → Act → Option Error → Turn (Result (TxnAnswer P) Error) → Type 0
EndsAtOnce act None turn = is_write act ≡ true → turn ≡ Ends (Ok Nothing)
EndsAtOnce act (Some e) turn = turn ≡ Ends (Err e)

-- it did what was asked of it
pub record HasTaken {P : Type 0} (act : Act) (old new : Standing P) (turn : Turn (Result (TxnAnswer P) Error)) : Type 0 where
  pub account : account_of new ≡ after_act act true (come_to (commits act) turn) (account_of old)
  pub quiet : IsQuiet new
  pub answer : EndsAtOnce act (refusal act (account_of old)) turn

-- it heard of something
pub record HasHeard {P : Type 0} (old new : Standing P) (turn : Turn (Result (TxnAnswer P) Error)) : Type 0 where
  pub contents : new.contents ≡ old.contents
  pub waits : turn ≡ Waits → stage_of new ≡ stage_of old
  pub quiet : IsQuiet new

-- A call that begins one

-- a transaction that it answers is new
abbrev pub BeginsNew : {C P : Type 0} → Result (ClientAnswer C P) Error → Type 0
BeginsNew (Ok (Begun b)) = IsNew b
BeginsNew (Ok (Time t)) = ⊤
BeginsNew (Err e) = ⊤

abbrev pub AnswersNew : {P : Type 0} → Answer P → Type 0
AnswersNew (answers.Asked v) = BeginsNew v
AnswersNew (answers.Called v) = ⊤

-- any that it may answer is
abbrev pub WantsNew : {C P : Type 0} → ClientCall C P → Type 0
WantsNew {C} {P} call = (h : List Event) (b : Standing P) → CallGives {C = C} call.wanted h (Ok (Begun b)) → IsNew b

-- What stands at a line

abbrev pub account_in : {P : Type 0} → Row P → Account
account_in (row.Begun c t m) = account_of t
account_in _ = new_account

-- what stands at line n has taken in
abbrev pub account_at : {P : Type 0} → List (Row P) → ℕ → Account
account_at rows zero = new_account
account_at rows (suc i) = account_in (slice_index_or rows i row.Plain)

-- the answer says that it is not known whether it is committed
abbrev pub says_undetermined : {P : Type 0} → Turn (Result (TxnAnswer P) Error) → Bool
says_undetermined Stopped = false
says_undetermined Waits = false
says_undetermined (Ends (Ok v)) = false
says_undetermined (Ends (Err e)) = is_undetermined e

-- it says so only where a Commit of its primary was lost
abbrev pub SaysLoss : {P : Type 0} → Turn (Result (TxnAnswer P) Error) → Standing P → Type 0
SaysLoss turn t = says_undetermined turn ≡ true → is_some t.commits.lost ≡ true

-- One Commit of its primary is out at most where one is lost, but where one was lost before.
abbrev pub IsAlone : {P : Type 0} → Arrival → Standing P → Type 0
IsAlone (arrivals.Reply n x) t = ⊤
IsAlone (arrivals.Lost n) t = is_some t.commits.lost ≡ false → length t.commits.out ≤ 1
IsAlone (arrivals.Slept n) t = ⊤
IsAlone (arrivals.Time n x) t = ⊤

-- a commit ends with no other answer
abbrev pub EndsCommit : {P : Type 0} → Result (TxnAnswer P) Error → Type 0
EndsCommit (Err e) = ⊤
EndsCommit (Ok (answer.Committed t job)) = ⊤
EndsCommit (Ok _) = ⊥

-- The answer of a commit tells how its transaction stands: where it may be begun again, a Commit of its primary was lost or is not refused
-- exactly if that is what is said.
pub record TellsEnd {P : Type 0} (v : Result (TxnAnswer P) Error) (t : Standing P) : Type 0 where
  pub kind : EndsCommit v
  pub known : t.status ≡ StartedCommit → says_undetermined (Ends v) ≡ is_some (undetermined t.commits)

-- What it is told

abbrev pub is_heard : Told → Bool
is_heard tells.Start = false
is_heard (tells.Act act) = false
is_heard (tells.Heard a) = true

-- what a call of a transaction comes to by what is answered now
abbrev pub outcome_in : {P : Type 0} → Bool → Option (Answer P) → Outcome
outcome_in commits None = outcomes.Unfinished
outcome_in commits (Some (answers.Asked v)) = outcomes.Unfinished
outcome_in commits (Some (answers.Called v)) = outcome_by commits v

-- What becomes of an account as its transaction is told of something. How far it comes by an answer that it gives later is not said.
abbrev pub AccountTold : {P : Type 0} → Told → Option (Answer P) → Account → Account → Type 0
AccountTold tells.Start answer old new = new ≡ old
AccountTold (tells.Act act) answer old new = new ≡ after_act act true (outcome_in (commits act) answer) old
AccountTold (tells.Heard a) None old new = new ≡ old
AccountTold (tells.Heard a) (Some v) old new = new.contents ≡ old.contents

-- only a transaction has taken in anything
abbrev pub RowTold : {P : Type 0} → Told → Option (Answer P) → Row P → Account → Type 0
RowTold told answer (row.Begun c t m) new = AccountTold told answer (account_of t) new
RowTold told answer _ new = new ≡ new_account

-- a refusal is answered at once, and so is a write
abbrev pub AnswersSo : {P : Type 0} → Act → Option Error → Option (Answer P) → Type 0
AnswersSo act None answer = is_write act ≡ true → answer ≡ Some (answers.Called (Ok Nothing))
AnswersSo act (Some e) answer = answer ≡ Some (answers.Called (Err e))

abbrev pub AnswersAsk : {P : Type 0} → Told → Account → Option (Answer P) → Type 0
AnswersAsk (tells.Act act) account answer = AnswersSo act (refusal act account) answer
AnswersAsk told account answer = ⊤

abbrev pub AnswersTold : {P : Type 0} → Told → Row P → Option (Answer P) → Type 0
AnswersTold told (row.Begun c t m) answer = AnswersAsk told (account_of t) answer
AnswersTold told _ answer = ⊤

-- What stands at this place was told of something, and answered. The others stay.
pub record AccountsTold {P : Type 0} (told : Told) (at : ℕ) (answer : Option (Answer P)) (old new : List (Row P)) : Type 0 where
  pub own : RowTold told answer (slice_index_or old at row.Plain) (account_at new (suc at))
  pub others : (n : ℕ) → n ≢ suc at → account_at new n ≡ account_at old n
