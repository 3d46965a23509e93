-- How calls end, and how far their transactions come by that.
use Rattle.std.specs.Prelude.{◌≡◌, ⊤, ℕ, Bool, true, false, List, [], ◌∷◌, ◌++◌, Option, Some, None, IfSome, Result, Ok, slice_index_or}
use Rattle.std.proofs.Common.{suc}
use Rattle.txn_kv.specs.declared.errors.Error.{Error}
use Rattle.txn_core.specs.declared.status.Status.{Status}
use Rattle.txn_core.specs.declared.status.Status.TheVariants.{Committed, StartedCommit, Rolledback, StartedRollback}
use Rattle.txn_core.specs.declared.txn_answer.TxnAnswer.{TxnAnswer}
use Rattle.txn_core.specs.declared.txn_answer.TxnAnswer.TheVariants as answer
use Rattle.txn_report.specs.declared.outcome.Outcome.{Outcome}
use Rattle.txn_side.specs.Account.{Account, AreClosed, Status as Stage, closed_by, committed_by}
use Rattle.txn_side.specs.Sight.{EndsAlone, Sight, Stand}
use Rattle.txn_side.specs.Sight.Stand.{Calling}
use Rattle.txn_side.specs.declared.turn.Ending.{Ending}
use Rattle.txn_clients.specs.Accounts.{AccountsTold, AnswersTold, account_at, account_of, outcome_by, stage_of}
use Rattle.txn_clients.specs.Rows.{stand_of}
use Rattle.txn_clients.specs.Waiting.{IsAnswerOf}
use Rattle.txn_clients.specs.declared.answer.Answer.{Answer}
use Rattle.txn_clients.specs.declared.answer.Answer.TheVariants as answers
use Rattle.txn_clients.specs.declared.row.Row.{Row}
use Rattle.txn_clients.specs.declared.row.Row.TheVariants as row
use Rattle.txn_clients.specs.declared.told.Told.{Told}
use Rattle.txn_clients.specs.declared.told.Told.TheVariants as tells

abbrev pub ends_so : ℕ → Outcome → List Ending
ends_so line o = record { line = line; outcome = o } ∷ []

-- the call of a transaction ends by its answer
abbrev pub EndsCall : {P : Type 0} → ℕ → Stand → Result (TxnAnswer P) Error → List Ending → List Ending → Type 0
EndsCall line (Calling c x commits) answer from to = to ≡ from ++ ends_so line (outcome_by commits answer)
EndsCall line _ answer from to = ⊤

-- no call ends in this part but that of the line
abbrev pub EndsOwn : ℕ → List Ending → List Ending → Type 0
EndsOwn line from to = (more : List Ending) × (to ≡ from ++ more) × EndsAlone line more

-- and whatever stands at a line ends by its answer, if it has one
abbrev pub EndsBy : {P : Type 0} → ℕ → Stand → Option (Answer P) → List Ending → List Ending → Type 0
EndsBy line stand None from to = to ≡ from
EndsBy line stand (Some (answers.Asked v)) from to = EndsOwn line from to
EndsBy line stand (Some (answers.Called v)) from to = EndsCall line stand v from to

-- The status of a transaction once its call has answered later than in its own line.
abbrev pub status_by : {P : Type 0} → Bool → Result (TxnAnswer P) Error → Status
status_by true (Ok (answer.Committed t job)) = Committed
status_by true _ = StartedCommit
status_by false (Ok answer.Unit) = Rolledback
status_by false _ = StartedRollback

-- and how far it has come
abbrev pub stage_after : {P : Type 0} → Bool → Result (TxnAnswer P) Error → Stage
stage_after true v = committed_by true (outcome_by true v)
stage_after false (Ok answer.Unit) = Stage.RolledBack
stage_after false _ = Stage.StartedRollback

-- a transaction that stands there has come so far
abbrev pub StandsAt : {P : Type 0} → Stage → Row P → Type 0
StandsAt stage (row.Begun d t m) = stage_of t ≡ stage
StandsAt stage r = ⊤

-- it has come as far as the answer of its call says
abbrev pub HasComeTo : {P : Type 0} → Stand → Result (TxnAnswer P) Error → Row P → Type 0
HasComeTo (Calling c x commits) v r = StandsAt (stage_after commits v) r
HasComeTo stand v r = ⊤

-- a transaction that answers later comes as far as its line's outcome says
abbrev pub ComesTo : {P : Type 0} → Stand → Result (TxnAnswer P) Error → Account → Account → Type 0
ComesTo (Calling c x commits) v old new = new ≡ closed_by commits (outcome_by commits v) old
ComesTo stand v old new = ⊤

abbrev pub Closes : {P : Type 0} → Told → Stand → Option (Answer P) → Row P → Account → Type 0
Closes (tells.Heard a) stand (Some (answers.Called v)) (row.Begun c t m) new = ComesTo stand v (account_of t) new
Closes told stand answer r new = ⊤

-- What waits for a line was told of something, and the call of the line may have ended.
pub record GoesTold {P : Type 0} (told : Told) (line at : ℕ) (stand : Stand) (old new : List (Row P)) (from to : List Ending) : Type 0 where
  pub answer : Option (Answer P)
  pub accounts : AccountsTold told at answer old new
  pub answers : AnswersTold told (slice_index_or old at row.Plain) answer
  pub kind : IfSome answer (IsAnswerOf (stand_of (slice_index_or old at row.Plain)))
  pub ends : EndsBy line stand answer from to
  pub closes : Closes told stand answer (slice_index_or old at row.Plain) (account_at new (suc at))

-- calls ended in this part, and with each its transaction came further
pub record ClosesIn {P : Type 0} (s : Sight) (old new : List (Row P)) (from to : List Ending) : Type 0 where
  pub more : List Ending
  pub ended : to ≡ from ++ more
  pub closed : AreClosed s more (account_at old) (account_at new)
