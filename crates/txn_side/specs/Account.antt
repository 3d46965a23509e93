-- How far a transaction has come, what it has taken in so far, and what it answers to what is asked of it.
use Rattle.std.specs.Prelude.{◌≡◌, ◌≢◌, ℕ, Bool, true, false, if◌then◌else◌, List, [], ◌∷◌, Option, Some, None, is_none, unwrap_or}
use Rattle.txn_buffer.specs.Contents.{Contents, known_at, known_value, locked, mutated, mutations, with_write, write_at}
use Rattle.txn_buffer.specs.Writes.{after_delete, after_insert, after_put}
use Rattle.txn_kv.specs.ErrorView.{ErrorView, view_of}
use Rattle.txn_kv.specs.ErrorView.ErrorView.{undetermined}
use Rattle.txn_kv.specs.declared.errors.Error.{Error}
use Rattle.txn_kv.specs.declared.errors.Error.TheVariants.{DuplicateKeyInsertion, OperationAfterCommitError, Unimplemented}
use Rattle.txn_kv.specs.declared.message.Mutation.{Mutation}
use Rattle.txn_kv.specs.declared.message.Op.{Op}
use Rattle.txn_kv.specs.declared.message.Op.TheVariants.{Put, Del}
use Rattle.txn_report.specs.declared.outcome.Outcome.{Outcome}
use Rattle.txn_report.specs.declared.outcome.Outcome.TheVariants.{Ok, Err, Unfinished}
use Rattle.txn_report.specs.declared.outcome.Payload.TheVariants.{Unit as Nothing, Commit as CommittedAt}
use Rattle.txn_side.specs.Sight.{Sight, Stand, outcomes_of, stand_at}
use Rattle.txn_side.specs.Sight.Stand.{Calling, HasBegun}
use Rattle.txn_lines.specs.declared.act.Act.{Act}
use Rattle.txn_lines.specs.declared.act.Act.TheVariants as acts
use Rattle.txn_side.specs.declared.turn.Ending.{Ending}
use Rattle.txn_side.specs.declared.turn.Turn.{Turn}

-- how far a transaction has come
pub data Status : Type 0 where
  -- it may be written
  Active : Status
  -- a commit was begun, and has no answer yet
  Committing : Status
  -- a commit was begun, and answered that nothing was committed; it may be begun again
  StartedCommit : Status
  -- a commit answered that it is not known whether it has come to its end; it may be begun again
  Undetermined : Status
  Committed : Status
  -- a rollback was begun, and may be begun again
  StartedRollback : Status
  RolledBack : Status

-- and what its buffer holds
pub record Account : Type 0 where
  pub status : Status
  pub contents : Contents

-- of an optimistic transaction that has just begun
abbrev pub new_account : Account
new_account = record { status = Active; contents = record { entries = []; primary = None; is_pessimistic = false } }

-- What it allows

abbrev pub allows_write : Status → Bool
allows_write Active = true
allows_write Committing = false
allows_write StartedCommit = false
allows_write Undetermined = false
allows_write Committed = false
allows_write StartedRollback = false
allows_write RolledBack = false

abbrev pub allows_commit : Status → Bool
allows_commit Active = true
allows_commit Committing = true
allows_commit StartedCommit = true
allows_commit Undetermined = true
allows_commit Committed = false
allows_commit StartedRollback = false
allows_commit RolledBack = false

abbrev pub allows_rollback : Status → Bool
allows_rollback Active = true
allows_rollback Committing = true
allows_rollback StartedCommit = true
allows_rollback Undetermined = true
allows_rollback Committed = false
allows_rollback StartedRollback = true
allows_rollback RolledBack = false

abbrev pub allows : Act → Status → Bool
allows (acts.Put key value) s = allows_write s
allows (acts.Insert key value) s = allows_write s
allows (acts.Delete key) s = allows_write s
allows (acts.Mutate mutations) s = allows_write s
allows (acts.Lock keys) s = allows_write s
allows acts.Commit s = allows_commit s
allows acts.Rollback s = allows_rollback s

-- a write or a lock: neither a commit nor a rollback
abbrev pub is_write : Act → Bool
is_write (acts.Put key value) = true
is_write (acts.Insert key value) = true
is_write (acts.Delete key) = true
is_write (acts.Mutate mutations) = true
is_write (acts.Lock keys) = true
is_write acts.Commit = false
is_write acts.Rollback = false

-- Refusals, the first that applies

abbrev pub refused_unless : Bool → Error → Option Error
refused_unless true e = None
refused_unless false e = Some e

abbrev pub or_refused : Option Error → Option Error → Option Error
or_refused None later = later
or_refused (Some e) later = Some e

abbrev pub is_put_or_delete : Op → Bool
is_put_or_delete Put = true
is_put_or_delete Del = true
is_put_or_delete _ = false

abbrev pub all_put_or_delete : List Mutation → Bool
all_put_or_delete [] = true
all_put_or_delete (m ∷ ms) = if is_put_or_delete m.op then all_put_or_delete ms else false

-- An insert is refused where a value of the key is known, and mutations where one is neither a put nor a delete.
abbrev pub own_refusal : Act → Contents → Option Error
own_refusal (acts.Put key value) contents = None
own_refusal (acts.Insert key value) contents = refused_unless (is_none (known_value (known_at contents key))) DuplicateKeyInsertion
own_refusal (acts.Delete key) contents = None
own_refusal (acts.Mutate mutations) contents = refused_unless (all_put_or_delete mutations) Unimplemented
own_refusal (acts.Lock keys) contents = None
own_refusal acts.Commit contents = None
own_refusal acts.Rollback contents = None

-- why it is refused: as far as it has come it allows it or not, and a write may be refused for what it is
abbrev pub refusal : Act → Account → Option Error
refusal act account = or_refused (refused_unless (allows act account.status) OperationAfterCommitError) (own_refusal act account.contents)

-- What has to be answered at once: that it is refused, and to each write.
abbrev pub AnswersAtOnce : Act → Option Error → List Outcome → Type 0
AnswersAtOnce act None outs = is_write act ≡ true → outs ≡ Ok Nothing ∷ []
AnswersAtOnce act (Some e) outs = outs ≡ Err e ∷ []

-- What is taken in

abbrev pub mutated_all : Contents → List Mutation → Contents
mutated_all contents [] = contents
mutated_all contents (m ∷ ms) = mutated_all (unwrap_or (mutated contents m) contents) ms

abbrev pub locked_all : Contents → List (List ℕ) → Contents
locked_all contents [] = contents
locked_all contents (key ∷ keys) = locked_all (locked contents key) keys

-- what a buffer holds after a write that is not refused
abbrev pub written : Act → Contents → Contents
written (acts.Put key value) contents = with_write contents key (after_put (write_at contents key) value)
written (acts.Insert key value) contents = with_write contents key (after_insert (write_at contents key) value)
written (acts.Delete key) contents = with_write contents key (after_delete contents.is_pessimistic (write_at contents key))
written (acts.Mutate mutations) contents = mutated_all contents mutations
written (acts.Lock keys) contents = locked_all contents keys
written acts.Commit contents = contents
written acts.Rollback contents = contents

-- What a commit and a rollback come to

abbrev pub is_not_empty : List Mutation → Bool
is_not_empty [] = false
is_not_empty (m ∷ ms) = true

-- a commit of it has something to prewrite
abbrev pub has_mutations : Contents → Bool
has_mutations contents = is_not_empty (mutations contents.entries)

-- a commit that did not answer in its own line has prewritten
abbrev pub has_prewritten : Bool → Contents → Bool
has_prewritten true contents = has_mutations contents
has_prewritten false contents = true

abbrev pub is_undetermined_view : ErrorView → Bool
is_undetermined_view (undetermined inner) = true
is_undetermined_view _ = false

abbrev pub is_undetermined : Error → Bool
is_undetermined error = is_undetermined_view (view_of error)

-- It is committed at a timestamp, or all was prewritten and nothing is locked. Where there was nothing to do it may be committed again,
-- and so it may after an error, which says whether it is known that nothing was committed, and while there is no answer yet.
abbrev pub committed_by : Bool → Outcome → Status
committed_by wrote (Ok (CommittedAt (Some version))) = Committed
committed_by wrote (Ok (CommittedAt None)) = if wrote then Committed else StartedCommit
committed_by wrote (Ok _) = StartedCommit
committed_by wrote (Err e) = if is_undetermined e then Undetermined else StartedCommit
committed_by wrote _ = Committing

-- it was refused, since it is not known whether a commit has come to its end
abbrev pub is_refused : Bool → Error → Bool
is_refused true e = is_undetermined e
is_refused false e = false

-- A rollback that is refused in its own line leaves the status.
abbrev pub rolled_by : Bool → Status → Outcome → Status
rolled_by at_once s (Ok Nothing) = RolledBack
rolled_by at_once s (Err e) = if is_refused at_once e then s else StartedRollback
rolled_by at_once s _ = StartedRollback

-- What is made of it by a call that came to this, in its own line or later.
abbrev pub made_by : Act → Bool → Outcome → Account → Account
made_by (acts.Put key value) at_once o account = record account { contents = written (acts.Put key value) account.contents }
made_by (acts.Insert key value) at_once o account = record account { contents = written (acts.Insert key value) account.contents }
made_by (acts.Delete key) at_once o account = record account { contents = written (acts.Delete key) account.contents }
made_by (acts.Mutate mutations) at_once o account = record account { contents = written (acts.Mutate mutations) account.contents }
made_by (acts.Lock keys) at_once o account = record account { contents = written (acts.Lock keys) account.contents }
made_by acts.Commit at_once o account = record account { status = committed_by (has_prewritten at_once account.contents) o }
made_by acts.Rollback at_once o account = record account { status = rolled_by at_once account.status o }

abbrev pub unless_refused : Option Error → Account → Account → Account
unless_refused None old new = new
unless_refused (Some e) old new = old

-- what is refused changes nothing
abbrev pub after_act : Act → Bool → Outcome → Account → Account
after_act act at_once o account = unless_refused (refusal act account) account (made_by act at_once o account)

-- What becomes of the accounts of the lines

-- no transaction has taken in anything
abbrev pub AreNew : (ℕ → Account) → Type 0
AreNew accounts = (n : ℕ) → accounts n ≡ new_account

-- each stays, and a transaction that begins has taken in nothing
abbrev pub AreKept : (ℕ → Account) → (ℕ → Account) → Type 0
AreKept old new = (n : ℕ) → new n ≡ old n

-- what a call came to so far
abbrev pub come_to : List Outcome → Outcome
come_to [] = Unfinished
come_to (o ∷ os) = o

-- The newest line asks something of the transaction of line x.
pub record TakesIn (act : Act) (x newest : ℕ) (old new : ℕ → Account) (ended : List Ending) : Type 0 where
  pub own : new x ≡ after_act act true (come_to (outcomes_of newest ended)) (old x)
  pub others : (n : ℕ) → n ≢ x → new n ≡ old n
  pub answer : AnswersAtOnce act (refusal act (old x)) (outcomes_of newest ended)

abbrev pub MayTakeIn : Act → ℕ → ℕ → (ℕ → Account) → (ℕ → Account) → Option Turn → Type 0
MayTakeIn act x newest old new None = AreKept old new
MayTakeIn act x newest old new (Some turn) = TakesIn act x newest old new turn.ended.items

-- the line of the call that a transaction waits for, or 0
abbrev pub awaited_line : Stand → ℕ
awaited_line (HasBegun c m) = m
awaited_line _ = 0

-- a call that commits, or rolls back, ends later than in its own line
abbrev pub closed_by : Bool → Outcome → Account → Account
closed_by true o account = made_by acts.Commit false o account
closed_by false o account = made_by acts.Rollback false o account

abbrev pub closed : Stand → List Outcome → Account → Account
closed (Calling c x commits) (o ∷ os) account = closed_by commits o account
closed stand outs account = account

-- what these endings make of the transaction of line x
abbrev pub after_endings : Sight → List Ending → ℕ → Account → Account
after_endings s ended x account = let m = awaited_line (stand_at s.stands x) in closed (stand_at s.stands m) (outcomes_of m ended) account

-- calls end, and with each its transaction comes further
abbrev pub AreClosed : Sight → List Ending → (ℕ → Account) → (ℕ → Account) → Type 0
AreClosed s ended old new = (x : ℕ) → new x ≡ after_endings s ended x (old x)
