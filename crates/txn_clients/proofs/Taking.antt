-- What a transaction makes of what it is told.
use Rattle.std.proofs.Common.{◌≡◌, ◌≢◌, ◌⊎◌, inl, inr, ℕ, Bool, true, false, if◌then◌else◌, List, [], ◌∷◌, Option, Some, None, is_some, refl, sym, ap, ◌∙◌, subst}
use Rattle.std.specs.Prelude.{Result, Ok, Err, option_map, unwrap_or}
use Rattle.txn_kv.specs.declared.errors.Error.{Error}
use Rattle.txn_kv.specs.ErrorView.{ErrorView, view_of}
use Rattle.txn_kv.specs.ErrorView.ErrorView.{undetermined as not_known}
use Rattle.txn_kv.specs.declared.errors.Error.TheVariants.{GrpcAPI, OperationAfterCommitError}
use Rattle.txn_kv.specs.declared.message.Mutation.{Mutation}
use Rattle.txn_kv.specs.declared.message.Op.{Op}
use Rattle.txn_kv.specs.declared.message.Op.TheVariants as op
use Rattle.txn_kv.specs.declared.ticket.Ticket.{Ticket}
use Rattle.txn_kv.specs.declared.timestamp.Timestamp.{Timestamp}
use Rattle.txn_history.specs.Event.Event.{Answered}
use Rattle.txn_history.specs.Turn.{IfEnds, IfKept, IfKept-all, IfKept-stopped, Turn}
use Rattle.txn_history.specs.Turn.Turn.{Stopped, Waits, Ends}
use Rattle.txn_buffer.specs.Contents.{Contents, mutated, mutations}
use Rattle.txn_commit.specs.Parts.{named_primary, parts_of, parts_under}
use Rattle.txn_commit.specs.Following.{none_sent, undetermined}
use Rattle.txn_kv.specs.declared.arrival.Arrival.{Arrival}
use Rattle.txn_core.specs.Options.{is_pessimistic}
use Rattle.txn_core.specs.Status.{after_commit, allows_commit, allows_data, allows_rollback, may_move, status_step}
use Rattle.txn_core.specs.Going.{IsUndetermined}
use Rattle.txn_core.specs.Status.Became.{commits}
use Rattle.txn_core.specs.Transaction.{GivesUp, IsRefused, Standing, WriteEnds, begun, commit_outcome, is_open, is_waiting, moved_by, rolled_status}
use Rattle.txn_core.specs.Transaction as core
use Rattle.txn_core.specs.declared.status.Status.{Status}
use Rattle.txn_core.specs.declared.status.Status.TheVariants as statuses
use Rattle.txn_core.specs.declared.transaction.Work.{Work}
use Rattle.txn_core.specs.declared.transaction.Work.TheVariants.{Idle, Open, GaveUp}
use Rattle.txn_core.specs.declared.txn_answer.TxnAnswer.{TxnAnswer}
use Rattle.txn_core.specs.declared.txn_answer.TxnAnswer.TheVariants as answer
use Rattle.txn_client.specs.Calls.{CallGives, IsMadeOf, made}
use Rattle.txn_client.specs.declared.client_answer.ClientAnswer.{ClientAnswer}
use Rattle.txn_client.specs.declared.client_answer.ClientAnswer.TheVariants.{Begun, Time}
use Rattle.txn_client.specs.declared.client_call.ClientCall.{ClientCall}
use Rattle.txn_client.specs.declared.client_call.Wanted.{Wanted}
use Rattle.txn_client.specs.declared.client_call.Wanted.TheVariants as wanted
use Rattle.txn_side.specs.Account.{Account, Status as Stage, after_act, all_put_or_delete, committed_by, has_mutations, is_put_or_delete, is_undetermined, is_undetermined_view, is_write, locked_all, made_by, mutated_all, or_refused, refusal, refused_unless, rolled_by, unless_refused, written}
use Rattle.txn_side.specs.Account as side
use Rattle.txn_report.specs.declared.outcome.Outcome.{Outcome}
use Rattle.txn_side.specs.Sight as sights
use Rattle.txn_lines.specs.declared.act.Act.{Act}
use Rattle.txn_lines.specs.declared.act.Act.TheVariants as acts
use Rattle.txn_core.specs.declared.options.TransactionOptions.{TransactionOptions}
use Rattle.txn_core.specs.declared.options.TransactionKind.TheVariants.{Optimistic}
use Rattle.txn_clients.specs.Accounts.{BeginsNew, EndsAtOnce, HasHeard, HasTaken, IsNew, IsQuiet, TellsEnd, WantsNew, account_of, come_to, says_undetermined, stage_by, stage_of}
use Rattle.txn_clients.specs.Failing.{BeginsIn}
use Rattle.txn_clients.specs.Waiting.{WantedIn}
use Rattle.txn_clients.specs.Rows.{Pd}
use Rattle.txn_clients.specs.Options.{AreOptionsOf}
use Rattle.txn_lines.specs.declared.begin_options.BeginOptions.{BeginOptions}
use Rattle.txn_side.specs.Trace.{Trace}

-- which of the two a flag is
pub is_flag : (b : Bool) → (b ≡ true) ⊎ (b ≡ false)
is_flag true = inl refl
is_flag false = inr refl

pub no_flag : (b : Bool) → b ≡ true → b ≡ false → ⊥
no_flag b p q = cc

-- an error whose view says so
pub undetermined_is : (e : Error) (v : ErrorView) → view_of e ≡ not_known v → is_undetermined e ≡ true
undetermined_is e v h = ap is_undetermined_view h

-- What is refused.

-- What it allows is told by its status alone.
same_write : (s : Status) (busy doubtful : Bool) → allows_data s ≡ side.allows_write (stage_by s busy doubtful)
same_write statuses.ReadOnly busy doubtful = refl
same_write statuses.Active busy doubtful = refl
same_write statuses.Committed busy doubtful = refl
same_write statuses.StartedCommit true doubtful = refl
same_write statuses.StartedCommit false true = refl
same_write statuses.StartedCommit false false = refl
same_write statuses.Rolledback busy doubtful = refl
same_write statuses.StartedRollback busy doubtful = refl
same_write statuses.Dropped busy doubtful = refl

same_unless : (b d : Bool) (e : Error) → b ≡ d → core.refused_unless b e ≡ refused_unless d e
same_unless true d e h = ap (λ x. refused_unless x e) h
same_unless false d e h = ap (λ x. refused_unless x e) h

same_or : (o : Option Error) (b : Bool) (f : Error) → core.or_refused o (core.refused_unless b f) ≡ or_refused o (refused_unless b f)
same_or None true f = refl
same_or None false f = refl
same_or (Some e) b f = refl

or_none : (o : Option Error) → or_refused o None ≡ o
or_none None = refl
or_none (Some e) = refl

pub write_refused : {P : Type 0} (t : Standing P) (e : Error) → core.refused_unless (allows_data t.status) e ≡ or_refused (refused_unless (side.allows_write (stage_of t)) e) None
write_refused t e = same_unless (allows_data t.status) (side.allows_write (stage_of t)) e (same_write t.status (is_open t.work) (is_some (undetermined t.commits))) ∙ sym (or_none (refused_unless (side.allows_write (stage_of t)) e))

pub insert_refused : {P : Type 0} (t : Standing P) (d : Bool) (e f : Error) → core.or_refused (core.refused_unless (allows_data t.status) e) (core.refused_unless d f) ≡ or_refused (refused_unless (side.allows_write (stage_of t)) e) (refused_unless d f)
insert_refused t d e f = same_or (core.refused_unless (allows_data t.status) e) d f ∙ ap (λ o. or_refused o (refused_unless d f)) (same_unless (allows_data t.status) (side.allows_write (stage_of t)) e (same_write t.status (is_open t.work) (is_some (undetermined t.commits))))

-- one that was not begun to read alone allows what a machine sees it allow
quiet_commit : (s : Status) (busy doubtful : Bool) → (allows_data s ≡ true → s ≡ statuses.Active) → allows_commit s ≡ side.allows_commit (stage_by s busy doubtful)
quiet_commit statuses.ReadOnly busy doubtful h = absurd (let e = h refl in no e)
  where
    no : statuses.ReadOnly ≡ statuses.Active → ⊥
    no q = cc
quiet_commit statuses.Active busy doubtful h = refl
quiet_commit statuses.Committed busy doubtful h = refl
quiet_commit statuses.StartedCommit true doubtful h = refl
quiet_commit statuses.StartedCommit false true h = refl
quiet_commit statuses.StartedCommit false false h = refl
quiet_commit statuses.Rolledback busy doubtful h = refl
quiet_commit statuses.StartedRollback busy doubtful h = refl
quiet_commit statuses.Dropped busy doubtful h = refl

quiet_rollback : (s : Status) (busy doubtful : Bool) → (allows_data s ≡ true → s ≡ statuses.Active) → allows_rollback s ≡ side.allows_rollback (stage_by s busy doubtful)
quiet_rollback statuses.ReadOnly busy doubtful h = absurd (let e = h refl in no e)
  where
    no : statuses.ReadOnly ≡ statuses.Active → ⊥
    no q = cc
quiet_rollback statuses.Active busy doubtful h = refl
quiet_rollback statuses.Committed busy doubtful h = refl
quiet_rollback statuses.StartedCommit true doubtful h = refl
quiet_rollback statuses.StartedCommit false true h = refl
quiet_rollback statuses.StartedCommit false false h = refl
quiet_rollback statuses.Rolledback busy doubtful h = refl
quiet_rollback statuses.StartedRollback busy doubtful h = refl
quiet_rollback statuses.Dropped busy doubtful h = refl

unless_true : (b : Bool) (e : Error) → b ≡ true → or_refused (refused_unless b e) None ≡ None
unless_true b e h = ap (λ x. or_refused (refused_unless x e) None) h

unless_false : (b : Bool) (e : Error) → b ≡ false → or_refused (refused_unless b e) None ≡ Some e
unless_false b e h = ap (λ x. or_refused (refused_unless x e) None) h

same_op : (o : Op) → core.is_put_or_delete o ≡ is_put_or_delete o
same_op op.Put = refl
same_op op.Del = refl
same_op op.Lock = refl
same_op op.Rollback = refl
same_op op.Insert = refl
same_op op.PessimisticLock = refl
same_op op.CheckNotExists = refl

same_all : (ms : List Mutation) → core.all_put_or_delete ms ≡ all_put_or_delete ms
same_all [] = refl
same_all (m ∷ ms) = let rest = same_all ms in λ i. if same_op m.op i then rest i else false

pub mutate_refused : {P : Type 0} (t : Standing P) (ms : List Mutation) (e f : Error) → core.or_refused (core.refused_unless (allows_data t.status) e) (core.refused_unless (core.all_put_or_delete ms) f) ≡ or_refused (refused_unless (side.allows_write (stage_of t)) e) (refused_unless (all_put_or_delete ms) f)
mutate_refused t ms e f = ap (λ d. core.or_refused (core.refused_unless (allows_data t.status) e) (core.refused_unless d f)) (same_all ms) ∙ insert_refused t (all_put_or_delete ms) e f

-- What is written.

pub all_mutated : (ms : List Mutation) (c d : Contents) → core.mutated_all c ms ≡ Some d → d ≡ mutated_all c ms
all_mutated [] c d e = sym (same e)
  where
    same : ◌≡◌ {A = Option Contents} (Some c) (Some d) → c ≡ d
    same q = cc
all_mutated (m ∷ ms) c d e = by (mutated c m) (λ x. all_mutated ms x d) e
  where
    by : (o : Option Contents) → ((x : Contents) → core.mutated_all x ms ≡ Some d → d ≡ mutated_all x ms) → core.and_mutated o (λ next. core.mutated_all next ms) ≡ Some d → d ≡ mutated_all (unwrap_or o c) ms
    by None more q = absurd (cc)
    by (Some x) more q = more x q

pub all_locked : (keys : List (List ℕ)) (c : Contents) → core.locked_all c keys ≡ locked_all c keys
all_locked [] c = refl
all_locked (key ∷ keys) c = all_locked keys _

refused_is : (act : Act) (at_once : Bool) (o : Outcome) (account : Account) (e : Error) → Some e ≡ refusal act account → after_act act at_once o account ≡ account
refused_is act at_once o account e is = λ i. unless_refused (sym is i) account (made_by act at_once o account)

taken_is : (act : Act) (at_once : Bool) (o : Outcome) (account : Account) → None ≡ refusal act account → after_act act at_once o account ≡ made_by act at_once o account
taken_is act at_once o account is = λ i. unless_refused (sym is i) account (made_by act at_once o account)

made_write : (act : Act) (at_once : Bool) (o : Outcome) (account : Account) → is_write act ≡ true → made_by act at_once o account ≡ record account { contents = written act account.contents }
made_write (acts.Put k v) at_once o account w = refl
made_write (acts.Insert k v) at_once o account w = refl
made_write (acts.Delete k) at_once o account w = refl
made_write (acts.Mutate ms) at_once o account w = refl
made_write (acts.Lock ks) at_once o account w = refl
made_write acts.Commit at_once o account w = absurd (cc)
made_write acts.Rollback at_once o account w = absurd (cc)

written_is : (act : Act) (at_once : Bool) (o : Outcome) (account : Account) → is_write act ≡ true → None ≡ refusal act account → after_act act at_once o account ≡ record account { contents = written act account.contents }
written_is act at_once o account w is = taken_is act at_once o account is ∙ made_write act at_once o account w

-- What calls come to.

failed_so : (doubtful : Bool) → stage_by statuses.StartedCommit false doubtful ≡ (if doubtful then Stage.Undetermined else Stage.StartedCommit)
failed_so true = refl
failed_so false = refl

-- while a call is open, what is known of its Commits counts for nothing
open_stage : (s : Status) (d e : Bool) → stage_by s true d ≡ stage_by s true e
open_stage statuses.ReadOnly d e = refl
open_stage statuses.Active d e = refl
open_stage statuses.Committed d e = refl
open_stage statuses.StartedCommit d e = refl
open_stage statuses.Rolledback d e = refl
open_stage statuses.StartedRollback d e = refl
open_stage statuses.Dropped d e = refl

has_parts : (c : Contents) → is_some (parts_of c) ≡ has_mutations c
has_parts c = by (mutations c.entries)
  where
    by : (ms : List Mutation) → is_some (option_map (parts_under c) (named_primary c ms)) ≡ side.is_not_empty ms
    by [] = refl
    by (m ∷ ms) = refl

-- How the status moves.

either_off : (b : Bool) (s next : Status) → allows_data s ≡ false → allows_data next ≡ false → allows_data (if b then next else s) ≡ false
either_off true s next a c = c
either_off false s next a c = a

pub moved_off : {P : Type 0} (s : Status) (turn : Turn (Result (TxnAnswer P) Error)) → allows_data s ≡ false → allows_data (moved_by s turn) ≡ false
moved_off s Stopped h = h
moved_off s Waits h = h
moved_off s (Ends (Err e)) h = h
moved_off s (Ends (Ok (answer.Committed t job))) h = either_off (may_move s statuses.Committed) s statuses.Committed h refl
moved_off s (Ends (Ok answer.Unit)) h = either_off (may_move s statuses.Rolledback) s statuses.Rolledback h refl
moved_off s (Ends (Ok (answer.Value v))) h = h
moved_off s (Ends (Ok (answer.Exists b))) h = h
moved_off s (Ends (Ok (answer.Pairs ps))) h = h
moved_off s (Ends (Ok (answer.Keys ks))) h = h
moved_off s (Ends (Ok (answer.Ttl n))) h = h

pub commit_off : (o : Option (Result (Option Timestamp) Error)) (b : Bool) → allows_data (after_commit o b) ≡ false
commit_off None b = refl
commit_off (Some (Err e)) b = refl
commit_off (Some (Ok (Some t))) b = refl
commit_off (Some (Ok None)) true = refl
commit_off (Some (Ok None)) false = refl

some_ask : Ticket
some_ask = record { line = 0; beat = false; number = 0 }

kept_alive : {T : Type 0} (A : Type 0) (turn : Turn T) → IfKept turn (turn ≢ Stopped → A) → IfKept turn A
kept_alive A Stopped h = tt
kept_alive A Waits h = h (λ e. cc)
kept_alive A (Ends v) h = h (λ e. cc)

kept_then : {T A B : Type 0} (turn : Turn T) → (A → B) → IfKept turn A → IfKept turn B
kept_then Stopped f h = tt
kept_then Waits f h = f h
kept_then (Ends v) f h = f h

module _ {P : Type 0} where
  -- What calls come to: as far as its status, its work and what is known of its Commits say.

  stage_so : (t : Standing P) (s : Status) → t.status ≡ s → stage_of t ≡ stage_by s (is_open t.work) (is_some (undetermined t.commits))
  stage_so t s e = ap (λ (x : Status). stage_by x (is_open t.work) (is_some (undetermined t.commits))) e

  -- one whose commit may be begun again
  stage_started : (t : Standing P) (busy doubtful : Bool) → t.status ≡ statuses.StartedCommit → is_open t.work ≡ busy → is_some (undetermined t.commits) ≡ doubtful → stage_of t ≡ stage_by statuses.StartedCommit busy doubtful
  stage_started t busy doubtful e f g = λ i. stage_by (e i) (f i) (g i)

  commits_so : (t : Standing P) (turn : Turn (Result (TxnAnswer P) Error)) (has : Bool) → turn ≢ Stopped → t.status ≡ after_commit (commit_outcome turn) has → is_open t.work ≡ is_waiting turn
      → IfEnds turn (λ v. TellsEnd v t) → stage_of t ≡ committed_by has (come_to true turn)
  commits_so t Stopped has alive e busy tells = absurd (alive refl)
  commits_so t Waits has alive e busy tells = stage_started t true (is_some (undetermined t.commits)) e busy refl
  commits_so t (Ends (Err why)) has alive e busy tells = stage_started t false (is_undetermined why) e busy (sym (tells.known e)) ∙ failed_so (is_undetermined why)
  commits_so t (Ends (Ok (answer.Committed (Some time) job))) has alive e busy tells = stage_so t statuses.Committed e
  commits_so t (Ends (Ok (answer.Committed None job))) true alive e busy tells = stage_so t statuses.Committed e
  commits_so t (Ends (Ok (answer.Committed None job))) false alive e busy tells = stage_started t false false e busy (sym (tells.known e))
  commits_so t (Ends (Ok answer.Unit)) has alive e busy tells = absurd tells.kind
  commits_so t (Ends (Ok (answer.Value v))) has alive e busy tells = absurd tells.kind
  commits_so t (Ends (Ok (answer.Exists b))) has alive e busy tells = absurd tells.kind
  commits_so t (Ends (Ok (answer.Pairs ps))) has alive e busy tells = absurd tells.kind
  commits_so t (Ends (Ok (answer.Keys ks))) has alive e busy tells = absurd tells.kind
  commits_so t (Ends (Ok (answer.Ttl n))) has alive e busy tells = absurd tells.kind

  -- a rollback that is begun leaves the status only where it was begun before
  rolls_so : (old new : Standing P) (turn : Turn (Result (TxnAnswer P) Error)) → new.status ≡ moved_by statuses.StartedRollback turn → (says_undetermined turn ≡ true → new.status ≡ old.status) → stage_of new ≡ rolled_by true (stage_of old) (come_to false turn)
  rolls_so old new Stopped e h = stage_so new statuses.StartedRollback e
  rolls_so old new Waits e h = stage_so new statuses.StartedRollback e
  rolls_so old new (Ends (Ok answer.Unit)) e h = stage_so new statuses.Rolledback e
  rolls_so old new (Ends (Ok (answer.Committed t job))) e h = stage_so new statuses.StartedRollback e
  rolls_so old new (Ends (Ok (answer.Value v))) e h = stage_so new statuses.StartedRollback e
  rolls_so old new (Ends (Ok (answer.Exists b))) e h = stage_so new statuses.StartedRollback e
  rolls_so old new (Ends (Ok (answer.Pairs ps))) e h = stage_so new statuses.StartedRollback e
  rolls_so old new (Ends (Ok (answer.Keys ks))) e h = stage_so new statuses.StartedRollback e
  rolls_so old new (Ends (Ok (answer.Ttl n))) e h = stage_so new statuses.StartedRollback e
  rolls_so old new (Ends (Err why)) e h = elim (is_flag (is_undetermined why)) [
    | inl on ↦ stage_so new statuses.StartedRollback e ∙ sym (stage_so old statuses.StartedRollback (sym (h on) ∙ e)) ∙ sym (ap (λ (b : Bool). if b then stage_of old else Stage.StartedRollback) on)
    | inr off ↦ stage_so new statuses.StartedRollback e ∙ sym (ap (λ (b : Bool). if b then stage_of old else Stage.StartedRollback) off)
  ]

  -- only its work changes, which rests before and after
  rests_same : (old new : Standing P) → new ≡ record old { work = new.work } → is_open old.work ≡ false → is_open new.work ≡ false → stage_of new ≡ stage_of old
  rests_same old new e idle rests =
      let status = ap (λ (t : Standing P). t.status) e in
      let doubtful = ap (λ (t : Standing P). is_some (undetermined t.commits)) e in
      λ i. stage_by (status i) ((rests ∙ sym idle) i) (doubtful i)

  -- one that is refused since it is not known stays as it is
  known_so : (old new : Standing P) (t : Ticket) (turn : Turn (Result (TxnAnswer P) Error)) → new ≡ record old { work = new.work } → is_open old.work ≡ false → is_open new.work ≡ is_waiting turn → IsUndetermined t turn
      → IfKept turn (stage_of new ≡ rolled_by true (stage_of old) (come_to false turn))
  known_so old new t Stopped e idle busy u = tt
  known_so old new t Waits e idle busy u = absurd u
  known_so old new t (Ends (Ok v)) e idle busy u = absurd u
  known_so old new t (Ends (Err why)) e idle busy u = rests_same old new e idle busy ∙ sym (ap (λ (b : Bool). if b then stage_of old else Stage.StartedRollback) (undetermined_is why (view_of (GrpcAPI t)) u))

  stage_open : (t : Standing P) → is_open t.work ≡ true → stage_of t ≡ stage_by t.status true (is_some (undetermined t.commits))
  stage_open t e = ap (λ (b : Bool). stage_by t.status b (is_some (undetermined t.commits))) e

  open_same : (old new : Standing P) → new.status ≡ old.status → is_open old.work ≡ true → is_open new.work ≡ true → stage_of new ≡ stage_of old
  open_same old new status was is = stage_open new is ∙ ap (λ (s : Status). stage_by s true (is_some (undetermined new.commits))) status
      ∙ open_stage old.status (is_some (undetermined new.commits)) (is_some (undetermined old.commits)) ∙ sym (stage_open old was)

  -- Writes.

  pub taken_write : (act : Act) (refused : Option Error) (wrote : Contents → Contents → Type 0) (old new : Standing P) (turn : Turn (Result (TxnAnswer P) Error)) → is_write act ≡ true → refused ≡ refusal act (account_of old)
      → ((c d : Contents) → wrote c d → d ≡ written act c) → IsQuiet old → WriteEnds refused wrote old new turn → IfKept turn (HasTaken act old new turn)
  taken_write act refused wrote old new Stopped w is does quiet h = tt
  taken_write act refused wrote old new Waits w is does quiet h = absurd h
  taken_write act None wrote old new (Ends v) w is does quiet h = record {
    account = ap (λ (t : Standing P). account_of t) h.1 ∙ ap (λ (c : Contents). record { status = stage_of old; contents = c }) (does old.contents new.contents h.2) ∙ sym (written_is act true (come_to (sights.commits act) (Ends v)) (account_of old) w is);
    quiet = subst (λ (t : Standing P). IsQuiet t) (sym h.1) (λ s. let a = quiet s in record { status = a.status; commits = a.commits; rests = a.rests });
    answer = subst (λ (r : Option Error). EndsAtOnce {P = P} act r (Ends v)) is (λ u. ap (λ (r : Result (TxnAnswer P) Error). Ends r) h.0);
  }
  taken_write act (Some e) wrote old new (Ends v) w is does quiet h = record {
    account = ap (λ (t : Standing P). account_of t) h.1 ∙ sym (refused_is act true (come_to (sights.commits act) (Ends v)) (account_of old) e is);
    quiet = subst (λ (t : Standing P). IsQuiet t) (sym h.1) quiet;
    answer = subst (λ (r : Option Error). EndsAtOnce {P = P} act r (Ends v)) is (ap (λ (r : Result (TxnAnswer P) Error). Ends r) h.0);
  }

  -- what was asked is this
  pub as_act : (old new : Standing P) (turn : Turn (Result (TxnAnswer P) Error)) (is act : Act) → act ≡ is → IfKept turn (HasTaken is old new turn) → IfKept turn (HasTaken act old new turn)
  as_act old new turn is act e h = subst (λ a. IfKept turn (HasTaken a old new turn)) (sym e) h

  -- Commits and rollbacks.

  -- one that may be written has not begun any before
  stands_active : (t : Standing P) → IsQuiet t → allows_data t.status ≡ true → t.status ≡ statuses.Active
  stands_active t quiet on = let a = quiet on in a.status

  -- it is refused, and nothing changes
  refused_taken : (act : Act) (old new : Standing P) (turn : Turn (Result (TxnAnswer P) Error)) → Some OperationAfterCommitError ≡ refusal act (account_of old) → IsQuiet old → IsRefused OperationAfterCommitError old new turn → IfKept turn (HasTaken act old new turn)
  refused_taken act old new Stopped is quiet h = tt
  refused_taken act old new Waits is quiet h = absurd h
  refused_taken act old new (Ends v) is quiet h = record {
    account = ap (λ (t : Standing P). account_of t) h.1 ∙ sym (refused_is act true (come_to (sights.commits act) (Ends v)) (account_of old) OperationAfterCommitError is);
    quiet = subst (λ (t : Standing P). IsQuiet t) (sym h.1) quiet;
    answer = subst (λ (r : Option Error). EndsAtOnce {P = P} act r (Ends v)) is (ap (λ (r : Result (TxnAnswer P) Error). Ends r) h.0);
  }

  -- it is begun, and comes as far as this
  begun_taken : (act : Act) (old new : Standing P) (turn : Turn (Result (TxnAnswer P) Error)) → is_write act ≡ false → None ≡ refusal act (account_of old)
      → account_of new ≡ made_by act true (come_to (sights.commits act) turn) (account_of old) → allows_data new.status ≡ false → HasTaken act old new turn
  begun_taken act old new turn w is made off = record {
    account = made ∙ sym (taken_is act true (come_to (sights.commits act) turn) (account_of old) is);
    quiet = λ s. absurd (no_flag (allows_data new.status) s off);
    answer = subst (λ (r : Option Error). EndsAtOnce {P = P} act r turn) is (λ u. absurd (no_flag (is_write act) u w));
  }

  -- a call that is begun where none is open
  pub begins : {A : Type 0} (old new : Standing P) (turn : Turn (Result (TxnAnswer P) Error)) → is_open old.work ≡ false → GivesUp old new turn → (old.work ≡ Idle → A) → IfKept turn A
  begins {A} old new turn idle gives off = by old.work refl
    where
      by : (work : Work P) → old.work ≡ work → IfKept turn A
      by Idle e = IfKept-all turn (off e)
      by (Open call) e = absurd (no_flag (is_open old.work) (ap (λ (w : Work P). is_open w) e) idle)
      by GaveUp e = IfKept-stopped turn A (gives.after e).0

  account_with : (old new : Standing P) → new.contents ≡ old.contents → (s : Stage) → stage_of new ≡ s → account_of new ≡ record (account_of old) { status = s }
  account_with old new same s e = λ i. record { status = e i; contents = same i }

  -- what is allowed of one that was not begun to read alone
  may_commit : (t : Standing P) → IsQuiet t → allows_commit t.status ≡ side.allows_commit (stage_of t)
  may_commit t quiet = quiet_commit t.status (is_open t.work) (is_some (undetermined t.commits)) (stands_active t quiet)

  may_rollback : (t : Standing P) → IsQuiet t → allows_rollback t.status ≡ side.allows_rollback (stage_of t)
  may_rollback t quiet = quiet_rollback t.status (is_open t.work) (is_some (undetermined t.commits)) (stands_active t quiet)

  -- with what a commit and a rollback are refused
  pub commit_barred : (old : Standing P) → IsQuiet old → allows_commit old.status ≡ false → refusal acts.Commit (account_of old) ≡ Some OperationAfterCommitError
  commit_barred old quiet bars = unless_false (side.allows_commit (stage_of old)) OperationAfterCommitError (sym (may_commit old quiet) ∙ bars)

  pub rollback_barred : (old : Standing P) → IsQuiet old → allows_rollback old.status ≡ false → refusal acts.Rollback (account_of old) ≡ Some OperationAfterCommitError
  rollback_barred old quiet bars = unless_false (side.allows_rollback (stage_of old)) OperationAfterCommitError (sym (may_rollback old quiet) ∙ bars)

  pub taken_commit : {R : Type 0} (old new : Standing P) (turn : Turn (Result (TxnAnswer P) Error)) → is_open old.work ≡ false → IsQuiet old
      → (allows_commit old.status ≡ false → IsRefused OperationAfterCommitError old new turn × R)
      → (old.work ≡ Idle → new.status ≡ status_step old.status (commits (commit_outcome turn) (is_some (parts_of old.contents))))
      → new ≡ record old { status = new.status; commits = new.commits; work = new.work; width = new.width } → GivesUp old new turn → is_open new.work ≡ is_waiting turn → IfEnds turn (λ v. TellsEnd v new)
      → IfKept turn (HasTaken acts.Commit old new turn)
  taken_commit old new turn idle quiet refused status kept gives busy tells = elim (is_flag (allows_commit old.status)) [
    | inl may ↦ kept_alive (HasTaken acts.Commit old new turn) turn (begins old new turn idle gives (λ e alive.
        let has = is_some (parts_of old.contents) in
        let is : new.status ≡ after_commit (commit_outcome turn) has = status e ∙ ap (λ (b : Bool). if b then after_commit (commit_outcome turn) has else old.status) may in
        begun_taken acts.Commit old new turn refl (sym (unless_true (side.allows_commit (stage_of old)) OperationAfterCommitError (sym (may_commit old quiet) ∙ may)))
        (account_with old new (ap (λ (t : Standing P). t.contents) kept) (committed_by (has_mutations old.contents) (come_to true turn)) (commits_so new turn has alive is busy tells ∙ ap (λ b. committed_by b (come_to true turn)) (has_parts old.contents)))
        (ap allows_data is ∙ commit_off (commit_outcome turn) has)))
    | inr bars ↦ refused_taken acts.Commit old new turn (sym (commit_barred old quiet bars)) quiet (refused bars).0
  ]

  pub taken_rollback : {R S : Type 0} (old new : Standing P) (turn : Turn (Result (TxnAnswer P) Error)) → is_open old.work ≡ false → IsQuiet old
      → (allows_rollback old.status ≡ false → IsRefused OperationAfterCommitError old new turn × R)
      → ((t : Ticket) → allows_rollback old.status ≡ true → undetermined old.commits ≡ Some t → IsUndetermined t turn × (new ≡ record old { work = new.work }) × S)
      → (old.work ≡ Idle → new.status ≡ rolled_status old.status (is_some (undetermined old.commits)) turn)
      → new ≡ record old { status = new.status; commits = new.commits; work = new.work; width = new.width } → GivesUp old new turn → is_open new.work ≡ is_waiting turn → (says_undetermined turn ≡ true → new.status ≡ old.status)
      → IfKept turn (HasTaken acts.Rollback old new turn)
  taken_rollback {R} {S} old new turn idle quiet refused unknown status kept gives busy known = elim (is_flag (allows_rollback old.status)) [
    | inl may ↦ by may (undetermined old.commits) refl
    | inr bars ↦ refused_taken acts.Rollback old new turn (sym (rollback_barred old quiet bars)) quiet (refused bars).0
  ]
    where
      allowed : allows_rollback old.status ≡ true → None ≡ refusal acts.Rollback (account_of old)
      allowed may = sym (unless_true (side.allows_rollback (stage_of old)) OperationAfterCommitError (sym (may_rollback old quiet) ∙ may))

      made : stage_of new ≡ rolled_by true (stage_of old) (come_to false turn) → account_of new ≡ made_by acts.Rollback true (come_to false turn) (account_of old)
      made e = account_with old new (ap (λ (t : Standing P). t.contents) kept) (rolled_by true (stage_of old) (come_to false turn)) e

      begun_before : (t : Ticket) → undetermined old.commits ≡ Some t → allows_data old.status ≡ false
      begun_before t e = elim (is_flag (allows_data old.status)) [
        | inl on ↦ absurd (no (sym (ap undetermined (quiet on).commits) ∙ e))
        | inr off ↦ off
      ]
        where
          no : ◌≡◌ {A = Option Ticket} None (Some t) → ⊥
          no q = cc

      by : allows_rollback old.status ≡ true → (o : Option Ticket) → undetermined old.commits ≡ o → IfKept turn (HasTaken acts.Rollback old new turn)
      by may (Some t) e = let u = unknown t may e in let same : new.status ≡ old.status = ap (λ (x : Standing P). x.status) u.1 in
          kept_then turn (λ (is : stage_of new ≡ rolled_by true (stage_of old) (come_to false turn)). begun_taken acts.Rollback old new turn refl (allowed may) (made is) (ap allows_data same ∙ begun_before t e))
          (known_so old new t turn u.1 idle busy u.0)
      by may None e = begins old new turn idle gives (λ i.
          let is : new.status ≡ moved_by statuses.StartedRollback turn = status i ∙ ap (λ (u : Option Ticket). rolled_status old.status (is_some u) turn) e ∙ ap (λ (b : Bool). if b then moved_by statuses.StartedRollback turn else old.status) may in
          begun_taken acts.Rollback old new turn refl (allowed may) (made (rolls_so old new turn is known)) (ap allows_data is ∙ moved_off statuses.StartedRollback turn refl))

  -- It hears of something.

  -- where it waits, it has come as far as before
  waits_so : {R : Type 0} (old new : Standing P) (turn : Turn (Result (TxnAnswer P) Error)) → new.status ≡ moved_by old.status turn → GivesUp old new turn → (old.work ≡ Idle → (turn ≡ Waits) × (new ≡ old) × R)
      → (is_open old.work ≡ true → turn ≡ Waits → is_open new.work ≡ true) → turn ≡ Waits → stage_of new ≡ stage_of old
  waits_so old new turn status gives deaf busy waits = by old.work refl
    where
      no : ◌≡◌ {A = Turn (Result (TxnAnswer P) Error)} Waits Stopped → ⊥
      no q = cc

      by : (work : Work P) → old.work ≡ work → stage_of new ≡ stage_of old
      by Idle e = ap (λ (t : Standing P). stage_of t) (deaf e).1
      by (Open call) e = let was : is_open old.work ≡ true = ap (λ (w : Work P). is_open w) e in open_same old new (status ∙ ap (λ (x : Turn (Result (TxnAnswer P) Error)). moved_by old.status x) waits) was (busy was waits)
      by GaveUp e = absurd (no (sym waits ∙ (gives.after e).0))

  pub heard_so : {R : Type 0} (old new : Standing P) (turn : Turn (Result (TxnAnswer P) Error)) → IsQuiet old → new.status ≡ moved_by old.status turn
      → new ≡ record old { status = new.status; commits = new.commits; work = new.work; width = new.width } → GivesUp old new turn → (old.work ≡ Idle → (turn ≡ Waits) × (new ≡ old) × R)
      → (is_open old.work ≡ true → turn ≡ Waits → is_open new.work ≡ true) → IfKept turn (HasHeard old new turn)
  heard_so old new turn quiet status kept gives deaf busy = elim (is_flag (allows_data old.status)) [
    | inl on ↦ by (quiet on).rests old.work refl
    | inr off ↦ IfKept-all turn (let still = ap allows_data status ∙ moved_off old.status turn off in heard (λ s. absurd (no_flag (allows_data new.status) s still)))
  ]
    where
      heard : IsQuiet new → HasHeard old new turn
      heard q = record { contents = ap (λ (t : Standing P). t.contents) kept; waits = waits_so old new turn status gives deaf busy; quiet = q }

      by : is_open old.work ≡ false → (work : Work P) → old.work ≡ work → IfKept turn (HasHeard old new turn)
      by rests Idle e = IfKept-all turn (let same = (deaf e).1 in heard (subst (λ (t : Standing P). IsQuiet t) (sym same) quiet))
      by rests (Open call) e = absurd (no_flag (is_open old.work) (ap (λ (w : Work P). is_open w) e) rests)
      by rests GaveUp e = IfKept-stopped turn (HasHeard old new turn) (gives.after e).0

  -- What a call begins.

  -- one that begins now, with these options
  pub new_begun : (options : TransactionOptions) → options.kind ≡ Optimistic → options.read_only ≡ false → (b : Standing P) → b ≡ begun b.start options b.began → IsNew b
  new_begun options kind writes b e = subst (λ (t : Standing P). IsNew t) (sym e) (record {
    account = λ i. record { status = stage_by (if writes i then statuses.ReadOnly else statuses.Active) false (is_some (undetermined none_sent)); contents = record { entries = []; primary = None; is_pessimistic = is_pessimistic (kind i) } };
    quiet = λ s. record { status = ap (λ (r : Bool). if r then statuses.ReadOnly else statuses.Active) writes; commits = refl; rests = refl };
  })

  pub wants_optimistic : {C : Type 0} (call : ClientCall C P) (options : TransactionOptions) → call.wanted ≡ wanted.Transaction options → options.kind ≡ Optimistic → options.read_only ≡ false → WantsNew call
  wants_optimistic {C} call options e kind writes h b gives = new_begun options kind writes b (subst (λ w. CallGives {C = C} w h (Ok (Begun b))) e gives).0

  -- and its options are those that its line tells of
  pub wants_told : (trace : Option Trace) (at : ℕ) (call : ClientCall Pd P) (told : BeginOptions) (options : TransactionOptions) → call.wanted ≡ wanted.Transaction options → AreOptionsOf told options → BeginsIn trace at told → WantedIn trace at call
  wants_told None at call told options e are begins h b gives = tt
  wants_told (Some t) at call told options e are begins h b gives =
      let is = (subst (λ w. CallGives {C = Pd} w h (Ok (Begun b))) e gives).0 in
      (told, begins, ap (λ (x : Standing P). x.options.retry_options) is ∙ are.retries_are)

  pub wants_untold : (trace : Option Trace) (at : ℕ) (call : ClientCall Pd P) → call.wanted ≡ wanted.Timestamp → WantedIn trace at call
  wants_untold trace at call e h b gives = absurd (subst (λ w. CallGives {C = Pd} w h (Ok (Begun b))) e gives)

  pub wants_time : {C : Type 0} (call : ClientCall C P) → call.wanted ≡ wanted.Timestamp → WantsNew call
  wants_time {C} call e h b gives = absurd (subst (λ w. CallGives {C = C} w h (Ok (Begun b))) e gives)

  -- what is made of a timestamp is what the call may answer
  made_gives : {C : Type 0} (w : Wanted) (now : ℕ) (t : Timestamp) (b : Standing P) → ◌≡◌ {A = ClientAnswer C P} (Begun b) (made w now t) → CallGives {C = C} w (Answered some_ask (Ok b.start) ∷ []) (Ok (Begun b))
  made_gives wanted.Timestamp now t b e = absurd (cc)
  made_gives (wanted.Transaction options) now t b e =
      let is : b ≡ begun t options now = cc in
      (is ∙ (λ i. begun (ap (λ (x : Standing P). x.start) (sym is) i) options (ap (λ (x : Standing P). x.began) (sym is) i)), (some_ask, inl refl))

  pub begins_new : {C : Type 0} (call : ClientCall C P) (now : ℕ) (a : Arrival) → WantsNew call → (v : Result (ClientAnswer C P) Error) → IsMadeOf call.wanted now a v → BeginsNew v
  begins_new call now a wants (Err e) m = tt
  begins_new call now a wants (Ok (Time t)) m = tt
  begins_new call now a wants (Ok (Begun b)) m = wants (Answered some_ask (Ok b.start) ∷ []) b (made_gives call.wanted now m.1 b m.3)
