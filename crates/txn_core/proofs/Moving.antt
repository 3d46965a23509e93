-- A status goes on along its moves.
use Rattle.std.proofs.Common.{◌≡◌, Bool, true, false, Option, Some, None, refl, sym, ap, subst}
use Rattle.std.specs.Prelude.{if◌then◌else◌, Result, Ok, Err}
use Rattle.txn_kv.specs.declared.errors.Error.{Error}
use Rattle.txn_kv.specs.declared.timestamp.Timestamp.{Timestamp}
use Rattle.txn_kv.specs.declared.ticket.Ticket.{Ticket}
use Rattle.txn_history.specs.Turn.{HasEnded, Turn}
use Rattle.txn_history.specs.Turn.Turn.{Stopped, Waits, Ends}
use Rattle.txn_core.specs.Going.{IsUndetermined}
use Rattle.txn_core.specs.Transaction.{IsDetermined, commit_outcome, moved_by, rollback_outcome, rolled_status}
use Rattle.txn_core.specs.declared.txn_answer.TxnAnswer.{TxnAnswer}
use Rattle.txn_core.specs.declared.txn_answer.TxnAnswer.TheVariants as answer
use Rattle.txn_core.specs.Status.{Became, after_commit, after_rollback, allows_commit, allows_rollback, is_undetermined, is_undetermined_view, may_move, status_step}
use Rattle.txn_core.specs.Status.Became.{commits, rolls_back, closes, other}
use Rattle.txn_core.specs.declared.status.Status.{Status}
use Rattle.txn_core.specs.declared.status.Status.TheVariants.{ReadOnly, Active, Committed, StartedCommit, Rolledback, StartedRollback, Dropped}

abbrev Goes : Status → Status → Type 0
Goes s to = (via : Status) × (may_move s via ≡ true) × (may_move via to ≡ true)

stays : (s : Status) → may_move s s ≡ true
stays ReadOnly = refl
stays Active = refl
stays Committed = refl
stays StartedCommit = refl
stays Rolledback = refl
stays StartedRollback = refl
stays Dropped = refl

committed : (answer : Option (Result (Option Timestamp) Error)) (has_prewritten : Bool) → may_move StartedCommit (after_commit answer has_prewritten) ≡ true
committed None p = refl
committed (Some (Err e)) p = refl
committed (Some (Ok (Some t))) p = refl
committed (Some (Ok None)) true = refl
committed (Some (Ok None)) false = refl

rolled : (s : Status) → may_move s StartedRollback ≡ true → (answer : Option (Result (Unit {0}) Error)) → Goes s (after_rollback s answer)
rolled s e None = (StartedRollback, e, refl)
rolled s e (Some (Ok done)) = (StartedRollback, e, refl)
rolled s e (Some (Err error)) = by (is_undetermined error)
  where
    by : (b : Bool) → Goes s (if b then s else StartedRollback)
    by true = (s, stays s, stays s)
    by false = (StartedRollback, e, refl)

pub moves : (s : Status) (call : Became) → Goes s (status_step s call)
moves s closes = (Dropped, refl, refl)
moves s other = (s, stays s, stays s)
moves ReadOnly (commits a p) = (ReadOnly, refl, refl)
moves Active (commits a p) = (StartedCommit, refl, committed a p)
moves Committed (commits a p) = (Committed, refl, refl)
moves StartedCommit (commits a p) = (StartedCommit, refl, committed a p)
moves Rolledback (commits a p) = (Rolledback, refl, refl)
moves StartedRollback (commits a p) = (StartedRollback, refl, refl)
moves Dropped (commits a p) = (Dropped, refl, refl)
moves ReadOnly (rolls_back a) = (ReadOnly, refl, refl)
moves Active (rolls_back a) = rolled Active refl a
moves Committed (rolls_back a) = (Committed, refl, refl)
moves StartedCommit (rolls_back a) = rolled StartedCommit refl a
moves Rolledback (rolls_back a) = (Rolledback, refl, refl)
moves StartedRollback (rolls_back a) = rolled StartedRollback refl a
moves Dropped (rolls_back a) = (Dropped, refl, refl)

-- A call that goes on moves the status to what it is to be.

pub commit_follows : {P : Type 0} (s : Status) (p : Bool) (turn : Turn (Result (TxnAnswer P) Error)) → allows_commit s ≡ true
    → moved_by (status_step s (commits None p)) turn ≡ status_step s (commits (commit_outcome turn) true)
commit_follows {P} s p turn e = subst (λ b. moved_by (if b then after_commit None p else s) turn ≡ (if b then after_commit (commit_outcome turn) true else s)) (sym e) (by turn)
  where
    by : (turn : Turn (Result (TxnAnswer P) Error)) → moved_by StartedCommit turn ≡ after_commit (commit_outcome turn) true
    by Stopped = refl
    by Waits = refl
    by (Ends (Err error)) = refl
    by (Ends (Ok answer.Unit)) = refl
    by (Ends (Ok (answer.Value v))) = refl
    by (Ends (Ok (answer.Exists v))) = refl
    by (Ends (Ok (answer.Pairs v))) = refl
    by (Ends (Ok (answer.Keys v))) = refl
    by (Ends (Ok (answer.Committed None job))) = refl
    by (Ends (Ok (answer.Committed (Some t) job))) = refl
    by (Ends (Ok (answer.Ttl v))) = refl

rolls : {P : Type 0} (s : Status) (turn : Turn (Result (TxnAnswer P) Error)) → IsDetermined turn → moved_by StartedRollback turn ≡ after_rollback s (rollback_outcome turn)
rolls s Stopped d = refl
rolls s Waits d = refl
rolls s (Ends (Err error)) d = subst (λ b. StartedRollback ≡ (if b then s else StartedRollback)) (sym d) refl
rolls s (Ends (Ok answer.Unit)) d = refl
rolls s (Ends (Ok (answer.Value v))) d = refl
rolls s (Ends (Ok (answer.Exists v))) d = refl
rolls s (Ends (Ok (answer.Pairs v))) d = refl
rolls s (Ends (Ok (answer.Keys v))) d = refl
rolls s (Ends (Ok (answer.Committed t job))) d = refl
rolls s (Ends (Ok (answer.Ttl v))) d = refl

pub rollback_follows : {P : Type 0} (s : Status) (turn : Turn (Result (TxnAnswer P) Error)) → allows_rollback s ≡ true → IsDetermined turn
    → moved_by (status_step s (rolls_back None)) turn ≡ status_step s (rolls_back (rollback_outcome turn))
rollback_follows s turn e d = subst (λ b. moved_by (if b then after_rollback s None else s) turn ≡ (if b then after_rollback s (rollback_outcome turn) else s)) (sym e) (rolls s turn d)

pub closed_stays : {P : Type 0} (turn : Turn (Result (TxnAnswer P) Error)) → moved_by Dropped turn ≡ Dropped
closed_stays Stopped = refl
closed_stays Waits = refl
closed_stays (Ends (Err error)) = refl
closed_stays (Ends (Ok answer.Unit)) = refl
closed_stays (Ends (Ok (answer.Value v))) = refl
closed_stays (Ends (Ok (answer.Exists v))) = refl
closed_stays (Ends (Ok (answer.Pairs v))) = refl
closed_stays (Ends (Ok (answer.Keys v))) = refl
closed_stays (Ends (Ok (answer.Committed t job))) = refl
closed_stays (Ends (Ok (answer.Ttl v))) = refl

pub refusal_stays : {P : Type 0} (s : Status) (t : Ticket) (turn : Turn (Result (TxnAnswer P) Error)) → IsUndetermined t turn → HasEnded turn
    → rolled_status s true turn ≡ status_step s (rolls_back (rollback_outcome turn))
refusal_stays s t Stopped u e = absurd e
refusal_stays s t Waits u e = absurd e
refusal_stays s t (Ends (Ok v)) u e = absurd u
refusal_stays s t (Ends (Err error)) u e = by (allows_rollback s) (ap is_undetermined_view u)
  where
    by : (b : Bool) → is_undetermined error ≡ true → s ≡ (if b then (if is_undetermined error then s else StartedRollback) else s)
    by true i = subst (λ b. s ≡ (if b then s else StartedRollback)) (sym i) refl
    by false i = refl

pub begun_follows : {P : Type 0} (s : Status) (turn : Turn (Result (TxnAnswer P) Error)) → IsDetermined turn
    → rolled_status s false turn ≡ status_step s (rolls_back (rollback_outcome turn))
begun_follows {P} s turn d = by (allows_rollback s)
  where
    by : (b : Bool) → (if b then moved_by StartedRollback turn else s) ≡ (if b then after_rollback s (rollback_outcome turn) else s)
    by true = rolls s turn d
    by false = refl
