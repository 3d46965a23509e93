-- Where a transaction stands, what it waits for, and that what it hands out may be started.
use Rattle.std.specs.Prelude.{◌≡◌, ⊤, IfSome, Result, Ok, Err}
use Rattle.txn_kv.specs.Timestamp.{HasVersion}
use Rattle.txn_kv.specs.declared.errors.Error.{Error}
use Rattle.txn_history.specs.Meaning.{Expects, Goes, Meaning}
use Rattle.txn_history.specs.Phase.{Awaited, Phase, phase_after}
use Rattle.txn_history.specs.Phase.Phase.{GivenUp, Over}
use Rattle.txn_history.specs.Posted.{Posted}
use Rattle.txn_history.specs.Turn.{HasEnded, Turn}
use Rattle.txn_history.specs.Turn.Turn.{Waits}
use Rattle.txn_commit.specs.Ways.{Ways}
use Rattle.txn_commit.specs.Going.{stage_phase, stage_waits}
use Rattle.txn_commit.specs.Jobs.{JobReady}
use Rattle.txn_commit.specs.declared.committer.CommitterAnswer.{CommitterAnswer}
use Rattle.txn_commit.specs.declared.committer.CommitterCall.{CommitterCall}
use Rattle.txn_core.specs.Transaction.{Standing}
use Rattle.txn_core.specs.declared.transaction.Work.{Work}
use Rattle.txn_core.specs.declared.transaction.Work.TheVariants.{Idle, Open, GaveUp}
use Rattle.txn_core.specs.declared.txn_answer.TxnAnswer.{TxnAnswer}
use Rattle.txn_core.specs.declared.txn_answer.TxnAnswer.TheVariants as answer

-- It stands where its open call does. Between calls it has answered.
abbrev pub work_phase : {P : Type 0} → Ways P → Work P → Phase
work_phase w Idle = Over
work_phase w (Open call) = stage_phase w call.stage
work_phase w GaveUp = GivenUp

-- and waits for what that one does
abbrev pub work_waits : {P : Type 0} → Ways P → Work P → Awaited → Type 0
work_waits w Idle a = ⊥
work_waits w (Open call) a = stage_waits w call.stage a
work_waits w GaveUp a = ⊥

-- an event call of it, which is `meant` for it where it waits for that
abbrev pub TransactionGoes : {P C : Type 0} → Ways P → Type 0
    → Standing P → Standing P → Posted → Posted → C → C → Turn (Result (TxnAnswer P) Error) → Type 0
TransactionGoes {P} w meant old new from to pd pd' turn = Goes (λ (t : Standing P). work_phase w t.work) meant old new from to pd pd' turn

-- It begins a call, and waits for nothing that was posted before.
pub record Opens {P : Type 0} (w : Ways P) (new : Standing P) (from to : Posted) (turn : Turn (Result (TxnAnswer P) Error)) : Type 0 where
  pub next : work_phase w new.work ≡ phase_after turn
  pub expects : Expects (λ a. ⊥) (work_waits w new.work) (λ a. ⊥) from to

-- no call is open: it has answered, or gave up
pub record Rests {P : Type 0} (w : Ways P) (new : Standing P) (turn : Turn (Result (TxnAnswer P) Error)) : Type 0 where
  pub next : work_phase w new.work ≡ phase_after turn
  pub silent : (a : Awaited) → work_waits w new.work a → ⊥

-- it keeps a call that waits, and rests after one that has ended
pub record Follows {P : Type 0} (w : Ways P) (call : CommitterCall P) (inner : Turn (Result CommitterAnswer Error))
    (old new : Standing P) (turn : Turn (Result (TxnAnswer P) Error)) : Type 0 where
  pub deaf : inner ≡ Waits → turn ≡ Waits
  pub state : inner ≡ Waits → new ≡ record old { work = Open call }
  pub ended : HasEnded inner → Rests w new turn

-- the timestamp that it hands out is in range, and the job may be started, where there are such
abbrev pub HandsOut : {P B : Type 0} → Meaning P (Result B Error) → Result (TxnAnswer P) Error → Type 0
HandsOut m (Ok (answer.Committed t job)) = IfSome t HasVersion × IfSome job (JobReady m)
HandsOut m (Ok _) = ⊤
HandsOut m (Err e) = ⊤
