-- Where a commit or a rollback stands, and what it waits for.
use Rattle.std.specs.Prelude.{◌≡◌, Bool, true, false, Result}
use Rattle.txn_history.specs.Meaning.{Expects, Goes, GoesOn, Meaning}
use Rattle.txn_history.specs.Phase.{Awaited, Phase, phase_after, unheard}
use Rattle.txn_history.specs.Phase.Phase.{GivenUp, Over}
use Rattle.txn_history.specs.Posted.{Posted}
use Rattle.txn_history.specs.Turn.{HasEnded, IfKept, Turn}
use Rattle.txn_history.specs.Turn.Turn.{Waits}
use Rattle.txn_kv.specs.declared.errors.Error.{Error}
use Rattle.txn_commit.specs.Ways.{Ways}
use Rattle.txn_plan.specs.Timing.{time_asked}
use Rattle.txn_commit.specs.declared.committer.CommitterAnswer.{CommitterAnswer}
use Rattle.txn_commit.specs.declared.committer.CommitterCall.{CommitterCall}
use Rattle.txn_commit.specs.declared.committer.Stage.{Stage}
use Rattle.txn_commit.specs.declared.committer.Stage.TheVariants as stage

-- It stands where its plan does, until it is over.
abbrev pub stage_phase : {P : Type 0} → Ways P → Stage P → Phase
stage_phase w (stage.Prewriting p) = w.plan.phase p
stage_phase w (stage.Asking t) = time_asked.phase t
stage_phase w (stage.Committing q t) = w.plan.phase q
stage_phase w (stage.RollingBackPrimary k) = w.plan.phase k
stage_phase w (stage.RollingBackOthers k) = w.plan.phase k
stage_phase w stage.Over = Over
stage_phase w stage.Stopped = GivenUp

-- and waits for what its plan does
abbrev pub stage_waits : {P : Type 0} → Ways P → Stage P → Awaited → Type 0
stage_waits w (stage.Prewriting p) a = w.plan.waits p a
stage_waits w (stage.Asking t) a = time_asked.waits t a
stage_waits w (stage.Committing q t) a = w.plan.waits q a
stage_waits w (stage.RollingBackPrimary k) a = w.plan.waits k a
stage_waits w (stage.RollingBackOthers k) a = w.plan.waits k a
stage_waits w stage.Over a = ⊥
stage_waits w stage.Stopped a = ⊥

-- it is on its way to a Commit of the primary, or sends one
abbrev pub may_commit : {P : Type 0} → Stage P → Bool
may_commit (stage.Prewriting p) = true
may_commit (stage.Asking t) = true
may_commit (stage.Committing q t) = true
may_commit s = false

-- an event call of it, which is `meant` for it where it waits for that
abbrev pub CommitterGoes : {P C : Type 0} → Ways P → Type 0
    → CommitterCall P → CommitterCall P → Posted → Posted → C → C → Turn (Result CommitterAnswer Error) → Type 0
CommitterGoes {P} w meant old new from to pd pd' turn = Goes (λ (c : CommitterCall P). stage_phase w c.stage) meant old new from to pd pd' turn

-- what it waits for then
abbrev pub CommitterExpects : {P : Type 0} → Ways P → (Awaited → Type 0)
    → CommitterCall P → CommitterCall P → Posted → Posted → Type 0
CommitterExpects w heard old new from to = Expects (stage_waits w old.stage) (stage_waits w new.stage) heard from to

-- It begins something, and waits for nothing that was posted before.
pub record Opens {P : Type 0} (w : Ways P) (new : CommitterCall P) (from to : Posted) (turn : Turn (Result CommitterAnswer Error)) : Type 0 where
  pub next : stage_phase w new.stage ≡ phase_after turn
  pub expects : Expects (λ a. ⊥) (stage_waits w new.stage) (λ a. ⊥) from to

-- it goes on after one of its plans did, which ended so
pub record Resumes {P E C : Type 0} (w : Ways P) (inner : Turn E)
    (old new : CommitterCall P) (from to : Posted) (pd pd' : C) (turn : Turn (Result CommitterAnswer Error)) : Type 0 where
  pub goes : GoesOn (λ (c : CommitterCall P). stage_phase w c.stage) inner old new from to pd pd' turn
  pub expects : CommitterExpects w (λ a. ⊥) old new from to

-- it waits on with its last plan, or is over with it
pub record Settles {P E : Type 0} (inner : Turn E) (old new : CommitterCall P) (turn : Turn (Result CommitterAnswer Error)) : Type 0 where
  pub deaf : inner ≡ Waits → turn ≡ Waits
  pub state : inner ≡ Waits → new ≡ old
  pub ended : HasEnded inner → HasEnded turn
  pub over : HasEnded inner → new.stage ≡ stage.Over

-- A plan of Commits of the primary was told of something. Where the call then gives up, since there is no memory to follow
-- what the plan sent, the plan may be running still.
pub record Relays {S A C : Type 0} (m : Meaning S A) (meant : Type 0) (old new : S) (from to : Posted) (pd pd' : C) (turn : Turn A) : Type 0 where
  pub deaf : (meant → ⊥) → turn ≡ unheard (m.phase old)
  pub state : (meant → ⊥) → new ≡ old
  pub outbox : (meant → ⊥) → to ≡ from
  pub client : (meant → ⊥) → pd' ≡ pd
  pub next : meant → IfKept turn (m.phase new ≡ phase_after turn)
