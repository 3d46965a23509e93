-- How many requests to stores and asks a commit or a rollback posts, and how many are left.
use Rattle.std.specs.Prelude.{⊤, ℕ, ◌+◌, ◌≤◌, max, length, Bool, false, Result}
use Rattle.txn_kv.specs.declared.errors.Error.{Error}
use Rattle.txn_history.specs.Posted.{Posted}
use Rattle.txn_history.specs.Spends.{Spends}
use Rattle.txn_history.specs.Turn.{Turn, is_kept}
use Rattle.txn_commit.specs.Ways.{Costs, Ways}
use Rattle.txn_plan.specs.Timing.{time_asked}
use Rattle.txn_commit.specs.declared.commit_parts.CommitParts.{CommitParts}
use Rattle.txn_commit.specs.declared.committer.CommitterAnswer.{CommitterAnswer}
use Rattle.txn_commit.specs.declared.committer.CommitterCall.{CommitterCall}
use Rattle.txn_commit.specs.declared.committer.Stage.{Stage}
use Rattle.txn_commit.specs.declared.committer.Stage.TheVariants as stage

-- What a commit and a rollback cost, from where they stand: all is prewritten, a timestamp is asked for, and the primary is
-- committed; the primary is rolled back, and then the other keys are.

abbrev pub commit_again_costs : Costs → ℕ → ℕ
commit_again_costs costs n = costs.commits 1 n

abbrev pub ask_costs : Costs → ℕ → ℕ
ask_costs costs n = 1 + commit_again_costs costs n

abbrev pub commit_costs : Costs → CommitParts → ℕ → ℕ
commit_costs costs parts n = costs.prewrites (length parts.mutations) n + ask_costs costs n

abbrev pub others_costs : Costs → CommitParts → ℕ → ℕ
others_costs costs parts n = costs.rollbacks (length parts.secondaries) n

abbrev pub rollback_costs : Costs → CommitParts → ℕ → ℕ
rollback_costs costs parts n = costs.rollbacks 1 n + others_costs costs parts n

abbrev pub stage_round : {P : Type 0} → Ways P → Costs → CommitParts → Stage P → ℕ → ℕ
stage_round w costs parts (stage.Prewriting p) n = w.plan.round p n + ask_costs costs n
stage_round w costs parts (stage.Asking t) n = time_asked.round t n + commit_again_costs costs n
stage_round w costs parts (stage.Committing q t) n = w.plan.round q n
stage_round w costs parts (stage.RollingBackPrimary k) n = w.plan.round k n + others_costs costs parts n
stage_round w costs parts (stage.RollingBackOthers k) n = w.plan.round k n
stage_round w costs parts stage.Over n = 0
stage_round w costs parts stage.Stopped n = 0

abbrev pub stage_left : {P : Type 0} → Ways P → Costs → CommitParts → Stage P → ℕ → ℕ
stage_left w costs parts (stage.Prewriting p) n = w.plan.left p n + ask_costs costs n
stage_left w costs parts (stage.Asking t) n = time_asked.left t n + commit_again_costs costs n
stage_left w costs parts (stage.Committing q t) n = w.plan.left q n
stage_left w costs parts (stage.RollingBackPrimary k) n = w.plan.left k n + others_costs costs parts n
stage_left w costs parts (stage.RollingBackOthers k) n = w.plan.left k n
stage_left w costs parts stage.Over n = 0
stage_left w costs parts stage.Stopped n = 0

abbrev pub stage_bears : {P : Type 0} → Ways P → Stage P → ℕ → Type 0
stage_bears w (stage.Prewriting p) m = w.plan.bears p m
stage_bears w (stage.Asking t) m = ⊤
stage_bears w (stage.Committing q t) m = w.plan.bears q m
stage_bears w (stage.RollingBackPrimary k) m = w.plan.bears k m
stage_bears w (stage.RollingBackOthers k) m = w.plan.bears k m
stage_bears w stage.Over m = ⊤
stage_bears w stage.Stopped m = ⊤

-- the most parts of the plan that is under way
abbrev pub stage_width : {P : Type 0} → Ways P → Stage P → ℕ
stage_width w (stage.Prewriting p) = w.plan.width p
stage_width w (stage.Asking t) = 0
stage_width w (stage.Committing q t) = w.plan.width q
stage_width w (stage.RollingBackPrimary k) = w.plan.width k
stage_width w (stage.RollingBackOthers k) = w.plan.width k
stage_width w stage.Over = 0
stage_width w stage.Stopped = 0

-- and of those before it
abbrev pub call_width : {P : Type 0} → Ways P → CommitterCall P → ℕ
call_width w call = max call.width (stage_width w call.stage)

-- A call that has so much `before` it, and leaves it at the new state. Nobody runs it again.
pub record Pays {P : Type 0} (w : Ways P) (costs : Costs) (was : ℕ → Type 0) (before round : ℕ → ℕ) (bad fails : Bool) (weight locked : ℕ)
    (old new : CommitterCall P) (from to : Posted) (turn : Turn (Result CommitterAnswer Error)) : Type 0 where
  pub spends : Spends was (stage_bears w new.stage) before (stage_left w costs new.parts new.stage) round bad fails weight locked (call_width w old) (call_width w new) from to (is_kept turn) false
  pub fewer : (n : ℕ) → stage_round w costs new.parts new.stage n ≤ round n

-- an event of it, or a step behind one
abbrev pub CommitterCounts : {P : Type 0} → Ways P → Costs → Bool → Bool → ℕ → ℕ
    → CommitterCall P → CommitterCall P → Posted → Posted → Turn (Result CommitterAnswer Error) → Type 0
CommitterCounts w costs bad fails weight locked old new from to turn =
    Pays w costs (stage_bears w old.stage) (stage_left w costs old.parts old.stage) (stage_round w costs old.parts old.stage) bad fails weight locked old new from to turn

-- it begins something that costs so much
abbrev pub Begins : {P : Type 0} → Ways P → Costs → (ℕ → ℕ)
    → CommitterCall P → CommitterCall P → Posted → Posted → Turn (Result CommitterAnswer Error) → Type 0
Begins w costs whole old new from to turn = Pays w costs (λ m. ⊤) whole whole false false 0 0 old new from to turn
