-- How many requests to stores and asks a commit or a rollback of a transaction posts, and how many are left.
use Rattle.std.specs.Prelude.{◌≡◌, ◌≤◌, ⊤, ℕ, ◌-◌, max, Bool, false, if◌then◌else◌, List, [], ◌∷◌, ◌++◌, Option, Some, None, Result}
use Rattle.std.specs.List.{count_by, sum_by}
use Rattle.txn_kv.specs.declared.errors.Error.{Error}
use Rattle.txn_kv.specs.declared.timestamp.Timestamp.{Timestamp}
use Rattle.txn_history.specs.Posted.{Errand, Posted}
use Rattle.txn_history.specs.Spends.{Spends, calls, sleeps}
use Rattle.txn_history.specs.Turn.{Turn, is_kept}
use Rattle.txn_commit.specs.Ways.{Costs, Ways}
use Rattle.txn_commit.specs.Counting.{call_width, commit_again_costs, commit_costs, rollback_costs, stage_bears, stage_left, stage_round}
use Rattle.txn_commit.specs.declared.commit_parts.CommitParts.{CommitParts}
use Rattle.txn_commit.specs.declared.committer.CommitterCall.{CommitterCall}
use Rattle.txn_core.specs.Transaction.{GivesUp, Standing}
use Rattle.txn_core.specs.declared.transaction.Work.{Work}
use Rattle.txn_core.specs.declared.transaction.Work.TheVariants.{Idle, Open, GaveUp}
use Rattle.txn_core.specs.declared.txn_answer.TxnAnswer.{TxnAnswer}

-- What the open call costs from its start, and what it still costs, where no error and no lock comes and no request is cut into
-- more than n parts.

abbrev pub work_round : {P : Type 0} → Ways P → Costs → Work P → ℕ → ℕ
work_round w costs Idle = λ n. 0
work_round w costs (Open call) = stage_round w costs call.parts call.stage
work_round w costs GaveUp = λ n. 0

abbrev pub work_left : {P : Type 0} → Ways P → Costs → Work P → ℕ → ℕ
work_left w costs Idle = λ n. 0
work_left w costs (Open call) = stage_left w costs call.parts call.stage
work_left w costs GaveUp = λ n. 0

-- its numbers are in order, where the locks that it was given so far weigh at most so much
abbrev pub work_bears : {P : Type 0} → Ways P → Work P → ℕ → Type 0
work_bears w Idle = λ m. ⊤
work_bears w (Open call) = stage_bears w call.stage
work_bears w GaveUp = λ m. ⊤

abbrev pub work_width : {P : Type 0} → Ways P → Work P → ℕ
work_width w Idle = 0
work_width w (Open call) = call_width w call
work_width w GaveUp = 0

-- the most parts that a request of it was cut into so far
abbrev pub transaction_width : {P : Type 0} → Ways P → Standing P → ℕ
transaction_width w t = max t.width (work_width w t.work)

-- What a commit costs that begins: nothing where nothing is written or locked. Once a Commit of the primary was sent it alone is
-- sent again.
abbrev pub commit_price : Costs → Option CommitParts → Option Timestamp → ℕ → ℕ
commit_price costs None again = λ n. 0
commit_price costs (Some parts) None = commit_costs costs parts
commit_price costs (Some parts) (Some timestamp) = commit_again_costs costs

-- and a rollback: nothing where nothing is locked
abbrev pub rollback_price : Costs → Option CommitParts → ℕ → ℕ
rollback_price costs None = λ n. 0
rollback_price costs (Some parts) = if parts.locks then rollback_costs costs parts else λ n. 0

-- A call of a transaction that has `before` to post, and leaves what its open call has left.
pub record TransactionPays {P : Type 0} (w : Ways P) (costs : Costs) (was : ℕ → Type 0) (before round : ℕ → ℕ) (bad fails : Bool) (weight locked width : ℕ)
    (new : Standing P) (from to : Posted) (turn : Turn (Result (TxnAnswer P) Error)) : Type 0 where
  pub spends : Spends was (work_bears w new.work) before (work_left w costs new.work) round bad fails weight locked width (transaction_width w new) from to (is_kept turn) false
  pub fewer : (n : ℕ) → work_round w costs new.work n ≤ round n

-- an event of it
abbrev pub TransactionCounts : {P : Type 0} → Ways P → Costs → Bool → Bool → ℕ → ℕ
    → Standing P → Standing P → Posted → Posted → Turn (Result (TxnAnswer P) Error) → Type 0
TransactionCounts w costs bad fails weight locked old new from to turn =
    TransactionPays w costs (work_bears w old.work) (work_left w costs old.work) (work_round w costs old.work) bad fails weight locked (transaction_width w old) new from to turn

-- an event of this call, which is open
abbrev pub OpenCounts : {P : Type 0} → Ways P → Costs → CommitterCall P → Bool → Bool → ℕ → ℕ
    → Standing P → Standing P → Posted → Posted → Turn (Result (TxnAnswer P) Error) → Type 0
OpenCounts w costs call bad fails weight locked old new from to turn =
    TransactionPays w costs (stage_bears w call.stage) (stage_left w costs call.parts call.stage) (stage_round w costs call.parts call.stage) bad fails weight locked (max old.width (call_width w call)) new from to turn

-- it begins something that costs so much
abbrev pub TransactionBegins : {P : Type 0} → Ways P → Costs → (ℕ → ℕ)
    → Standing P → Standing P → Posted → Posted → Turn (Result (TxnAnswer P) Error) → Type 0
TransactionBegins w costs whole old new from to turn = TransactionPays w costs (λ m. ⊤) whole whole false false 0 0 (transaction_width w old) new from to turn

-- the call is open, or was let go
abbrev pub IsOpenOrGone : {P : Type 0} → CommitterCall P → Work P → Type 0
IsOpenOrGone call Idle = ⊤
IsOpenOrGone call (Open now) = now ≡ call
IsOpenOrGone call GaveUp = ⊤

-- the transaction keeps the call, or lets it go
pub record Keeps {P : Type 0} (w : Ways P) (call : CommitterCall P) (old new : Standing P) : Type 0 where
  pub work : IsOpenOrGone call new.work
  pub width : call_width w call ≤ transaction_width w new
  pub wider : old.width ≤ transaction_width w new

-- A whole call

-- one of its event calls: what it tells of that costs more, and how the transaction and its outbox stood before and after it
pub record Step (P : Type 0) : Type 0 where
  pub bad : Bool
  pub fails : Bool
  pub weight : ℕ
  pub locked : ℕ
  pub old : Standing P
  pub new : Standing P
  pub from : Posted
  pub to : Posted
  pub turn : Turn (Result (TxnAnswer P) Error)

-- what was posted stands behind what there was
abbrev pub IsPushed : Posted → Posted → Type 0
IsPushed from to = (sends : List Errand) × (to.sends ≡ from.sends ++ sends)

pub record IsCounted {P : Type 0} (w : Ways P) (costs : Costs) (step : Step P) : Type 0 where
  pub counts : TransactionCounts w costs step.bad step.fails step.weight step.locked step.old step.new step.from step.to step.turn
  pub gives_up : GivesUp step.old step.new step.turn
  pub pushed : IsPushed step.from step.to

-- nothing was done to the open call meanwhile
abbrev pub IsLeft : {P : Type 0} → Standing P → Standing P → Type 0
IsLeft t next = (next.work ≡ t.work) × (next.width ≡ t.width)

-- events that come to it from here, the first of them first; others may post meanwhile
abbrev pub Follow : {P : Type 0} → Ways P → Costs → Standing P → List (Step P) → Type 0
Follow w costs t [] = ⊤
Follow w costs t (step ∷ steps) = IsLeft t step.old × IsCounted w costs step × Follow w costs step.new steps

-- where it stands after them
abbrev pub standing_after : {P : Type 0} → Standing P → List (Step P) → Standing P
standing_after t [] = t
standing_after t (step ∷ steps) = standing_after step.new steps

-- a call that costs so much, and the events that come to it
pub record Runs {P : Type 0} (w : Ways P) (costs : Costs) (whole : ℕ → ℕ) (first : Step P) (steps : List (Step P)) : Type 0 where
  pub begins : TransactionBegins w costs whole first.old first.new first.from first.to first.turn
  pub gives_up : GivesUp first.old first.new first.turn
  pub pushed : IsPushed first.from first.to
  pub follow : Follow w costs first.new steps

-- what one posts, and how many sleeps it begins
abbrev pub posted_by : {P : Type 0} → Step P → ℕ
posted_by step = calls step.to - calls step.from

abbrev pub rested_by : {P : Type 0} → Step P → ℕ
rested_by step = sleeps step.to - sleeps step.from

abbrev pub posted : {P : Type 0} → List (Step P) → ℕ
posted {P} steps = sum_by (λ (step : Step P). posted_by step) steps

abbrev pub rested : {P : Type 0} → List (Step P) → ℕ
rested {P} steps = sum_by (λ (step : Step P). rested_by step) steps

-- how many of them tell of an error, and of one that a new run may better; how many tell of locks, and what these weigh
abbrev pub errors : {P : Type 0} → List (Step P) → ℕ
errors {P} steps = count_by (λ (step : Step P). step.bad) steps

abbrev pub failures : {P : Type 0} → List (Step P) → ℕ
failures {P} steps = count_by (λ (step : Step P). step.fails) steps

abbrev pub locked : {P : Type 0} → List (Step P) → ℕ
locked {P} steps = sum_by (λ (step : Step P). step.locked) steps

abbrev pub weighed : {P : Type 0} → List (Step P) → ℕ
weighed {P} steps = sum_by (λ (step : Step P). step.weight) steps
