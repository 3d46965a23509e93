-- What an event makes of the tasks of a plan.
use Rattle.std.specs.Prelude.{ℕ, ◌≤◌, Bool, List}
use Rattle.std.specs.List.{count_by}
use Rattle.txn_history.specs.Meaning.{Counts, Goes, Meaning, Tells, Told}
use Rattle.txn_history.specs.Posted.{HasNumbers, Posted}
use Rattle.txn_history.specs.Turn.{IfKept, Turn}
use Rattle.txn_kv.specs.declared.request.Request.{Request}
use Rattle.txn_history.specs.Steps.{News}
use Rattle.txn_tasks.specs.Tasks.{tasks_of, tasks_phase, AreReady, LeadsSomewhere, Outcome}
use Rattle.txn_tasks.specs.Turns.{Turns}
use Rattle.txn_tasks.specs.declared.step.Step.{Step}
use Rattle.txn_tasks.specs.declared.tasks.Tasks.{Tasks}

pub record TasksStep {T A L W C : Type 0} (m : Meaning T (Step T A)) (load : T → L) (are_cut : L → List L → Type 0) (is_of : T → W → Type 0) (cost : W → ℕ → ℕ) (runs : T → Bool)
    (touches : Told → Posted → T → T → C → C → Type 0) (news : News) (old new : Tasks T A) (from to : Posted) (pd pd' : C) (turn : Turn (List (Outcome A))) : Type 0 where
  pub tells : (whole : W) (first : L) (r : Request) → Tells (tasks_of m load are_cut is_of cost runs whole first) (news.told r) old new from to turn
  pub goes : Goes (λ (s : Tasks T A). tasks_phase s.stage) (news.meant (tasks_phase old.stage) (LeadsSomewhere old)) old new from to pd pd' turn
  pub counts : (whole : W) (first : L) → Counts (tasks_of m load are_cut is_of cost runs whole first) news.bad news.fails news.weight news.locked old new from to turn
  pub client : (r : Request) → IfKept turn (Turns touches (news.told r) from old.tasks.items new.tasks.items pd pd')
  pub few : count_by runs new.tasks.items ≤ 16
  pub ready : AreReady m runs new
  pub numbers : HasNumbers to
