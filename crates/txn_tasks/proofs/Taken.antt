-- The tasks of a plan take what came.
use Rattle.std.proofs.Common.{◌≡◌, ℕ, ◌<◌, Bool, List, ◌++◌, length, get_or, set, refl, sym, ap, subst, ◌∙◌}
use Rattle.std.specs.Prelude.{◌≤◌, Option, Result, Some, None, drop}
use Rattle.std.specs.List.{count_by}
use Rattle.std.specs.Vec.{with_item}
use Rattle.std.proofs.lemmas.List.{get_or-set_same}
use Rattle.txn_kv.specs.declared.memory.NoMemory.{NoMemory}
use Rattle.txn_kv.specs.declared.request.Request.{Request}
use Rattle.txn_history.specs.Meaning.{IsLawful, Meaning, Told}
use Rattle.txn_history.specs.Phase.{unheard}
use Rattle.txn_history.specs.Posted.{HasNumbers, Posted}
use Rattle.txn_history.specs.Turn.{IfKept, IfKept-all, IfKept-weaker, Turn}
use Rattle.txn_history.specs.Arrivals.{arrives, awaited_as, locked_told, tells_error, tells_failure, told_by, weight_told}
use Rattle.txn_kv.specs.declared.arrival.Arrival.{Arrival}
use Rattle.txn_history.proofs.Arriving.{heard_as, heard_is, worse}
use Rattle.txn_history.specs.Steps.{Steps}
use Rattle.txn_tasks.specs.Routes.{route}
use Rattle.txn_tasks.specs.Settled.{Finds, GoesOnSo}
use Rattle.txn_tasks.specs.Step.{step_turn, Keeps}
use Rattle.txn_tasks.specs.Tasks.{tasks_phase, AreReady, LeadsSomewhere, Outcome}
use Rattle.txn_tasks.specs.TasksStep.{TasksStep}
use Rattle.txn_tasks.specs.Turns.{Starts}
use Rattle.txn_tasks.specs.Turns.Turns.{heard as took, unheard as stayed}
use Rattle.txn_tasks.specs.declared.stage.Stage.TheVariants as stage
use Rattle.txn_tasks.specs.declared.step.Step.{Step}
use Rattle.txn_tasks.specs.declared.tasks.Tasks.{Tasks}
use Rattle.txn_tasks.proofs.Readying.{Ready-few}
use Rattle.txn_tasks.proofs.Settling.{TaskLaws}
use Rattle.txn_tasks.proofs.Telling.{Counts-event, Counts-stays, Goes-event, Taking, Tells-event, Tells-stays}
use Rattle.txn_tso.specs.Calling.{members}

-- it is for none of them
pub TasksStep-stays : {T A L W C : Type 0} {m : Meaning T (Step T A)} {load : T → L} {are_cut : L → List L → Type 0} {is_of : T → W → Type 0} {runs : T → Bool} {touches : Told → Posted → T → T → C → C → Type 0}
    {old new : Tasks T A} {o : Posted} {pd : C} {turn : Turn (List (Outcome A))} (cost : W → ℕ → ℕ) (a : Arrival)
    → IsLawful m → Finds (awaited_as a) None old new → turn ≡ unheard (tasks_phase new.stage) → AreReady m runs new → HasNumbers o
    → TasksStep m load are_cut is_of cost runs touches (arrives a o) old new o o pd pd turn
unfolding arrives
TasksStep-stays {T = T} {A = A} {old = old} {o = o} {turn = turn} cost a law none e ready numbers = record {
  tells = λ whole first r. Tells-stays cost whole first law (λ x h w. none.0 (subst (λ y. LeadsSomewhere old y) (heard_as a o r x h) w)) none.1 e;
  goes = record {
    deaf = λ other. e ∙ ap (λ (s : Tasks T A). unheard (tasks_phase s.stage)) none.1;
    state = λ other. none.1;
    outbox = λ other. refl;
    client = λ other. refl;
    next = λ this. absurd (none.0 this);
  };
  counts = λ whole first. Counts-stays cost whole first law none.1;
  client = λ r. IfKept-all turn (stayed (ap (λ (s : Tasks T A). s.tasks.items) none.1) refl);
  few = Ready-few ready;
  ready = ready;
  numbers = numbers;
}

-- one of them took it, and they went on
pub TasksStep-event : {T A L W C : Type 0} {m : Meaning T (Step T A)} {load : T → L} {are_cut : L → List L → Type 0} {is_of : T → W → Type 0} {cost : W → ℕ → ℕ} {runs : T → Bool} {touches : Told → Posted → T → T → C → C → Type 0}
    {old mid new : Tasks T A} {was is : T} {from via to : Posted} {pd left pd' : C} {step : Result (Option (Step T A)) NoMemory} {turn : Turn (List (Outcome A))} {posted : ℕ} (a : Arrival) (at : ℕ)
    → TaskLaws m load are_cut is_of cost runs
    → AreReady m runs old
    → Finds (awaited_as a) (Some at) old mid
    → at < length mid.tasks.items
    → was ≡ get_or mid.tasks.items at was
    → Steps m touches (arrives a from) was is from via pd left (step_turn step)
    → Keeps m load are_cut is_of runs was is (step_turn step)
    → posted ≡ length from.sends
    → GoesOnSo m load are_cut is_of cost runs step (drop posted via.sends) (runs (get_or (set mid.tasks.items at is) at is)) at (record mid { tasks = with_item mid.tasks at is }) new via to turn
    → IfKept turn ((more : List T) × Starts touches (set mid.tasks.items at is ++ more) left new.tasks.items pd')
    → count_by runs new.tasks.items ≤ 16 → AreReady m runs new → HasNumbers to
    → TasksStep m load are_cut is_of cost runs touches (arrives a from) old new from to pd pd' turn
unfolding arrives
TasksStep-event {T = T} {A = A} {m = m} {load = load} {are_cut = are_cut} {is_of = is_of} {cost = cost} {runs = runs} {touches = touches} {old = old} {mid = mid} {new = new} {was = was} {is = is} {from = from} {via = via} {pd = pd} {left = left} {step = step} {turn = turn} {posted = posted} a at laws before finds within one steps keeps count goes client few ready numbers =
    let tasks_are : mid.tasks ≡ old.tasks = ap (λ (s : Tasks T A). s.tasks) finds.2 in
    let stopped : mid.stage ≡ stage.GivenUp = ap (λ (s : Tasks T A). s.stage) finds.2 in
    let set_ : Tasks T A = record mid { tasks = with_item mid.tasks at is } in
    let on = rw (get_or-set_same mid.tasks.items at is is within) at goes in
    let k : (r : Request) → Taking m load are_cut is_of runs (told_by a from r) (m.waits was (awaited_as a)) (tells_error a) (tells_failure a) (weight_told a) (locked_told a) old set_ at was is from via pd left step = λ r. record {
      running = finds.0;
      led = λ x h. subst (λ y. route old.routes y ≡ Some at) (sym (heard_as a from r x h)) finds.1;
      taken = rw (heard_is a from r) finds.3;
      stopped = stopped;
      queue = ap (λ (s : Tasks T A). s.queue) finds.2;
      items = ap (λ xs. set xs at is) (ap (λ v. v.items) tasks_are);
      within = rw tasks_are at within;
      one = rw tasks_are at one;
      tells = steps.tells r;
      goes = steps.goes;
      hears = λ w. laws.lawful.runs was (awaited_as a) w;
      keeps = keeps;
      counts = steps.counts;
      room = before.room;
    } in
    record {
      tells = λ whole first r. Tells-event at whole first laws (k r) (ap (λ n. drop n via.sends) count) on;
      goes = Goes-event set_ (drop posted via.sends) (runs is) at (awaited_as a) finds.0 finds.1 stopped on;
      counts = λ whole first. Counts-event (drop posted via.sends) at whole first laws (worse a) (k members) on;
      client = λ r. IfKept-weaker turn (λ s. took at (set old.tasks.items at is ++ s.0) left (record { old = was; new = is; more = s.0; within = rw tasks_are at within; is = rw tasks_are at one; tasks = refl; client = steps.client r }) (rw tasks_are at s.1)) client;
      few = few;
      ready = ready;
      numbers = numbers;
    }
