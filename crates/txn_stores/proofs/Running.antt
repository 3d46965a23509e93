-- A task that runs, and one that begins.
use Rattle.std.proofs.Common.{◌≡◌, ℕ, ◌≤◌, Bool, true, false, List, refl, sym, subst, ◌∙◌}
use Rattle.std.proofs.Math.Nat.{le_refl, le_trans}
use Rattle.std.specs.Prelude.{⊤, Option, Result}
use Rattle.std.proofs.lemmas.Bool.{false≢true}
use Rattle.txn_history.proofs.Arriving.{worse}
use Rattle.txn_history.proofs.Telling.{SameJob-refl}
use Rattle.txn_history.specs.Arrivals.{arrives, awaited_as}
use Rattle.txn_history.specs.Event.{Event}
use Rattle.txn_history.specs.Meaning.{started, Counts, Goes, IsLawful, IsUnbegun, Meaning, Tells, Told}
use Rattle.txn_history.specs.Moves.{SameJob, SameJob-trans}
use Rattle.txn_history.specs.Phase.{Awaited}
use Rattle.txn_history.specs.Phase.Phase.{Fresh, Running}
use Rattle.txn_history.specs.Posted.{HasNumbers, Posted}
use Rattle.txn_history.specs.Steps.{begins, Steps}
use Rattle.txn_history.specs.Turn.{Turn}
use Rattle.txn_kv.specs.ErrorView.{ErrorView}
use Rattle.txn_kv.specs.declared.arrival.Arrival.{Arrival}
use Rattle.txn_kv.specs.declared.errors.Error.{Error}
use Rattle.txn_kv.specs.declared.message.RegionErr.{RegionErr}
use Rattle.txn_stores.proofs.Tasking.{after_call, follows_next, stands, Task-counts, Task-goes, Task-ready, Task-tells}
use Rattle.txn_stores.specs.Settling.{Follows}
use Rattle.txn_stores.specs.StoreTask.{stage_phase, stage_waits, store_task, IsCopy, StageFits, StageReady, TaskFits, TaskReady}
use Rattle.txn_stores.specs.declared.stage.Stage.{Stage}
use Rattle.txn_stores.specs.declared.stage.Stage.TheVariants as stage
use Rattle.txn_stores.specs.declared.store_task.StoreTask.{StoreTask}
use Rattle.txn_tasks.specs.declared.step.Step.{Step}
use Rattle.txn_tso.specs.Calling.{members}

-- its plan is under way

copied : {S A : Type 0} (m : Meaning S A) (t : StoreTask S) → t.stage ≡ stage.Running → TaskReady m t → IsCopy m t.plan t.job
copied m t at r = subst (λ (g : Stage). StageReady m t g) at r.at

fitted : {S R : Type 0} (m : Meaning S (Result R Error)) (t : StoreTask S) (o : Posted) (h : List Event) → t.stage ≡ stage.Running → TaskFits m t o h → m.fits t.plan o h
fitted m t o h at f = (subst (λ (g : Stage). StageFits m t g o h) at f.at).0

Run-tells : {S R C : Type 0} (m : Meaning S (Result R Error)) (keys : R → List ErrorView) (region : R → Option RegionErr) {told : Told} {meant : Type 0}
    (old new : StoreTask S) (plan : S) {from via to : Posted} {pd pd' : C} (p : Turn (Result R Error)) {turn : Turn (Step (StoreTask S) R)}
    → old.stage ≡ stage.Running
    → TaskReady m old
    → Goes m.phase meant old.plan plan from via pd pd' p
    → Tells m told old.plan plan from via p
    → Follows m keys region p (after_call old plan old.stage) new via to turn
    → Tells (store_task m keys region) told old new from to turn
Run-tells m keys region old new plan {from = from} p at r goes tells f =
    let copy = copied m old at r in
    Task-tells p (λ h k. fitted m old from h at k) copy.same (λ a w. rw at w) at (stands copy.runs goes) tells f

Run-goes : {S R C : Type 0} (m : Meaning S (Result R Error)) (keys : R → List ErrorView) (region : R → Option RegionErr) (a : Awaited)
    (old new : StoreTask S) (plan : S) {from via to : Posted} {pd pd' : C} (p : Turn (Result R Error)) {turn : Turn (Step (StoreTask S) R)}
    → old.stage ≡ stage.Running
    → TaskReady m old
    → Goes m.phase (m.waits old.plan a) old.plan plan from via pd pd' p
    → Follows m keys region p (after_call old plan old.stage) new via to turn
    → Goes (store_task m keys region).phase (stage_waits (m.waits old.plan) old.stage a) old new from to pd pd' turn
Run-goes m keys region a old new plan p at r goes f = let copy = copied m old at r in Task-goes a p at copy.runs goes f

Run-counts : {S R : Type 0} (m : Meaning S (Result R Error)) (keys : R → List ErrorView) (region : R → Option RegionErr) {bad fails : Bool} {weight locked : ℕ}
    (old new : StoreTask S) (plan : S) {from via to : Posted} (p : Turn (Result R Error)) {turn : Turn (Step (StoreTask S) R)}
    → (fails ≡ true → bad ≡ true)
    → old.stage ≡ stage.Running
    → TaskReady m old
    → Counts m bad fails weight locked old.plan plan from via p
    → Follows m keys region p (after_call old plan old.stage) new via to turn
    → Counts (store_task m keys region) bad fails weight locked old new from to turn
Run-counts m keys region old new plan p worse at r counts f =
    let copy = copied m old at r in
    Task-counts p worse (λ n. rw at (le_refl _)) (λ w b. rw at at b) copy.less at counts f

Run-ready : {S R C : Type 0} (m : Meaning S (Result R Error)) (keys : R → List ErrorView) (region : R → Option RegionErr) {told : Told} {meant : Type 0} {bad fails : Bool} {weight locked : ℕ}
    (old new : StoreTask S) (plan : S) {from via to : Posted} {pd pd' : C} (p : Turn (Result R Error)) {turn : Turn (Step (StoreTask S) R)}
    → old.stage ≡ stage.Running
    → TaskReady m old
    → Goes m.phase meant old.plan plan from via pd pd' p
    → Tells m told old.plan plan from via p
    → Counts m bad fails weight locked old.plan plan from via p
    → m.ready plan
    → Follows m keys region p (after_call old plan old.stage) new via to turn
    → TaskReady m new
Run-ready m keys region old new plan p at r goes tells counts ready f =
    let copy = copied m old at r in
    Task-ready plan old.stage p r ready (SameJob-trans tells.job copy.same) (λ n. le_trans (counts.fewer n) (copy.less n)) at (stands copy.runs goes) f

-- what came is told to its plan
pub Run-steps : {S R C : Type 0} (m : Meaning S (Result R Error)) (keys : R → List ErrorView) (region : R → Option RegionErr) {touches : Told → Posted → S → S → C → C → Type 0}
    (a : Arrival) {old new : StoreTask S} {plan : S} {from via to : Posted} {pd pd' : C} (p : Turn (Result R Error)) {turn : Turn (Step (StoreTask S) R)}
    → old.stage ≡ stage.Running
    → TaskReady m old
    → Steps m touches (arrives a from) old.plan plan from via pd pd' p
    → Follows m keys region p (after_call old plan old.stage) new via to turn
    → HasNumbers to
    → Steps (store_task m keys region) (λ told o s t x y. ⊤) (arrives a from) old new from to pd pd' turn
unfolding arrives
Run-steps m keys region a {old = old} {new = new} {plan = plan} p at r s f numbers = record {
  tells = λ q. Run-tells m keys region old new plan p at r s.goes (s.tells q) f;
  goes = Run-goes m keys region (awaited_as a) old new plan p at r s.goes f;
  counts = Run-counts m keys region old new plan p (worse a) at r s.counts f;
  client = λ q. tt;
  ready = Run-ready m keys region old new plan p at r s.goes (s.tells members) s.counts s.ready f;
  numbers = numbers;
}

-- it begins

begun : {S A : Type 0} (m : Meaning S A) (t : StoreTask S) → t.stage ≡ stage.Fresh → TaskReady m t → t.plan ≡ t.job
begun m t at r = subst (λ (g : Stage). StageReady m t g) at r.at

fresh : {S A : Type 0} (m : Meaning S A) (t : StoreTask S) → t.stage ≡ stage.Fresh → TaskReady m t → IsUnbegun m t.plan
fresh m t at r = subst (λ x. IsUnbegun m x) (sym (begun m t at r)) r.unbegun

same_copy : {S A : Type 0} (m : Meaning S A) (x y : S) → x ≡ y → SameJob m.asks m.gives x y
same_copy m x y e = rw e SameJob-refl

waits_nothing : {S A : Type 0} (m : Meaning S A) → IsLawful m → (s : S) (a : Awaited) → m.phase s ≡ Fresh → m.waits s a → ⊥
waits_nothing m law s a e w = let k : Fresh ≡ Running = sym e ∙ law.runs s a w in cc

pub Start-tells : {S R C : Type 0} (m : Meaning S (Result R Error)) (keys : R → List ErrorView) (region : R → Option RegionErr) {touches : Told → Posted → S → S → C → C → Type 0} → IsLawful m
    → (old new : StoreTask S) (plan : S) {from via to : Posted} {pd pd' : C} (p : Turn (Result R Error)) {turn : Turn (Step (StoreTask S) R)}
    → old.stage ≡ stage.Fresh
    → TaskReady m old
    → Steps m touches begins old.plan plan from via pd pd' p
    → Follows m keys region p (after_call old plan stage.Running) new via to turn
    → Tells (store_task m keys region) started old new from to turn
unfolding begins
Start-tells m keys region law old new plan {from = from} p at r s f =
    let unbegun = fresh m old at r in
    Task-tells p (λ h k. unbegun.fits from h) (same_copy m old.plan old.job (begun m old at r)) (λ a w. absurd (waits_nothing m law old.plan a unbegun.phase w)) refl (s.goes.next unbegun.phase) (s.tells members) f

pub Start-counts : {S R C : Type 0} (m : Meaning S (Result R Error)) (keys : R → List ErrorView) (region : R → Option RegionErr) {touches : Told → Posted → S → S → C → C → Type 0}
    (old new : StoreTask S) (plan : S) {from via to : Posted} {pd pd' : C} (p : Turn (Result R Error)) {turn : Turn (Step (StoreTask S) R)}
    → old.stage ≡ stage.Fresh
    → TaskReady m old
    → Steps m touches begins old.plan plan from via pd pd' p
    → Follows m keys region p (after_call old plan stage.Running) new via to turn
    → Counts (store_task m keys region) false false 0 0 old new from to turn
unfolding begins
Start-counts m keys region old new plan p at r s f =
    let unbegun = fresh m old at r in
    let same = begun m old at r in
    Task-counts p (λ e. absurd (false≢true e)) (λ n. rw at (subst (λ x. m.left old.plan n ≤ m.round x n) same (unbegun.whole n))) (λ w b. unbegun.light w) (λ n. rw same (le_refl _)) refl s.counts f

pub Start-ready : {S R C : Type 0} (m : Meaning S (Result R Error)) (keys : R → List ErrorView) (region : R → Option RegionErr) {touches : Told → Posted → S → S → C → C → Type 0}
    (old new : StoreTask S) (plan : S) {from via to : Posted} {pd pd' : C} (p : Turn (Result R Error)) {turn : Turn (Step (StoreTask S) R)}
    → old.stage ≡ stage.Fresh
    → TaskReady m old
    → Steps m touches begins old.plan plan from via pd pd' p
    → Follows m keys region p (after_call old plan stage.Running) new via to turn
    → TaskReady m new
unfolding begins
Start-ready m keys region old new plan p at r s f =
    let unbegun = fresh m old at r in
    let same = begun m old at r in
    let told = s.tells members in
    Task-ready plan stage.Running p r s.ready (SameJob-trans told.job (same_copy m old.plan old.job same)) (λ n. subst (λ x. m.round plan n ≤ m.round x n) same (s.counts.fewer n)) refl (s.goes.next unbegun.phase) f

pub Start-goes : {S R C : Type 0} (m : Meaning S (Result R Error)) (keys : R → List ErrorView) (region : R → Option RegionErr)
    (old new : StoreTask S) (plan : S) {from via to : Posted} {pd pd' : C} (p : Turn (Result R Error)) {turn : Turn (Step (StoreTask S) R)}
    → old.stage ≡ stage.Fresh
    → Follows m keys region p (after_call old plan stage.Running) new via to turn
    → Goes (store_task m keys region).phase (stage_phase old.stage ≡ Fresh) old new from to pd pd' turn
Start-goes m keys region old new plan p at f =
    let meant : stage_phase old.stage ≡ Fresh = rw at refl in record {
      deaf = λ other. absurd (other meant);
      state = λ other. absurd (other meant);
      outbox = λ other. absurd (other meant);
      client = λ other. absurd (other meant);
      next = λ this. follows_next p refl f;
    }
