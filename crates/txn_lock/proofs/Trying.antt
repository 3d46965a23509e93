-- The tries of a ResolveLock, step by step.
use Rattle.std.proofs.Common.{◌≡◌, ◌∙◌, inl, inr, ℕ, suc, zero, ◌<◌, ◌≤◌, false, List, Option, Some, None, ap, arith, refl, subst, sym}
use Rattle.std.proofs.Math.Nat.{le_refl}
use Rattle.std.proofs.lemmas.Bool.{false≢true}
use Rattle.std.specs.Prelude.{⊤, ◌⊎◌, is_some, OnOk, Result, Ok, Err}
use Rattle.txn_history.specs.Event.{Event}
use Rattle.txn_history.specs.Foreign.{IsForeign}
use Rattle.txn_history.specs.Meaning.{IsUnbegun}
use Rattle.txn_kv.specs.declared.errors.Error.{Error}
use Rattle.txn_kv.specs.declared.message.LockInfo.{LockInfo}
use Rattle.txn_kv.specs.declared.region.RegionVerId.{RegionVerId}
use Rattle.txn_kv.specs.declared.reply.Reply.TheVariants as reply
use Rattle.txn_kv.specs.declared.reply.locks.ResolveLockResponse.{ResolveLockResponse}
use Rattle.txn_kv.specs.declared.request.Request.TheVariants.{ResolveLock}
use Rattle.txn_kv.specs.declared.request.locks.ResolveLockRequest.{ResolveLockRequest}
use Rattle.txn_lock.specs.Resolving.{IsResolvePlan}
use Rattle.txn_lock.specs.Tries.{rest_at, resolve_plan, resolve_step, resolve_way, resolving, HearsAt, IsAimedFor, IsEndWith, IsRepliedFor, IsStoreAt, ResolvePlan, ResolveStep, StepAnswer}
use Rattle.txn_lock.specs.declared.resolve_tries.ResolveTries.{ResolveTries}
use Rattle.txn_lock.proofs.Deciding.{decided_settles}
use Rattle.txn_lock.proofs.Placing.{placed_foreign}
use Rattle.txn_plan.specs.Dispatch.{dispatch, unsent-unbegun, IsReplied}
use Rattle.txn_plan.specs.declared.dispatch.Dispatch.{Dispatch}
use Rattle.txn_region.specs.declared.store.RegionStore.{RegionStore}
use Rattle.txn_routine.specs.Next.{allowance, IsNext, Runs}
use Rattle.txn_routine.specs.declared.routine.Next.{Next}
use Rattle.txn_routine.specs.declared.routine.Next.TheVariants.{Run, End}
use Rattle.txn_kv.specs.declared.memory.NoMemory.{NoMemory}
use Rattle.txn_kv.specs.declared.message.RegionErr.{RegionErr}
use Rattle.txn_routine.specs.OneOf.{second_unbegun}
use Rattle.txn_routine.specs.declared.one_of.OneOf.TheVariants.{First, Second}
use Rattle.txn_settle.specs.Search.{searching}

below_or_not : (n k : ℕ) → (n < k) ⊎ (k ≤ n)
below_or_not zero zero = inr (omega arith)
below_or_not zero (suc k) = inl (omega arith)
below_or_not (suc n) zero = inr (omega arith)
below_or_not (suc n) (suc k) = elim (below_or_not n k) [ inl l ↦ inl (omega arith) | inr l ↦ inr (omega arith) ]

nothing : {X : Type 0} (o : Option X) → is_some o ≡ false → o ≡ None
nothing None e = refl
nothing (Some x) e = cc

pub no_other : {X : Type 0} (o : Option X) → ((x : X) → o ≡ Some x → ⊥) → o ≡ None
no_other None n = refl
no_other (Some x) n = absurd (n x refl)

-- it asks the region that was found
module _ (old : ResolveTries) (store : RegionStore) (region : RegionVerId) (request : ResolveLockRequest) (plan : Dispatch ResolveLockRequest ResolveLockResponse)
    (unasked : is_some old.asked ≡ false) (own : request ≡ resolving old.start_version old.commit_version request.context) (aimed : IsAimedFor request store plan region) where
  first : old.asked ≡ None
  first = nothing old.asked unasked

  sends : plan.request ≡ resolving old.start_version old.commit_version (Some aimed.at)
  sends = ap (λ (d : Dispatch ResolveLockRequest ResolveLockResponse). d.request) aimed.made ∙ ap (λ (q : ResolveLockRequest). record q { context = Some aimed.at }) own

  replied : (h : List Event) (v : Result ResolveLockResponse Error) → IsReplied reply.ResolveLock (ResolveLock plan.request) h v → IsRepliedFor old.start_version old.commit_version region h v
  replied h v g = record { at = aimed.at; own = aimed.own; given = subst (λ (q : ResolveLockRequest). IsReplied reply.ResolveLock (ResolveLock q) h v) sends g }

  says : (h : List Event) (v : Result StepAnswer Error) → resolve_step.gives (Second plan) h v → HearsAt old (Some region) h v
  says h (Ok (First a)) g = absurd g
  says h (Ok (Second b)) g = replied h (Ok b) g
  says h (Err e) g = replied h (Err e) g

  pub asks_region : {known : List Event → Type 0} → Runs resolve_way resolve_step known (rest_at old.asked) old (record old { asked = Some region }) (Second plan)
  asks_region = record {
    unbegun = second_unbegun (searching IsStoreAt) (dispatch ResolveLock reply.ResolveLock) plan (rw aimed.made (unsent-unbegun ResolveLock reply.ResolveLock (record request { context = Some aimed.at }) (Some store.store)));
    begins = rw aimed.made refl;
    serves = record {
      asks = λ h r k a. inl (Some aimed.at, a.1 ∙ ap (λ q. ResolveLock q) sends);
      says = λ h v k g. says h v g;
      less = λ n l. le_refl 1;
    };
    knows = λ h k. tt;
    ready = tt;
    costs = λ n l. rw first (le_refl 1);
    fewer = rw first (omega arith);
  }

-- It goes on after an error of the region: it is tried again, or ends with the error.
module _ (old new : ResolveTries) (region : RegionVerId) (answer : ResolveLockResponse) (r : RegionErr)
    (asked : old.asked ≡ Some region) (clean : answer.error ≡ None) (found : answer.region_error ≡ Some r) where
  abbrev Known : List Event → Type 0
  Known h = HearsAt old old.asked h (Ok (Second answer))

  again : (result : Result (Next ResolveStep RegionVerId) NoMemory) → IsNext resolve_way resolve_step (λ h. ⊤) 1 false old new result
      → IsNext resolve_way resolve_step Known (allowance resolve_way old (is_some answer.region_error)) (is_some answer.region_error) old new result
  again (Err e) i = tt
  again (Ok (Run p)) i = record {
    unbegun = i.unbegun;
    begins = i.begins;
    serves = i.serves;
    knows = λ h k. i.knows h tt;
    ready = i.ready;
    costs = λ n l. rw (found, asked) (i.costs n l);
    fewer = i.fewer;
  }
  again (Ok (End v)) i = record { given = λ h k. i.given h tt; fails = λ f. absurd (false≢true (i.fails f)) }

  ends : (result : Result (Next ResolveStep RegionVerId) NoMemory) → OnOk result (IsEndWith r result)
      → IsNext resolve_way resolve_step Known (allowance resolve_way old (is_some answer.region_error)) (is_some answer.region_error) old new result
  ends (Err e) i = tt
  ends (Ok (Run p)) i = absurd i
  ends (Ok (End (Ok a))) i = absurd i
  ends (Ok (End (Err e))) i = record {
    given = λ h k. inr (inr (record { region = region; answer = answer; replied = rw asked at k; error = inr (r, clean, found, i) }));
    fails = λ f. rw found refl;
  }

  pub goes_on : (result : Result (Next ResolveStep RegionVerId) NoMemory)
      → (10 ≤ old.tries → OnOk result (IsEndWith r result))
      → (old.tries < 10 → IsNext resolve_way resolve_step (λ h. ⊤) 1 false old new result)
      → IsNext resolve_way resolve_step Known (allowance resolve_way old (is_some answer.region_error)) (is_some answer.region_error) old new result
  goes_on result last left = elim (below_or_not old.tries 10) [ inl l ↦ again result (left l) | inr l ↦ ends result (last l) ]

-- the plan of a lock
pub made_resolve : (lock : LockInfo) (c : ℕ) (p : ResolvePlan) → p.routine.start_version ≡ lock.lock_version → p.routine.commit_version ≡ c → p.routine.key ≡ lock.key → p.routine.tries ≡ 0
    → IsUnbegun resolve_plan p → resolve_plan.ready p → IsResolvePlan lock c p
made_resolve lock c p start version key tries unbegun ready = record {
  unbegun = unbegun;
  ready = ready;
  light = λ n. le_refl 1;
  key = key;
  tries = tries;
  asks = λ h r a. rw (start, version) at a;
  licensed = λ h r seen prewrite decided a. elim (rw (start, version) at a) [ inl x ↦ subst (IsForeign h) (sym x.1) (decided_settles h lock c x.0 seen prewrite decided) | inr x ↦ placed_foreign h r x ];
  means = λ h region g. rw (start, version) at g;
  fails = λ h e g. rw (start, version) at g;
}
