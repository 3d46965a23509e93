-- The tries of a ResolveLock: the region of a key is looked up and asked, and after an error of the region it is tried again.
use Rattle.std.specs.Prelude.{◌≡◌, ◌⊎◌, ⊤, ℕ, ◌+◌, ◌*◌, ◌-◌, nat_lt, if◌then◌else◌, List, [], Option, Some, None, Result, Ok, Err, refl}
use Rattle.std.proofs.Common.{inl, inr}
use Rattle.txn_history.specs.Event.{Event}
use Rattle.txn_history.specs.Meaning.{Meaning}
use Rattle.txn_history.specs.Posted.{Within}
use Rattle.txn_history.specs.Replies.{IsWithoutError}
use Rattle.txn_kv.specs.Errors.{IsKeyError, IsRegionError}
use Rattle.txn_kv.specs.declared.errors.Error.{Error}
use Rattle.txn_kv.specs.declared.memory.NoMemory.{NoMemory}
use Rattle.txn_kv.specs.declared.message.Context.{Context}
use Rattle.txn_kv.specs.declared.message.KeyError as key_error
use Rattle.txn_kv.specs.declared.message.RegionErr.{RegionErr}
use Rattle.txn_kv.specs.declared.region.RegionVerId.{RegionVerId}
use Rattle.txn_kv.specs.declared.reply.Reply.TheVariants as reply
use Rattle.txn_kv.specs.declared.reply.locks.ResolveLockResponse.{ResolveLockResponse}
use Rattle.txn_kv.specs.declared.request.Request.{Request}
use Rattle.txn_kv.specs.declared.request.Request.TheVariants.{ResolveLock}
use Rattle.txn_kv.specs.declared.request.locks.ResolveLockRequest.{ResolveLockRequest}
use Rattle.txn_lock.specs.declared.resolve_tries.ResolveTries.{ResolveTries}
use Rattle.txn_multi.specs.Cutting.{IsPlacement}
use Rattle.txn_plan.specs.Dispatch.{dispatch, dispatch-lawful, unsent, IsReplied}
use Rattle.txn_plan.specs.declared.dispatch.Dispatch.{Dispatch}
use Rattle.txn_region.specs.Clients.{IsFoundAt}
use Rattle.txn_region.specs.declared.store.RegionStore.{RegionStore}
use Rattle.txn_routine.specs.OneOf.{of_first, of_second, one_of, one_of-level}
use Rattle.txn_routine.specs.RoutinePlan.{in_turn}
use Rattle.txn_routine.specs.Way.{IsLevel, IsWay, Way}
use Rattle.txn_routine.specs.declared.one_of.OneOf.{OneOf}
use Rattle.txn_routine.specs.declared.routine.Next.{Next}
use Rattle.txn_routine.specs.declared.routine.Next.TheVariants.{End}
use Rattle.txn_routine.specs.declared.routine_plan.RoutinePlan.{RoutinePlan}
use Rattle.txn_settle.specs.Search.{is_lost, searching, GivesPlace, IsUnplaced, IsUnplaced-longer}
use Rattle.txn_settle.specs.declared.key_search.KeySearch.{KeySearch}

-- What is asked.

-- each lock of a start in a region is committed at c, or rolled back for 0
abbrev pub resolving : ℕ → ℕ → Option Context → ResolveLockRequest
resolving start c at = record { context = at; start_version = start; commit_version = c; txn_infos = [] }

-- the context of a request for this region at this epoch
pub record IsContextOf (region : RegionVerId) (at : Context) : Type 0 where
  pub id : at.region_id ≡ region.id
  pub epoch : at.region_epoch ≡ Some (record { conf_ver = region.conf_ver; version = region.ver })

-- a request to the store of a region, which was not sent yet
pub record IsAimedFor (request : ResolveLockRequest) (store : RegionStore) (plan : Dispatch ResolveLockRequest ResolveLockResponse) (region : RegionVerId) : Type 0 where
  pub at : Context
  pub own : IsContextOf region at
  pub made : plan ≡ unsent (record request { context = Some at }) (Some store.store)

-- What has come.

-- this came of a request to the region
pub record IsRepliedFor (start c : ℕ) (region : RegionVerId) (h : List Event) (v : Result ResolveLockResponse Error) : Type 0 where
  pub at : Context
  pub own : IsContextOf region at
  pub given : IsReplied reply.ResolveLock (ResolveLock (resolving start c (Some at))) h v

-- the region replied without error
pub record IsSettled (start c : ℕ) (h : List Event) (region : RegionVerId) : Type 0 where
  pub answer : ResolveLockResponse
  pub replied : IsRepliedFor start c region h (Ok answer)
  pub fine : IsWithoutError (reply.ResolveLock answer)

-- the error that a reply has: one at a key comes before one of the region
abbrev pub IsErrorOf : ResolveLockResponse → Error → Type 0
IsErrorOf answer e =
    ((k : key_error.KeyError) × (answer.error ≡ Some k) × IsKeyError k e)
    ⊎ ((r : RegionErr) × (answer.error ≡ None) × (answer.region_error ≡ Some r) × IsRegionError r e)

-- the region replied with this error
pub record IsRefusedIn (start c : ℕ) (h : List Event) (e : Error) : Type 0 where
  pub region : RegionVerId
  pub answer : ResolveLockResponse
  pub replied : IsRepliedFor start c region h (Ok answer)
  pub error : IsErrorOf answer e

-- Why it is not known that the start is settled: its place was not found, a request was lost or was replied to in another kind, or
-- it was refused.
abbrev pub IsUnsettled : ℕ → ℕ → List Event → Error → Type 0
IsUnsettled start c h e =
    IsUnplaced h e ⊎ (((region : RegionVerId) × IsRepliedFor start c region h (Err e)) ⊎ IsRefusedIn start c h e)

-- The plans that run one after the other.

abbrev pub ResolveStep : Type 0
ResolveStep = OneOf (KeySearch RegionStore) (Dispatch ResolveLockRequest ResolveLockResponse)

abbrev pub StepAnswer : Type 0
StepAnswer = OneOf RegionStore ResolveLockResponse

abbrev pub IsStoreAt : List ℕ → RegionStore → Type 0
IsStoreAt key found = IsFoundAt key found.region_with_leader

abbrev pub resolve_step : Meaning ResolveStep (Result StepAnswer Error)
resolve_step = one_of (searching IsStoreAt) (dispatch ResolveLock reply.ResolveLock)

-- What the answer says of the plan that ran: a look-up, or a request to a region.
abbrev pub HearsAt : ResolveTries → Option RegionVerId → List Event → Result StepAnswer Error → Type 0
HearsAt s None h v = of_first (λ place. GivesPlace IsStoreAt s.key h place) v
HearsAt s (Some region) h v = of_second (λ answer. IsRepliedFor s.start_version s.commit_version region h answer) v

abbrev pub TriesAsk : ResolveTries → List Event → Request → Type 0
TriesAsk s h r = ((at : Option Context) × (r ≡ ResolveLock (resolving s.start_version s.commit_version at))) ⊎ IsPlacement h r

abbrev pub TriesGive : ResolveTries → List Event → Result RegionVerId Error → Type 0
TriesGive s h (Ok region) = IsSettled s.start_version s.commit_version h region
TriesGive s h (Err e) = IsUnsettled s.start_version s.commit_version h e

-- a request is left while its region is looked for
abbrev pub rest_at : Option RegionVerId → ℕ
rest_at None = 1
rest_at (Some region) = 0

-- so many of the ten tries are left
abbrev pub tries_left : ResolveTries → ℕ
tries_left s = 10 - s.tries

abbrev pub resolve_way : Way ResolveTries ResolveStep StepAnswer RegionVerId
resolve_way = record {
  fresh = λ s. (s.tries ≡ 0) × (s.asked ≡ None);
  ready = λ s. ⊤;
  knows = λ s h. ⊤;
  hears = λ s h v. HearsAt s s.asked h v;
  asks = λ s h r. TriesAsk s h r;
  gives = λ s h v. TriesGive s h v;
  round = λ s. 1;
  rest = λ s. rest_at s.asked;
  steps = λ s. 2 * tries_left s + rest_at s.asked;
  fails = is_lost;
}

-- it ends with the error of a region
abbrev pub IsEndWith : RegionErr → Result (Next ResolveStep RegionVerId) NoMemory → Type 0
IsEndWith r (Ok (End (Err e))) = IsRegionError r e
IsEndWith r _ = ⊥

-- another try may follow, at once
abbrev pub delay_left : ℕ → Option ℕ
delay_left tries = if nat_lt tries 10 then Some 0 else None

abbrev pub ResolvePlan : Type 0
ResolvePlan = RoutinePlan ResolveTries ResolveStep RegionVerId StepAnswer

abbrev pub resolve_plan : Meaning ResolvePlan (Result RegionVerId Error)
resolve_plan = in_turn resolve_step resolve_way

-- lemmas

pub resolve_level : IsLevel resolve_step
resolve_level = one_of-level (searching IsStoreAt) (dispatch ResolveLock reply.ResolveLock) (record { left = λ s n k a b. refl; round = λ s n k a b. refl }) (record { left = λ s n k a b. refl; round = λ s n k a b. refl })

replied_longer : (start c : ℕ) (region : RegionVerId) (h longer : List Event) (v : Result ResolveLockResponse Error) → Within h longer → IsRepliedFor start c region h v → IsRepliedFor start c region longer v
replied_longer start c region h longer v w r =
    let law = dispatch-lawful ResolveLock reply.ResolveLock in
    record { at = r.at; own = r.own; given = law.gives_longer (asked r.at) h longer v w r.given }
  where
    asked : Context → Dispatch ResolveLockRequest ResolveLockResponse
    asked at = unsent (resolving start c (Some at)) None

gives_longer : (s : ResolveTries) (h longer : List Event) (v : Result RegionVerId Error) → Within h longer → TriesGive s h v → TriesGive s longer v
gives_longer s h longer (Ok region) w g = record { answer = g.answer; replied = replied_longer s.start_version s.commit_version region h longer (Ok g.answer) w g.replied; fine = g.fine }
gives_longer s h longer (Err e) w (inl u) = inl (IsUnplaced-longer h longer e w u)
gives_longer s h longer (Err e) w (inr (inl r)) = inr (inl (r.0, replied_longer s.start_version s.commit_version r.0 h longer (Err e) w r.1))
gives_longer s h longer (Err e) w (inr (inr r)) =
    inr (inr (record { region = r.region; answer = r.answer; replied = replied_longer s.start_version s.commit_version r.region h longer (Ok r.answer) w r.replied; error = r.error }))

pub resolve_way-lawful : IsWay resolve_way
resolve_way-lawful = record {
  knows_longer = λ s h longer w k. tt;
  gives_longer = λ s h longer v w g. gives_longer s h longer v w g;
}
