-- What became of a lock's start, as it is known or as its primary tells.
use Rattle.std.specs.Prelude.{◌≡◌, ◌⊎◌, ⊤, ◌≤◌, ℕ, Bool, true, false, ◌&&◌, List, Option, Some, None, Result, Ok, Err}
use Rattle.std.proofs.Common.{subst, sym}
use Rattle.txn_either.specs.Either.{either, either-lawful}
use Rattle.txn_either.specs.declared.either.Either.{Either}
use Rattle.txn_history.specs.Event.{Event}
use Rattle.txn_history.specs.Foreign.{IsForeign}
use Rattle.txn_history.specs.Meaning.{IsLawful, IsUnbegun, Meaning}
use Rattle.txn_history.specs.Phase.{IsRunning, Phase}
use Rattle.txn_history.specs.Phase.Phase.{Fresh, Over, Running}
use Rattle.txn_kv.specs.declared.errors.Error.{Error}
use Rattle.txn_kv.specs.ErrorView.{view_of, ErrorView, ErrorViews}
use Rattle.txn_kv.specs.ErrorView.ErrorView.{key, multiple}
use Rattle.txn_kv.specs.ErrorView.ErrorViews.{more, none}
use Rattle.txn_kv.specs.declared.message.KeyError.{KeyError}
use Rattle.txn_kv.specs.declared.message.KeyError.TheVariants.{PrimaryMismatch}
use Rattle.txn_kv.specs.declared.message.LockInfo.{LockInfo}
use Rattle.txn_kv.specs.declared.message.Op.TheVariants.{PessimisticLock}
use Rattle.txn_kv.specs.declared.request.Request.{Request}
use Rattle.txn_kv.specs.declared.request.Request.TheVariants.{Cleanup}
use Rattle.txn_kv.specs.declared.request.locks.CleanupRequest.{CleanupRequest}
use Rattle.txn_lock.specs.Plans.{cleanup_plan, cleanup_plan-lawful, CleanupPlan}
use Rattle.txn_lock.specs.Settling.{IsCleanupOf, IsDecided, IsUndecided}
use Rattle.txn_lock.specs.declared.kept.Kept.{Kept}
use Rattle.txn_lock.specs.declared.ruling.Ruling.{Ruling}
use Rattle.txn_lock.specs.declared.verdict.Verdict.{Verdict}
use Rattle.txn_lock.specs.declared.verdict.Verdict.TheVariants.{Mismatch, Version}
use Rattle.txn_multi.specs.Cutting.{IsPlacement}
use Rattle.txn_plan.specs.Process.{processed, processed-lawful}
use Rattle.txn_plan.specs.declared.process_response.ProcessResponse.{ProcessResponse}
use Rattle.txn_settle.specs.Requests.{WasSeen}

abbrev pub IsPessimistic : LockInfo → Type 0
IsPessimistic lock = lock.lock_type ≡ PessimisticLock

-- the error says that the key is not the primary of its start, and nothing else

abbrev pub tells_mismatch : KeyError → Bool
tells_mismatch (PrimaryMismatch lock) = true
tells_mismatch _ = false

abbrev pub is_key_mismatch : ErrorView → Bool
is_key_mismatch (key error) = tells_mismatch error
is_key_mismatch _ = false

abbrev pub is_one_mismatch : ErrorViews → Bool
is_one_mismatch none = false
is_one_mismatch (more error none) = is_key_mismatch error
is_one_mismatch (more error (more other errors)) = false

abbrev pub is_mismatch : ErrorView → Bool
is_mismatch (multiple errors) = is_one_mismatch errors
is_mismatch _ = false

-- the commit version that was answered; a mismatch is an answer for a pessimistic lock, and each other error stays as it is
abbrev pub IsRuled : Bool → Result ℕ Error → Result Verdict Error → Type 0
IsRuled pessimistic (Ok c) v = v ≡ Ok (Version c)
IsRuled pessimistic (Err e) (Ok v) = (v ≡ Mismatch) × (pessimistic ≡ true) × (is_mismatch (view_of e) ≡ true)
IsRuled pessimistic (Err e) (Err why) = (why ≡ e) × ((pessimistic && is_mismatch (view_of e)) ≡ false)

-- A version that is known is the answer, and nothing is asked.

abbrev pub kept_phase : Bool → Phase
kept_phase false = Fresh
kept_phase true = Over

abbrev pub kept_plan : Meaning Kept (Result Verdict Error)
kept_plan = record {
  fits = λ s o h. ⊤;
  asks = λ s h r. ⊥;
  gives = λ s h v. v ≡ Ok (Version s.commit_version);
  phase = λ s. kept_phase s.begun;
  waits = λ s a. ⊥;
  ready = λ s. ⊤;
  round = λ s n. 0;
  left = λ s n. 0;
  width = λ s. 0;
  bears = λ s w. ⊤;
  fails = λ v. false;
}

-- the primary is asked

abbrev pub AskedPlan : Type 0
AskedPlan = ProcessResponse CleanupPlan Ruling ℕ Verdict

abbrev pub asked_plan : Meaning AskedPlan (Result Verdict Error)
asked_plan = processed cleanup_plan (λ (ruling : Ruling) input result. IsRuled ruling.pessimistic input result)

-- one of the two

abbrev pub DecisionPlan : Type 0
DecisionPlan = Either Kept AskedPlan

abbrev pub decision_plan : Meaning DecisionPlan (Result Verdict Error)
decision_plan = either kept_plan asked_plan

-- A plan that decides on the lock and is not begun, where this was known of its start and primary.
pub record IsDecision (lock : LockInfo) (known : Option ℕ) (p : DecisionPlan) : Type 0 where
  pub unbegun : IsUnbegun decision_plan p
  pub ready : decision_plan.ready p
  pub light : (n : ℕ) → decision_plan.round p n ≤ 1
  -- what is known is the answer, and nothing is asked
  pub silent : (c : ℕ) → known ≡ Some c → (h : List Event) (r : Request) → decision_plan.asks p h r → ⊥
  pub kept : (c : ℕ) → known ≡ Some c → (h : List Event) (v : Result Verdict Error) → decision_plan.gives p h v → v ≡ Ok (Version c)
  -- else its primary is asked, with its licence once the lock was seen
  pub asks : (h : List Event) (r : Request) → decision_plan.asks p h r → ((q : CleanupRequest) × IsCleanupOf lock q × (r ≡ Cleanup q)) ⊎ IsPlacement h r
  pub licensed : (h : List Event) (r : Request) → WasSeen h lock → decision_plan.asks p h r → IsForeign h r
  pub means : known ≡ None → (h : List Event) (c : ℕ) → decision_plan.gives p h (Ok (Version c)) → IsDecided h lock c
  -- and this is told of a pessimistic lock alone
  pub mismatch : (h : List Event) → decision_plan.gives p h (Ok Mismatch) → IsPessimistic lock × ((e : Error) × (is_mismatch (view_of e) ≡ true) × IsUndecided h lock e)
  pub fails : (h : List Event) (e : Error) → decision_plan.gives p h (Err e) → IsUndecided h lock e × (IsPessimistic lock → is_mismatch (view_of e) ≡ false)

-- lemmas

never_runs : (begun : Bool) → kept_phase begun ≡ Running → ⊥
never_runs false e = subst IsRunning (sym e) tt
never_runs true e = subst IsRunning (sym e) tt

pub kept_plan-lawful : IsLawful kept_plan
kept_plan-lawful = record {
  fits_longer = λ s o p h longer l w f. tt;
  gives_longer = λ s h longer v w g. g;
  bears_more = λ s w more l b. tt;
  runs = λ s a w. absurd w;
  waits = λ s o h f e. absurd (never_runs s.begun e);
  posted = λ s o h a f w. absurd w;
}

pub decision_plan-lawful : IsLawful decision_plan
decision_plan-lawful = either-lawful kept_plan asked_plan kept_plan-lawful (processed-lawful cleanup_plan (λ (ruling : Ruling) input result. IsRuled ruling.pessimistic input result) cleanup_plan-lawful)
