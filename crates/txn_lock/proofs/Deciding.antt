-- The plan that decides on a lock.
use Rattle.std.proofs.Common.{◌≡◌, ℕ, Bool, true, false, List, [], ◌∷◌, length, map, Option, Some, None, refl, sym, ap, subst, ◌∙◌, arith}
use Rattle.std.proofs.Math.Nat.{le_refl}
use Rattle.std.proofs.lemmas.Bool.{false≢true}
use Rattle.std.specs.Bool.{MatchBool}
use Rattle.std.specs.Prelude.{◌&&◌, ⊤, Result, Ok, Err}
use Rattle.txn_either.specs.Either.{first_unbegun, second_unbegun}
use Rattle.txn_either.specs.declared.either.Either.TheVariants.{First, Second}
use Rattle.txn_history.specs.Around.{around-unbegun}
use Rattle.txn_history.specs.Event.{Event, Has}
use Rattle.txn_history.specs.Event.Event.{Took}
use Rattle.txn_history.specs.Decided.{IsPrewriteOp}
use Rattle.txn_history.specs.Foreign.{IsForeign}
use Rattle.txn_kv.specs.ErrorView.{listed, view_of}
use Rattle.txn_kv.specs.declared.errors.Error.{Error}
use Rattle.txn_kv.specs.declared.message.Context.{Context}
use Rattle.txn_kv.specs.declared.message.LockInfo.{LockInfo}
use Rattle.txn_kv.specs.declared.reply.Reply.TheVariants as reply
use Rattle.txn_kv.specs.declared.request.Request.TheVariants.{Cleanup, ResolveLock}
use Rattle.txn_kv.specs.declared.request.locks.CleanupRequest.{CleanupRequest}
use Rattle.txn_settle.proofs.Licensing.{resolve_licensed}
use Rattle.txn_settle.specs.Requests.{cleanup_of, resolve_of, WasSeen}
use Rattle.txn_lock.specs.Deciding.{asked_plan, is_mismatch, is_one_mismatch, kept_plan, AskedPlan, IsDecision, IsPessimistic, IsRuled}
use Rattle.txn_lock.specs.Plans.{cleanup_plan}
use Rattle.txn_lock.specs.Settling.{IsCleanupPlan, IsDecided, IsUndecided}
use Rattle.txn_lock.specs.declared.verdict.Verdict.{Verdict}
use Rattle.txn_lock.specs.declared.verdict.Verdict.TheVariants.{Mismatch, Version}

abbrev same_answer : Result Verdict Error → Result Verdict Error → Type 0
same_answer a b = a ≡ b

no_mismatch : (c : ℕ) → same_answer (Ok Mismatch) (Ok (Version c)) → ⊥
no_mismatch c e = cc

pub decision_kept : (lock : LockInfo) (known : Option ℕ) (c : ℕ) → known ≡ Some c → IsDecision lock known (First (record { commit_version = c; begun = false }))
decision_kept lock known c e = record {
  unbegun = first_unbegun kept_plan asked_plan (record { commit_version = c; begun = false }) (record { phase = refl; fits = λ o h. tt; whole = λ n. le_refl 0; light = λ w. tt });
  ready = tt;
  light = λ n. omega arith;
  silent = λ d f h r a. a;
  kept = λ d f h v g. let same : c ≡ d = the c d (sym e ∙ f) in g ∙ ap (λ (n : ℕ). Ok (Version n)) same;
  asks = λ h r a. absurd a;
  licensed = λ h r seen a. absurd a;
  means = λ f h d g. absurd (nothing c (sym e ∙ f));
  mismatch = λ h g. absurd (no_mismatch c g);
  fails = λ h why g. cc;
}
  where
    the : (a b : ℕ) → Some a ≡ Some b → a ≡ b
    the a b f = cc

    nothing : (a : ℕ) → Some a ≡ None → ⊥
    nothing a f = cc

module _ (lock : LockInfo) (p : AskedPlan) (is : IsCleanupPlan lock p.inner) (pessimistic : p.processor.pessimistic ≡ true → IsPessimistic lock) (other : IsPessimistic lock → p.processor.pessimistic ≡ true) where
  version_means : (h : List Event) (c : ℕ) (a : Result ℕ Error) → cleanup_plan.gives p.inner h a → IsRuled p.processor.pessimistic a (Ok (Version c)) → IsDecided h lock c
  version_means h c (Ok d) g r = let same : d ≡ c = cc in subst (IsDecided h lock) same (is.means h d g)
  version_means h c (Err e) g r = let never = r.0 in cc

  mismatch_means : (h : List Event) (a : Result ℕ Error) → cleanup_plan.gives p.inner h a → IsRuled p.processor.pessimistic a (Ok Mismatch) → IsPessimistic lock × ((e : Error) × (is_mismatch (view_of e) ≡ true) × IsUndecided h lock e)
  mismatch_means h (Ok d) g r = cc
  mismatch_means h (Err e) g r = (pessimistic r.1, (e, r.2, is.fails h e g))

  error_means : (h : List Event) (why : Error) (a : Result ℕ Error) → cleanup_plan.gives p.inner h a → IsRuled p.processor.pessimistic a (Err why) → IsUndecided h lock why × (IsPessimistic lock → is_mismatch (view_of why) ≡ false)
  error_means h why (Ok d) g r = cc
  error_means h why (Err e) g r = (subst (IsUndecided h lock) (sym r.0) (is.fails h e g), λ held. ap (λ (x : Error). is_mismatch (view_of x)) r.0 ∙ subst (λ (b : Bool). (b && is_mismatch (view_of e)) ≡ false) (other held) r.1)

  pub decision_asked : (known : Option ℕ) → known ≡ None → IsDecision lock known (Second p)
  decision_asked known e = record {
    unbegun = second_unbegun kept_plan asked_plan p (around-unbegun cleanup_plan (λ x. x.inner) (λ x input result. IsRuled x.processor.pessimistic input result) (λ x. ⊤) (λ b. false) p is.unbegun);
    ready = (is.ready, tt);
    light = is.light;
    silent = λ c f h r a. nothing c (sym e ∙ f);
    kept = λ c f h v g. absurd (nothing c (sym e ∙ f));
    asks = is.asks;
    licensed = is.licensed;
    means = λ f h c g. version_means h c g.0 g.1 g.2;
    mismatch = λ h g. mismatch_means h g.0 g.1 g.2;
    fails = λ h why g. error_means h why g.0 g.1 g.2;
  }
    where
      nothing : (a : ℕ) → None ≡ Some a → ⊥
      nothing a f = cc

-- what a test told

pub told_so : {P : Type 0} (b : Bool) → MatchBool b P (P → ⊥) → b ≡ true → P
told_so true m e = m
told_so false m e = absurd (false≢true e)

pub so_told : {P : Type 0} (b : Bool) → MatchBool b P (P → ⊥) → P → b ≡ true
so_told true m p = refl
so_told false m p = absurd (m p)

-- where there is not one error, it is no mismatch
pub not_one : (errors : List Error) → (length errors ≡ 1 → ⊥) → false ≡ is_one_mismatch (listed (map view_of errors))
not_one [] other = refl
not_one (e ∷ []) other = absurd (other refl)
not_one (e ∷ f ∷ errors) other = refl

-- what is decided of one lock

alike : (a b : LockInfo) (at : Option Context) → b.lock_version ≡ a.lock_version → b.primary_lock ≡ a.primary_lock → cleanup_of a at ≡ cleanup_of b at
alike a b at start primary = sym (rw (start, primary) refl)

pub decided_shared : (h : List Event) (a b : LockInfo) (c : ℕ) → b.lock_version ≡ a.lock_version → b.primary_lock ≡ a.primary_lock → IsDecided h a c → IsDecided h b c
decided_shared h a b c start primary d = record {
  ticket = d.ticket;
  at = d.at;
  answer = d.answer;
  taken = subst (λ (q : CleanupRequest). Has h (Took d.ticket (Cleanup q) (reply.Cleanup d.answer))) (alike a b d.at start primary) d.taken;
  fine = d.fine;
  version = d.version;
}

pub decided_settles : (h : List Event) (lock : LockInfo) (c : ℕ) (at : Option Context) → WasSeen h lock → IsPrewriteOp lock → IsDecided h lock c → IsForeign h (ResolveLock (resolve_of lock c at))
decided_settles h lock c at seen prewrite d = subst (λ (n : ℕ). IsForeign h (ResolveLock (resolve_of lock n at))) d.version (resolve_licensed h lock d.at at d.ticket d.answer seen prewrite d.taken d.fine)
