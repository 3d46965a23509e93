-- A call of a plan that is refused for locks is one of the plan.
use Rattle.std.proofs.Common.{◌≡◌, Bool, true, ap, inl, inr}
use Rattle.std.proofs.lemmas.Bool.{false≢true}
use Rattle.std.specs.Prelude.{⊤, List, Result, Ok, Err}
use Rattle.txn_kv.specs.declared.errors.Error.{Error}
use Rattle.txn_kv.specs.declared.errors.Error.TheVariants.{OutOfMemory, ResolveLockError}
use Rattle.txn_kv.specs.declared.message.LockInfo.{LockInfo}
use Rattle.txn_history.specs.Around.{IsRead}
use Rattle.txn_history.specs.Meaning.{Meaning, Told}
use Rattle.txn_history.specs.Posted.{Posted}
use Rattle.txn_history.specs.Steps.{News, Steps}
use Rattle.txn_history.specs.Turn.{Turn}
use Rattle.txn_history.proofs.Stepping.{Steps-around}
use Rattle.txn_resolve.specs.Unlocked.{error_fails, unlocked, unlocked_fails, IsRefusedFor, IsUnlocked, LocksOr}
use Rattle.txn_resolve.specs.declared.resolve_lock.ResolveLock.{ResolveLock}

-- an answer that is tried again comes of one of the plan that is
same_error : {A : Type 0} (fails : Result A Error → Bool) (e : Error) → error_fails fails e ≡ true → fails (Err e) ≡ true
same_error fails OutOfMemory f = absurd (false≢true f)
same_error fails (ResolveLockError named) f = absurd (false≢true f)
same_error fails e f = f

refused_for_good : {A : Type 0} (fails : Result A Error → Bool) (found : List LockInfo) (e : Error) → IsRefusedFor found e → error_fails fails e ≡ true → ⊥
refused_for_good fails found (ResolveLockError named) r f = false≢true f
refused_for_good fails found _ r f = absurd r

locks_or_fails : {A : Type 0} (fails : Result A Error → Bool) (found : List LockInfo) (reply : A) (b : Result A Error)
    → LocksOr found reply b → unlocked_fails fails b ≡ true → fails (Ok reply) ≡ true
locks_or_fails fails found reply (Ok out) l f = rw l.1 at f
locks_or_fails fails found reply (Err e) l f = absurd (refused_for_good fails found e l.1 f)

fails_with : {A : Type 0} (fails : Result A Error → Bool) (locks_in : A → List LockInfo) (a b : Result A Error) → IsUnlocked locks_in a b → unlocked_fails fails b ≡ true → fails a ≡ true
fails_with fails locks_in (Ok reply) b (inl e) f = absurd (false≢true (rw e at f))
fails_with fails locks_in (Ok reply) b (inr l) f = locks_or_fails fails (locks_in reply) reply b l f
fails_with fails locks_in (Err error) b p f = same_error fails error (rw p at f)

pub steps : {S A C : Type 0} (m : Meaning S (Result A Error)) (locks_in : A → List LockInfo)
    {touches : Told → Posted → S → S → C → C → Type 0} {news : News} {old : ResolveLock S A} {new : S} {from to : Posted} {pd pd' : C} {turn : Turn (Result A Error)} {turn' : Turn (Result A Error)}
    → IsRead (IsUnlocked locks_in) turn turn'
    → Steps m touches news old.inner new from to pd pd' turn
    → Steps (unlocked m locks_in) (λ told o s t x y. touches told o s.inner t.inner x y) news old (record old { inner = new }) from to pd pd' turn'
steps {S} m locks_in {touches = touches} {old = old} i s = Steps-around m (λ s. s.inner) (λ s. IsUnlocked locks_in) (λ s. ⊤) (unlocked_fails m.fails) touches (record {
  given = λ a b r. r;
  gave = λ a b r. r;
  same = ap (λ (s : S). record old { inner = s });
  passes = fails_with m.fails locks_in;
  called = tt;
}) i s
