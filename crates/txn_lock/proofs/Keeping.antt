-- A decision that is known, call by call.
use Rattle.std.proofs.Common.{◌≡◌, Bool, true, false, refl, ap}
use Rattle.std.proofs.Math.Nat.{le_refl}
use Rattle.std.proofs.lemmas.Bool.{false≢true}
use Rattle.std.specs.Prelude.{Result, Ok}
use Rattle.txn_history.proofs.Arriving.{Steps-deaf}
use Rattle.txn_history.proofs.Stepping.{Counts-quiet, Goes-meant, Steps-idle}
use Rattle.txn_history.proofs.Telling.{Tells-quiet}
use Rattle.txn_history.specs.Arrivals.{arrives}
use Rattle.txn_history.specs.Phase.{unheard}
use Rattle.txn_history.specs.Phase.Phase.{Fresh}
use Rattle.txn_history.specs.Posted.{HasNumbers, Posted}
use Rattle.txn_history.specs.Steps.{begins, Steps}
use Rattle.txn_history.specs.Turn.Turn.{Ends, Waits}
use Rattle.txn_kv.specs.declared.arrival.Arrival.{Arrival}
use Rattle.txn_kv.specs.declared.errors.Error.{Error}
use Rattle.txn_lock.specs.Deciding.{kept_phase, kept_plan, kept_plan-lawful}
use Rattle.txn_lock.specs.declared.kept.Kept.{Kept}
use Rattle.txn_lock.specs.declared.verdict.Verdict.{Verdict}
use Rattle.txn_lock.specs.declared.verdict.Verdict.TheVariants.{Version}

waits_on : (begun : Bool) → Waits ≡ unheard {A = Result Verdict Error} (kept_phase begun)
waits_on false = refl
waits_on true = refl

not_fresh : (begun : Bool) → begun ≡ true → kept_phase begun ≡ Fresh → ⊥
not_fresh false e p = absurd (false≢true e)
not_fresh true e p = cc

-- it answers
pub kept_begins : {C : Type 0} {old : Kept} {o : Posted} {pd : C} → old.begun ≡ false → HasNumbers o
    → Steps kept_plan (λ told from s t x y. y ≡ x) begins old (record old { begun = true }) o o pd pd (Ends (Ok (Version old.commit_version)))
unfolding begins
kept_begins e numbers = record {
  tells = λ r. Tells-quiet (λ h f. tt) (λ h f. refl) (record { asked = λ h r x. x; given = λ h v g. g; gave = λ h v g. g }) (λ a w. absurd w);
  goes = Goes-meant (ap kept_phase e) refl;
  counts = Counts-quiet refl (λ w b. tt) (λ n. le_refl 0) (λ n. le_refl 0) (λ f. absurd (false≢true f));
  client = λ r. refl;
  ready = tt;
  numbers = numbers;
}

-- it has answered before
pub kept_begun : {C : Type 0} {old : Kept} {o : Posted} {pd : C} → old.begun ≡ true → HasNumbers o
    → Steps kept_plan (λ told from s t x y. y ≡ x) begins old old o o pd pd Waits
unfolding begins
kept_begun {old = old} e numbers = Steps-idle kept_plan-lawful (not_fresh old.begun e) (λ r a heard w. w) (waits_on old.begun) (λ r. refl) tt numbers

-- nothing that comes is for it
pub kept_deaf : {C : Type 0} (a : Arrival) {s : Kept} {o : Posted} {pd : C} → HasNumbers o
    → Steps kept_plan (λ told from s t x y. y ≡ x) (arrives a o) s s o o pd pd Waits
kept_deaf a {s = s} numbers = Steps-deaf a kept_plan-lawful (λ w. w) (waits_on s.begun) (λ r. refl) tt numbers
