-- One of two states that answer alike, by what each of them means.
use Rattle.std.specs.Prelude.{◌≡◌, ◌≤◌, ℕ, List, false}
use Rattle.txn_history.specs.Event.{Event}
use Rattle.txn_history.specs.Later.{IsLater}
use Rattle.txn_history.specs.Meaning.{IsLawful, IsUnbegun, Meaning, WasPosted}
use Rattle.txn_history.specs.Phase.{Awaited}
use Rattle.txn_history.specs.Phase.Phase.{Running}
use Rattle.txn_history.specs.Posted.{Posted, Within}
use Rattle.txn_either.specs.declared.either.Either.{Either}
use Rattle.txn_either.specs.declared.either.Either.TheVariants.{First, Second}

-- what is so of the one, or of the other
abbrev pub either_is : {S T : Type 0} → (S → Type 0) → (T → Type 0) → Either S T → Type 0
either_is f g (First s) = f s
either_is f g (Second t) = g t

abbrev pub either_value : {S T X : Type 0} → (S → X) → (T → X) → Either S T → X
either_value f g (First s) = f s
either_value f g (Second t) = g t

-- what the one, or the other, makes of the client: a state stays of its kind
abbrev pub either_touches : {S T : Type 0} → (S → S → Type 0) → (T → T → Type 0) → Either S T → Either S T → Type 0
either_touches f g (First old) (First new) = f old new
either_touches f g (Second old) (Second new) = g old new
either_touches f g _ _ = ⊥

-- No answer of it is one that a new run may better: nobody runs it again.
abbrev pub either : {S T A : Type 0} → Meaning S A → Meaning T A → Meaning (Either S T) A
either m n = record {
  fits = λ s o h. either_is (λ s. m.fits s o h) (λ s. n.fits s o h) s;
  asks = λ s h r. either_is (λ s. m.asks s h r) (λ s. n.asks s h r) s;
  gives = λ s h v. either_is (λ s. m.gives s h v) (λ s. n.gives s h v) s;
  phase = λ s. either_value (λ s. m.phase s) (λ s. n.phase s) s;
  waits = λ s a. either_is (λ s. m.waits s a) (λ s. n.waits s a) s;
  ready = λ s. either_is (λ s. m.ready s) (λ s. n.ready s) s;
  round = λ s k. either_value (λ s. m.round s k) (λ s. n.round s k) s;
  left = λ s k. either_value (λ s. m.left s k) (λ s. n.left s k) s;
  width = λ s. either_value (λ s. m.width s) (λ s. n.width s) s;
  bears = λ s w. either_is (λ s. m.bears s w) (λ s. n.bears s w) s;
  fails = λ v. false;
}

-- lemmas

module _ {S T A : Type 0} (m : Meaning S A) (n : Meaning T A) (p : IsLawful m) (q : IsLawful n) where
  longer : (s : Either S T) (o later : Posted) (h long : List Event) → IsLater o later → Within h long → (either m n).fits s o h → (either m n).fits s later long
  longer (First s) o later h long l w f = p.fits_longer s o later h long l w f
  longer (Second s) o later h long l w f = q.fits_longer s o later h long l w f

  given : (s : Either S T) (h long : List Event) (v : A) → Within h long → (either m n).gives s h v → (either m n).gives s long v
  given (First s) h long v w g = p.gives_longer s h long v w g
  given (Second s) h long v w g = q.gives_longer s h long v w g

  heavier : (s : Either S T) (w more : ℕ) → w ≤ more → (either m n).bears s w → (either m n).bears s more
  heavier (First s) w more l b = p.bears_more s w more l b
  heavier (Second s) w more l b = q.bears_more s w more l b

  running : (s : Either S T) (a : Awaited) → (either m n).waits s a → (either m n).phase s ≡ Running
  running (First s) a w = p.runs s a w
  running (Second s) a w = q.runs s a w

  waiting : (s : Either S T) (o : Posted) (h : List Event) → (either m n).fits s o h → (either m n).phase s ≡ Running → (a : Awaited) × (either m n).waits s a
  waiting (First s) o h f e = p.waits s o h f e
  waiting (Second s) o h f e = q.waits s o h f e

  was : (s : Either S T) (o : Posted) (h : List Event) (a : Awaited) → (either m n).fits s o h → (either m n).waits s a → WasPosted o h a
  was (First s) o h a f w = p.posted s o h a f w
  was (Second s) o h a f w = q.posted s o h a f w

  pub either-lawful : IsLawful (either m n)
  either-lawful = record {
    fits_longer = longer;
    gives_longer = given;
    bears_more = heavier;
    runs = running;
    waits = waiting;
    posted = was;
  }

-- one that is not begun

pub first_unbegun : {S T A : Type 0} (m : Meaning S A) (n : Meaning T A) (s : S) → IsUnbegun m s → IsUnbegun (either m n) (First s)
first_unbegun m n s u = record { phase = u.phase; fits = u.fits; whole = u.whole; light = u.light }

pub second_unbegun : {S T A : Type 0} (m : Meaning S A) (n : Meaning T A) (t : T) → IsUnbegun n t → IsUnbegun (either m n) (Second t)
second_unbegun m n t u = record { phase = u.phase; fits = u.fits; whole = u.whole; light = u.light }
