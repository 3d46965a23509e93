-- One of two states that answer differently, by what each of them means.
use Rattle.std.specs.Prelude.{◌≡◌, ◌≤◌, ℕ, Bool, ◌&&◌, List, Result, Ok, Err}
use Rattle.txn_kv.specs.declared.errors.Error.{Error}
use Rattle.txn_kv.specs.declared.progress.Progress.{Progress}
use Rattle.txn_kv.specs.declared.progress.Progress.TheVariants.{Waiting, Done}
use Rattle.txn_history.specs.Event.{Event}
use Rattle.txn_history.specs.Later.{IsLater}
use Rattle.txn_history.specs.Meaning.{IsLawful, IsUnbegun, Meaning, WasPosted}
use Rattle.txn_history.specs.Phase.{Awaited}
use Rattle.txn_history.specs.Phase.Phase.{Running}
use Rattle.txn_history.specs.Posted.{Posted, Within}
use Rattle.txn_routine.specs.Way.{IsLevel}
use Rattle.txn_routine.specs.declared.one_of.OneOf.{OneOf}
use Rattle.txn_routine.specs.declared.one_of.OneOf.TheVariants.{First, Second}

-- what is so of the one, or of the other
abbrev pub one_is : {S T : Type 0} → (S → Type 0) → (T → Type 0) → OneOf S T → Type 0
one_is f g (First s) = f s
one_is f g (Second t) = g t

abbrev pub one_value : {S T X : Type 0} → (S → X) → (T → X) → OneOf S T → X
one_value f g (First s) = f s
one_value f g (Second t) = g t

-- what the one, or the other, makes of the client: a state stays of its kind
abbrev pub one_of_touches : {S T : Type 0} → (S → S → Type 0) → (T → T → Type 0) → OneOf S T → OneOf S T → Type 0
one_of_touches f g (First old) (First new) = f old new
one_of_touches f g (Second old) (Second new) = g old new
one_of_touches f g _ _ = ⊥

-- What is so of an answer, which is one of the first, or of the second, or an error.

abbrev pub of_first : {A B : Type 0} → (Result A Error → Type 0) → Result (OneOf A B) Error → Type 0
of_first f (Ok (First a)) = f (Ok a)
of_first f (Ok (Second b)) = ⊥
of_first f (Err e) = f (Err e)

abbrev pub of_second : {A B : Type 0} → (Result B Error → Type 0) → Result (OneOf A B) Error → Type 0
of_second f (Ok (First a)) = ⊥
of_second f (Ok (Second b)) = f (Ok b)
of_second f (Err e) = f (Err e)

-- An error is one that a new run may better where it is that for both.
abbrev pub one_fails : {A B : Type 0} → (Result A Error → Bool) → (Result B Error → Bool) → Result (OneOf A B) Error → Bool
one_fails f g (Ok (First a)) = f (Ok a)
one_fails f g (Ok (Second b)) = g (Ok b)
one_fails f g (Err e) = f (Err e) && g (Err e)

abbrev pub one_of : {S T A B : Type 0} → Meaning S (Result A Error) → Meaning T (Result B Error) → Meaning (OneOf S T) (Result (OneOf A B) Error)
one_of m n = record {
  fits = λ s o h. one_is (λ s. m.fits s o h) (λ s. n.fits s o h) s;
  asks = λ s h r. one_is (λ s. m.asks s h r) (λ s. n.asks s h r) s;
  gives = λ s h v. one_is (λ s. of_first (m.gives s h) v) (λ s. of_second (n.gives s h) v) s;
  phase = λ s. one_value (λ s. m.phase s) (λ s. n.phase s) s;
  waits = λ s a. one_is (λ s. m.waits s a) (λ s. n.waits s a) s;
  ready = λ s. one_is (λ s. m.ready s) (λ s. n.ready s) s;
  round = λ s k. one_value (λ s. m.round s k) (λ s. n.round s k) s;
  left = λ s k. one_value (λ s. m.left s k) (λ s. n.left s k) s;
  width = λ s. one_value (λ s. m.width s) (λ s. n.width s) s;
  bears = λ s w. one_is (λ s. m.bears s w) (λ s. n.bears s w) s;
  fails = λ v. one_fails m.fails n.fails v;
}

-- what an event of the one answers, as an answer of one of the two

abbrev pub answer_first : {A B : Type 0} → Result A Error → Result (OneOf A B) Error
answer_first (Ok a) = Ok (First a)
answer_first (Err e) = Err e

abbrev pub answer_second : {A B : Type 0} → Result B Error → Result (OneOf A B) Error
answer_second (Ok b) = Ok (Second b)
answer_second (Err e) = Err e

abbrev pub progress_first : {A B : Type 0} → Progress A → Progress (OneOf A B)
progress_first Waiting = Waiting
progress_first (Done v) = Done (answer_first v)

abbrev pub progress_second : {A B : Type 0} → Progress B → Progress (OneOf A B)
progress_second Waiting = Waiting
progress_second (Done v) = Done (answer_second v)

-- lemmas

pub first_longer : {A B : Type 0} (f g : Result A Error → Type 0) (v : Result (OneOf A B) Error) → ((a : Result A Error) → f a → g a) → of_first f v → of_first g v
first_longer f g (Ok (First a)) w i = w (Ok a) i
first_longer f g (Ok (Second b)) w i = absurd i
first_longer f g (Err e) w i = w (Err e) i

pub second_longer : {A B : Type 0} (f g : Result B Error → Type 0) (v : Result (OneOf A B) Error) → ((b : Result B Error) → f b → g b) → of_second f v → of_second g v
second_longer f g (Ok (First a)) w i = absurd i
second_longer f g (Ok (Second b)) w i = w (Ok b) i
second_longer f g (Err e) w i = w (Err e) i

module _ {S T A B : Type 0} (m : Meaning S (Result A Error)) (n : Meaning T (Result B Error)) (p : IsLawful m) (q : IsLawful n) where
  longer : (s : OneOf S T) (o later : Posted) (h long : List Event) → IsLater o later → Within h long → (one_of m n).fits s o h → (one_of m n).fits s later long
  longer (First s) o later h long l w f = p.fits_longer s o later h long l w f
  longer (Second s) o later h long l w f = q.fits_longer s o later h long l w f

  given : (s : OneOf S T) (h long : List Event) (v : Result (OneOf A B) Error) → Within h long → (one_of m n).gives s h v → (one_of m n).gives s long v
  given (First s) h long v w g = first_longer (m.gives s h) (m.gives s long) v (λ a i. p.gives_longer s h long a w i) g
  given (Second s) h long v w g = second_longer (n.gives s h) (n.gives s long) v (λ b i. q.gives_longer s h long b w i) g

  heavier : (s : OneOf S T) (w more : ℕ) → w ≤ more → (one_of m n).bears s w → (one_of m n).bears s more
  heavier (First s) w more l b = p.bears_more s w more l b
  heavier (Second s) w more l b = q.bears_more s w more l b

  running : (s : OneOf S T) (a : Awaited) → (one_of m n).waits s a → (one_of m n).phase s ≡ Running
  running (First s) a w = p.runs s a w
  running (Second s) a w = q.runs s a w

  waiting : (s : OneOf S T) (o : Posted) (h : List Event) → (one_of m n).fits s o h → (one_of m n).phase s ≡ Running → (a : Awaited) × (one_of m n).waits s a
  waiting (First s) o h f e = p.waits s o h f e
  waiting (Second s) o h f e = q.waits s o h f e

  was : (s : OneOf S T) (o : Posted) (h : List Event) (a : Awaited) → (one_of m n).fits s o h → (one_of m n).waits s a → WasPosted o h a
  was (First s) o h a f w = p.posted s o h a f w
  was (Second s) o h a f w = q.posted s o h a f w

  pub one_of-lawful : IsLawful (one_of m n)
  one_of-lawful = record {
    fits_longer = longer;
    gives_longer = given;
    bears_more = heavier;
    runs = running;
    waits = waiting;
    posted = was;
  }

-- one that is not begun

pub first_unbegun : {S T A B : Type 0} (m : Meaning S (Result A Error)) (n : Meaning T (Result B Error)) (s : S) → IsUnbegun m s → IsUnbegun (one_of m n) (First s)
first_unbegun m n s u = record { phase = u.phase; fits = u.fits; whole = u.whole; light = u.light }

pub second_unbegun : {S T A B : Type 0} (m : Meaning S (Result A Error)) (n : Meaning T (Result B Error)) (t : T) → IsUnbegun n t → IsUnbegun (one_of m n) (Second t)
second_unbegun m n t u = record { phase = u.phase; fits = u.fits; whole = u.whole; light = u.light }

-- what both cost is level

module _ {S T A B : Type 0} (m : Meaning S (Result A Error)) (n : Meaning T (Result B Error)) (p : IsLevel m) (q : IsLevel n) where
  level_left : (s : OneOf S T) (i k : ℕ) → 1 ≤ i → 1 ≤ k → (one_of m n).left s i ≡ (one_of m n).left s k
  level_left (First s) i k a b = p.left s i k a b
  level_left (Second s) i k a b = q.left s i k a b

  level_round : (s : OneOf S T) (i k : ℕ) → 1 ≤ i → 1 ≤ k → (one_of m n).round s i ≡ (one_of m n).round s k
  level_round (First s) i k a b = p.round s i k a b
  level_round (Second s) i k a b = q.round s i k a b

  pub one_of-level : IsLevel (one_of m n)
  one_of-level = record { left = level_left; round = level_round }
