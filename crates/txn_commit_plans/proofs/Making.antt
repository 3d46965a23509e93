-- A plan of a request, made one of all kinds: without the replies of its answer, and as one of several.
use Rattle.std.proofs.Common.{◌≡◌, refl, subst, sym}
use Rattle.std.proofs.lemmas.Bool.{false≢true}
use Rattle.std.specs.Prelude.{⊤, ℕ, false, List, Result, Ok, Err}
use Rattle.txn_history.proofs.Stepping.{Steps-around}
use Rattle.txn_history.specs.Around.{IsRead, around-unbegun}
use Rattle.txn_history.specs.Event.{Event}
use Rattle.txn_history.specs.Meaning.{Meaning, Told}
use Rattle.txn_history.specs.Posted.{Posted}
use Rattle.txn_history.specs.Steps.{News, Steps}
use Rattle.txn_history.specs.Turn.{Turn}
use Rattle.txn_kv.specs.declared.errors.Error.{Error}
use Rattle.txn_kv.specs.declared.request.Request.{Request}
use Rattle.txn_commit.specs.Plans.{IsAnswered, IsPlanFor}
use Rattle.txn_commit.specs.declared.fetched.Fetched.{Fetched}
use Rattle.txn_either.specs.Either.{either, first_unbegun, second_unbegun}
use Rattle.txn_either.specs.declared.either.Either.TheVariants.{First, Second}
use Rattle.txn_commit_plans.specs.Done.{IsDone, done}

pub done_steps : {S A C : Type 0} (m : Meaning S (Result A Error))
    {touches : Told → Posted → S → S → C → C → Type 0} {news : News} {old new : S} {from to : Posted} {pd pd' : C} {turn : Turn (Result A Error)} {turn' : Turn (Result Fetched Error)}
    → IsRead IsDone turn turn'
    → Steps m touches news old new from to pd pd' turn
    → Steps (done m) (λ told o s t x y. touches told o s t x y) news old new from to pd pd' turn'
done_steps m {touches = touches} i s = Steps-around m (λ p. p) (λ p. IsDone) (λ p. ⊤) (λ v. false) touches (record {
  given = λ a b r. r;
  gave = λ a b r. r;
  same = λ e. e;
  passes = λ a b d f. absurd (false≢true f);
  called = tt;
}) i s

module _ {S A : Type 0} (m : Meaning S (Result A Error)) (refuses : List Event → Error → Type 0) (costs : ℕ → ℕ → ℕ) (request : Request) (p : S) where
  pub done_plan_for : IsPlanFor m refuses costs request p → IsPlanFor (done m) refuses costs request p
  done_plan_for x = record {
    unbegun = around-unbegun m (λ p. p) (λ p. IsDone) (λ p. ⊤) (λ v. false) p x.unbegun;
    ready = (x.ready, tt);
    light = x.light;
    asks = x.asks;
    means = λ h v g. means h v g.0 g.1 g.2;
    fails = λ h e g. fails h e g.0 g.1 g.2;
  }
    where
      means : (h : List Event) (v : Fetched) (a : Result A Error) → m.gives p h a → IsDone a (Ok v) → IsAnswered request h
      means h v (Ok w) g d = x.means h w g
      means h v (Err e) g d = cc

      fails : (h : List Event) (e : Error) (a : Result A Error) → m.gives p h a → IsDone a (Err e) → refuses h e
      fails h e (Ok w) g d = cc
      fails h e (Err why) g d = let same : why ≡ e = cc in subst (λ y. refuses h y) same (x.fails h why g)

module _ {S T A : Type 0} (m : Meaning S (Result A Error)) (n : Meaning T (Result A Error)) (refuses : List Event → Error → Type 0) (costs : ℕ → ℕ → ℕ) (request : Request) where
  pub first_plan_for : (p : S) → IsPlanFor m refuses costs request p → IsPlanFor (either m n) refuses costs request (First p)
  first_plan_for p x = record { unbegun = first_unbegun m n p x.unbegun; ready = x.ready; light = x.light; asks = x.asks; means = x.means; fails = x.fails }

  pub second_plan_for : (p : T) → IsPlanFor n refuses costs request p → IsPlanFor (either m n) refuses costs request (Second p)
  second_plan_for p x = record { unbegun = second_unbegun m n p x.unbegun; ready = x.ready; light = x.light; asks = x.asks; means = x.means; fails = x.fails }
