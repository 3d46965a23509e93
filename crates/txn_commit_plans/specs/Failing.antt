-- What an error of a plan rests on.
use Rattle.std.specs.Prelude.{◌≡◌, ℕ, List, Result, Err}
use Rattle.std.proofs.Common.{subst}
use Rattle.txn_causes.specs.Causes.{HasCause}
use Rattle.txn_causes.specs.Heard.{heard_in}
use Rattle.txn_causes.specs.Spent.{IsSpent}
use Rattle.txn_commit.specs.Ways.{Ways}
use Rattle.txn_history.specs.Event.{Event}
use Rattle.txn_history.specs.Meaning.{IsLawful, Meaning}
use Rattle.txn_history.specs.Posted.{Within}
use Rattle.txn_kv.specs.ErrorView.{view_of}
use Rattle.txn_kv.specs.declared.errors.Error.{Error}
use Rattle.txn_merge.specs.declared.retry_options.RetryOptions.{RetryOptions}
use Rattle.txn_multi.specs.Task.{attempts_left}

-- some plan of the kind that has these options answers the error after this history
abbrev pub HasGivenWith : {S A X : Type 0} → Meaning S (Result A Error) → (S → X) → X → List Event → Error → Type 0
HasGivenWith {S} m options_of options h e = (plan : S) × (options_of plan ≡ options) × m.gives plan h (Err e)

-- the backoff for regions is spent that these options have
abbrev pub IsSpentBy : RetryOptions → List Event → Type 0
IsSpentBy options h = IsSpent (heard_in h) (attempts_left options.region_backoff)

-- Each error that a plan of the kind answers has its cause in what was heard. The backoff for its regions has so many attempts.
abbrev pub FailsForCauses : {S A : Type 0} → Meaning S (Result A Error) → (S → ℕ) → Type 0
FailsForCauses {S} m attempts = (plan : S) (h : List Event) (e : Error) → m.gives plan h (Err e) → HasCause (heard_in h) (IsSpent (heard_in h) (attempts plan)) (view_of e)

-- so it is of the errors of all plans of a type, whatever options they are made with
pub record AreCaused {P : Type 0} (w : Ways P) : Type 0 where
  pub unwritten : (options : RetryOptions) (h : List Event) (e : Error) → w.unwritten options h e → HasCause (heard_in h) (IsSpentBy options h) (view_of e)
  pub uncommitted : (options : RetryOptions) (h : List Event) (e : Error) → w.uncommitted options h e → HasCause (heard_in h) (IsSpentBy options h) (view_of e)
  pub unrolled : (options : RetryOptions) (h : List Event) (e : Error) → w.unrolled options h e → HasCause (heard_in h) (IsSpentBy options h) (view_of e)

-- lemmas

pub has_given_longer : {S A X : Type 0} (m : Meaning S (Result A Error)) (options_of : S → X) → IsLawful m → (options : X) (h longer : List Event) (e : Error) → Within h longer → HasGivenWith m options_of options h e → HasGivenWith m options_of options longer e
has_given_longer m options_of law options h longer e w g = (g.0, g.1, law.gives_longer g.0 h longer (Err e) w g.2)

-- that of the plan is the one of the options
pub given_caused : {S A : Type 0} (m : Meaning S (Result A Error)) (options_of : S → RetryOptions) → FailsForCauses m (λ plan. attempts_left (options_of plan).region_backoff) → (options : RetryOptions) (h : List Event) (e : Error) → HasGivenWith m options_of options h e → HasCause (heard_in h) (IsSpentBy options h) (view_of e)
given_caused m options_of causes options h e g = subst (λ (o : RetryOptions). HasCause (heard_in h) (IsSpentBy o h) (view_of e)) g.1 (causes g.0 h e g.2)
