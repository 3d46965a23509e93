-- A plan of which only that it was done is of interest.
use Rattle.std.specs.Prelude.{◌≡◌, ⊤, false, Result, Ok, Err}
use Rattle.txn_history.specs.Around.{around, around-lawful}
use Rattle.txn_history.specs.Meaning.{IsLawful, Meaning}
use Rattle.txn_kv.specs.declared.errors.Error.{Error}
use Rattle.txn_commit.specs.declared.fetched.Fetched.{Fetched}
use Rattle.txn_commit.specs.declared.fetched.Fetched.TheVariants.{Nothing}

-- the answer without its reply
abbrev pub IsDone : {A : Type 0} → Result A Error → Result Fetched Error → Type 0
IsDone (Ok v) b = b ≡ Ok Nothing
IsDone (Err e) b = b ≡ Err e

abbrev pub done : {S A : Type 0} → Meaning S (Result A Error) → Meaning S (Result Fetched Error)
done m = around m (λ p. p) (λ p. IsDone) (λ p. ⊤) (λ v. false)

pub done-lawful : {S A : Type 0} (m : Meaning S (Result A Error)) → IsLawful m → IsLawful (done m)
done-lawful m law = around-lawful m (λ p. p) (λ p. IsDone) (λ p. ⊤) (λ v. false) law
