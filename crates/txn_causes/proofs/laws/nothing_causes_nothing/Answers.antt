use Rattle.std.specs.Prelude.{⊤}
use Rattle.txn_causes.specs.Causes.{is_starved}
use Rattle.txn_causes.proofs.laws.nothing_causes_nothing.Goals as goal

pub returns : goal.returns
returns c = λ error k. is_starved (λ x i. i) ⊤ error k
