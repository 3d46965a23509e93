use Rattle.std.proofs.Common.{◌≡◌, drop}
use Rattle.std.specs.Prelude.{is_none}
use Rattle.std.specs.List.{list_all}
use Rattle.txn_model.specs.Prewrite.{kind_of}
use Rattle.txn_model.proofs.bounds.are_checks.Given as goal

abbrev pub invariant-loop-mutation : goal.invariant-loop-mutation
invariant-loop-mutation l = list_all (λ m. is_none (kind_of m.op)) (drop l.mutation-index l.mutations) ≡ list_all (λ m. is_none (kind_of m.op)) l.mutations
