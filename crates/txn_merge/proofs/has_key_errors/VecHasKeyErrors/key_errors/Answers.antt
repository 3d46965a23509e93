use Rattle.std.proofs.Common.{◌∙◌, ap}
use Rattle.std.proofs.lemmas.Result.{on_ok_weaker}
use Rattle.txn_merge.specs.Firsts.{first_seen}
use Rattle.txn_merge.proofs.Vecs.{with_items-same}
use Rattle.txn_merge.proofs.has_key_errors.VecHasKeyErrors.key_errors.Goals as goal

pub returns-clause-left : goal.returns-clause-left
returns-clause-left g c =
    on_ok_weaker c.first_errors.result
    (λ same none. with_items-same c.args.self.now c.first_errors.new.items (same (ap (first_seen g.T.HasKeyErrors.key_errors_in) c.as_mut_slice.ensures.value ∙ none) ∙ c.as_mut_slice.ensures.value))
    c.first_errors.ensures.left
