use Rattle.std.proofs.Common.{◌∙◌, ap}
use Rattle.std.specs.List.{filter_map}
use Rattle.std.proofs.lemmas.Result.{on_ok_weaker}
use Rattle.txn_merge.proofs.Vecs.{with_items-same}
use Rattle.txn_merge.proofs.has_region_errors.VecHasRegionErrors.region_errors.Goals as goal

pub returns-clause-left : goal.returns-clause-left
returns-clause-left g c =
    on_ok_weaker c.all_errors.result
    (λ same none. with_items-same c.args.self.now c.all_errors.new.items (same (ap (filter_map g.T.HasRegionError.region_error_in) c.as_mut_slice.ensures.value ∙ none) ∙ c.as_mut_slice.ensures.value))
    c.all_errors.ensures.left
