use Rattle.std.proofs.Common.{sym, ap, ◌∙◌}
use Rattle.txn_merge.specs.KeyErrors.{no_pair_errors, views_of_pairs}
use Rattle.txn_merge.proofs.taking.take_pair_errors.Goals as goal

pub returns-then-not-has_error-clause-left : goal.returns-then-not-has_error-clause-left
returns-then-not-has_error-clause-left c =
    sym (no_pair_errors c.args.pairs.now (ap views_of_pairs (sym c.as_slice.ensures) ∙ c.has_error.ensures c.if-not-has_error.true))
