use Rattle.std.proofs.Common.{sym, ◌∙◌}
use Rattle.txn_kv.proofs.flat_map_ok.FlatMapOkIterExt.flat_map_ok.Goals as goal

pub returns-clause-runs : goal.returns-clause-runs
returns-clause-runs g c = λ given seen is.
    let found = c.flatten.ensures.runs given seen is in (found.0, found.1 ∙ sym c.flatten.ensures.source, found.2)
